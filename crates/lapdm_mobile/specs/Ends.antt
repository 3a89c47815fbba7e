-- The `Endpoint` inside a `Mobile`. Mobile and network use the same endpoint type.
use Rattle.lapdm_end.specs.declared.ends.Endpoint.{Endpoint}
use Rattle.lapdm_mobile.specs.declared.mobile.Mobile.{Mobile}

-- the `Endpoint` inside the mobile
abbrev pub endpoint_of : Mobile → Endpoint
endpoint_of m = m.endpoint
