-- The `Endpoint` inside a `Network`. Mobile and network use the same endpoint type.
use Rattle.lapdm_end.specs.declared.ends.Endpoint.{Endpoint}
use Rattle.lapdm_network.specs.declared.network.Network.{Network}

-- the `Endpoint` inside the network
abbrev pub endpoint_of : Network → Endpoint
endpoint_of m = m.endpoint
