-- The words in the output lines of `link` and `end` (this project's own rule).
use Rattle.std.specs.Prelude.{ℕ, List, [], codes}
use Rattle.um_link.specs.lapdm_window.declared.Sapi.{Sapi}
use Rattle.um_link.specs.lapdm_window.declared.Sapi.TheVariants.{Zero, Three}
use Rattle.um_link.specs.lapdm_window.declared.Reason.{Reason}
use Rattle.um_link.specs.lapdm_window.declared.Reason.TheVariants.{Contention, Failed, Refused, Released}
use Rattle.um_link.specs.lapdm_window.declared.Refused.TheVariants as Q
use Rattle.um_link.specs.lapdm_window.Ends.{Mobile, Network}
use Rattle.um_link.specs.lapdm_link.Events as E

-- the word for the party that acts: `mob`, `net`, `rival` for another mobile, or no word if nobody acts
abbrev pub actor_word : E.Who → List ℕ
actor_word (E.BySide Mobile) = codes "mob"
actor_word (E.BySide Network) = codes "net"
actor_word E.OtherMobile = codes "rival"
actor_word E.Nobody = []

-- the suffix of an endpoint's word: `3` for SAPI 3, nothing for SAPI 0
abbrev pub sapi_suffix : Sapi → List ℕ
sapi_suffix Zero = []
sapi_suffix Three = codes "3"

-- the word after `no`, for the reason why an event is refused
abbrev pub call_refusal_word : E.EventRefusal → List ℕ
call_refusal_word E.Nothing = codes "nothing"
call_refusal_word E.AirFull = codes "airfull"
call_refusal_word (E.RefusedByEndpoint Q.NotIdle) = codes "notidle"
call_refusal_word (E.RefusedByEndpoint Q.NotOpen) = codes "notopen"
call_refusal_word (E.RefusedByEndpoint Q.NotRunning) = codes "notrunning"
call_refusal_word (E.RefusedByEndpoint Q.Empty) = codes "empty"
call_refusal_word (E.RefusedByEndpoint Q.TooLong) = codes "toolong"
call_refusal_word (E.RefusedByEndpoint Q.Full) = codes "full"

-- the word for the reason why a link was closed
abbrev pub closing_reason_word : Reason → List ℕ
closing_reason_word Contention = codes "contention"
closing_reason_word Failed = codes "failed"
closing_reason_word Refused = codes "refused"
closing_reason_word Released = codes "released"
