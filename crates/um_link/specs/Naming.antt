-- The specification's counterparts of the Rust events and answers.
use Rattle.std.specs.Prelude.{[], Result, Ok, Err}
use Rattle.um_air.specs.lapdm_window.Ends as R
use Rattle.um_air.specs.lapdm_window.Calls as K
use Rattle.um_air.specs.lapdm_window.declared.Refused.TheVariants as Q
use Rattle.um_air.specs.lapdm_link.Events as E
use Rattle.um_air.specs.Air as A
use Rattle.um_link.specs.declared.events.End.{End}
use Rattle.um_link.specs.declared.events.End.TheVariants as D
use Rattle.um_link.specs.declared.events.Call.{Call}
use Rattle.um_link.specs.declared.events.Call.TheVariants as C
use Rattle.um_link.specs.declared.events.Way.{Way}
use Rattle.um_link.specs.declared.events.Way.TheVariants.{Up, Down}
use Rattle.um_link.specs.declared.events.Air.{Air}
use Rattle.um_link.specs.declared.events.Air.TheVariants as V
use Rattle.um_link.specs.declared.events.Event.{Event}
use Rattle.um_link.specs.declared.events.Event.TheVariants as T
use Rattle.um_link.specs.declared.events.Who.{Who}
use Rattle.um_link.specs.declared.events.Who.TheVariants as W
use Rattle.um_link.specs.declared.events.No.{No}
use Rattle.um_link.specs.declared.events.No.TheVariants as N
use Rattle.um_link.specs.declared.events.Step.{Step}

-- converts a side, the Rust `End`, to the `Role` of the specification
abbrev pub spec_role_of : End → R.Role
spec_role_of D.Mobile = R.Mobile
spec_role_of D.Network = R.Network

-- the side whose frames travel in this direction
abbrev pub sender_of : Way → R.Role
sender_of Up = R.Mobile
sender_of Down = R.Network

-- converts a Rust `Call` to the `Request` of the specification
abbrev pub spec_request_of : Call → E.Request
spec_request_of (C.Send m) = E.Send m.now
spec_request_of (C.Unit m) = E.SendUi m.now
spec_request_of C.Close = E.Close
spec_request_of C.Timer = E.T200Expiry
spec_request_of C.Idle = E.Idle

-- converts a Rust `Call` to the endpoint call (`Call`) of the specification
abbrev pub endpoint_call_of : Call → K.Call
endpoint_call_of call = E.endpoint_call_of (spec_request_of call)

-- converts a Rust `Air` to an event of the specification: the oldest block from this side arrives, perhaps with inverted bits, or is lost
abbrev pub spec_radio_path_event : R.Role → Air → A.Event
spec_radio_path_event sender V.Deliver = E.Deliver sender []
spec_radio_path_event sender V.Lose = E.Lose sender
spec_radio_path_event sender (V.Flip places) = E.Deliver sender places.now

-- converts a Rust `Event` to the `Event` of the specification
abbrev pub spec_event_of : Event → A.Event
spec_event_of (T.Open info) = E.Open info.now
spec_event_of (T.OpenBare end) = E.OpenBare (spec_role_of end)
spec_event_of (T.End end sapi call) = E.Ask (spec_role_of end) sapi (spec_request_of call)
spec_event_of (T.Air way air) = spec_radio_path_event (sender_of way) air
spec_event_of (T.Rival info) = E.Rival info.now

-- converts the Rust `Who`, which tells who acted in an event, to the `Who` of the specification
abbrev pub spec_who_of : Who → E.Who
spec_who_of W.Mobile = E.BySide R.Mobile
spec_who_of W.Network = E.BySide R.Network
spec_who_of W.Rival = E.OtherMobile
spec_who_of W.Nobody = E.Nobody

-- converts a Rust `No`, the reason why an event is refused, to the `EventRefusal` of the specification
abbrev pub spec_event_refusal_of : No → E.EventRefusal
spec_event_refusal_of N.NotIdle = E.RefusedByEndpoint Q.NotIdle
spec_event_refusal_of N.NotOpen = E.RefusedByEndpoint Q.NotOpen
spec_event_refusal_of N.NotRunning = E.RefusedByEndpoint Q.NotRunning
spec_event_refusal_of N.Empty = E.RefusedByEndpoint Q.Empty
spec_event_refusal_of N.TooLong = E.RefusedByEndpoint Q.TooLong
spec_event_refusal_of N.Full = E.RefusedByEndpoint Q.Full
spec_event_refusal_of N.Nothing = E.Nothing
spec_event_refusal_of N.AirFull = E.AirFull

-- converts a Rust `Step`, the result of an event, to the `Step` of the specification
abbrev pub spec_step_of : Step → A.Step
spec_step_of s = record {
  who = spec_who_of s.who;
  sapi = s.sapi;
  received = s.received;
  frames = s.effects.frames;
  notices = s.effects.notices;
}

-- converts the Rust result of an event, a `Step` or a refusal, to the `Answer` of the specification
abbrev pub spec_answer_of : Result Step No → A.Answer
spec_answer_of (Ok s) = A.Accepts (spec_step_of s)
spec_answer_of (Err reason) = A.Refuses (spec_event_refusal_of reason)

-- the result of a call that writes its step into the caller's buffer: the contents of the buffer, or the error
abbrev pub result_with_step : {A : Type 0} → Result A No → Step → Result Step No
result_with_step (Ok done) step = Ok step
result_with_step (Err reason) step = Err reason
