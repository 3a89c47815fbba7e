-- Which events are calls to an endpoint, the SAPI of that endpoint, and its call.
use Rattle.um_link.specs.lapdm_window.declared.Sapi.{Sapi}
use Rattle.um_link.specs.lapdm_window.declared.Sapi.TheVariants.{Zero, Three}
use Rattle.um_link.specs.lapdm_window.Calls.{Call, Opens, OpensWithoutInfo, SendsFillFrame}
use Rattle.um_link.specs.lapdm_link.Events.{Open, OpenBare, Ask, Deliver, Lose, Rival, endpoint_call_of}
use Rattle.um_link.specs.um_air.Air.{Event}

-- the event is a call to an endpoint
abbrev pub IsCallEvent : Event → Type 0
IsCallEvent (Deliver sender places) = ⊥
IsCallEvent (Lose sender) = ⊥
IsCallEvent (Rival info) = ⊥
IsCallEvent event = Unit {0}

-- the SAPI of the endpoint that the event calls. A terminal is asked for calls alone (`IsCallEvent`, and for the lines of `end`
-- `law_end_line_is_not_skipped`); what the other three events have in their place is never used
abbrev pub sapi_of_call_event : Event → Sapi
sapi_of_call_event (Open info) = Zero
sapi_of_call_event (OpenBare role) = Three
sapi_of_call_event (Ask role sapi request) = sapi
sapi_of_call_event (Deliver sender places) = Zero
sapi_of_call_event (Lose sender) = Zero
sapi_of_call_event (Rival info) = Zero

-- the endpoint call that the event requests
abbrev pub endpoint_call_in_event : Event → Call
endpoint_call_in_event (Open info) = Opens info
endpoint_call_in_event (OpenBare role) = OpensWithoutInfo
endpoint_call_in_event (Ask role sapi request) = endpoint_call_of request
endpoint_call_in_event (Deliver sender places) = SendsFillFrame
endpoint_call_in_event (Lose sender) = SendsFillFrame
endpoint_call_in_event (Rival info) = SendsFillFrame
