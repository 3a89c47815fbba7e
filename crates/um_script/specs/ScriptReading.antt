-- The results of parsing the parts of a script line (used only inside the parsers).
use Rattle.std.specs.Prelude.{ℕ, nat_lt, Bool, true, false, not, List, [], ◌∷◌, map, Option, Some, None, Result, Ok, Err}
use Rattle.std.specs.Prelude.{if◌then◌else◌}
use Rattle.std.specs.List.{list_any}
use Rattle.std.specs.Str.Parse.{digits_value}
use Rattle.um_link.specs.lapdm_window.declared.Sapi.{Sapi}
use Rattle.um_link.specs.lapdm_window.declared.Sapi.TheVariants.{Zero, Three}
use Rattle.um_link.specs.lapdm_link.Events as E
use Rattle.um_link.specs.um_air.Air as A
use Rattle.um_lines.specs.declared.fault.LineFault.{LineFault}
use Rattle.um_lines.specs.declared.fault.LineFault.TheVariants.{Word, Digits, Length, Place, Twice}
use Rattle.um_lines.specs.Fields.{is_dash_or_hex, has_octet_count, octets_from_hex, is_decimal}
use Rattle.um_lines.specs.Forms.{has_repeated_number}
use Rattle.um_lines.specs.LinkForms as L
use Rattle.um_script.specs.declared.names.Actor.{Actor}
use Rattle.um_script.specs.declared.names.Actor.TheVariants as W
use Rattle.um_script.specs.declared.names.Request.{Request}
use Rattle.um_script.specs.declared.names.Request.TheVariants as Q
use Rattle.um_script.specs.declared.names.RadioAction.{RadioAction}
use Rattle.um_script.specs.declared.names.RadioAction.TheVariants as T
use Rattle.um_script.specs.Names.{link_endpoint_of, link_direction_of, actor_of_name, request_of_name, action_of_name}
use Rattle.um_script.specs.ScriptLines.{role_of, sapi_of, sender_of, call_event}

-- the result of parsing a line: an event, `None` for a skipped line, or the fault
abbrev pub EventOrFault : Type 0
EventOrFault = Result (Option A.Event) LineFault

-- the octets that a single word represents, or its first fault; no word, or more than one, is the fault `Word`
abbrev pub parsed_octets_word : (words : List (List ℕ)) → Result (List ℕ) LineFault
parsed_octets_word [] = Err Word
parsed_octets_word (w ∷ []) = if not (is_dash_or_hex w) then Err Digits else if not (has_octet_count 0 None w) then Err Length else Ok
    (octets_from_hex w)
parsed_octets_word (w ∷ other ∷ ws) = Err Word

abbrev pub is_index_above_591 : (word : List ℕ) → Bool
is_index_above_591 w = nat_lt 591 (digits_value 10 w)

-- the bit indices that the words represent, or the first fault
abbrev pub parsed_bit_indices : (words : List (List ℕ)) → Result (List ℕ) LineFault
parsed_bit_indices ws =
    if list_any (λ w. not (is_decimal w)) ws then Err Digits
    else if list_any is_index_above_591 ws then Err Place
    else if has_repeated_number (map (digits_value 10) ws) then Err Twice
    else Ok (map (digits_value 10) ws)

abbrev pub event_from_parsed_list : (List ℕ → A.Event) → Result (List ℕ) LineFault → EventOrFault
event_from_parsed_list make (Ok ns) = Ok (Some (make ns))
event_from_parsed_list make (Err fault) = Err fault

abbrev pub accepted_event : A.Event → EventOrFault
accepted_event event = Ok (Some event)

-- ---- the events for calls to an endpoint

abbrev pub is_sapi_3 : Sapi → Bool
is_sapi_3 Zero = false
is_sapi_3 Three = true

-- the event for a call without octets, such as `close`, or the fault `Word`
abbrev pub parsed_one_word_call : (endpoint : L.LinkEndpoint) (request : Option Request) → EventOrFault
parsed_one_word_call end (Some Q.Open) = if is_sapi_3 (sapi_of end) then accepted_event (E.OpenBare (role_of end)) else Err Word
parsed_one_word_call end (Some Q.Close) = accepted_event (call_event end E.Close)
parsed_one_word_call end (Some Q.Tick) = accepted_event (call_event end E.T200Expiry)
parsed_one_word_call end (Some Q.Idle) = if is_sapi_3 (sapi_of end) then Err Word else accepted_event (call_event end E.Idle)
parsed_one_word_call end request = Err Word

abbrev pub is_mobile_sapi_0 : L.LinkEndpoint → Bool
is_mobile_sapi_0 L.MobileSapi0 = true
is_mobile_sapi_0 end = false

-- the event for a call with octets, such as `send`, or the fault
abbrev pub parsed_octets_call : (endpoint : L.LinkEndpoint) (request : Option Request) (words : List (List ℕ)) → EventOrFault
parsed_octets_call end (Some Q.Open) ws = if is_mobile_sapi_0 end then event_from_parsed_list E.Open (parsed_octets_word ws) else Err Word
parsed_octets_call end (Some Q.Send) ws = event_from_parsed_list (λ m. call_event end (E.Send m)) (parsed_octets_word ws)
parsed_octets_call end (Some Q.Unit) ws = event_from_parsed_list (λ m. call_event end (E.SendUi m)) (parsed_octets_word ws)
parsed_octets_call end request ws = Err Word

abbrev pub parsed_layer3_call : (endpoint : L.LinkEndpoint) (words : List (List ℕ)) → EventOrFault
parsed_layer3_call end [] = Err Word
parsed_layer3_call end (verb ∷ []) = parsed_one_word_call end (request_of_name verb)
parsed_layer3_call end (verb ∷ w ∷ ws) = parsed_octets_call end (request_of_name verb) (w ∷ ws)

-- ---- the events for blocks on the radio path

abbrev pub parsed_deliver_or_lose : (way : L.Way) (action : Option RadioAction) → EventOrFault
parsed_deliver_or_lose way (Some T.Deliver) = accepted_event (E.Deliver (sender_of way) [])
parsed_deliver_or_lose way (Some T.Lose) = accepted_event (E.Lose (sender_of way))
parsed_deliver_or_lose way act = Err Word

abbrev pub parsed_bit_inversion : (way : L.Way) (action : Option RadioAction) (words : List (List ℕ)) → EventOrFault
parsed_bit_inversion way (Some T.Flip) ws = event_from_parsed_list (E.Deliver (sender_of way)) (parsed_bit_indices ws)
parsed_bit_inversion way act ws = Err Word

abbrev pub parsed_radio_event : (way : L.Way) (words : List (List ℕ)) → EventOrFault
parsed_radio_event way [] = Err Word
parsed_radio_event way (verb ∷ []) = parsed_deliver_or_lose way (action_of_name verb)
parsed_radio_event way (verb ∷ w ∷ ws) = parsed_bit_inversion way (action_of_name verb) (w ∷ ws)

-- ---- the events for whole lines

abbrev pub parsed_actor_line : (actor : Option Actor) (words : List (List ℕ)) → EventOrFault
parsed_actor_line None ws = Err Word
parsed_actor_line (Some (W.End end sapi)) ws = parsed_layer3_call (link_endpoint_of end sapi) ws
parsed_actor_line (Some (W.Way way)) ws = parsed_radio_event (link_direction_of way) ws
parsed_actor_line (Some W.Rival) ws = event_from_parsed_list E.Rival (parsed_octets_word ws)

-- the event that the words of a line describe, or their first fault
abbrev pub parsed_script_words : (words : List (List ℕ)) → EventOrFault
parsed_script_words [] = Err Word
parsed_script_words (name ∷ ws) = parsed_actor_line (actor_of_name name) ws
