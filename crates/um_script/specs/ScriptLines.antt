-- The meaning of the script lines of `link` (this project's own rule).
use Rattle.std.specs.Prelude.{ℕ, List, [], ◌∷◌, Option, Result, option_map}
use Rattle.um_link.specs.lapdm_window.declared.Sapi.{Sapi}
use Rattle.um_link.specs.lapdm_window.declared.Sapi.TheVariants.{Zero, Three}
use Rattle.um_link.specs.lapdm_window.Ends.{Role, Mobile, Network}
use Rattle.um_link.specs.lapdm_link.Events as E
use Rattle.um_link.specs.um_air.Air as A
use Rattle.um_lines.specs.Fields.{Value, Number, NumberList, BitIndex}
use Rattle.um_lines.specs.Forms.{LineMeans, never_misplaced, bit_indices_of_values}
use Rattle.um_lines.specs.LinkForms as L
use Rattle.um_lines.specs.LinkForms.{link_line_forms}
use Rattle.um_lines.specs.Meanings.{IsValueOfMeaning}
use Rattle.um_lines.specs.Reading.{parsed_line}
use Rattle.um_lines.specs.declared.fault.LineFault.{LineFault}

abbrev pub role_of : L.LinkEndpoint → Role
role_of L.MobileSapi0 = Mobile
role_of L.NetworkSapi0 = Network
role_of L.MobileSapi3 = Mobile
role_of L.NetworkSapi3 = Network

abbrev pub sapi_of : L.LinkEndpoint → Sapi
sapi_of L.MobileSapi0 = Zero
sapi_of L.NetworkSapi0 = Zero
sapi_of L.MobileSapi3 = Three
sapi_of L.NetworkSapi3 = Three

-- the side whose blocks travel in this direction: the mobile sends up, the network sends down
abbrev pub sender_of : L.Way → Role
sender_of L.Up = Mobile
sender_of L.Down = Network

-- the first list of octets among the values of a line, or no octets if there is none
abbrev pub octets_of_values : (values : List Value) → List ℕ
octets_of_values [] = []
octets_of_values (Number n ∷ values) = octets_of_values values
octets_of_values (NumberList octets ∷ values) = octets
octets_of_values (BitIndex n ∷ values) = octets_of_values values

-- the event in which layer 3 makes this call to this endpoint, or its T200 expires
abbrev pub call_event : L.LinkEndpoint → E.Request → A.Event
call_event end request = E.Ask (role_of end) (sapi_of end) request

-- the event that a script line of this kind with these values describes
abbrev pub event_of_values : (kind : L.LinkLineKind) (values : List Value) → A.Event
event_of_values L.Open values = E.Open (octets_of_values values)
event_of_values (L.OpenBare end) values = E.OpenBare (role_of end)
event_of_values (L.Send end) values = call_event end (E.Send (octets_of_values values))
event_of_values (L.UnitData end) values = call_event end (E.SendUi (octets_of_values values))
event_of_values (L.Close end) values = call_event end E.Close
event_of_values (L.Tick end) values = call_event end E.T200Expiry
event_of_values (L.Idle end) values = call_event end E.Idle
event_of_values (L.Deliver way) values = E.Deliver (sender_of way) []
event_of_values (L.Lose way) values = E.Lose (sender_of way)
event_of_values (L.Flip way) values = E.Deliver (sender_of way) (bit_indices_of_values values)
event_of_values L.Rival values = E.Rival (octets_of_values values)

-- the event that the meaning of a line describes, or `None` if the line is skipped
abbrev pub event_of_script_line_meaning : Option (L.LinkLineKind × List Value) → Option A.Event
event_of_script_line_meaning said = option_map (λ meaning. event_of_values meaning.0 meaning.1) said

-- a script line describes the given event, or is skipped if there is no event (`None`)
abbrev pub ScriptLineMeans : (line : List ℕ) (event : Option A.Event) → Type 0
ScriptLineMeans line = IsValueOfMeaning event_of_script_line_meaning (LineMeans link_line_forms never_misplaced line)

-- the event that a line describes, if it describes one, or the reason why it is refused
unfoldable pub script_line : (line : List ℕ) → Result (Option A.Event) LineFault
script_line line = parsed_line link_line_forms never_misplaced event_of_script_line_meaning line
