-- The state of an endpoint as a C struct: what its numbers and arrays mean, and how they are written.
use Rattle.std.specs.Prelude.{ℕ, zero, suc, ◌≡◌, ◌==◌, nat_le, if◌then◌else◌, Bool, true, List, [], ◌∷◌, length}
use Rattle.std.specs.Prelude.{take, map, Option, Some, None}
use Rattle.lapdm_frame.specs.declared.Channel.{Channel}
use Rattle.lapdm_frame.specs.declared.Channel.TheVariants.{Sdcch, Sacch}
use Rattle.lapdm_frame.specs.Frames.{bit_of_bool}
use Rattle.um_air.specs.segmenting.declared.joiner.ReassemblyState.{ReassemblyState}
use Rattle.um_air.specs.segmenting.declared.joiner.ReassemblyState.TheVariants as P
use Rattle.um_air.specs.segmenting.declared.buffers.MessageBuffer.{MessageBuffer}
use Rattle.um_air.specs.segmenting.Segments.{Message}
use Rattle.um_air.specs.segmenting.Buffers.{octets_in_buffer, message_buffer}
use Rattle.um_air.specs.lapdm_window.declared.Sapi.{Sapi}
use Rattle.um_air.specs.lapdm_window.declared.Sapi.TheVariants.{Zero, Three}
use Rattle.um_air.specs.lapdm_window.declared.State.{State}
use Rattle.um_air.specs.lapdm_window.declared.State.TheVariants as S
use Rattle.um_air.specs.lapdm_window.Ends.{EndpointState}
use Rattle.um_air.specs.lapdm_window.Parts.{WindowValues}
use Rattle.lapdm_end.specs.declared.Role.{Role}
use Rattle.lapdm_end.specs.declared.Role.TheVariants.{Mobile, Network}
use Rattle.lapdm_end.specs.Parts.{EndpointValues, ValuesRepresent}
use Rattle.um_c.specs.declared.states.CEndpoint.{CEndpoint}
use Rattle.um_c.specs.Plain.{is_nonzero, channel_of}

-- the role with this number, or `None` if the number is invalid
abbrev pub role_of : (number : ℕ) → Option Role
role_of number = if number == 0 then Some Mobile else if number == 1 then Some Network else None

-- the SAPI with this number, or `None` if the number is invalid
abbrev pub sapi_of : (number : ℕ) → Option Sapi
sapi_of number = if number == 0 then Some Zero else if number == 3 then Some Three else None

-- the link state with this number, or `None` if the number is invalid
abbrev pub state_of : (number : ℕ) → Option State
state_of number =
    if number == 0 then Some S.Idle
    else if number == 1 then Some S.Opening
    else if number == 2 then Some S.Open
    else if number == 3 then Some S.Closing
    else if number == 4 then Some S.Closed
    else None

-- the reassembly state with this number, or `None` if the number is invalid
abbrev pub reassembly_from_number : (number : ℕ) → Option ReassemblyState
reassembly_from_number number = if number == 0 then Some P.Open else if number == 1 then Some P.Whole else if number == 2 then Some
    P.Discarding else
    None

-- the window variables in the struct (V(S), V(A), V(R), held messages, reassembly buffer), if its channel and reassembly state are valid
-- and it holds at most eight messages; otherwise `None`
abbrev pub window_values_if_valid : (endpoint : CEndpoint) (channel : Option Channel) (part : Option ReassemblyState) (valid : Bool) →
    Option WindowValues
window_values_if_valid s (Some channel) (Some part) true =
    Some (record {
      channel = channel;
      held = map octets_in_buffer (take s.held_count s.held);
      segment_index = s.place;
      vs = s.vs;
      va = s.va;
      vr = s.vr;
      acked_messages = s.done;
      rejecting = is_nonzero s.rejecting;
      retries = s.repeats;
      joiner = record { octets = octets_in_buffer s.joined; part = part };
    })
window_values_if_valid s channel part few = None

-- the window variables in the struct, or `None` if its channel or reassembly state is invalid or it holds more than eight messages
abbrev pub window_values_from : CEndpoint → Option WindowValues
window_values_from s = window_values_if_valid s (channel_of s.channel) (reassembly_from_number s.part) (nat_le s.held_count 8)

-- the values of the endpoint in the struct, if role, SAPI, link state and window are valid; otherwise `None`
abbrev pub endpoint_values_if_valid : (endpoint : CEndpoint) (role : Option Role) (sapi : Option Sapi) (state : Option State)
    (window : Option WindowValues) → Option EndpointValues
endpoint_values_if_valid s (Some role) (Some sapi) (Some state) (Some window) =
    Some (record { role = role; sapi = sapi; state = state; sabm_info = octets_in_buffer s.kept; retries = s.retries; window = window })
endpoint_values_if_valid s role sapi state window = None

-- the values of the endpoint in the struct, if all its numbers are in range and it holds at most eight messages; otherwise `None`
abbrev pub endpoint_values_from : CEndpoint → Option EndpointValues
endpoint_values_from s = endpoint_values_if_valid s (role_of s.role) (sapi_of s.sapi) (state_of s.state) (window_values_from s)

-- struct `s` represents endpoint `e`
pub record StructRepresents (s : CEndpoint) (e : EndpointState) : Type 0 where
  pub endpoint_values : EndpointValues
  pub decoded : endpoint_values_from s ≡ Some endpoint_values
  pub represents_values : ValuesRepresent endpoint_values e

-- the struct represents some endpoint
abbrev pub RepresentsSomeEndpoint : CEndpoint → Type 0
RepresentsSomeEndpoint s = (e : EndpointState) × StructRepresents s e

-- the number of a role in the C API
abbrev pub role_number : Role → ℕ
role_number Mobile = 0
role_number Network = 1

-- the number of a SAPI in the C API
abbrev pub sapi_number : Sapi → ℕ
sapi_number Zero = 0
sapi_number Three = 3

-- the number of a channel in the C API
abbrev pub channel_number : Channel → ℕ
channel_number Sdcch = 0
channel_number Sacch = 1

-- the number of a link state in the C API
abbrev pub state_number : State → ℕ
state_number S.Idle = 0
state_number S.Opening = 1
state_number S.Open = 2
state_number S.Closing = 3
state_number S.Closed = 4

-- the number of a reassembly state in the C API
abbrev pub reassembly_number : ReassemblyState → ℕ
reassembly_number P.Open = 0
reassembly_number P.Whole = 1
reassembly_number P.Discarding = 2

-- an array of buffers of the given length: these messages, then empty messages
abbrev pub buffers_of_messages : (count : ℕ) (held : List Message) → List MessageBuffer
buffers_of_messages zero held = []
buffers_of_messages (suc k) [] = message_buffer [] ∷ buffers_of_messages k []
buffers_of_messages (suc k) (m ∷ ms) = message_buffer m ∷ buffers_of_messages k ms

-- the struct written for these values, with zeros in all unused octets
abbrev pub c_endpoint : EndpointValues → CEndpoint
c_endpoint x = record {
  done = x.window.acked_messages;
  role = role_number x.role;
  sapi = sapi_number x.sapi;
  channel = channel_number x.window.channel;
  state = state_number x.state;
  retries = x.retries;
  vs = x.window.vs;
  va = x.window.va;
  vr = x.window.vr;
  repeats = x.window.retries;
  rejecting = bit_of_bool x.window.rejecting;
  place = x.window.segment_index;
  held_count = length x.window.held;
  part = reassembly_number x.window.joiner.part;
  kept = message_buffer x.sabm_info;
  joined = message_buffer x.window.joiner.octets;
  held = buffers_of_messages 8 x.window.held;
}

-- the struct is in canonical form, the form that the C calls write; the values of an endpoint have exactly one such struct
abbrev pub IsCanonicalStruct : CEndpoint → Type 0
IsCanonicalStruct s = (x : EndpointValues) × (s ≡ c_endpoint x)
