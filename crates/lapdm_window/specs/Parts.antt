-- The state of a window as plain data.
use Rattle.std.specs.Prelude.{◌≡◌, ◌⊎◌, ◌+◌, ◌%◌, ◌<◌, ◌≤◌, ℕ, Bool, List, [], length, map}
use Rattle.std.specs.Prelude.{slice_index_or, All}
use Rattle.segmenting.specs.lapdm_frame.declared.Channel.{Channel}
use Rattle.segmenting.specs.lapdm_frame.Layout.{n201}
use Rattle.segmenting.specs.Segments.{Message, IsValidMessage, number_of_segments, max_message_octets}
use Rattle.segmenting.specs.Buffers.{octets_in_buffer}
use Rattle.segmenting.specs.Parts.{JoinerValues}
use Rattle.segmenting.specs.Parts as J
use Rattle.lapdm_window.specs.declared.window.Window.{Window}
use Rattle.lapdm_window.specs.declared.window.parts.LapdmWindowView.{LapdmWindowView}
use Rattle.lapdm_window.specs.Ends.{EndpointState}
use Rattle.lapdm_window.specs.Abstraction.{Represents}

-- the state of a window as plain data: its channel, held messages, state variables and reassembly
pub record WindowValues : Type 0 where
  pub channel : Channel
  pub held : List Message
  pub segment_index : ℕ
  pub vs : ℕ
  pub va : ℕ
  pub vr : ℕ
  pub acked_messages : ℕ
  pub rejecting : Bool
  pub retries : ℕ
  pub joiner : JoinerValues

-- the state of a window as plain data
abbrev pub values_of : Window → WindowValues
values_of w = record {
  channel = w.channel;
  held = w.held.items;
  segment_index = w.segment_index;
  vs = w.vs;
  va = w.va;
  vr = w.vr;
  acked_messages = w.acked_messages;
  rejecting = w.rejecting;
  retries = w.retries;
  joiner = J.values_of w.joiner;
}

-- the window state in a Rust `LapdmWindowView`
abbrev pub values_of_parts : LapdmWindowView → WindowValues
values_of_parts p = record {
  channel = p.channel;
  held = map octets_in_buffer p.held.now;
  segment_index = p.segment_index;
  vs = p.vs;
  va = p.va;
  vr = p.vr;
  acked_messages = p.acked_messages;
  rejecting = p.rejecting;
  retries = p.retries;
  joiner = record { octets = p.reassembly.now; part = p.part };
}

-- some window has the values `x` and represents endpoint `e`
pub record ValuesRepresent (x : WindowValues) (e : EndpointState) : Type 0 where
  pub window : Window
  pub values_match : values_of window ≡ x
  pub represents : Represents window e

-- some window has these values and represents some endpoint
abbrev pub SomeWindowHasValues : WindowValues → Type 0
SomeWindowHasValues x = (e : EndpointState) × ValuesRepresent x e

-- a window can hold these messages: at most eight, each of 1 to 251 octets
pub record AreValidHeldMessages (held : List Message) : Type 0 where
  pub at_most_8 : length held ≤ 8
  pub messages : All IsValidMessage held

-- the conditions under which a window can be restored from this state
pub record AreConsistent (x : WindowValues) : Type 0 where
  pub held : AreValidHeldMessages x.held
  pub segment_index_in_range : x.segment_index < number_of_segments (n201 x.channel) (slice_index_or x.held 0 [])
  pub at_most_one_outstanding : (x.vs ≡ x.va) ⊎ ((x.vs ≡ (x.va + 1) % 8) × (1 ≤ length x.held))
  pub va : x.va ≤ 7
  pub vr : x.vr ≤ 7
  pub va_if_nothing_acked : x.acked_messages ≡ 0 → x.va ≡ x.segment_index % 8
  pub no_repeats_if_none_outstanding : x.vs ≡ x.va → x.retries ≡ 0
  pub reassembly_fits : length x.joiner.octets ≤ max_message_octets
