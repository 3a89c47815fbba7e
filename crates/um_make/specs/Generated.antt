-- The events of the generated session (this project's own rule). The two sides send messages alternately. Each transmission carries one
-- segment; every eighth one is lost, and halfway between the losses, three bits of the segment's block are inverted.
use Rattle.std.specs.Prelude.{ℕ, zero, suc, ◌+◌, ◌*◌, ◌%◌, Bool, if◌then◌else◌, nat_eq, List, [], ◌∷◌, ◌++◌}
use Rattle.std.specs.Prelude.{map}
use Rattle.std.specs.List.{range_with_len}
use Rattle.um_link.specs.lapdm_frame.declared.Channel.TheVariants.{Sdcch}
use Rattle.um_link.specs.lapdm_frame.Layout.{n201}
use Rattle.um_link.specs.lapdm_window.segmenting.Segments.{Message, number_of_segments}
use Rattle.um_link.specs.lapdm_window.declared.Sapi.TheVariants.{Zero}
use Rattle.um_link.specs.lapdm_window.Ends.{Role, Mobile, Network}
use Rattle.um_link.specs.lapdm_link.Events.{Open, Ask, Deliver, Lose, Send, T200Expiry, other}
use Rattle.um_link.specs.um_air.Air.{Event}

-- the number of octets, 1 to 251, of the message with this number
abbrev pub message_length : (message_number : ℕ) → ℕ
message_length i = 1 + 37 * i % 251

-- the message with this number, whose octets are successive numbers modulo 256, starting with the number of the message
abbrev pub message : (message_number : ℕ) → Message
message i = map (λ j. (i + j) % 256) (range_with_len 0 (message_length i))

-- the sender of the message with this number: the mobile if the number is odd, the network if it is even
abbrev pub sender : (message_number : ℕ) → Role
sender i = if nat_eq (i % 2) 1 then Mobile else Network

-- whether the transmission with this number is lost, as every eighth one is
abbrev pub is_lost_transmission : (transmission : ℕ) → Bool
is_lost_transmission c = nat_eq (c % 8) 0

-- the indices of the bits that are inverted in this transmission: three in transmissions 4, 12, 20, ..., otherwise none
abbrev pub inverted_bits : (transmission : ℕ) → List ℕ
inverted_bits c = if nat_eq (c % 8) 4 then 7 * c % 592 ∷ (7 * c + 1) % 592 ∷ (7 * c + 50) % 592 ∷ [] else []

-- the events of one transmission of a segment from this side: its block arrives, and then the response; in a lost transmission, its block
-- is lost, and T200 expires
abbrev pub segment_transmission : (role : Role) (transmission : ℕ) → List Event
segment_transmission r c =
    if is_lost_transmission c then Lose r ∷ Ask r Zero T200Expiry ∷ [] else Deliver r (inverted_bits c) ∷ Deliver (other r) [] ∷ []

-- the events of one segment from this side, starting with the given transmission: one transmission, or two if the first is lost
abbrev pub segment_events : (role : Role) (transmission : ℕ) → List Event
segment_events r c = segment_transmission r c ++ (if is_lost_transmission c then segment_transmission r (c + 1) else [])

-- the number of a segment's last transmission, given the number of its first
abbrev pub last_transmission_of_segment : (transmission : ℕ) → ℕ
last_transmission_of_segment c = if is_lost_transmission c then c + 1 else c

-- the events of this number of segments from this side, starting after the given transmission
abbrev pub segment_transmissions : (role : Role) (segment_count transmission : ℕ) → List Event
segment_transmissions r zero c = []
segment_transmissions r (suc segments) c =
    segment_events r (c + 1) ++ segment_transmissions r segments (last_transmission_of_segment (c + 1))

-- the number of the last transmission of this number of segments, which start after the given transmission
abbrev pub last_transmission_number : (segment_count transmission : ℕ) → ℕ
last_transmission_number zero c = c
last_transmission_number (suc segments) c = last_transmission_number segments (last_transmission_of_segment (c + 1))

-- the number of segments on SDCCH of the message with this number
abbrev pub message_segment_count : (message_number : ℕ) → ℕ
message_segment_count i = number_of_segments (n201 Sdcch) (message i)

-- the events that send `message_count` messages, from message `message_number` on, after transmission number `transmission`: for each
-- message, the sender's layer 3 asks to send it, and then its segments are transmitted
abbrev pub messages : (message_count message_number transmission : ℕ) → List Event
messages zero i c = []
messages (suc more) i c = Ask (sender i) Zero (Send (message i)) ∷ segment_transmissions (sender i) (message_segment_count i) c
    ++ messages more (i + 1) (last_transmission_number (message_segment_count i) c)

-- the events that remain after a transmission: the remaining segments of the current message, then all further messages
abbrev pub events_after_transmission : (messages_left message_number segment_count transmission : ℕ) → List Event
events_after_transmission messages_left number segments c = segment_transmissions (sender number) segments c
    ++ messages messages_left (number + 1) (last_transmission_number segments c)

-- the mobile establishes the link: its SABM arrives, and then the UA of the network
abbrev pub establishment_events : List Event
establishment_events = Open (1 ∷ []) ∷ Deliver Mobile [] ∷ Deliver Network [] ∷ []

-- all events of the generated session with this number of messages: the establishment of the link, then the messages in order
abbrev pub generated_events : (message_count : ℕ) → List Event
generated_events n = establishment_events ++ messages n 1 0
