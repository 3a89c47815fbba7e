-- What a Rust `Joiner` represents: the state of reassembly after some segments.
use Rattle.std.specs.Prelude.{◌≡◌, ◌≤◌, ℕ, List, [], length, Option, Some, None, take}
use Rattle.segmenting.specs.declared.joiner.ReassemblyState.{ReassemblyState}
use Rattle.segmenting.specs.declared.joiner.ReassemblyState.TheVariants.{Open, Whole, Discarding}
use Rattle.segmenting.specs.declared.joiner.Joiner.{Joiner}
use Rattle.segmenting.specs.Segments.{Message, Segment}
use Rattle.segmenting.specs.Joining.{message_if_fits, partial_message, completed_message}

-- the octets received so far of the message being reassembled, or `None` if there are more than 251
abbrev pub message_in_reassembly : (part : ReassemblyState) (octets : List ℕ) → Option (List ℕ)
message_in_reassembly Open octets = Some octets
message_in_reassembly Whole octets = Some []
message_in_reassembly Discarding octets = None

-- the message that the last segment completed, or no octets if it completed no message
abbrev pub completed_joiner_message : (part : ReassemblyState) (octets : List ℕ) → Message
completed_joiner_message Whole octets = octets
completed_joiner_message other octets = []

-- a joiner can hold these octets as this part of a message: a whole message has at least one octet, and no octets are held while an
-- oversize message is discarded
abbrev pub IsPossiblePart : (part : ReassemblyState) (octets : List ℕ) → Type 0
IsPossiblePart Open octets = Unit {0}
IsPossiblePart Whole octets = 1 ≤ length octets
IsPossiblePart Discarding octets = octets ≡ []

-- after the segments `taken`, a joiner holds the octets of the incomplete message (`part` is `Open`), the message that the last segment
-- completed (`Whole`), or no octets while an oversize message is discarded (`Discarding`)
pub record HoldsReassemblyOf (part : ReassemblyState) (octets : List ℕ) (taken : List Segment) : Type 0 where
  pub partial_octets : message_in_reassembly part octets ≡ message_if_fits (partial_message taken)
  pub completed_message : completed_joiner_message part octets ≡ completed_message taken
  pub possible : IsPossiblePart part octets

-- the joiner is in the state that a new joiner reaches by taking the given segments
abbrev pub HasTakenSegments : (joiner : Joiner) (taken : List Segment) → Type 0
HasTakenSegments j taken = HoldsReassemblyOf j.part (take j.len j.octets) taken
