-- What a Rust `Pieces` represents: the segments of a message.
use Rattle.std.specs.Prelude.{◌≡◌, ℕ, ◌+◌, ◌*◌, List}
use Rattle.std.specs.Borrow.{Bor}
use Rattle.lapdm_frame.specs.declared.Channel.{Channel}
use Rattle.lapdm_frame.specs.Layout.{n201}
use Rattle.segmenting.specs.declared.pieces.Pieces.{Pieces}
use Rattle.segmenting.specs.Segments.{Segment, segments}

-- the segments that a Rust `Pieces` represents
abbrev pub segments_of_pieces : Pieces → List Segment
segments_of_pieces p = segments (n201 p.channel) p.message.now

abbrev pub channel_of_pieces : Pieces → Channel
channel_of_pieces p = p.channel

-- `octets` is a slice borrowed from the message, and begins where the segment with this index begins
abbrev pub SegmentIsBorrowed : (pieces : Pieces) (index : ℕ) (octets : Bor (List ℕ)) → Type 0
SegmentIsBorrowed p i octets = (octets.ref_ptr.0 ≡ p.message.ref_ptr.0) × (octets.ref_ptr.1 ≡ p.message.ref_ptr.1 + i * n201 p.channel)
