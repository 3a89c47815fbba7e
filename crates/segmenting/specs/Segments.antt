-- Segmentation of messages (GSM 04.06, sections 3.7.2 and 3.7.3: the M bit and the length of an I frame).
use Rattle.std.specs.Prelude.{◌≡◌, ℕ, zero, suc, ◌+◌, ◌-◌, ◌/◌, ◌≤◌, Bool, true, false, List, [], ◌∷◌}
use Rattle.std.specs.Prelude.{length, take, drop}
use Rattle.std.specs.List.{flat_map}
use Rattle.lapdm_frame.specs.declared.Channel.{Channel}
use Rattle.lapdm_frame.specs.declared.Channel.TheVariants.{Sdcch, Sacch}

-- a layer 3 message: a list of octets
abbrev pub Message : Type 0
Message = List ℕ

-- a segment: the octets of one I frame, and its M bit (true if the message continues in the next segment)
abbrev pub Segment : Type 0
Segment = List ℕ × Bool

-- the maximum length of a message, in octets
abbrev pub max_message_octets : ℕ
max_message_octets = 251

-- `message` has 1 to 251 octets
pub record IsValidMessage (message : Message) : Type 0 where
  pub nonempty : 1 ≤ length message
  pub at_most : length message ≤ max_message_octets

-- `segment` is full: it has `limit` octets, the most that an I frame can carry, and M = 1
pub record IsFullSegment (limit : ℕ) (segment : Segment) : Type 0 where
  pub size : length segment.0 ≡ limit
  pub more : segment.1 ≡ true

-- `segment` can end a message: it has 1 to `limit` octets, and M = 0
pub record IsLastSegment (limit : ℕ) (segment : Segment) : Type 0 where
  pub nonempty : 1 ≤ length segment.0
  pub at_most : length segment.0 ≤ limit
  pub more : segment.1 ≡ false

-- every segment but the last has the given full length and M = 1; the last has at least one octet, at most the full length, and M = 0
abbrev pub AreFullExceptLast : (size : ℕ) (taken : List Segment) → Type 0
AreFullExceptLast n [] = ⊥
AreFullExceptLast n (p ∷ []) = IsLastSegment n p
AreFullExceptLast n (p ∷ q ∷ ps) = IsFullSegment n p × AreFullExceptLast n (q ∷ ps)

-- the octets of the segments, one after another
abbrev pub reassembled_octets : (pieces : List Segment) → List ℕ
reassembled_octets ps = flat_map (λ p. p.0) ps

-- `pieces` are the segments of `message` if each I frame carries at most `limit` octets
pub record AreSegments (limit : ℕ) (message : Message) (pieces : List Segment) : Type 0 where
  pub octets : reassembled_octets pieces ≡ message
  pub full_except_last : AreFullExceptLast limit pieces

-- a message cut into a given number of full segments, each of a given length, and a last segment with the rest
abbrev pub cut_segments : (size full_segments : ℕ) (message : Message) → List Segment
cut_segments n zero m = (m, false) ∷ []
cut_segments n (suc k) m = (take n m, true) ∷ cut_segments n k (drop n m)

-- the segments of a message if each I frame carries at most a given number of octets
abbrev pub segments : (size : ℕ) (message : Message) → List Segment
segments n m = cut_segments n ((length m - 1) / n) m

-- the number of segments of a message if each I frame carries at most a given number of octets
abbrev pub number_of_segments : (size : ℕ) (message : Message) → ℕ
number_of_segments n m = (length m - 1) / n + 1

-- the number of segments of the longest message, 251 octets, on each channel
abbrev pub max_segments_per_message : Channel → ℕ
max_segments_per_message Sdcch = 13
max_segments_per_message Sacch = 14
