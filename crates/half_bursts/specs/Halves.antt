-- The two halves of a normal burst, and the bursts of FACCH (GSM 05.03, today 3GPP TS 45.003, sections 3.1.3, 4.2 and 4.3). Of the 148
-- positions of a burst, the odd ones hold the even-numbered coded bits and the stealing flag hu after the training sequence, and the even
-- ones the odd-numbered coded bits and the flag hl before it. So a block of FACCH is a block of four normal bursts: the bits at odd
-- positions of these are sent in its first four bursts, those at even positions in the bursts after these, as far as there are any.
use Rattle.std.specs.Prelude.{ℕ, ◌≡◌, ◌<◌, ◌+◌, ◌-◌, ◌%◌, ◌==◌, nat_le, nat_lt, if◌then◌else◌}
use Rattle.std.specs.Prelude.{◌&&◌}
use Rattle.std.specs.Prelude.{List, [], ◌∷◌, ◌++◌, length, map, replicate, slice_index_or, slice_range, ℤ, pos}
use Rattle.std.specs.Prelude.{◌+ℤ◌}
use Rattle.std.specs.List.{range_with_len}
use Rattle.bit_blocks.specs.SoftValues.{count_wrong_bits}
use Rattle.interleave.specs.Positions.{position_in_burst}

-- ## In the terms of the standard

-- which of `count` bursts carries a given coded bit: of the eight of FACCH/F number k mod 8 (section 3.1.3), of the six of FACCH/H number
-- k mod 8 - 4 ((k mod 8) div 6) (section 4.3.4), and of the four of other channels number k mod 4 (section 4.1.4)
unfoldable pub carrying_burst : (count coded_bit : ℕ) → ℕ
carrying_burst n k = if nat_lt (k % 8) n then k % 8 else k % 8 - 4

-- the position of a given coded bit among the 148 bits of its burst
unfoldable pub position_in_normal_burst : (coded_bit : ℕ) → ℕ
position_in_normal_burst k = position_in_burst k + (if nat_le (position_in_burst k) 56 then 3 else 31)

-- the 456 values of `coded` (coded bits or soft bits) are in `bursts`, each in its burst at its position
pub record AreCarried {X : Type 0} (coded : List X) (bursts : List (List X)) : Type 0 where
  pub coded_count : length coded ≡ 456
  pub positions : (k : ℕ) (d : X) → k < 456 →
      slice_index_or (slice_index_or bursts (carrying_burst (length bursts) k) []) (position_in_normal_burst k) d ≡
      slice_index_or coded k d

-- ## As blocks of four bursts

-- which of `count` bursts holds the even positions of burst `index` of the block, 0 to 3: the fourth after it, or itself if there is none
abbrev pub partner : (count index : ℕ) → ℕ
partner n b = if nat_lt (b + 4) n then b + 4 else b

-- the values at odd positions of one burst, and at even positions of another
abbrev pub joined_value : {X : Type 0} (default : X) (odd even : List X) (place : ℕ) → X
joined_value default odd even p = slice_index_or (if p % 2 == 1 then odd else even) p default

abbrev pub joined_burst : {X : Type 0} (default : X) (odd even : List X) → List X
joined_burst default odd even = map (joined_value default odd even) (range_with_len 0 148)

-- burst number `index` of the block whose halves are in `bursts`
abbrev pub burst_of_block : {X : Type 0} (default : X) (bursts : List (List X)) (index : ℕ) → List X
burst_of_block default bursts b =
    joined_burst default (slice_index_or bursts b []) (slice_index_or bursts (partner (length bursts) b) [])

-- the block of four bursts whose halves are in `bursts`
abbrev pub joined_block : {X : Type 0} (default : X) (bursts : List (List X)) → List (List X)
joined_block default bursts = map (burst_of_block default bursts) (range_with_len 0 4)

-- the 114 coded bits, or soft bits, of a normal burst
abbrev pub coded_values : {X : Type 0} (burst : List X) → List X
coded_values burst = slice_range burst 3 60 ++ slice_range burst 88 145

-- ## Sending: halves of bursts are overwritten

-- which half of a burst has a position: 1 if it is odd, 2 if it is even, and 0 if it is of a tail or the training sequence
abbrev pub half_of_position : (place : ℕ) → ℕ
half_of_position p = if (if nat_le p 60 then nat_le 3 p else (nat_le 87 p && nat_le p 144)) then 2 - p % 2 else 0

-- which half of burst `index`, of `count`, is of another block: the odd one of the bursts after the fourth, and the even one of a burst
-- that has a fourth after it; 3 if neither is
abbrev pub other_half : (count index : ℕ) → ℕ
other_half n b = if nat_le 4 b then 1 else if nat_lt (b + 4) n then 2 else 3

-- the value at a position of `old` if that is of one half, and else that of `burst`
abbrev pub value_with_half : {X : Type 0} (default : X) (half : ℕ) (burst old : List X) (place : ℕ) → X
value_with_half default half burst old p = slice_index_or (if half_of_position p == half then old else burst) p default

-- `burst` with one half of `old`
abbrev pub with_half : (half : ℕ) (burst old : List ℕ) → List ℕ
with_half half burst old = map (value_with_half 0 half burst old) (range_with_len 0 148)

-- burst number `index` of `bursts` with its half, or both, of a block of four bursts
abbrev pub stolen_burst : (block bursts : List (List ℕ)) (index : ℕ) → List ℕ
stolen_burst block bursts b =
    with_half (other_half (length bursts) b) (slice_index_or block (b % 4) []) (slice_index_or bursts b [])

-- the bursts with a block in its halves of them
abbrev pub stolen : (block bursts : List (List ℕ)) → List (List ℕ)
stolen block bursts = map (stolen_burst block bursts) (range_with_len 0 (length bursts))

-- ## Stealing flags

-- the eight stealing flags of a block, as soft bits: of each burst hl and hu
abbrev pub flag_at : (block : List (List ℤ)) (index place : ℕ) → ℤ
flag_at block b p = slice_index_or (slice_index_or block b []) p (pos 0)

abbrev pub stealing_flags : (block : List (List ℤ)) → List ℤ
stealing_flags block =
    flag_at block 0 60 ∷ flag_at block 0 87 ∷ flag_at block 1 60 ∷ flag_at block 1 87 ∷
    flag_at block 2 60 ∷ flag_at block 2 87 ∷ flag_at block 3 60 ∷ flag_at block 3 87 ∷ []

-- how many of them do not say that the block is FACCH; a soft bit of 0 does not
abbrev pub wrong_flags : (block : List (List ℤ)) → ℕ
wrong_flags block = count_wrong_bits (stealing_flags block) (replicate 8 1)

-- their sum: negative if they rather say that the block is FACCH
abbrev pub flags_of_burst : (burst : List ℤ) → ℤ
flags_of_burst burst = slice_index_or burst 60 (pos 0) +ℤ slice_index_or burst 87 (pos 0)

abbrev pub stealing_sum : (block : List (List ℤ)) → ℤ
stealing_sum block =
    (flags_of_burst (slice_index_or block 0 []) +ℤ flags_of_burst (slice_index_or block 1 []))
    +ℤ (flags_of_burst (slice_index_or block 2 []) +ℤ flags_of_burst (slice_index_or block 3 []))
