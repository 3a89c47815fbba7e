-- Block rectangular interleaving of a whole block over four bursts (GSM 05.03 section 4.1.4).
use Rattle.std.specs.Prelude.{ℕ, ◌≡◌, ◌≢◌, ◌<◌, List, [], ◌∷◌, length, map, All, slice_index, slice_index_or}
use Rattle.std.specs.List.{range_with_len}
use Rattle.interleave.specs.ColumnPositions.{coded_bit_number_in_burst}
use Rattle.interleave.specs.Positions.{burst_of_bit, position_in_burst}

-- the four `bursts` of 114 values each hold the 456 values of `coded` (coded bits or soft bits), each at its interleaved position
pub record IsInterleaved {X : Type 0} (coded : List X) (bursts : List (List X)) : Type 0 where
  pub coded_count : length coded ≡ 456
  pub burst_count : length bursts ≡ 4
  pub burst_lengths : All (λ burst. length burst ≡ 114) bursts
  pub positions : (k : ℕ) (d : X) → k < 456 →
      slice_index_or (slice_index_or bursts (burst_of_bit k) []) (position_in_burst k) d ≡ slice_index_or coded k d

-- `new` results from `old` by deinterleaving burst number `burst_number`: each of the 114 values of `burst` is written to the index of its
-- coded bit, and all other values are unchanged
pub record IsBurstDeinterleaved {X : Type 0} (burst_number : ℕ) (burst old new : List X) : Type 0 where
  pub count : length new ≡ length old
  pub updated_bits : (k : ℕ) (d : X) → k < 456 → burst_of_bit k ≡ burst_number →
      slice_index_or new k d ≡ slice_index_or burst (position_in_burst k) d
  pub unchanged_bits : (k : ℕ) (d : X) → k < 456 → burst_of_bit k ≢ burst_number → slice_index_or new k d ≡ slice_index_or old
      k d

-- deinterleaving the bursts with these numbers, in this order, turns the coded values `old` into `new`
abbrev pub AreDeinterleaved : {X : Type 0} (bursts : List (List X)) (order : List ℕ) (old new : List X) → Type 0
AreDeinterleaved bursts [] old new = old ≡ new
AreDeinterleaved {X} bursts (b ∷ order) old new =
    (next : List X) × IsBurstDeinterleaved b (slice_index_or bursts b []) old next × AreDeinterleaved bursts order next new

-- ---- interleaving and deinterleaving as functions; `IsInterleaved` is their law

abbrev pub interleaved_burst : (coded : List ℕ) (burst : ℕ) → List ℕ
interleaved_burst coded burst = map (λ place. slice_index coded (coded_bit_number_in_burst burst place)) (range_with_len 0 114)

-- the coded bits in the four bursts of a block
unfoldable pub interleaved : (coded : List ℕ) → List (List ℕ)
interleaved coded = map (interleaved_burst coded) (range_with_len 0 4)

-- the values of the 456 coded bits in four bursts
unfoldable pub deinterleaved : {X : Type 0} (default : X) (bursts : List (List X)) → List X
deinterleaved default bursts =
    map (λ k. slice_index_or (slice_index_or bursts (burst_of_bit k) []) (position_in_burst k) default) (range_with_len 0 456)
