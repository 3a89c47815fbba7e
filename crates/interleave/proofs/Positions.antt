-- Where interleaving puts each coded bit: its burst, its position there and among the bits of four bursts, and its column.
use Rattle.{
  bit_blocks.proofs.Lemmas.{at_passes_below, both_true, passes_below},
  interleave.specs.{
    ColumnPositions.{coded_bit_number_in_column, coded_bit_number_in_burst, burst_position_of_column_bit},
    Positions.{burst_of_bit, position_in_burst, position_in_four_bursts},
    declared.table.TheConstants.HALF_BURST_CODED_BIT_NUMBERS,
  },
  std.proofs.Common.{Bool, [], ap₂, arith, eqb, get_or, ltb, rules, tests, true, ℕ, ◌%◌, ◌&&◌, ◌*◌, ◌+◌, ◌/◌},
  std.proofs.{Common.{◌<◌, ◌∙◌, ◌≡◌, ◌≤◌}, lemmas.Bool.Decides.Decides-eqb},
}

-- ## Rows: `coded_bit_number_in_burst` is the inverse of `burst_of_bit` and `position_in_burst`, computed for all 456 coded bits.

pub record IsCodedBitAt (k b j : ℕ) : Type 0 where
  pub in_range : k < 456
  pub burst : burst_of_bit k ≡ b
  pub place : position_in_burst k ≡ j

abbrev is_coded_index_right : ℕ → ℕ → Bool
is_coded_index_right b j = ltb (coded_bit_number_in_burst b j) 456 &&
    (eqb (burst_of_bit (coded_bit_number_in_burst b j)) b && eqb (position_in_burst (coded_bit_number_in_burst b j)) j)

every_coded_index_is_right : passes_below (λ b. passes_below (is_coded_index_right b) 114) 4 ≡ true
unfolding coded_bit_number_in_burst coded_bit_number_in_column burst_of_bit position_in_burst passes_below
every_coded_index_is_right = cc

pub IsCodedBitAt-coded_bit_number_in_burst : (b j : ℕ) → b < 4 → j < 114 → IsCodedBitAt (coded_bit_number_in_burst b j) b j
IsCodedBitAt-coded_bit_number_in_burst b j hb hj =
    let here = at_passes_below _ 114 (at_passes_below (λ b. passes_below _ 114) 4 every_coded_index_is_right b hb) j hj in
    let burst = eqb _ b in
    let place = eqb _ j in
    let rest = both_true burst place (both_true (ltb (coded_bit_number_in_burst b j) 456) (burst && place) here).1 in
    record {
      in_range = search (rules, tests);
      burst = search (rules, tests);
      place = search (rules, tests);
    }

abbrev is_coded_bit_recovered : ℕ → Bool
is_coded_bit_recovered k = eqb (coded_bit_number_in_burst (burst_of_bit k) (position_in_burst k)) k

every_coded_bit_is_recovered : passes_below is_coded_bit_recovered 456 ≡ true
unfolding coded_bit_number_in_burst coded_bit_number_in_column burst_of_bit position_in_burst passes_below
every_coded_bit_is_recovered = cc

pub coded_bit_number_in_burst-inverse : (k : ℕ) → k < 456 → coded_bit_number_in_burst (burst_of_bit k) (position_in_burst k) ≡ k
coded_bit_number_in_burst-inverse k hk =
    let found = at_passes_below _ 456 every_coded_bit_is_recovered k hk in
    search rules

pub same_coded_bit : (k l : ℕ) → k < 456 → l < 456 → burst_of_bit k ≡ burst_of_bit l →
    position_in_burst k ≡ position_in_burst l →
    k ≡ l
same_coded_bit k l hk hl burst place =
    let at_k = coded_bit_number_in_burst-inverse k hk in
    let at_l = coded_bit_number_in_burst-inverse l hl in
    cc

pub coded_bit_number_in_burst-unique : (k b j : ℕ) → k < 456 → burst_of_bit k ≡ b → position_in_burst k ≡ j →
    coded_bit_number_in_burst b j ≡ k
coded_bit_number_in_burst-unique k b j hk burst place = let found = coded_bit_number_in_burst-inverse k hk in cc

pub coded_bit_at : (b j : ℕ) → b < 4 → j < 114 → (k : ℕ) × (k < 456) × (burst_of_bit k ≡ b) × (position_in_burst k ≡ j)
coded_bit_at b j hb hj =
    let stands = IsCodedBitAt-coded_bit_number_in_burst b j hb hj in
    (coded_bit_number_in_burst b j, stands.in_range, stands.burst, stands.place)

-- ## CodedBits: The entries of the table `HALF_BURST_CODED_BIT_NUMBERS` are what `coded_bit_number_in_burst` gives, checked by computation.

abbrev is_table_entry_right : ℕ → ℕ → Bool
is_table_entry_right r i =
    eqb (get_or (get_or HALF_BURST_CODED_BIT_NUMBERS r []) i 0) (coded_bit_number_in_burst (r / 2) (57 * (r % 2) + i))

every_table_entry_is_right : passes_below (λ r. passes_below (is_table_entry_right r) 57) 8 ≡ true
unfolding coded_bit_number_in_burst coded_bit_number_in_column passes_below
every_table_entry_is_right = cc

pub table_entry : (b half i : ℕ) → b < 4 → half ≤ 1 → i < 57 →
    get_or (get_or HALF_BURST_CODED_BIT_NUMBERS (2 * b + half) []) i 0 ≡
    coded_bit_number_in_burst b
    (57 * half + i)
table_entry b half i hb hh hi =
    let r : ℕ = 2 * b + half in
    let row = at_passes_below (λ r. passes_below (is_table_entry_right r) 57) 8 every_table_entry_is_right r (omega arith) in
    (Decides-eqb (get_or (get_or HALF_BURST_CODED_BIT_NUMBERS r []) i 0) (coded_bit_number_in_burst (r / 2) (57 * (r % 2) + i))).0
    (at_passes_below
    (is_table_entry_right r) 57 row i hi)
    ∙ ap₂ coded_bit_number_in_burst (omega arith) (omega arith)

-- ## BurstPlaces: A coded bit is determined by its position among the 592 bits of four bursts.

pub burst_of_bit-below : (k : ℕ) → burst_of_bit k < 4
unfolding burst_of_bit
burst_of_bit-below k = omega arith

pub position_in_burst-below : (k : ℕ) → position_in_burst k < 114
unfolding position_in_burst
position_in_burst-below k = omega arith

-- the first half of a burst's coded bits comes after three tail bits
pub position_in_four_bursts-lower : (k : ℕ) → position_in_burst k < 57 →
    position_in_four_bursts k ≡ 148 * burst_of_bit k + position_in_burst k + 3
unfolding position_in_four_bursts
position_in_four_bursts-lower k h = grind arith

-- the second half of a burst's coded bits comes after 28 more bits: two stealing flags and the training sequence
pub position_in_four_bursts-upper : (k : ℕ) → 57 ≤ position_in_burst k →
    position_in_four_bursts k ≡ 148 * burst_of_bit k + position_in_burst k + 31
unfolding position_in_four_bursts
position_in_four_bursts-upper k h = grind arith

pub position_in_four_bursts-below : (k : ℕ) → position_in_four_bursts k < 592
unfolding position_in_four_bursts
position_in_four_bursts-below k = grind (arith, burst_of_bit-below k, position_in_burst-below k)

pub position_in_four_bursts-differs : (k l : ℕ) → k < 456 → l < 456 → position_in_four_bursts k ≡ position_in_four_bursts l →
    k ≡ l
unfolding position_in_four_bursts
position_in_four_bursts-differs k l hk hl same =
    let place_k = position_in_burst-below k in
    let place_l = position_in_burst-below l in
    same_coded_bit k l hk hl (grind arith) (grind arith)

-- ## InColumns: Coded bit k is in column 50 (k / 8) mod 57, since 50 is the inverse of 8 modulo 57.

pub record IsInColumn (k q r : ℕ) : Type 0 where
  pub column : q < 57
  pub bit : r < 8
  pub coded_bit : coded_bit_number_in_column q r ≡ k
  pub burst : burst_of_bit k ≡ r % 4
  pub place : position_in_burst k ≡ burst_position_of_column_bit q r

pub in_column : (k : ℕ) → k < 456 → IsInColumn k (50 * (k / 8) % 57) (k % 8)
unfolding coded_bit_number_in_column burst_position_of_column_bit burst_of_bit position_in_burst
in_column k h = grind arith
