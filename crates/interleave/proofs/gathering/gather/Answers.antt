-- The 57 columns cover all coded bits: seven groups of eight, and column 56.
use Rattle.{
  std.{
    proofs.Common.{◌≡◌, inl, inr, ℕ, ◌+◌, ◌-◌, ◌*◌, ◌/◌, ◌%◌, ◌<◌, List, [], ◌∷◌, map, length},
    proofs.{Common.{get_or, pos, ap, ap₂, sym, ◌∙◌, arith, w8}, Math.ListN.get_or-map, lemmas.{Bool.cases_lt, List.get_or_default}},
    specs.Int.cast_signed,
  },
  lanes.proofs.Lanes.each,
  interleave.{
    specs.{ColumnPositions.{coded_bit_number_in_column, burst_position_of_column_bit}, Positions.{burst_of_bit, position_in_burst}},
    proofs.{Bursts.same_coded, Positions.{in_column, burst_of_bit-below, position_in_burst-below}},
    proofs.gathering.gather.Goals.After-write_column,
  },
}
use Rattle.interleave.proofs.gathering.gather.Goals as goal

pub loop-group-preserved : goal.loop-group-preserved
loop-group-preserved c =
    let group = c.loop-group.group in
    let octets : List (List ℕ) =
    c.soft_bits_as_octets.result ∷ c.soft_bits_as_octets-2.result ∷ c.soft_bits_as_octets-3.result ∷
    c.soft_bits_as_octets-4.result ∷ [] in (
      c.write_columns.array_long,
      λ q r hq hr.
          elim (cases_lt q _) [
            | inl before ↦ c.write_columns.ensures.unchanged_bits q r before hr ∙ c.loop-group.invariant.1 q r before hr
            | inr after ↦
                let s : ℕ = q - 8 * group in
                let same : 8 * group + s ≡ q = omega arith in
                let small : s < 8 = omega arith in
                ap (λ q. get_or c.write_columns.new.soft (coded_bit_number_in_column q r) (pos 0)) (sym same)
                ∙ c.write_columns.ensures.updated_bits s r small hr
                ∙ ap (cast_signed w8) (c.eight_columns.ensures s r small hr)
                ∙ ap (λ q. cast_signed w8 (get_or (get_or octets (r % 4) []) (burst_position_of_column_bit q r) 0)) same
          ],
    )

octets : After-write_column → List (List ℕ)
octets c = c.soft_bits_as_octets.result ∷ c.soft_bits_as_octets-2.result ∷ c.soft_bits_as_octets-3.result ∷
    c.soft_bits_as_octets-4.result ∷ []

long : (c : After-write_column) (b : ℕ) → b < 4 → length (get_or c.args.parts.now b []) ≡ 114
long c =
    each _ 4 (omega arith)

signed : (c : After-write_column) (b : ℕ) → b < 4 → map (cast_signed w8) (get_or (octets c) b []) ≡ get_or c.args.parts.now b []
unfolding octets
signed c =
    each _ 4 (
      (((tt, c.soft_bits_as_octets.ensures.value), c.soft_bits_as_octets-2.ensures.value), c.soft_bits_as_octets-3.ensures.value),
      c.soft_bits_as_octets-4.ensures.value,
    )

written : (c : After-write_column) (q r : ℕ) → q < 57 → r < 8 →
    get_or c.write_column.new.soft (coded_bit_number_in_column q r) (pos 0) ≡ get_or (get_or c.args.parts.now (r % 4) [])
    (burst_position_of_column_bit q r) (pos 0)
unfolding octets
written c q r hq hr =
    let octet = get_or (octets c) (r % 4) [] in
    elim (cases_lt q 56) [
      | inl before ↦
          c.write_column.ensures.unchanged_bits q r hq (omega arith) hr ∙ c.loop-group.invariant.1 q r (omega arith) hr
      | inr after ↦
          let last : 56 ≡ q = omega arith in
          ap (λ q. get_or (c.write_column.new.soft) (coded_bit_number_in_column q r) (pos 0)) (sym last)
          ∙ c.write_column.ensures.updated_bits r hr
          ∙ ap (cast_signed w8) (c.last_column.ensures r hr)
          ∙ ap (λ q. cast_signed w8 (get_or octet (burst_position_of_column_bit q r) 0)) last
    ]
    ∙ sym (get_or-map (cast_signed w8) octet (burst_position_of_column_bit q r) 0)
    ∙ ap (λ values. get_or values (burst_position_of_column_bit q r) (pos 0)) (signed c (r % 4) (omega arith))

pub returns-clause-interleaved : goal.returns-clause-interleaved
returns-clause-interleaved c =
    let soft = c.write_column.new.soft in
    let parts = c.args.parts.now in
    record {
      coded_count = c.write_column.array_long;
      burst_count = omega arith;
      burst_lengths = λ b d lt. ap length (get_or_default parts b d [] lt) ∙ long c b (omega arith);
      positions = λ k d hk.
          let burst = burst_of_bit-below k in
          let place = position_in_burst-below k in
          let count = long c (burst_of_bit k) burst in
          let at = in_column k hk in
          get_or_default (get_or parts (burst_of_bit k) []) (position_in_burst k) d (pos 0) (omega arith)
          ∙ ap₂ (λ b j. get_or (get_or parts b []) j (pos 0)) at.burst at.place
          ∙ sym (written c (50 * (k / 8) % 57) (k % 8) at.column at.bit)
          ∙ ap (λ k. get_or soft k (pos 0)) at.coded_bit
          ∙ get_or_default soft k (pos 0) d (omega (arith, c.write_column.array_long));
    }

pub returns-clause-only : goal.returns-clause-only
returns-clause-only c coded whole = same_coded _ _ _ whole (returns-clause-interleaved c)
