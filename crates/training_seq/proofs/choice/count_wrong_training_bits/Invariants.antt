use Rattle.{
  std.proofs.Common.{◌≡◌, ◌+◌, ◌≤◌, ℕ, ℤ, List, drop},
  bit_blocks.specs.SoftValues.count_wrong_bits,
  training_seq.specs.Sequences.midamble,
}
use Rattle.training_seq.proofs.choice.count_wrong_training_bits.Given as goal

abbrev pub AreCounted : (values : List ℤ) (bits : List ℕ) (i wrong : ℕ) → Type 0
AreCounted values bits i wrong =
    (wrong + count_wrong_bits (drop i values) (drop i bits) ≡ count_wrong_bits values bits) × (wrong ≤ i)

abbrev pub invariant-loop-i : goal.invariant-loop-i
invariant-loop-i l =
    let bits = midamble l.tsc in
    AreCounted l.a bits l.i l.of_a × AreCounted l.b bits l.i l.of_b × AreCounted l.c bits l.i l.of_c × AreCounted l.d bits l.i l.of_d
