use Rattle.{std.proofs.Common.{◌≡◌, ◌+◌, ◌≤◌, drop}, bit_blocks.specs.SoftValues.count_wrong_bits}
use Rattle.bit_blocks.proofs.soft.count_wrong_bits_up_to_255.Given as goal

abbrev pub invariant-loop-i : goal.invariant-loop-i
invariant-loop-i l =
    (l.wrong + count_wrong_bits (drop l.i l.soft) (drop l.i l.bits) ≡ count_wrong_bits l.soft l.bits) × (l.wrong ≤ l.i)
