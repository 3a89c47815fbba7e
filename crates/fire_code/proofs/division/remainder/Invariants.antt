use Rattle.{std.proofs.Common.{◌≡◌, fold, take}, fire_code.specs.Crcs.shifted}
use Rattle.fire_code.proofs.division.remainder.Given as goal

abbrev pub invariant-loop-bit : goal.invariant-loop-bit
invariant-loop-bit g l = l.register ≡ fold (shifted l.taps) 0 (take l.bit-index l.bits)
