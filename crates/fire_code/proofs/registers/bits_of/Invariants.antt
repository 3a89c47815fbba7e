use Rattle.{std.proofs.Common.{◌≡◌, ◌*◌, length, take}, fire_code.specs.Registers.low_bits}
use Rattle.fire_code.proofs.registers.bits_of.Given as goal

abbrev pub invariant-loop-m : goal.invariant-loop-m
invariant-loop-m l = (length l.bits ≡ 40) × (take (8 * l.m) l.bits ≡ low_bits (8 * l.m) l.register)
