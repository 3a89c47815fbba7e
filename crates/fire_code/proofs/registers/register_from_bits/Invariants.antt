use Rattle.{std.proofs.Common.{◌≡◌, ◌*◌, ◌<◌, ◌^◌, take}, fire_code.specs.Registers.low_bits}
use Rattle.fire_code.proofs.registers.register_from_bits.Given as goal

abbrev pub invariant-loop-m : goal.invariant-loop-m
invariant-loop-m l = (low_bits (8 * l.m) l.register ≡ take (8 * l.m) l.bits) × (l.register < 2 ^ (8 * l.m))
