use Rattle.{std.proofs.Common.{◌≡◌, length, take}, fire_code.specs.Registers.low_bits}
use Rattle.fire_code.proofs.registers.bits_of_register.Given as goal

abbrev pub invariant-loop-i : goal.invariant-loop-i
invariant-loop-i g l = (length l.bits ≡ g.row.N) × (take l.i l.bits ≡ low_bits l.i l.register)
