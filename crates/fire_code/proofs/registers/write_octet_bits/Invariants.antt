use Rattle.std.proofs.{Common.◌≡◌, Math.Seq.paste}
use Rattle.fire_code.proofs.registers.write_octet_bits.Given as goal

abbrev pub invariant-loop-b : goal.invariant-loop-b
invariant-loop-b l = l.bits ≡ paste l.fn.bits l.at l.octet l.b
