use Rattle.{std.proofs.Common.take, bit_blocks.specs.Octets.bits_of, fire_code.proofs.Lemmas.IsRemainder}
use Rattle.fire_code.proofs.octets.remainder_of_octets.Given as goal

abbrev pub invariant-loop-octet : goal.invariant-loop-octet
invariant-loop-octet l = IsRemainder (bits_of (take l.octet-index l.octets)) l.register
