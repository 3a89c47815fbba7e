use Rattle.{std.proofs.Common.{◌≡◌, ◌*◌, ◌++◌, take, drop}, bit_blocks.specs.Octets.bits_of}
use Rattle.bit_blocks.proofs.octets.from_octets.Given as goal

abbrev pub invariant-loop-m : goal.invariant-loop-m
invariant-loop-m l = l.out ≡ bits_of (take l.m l.octets) ++ drop (8 * l.m) l.out
