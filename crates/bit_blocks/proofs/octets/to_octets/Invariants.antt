use Rattle.{std.proofs.Common.{◌≡◌, ◌*◌, take}, bit_blocks.specs.Octets.octets_of}
use Rattle.bit_blocks.proofs.octets.to_octets.Given as goal

abbrev pub invariant-loop-m : goal.invariant-loop-m
invariant-loop-m l = take l.m l.out ≡ octets_of (take (8 * l.m) l.bits)
