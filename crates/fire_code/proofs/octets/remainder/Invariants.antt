use Rattle.{std.proofs.Common.{◌*◌, take}, fire_code.proofs.Lemmas.IsRemainder}
use Rattle.fire_code.proofs.octets.remainder.Given as goal

abbrev pub invariant-loop-m : goal.invariant-loop-m
invariant-loop-m l = IsRemainder (take (8 * l.m) l.bits) l.register
