use Rattle.{std.proofs.Common.take, trellis_decode.specs.SignedOctets.AreSignedOctets}
use Rattle.trellis_decode.proofs.trellis.prove_octet_range.Given as goal

abbrev pub invariant-loop-k : goal.invariant-loop-k
invariant-loop-k l = AreSignedOctets (take l.k l.soft)
