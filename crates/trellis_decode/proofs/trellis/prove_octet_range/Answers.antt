use Rattle.{
  std.proofs.{Common.{[], pos, subst, arith}, lemmas.{Int.ints, List.{take_all, take_more, Elements.{All-nil, All-cons, All-append}}}},
  trellis_decode.specs.SignedOctets.{AreSignedOctets, IsSignedOctet},
  lanes.specs.Lanes.lane,
}
use Rattle.trellis_decode.proofs.trellis.prove_octet_range.Goals as goal

pub loop-k-preserved : goal.loop-k-preserved
loop-k-preserved c =
    let soft = c.args.soft.now in
    let k = c.loop-k.k in
    let octet : IsSignedOctet (lane soft k) = (omega (arith, ints), omega (arith, ints)) in
    rw (take_more _ k (pos 0) c.loop-k-test.true) (All-append IsSignedOctet _ _ c.loop-k.invariant (All-cons IsSignedOctet (lane _
    k) [] octet (All-nil _)))

pub returns : goal.returns
returns c = subst AreSignedOctets (take_all _ _ (omega arith)) c.loop-k.invariant
