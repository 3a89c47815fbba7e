use Rattle.{
  std.proofs.Common.{◌≡◌, [], ◌∷◌, map, subst, arith, ap},
  interleave.specs.Bursts.IsInterleaved,
  um_block.{specs.Received.coded_soft_bits, proofs.{SoftenedBits.AllSoftBits-deinterleaved, SentBursts.four}},
}
use Rattle.um_block.proofs.receiving.deinterleave_block.Goals as goal

pub returns-clause-deinterleaved : goal.returns-clause-deinterleaved
returns-clause-deinterleaved c =
    let four = ap (map coded_soft_bits) (four c.args.bursts.now [] (omega arith)) in
    let parts = c.coded_soft_bits.result ∷ c.coded_soft_bits-2.result ∷ c.coded_soft_bits-3.result ∷ c.coded_soft_bits-4.result
    ∷ [] in
    let same : parts ≡ map coded_soft_bits c.args.bursts.now = cc in
    subst (IsInterleaved c.gather.result) same c.gather.ensures.interleaved

pub returns-clause-soft : goal.returns-clause-soft
returns-clause-soft c = AllSoftBits-deinterleaved c.args.bursts.now _ (returns-clause-deinterleaved c) c.requires
