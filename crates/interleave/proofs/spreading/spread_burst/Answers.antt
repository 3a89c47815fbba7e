use Rattle.{
  std.proofs.Common.{get_or, ap, ◌∙◌, arith},
  interleave.proofs.{Bursts.IsInterleaved-half_burst, Positions.coded_bit_number_in_burst-unique},
}
use Rattle.interleave.proofs.spreading.spread_burst.Goals as goal

pub returns-clause-places : goal.returns-clause-places
returns-clause-places c k i hk burst hi place =
    c.loop-i.invariant i (omega arith)
    ∙ ap (λ k. get_or c.args.coded.now k 0) (c.coded_bit_numbers-k-items.ensures.value i hi
    ∙ coded_bit_number_in_burst-unique k _ _ hk burst place)

pub returns-clause-part : goal.returns-clause-part
returns-clause-part c bursts whole =
    IsInterleaved-half_burst c.args.b c.args.half c.requires.burst c.requires.half c.args.coded.now bursts _ whole (omega arith)
    (λ i h. c.loop-i.invariant i (omega arith) ∙ ap (λ k. get_or c.args.coded.now k 0) (c.coded_bit_numbers-k-items.ensures.value i h))
