use Rattle.{
  std.proofs.{Common.{[], get_or, ◌∙◌, arith}, lemmas.List.get_or_default},
  interleave.{
    specs.Positions.{burst_of_bit, position_in_burst},
    proofs.{Bursts.{same_bursts, AllBits-bursts}, Positions.{burst_of_bit-below, position_in_burst-below}},
  },
}
use Rattle.interleave.proofs.spreading.spread.Goals as goal

pub returns-clause-interleaved : goal.returns-clause-interleaved
returns-clause-interleaved c =
    record {
      coded_count = omega arith;
      burst_count = c.loop-b.invariant.0;
      burst_lengths = c.loop-b.invariant.1;
      positions = λ k d hk.
          let burst = burst_of_bit-below k in
          let place = position_in_burst-below k in
          get_or_default (get_or (c.loop-b.bursts) (burst_of_bit k) []) (position_in_burst k) d 0 (omega arith)
          ∙ c.loop-b.invariant.2 k hk (omega arith)
          ∙ get_or_default (c.args.coded.now) k 0 d (omega arith);
    }

pub returns-clause-only : goal.returns-clause-only
returns-clause-only c bursts whole = same_bursts _ _ _ whole (returns-clause-interleaved c)

pub returns-clause-bits : goal.returns-clause-bits
returns-clause-bits c bits = AllBits-bursts _ _ (returns-clause-interleaved c) bits
