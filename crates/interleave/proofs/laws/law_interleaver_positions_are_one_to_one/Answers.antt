use Rattle.interleave.proofs.Positions.{coded_bit_at, position_in_four_bursts-below, position_in_four_bursts-differs, same_coded_bit}
use Rattle.interleave.proofs.laws.law_interleaver_positions_are_one_to_one.Goals as goal

pub returns : goal.returns
returns c = record {
  onto = coded_bit_at;
  one_to_one = same_coded_bit;
  within = λ k _. position_in_four_bursts-below k;
  distinct = position_in_four_bursts-differs;
}
