use Rattle.half_bursts.proofs.Places.{at_full_rate, at_half_rate, of_a_block}
use Rattle.half_bursts.proofs.laws.law_bursts_of_the_standard.Goals as goal

pub returns : goal.returns
returns c = record { full_rate = at_full_rate; half_rate = at_half_rate; block = of_a_block }
