use Rattle.burst_map.proofs.Lemmas.{write_first-second, write_second-first}
use Rattle.burst_map.proofs.laws.law_burst_halves_fill_in_any_order.Goals as goal

pub returns : goal.returns
returns c = record {
  first_half_first = write_first-second;
  second_half_first = write_second-first;
}
