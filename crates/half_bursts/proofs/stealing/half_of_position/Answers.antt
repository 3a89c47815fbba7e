use Rattle.{
  half_bursts.specs.Halves.half_of_position,
  std.proofs.{Common.arith, lemmas.List.FromFn.get_or-map-range_with_len},
}
use Rattle.half_bursts.proofs.stealing.half_of_position.Goals as goal

pub returns : goal.returns
returns c = get_or-map-range_with_len half_of_position 0 148 c.args.p c.args.p 0 c.requires (omega arith)
