use Rattle.{
  std.proofs.Common.{◌≡◌, ◌+◌, length},
  um_link.specs.um_block.Tallies.counter_plus,
  um_make.{proofs.Lemmas.IsRunInProgress, specs.Generated.generated_events},
}
use Rattle.um_make.proofs.run.make.Given as goal

abbrev pub invariant-loop-event : goal.invariant-loop-event
invariant-loop-event g l = record {
  underway : IsRunInProgress l.fn.tsc (generated_events l.fn.n) l.script l.world l.summary;
  sent : g.R.Radio.sent l.radio ≡ counter_plus l.summary.sent_blocks (g.R.Radio.sent l.fn.radio);
  heard : g.R.Radio.heard l.radio ≡ counter_plus (l.summary.good_blocks + l.summary.bad_blocks) (g.R.Radio.heard l.fn.radio);
}

abbrev pub decreases-loop-event : goal.decreases-loop-event
decreases-loop-event g l = length l.script
