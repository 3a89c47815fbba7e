use Rattle.{
  std.proofs.Common.{ap, arith, get_or, sym, ◌∙◌},
  trellis_decode.specs.Trellis.next_trellis_state,
  list_decode.proofs.DeviatingWords.state_after-more,
}
use Rattle.list_decode.proofs.tails.find_merging_index.Goals as goal

pub loop-k-preserved : goal.loop-k-preserved
loop-k-preserved c =
    let old = c.loop-k.invariant in
    let is_to = c.from-k-end.ensures in
    let end = c.requires.end in
    let within = c.loop-k-test.true in
    record {
      small = omega arith;
      state = ap (λ state. next_trellis_state state (get_or c.args.list.now c.loop-k.k 0)) old.state
          ∙ sym (state_after-more c.args.list.now c.loop-k.k 0 (omega arith));
    }
