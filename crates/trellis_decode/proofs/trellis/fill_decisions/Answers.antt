use Rattle.{
  std.proofs.{
    Common.{◌≡◌, ◌*◌, ◌+◌, ◌-◌, ◌/◌, ◌%◌, drop, length, arith},
    lemmas.List.{length-drop, Elements.{All-take, All-drop}},
  },
  trellis_decode.{
    specs.{AcsLanes.path_metric, SignedOctets.IsSignedOctet},
    proofs.{SurvivorLists.HasDecisionsAndMetrics-tail, Viterbi.IsSurvivor-to_end},
  },
}
use Rattle.trellis_decode.proofs.trellis.fill_decisions.Goals as goal

pub path_metrics_before_tail-values-requires-clause-octets : goal.path_metrics_before_tail-values-requires-clause-octets
path_metrics_before_tail-values-requires-clause-octets c =
    All-take IsSignedOctet _ _ (All-drop IsSignedOctet _ _ c.prove_octet_range.ensures)

pub loop-group-init : goal.loop-group-init
loop-group-init c =
    let soft = c.args.soft.now in
    let rows = c.args.rows.now in
    let losses = c.args.losses.now in
    let last = length rows - 4 in
    let at : last ≡ length rows % 4 + 4 * (length rows / 4 - 1) = omega (arith, c.requires.at_least) in
    record {
      decided = rw (← at) (HasDecisionsAndMetrics-tail (drop last rows) (drop last losses) (drop (2 * last) soft)
          (path_metric c.path_metrics_before_tail-values.result) (omega (arith, length-drop last rows, c.requires.at_least))
          (omega (arith, length-drop last losses, c.requires.same, c.requires.at_least))
          (omega (arith, length-drop (2 * last) soft, c.requires.count, c.requires.at_least))
          (All-drop IsSignedOctet (2 * last) soft c.prove_octet_range.ensures) (All-drop (λ row. row ≡ 0) last rows c.requires.blank)
          (λ s lt. IsSurvivor-to_end s (2 * last) _ soft _ (c.path_metrics_before_tail-values.ensures.best s lt)));
      even = c.path_metrics_before_tail-values.ensures.even;
      odd = c.path_metrics_before_tail-values.ensures.odd;
    }
