use Rattle.{
  std.proofs.Common.{◌≡◌, ◌*◌, ◌+◌, ◌-◌, ◌<◌, ◌∷◌, drop, ap, sym, ◌∙◌, subst, arith, map, w16},
  std.{proofs.lemmas.List.{drop-set, length-drop, Elements.{All-take, All-drop}}, specs.Int.cast_signed},
  trellis_decode.{
    specs.{AcsLanes.{HasBranchMetrics, path_metric}, SignedOctets.IsSignedOctet},
    proofs.{
      AcsSteps.{AreSignedOctets-pair, pair_at, pair_at-take_drop, pair_and_after},
      SurvivorLists.{HasDecisionsAndMetrics-more, HasDecisionsAndMetrics-same, HasDecisionsAndMetrics-differences},
      SurvivorLists.{HasDecisionsAndMetrics-even, HasDecisionsAndMetrics-odd},
      AcsVectors.AbsFit16Bits-signed,
    },
  },
  lanes.{proofs.Lanes.{bits_of, cast_lanes-each}, specs.Lanes.lane},
}
use Rattle.trellis_decode.proofs.trellis.fill_decision_rows.Goals as goal

pub four_branch_metrics-branch_metrics-requires-clause-octets : goal.four_branch_metrics-branch_metrics-requires-clause-octets
four_branch_metrics-branch_metrics-requires-clause-octets c = All-take IsSignedOctet _ _ (All-drop IsSignedOctet _ _ c.requires.octets)

pub new-step-requires-clause-even : goal.new-step-requires-clause-even
new-step-requires-clause-even c =
    HasDecisionsAndMetrics-even _ _ _ _ c.loop-k.values.odd_states.lanes c.loop-k.invariant.decided
    (omega (arith, length-drop (c.args.first + c.loop-k.k) c.loop-k.rows)) c.loop-k.invariant.even.count

pub new-step-requires-clause-odd : goal.new-step-requires-clause-odd
new-step-requires-clause-odd c =
    HasDecisionsAndMetrics-odd _ _ _ c.loop-k.values.even_states.lanes _ c.loop-k.invariant.decided
    (omega (arith, length-drop (c.args.first + c.loop-k.k) c.loop-k.rows)) c.loop-k.invariant.odd.count

pub new-step-requires-clause-close : goal.new-step-requires-clause-close
new-step-requires-clause-close c = HasDecisionsAndMetrics-differences _ _ _ _ _ c.loop-k.invariant.decided

pub loop-k-preserved : goal.loop-k-preserved
loop-k-preserved c =
    let soft = c.args.soft.now in
    let rows = c.loop-k.rows in
    let losses = c.loop-k.losses in
    let k = c.loop-k.k in
    let at = c.args.first + k in
    let j = c.args.first + (k - 1) in
    let pair = pair_at soft (2 * j) in
    let next : j + 1 ≡ at = omega arith in
    let next_pair : 2 * j + 2 ≡ 2 * at = omega arith in
    let within : k - 1 < 4 = omega arith in
    let has = subst (HasBranchMetrics _)
    (pair_at-take_drop soft (2 * c.args.first) (2 * c.args.first + 8 - 2 * c.args.first) (2 * (k - 1)) (2 * j) (omega arith) (omega arith))
    (c.four_branch_metrics-branch_metrics.ensures.has (k - 1) _ within) in
    let lost = map (cast_signed w16) (bits_of w16 c.new-step.result.losses.lanes) in
    record {
      decided = HasDecisionsAndMetrics-same
          (cc (next, drop-set rows j c.new-step.result.decision_bits (omega (arith, c.loop-k.auto.rows))))
          (ap (λ k. lost ∷ drop k losses) (sym next)
          ∙ sym (drop-set losses j lost (omega (arith, c.loop-k.auto.losses, c.requires.same))))
          (pair_and_after soft (2 * j) (2 * at) next_pair)
          (HasDecisionsAndMetrics-more (path_metric c.loop-k.values) (path_metric c.new-step.result.values) lost pair (drop (2 * at) soft)
          (drop at rows) (drop at losses) c.new-step.result.decision_bits has.count (AreSignedOctets-pair soft (2 * j) c.requires.octets)
          (c.new-step.ensures.each pair has)
          (λ s lt. ap (λ l. lane l s) (cast_lanes-each w16 16 _ (AbsFit16Bits-signed _ c.new-step.ensures.lanes))
          ∙ c.new-step.ensures.losses pair has s lt) c.loop-k.invariant.decided);
      even = c.new-step.ensures.even;
      odd = c.new-step.ensures.odd;
    }

pub returns-clause-decided : goal.returns-clause-decided
returns-clause-decided c =
    let none : c.args.first + c.loop-k.k ≡ c.args.first = omega arith in rw none at c.loop-k.invariant.decided
