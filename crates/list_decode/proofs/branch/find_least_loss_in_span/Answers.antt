use Rattle.{
  std.proofs.Common.{arith, rules, ◌≡◌, ◌+◌, ◌<◌, ◌≤◌, [], pos, ◌-ℤ◌, get_or, take, refl, ap, ap₂, sym, subst},
  std.proofs.{Common.{◌∙◌, to_z, of_z, w16, FitsSigned, ℕ, List}, lemmas.Int.to_z-of_z},
  trellis_decode.specs.Trellis.next_trellis_state,
  list_decode.{
    specs.{Branches.is_in_range, DeviatingWords.{IsLeastLossFreePosition, deviation_loss, state_after_bits}, LeastLosses.IsLeastLossSoFar},
    proofs.{Spans.{is_possible_deviation, least_so_far-first}, DeviatingWords.{state_after-more, state_after-below}},
  },
}
use Rattle.list_decode.proofs.branch.find_least_loss_in_span.Goals as goal

pub loop-k-init : goal.loop-k-init
loop-k-init c =
    let u = c.args.list.now in
    let losses = c.args.losses.now in
    let span = c.args.span.now in
    let from = c.from-from.result in
    let is_from = c.from-from.ensures in
    let is_to = c.from-to.ensures in
    let order = c.if-from-to.false in
    let end = c.requires.end in
    let fits : FitsSigned w16 (get_or (get_or losses from []) c.from-state.result (pos 0)) = search rules in
    let state : c.from-state.result ≡ state_after_bits 0 (take from u) =
    c.from-state.ensures ∙ c.requires.state ∙ ap (λ from. state_after_bits 0 (take from u)) (sym is_from) in
    let lost : to_z w16 (of_z w16 (get_or (get_or losses from []) c.from-state.result (pos 0))) ≡ deviation_loss 0 u losses from =
    to_z-of_z w16 _ fits ∙ ap (λ s. get_or (get_or losses from []) s (pos 0)) state in
    let is = c.new-best.ensures in
    record {
      small = omega arith;
      state = ap₂ next_trellis_state state c.from.ensures ∙ sym (state_after-more u from 0 (omega arith));
      best = subst (λ k. IsLeastLossSoFar u losses (is_in_range k (from + 1)) (from + 1) c.new-best.result) is_from
          (least_so_far-first u losses from c.new-best.result is.index (is.state ∙ state)
          (is.loss_limit ∙ ap (λ loss. loss -ℤ pos (get_or u from 0)) lost));
    }

pub loop-k-preserved : goal.loop-k-preserved
loop-k-preserved c =
    let k = c.loop-k.k in
    let u = c.args.list.now in
    let losses = c.args.losses.now in
    let span = c.args.span.now in
    let old = c.loop-k.invariant in
    let is_from = c.from-from.ensures in
    let is_to = c.from-to.ensures in
    let end = c.requires.end in
    let fits : FitsSigned w16 (get_or (get_or losses k []) c.loop-k.state (pos 0)) = search rules in
    let lost : to_z w16 (of_z w16 (get_or (get_or losses k []) c.loop-k.state (pos 0))) ≡ deviation_loss 0 u losses k =
    to_z-of_z w16 _ fits ∙ ap (λ s. get_or (get_or losses k []) s (pos 0)) old.state in
    record {
      small = omega arith;
      state = ap₂ next_trellis_state old.state c.from-in-loop-k.ensures ∙ sym (state_after-more u k 0 (omega arith));
      best = c.or_later_position_if_better-best.ensures u losses span.from old.best old.state lost refl c.requires.bits;
    }

state-below_16 : (u : List ℕ) (index state : ℕ) → state ≡ state_after_bits 0 (take index u) → state < 16
state-below_16 u index state is = subst (λ s. s < 16) (sym is) (state_after-below 0 (take index u) (omega arith))

pub offset_bounds-losses-best-2 : goal.offset_bounds-losses-best-2
offset_bounds-losses-best-2 c =
    let small = state-below_16 c.args.list.now c.loop-k.best.index c.loop-k.best.state c.loop-k.invariant.best.state in
    search rules

pub bounds-losses-best-after-loop-k : goal.bounds-losses-best-after-loop-k
bounds-losses-best-after-loop-k c =
    state-below_16 c.args.list.now c.loop-k.best.index c.loop-k.best.state c.loop-k.invariant.best.state

pub returns : goal.returns
returns c =
    let u = c.args.list.now in
    let losses = c.args.losses.now in
    let span = c.args.span.now in
    let best = c.loop-k.best in
    let old = c.loop-k.invariant.best in
    let fits : FitsSigned w16 (get_or (get_or losses best.index []) best.state (pos 0)) = search rules in
    let lost : to_z w16 (of_z w16 (get_or (get_or losses best.index []) best.state (pos 0))) ≡ deviation_loss 0 u losses best.index =
    to_z-of_z w16 _ fits ∙ ap (λ s. get_or (get_or losses best.index []) s (pos 0)) old.state in
    let is = c.new.ensures in
    let is_from = c.from-from.ensures in
    let is_to = c.from-to.ensures in
    let order = c.if-from-to.false in
    let some : c.from-from.result + 1 ≤ c.from-to.result = omega arith in
    let high = c.loop-k.auto.k-end some in
    let end : c.loop-k.k ≡ span.to = omega arith in (
      is_possible_deviation u _ best.index best.state _ _ c.requires.bits old.state lost is.index is.state is.loss is.loss_limit,
      subst (λ index. IsLeastLossFreePosition u losses (is_in_range span.from span.to) span.to index) (sym is.index)
          (subst (λ n. IsLeastLossFreePosition u losses (is_in_range span.from n) n best.index) end old.least),
    )
