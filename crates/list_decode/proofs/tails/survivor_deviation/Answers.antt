use Rattle.{
  std.proofs.Common.{arith, rules, ◌≡◌, ◌<◌, ◌/◌, ◌^◌, [], ℤ, pos, ◌-ℤ◌, get_or, take, refl, ap, sym, ◌∙◌},
  std.proofs.{Common.{subst, bit_and, to_z, of_z, w16, FitsSigned}, lemmas.{Int.to_z-of_z, Nat.and_mask}},
  trellis_decode.specs.Trellis.traceback,
  list_decode.proofs.{DeviatingWords.state_after-below, Spans.IsPossibleDeviation-survivor},
}
use Rattle.list_decode.proofs.tails.survivor_deviation.Goals as goal

pub overflow_shr-bit : goal.overflow_shr-bit
overflow_shr-bit c =
    let k = c.args.k in
    subst (λ s. s < 16) (sym (c.requires.states k c.requires.within))
    (state_after-below 0 (take k (traceback c.args.rows.now 0)) (omega arith))

pub bounds-losses-from : goal.bounds-losses-from
bounds-losses-from c =
    let k = c.args.k in
    subst (λ s. s < 16) (sym (c.from-2.ensures ∙ c.requires.states k c.requires.within))
    (state_after-below 0 (take k (traceback c.args.rows.now 0)) (omega arith))

pub returns-clause-possible : goal.returns-clause-possible
returns-clause-possible c =
    let rows = c.args.rows.now in
    let losses = c.args.losses.now in
    let k = c.args.k in
    let state = get_or c.args.states.now k 0 in
    let bit = bit_and (get_or rows k 0 / 2 ^ state) 1 in
    let lost : ℤ = get_or (get_or losses k []) state (pos 0) in
    let fits : FitsSigned w16 (get_or (get_or losses k []) c.from-2.result (pos 0)) = search rules in
    let is_lost : to_z w16 (of_z w16 (get_or (get_or losses k []) c.from-2.result (pos 0))) ≡ lost =
    to_z-of_z w16 _ fits ∙ ap (λ s. get_or (get_or losses k []) s (pos 0)) c.from-2.ensures in
    let new = c.new.ensures in
    IsPossibleDeviation-survivor rows losses k state bit lost c.new.result c.requires.within (c.requires.states k c.requires.within) refl
    (and_mask (get_or rows k 0 / 2 ^ state) 1) new.index (new.state ∙ c.from.ensures) (new.loss ∙ is_lost)
    (new.loss_limit ∙ ap (λ lost. lost -ℤ pos bit) is_lost)
