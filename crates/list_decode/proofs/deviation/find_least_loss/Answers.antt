use Rattle.{
  std.proofs.Common.{arith, ◌≡◌, ◌-◌, List, [], ◌++◌, ℕ, length, take, drop, ap, ap₂, sym, subst, ◌∙◌},
  std.proofs.lemmas.List.{append-nil, drop_all, length-drop, take-append-drop, take_all},
  trellis_decode.{proofs.Lemmas.length-traceback, specs.Trellis.traceback},
  list_decode.{specs.DeviatingWords.state_after_bits, proofs.DeviatingWords.traceback-drop},
}
use Rattle.list_decode.proofs.deviation.find_least_loss.Goals as goal

pub returns-clause-list : goal.returns-clause-list
returns-clause-list c =
    let rows = c.args.rows.now in
    let written = c.loop-k.u in
    let free = length c.args.u.now - 4 in
    let old = c.loop-k.invariant.reading in
    let same : length written ≡ length c.args.u.now = c.loop-k.auto.u ∙ c.trace_back_groups_of_four-reading.auto.u in
    let five = c.requires.at_least in
    let end : c.loop-k.k ≡ free = omega arith in
    let rest : List ℕ = c.trace_back.new.u in
    let behind : drop (length written - free) (drop free written) ≡ [] =
    drop_all (length written - free) (drop free written) (omega (arith, length-drop free written)) in
    let last : rest ≡ drop free (traceback rows 0) =
    c.trace_back.ensures
    ∙ ap₂ traceback (take_all (length rows - free) (drop free rows) (omega (arith, length-drop free rows)))
    (old.state ∙ ap (λ k. state_after_bits 0 (take k (traceback rows 0))) end)
    ∙ sym (traceback-drop rows 0 free (let count = c.requires.rows in omega arith)) in
    ap (λ none. take free written ++ (rest ++ none)) behind
    ∙ ap₂ (λ front rest. front ++ rest) (subst (λ k. take k written ≡ take k (traceback rows 0)) end old.bits_traced)
    (append-nil rest
    ∙ last)
    ∙ take-append-drop free (traceback rows 0)

pub returns-clause-least : goal.returns-clause-least
returns-clause-least c =
    let u = traceback c.args.rows.now 0 in
    let end : c.loop-k.k ≡ length u - 4 = omega (arith, length-traceback c.args.rows.now 0, c.requires.rows, c.requires.at_least) in
    rw (returns-clause-list c, ← end) c.loop-k.invariant.reading.best.least

pub returns-clause-state : goal.returns-clause-state
returns-clause-state c = rw (returns-clause-list c) c.loop-k.invariant.reading.best.state

pub returns-clause-within : goal.returns-clause-within
returns-clause-within c = rw (returns-clause-list c) c.loop-k.invariant.reading.best.in_range
