use Rattle.{
  half_bursts.{
    proofs.{Halves.IsBurst, Loops.set-more, Stolen.{stolen-carried, stolen-joined}, stealing.steal.Goals.After-loop-index-2},
    specs.Halves.{AreCarried, joined_block, other_half, stolen_burst, with_half},
  },
  std.{
    proofs.Common.{[], ap, arith, get_or, length, subst, sym, ◌%◌, ◌∙◌, ◌≡◌},
    proofs.lemmas.List.{ext_get_or, get_or-set_other, get_or_default, length-set},
    proofs.lemmas.List.FromFn.{get_or-map-range_with_len, length-map-range_with_len},
    specs.List.All,
  },
}
use Rattle.half_bursts.proofs.stealing.steal.Goals as goal

each_burst : (c : After-loop-index-2) → All IsBurst c.args.block.now
each_burst c b d lt =
    let block = c.args.block.now in
    ap length (get_or_default block b d [] lt) ∙ c.loop-index-2.invariant.3 b (omega arith)

pub loop-index-2-preserved : goal.loop-index-2-preserved
loop-index-2-preserved c =
    let block = c.args.block.now in
    let old = c.args.bursts.now in
    let bursts = c.loop-index-2.bursts in
    let i = c.loop-index-2.index in
    let kept = c.loop-index-2.invariant in (
      length-set bursts i c.steal_even.new.into ∙ kept.0,
      set-more (λ k x. x ≡ stolen_burst block old k) bursts i c.steal_even.new.into [] (omega (arith, kept.0)) kept.1
          (c.steal_even.ensures.value
          ∙ ap (with_half (other_half (length old) i) (get_or block (i % 4) [])) (kept.2 i (omega arith))),
      λ k h. get_or-set_other bursts i k c.steal_even.new.into [] (omega arith) ∙ kept.2 k (omega arith),
      kept.3,
    )

pub returns-clause-value : goal.returns-clause-value
returns-clause-value c =
    let block = c.args.block.now in
    let old = c.args.bursts.now in
    let long = length-map-range_with_len (stolen_burst block old) 0 (length old) in
    ext_get_or [] _ _ (omega (arith, c.loop-index-2.invariant.0))
    (λ k h. c.loop-index-2.invariant.1 k (omega (arith, c.loop-index-2.invariant.0))
    ∙ sym (get_or-map-range_with_len (stolen_burst block old) 0 (length old) k k [] (omega (arith, c.loop-index-2.invariant.0))
    (omega arith)))

pub returns-clause-joined : goal.returns-clause-joined
returns-clause-joined c =
    ap (joined_block 0) (returns-clause-value c)
    ∙ stolen-joined c.args.block.now c.args.bursts.now (omega arith) (each_burst c) c.requires.at_least c.requires.at_most

pub returns-clause-carried : goal.returns-clause-carried
returns-clause-carried c coded spread =
    subst (AreCarried coded) (sym (returns-clause-value c))
    (stolen-carried c.args.block.now c.args.bursts.now (omega arith) (each_burst c) c.requires.at_least c.requires.at_most coded spread)
