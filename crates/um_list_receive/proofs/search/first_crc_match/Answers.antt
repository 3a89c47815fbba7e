use Rattle.{
  std.proofs.Common.{arith, rules, ◌≡◌, ◌+◌, ℕ, List, [], ◌∷◌, inl, inr, length, length-append, refl, ap, sym, subst},
  std.{proofs.{Common.{◌∙◌, w32, FitsSigned}, lemmas.{Int.to_z-of_z, List.Elements.{All-nil, All-cons, All-append}}}, specs.List.All},
  um_block.specs.conv_code.{Code.encoding, Likelihood.likelihood},
  list_decode.specs.Ranking.IsRanked,
  um_list_receive.{specs.ListDecoding.{BlockCrcHolds, NoCrcHolds}, proofs.Lemmas.{never, one_tried}},
}
use Rattle.um_list_receive.proofs.search.first_crc_match.Goals as goal

pub returns-then-max_rank-eq1 : goal.returns-then-max_rank-eq1
returns-then-max_rank-eq1 c =
    subst (NoCrcHolds BlockCrcHolds c.args.soft.now) (sym c.if-max_rank-eq1.true)
    (one_tried BlockCrcHolds c.args.soft.now c.args.u.now c.requires.best c.requires.fails)

pub loop-tried-init : goal.loop-tried-init
loop-tried-init c =
    let Fails : List ℕ → Type 0 = λ v. ¬ BlockCrcHolds v in
    let is = c.after_first-ranked.ensures in (
      is.soft,
      ap length is.returned,
      subst (λ s. IsRanked s c.after_first-ranked.result.returned) is.soft is.ranked,
      subst (All Fails) (sym is.returned) (All-cons Fails c.args.u.now [] c.requires.fails (All-nil Fails)),
    )

pub loop-tried-preserved : goal.loop-tried-preserved
loop-tried-preserved c =
    let Fails : List ℕ → Type 0 = λ v. ¬ BlockCrcHolds v in
    let earlier_words = c.loop-tried.ranked.returned in
    let u = c.next.new.u in
    let grew = c.in_ok-metric.ensures.returned.0 in
    let soft = c.in_ok-metric.ensures.soft ∙ c.loop-tried.invariant.0 in (
      soft,
      ap length grew ∙ length-append earlier_words (u ∷ []) ∙ ap (λ n. n + 1) c.loop-tried.invariant.1,
      subst (λ s. IsRanked s c.next.new.self.returned) soft c.in_ok-metric.ensures.ranked,
      subst (All Fails) (sym grew)
          (All-append Fails earlier_words (u ∷ []) c.loop-tried.invariant.3
          (All-cons Fails u [] (λ holds. never (c.if-block_crc_holds.ensures.1 holds)) (All-nil Fails))),
    )

pub returns-then-block_crc_holds : goal.returns-then-block_crc_holds
returns-then-block_crc_holds c =
    let u = c.next.new.u in
    let soft = c.in_ok-metric.ensures.soft ∙ c.loop-tried.invariant.0 in
    let next = c.in_ok-metric.ensures.returned in
    let tried = c.loop-tried-test.true in
    let fits : FitsSigned w32 c.in_ok-metric.metric = search rules in (
      record {
        earlier_words = c.loop-tried.ranked.returned;
        ranked = subst (IsRanked c.args.soft.now) next.0
            (subst (λ s. IsRanked s c.next.new.self.returned) soft c.in_ok-metric.ensures.ranked);
        rank_follows_earlier_words = ap (λ n. n + 1) (sym c.loop-tried.invariant.1);
        rank_limit = omega arith;
        crcs_fail = c.loop-tried.invariant.3;
        crc_holds = c.if-block_crc_holds.ensures.0 refl;
      },
      to_z-of_z w32 c.in_ok-metric.metric fits ∙ next.1 ∙ ap (λ s. likelihood s (encoding u)) c.loop-tried.invariant.0,
      c.in_ok-metric.ensures.information,
    )

pub returns : goal.returns
returns c =
    let old = c.loop-tried.invariant in
    let end : c.loop-tried.tried ≡ c.args.max_rank =
    let high = c.loop-tried.auto.tried-end c.requires.at_least in let all = c.loop-tried-test.false in omega arith in
    record {
      tried_words = c.loop-tried.ranked.returned;
      ranked = old.2;
      all_tried = inl (old.1 ∙ end);
      crcs_fail = old.3;
    }

pub returns-in_err-metric : goal.returns-in_err-metric
returns-in_err-metric c =
    let old = c.loop-tried.invariant in
    let tried = c.loop-tried-test.true in
    let none : NoCrcHolds BlockCrcHolds c.args.soft.now c.args.max_rank = record {
      tried_words = c.loop-tried.ranked.returned;
      ranked = old.2;
      all_tried = elim (c.in_err-metric.ensures.done.0 (search rules)) [
        | inl many ↦ absurd (omega (arith, old.1, many, c.requires.at_most))
        | inr all ↦ inr (λ v is. all v (rw old.0 is))
      ];
      crcs_fail = old.3;
    } in rw c.from_residual.ensures none
