use Rattle.{
  std.proofs.{Common.{◌≡◌, ◌∙◌, sym, ap, rules, [], ◌+◌, ◌∷◌, ◌++◌, take, arith}, lemmas.List.take_more},
  um_link.specs.lapdm_window.declared.Notice.Notice,
  um_make.proofs.Lemmas.counts-append,
}
use Rattle.um_make.proofs.end_summary.EndpointSummary.count_notices.Goals as goal

pub loop-notice-preserved : goal.loop-notice-preserved
loop-notice-preserved c =
    let i = c.loop-notice.notice-index in
    let ns = c.args.notices.now in
    let n = c.notice-item.result in
    let next : take (i + 1) ns ≡ take i ns ++ n ∷ [] = take_more ns i n (omega arith)
    ∙ ap (λ (m : Notice). take i ns ++ m ∷ []) (sym c.notice-item.is) in
    let old = c.loop-notice.invariant in
    record {
      counts = rw next (counts-append (take i ns) (n ∷ []) _ _ _ old.counts c.count_notice.ensures.counts);
      most = search rules;
    }
