-- The proof combines the results of `decode` and `margin`, which find the same most likely word.
use Rattle.{
  std.proofs.{Common.{ap, rules, w32, FitsSigned, ◌∙◌}, lemmas.Int.to_z-of_z},
  um_block.{proofs.conv_code.Lemmas.IsMostLikely-only, specs.{bit_blocks.SoftValues.likelihood, conv_code.Code.encoding}},
}
use Rattle.um_margin.proofs.Lemmas.{compared_words-only}
use Rattle.um_margin.proofs.comparison.compare_words.Goals as goal

pub returns-clause-compares : goal.returns-clause-compares
returns-clause-compares g c =
    let first = c.decode-metric.ensures in
    let both = c.margin-ahead.ensures in
    let margin_fits : FitsSigned w32 c.margin-ahead.result = search rules in
    let metric_fits : FitsSigned w32 c.decode-metric.result = search rules in
    let is_u = c.from_array.ensures.value in
    let is_v = c.from_array-2.ensures.value in
    let is_m = to_z-of_z w32 c.margin-ahead.result margin_fits in
    record {
      best = rw is_u both.best;
      next = rw (is_u, is_v) both.second;
      margin = rw (is_u, is_m) both.margin;
      margin_is_difference = rw (is_m, is_u, is_v) both.value;
      metric = to_z-of_z w32 c.decode-metric.result metric_fits ∙ first.value
          ∙ rw is_u (ap (λ w. likelihood c.args.soft.now (encoding w)) (IsMostLikely-only _ _ _ both.best first.best));
    }

pub returns-clause-value : goal.returns-clause-value
returns-clause-value g c = compared_words-only _ _ _ c.requires.count c.requires.at_least (returns-clause-compares g c)
