use Rattle.{
  std.proofs.{Common.{eqb, refl, sym, take, ◌∙◌}, lemmas.{List.length-take-le, Simd.leading_from_mask_l}},
  um_io.proofs.LineFeeds.{count-before, count-before-bits, feed-bits},
}
use Rattle.um_io.proofs.buffer.count_before_line_feed.Goals as goal

pub returns-then-line_feeds-eq0-clause-before : goal.returns-then-line_feeds-eq0-clause-before
returns-then-line_feeds-eq0-clause-before c =
    let octets = c.args.octets.now in
    let none = leading_from_mask_l (λ x. eqb x 10) (take 64 octets) (sym (feed-bits octets c.requires) ∙ c.if-line_feeds-eq0.true) in
    (count-before octets 64 c.requires (sym (none ∙ length-take-le 64 octets c.requires))).1

pub returns-else-line_feeds-eq0-clause-bound : goal.returns-else-line_feeds-eq0-clause-bound
returns-else-line_feeds-eq0-clause-bound c =
    (count-before-bits c.args.octets.now _ c.requires (feed-bits _ c.requires) c.if-line_feeds-eq0.false _ refl).0

pub returns-else-line_feeds-eq0-clause-before : goal.returns-else-line_feeds-eq0-clause-before
returns-else-line_feeds-eq0-clause-before c =
    (count-before-bits c.args.octets.now _ c.requires (feed-bits _ c.requires) c.if-line_feeds-eq0.false _ refl).1

pub returns-else-line_feeds-eq0-clause-found : goal.returns-else-line_feeds-eq0-clause-found
returns-else-line_feeds-eq0-clause-found c =
    (count-before-bits c.args.octets.now _ c.requires (feed-bits _ c.requires) c.if-line_feeds-eq0.false _ refl).2
