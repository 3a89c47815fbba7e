use Rattle.{std.proofs.Common.{sym, ap, ◌∙◌}, lapdm_frame.specs.Content.{Frame}}
use Rattle.lapdm_datalink.specs.Links.{is_awaiting_kind}
use Rattle.lapdm_datalink.proofs.Lemmas.{read_back, kept_due, kept_answer}
use Rattle.lapdm_datalink.proofs.links.Link.keep.Goals as goal

pub returns-then-is_awaiting_kind-clause-kept : goal.returns-then-is_awaiting_kind-clause-kept
returns-then-is_awaiting_kind-clause-kept c f l fits is h =
    let same = read_back fits.0 is (rw (c.channel.ensures.represents l.endpoint h.endpoint) at c.in-Ok.ensures.frame) in
    kept_due c.args.self.now f l
    (sym (ap (λ (g : Frame). is_awaiting_kind g.content) same) ∙ sym c.is_awaiting_kind.ensures ∙ c.if-is_awaiting_kind.true) h

pub returns-clause-kept : goal.returns-clause-kept
returns-clause-kept c f l fits is h =
    let same = read_back fits.0 is (rw (c.channel.ensures.represents l.endpoint h.endpoint) at c.in-Ok.ensures.frame) in
    kept_answer c.args.self.now f l c.args.block.now
    (sym (ap (λ (g : Frame). is_awaiting_kind g.content) same) ∙ sym c.is_awaiting_kind.ensures ∙ c.if-is_awaiting_kind.false)
    fits is h
