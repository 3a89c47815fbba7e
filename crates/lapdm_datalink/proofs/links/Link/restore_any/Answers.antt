use Rattle.std.proofs.Common.{sym, ◌∙◌, refl}
use Rattle.std.proofs.lemmas.Bool.{false≢true}
use Rattle.lapdm_datalink.specs.Parts.{values_of_parts}
use Rattle.lapdm_datalink.proofs.Lemmas.{some_endpoint, endpoint_values, some_answer, some_link, link_with_values}
use Rattle.lapdm_datalink.proofs.links.Link.restore_any.Goals as goal

pub returns-then-not-restore-clause-valid : goal.returns-then-not-restore-clause-valid
returns-then-not-restore-clause-valid c = (
  λ s. absurd (false≢true s),
  λ h. absurd (false≢true (sym c.if-not-restore.true ∙ c.restore.ensures.valid.1
      (some_endpoint (values_of_parts c.args.parts.now) h))),
)

pub returns-then-not-has_answer_block_if_any-clause-valid : goal.returns-then-not-has_answer_block_if_any-clause-valid
returns-then-not-has_answer_block_if_any-clause-valid c = (
  λ s. absurd (false≢true s),
  λ h. absurd (false≢true (sym c.if-not-has_answer_block_if_any.true
      ∙ c.has_answer_block_if_any.ensures.1 (some_answer (values_of_parts c.args.parts.now) h))),
)

pub returns-clause-valid : goal.returns-clause-valid
returns-clause-valid c =
    let x = values_of_parts c.args.parts.now in (
      λ s. some_link x (c.restore.ensures.valid.0 c.if-not-restore.false)
          (c.has_answer_block_if_any.ensures.0 c.if-not-has_answer_block_if_any.false),
      λ h. refl,
    )

pub returns-clause-represents : goal.returns-clause-represents
returns-clause-represents c = λ _ l h.
    let x = values_of_parts c.args.parts.now in
    link_with_values x c.restore.new.self l h
    (c.restore.ensures.represents c.if-not-restore.false l.endpoint (endpoint_values x l h))
