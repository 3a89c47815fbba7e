use Rattle.std.proofs.Common.{sym, ◌∙◌}
use Rattle.std.proofs.lemmas.Bool.{false≢true}
use Rattle.lapdm_datalink.specs.Parts.{values_of_parts}
use Rattle.lapdm_datalink.proofs.Lemmas.{some_endpoint, some_answer, some_link}
use Rattle.lapdm_datalink.proofs.parts.LinkView.is_link.Goals as goal

pub returns-then-has_answer_block_if_any : goal.returns-then-has_answer_block_if_any
returns-then-has_answer_block_if_any c =
    let x = values_of_parts c.args.self.now in (
      λ s. some_link x (c.is_endpoint.ensures.0 s) (c.has_answer_block_if_any.ensures.0 c.if-has_answer_block_if_any.true),
      λ h. c.is_endpoint.ensures.1 (some_endpoint x h),
    )

pub returns-else-has_answer_block_if_any : goal.returns-else-has_answer_block_if_any
returns-else-has_answer_block_if_any c = (
  λ s. absurd (false≢true (sym c.if-has_answer_block_if_any.false ∙ s)),
  λ h. c.has_answer_block_if_any.ensures.1 (some_answer (values_of_parts c.args.self.now) h),
)
