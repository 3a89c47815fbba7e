use Rattle.{
  std.proofs.Common.refl,
  um_lines.{specs.LinkForms.{mobile_call_line_forms, network_call_line_forms, end_command_line_forms}, proofs.FormLaws.one_meaning},
}
use Rattle.um_lines.proofs.laws.law_end_line_syntax_is_unambiguous.Goals as goal

pub returns-clause-mobile : goal.returns-clause-mobile
returns-clause-mobile c = λ _ line. one_meaning (end_command_line_forms mobile_call_line_forms) _ line refl

pub returns-clause-network : goal.returns-clause-network
returns-clause-network c = λ _ line. one_meaning (end_command_line_forms network_call_line_forms) _ line refl
