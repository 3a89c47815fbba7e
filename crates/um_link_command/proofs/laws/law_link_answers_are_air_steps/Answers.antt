use Rattle.um_script.proofs.ScriptLines.{script_line_means}
use Rattle.um_link_command.proofs.Lemmas.{answer_is_air_step}
use Rattle.um_link_command.proofs.laws.law_link_answers_are_air_steps.Goals as goal

pub returns : goal.returns
returns c = record {
  step = λ tsc channel lines answers session line event within. answer_is_air_step tsc channel within lines answers session line event;
  line = script_line_means;
}
