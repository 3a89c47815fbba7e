use Rattle.um_make.proofs.Lemmas.{generated_session}
use Rattle.um_make.proofs.law_generated_answers_are_a_session.Goals as goal

pub returns : goal.returns
returns c = generated_session
