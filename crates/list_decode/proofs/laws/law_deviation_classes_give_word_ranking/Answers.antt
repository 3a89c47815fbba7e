use Rattle.list_decode.proofs.Classes.{begins_ranked, goes_on_ranked, ends_ranked}
use Rattle.list_decode.proofs.laws.law_deviation_classes_give_word_ranking.Goals as goal

pub returns-clause-begins : goal.returns-clause-begins
returns-clause-begins c = begins_ranked

pub returns-clause-goes_on : goal.returns-clause-goes_on
returns-clause-goes_on c = goes_on_ranked

pub returns-clause-ends : goal.returns-clause-ends
returns-clause-ends c = ends_ranked
