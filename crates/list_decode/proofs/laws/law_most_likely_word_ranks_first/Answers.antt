use Rattle.list_decode.proofs.Rankings.{most_likely_is_ranked, second_is_ranked, beginning_is_ranked, one_ranking, first_to_pass_is_best}
use Rattle.list_decode.proofs.laws.law_most_likely_word_ranks_first.Goals as goal

pub returns-clause-one : goal.returns-clause-one
returns-clause-one c = most_likely_is_ranked

pub returns-clause-two : goal.returns-clause-two
returns-clause-two c = second_is_ranked

pub returns-clause-beginning : goal.returns-clause-beginning
returns-clause-beginning c = beginning_is_ranked

pub returns-clause-only : goal.returns-clause-only
returns-clause-only c = one_ranking

pub returns-clause-first : goal.returns-clause-first
returns-clause-first c = first_to_pass_is_best
