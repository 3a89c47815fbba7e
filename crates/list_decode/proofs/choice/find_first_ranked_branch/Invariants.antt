use Rattle.{
  std.{proofs.Common.{◌≡◌, None, negsuc, take}, specs.Prelude.{IfSome, ◌≤ℤ◌}},
  list_decode.specs.{Choices.IsFirstRankedBranch, Words.{DeviatesFromWords, open_branches, returned_words}},
}
use Rattle.list_decode.proofs.choice.find_first_ranked_branch.Given as goal

abbrev pub invariant-loop-i : goal.invariant-loop-i
invariant-loop-i l = record {
  first : IsFirstRankedBranch l.words.pass (returned_words l.words) (take l.i (open_branches l.words)) l.first;
  least : IfSome l.first (λ choice. l.least ≤ℤ choice.deviation.metric);
  none : l.first ≡ None → l.least ≡ negsuc 2147483647;
  deviation : IfSome l.first (λ choice. DeviatesFromWords l.words choice.deviation);
}
