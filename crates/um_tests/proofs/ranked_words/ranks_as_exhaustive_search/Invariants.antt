use Rattle.std.proofs.Common.{◌≡◌}
use Rattle.um_tests.proofs.ranked_words.ranks_as_exhaustive_search.Given as goal

abbrev pub invariant-loop : goal.invariant-loop
invariant-loop l = l.ranked.soft ≡ l.soft
