use Rattle.std.proofs.Common.{◌≡◌}
use Rattle.um_tests.proofs.ranked_words.count_words_in_rank_order.Given as goal

abbrev pub invariant-loop-count : goal.invariant-loop-count
invariant-loop-count l = l.ranked.soft ≡ l.soft
