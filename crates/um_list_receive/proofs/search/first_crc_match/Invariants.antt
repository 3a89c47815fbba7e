use Rattle.{
  std.{proofs.Common.{◌≡◌, length}, specs.List.All},
  list_decode.specs.Ranking.IsRanked,
  um_list_receive.specs.ListDecoding.BlockCrcHolds,
}
use Rattle.um_list_receive.proofs.search.first_crc_match.Given as goal

-- the words tried so far are the first words in the ranking, and none of their CRCs holds
abbrev pub invariant-loop-tried : goal.invariant-loop-tried
invariant-loop-tried l =
    (l.ranked.soft ≡ l.soft) × (length l.ranked.returned ≡ l.tried) × IsRanked l.soft l.ranked.returned
    × All (λ v. ¬ BlockCrcHolds v) l.ranked.returned
