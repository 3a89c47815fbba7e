-- The value and the invariant of the list decoder `ListDecoder`.
use Rattle.list_decode.specs.Ranking.{Ranking}
use Rattle.list_decode.specs.Words.{IsRankingSoFar, ranking_of}
use Rattle.list_decode.specs.declared.ranked.ListDecoder.TheInside.{Inside}

abbrev pub ranking_of_decoder : Inside → Ranking
ranking_of_decoder decoder = ranking_of decoder.words

abbrev pub IsSoundListDecoder : Inside → Type 0
IsSoundListDecoder decoder = IsRankingSoFar decoder.words
