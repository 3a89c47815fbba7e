-- Reception with a list decoder: of the most likely words (encoder inputs), the first whose CRC is correct is taken (this project's own
-- rule; GSM 05.03 leaves decoding open).
use Rattle.std.specs.Prelude.{ℕ, ◌≡◌, ◌≤◌, ◌+◌, ◌⊎◌, ℤ, List, [], ◌∷◌, ◌++◌, length, map, take}
use Rattle.std.specs.Prelude.{Option, MatchOption}
use Rattle.std.specs.List.{All, Contains}
use Rattle.um_block.specs.bit_blocks.Octets.{octets_of}
use Rattle.um_block.specs.bit_blocks.SoftValues.{likelihood}
use Rattle.um_block.specs.fire_code.Words.{IsXcchCodeword}
use Rattle.um_block.specs.conv_code.Code.{encoding}
use Rattle.um_block.specs.conv_code.Likelihood.{IsMostLikely}
use Rattle.um_block.specs.interleave.Bursts.{IsInterleaved}
use Rattle.list_decode.specs.Ranking.{IsCandidate, IsRanked}
use Rattle.um_block.specs.Received.{coded_soft_bits, IsReceivedTsc, wrong_training_bits}
use Rattle.um_list_receive.specs.declared.reports.ListDecodedBlock.{ListDecodedBlock}

-- the CRC (the Fire code bits) of a block's encoder input is correct
abbrev pub BlockCrcHolds : List ℕ → Type 0
BlockCrcHolds u = IsXcchCodeword (take 224 u)

-- `word` is the first word in the ranking whose CRC is correct; its `rank`, counted from 1, is at most `max_words`
pub record IsFirstCrcMatch (CrcHolds : List ℕ → Type 0) (soft : List ℤ) (max_words rank : ℕ) (word : List ℕ) : Type 0 where
  pub earlier_words : List (List ℕ)
  pub ranked : IsRanked soft (earlier_words ++ word ∷ [])
  pub rank_follows_earlier_words : rank ≡ length earlier_words + 1
  pub rank_limit : rank ≤ max_words
  pub crcs_fail : All (λ v. ¬ CrcHolds v) earlier_words
  pub crc_holds : CrcHolds word

-- the CRC fails for each of the first `max_words` words in the ranking, or for all words if there are fewer
pub record NoCrcHolds (CrcHolds : List ℕ → Type 0) (soft : List ℤ) (max_words : ℕ) : Type 0 where
  pub tried_words : List (List ℕ)
  pub ranked : IsRanked soft tried_words
  pub all_tried : (length tried_words ≡ max_words) ⊎ ((v : List ℕ) → IsCandidate soft v → Contains tried_words v)
  pub crcs_fail : All (λ v. ¬ CrcHolds v) tried_words

-- of the words tried, the first whose CRC is correct is taken and accepted; if no CRC is correct, the most likely word is taken but not
-- accepted
abbrev pub IsListDecoderChoice : {X : Type 0} (HasCrc : (List ℕ → Type 0)) (data_of : (List ℕ → X)) (soft : List ℤ)
    (max_words rank : ℕ) (word : List ℕ) (accepted : Option X) → Type 0
IsListDecoderChoice CrcHolds data_of soft most rank u accepted =
    MatchOption accepted
    (NoCrcHolds CrcHolds soft most × IsMostLikely soft u × (rank ≡ 1))
    (λ x. IsFirstCrcMatch CrcHolds soft most rank u × (x ≡ data_of u))

-- the same of a block, whose data are 23 octets
abbrev pub IsBlockChoice : (soft : List ℤ) (max_words rank : ℕ) (word : List ℕ) (accepted : Option (List ℕ)) → Type 0
IsBlockChoice soft most rank u accepted = IsListDecoderChoice BlockCrcHolds (λ v. octets_of (take 184 v)) soft most rank u accepted

-- `decoded` is the report of a block, after a search through its `max_words` most likely words
pub record IsListDecodedBlock (bursts : List (List ℤ)) (max_words : ℕ) (decoded : ListDecodedBlock) : Type 0 where
  pub soft : List ℤ
  pub deinterleaved : IsInterleaved soft (map coded_soft_bits bursts)
  pub choice : IsBlockChoice soft max_words decoded.rank decoded.report.u decoded.report.accepted
  pub metric : decoded.report.metric ≡ likelihood soft (encoding decoded.report.u)
  pub tsc : IsReceivedTsc bursts decoded.report.tsc
  pub wrong_training : decoded.report.wrong_training ≡ wrong_training_bits bursts decoded.report.tsc
