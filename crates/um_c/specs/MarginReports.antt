-- The C struct that reports the two most likely words of a block.
use Rattle.std.specs.Prelude.{◌≡◌, ◌↔◌, ℤ, pos, ◌-ℤ◌, List, map}
use Rattle.um_block.specs.bit_blocks.SoftValues.{likelihood}
use Rattle.um_block.specs.conv_code.Code.{encoding}
use Rattle.um_block.specs.conv_code.Likelihood.{IsMostLikely}
use Rattle.um_block.specs.interleave.Bursts.{IsInterleaved}
use Rattle.um_list_receive.specs.list_decode.Ranking.{IsSecondMostLikely, IsLikelihoodMargin, HasTiedWord}
use Rattle.um_block.specs.Received.{coded_soft_bits}
use Rattle.um_c.specs.declared.margins.MarginReport.{MarginReport}

-- the report contains the most likely word of four bursts, the second most likely word, and the difference between their path metrics,
-- which is 0 if and only if another word is equally likely
pub record IsMarginReport (bursts : List (List ℤ)) (report : MarginReport) : Type 0 where
  pub soft : List ℤ
  pub deinterleaved : IsInterleaved soft (map coded_soft_bits bursts)
  pub best : IsMostLikely soft report.word
  pub next : IsSecondMostLikely soft report.word report.next
  pub margin : IsLikelihoodMargin soft report.word report.margin
  pub margin_is_difference : report.margin ≡ likelihood soft (encoding report.word) -ℤ likelihood soft (encoding report.next)
  pub margin_zero_iff_word_tied : (report.margin ≡ pos 0) ↔ HasTiedWord soft report.word
