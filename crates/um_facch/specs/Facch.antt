-- Blocks of FACCH (GSM 05.03, today 3GPP TS 45.003, sections 4.2 and 4.3): coded as those of the other control channels, and sent in halves
-- of the bursts of a traffic channel. Decoding to the most likely encoder input is this project's own rule.
use Rattle.std.specs.Prelude.{ℕ, ◌≡◌, ℤ, List, take, MatchOption}
use Rattle.half_bursts.specs.Halves.{AreCarried, stolen}
use Rattle.um_block.specs.Sent.{IsSentBlock}
use Rattle.um_block.specs.bit_blocks.Octets.{octets_of}
use Rattle.um_block.specs.bit_blocks.SoftValues.{likelihood}
use Rattle.um_block.specs.fire_code.Words.{IsXcchCodeword}
use Rattle.um_block.specs.conv_code.Code.{encoding}
use Rattle.um_block.specs.conv_code.Likelihood.{IsMostLikely}
use Rattle.um_block.specs.declared.received.Received.{Received}
use Rattle.um_list_receive.specs.ListDecoding.{IsBlockChoice}
use Rattle.um_list_receive.specs.declared.reports.ListDecodedBlock.{ListDecodedBlock}
use Rattle.um_facch.specs.Training.{IsDetectedTsc, wrong_training_of_all}

-- the bursts `new` are `old` with a block of 23 octets and training sequence code `tsc` in its halves of them
pub record IsSentFacch (octets : List ℕ) (tsc : ℕ) (old new : List (List ℕ)) : Type 0 where
  pub block : List (List ℕ)
  pub sent : IsSentBlock octets tsc block
  pub halves : new ≡ stolen block old

-- `report` is the report of a block that these bursts carry. Its `accepted` holds the 23 octets if the Fire code bits match, and is `None`
-- otherwise; its training bits are those of all bursts
pub record IsReceivedFacch (bursts : List (List ℤ)) (report : Received) : Type 0 where
  pub soft : List ℤ
  pub carried : AreCarried soft bursts
  pub best : IsMostLikely soft report.u
  pub metric : report.metric ≡ likelihood soft (encoding report.u)
  pub tsc : IsDetectedTsc bursts report.tsc
  pub wrong_training : report.wrong_training ≡ wrong_training_of_all bursts report.tsc
  pub accepted : MatchOption report.accepted
      (¬ IsXcchCodeword (take 224 report.u))
      (λ octets. IsXcchCodeword (take 224 report.u) × (octets ≡ octets_of (take 184 report.u)))

-- `decoded` is the report of a block that these bursts carry, after a search through its `max_words` most likely words
pub record IsListDecodedFacch (bursts : List (List ℤ)) (max_words : ℕ) (decoded : ListDecodedBlock) : Type 0 where
  pub soft : List ℤ
  pub carried : AreCarried soft bursts
  pub choice : IsBlockChoice soft max_words decoded.rank decoded.report.u decoded.report.accepted
  pub metric : decoded.report.metric ≡ likelihood soft (encoding decoded.report.u)
  pub tsc : IsDetectedTsc bursts decoded.report.tsc
  pub wrong_training : decoded.report.wrong_training ≡ wrong_training_of_all bursts decoded.report.tsc
