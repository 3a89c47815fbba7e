-- The C struct of the erasure of a burst of FACCH, and the reports on blocks that were received with one.
use Rattle.std.specs.Prelude.{ℕ, ◌≡◌, ℤ, pos, List, MatchOption, Option}
use Rattle.half_bursts.specs.Halves.{joined_block}
use Rattle.um_block.specs.Received.{IsReceivedTsc}
use Rattle.um_erasing.specs.Erasing.{wrong_training_of_bursts}
use Rattle.um_erasing.specs.ErasingFacch.{IsErasingDecodedFacch}
use Rattle.um_erasing.specs.declared.facch.ErasingDecodedFacch.{ErasingDecodedFacch}
use Rattle.um_c.specs.Reports.{ReportsBlock}
use Rattle.um_c.specs.SlotCalls.{decoded_bursts, tried}
use Rattle.um_c.specs.declared.blocks.BlockReport.{BlockReport}
use Rattle.um_c.specs.declared.facch_erasing.FacchErasure.{FacchErasure}

-- the four bursts of the block that was decoded in the end: without the burst that was erased, if one was
abbrev pub decoded_block : (bursts : List (List ℤ)) (erased : Option ℕ) → List (List ℤ)
decoded_block bursts erased = joined_block (pos 0) (decoded_bursts bursts erased)

-- `report`, `rank` and `erasure` are the report on a block that these bursts carry, of which at most `max_words` words were tried, and as
-- many without each of at most `erasures` bursts
pub record IsFacchReport (bursts : List (List ℤ)) (max_words erasures rank : ℕ) (report : BlockReport) (erasure : FacchErasure) : Type
    0 where
  pub received : ErasingDecodedFacch
  pub is_received : IsErasingDecodedFacch bursts max_words erasures received
  pub reports_block : ReportsBlock (decoded_block bursts received.erased) received.block.report report
  pub same_rank : rank ≡ received.block.rank
  pub wrong_training : erasure.wrong_training ≡ received.wrong_training
  pub erased : MatchOption received.erased (erasure.erased ≡ 8) (λ index. erasure.erased ≡ index)

-- the report on such a block of which words and erasures are tried only where the three best bursts of the joined block have at most
-- `limit` wrong training bits, of the training sequence that its four bursts have
pub record IsLimitedFacchReport (bursts : List (List ℤ)) (max_words erasures limit rank : ℕ) (report : BlockReport)
    (erasure : FacchErasure) : Type 0 where
  pub tsc : ℕ
  pub detected : IsReceivedTsc (joined_block (pos 0) bursts) tsc
  pub reported : IsFacchReport bursts (tried limit (wrong_training_of_bursts (joined_block (pos 0) bursts) tsc) max_words 1)
      (tried limit (wrong_training_of_bursts (joined_block (pos 0) bursts) tsc) erasures 0) rank report erasure
