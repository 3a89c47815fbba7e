-- The C structs of the reports on received bursts.
use Rattle.std.specs.Prelude.{ℕ, ◌≡◌, ℤ, List, map, replicate, MatchOption}
use Rattle.um_block.specs.bit_blocks.SoftValues.{count_wrong_bits}
use Rattle.um_block.specs.conv_code.Code.{encoding}
use Rattle.um_block.specs.interleave.Bursts.{IsInterleaved}
use Rattle.um_block.specs.declared.received.Received.{Received}
use Rattle.um_block.specs.declared.received.ReceivedAccess.{ReceivedAccess}
use Rattle.um_block.specs.declared.received.ReceivedSync.{ReceivedSync}
use Rattle.um_block.specs.Received.{IsReceivedBlock, IsReceivedAccess, IsReceivedSync, coded_soft_bits, access_soft_bits, sync_soft_bits}
use Rattle.um_list_receive.specs.declared.reports.ListDecodedBlock.{ListDecodedBlock}
use Rattle.um_list_receive.specs.ListDecoding.{IsListDecodedBlock}
use Rattle.um_c.specs.declared.blocks.BlockReport.{BlockReport}
use Rattle.um_c.specs.declared.bursts.AccessReport.{AccessReport}
use Rattle.um_c.specs.declared.bursts.SyncReport.{SyncReport}

-- the C struct `report` contains the report `received`, the number of wrong bits among the 456 coded bits, and the 23 octets if the CRC
-- holds, otherwise zeros
pub record ReportsBlock (bursts : List (List ℤ)) (received : Received) (report : BlockReport) : Type 0 where
  pub word : report.word ≡ received.u
  pub metric : report.metric ≡ received.metric
  pub tsc : report.tsc ≡ received.tsc
  pub wrong_training : report.wrong_training ≡ received.wrong_training
  pub wrong_coded : (soft : List ℤ) → IsInterleaved soft (map coded_soft_bits bursts) →
      report.wrong_coded ≡ count_wrong_bits soft (encoding received.u)
  pub accepted : MatchOption received.accepted
      ((report.accepted ≡ 0) × (report.octets ≡ replicate 23 0))
      (λ octets. (report.accepted ≡ 1) × (report.octets ≡ octets))

-- `report` is the report on the block received from four bursts
pub record IsBlockReport (bursts : List (List ℤ)) (report : BlockReport) : Type 0 where
  pub received : Received
  pub is_received : IsReceivedBlock bursts received
  pub reports_block : ReportsBlock bursts received report

-- `report` is the report on the block that a list decoder receives from four bursts when it tries the `max_words` most likely words, and
-- `rank` is the rank (from 1) of the chosen word among its candidates
pub record IsListDecodedReport (bursts : List (List ℤ)) (max_words rank : ℕ) (report : BlockReport) : Type 0 where
  pub received : ListDecodedBlock
  pub is_received : IsListDecodedBlock bursts max_words received
  pub reports_block : ReportsBlock bursts received.report report
  pub same_rank : rank ≡ received.rank

-- `report` is the report on an access burst received with this BSIC
pub record IsAccessReport (burst : List ℤ) (bsic : List ℕ) (report : AccessReport) : Type 0 where
  pub received : ReceivedAccess
  pub is_received : IsReceivedAccess burst bsic received
  pub word : report.word ≡ received.u
  pub metric : report.metric ≡ received.metric
  pub wrong_training : report.wrong_training ≡ received.wrong_training
  pub wrong_coded : report.wrong_coded ≡ count_wrong_bits (access_soft_bits burst) (encoding received.u)
  pub accepted : MatchOption received.accepted
      ((report.accepted ≡ 0) × (report.info ≡ replicate 8 0))
      (λ info. (report.accepted ≡ 1) × (report.info ≡ info))

-- `report` is the report on a received synchronisation burst
pub record IsSyncReport (burst : List ℤ) (report : SyncReport) : Type 0 where
  pub received : ReceivedSync
  pub is_received : IsReceivedSync burst received
  pub word : report.word ≡ received.u
  pub metric : report.metric ≡ received.metric
  pub wrong_training : report.wrong_training ≡ received.wrong_training
  pub wrong_coded : report.wrong_coded ≡ count_wrong_bits (sync_soft_bits burst) (encoding received.u)
  pub accepted : MatchOption received.accepted
      ((report.accepted ≡ 0) × (report.info ≡ replicate 25 0))
      (λ info. (report.accepted ≡ 1) × (report.info ≡ info))
