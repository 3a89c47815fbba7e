-- The reports of bursts that are received exactly as they were sent.
use Rattle.std.specs.Prelude.{ℕ, ◌≡◌, ◌*◌, pos, List, Some}
use Rattle.bit_blocks.specs.Octets.{bits_of}
use Rattle.fire_code.specs.Words.{IsXcchCodeword, IsRachCodeword, IsSchCodeword}
use Rattle.um_block.specs.Sent.{CarriesDataAndCrc}
use Rattle.um_block.specs.declared.received.Received.{Received}
use Rattle.um_block.specs.declared.received.ReceivedAccess.{ReceivedAccess}
use Rattle.um_block.specs.declared.received.ReceivedSync.{ReceivedSync}

-- `report` is the report of a block received exactly as sent: its octets are accepted, its training sequence code is found with no wrong
-- training bit, and each of the 456 coded bits adds 127 to the path metric
pub record IsErrorFreeBlock (octets : List ℕ) (sent_tsc : ℕ) (report : Received) : Type 0 where
  pub information : CarriesDataAndCrc IsXcchCodeword report.u (bits_of octets)
  pub accepted : report.accepted ≡ Some octets
  pub tsc : report.tsc ≡ sent_tsc
  pub wrong_training : report.wrong_training ≡ 0
  pub metric : report.metric ≡ pos (456 * 127)

-- `report` is the report of an access burst received exactly as sent: its eight information bits are accepted for its BSIC, no training bit
-- is wrong, and each of the 36 coded bits adds 127 to the path metric
pub record IsErrorFreeAccess (info bsic : List ℕ) (report : ReceivedAccess) : Type 0 where
  pub information : CarriesDataAndCrc (λ w. IsRachCodeword w bsic) report.u info
  pub accepted : report.accepted ≡ Some info
  pub wrong_training : report.wrong_training ≡ 0
  pub metric : report.metric ≡ pos (36 * 127)

-- `report` is the report of a synchronisation burst received exactly as sent: its 25 information bits are accepted, no training bit is
-- wrong, and each of the 78 coded bits adds 127 to the path metric
pub record IsErrorFreeSync (info : List ℕ) (report : ReceivedSync) : Type 0 where
  pub information : CarriesDataAndCrc IsSchCodeword report.u info
  pub accepted : report.accepted ≡ Some info
  pub wrong_training : report.wrong_training ≡ 0
  pub metric : report.metric ≡ pos (78 * 127)
