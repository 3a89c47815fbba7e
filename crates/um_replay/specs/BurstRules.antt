-- How a command that reads bursts answers a line (this project's own rule).
use Rattle.std.specs.Prelude.{ℕ, ℤ, List, [], ◌∷◌, ◌++◌, length, if◌then◌else◌}
use Rattle.um_formats.specs.declared.burst_lines.BurstLine.{BurstLine}
use Rattle.um_formats.specs.declared.burst_lines.BurstLine.TheVariants.{Skip, Normal, Access, Sync}
use Rattle.um_formats.specs.BurstLines.{burst_line, completes_block, unfinished_block_fault}
use Rattle.um_formats.specs.declared.held.BurstsToDecode.{BurstsToDecode}
use Rattle.um_formats.specs.declared.held.BurstsToDecode.TheVariants as N
use Rattle.um_driver.specs.Rules.{Rules, answer_to_meaning}

-- the answers of a command to the four bursts of a block, to an access burst with its BSIC, and to a synchronisation burst
pub record BurstAnswers : Type 0 where
  pub block : (bursts : List (List ℤ)) → List ℕ
  pub access : (bsic : List ℕ) (burst : List ℤ) → List ℕ
  pub sync : (burst : List ℤ) → List ℕ

-- the answer to a line with this meaning, and the bursts held afterwards: the burst that completes a block gets the answer to the block, an
-- earlier burst gets none
abbrev pub answer_to_burst : (answers : BurstAnswers) (held : List (List ℤ)) (line : BurstLine) → List ℕ × List (List ℤ)
answer_to_burst a held Skip = ([], held)
answer_to_burst a held (Normal soft) =
    if completes_block held soft then (a.block (held ++ soft ∷ []), []) else ([], held ++ soft ∷ [])
answer_to_burst a held (Access bsic soft) = (a.access bsic soft, held)
answer_to_burst a held (Sync soft) = (a.sync soft, held)

-- the rules of a command that reads bursts; its state is the list of the bursts of an incomplete block, in order
abbrev pub burst_rules : BurstAnswers → Rules (List (List ℤ))
burst_rules a = record {
  step = λ held line. answer_to_meaning (answer_to_burst a held) (burst_line (length held) line);
  end_fault = unfinished_block_fault;
}

-- the answer to what a line makes ready to decode, given the block in the burst buffer (used inside this crate)
abbrev pub answer_to_bursts : (answers : BurstAnswers) (next : BurstsToDecode) (block : List (List ℤ)) → List ℕ
answer_to_bursts a N.Skip block = []
answer_to_bursts a N.Held block = []
answer_to_bursts a N.Block block = a.block block
answer_to_bursts a (N.Access bsic soft) block = a.access bsic soft
answer_to_bursts a (N.Sync soft) block = a.sync soft
