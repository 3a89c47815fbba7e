-- What the answers to lines of bursts report (this project's own rule). The rules compute the answers; these relations say what they are.
use Rattle.std.specs.Prelude.{ℕ, ℤ, ◌≡◌, ◌<◌, ◌⊎◌, List, [], ◌∷◌, ◌++◌, length}
use Rattle.um_block.specs.Received.{IsReceivedBlock, IsReceivedAccess, IsReceivedSync}
use Rattle.um_block.specs.declared.received.Received.{Received}
use Rattle.um_block.specs.declared.received.ReceivedAccess.{ReceivedAccess}
use Rattle.um_block.specs.declared.received.ReceivedSync.{ReceivedSync}
use Rattle.um_formats.specs.declared.burst_lines.BurstLine.{BurstLine}
use Rattle.um_formats.specs.declared.burst_lines.BurstLine.TheVariants.{Skip, Normal, Access, Sync}
use Rattle.um_formats.specs.BurstLines.{BurstLineMeans}
use Rattle.um_formats.specs.Reports.{IsBlockReportText, access_report_text, sync_report_text}

-- `text` is what `replay` reports on the bursts that are decoded: the fourth burst of a block with the three held before it, in order, or a
-- single burst
abbrev pub ReportsReception : (held : List (List ℤ)) (line : BurstLine) (text : List ℕ) → Type 0
ReportsReception held Skip text = text ≡ []
ReportsReception held (Normal soft) text = (r : Received) × IsReceivedBlock (held ++ soft ∷ []) r × IsBlockReportText r text
ReportsReception held (Access bsic soft) text = (r : ReceivedAccess) × IsReceivedAccess soft bsic r × (text ≡ access_report_text bsic r)
ReportsReception held (Sync soft) text = (r : ReceivedSync) × IsReceivedSync soft r × (text ≡ sync_report_text r)

-- a line is answered with `text`, and the bursts `after` are held after it: each of the first three bursts of a block is held and gets no
-- answer, and the fourth gets the report on the block, after which no burst is held
abbrev pub AnswersBurst : (Reports : (List (List ℤ) → BurstLine → List ℕ → Type 0)) (held : List (List ℤ)) (line : BurstLine)
    (text : List ℕ) (after : List (List ℤ)) → Type 0
AnswersBurst Reports held (Normal soft) text after =
    ((length held < 3) × (text ≡ []) × (after ≡ held ++ soft ∷ []))
    ⊎ ((length held ≡ 3) × Reports held (Normal soft) text × (after ≡ []))
AnswersBurst Reports held line text after = Reports held line text × (after ≡ held)

-- the lines are answered with `texts` in order; `held` are the bursts held before them, and `after` those held after them
abbrev pub AnswersBursts : (Reports : (List (List ℤ) → BurstLine → List ℕ → Type 0)) (held : List (List ℤ))
    (lines texts : List (List ℕ)) (after : List (List ℤ)) → Type 0
AnswersBursts Reports held [] [] after = after ≡ held
AnswersBursts Reports held (line ∷ lines) (text ∷ texts) after =
    (meaning : BurstLine) × (next : List (List ℤ)) × BurstLineMeans (length held) line meaning
    × AnswersBurst Reports held meaning text next × AnswersBursts Reports next lines texts after
AnswersBursts Reports held lines texts after = ⊥
