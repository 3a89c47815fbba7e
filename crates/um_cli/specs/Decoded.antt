-- Each decoded word is a codeword that is at least as likely as any other, given the soft values received, and its data is accepted if and
-- only if its CRC holds (this project's own rule).
use Rattle.std.specs.Prelude.{ℕ, ℤ, ◌≡◌, ◌≤ℤ◌, true, List, []}
use Rattle.std.specs.Prelude.{◌∷◌, ◌++◌, length, map, take, MatchOption, Ok}
use Rattle.um_end.specs.um_block.fire_code.Words.{IsXcchCodeword, IsRachCodeword, IsSchCodeword}
use Rattle.um_end.specs.um_block.conv_code.Code.{encoding, IsCodeword}
use Rattle.um_end.specs.um_block.conv_code.Likelihood.{likelihood}
use Rattle.um_end.specs.um_block.interleave.Bursts.{IsInterleaved}
use Rattle.um_end.specs.um_block.bit_blocks.Octets.{octets_of}
use Rattle.um_end.specs.um_block.Received.{coded_soft_bits, access_soft_bits, sync_soft_bits}
use Rattle.um_end.specs.um_block.Computed.{received_block, received_access, received_sync}
use Rattle.um_end.specs.um_block.declared.received.Received.{Received}
use Rattle.um_end.specs.um_block.declared.received.ReceivedAccess.{ReceivedAccess}
use Rattle.um_end.specs.um_block.declared.received.ReceivedSync.{ReceivedSync}
use Rattle.um_code.specs.um_formats.declared.burst_lines.BurstLine.{BurstLine}
use Rattle.um_code.specs.um_formats.declared.burst_lines.BurstLine.TheVariants.{Skip, Normal, Access, Sync}
use Rattle.um_code.specs.um_formats.BurstLines.{burst_line, completes_block}
use Rattle.um_code.specs.um_formats.Reports.{IsBlockReportText, access_report_text, sync_report_text}
use Rattle.um_driver.specs.Rules.{Runs}
use Rattle.um_replay.specs.Replay.{replay_rules}
use Rattle.um_replay.specs.Reporting.{AnswersBursts}

-- the encoding of the encoder input `word` is a codeword, and no codeword of the same length is more likely for the soft values `soft`
pub record IsMaximumLikelihood (soft : List ℤ) (word : List ℕ) : Type 0 where
  pub codeword : IsCodeword (encoding word) (length word)
  pub same_length : length soft ≡ length (encoding word)
  pub none_more_likely : (c : List ℕ) → IsCodeword c (length word) → likelihood soft c ≤ℤ likelihood soft (encoding word)

-- the four `bursts` of a block are decoded to a most likely word; its first 184 bits are accepted as the data if and only if the CRC in its
-- first 224 bits holds
pub record IsMostLikelyWord (bursts : List (List ℤ)) (report : Received) : Type 0 where
  pub soft : List ℤ
  pub deinterleaved : IsInterleaved soft (map coded_soft_bits bursts)
  pub max_likelihood : IsMaximumLikelihood soft report.u
  pub accepted : MatchOption report.accepted
      (¬ IsXcchCodeword (take 224 report.u))
      (λ octets. IsXcchCodeword (take 224 report.u) × (octets ≡ octets_of (take 184 report.u)))

-- an access burst is decoded to a most likely word, and accepted if and only if its CRC holds for `bsic`
pub record IsMostLikelyAccessWord (burst : List ℤ) (bsic : List ℕ) (report : ReceivedAccess) : Type 0 where
  pub max_likelihood : IsMaximumLikelihood (access_soft_bits burst) report.u
  pub accepted : MatchOption report.accepted
      (¬ IsRachCodeword (take 14 report.u) bsic)
      (λ info. IsRachCodeword (take 14 report.u) bsic × (info ≡ take 8 report.u))

-- a synchronisation burst is decoded to a most likely word, and accepted if and only if its CRC holds
pub record IsMostLikelySyncWord (burst : List ℤ) (report : ReceivedSync) : Type 0 where
  pub max_likelihood : IsMaximumLikelihood (sync_soft_bits burst) report.u
  pub accepted : MatchOption report.accepted
      (¬ IsSchCodeword (take 35 report.u))
      (λ info. IsSchCodeword (take 35 report.u) × (info ≡ take 25 report.u))

-- the bursts that a line of `replay` completes are decoded to a most likely word
abbrev pub DecodesBurstsToMostLikelyWord : (held : List (List ℤ)) (line : BurstLine) → Type 0
DecodesBurstsToMostLikelyWord held Skip = Unit {0}
DecodesBurstsToMostLikelyWord held (Normal soft) = completes_block held soft ≡ true →
    IsMostLikelyWord (held ++ soft ∷ []) (received_block (held ++ soft ∷ []))
DecodesBurstsToMostLikelyWord held (Access bsic soft) = IsMostLikelyAccessWord soft bsic (received_access soft bsic)
DecodesBurstsToMostLikelyWord held (Sync soft) = IsMostLikelySyncWord soft (received_sync soft)

-- `text` reports a most likely word for the bursts that are decoded: the fourth burst of a block with the three held before it, in order,
-- or a single burst
abbrev pub IsReportOfMostLikelyWord : (held : List (List ℤ)) (line : BurstLine) (text : List ℕ) → Type 0
IsReportOfMostLikelyWord held Skip text = text ≡ []
IsReportOfMostLikelyWord held (Normal soft) text =
    (r : Received) × IsMostLikelyWord (held ++ soft ∷ []) r × IsBlockReportText r text
IsReportOfMostLikelyWord held (Access bsic soft) text =
    (r : ReceivedAccess) × IsMostLikelyAccessWord soft bsic r × (text ≡ access_report_text bsic r)
IsReportOfMostLikelyWord held (Sync soft) text = (r : ReceivedSync) × IsMostLikelySyncWord soft r × (text ≡ sync_report_text r)

-- whatever lines `replay` has answered, it decodes the bursts that the next line completes to a most likely word; and each line is answered
-- with the report of a most likely word for its bursts
pub record ReplayDecodesToMostLikelyWords : Type 0 where
  pub decoded : (lines answers : List (List ℕ)) (held : List (List ℤ)) (line : List ℕ) (meaning : BurstLine) →
      Runs replay_rules [] lines answers held → burst_line (length held) line ≡ Ok meaning →
      DecodesBurstsToMostLikelyWord held meaning
  pub reported : (lines answers : List (List ℕ)) (held : List (List ℤ)) → Runs replay_rules [] lines answers held →
      AnswersBursts IsReportOfMostLikelyWord [] lines answers held
