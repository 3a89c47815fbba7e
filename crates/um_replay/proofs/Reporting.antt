-- The answers of a command that reads bursts report on the bursts of the lines.
use Rattle.{
  std.{
    proofs.Common.{List, Ok, [], ap, arith, inl, inr, length-append, length, refl, subst, sym, ℕ, ℤ, ◌++◌, ◌<◌, ◌∙◌},
    proofs.Common.{◌∷◌, ◌≡◌},
    proofs.lemmas.{Bool.{cases_lt, le-leb, lt-leb}, List.Elements.{All-append, All-cons, All-nil}},
    specs.List.All,
  },
  um_block.{
    proofs.{ComputedReports.block_computed, Lemmas.{IsReceivedAccess-received_access, IsReceivedSync-received_sync, accepted_count}},
    proofs.Lemmas.{received_access-only, received_block-only, received_sync-only},
    specs.{Received.IsReceivedBlock, bit_blocks.Bits.AllBits, declared.received.Received.Received},
  },
  um_driver.{proofs.Outputs.{meaning_of_answer, step_of_answer}, specs.Rules.{Runs, answer_to_line}},
  um_formats.{
    proofs.{
      BurstLines.{access_burst, burst_line_means, normal_burst, sync_burst},
      FrameLines.{IsBlockReportText-block_report_text, block_report_text-only},
    },
    specs.{BurstLines.{BurstLineMeans, burst_line}, Reports.{IsBlockReportText, block_report_text}},
    specs.declared.burst_lines.BurstLine.{TheVariants.{Access, Normal, Skip, Sync}, BurstLine},
  },
  um_replay.specs.{
    BurstRules.{BurstAnswers, answer_to_burst, burst_rules},
    Replay.{replay_answers, replay_rules},
    Reporting.{AnswersBurst, AnswersBursts, ReportsReception},
  },
}

abbrev pub IsBurst : List ℤ → Type 0
IsBurst burst = length burst ≡ 148

-- ## Held: At most three bursts of a block are held.

pub record AreHeld (held : List (List ℤ)) : Type 0 where
  pub few : length held < 4
  pub each : All IsBurst held

pub none_held : AreHeld []
none_held = record { few = omega arith; each = All-nil IsBurst }

pub all_bursts : (held : List (List ℤ)) (soft : List ℤ) → AreHeld held → IsBurst soft → All IsBurst (held ++ soft ∷ [])
all_bursts held soft h long = All-append IsBurst held (soft ∷ []) h.each (All-cons IsBurst soft [] long (All-nil IsBurst))

-- ## Runs: If a command's answers to four bursts, and to single bursts, are reports, so are those to the lines of a run.

pub record AreReports (a : BurstAnswers) (Reports : List (List ℤ) → BurstLine → List ℕ → Type 0) : Type 0 where
  pub skips : (held : List (List ℤ)) → Reports held Skip []
  pub block : (held : List (List ℤ)) (soft : List ℤ) → length (held ++ soft ∷ []) ≡ 4 → All IsBurst (held ++ soft ∷ []) →
      Reports held (Normal soft) (a.block (held ++ soft ∷ []))
  pub access : (held : List (List ℤ)) (bsic : List ℕ) (soft : List ℤ) → length bsic ≡ 6 → AllBits bsic →
      length soft ≡ 88 →
      Reports held (Access bsic soft) (a.access bsic soft)
  pub sync : (held : List (List ℤ)) (soft : List ℤ) → IsBurst soft → Reports held (Sync soft) (a.sync soft)

-- an answer to a line with this meaning, and the bursts held after it
pub record IsReported (Reports : List (List ℤ) → BurstLine → List ℕ → Type 0) (held : List (List ℤ)) (meaning : BurstLine)
    (next : List ℕ × List (List ℤ)) : Type 0
  where
    pub answers : AnswersBurst Reports held meaning next.0 next.1
    pub held_after : AreHeld next.1

module _ (a : BurstAnswers) (Reports : List (List ℤ) → BurstLine → List ℕ → Type 0) (r : AreReports a Reports) where
  reported : (held : List (List ℤ)) (line : List ℕ) (meaning : BurstLine) → AreHeld held →
      BurstLineMeans (length held) line meaning →
      IsReported Reports held meaning (answer_to_burst a held meaning)
  reported held line Skip h means = record { answers = (r.skips held, refl); held_after = h }
  reported held line (Access bsic soft) h means =
      let (none, count, bits, long, values) = access_burst (length held) line bsic soft means in
      record { answers = (r.access held bsic soft count bits long, refl); held_after = h }
  reported held line (Sync soft) h means =
      let (none, long, values) = sync_burst (length held) line soft means in
      record { answers = (r.sync held soft long, refl); held_after = h }
  reported held line (Normal soft) h means =
      let each = all_bursts held soft h (normal_burst (length held) line soft means).0 in
      let more = length-append held (soft ∷ []) in
      let few = h.few in
      elim (cases_lt (length (held ++ soft ∷ [])) 4) [
        | inl less ↦ rw (lt-leb 4 (length (held ++ soft ∷ [])) less) (record {
          answers = inl (omega (arith, more, less), refl, refl);
          held_after = record { few = less; each = each };
        })
        | inr many ↦ rw (le-leb 4 (length (held ++ soft ∷ [])) many) (record {
          answers = inr (omega (arith, more, many, few), r.block held soft (omega (arith, more, many, few)) each, refl);
          held_after = none_held;
        })
      ]

  run_reported : (held : List (List ℤ)) (lines texts : List (List ℕ)) (after : List (List ℤ)) → AreHeld held →
      Runs (burst_rules a) held lines texts after → AnswersBursts Reports held lines texts after × AreHeld after
  run_reported held [] [] after h same = (same, rw same h)
  run_reported held (line ∷ lines) (text ∷ texts) after h (next, step, rest) =
      let (meaning, parses, is) = meaning_of_answer (answer_to_burst a held) (burst_line (length held) line) (text, next)
      (step_of_answer (burst_rules a) held line (text, next) step) in
      let means = burst_line_means (length held) line meaning parses in
      let line_is = subst (IsReported Reports held meaning) (sym is) (reported held line meaning h means) in
      let later = run_reported next lines texts after line_is.held_after rest in
      ((meaning, next, means, line_is.answers, later.0), later.1)
  run_reported held _ _ after h none = absurd none

  pub lines_are_reported : (lines texts : List (List ℕ)) (held : List (List ℤ)) → Runs (burst_rules a) [] lines texts held →
      AnswersBursts Reports [] lines texts held
  lines_are_reported lines texts held runs = (run_reported [] lines texts held none_held runs).0

  pub held_in_run : (lines texts : List (List ℕ)) (held : List (List ℤ)) → Runs (burst_rules a) [] lines texts held → AreHeld held
  held_in_run lines texts held runs = (run_reported [] lines texts held none_held runs).1

-- ## Reception: The answers of `replay` report what was received of the bursts, and nothing else reports it.

pub replay_reports : AreReports replay_answers ReportsReception
replay_reports = record {
  skips = λ held. refl;
  block = λ held soft four each.
      let r = block_computed (held ++ soft ∷ []) four each in
      (_, r, IsBlockReportText-block_report_text _ (accepted_count (held ++ soft ∷ []) _ r));
  access = λ held bsic soft count bits long. (_, IsReceivedAccess-received_access soft bsic long count bits, refl);
  sync = λ held soft long. (_, IsReceivedSync-received_sync soft long, refl);
}

-- two reports on the same bursts are the same text
pub one_report : (held : List (List ℤ)) (line : List ℕ) (meaning : BurstLine) (x y : List ℕ) →
    BurstLineMeans (length held) line meaning → ReportsReception held meaning x → ReportsReception held meaning y → x ≡ y
one_report held line Skip x y means h g = h ∙ sym g
one_report held line (Normal soft) x y means (r, received, text) (r', received', text') =
    let bursts = held ++ soft ∷ [] in
    block_report_text-only r x (accepted_count bursts r received) text ∙ ap block_report_text (received_block-only bursts r received)
    ∙ sym (block_report_text-only r' y (accepted_count bursts r' received') text'
    ∙ ap block_report_text (received_block-only bursts r' received'))
one_report held line (Access bsic soft) x y means (r, received, text) (r', received', text') =
    let (none, count, bits, long, values) = access_burst (length held) line bsic soft means in
    cc (text, text', received_access-only soft bsic r long count bits received, received_access-only soft bsic r' long count bits received')
one_report held line (Sync soft) x y means (r, received, text) (r', received', text') =
    let (none, long, values) = sync_burst (length held) line soft means in
    cc (text, text', received_sync-only soft r long received, received_sync-only soft r' long received')
