-- `replay` recovers the information given to `code`. The proof goes line by line: each line that `code` writes is a line of `replay`, and
-- an undamaged block is decoded correctly.
use Rattle.{
  std.proofs.{lemmas.{Bool.{le-ltb, lt-leb}, List.{Elements.{All-map, All-weaker, All-append, All-cons, All-nil}, length-map}}, Common.Err},
  std.proofs.Common.{List, Ok, Result, [], append-nil, append_assoc, ap, arith, inl, length, lit<, map, refl, subst, sym, ℕ, ℤ},
  std.{proofs.Common.{◌++◌, ◌<◌, ◌∙◌, ◌∷◌, ◌≡◌}, specs.List.All},
  um_replay.specs.{BurstRules.answer_to_burst, Replay.{replay_answers, replay_rules}},
  um_code.{
    specs.{
      Code.{code_answer, code_command_rules},
      um_formats.{BurstLines.BurstLineMeans, BurstTexts.{access_burst_text, bursts_text, normal_burst_text, sync_burst_text}},
      um_formats.{CodeLines.{CodeLineMeans, code_line}, Reports.{access_report_text, block_report_text, sync_report_text}},
      um_formats.declared.{burst_lines.BurstLine.{TheVariants.{Access, Normal, Sync}, BurstLine}, code.CodeLine.CodeLine},
    },
    proofs.um_formats.BurstLines.{access_line, access_restored, access_whole, burst_line_meaning, can_be_sent, code_line_means},
    proofs.um_formats.BurstLines.{normal_line, normal_restored, normal_whole, short, sync_line, sync_restored, sync_whole},
  },
  um_driver.{
    proofs.{Outputs.{Runs-append, joined-append, meaning_of_answer, step_of_answer}, WholeInputs.{answered_if_done, done_if_answered}},
    specs.{Rules.{Runs, concatenated_text, stateless_step}, um_lines.declared.fault.LineFault.LineFault},
  },
  um_end.{
    proofs.um_block.Lemmas.{AreBits, IsReceivedAccess-received_access, IsReceivedSync-received_sync, IsSentAccess-sent_access},
    proofs.um_block.Lemmas.{IsSentBlock-sent_block, IsSentSync-sent_sync, clean_access, clean_block, clean_sync, received_block-only},
    proofs.um_block.Lemmas.{sent_access_bits, sent_block_bits, sent_sync_bits, some_received_block},
    specs.um_block.Computed.{received_access, received_block, received_sync, sent_access, sent_block, sent_sync},
    specs.um_block.{Received.{IsReceivedBlock, soft_bit_of, soft_bits}, Sent.{IsSentAccess, IsSentBlock, IsSentSync}},
    specs.{um_block.bit_blocks.Bits.AllBits, um_io.Lines.{IsLine, text_of_lines}},
  },
  um_cli.specs.Restored.{AreReplayReportsOfCodeLines, IsReplayReportOfCodeLine, ReplayRecoversCodeInput},
}
use Rattle.um_code.specs.um_formats.declared.code.CodeLine.TheVariants as C

-- `octets` are complete lines, which `replay` answers with `reports`; no burst is held before the first line or after the last
pub record ReplayReads (octets reports : List ℕ) : Type 0 where
  pub lines : List (List ℕ)
  pub answers : List (List ℕ)
  pub no_line_feed : All IsLine lines
  pub octets_split : octets ≡ text_of_lines lines
  pub runs : Runs replay_rules [] lines answers []
  pub reports_are : reports ≡ concatenated_text answers

ReplayReads-nil : ReplayReads [] []
ReplayReads-nil = record { lines = []; answers = []; no_line_feed = All-nil IsLine; octets_split = refl; runs = refl; reports_are = refl }

text-append : (ls ls' : List (List ℕ)) → text_of_lines (ls ++ ls') ≡ text_of_lines ls ++ text_of_lines ls'
text-append [] ls' = refl
text-append (l ∷ ls) ls' = ap (λ w. l ++ 10 ∷ w) (text-append ls ls')
    ∙ sym (append_assoc l (10 ∷ text_of_lines ls) (text_of_lines ls'))

ReplayReads-append : (x x' y y' : List ℕ) → ReplayReads x y → ReplayReads x' y' → ReplayReads (x ++ x') (y ++ y')
ReplayReads-append x x' y y' r r' = record {
  lines = r.lines ++ r'.lines;
  answers = r.answers ++ r'.answers;
  no_line_feed = All-append IsLine r.lines r'.lines r.no_line_feed r'.no_line_feed;
  octets_split = (let p = r.octets_split in let q = r'.octets_split in cc (p, q)) ∙ sym (text-append r.lines r'.lines);
  runs = Runs-append replay_rules [] [] [] r.lines r'.lines r.answers r'.answers r.runs r'.runs;
  reports_are = (let p = r.reports_are in let q = r'.reports_are in cc (p, q)) ∙ sym (joined-append r.answers r'.answers);
}

replay-first : (held mid after : List (List ℤ)) (line answer : List ℕ) (lines others : List (List ℕ)) (m : BurstLine) →
    BurstLineMeans (length held) line m → answer_to_burst replay_answers held m ≡ (answer, mid) →
    Runs replay_rules mid lines others after →
    Runs replay_rules held (line ∷ lines) (answer ∷ others) after
replay-first held mid after line answer lines others m means answers runs =
    let whole = short (length held) line m means in
    (mid, rw (le-ltb 4096 (length line) whole, burst_line_meaning (length held) line m means, answers) refl, runs)

replay-last : (held : List (List ℤ)) (line answer : List ℕ) (m : BurstLine) → BurstLineMeans (length held) line m →
    answer_to_burst replay_answers held m ≡ (answer, []) → Runs replay_rules held (line ∷ []) (answer ∷ []) []
replay-last held line answer m means answers = replay-first held [] [] line answer [] [] m means answers refl

length-soft_bits : (bits : List ℕ) (n : ℕ) → length bits ≡ n → length (soft_bits bits) ≡ n
length-soft_bits bits n e = length-map bits soft_bit_of ∙ e

-- ---- `replay` recovers access and synchronisation bursts

pub record ReplayRestores (meaning : CodeLine) (answer : List ℕ) : Type 0 where
  pub report : List ℕ
  pub restored : IsReplayReportOfCodeLine meaning report
  pub read : ReplayReads answer report

restores-line : {m : CodeLine} (line report : List ℕ) (b : BurstLine) → IsReplayReportOfCodeLine m report → IsLine line →
    BurstLineMeans 0 line b → answer_to_burst replay_answers [] b ≡ (report, []) → ReplayRestores m (text_of_lines (line ∷ []))
restores-line line report b restored whole means answers = record {
  report = report;
  restored = restored;
  read = record {
    lines = line ∷ [];
    answers = report ∷ [];
    no_line_feed = All-cons IsLine line [] whole (All-nil IsLine);
    octets_split = refl;
    runs = replay-last [] line report b means answers;
    reports_are = sym (append-nil report);
  };
}

restores-access : (info bsic burst : List ℕ) → length bsic ≡ 6 → AllBits bsic → IsSentAccess info bsic burst →
    ReplayRestores (C.Rach info bsic) (access_burst_text bsic burst)
restores-access info bsic burst count bits sent =
    let b = sent_access_bits info bsic burst sent in
    let r = received_access (soft_bits burst) bsic in
    let received = IsReceivedAccess-received_access (soft_bits burst) bsic (length-soft_bits burst 88 b.right_length) count bits in
    restores-line (access_line bsic burst) (access_report_text bsic r) (Access bsic (soft_bits burst))
    (r, clean_access info bsic burst r sent received, refl)
    (access_whole bsic burst count bits b.right_length b.each).no_line_feed (access_restored bsic burst count bits b.right_length b.each)
    refl

restores-sync : (info burst : List ℕ) → IsSentSync info burst → ReplayRestores (C.Sch info) (sync_burst_text burst)
restores-sync info burst sent =
    let b = sent_sync_bits info burst sent in
    let r = received_sync (soft_bits burst) in
    let received = IsReceivedSync-received_sync (soft_bits burst) (length-soft_bits burst 148 b.right_length) in
    restores-line (sync_line burst) (sync_report_text r) (Sync (soft_bits burst))
    (r, clean_sync info burst r sent received, refl) (sync_whole burst b.right_length b.each).no_line_feed
    (sync_restored burst b.right_length b.each) refl

-- ---- `replay` recovers blocks

bursts_text-lines : (bursts : List (List ℕ)) → bursts_text bursts ≡ text_of_lines (map normal_line bursts)
bursts_text-lines [] = refl
bursts_text-lines (burst ∷ bursts) =
    ap (λ w. normal_burst_text burst ++ w) (bursts_text-lines bursts)
    ∙ append_assoc (normal_line burst) (10 ∷ []) (text_of_lines (map normal_line bursts))

normal_line-IsLine : (bursts : List (List ℕ)) → All (AreBits 148) bursts → All IsLine (map normal_line bursts)
normal_line-IsLine bursts each =
    All-map IsLine normal_line bursts (All-weaker (AreBits 148) (λ burst. IsLine (normal_line burst))
    (λ burst b. (normal_whole burst b.right_length b.each).no_line_feed) bursts each)

length-all_soft_bits : (bursts : List (List ℕ)) → All (AreBits 148) bursts → All (λ soft. length soft ≡ 148) (map soft_bits bursts)
length-all_soft_bits bursts each =
    All-map (λ soft. length soft ≡ 148) soft_bits bursts (All-weaker (AreBits 148) (λ burst. length (soft_bits burst) ≡ 148)
    (λ burst b. length-soft_bits burst 148 b.right_length) bursts each)

hold_burst : (held : List (List ℤ)) (burst : List ℕ) (lines answers : List (List ℕ)) → AreBits 148 burst →
    length (held ++ soft_bits burst ∷ []) < 4 → Runs replay_rules (held ++ soft_bits burst ∷ []) lines answers [] →
    Runs replay_rules held (normal_line burst ∷ lines) ([] ∷ answers) []
hold_burst held burst lines answers b few runs =
    replay-first held (held ++ soft_bits burst ∷ []) [] (normal_line burst) [] lines answers (Normal (soft_bits burst))
    (normal_restored (length held) burst b.right_length b.each) (rw (lt-leb 4 (length (held ++ soft_bits burst ∷ [])) few) refl) runs

replay-block : (bursts : List (List ℕ)) → length bursts ≡ 4 → All (AreBits 148) bursts →
    Runs replay_rules [] (map normal_line bursts) ([] ∷ [] ∷ [] ∷ block_report_text (received_block (map soft_bits bursts)) ∷ []) []
replay-block (a ∷ b ∷ c ∷ d ∷ []) count each =
    let last = each 3 [] (lit< tt) in
    let report = block_report_text (received_block (soft_bits a ∷ soft_bits b ∷ soft_bits c ∷ soft_bits d ∷ [])) in
    hold_burst [] a (normal_line b ∷ normal_line c ∷ normal_line d ∷ []) ([] ∷ [] ∷ report ∷ []) (each 0 [] (lit< tt)) (lit< tt)
    (hold_burst (soft_bits a ∷ []) b (normal_line c ∷ normal_line d ∷ []) ([] ∷ report ∷ []) (each 1 [] (lit< tt)) (lit< tt)
    (hold_burst (soft_bits a ∷ soft_bits b ∷ []) c (normal_line d ∷ []) (report ∷ []) (each 2 [] (lit< tt)) (lit< tt)
    (replay-last (soft_bits a ∷ soft_bits b ∷ soft_bits c ∷ []) (normal_line d) report (Normal (soft_bits d))
    (normal_restored 3 d last.right_length last.each) refl)))
replay-block bursts count each = absurd (omega arith)

restores-block : (octets : List ℕ) (tsc : ℕ) (bursts : List (List ℕ)) → IsSentBlock octets tsc bursts →
    ReplayRestores (C.Block tsc octets) (bursts_text bursts)
restores-block octets tsc bursts sent =
    let command = sent_block_bits octets tsc bursts sent in
    let counts = length-all_soft_bits bursts command.1 in
    let received = some_received_block (map soft_bits bursts) (length-map bursts soft_bits ∙ command.0) counts in
    let r = received_block (map soft_bits bursts) in
    let is : IsReceivedBlock (map soft_bits bursts) r = rw (← received_block-only _ received.0 received.1) received.1 in
    record {
      report = block_report_text r;
      restored = (r, clean_block octets tsc bursts r sent is, refl);
      read = record {
        lines = map normal_line bursts;
        answers = [] ∷ [] ∷ [] ∷ block_report_text r ∷ [];
        no_line_feed = normal_line-IsLine bursts command.1;
        octets_split = bursts_text-lines bursts;
        runs = replay-block bursts command.0 command.1;
        reports_are = sym (append-nil (block_report_text r));
      };
    }

-- ---- `replay` recovers every line, and so the whole input

restores-code_line : (line : List ℕ) (m : CodeLine) → CodeLineMeans line m → ReplayRestores m (code_answer m)
restores-code_line line C.Skip means = record { report = []; restored = refl; read = ReplayReads-nil }
restores-code_line line (C.Block tsc octets) means =
    let (within, known) = can_be_sent line (C.Block tsc octets) means in
    restores-block octets tsc (sent_block octets tsc) (IsSentBlock-sent_block octets tsc known.0 known.1 within)
restores-code_line line (C.Rach info bsic) means =
    let (data_bits, code) = can_be_sent line (C.Rach info bsic) means in
    restores-access info bsic (sent_access info bsic) code.0 code.1
    (IsSentAccess-sent_access info bsic data_bits.0 data_bits.1 code.0 code.1)
restores-code_line line (C.Sch info) means =
    let (count, each) = can_be_sent line (C.Sch info) means in
    restores-sync info (sent_sync info) (IsSentSync-sent_sync info count each)

stateless_answer : (answer : Result (List ℕ) LineFault) (text : List ℕ) (after : Unit {0}) →
    stateless_step answer ≡ Ok (text, after) →
    answer ≡ Ok text
stateless_answer (Ok given) text after is = grind arith
stateless_answer (Err fault) text after is = absurd (cc is)

pub record ReplayRestoresAll (lines answers : List (List ℕ)) : Type 0 where
  pub reports : List ℕ
  pub restored : AreReplayReportsOfCodeLines lines reports
  pub read : ReplayReads (concatenated_text answers) reports

restores-all_lines : (lines answers : List (List ℕ)) (state : Unit {0}) → Runs code_command_rules tt lines answers state →
    ReplayRestoresAll lines answers
restores-all_lines [] [] state same = record { reports = []; restored = refl; read = ReplayReads-nil }
restores-all_lines (line ∷ lines) (y ∷ ys) state (mid, step, runs) =
    let (m, parses, is) = meaning_of_answer code_answer (code_line line) y
    (stateless_answer _ y mid (step_of_answer code_command_rules tt line (y, mid) step)) in
    let one = subst (ReplayRestores m) (sym is) (restores-code_line line m (code_line_means line m parses)) in
    let others = restores-all_lines lines ys state runs in
    record {
      reports = one.report ++ others.reports;
      restored = (m, one.report, others.reports, code_line_means line m parses, one.restored, others.restored, refl);
      read = ReplayReads-append y (concatenated_text ys) one.report others.reports one.read others.read;
    }
restores-all_lines lines answers state none = absurd none

pub recovers_code_input : (input bursts : List ℕ) → ReplayRecoversCodeInput input bursts
recovers_code_input input bursts done within =
    let good = answered_if_done code_command_rules tt input bursts done in
    let back = restores-all_lines good.lines good.answers good.state good.runs in (
      good.lines,
      back.reports,
      good.all,
      back.restored,
      done_if_answered replay_rules [] bursts back.reports (record {
        lines = back.read.lines;
        answers = back.read.answers;
        state = [];
        all = record { no_line_feed = back.read.no_line_feed; octets_split = inl (good.output_is ∙ back.read.octets_split) };
        within = within;
        runs = back.read.runs;
        may_end = refl;
        output_is = back.read.reports_are;
      }),
    )
