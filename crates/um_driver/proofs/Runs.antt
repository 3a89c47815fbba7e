-- Lemmas about a run of a command: how it answers lines, what it has written, and how it ends for each exit status.
use Rattle.{
  std.{
    proofs.{
      KnownBytes.{Appends-nil, Appends-trans, Consumes-nil},
      Common.{Bool, Err, List, None, Ok, Option, Some, [], append-nil, append_assoc, ap, arith, false, inl, inr, length-append, length},
      Common.{refl, subst, sym, true, ℕ, ◌++◌, ◌+◌, ◌∙◌, ◌∷◌, ◌≡◌, ◌⊎◌},
      lemmas.{Bool.le-ltb, List.Elements.All-nil},
    },
    specs.{Borrow.Bor, Io.KnownBytes.{Appends, Keeps}},
  },
  um_driver.{
    specs.{
      Progress.{IsLastWriteResult, IsLineOutcome, IsPointOfRun, IsResponse, IsRunEnding, IsRunUnderway, SourceHasEnded},
      Table.{EndsAsPrescribed, IsRefusalOrNone, ReadsAtMostOneBufferAhead, SinkTakesPrefix, WritesAsPrescribed, EndsWithStatus, IsPrefixOf},
      Table.IsRun,
      Writing.BuffersUnwrittenText,
      Continued.Continues,
      Outputs.{response, processed_lines},
      Rules.{Rules, concatenated_text},
      declared.status.Status.{TheVariants.{BadInput, BadWords, Done, NoMemory, ReadFault, TooLong, WriteFault}, Status},
    },
    proofs.{
      Outputs.{begins_with, begins_with_more, Continues-refl, Continues-prefix, joined-append, Runs-append, respond_end},
      Outputs.response-continues,
      Reading.{rest_of, arrive, size_of, bound_of, whole_of, lines_processed, starts_with_answers, answered_of, some_held, next_line},
      Reading.{line_judged, long_judged, goes_past, unfinished, nothing_read_if_ready, failed_unready},
    },
  },
  um_io.specs.{Next.{IsNextLineCall, IsReaderStep}, declared.lines.Next.Next, Reading.{IsResultReady, ReaderState, new_reader, line_limit}},
  um_io.specs.Lines.IsLine,
  um_lines.specs.{Refusals.refused_text, declared.fault.LineFault.{TheVariants.Long, LineFault}},
}
use Rattle.um_io.specs.declared.lines.Next.TheVariants as next

-- ## Turns: How a run processes one line, before it writes the answer. The proof considers each result that the line reader can return.

IsPrefixOf-append : (x y z : List ℕ) → IsPrefixOf x y → IsPrefixOf y z → IsPrefixOf x z
IsPrefixOf-append x y z (u, e) (v, f) = (u ++ v, rw (f, e, append_assoc) refl)

ReadsAtMostOneBufferAhead-more : {State : Type 0} {r : Rules State} {a : State} {q y : List ℕ} → ReadsAtMostOneBufferAhead r a q y →
    (w : List ℕ) → ReadsAtMostOneBufferAhead r a q (y ++ w)
ReadsAtMostOneBufferAhead-more n w = record {
  lines = n.lines;
  answers = n.answers;
  state = n.state;
  partial_line = n.partial_line;
  runs = n.runs;
  begins = n.begins;
  is_prefix = (n.is_prefix.0 ++ w, rw (n.is_prefix.1, append_assoc) refl);
  reads_little_ahead = n.reads_little_ahead;
}

module _ {State : Type 0} {r : Rules State} {a : State} {Represents : State → Type 0} {reading reading' : ReaderState}
    {left mid left' taken taken' : Option (List ℕ)} {gathered : List ℕ}
    (u : IsRunUnderway r a Represents reading left mid taken taken' gathered) (ready : IsResultReady reading ⊎ (gathered ≡ [])) where
  module _ {next : Next} {came : List ℕ} (step : IsReaderStep reading reading' mid left' next came) where
    -- after a read from the source, the reader is still at most one buffer ahead of the output
    near_now : ReadsAtMostOneBufferAhead r a (u.point.input_read ++ came) u.point.output
    near_now = elim ready [
      | inl answer ↦ stays (nothing_read_if_ready step u.not_stopped answer)
      | inr none ↦ elim u.point.reads.lines_account_for_octets [
        | inl (q_is, _) ↦ record {
          lines = u.point.lines;
          answers = u.point.answers;
          state = u.point.state;
          partial_line = _;
          runs = u.point.runs;
          begins = begins_with_more came (begins_with u.point.reads.no_line_feed q_is);
          is_prefix = ([], sym (rw append-nil (u.output ∙ rw (none, append-nil) refl)));
          reads_little_ahead = step.fits_buffer;
        }
        | inr (_, _, ended, _) ↦ stays (step.no_read_after_end ended).0
      ]
    ]
      where
        stays : came ≡ [] → ReadsAtMostOneBufferAhead r a (u.point.input_read ++ came) u.point.output
        stays none = rw (none, append-nil) u.point.reads_little_ahead

    -- the point that the run reaches when the reader reads the octets `came`
    abbrev now : IsPointOfRun r a (reading.held ++ reading.excess ++ came) reading.octet_count reading.line_count reading'.ended left left'
        taken taken'
    now = record {
      input_read = u.point.input_read ++ came;
      output = u.point.output;
      lines = u.point.lines;
      answers = u.point.answers;
      state = u.point.state;
      reads = arrive u.point.reads step;
      line_count_matches_lines = u.point.line_count_matches_lines;
      written = u.point.written;
      runs = u.point.runs;
      reads_little_ahead = near_now;
    }

    -- the run ends with `status` once it has written the pending output and then `text`
    ending : {Stands' : State → Type 0} {status : Status} {text : List ℕ} (seen_end : Bool) →
        (reading'.ended ≡ true → reading.held ++ reading.excess ++ came ≡ [] → seen_end ≡ true) → Stands' u.point.state →
        (seen_end ≡ true → SourceHasEnded left left') →
        IsResponse status (response r a (u.point.input_read ++ came) seen_end) (concatenated_text u.point.answers ++ text) →
        IsRefusalOrNone text → IsRunEnding r a Stands' status left left' taken taken' gathered text
    ending seen_end last represents ends is refusal = record {
      held = reading.held ++ reading.excess ++ came;
      octet_count = reading.octet_count;
      line_count = reading.line_count;
      ended = reading'.ended;
      point = now;
      represents = represents;
      output = u.output;
      seen_end = seen_end;
      first_lines = lines_processed now.reads r a now.state now.answers now.runs seen_end last;
      source_ended = ends;
      prescribed = is;
      is_refusal = refusal;
    }

  -- the run continues after the command answers a line, and the answer is added to the pending output
  pub line_answered : {Stands' : State → Type 0} {line : Bor (List ℕ)} {text : List ℕ} →
      IsNextLineCall reading mid left' (next.Line line) reading' →
      ((b : State) → Represents b → (c : State) × (r.step b line.now ≡ Ok (text, c)) × Stands' c) →
      IsRunUnderway r a Stands' reading' left left' taken taken' (gathered ++ text)
  line_answered {line = line} {text = text} n answers =
      let (came, step) = n.not_stopped u.not_stopped in
      let at = now step in
      let l = (answered_of step.outcome).1 in
      let (state, answer, represents) = answers at.state u.represents in
      record {
        point = record {
          input_read = at.input_read;
          output = at.output;
          lines = at.lines ++ line.now ∷ [];
          answers = at.answers ++ text ∷ [];
          state = state;
          reads = next_line at.reads n.valid line.now step.outcome;
          line_count_matches_lines = omega (arith, l.line_count, at.line_count_matches_lines, length-append at.lines (line.now ∷ []));
          written = at.written;
          runs = Runs-append r a at.state state at.lines (line.now ∷ []) at.answers (text ∷ []) at.runs
              (state, rw (le-ltb line_limit (length line.now) l.in_limit) answer, refl);
          reads_little_ahead = at.reads_little_ahead;
        };
        represents = represents;
        output = joined-append at.answers (text ∷ []) ∙ rw (u.output, append-nil, append_assoc);
        valid = n.valid;
        not_stopped = l.is_over;
      }

  pub line_refused : {Stands' : State → Type 0} {line : Bor (List ℕ)} {text text' : List ℕ} {number : ℕ} {fault : LineFault} →
      IsNextLineCall reading mid left' (next.Line line) reading' → number ≡ reading'.line_count →
      text ≡ refused_text number fault →
      ((b : State) → Represents b → (r.step b line.now ≡ Err fault) × (text' ≡ []) × Stands' b) →
      IsRunEnding r a Stands' BadInput left left' taken taken' gathered text
  line_refused {line = line} {text = text} {fault = fault} n number_is text_is answers =
      let (came, step) = n.not_stopped u.not_stopped in
      let l = (answered_of step.outcome).1 in
      let (reason, _, represents) = answers u.point.state u.represents in
      let at = now step in
      let (seen_end, ended, is) = line_judged at.reads n.valid line.now step.outcome r a at.state at.answers fault at.runs
      (rw (le-ltb line_limit (length line.now) l.in_limit) reason) in
      let text_is' : text ≡ refused_text (length at.lines + 1) fault =
      text_is ∙ rw (number_is, l.line_count, u.point.line_count_matches_lines) refl in
      ending step seen_end
      (λ e none. absurd (some_held at.reads n.valid line.now (answered_of step.outcome).0 (answered_of step.outcome).1 none e))
      represents ended (rw text_is' is) (inr (_, fault, text_is'))

  pub end_good : {reason : Option LineFault} {text : List ℕ} → IsNextLineCall reading mid left' next.End reading' →
      reason ≡ None →
      text ≡ [] → ((b : State) → Represents b → reason ≡ r.end_fault b) →
      IsRunEnding r a Represents Done left left' taken taken' gathered text
  end_good n none text_is says =
      let (came, step) = n.not_stopped u.not_stopped in
      let (_, none_held, ended) = step.outcome in
      let at = now step in
      let good : r.end_fault at.state ≡ None = sym (says u.point.state u.represents) ∙ none in
      ending step true (λ _ _. refl) u.represents (λ _. at.reads.at_end ended)
      (respond_end r a at.state at.lines at.answers at.runs at.reads.no_line_feed _ (whole_of at.reads none_held)
      (omega (arith, size_of at.reads, ap length none_held, at.reads.in_range)) ∙ rw (good, text_is) refl) (inl text_is)

  pub end_refused : {reason : Option LineFault} {text : List ℕ} {number : ℕ} {fault : LineFault} →
      IsNextLineCall reading mid left' next.End reading' → number ≡ reading'.line_count → text ≡ refused_text (number + 1) fault →
      reason ≡ Some fault → ((b : State) → Represents b → reason ≡ r.end_fault b) →
      IsRunEnding r a Represents BadInput left left' taken taken' gathered text
  end_refused {fault = fault} n number_is text_is some says =
      let (came, step) = n.not_stopped u.not_stopped in
      let (h, none_held, ended) = step.outcome in
      let at = now step in
      let bad = sym (says u.point.state u.represents) ∙ some in
      let text_is' = text_is ∙ rw (number_is, h.line_count, u.point.line_count_matches_lines) refl in
      ending step true (λ _ _. refl) u.represents (λ _. at.reads.at_end ended)
      (respond_end r a at.state at.lines at.answers at.runs at.reads.no_line_feed _ (whole_of at.reads none_held)
      (omega (arith, size_of at.reads, ap length none_held, at.reads.in_range)) ∙ rw (bad, text_is') refl) (inr (_, fault, text_is'))

  pub long_refused : {text : List ℕ} {number : ℕ} → IsNextLineCall reading mid left' next.Long reading' →
      number ≡ reading'.line_count → text ≡ refused_text (number + 1) Long →
      IsRunEnding r a Represents BadInput left left' taken taken' gathered text
  long_refused {text = text} n number_is text_is =
      let (came, step) = n.not_stopped u.not_stopped in
      let (h, long) = step.outcome in
      let at = now step in
      let text_is' : text ≡ refused_text (length at.lines + 1) Long =
      text_is ∙ rw (number_is, h.line_count, u.point.line_count_matches_lines) refl in
      ending step false
      (λ _ none. absurd (omega (arith, long, ap length none, ap length h.octets, length-append {A = ℕ}))) u.represents (λ e. cc e)
      (rw text_is' (long_judged at.reads n.valid h r a at.state at.answers at.runs long)) (inr (_, Long, text_is'))

  pub ends_too_long : {text : List ℕ} → IsNextLineCall reading mid left' next.TooMany reading' → text ≡ [] →
      IsRunEnding r a Represents TooLong left left' taken taken' gathered text
  ends_too_long n text_is =
      let (came, step) = n.not_stopped u.not_stopped in
      let (h, short, some) = step.outcome in
      let at = now step in
      ending step false
      (λ _ none. absurd (omega (arith, some, ap length none, ap length h.octets, length-append {A = ℕ}))) u.represents (λ e. cc e)
      (rw (text_is, append-nil) (goes_past at.reads n.valid h r a at.state at.answers at.runs short some)) (inl text_is)

  pub ends_failed : IsNextLineCall reading mid left' next.Failed reading' →
      IsRunEnding r a Represents ReadFault left left' taken taken' gathered [] × (gathered ≡ [])
  ends_failed n =
      let (came, step) = n.not_stopped u.not_stopped in
      let (h, needs) = step.outcome in
      let at = now step in (
        ending step false (λ e _. let no : ⊥ = cc (e, needs.ended) in absurd no) u.represents (λ e. cc e)
            (rw append-nil (unfinished at.reads n.valid h r a at.state at.answers at.runs needs)) (inl refl),
        elim ready [ inl answer ↦ absurd (failed_unready u.valid n.valid step u.not_stopped answer) | inr none ↦ none ],
      )

-- ## AfterWrites: The state of a run after a write. `EndsWithStatus` holds whether the whole text or only a prefix of it was written.

-- a run that has written the whole response ends with its status
whole_row : (status : Status) (response : Option Status × List ℕ) (q y text : List ℕ) → IsResponse status response text →
    y ≡ text →
    EndsWithStatus status response q y
whole_row WriteFault response q y text is e = absurd is
whole_row NoMemory response q y text is e = absurd is
whole_row BadWords response q y text is e = is
whole_row ReadFault response q y text is e = rw e is
whole_row _ response q y text is e = rw e is

response_text : (status : Status) (response : Option Status × List ℕ) (text : List ℕ) → IsResponse status response text →
    response.1 ≡ text
response_text WriteFault response text is = absurd is
response_text NoMemory response text is = absurd is
response_text BadWords response text is = absurd is
response_text _ response text is = ap (λ (z : Option Status × List ℕ). z.1) is

module _ {State : Type 0} {r : Rules State} {a : State} {held : List ℕ} {answered number : ℕ} {ended : Bool}
    {left left' taken taken' : Option (List ℕ)} where
  abbrev after_write : {mid : Option (List ℕ)} → IsPointOfRun r a held answered number ended left left' taken mid → (w : List ℕ) →
      Appends mid taken' w → IsPointOfRun r a held answered number ended left left' taken taken'
  after_write at w written = record {
    input_read = at.input_read;
    output = at.output ++ w;
    lines = at.lines;
    answers = at.answers;
    state = at.state;
    reads = at.reads;
    line_count_matches_lines = at.line_count_matches_lines;
    written = Appends-trans _ _ _ _ _ at.written written;
    runs = at.runs;
    reads_little_ahead = ReadsAtMostOneBufferAhead-more at.reads_little_ahead w;
  }

  module _ (at : IsPointOfRun r a held answered number ended left left' taken taken') where
    abbrev rest : List ℕ
    rest = (rest_of _ _ _ at.reads.read).0

    at_end : SourceHasEnded left left' → rest ≡ []
    at_end = (rest_of _ _ _ at.reads.read).2

    run_ends_here : {Represents : State → Type 0} {status : Status} (seen_end : Bool) → Represents at.state →
        (later : List (List ℕ)) × (processed_lines at.input_read seen_end ≡ at.lines ++ later) →
        (seen_end ≡ true → SourceHasEnded left left') →
        EndsWithStatus status (response r a at.input_read seen_end) at.input_read at.output →
        (refusal : List ℕ) → IsRefusalOrNone refusal →
        (refusal ≡ []) ⊎ ((response r a at.input_read seen_end).1 ≡ concatenated_text at.answers ++ refusal) →
        IsPrefixOf at.output (concatenated_text at.answers ++ refusal) → IsRun r a Represents status left left' taken taken'
    run_ends_here seen_end represents first ends row refusal is_refusal due begun = record {
      input_read = at.input_read;
      unread = rest;
      output = at.output;
      ended = seen_end;
      read = (rest_of _ _ _ at.reads.read).1;
      nothing_left = λ e. at_end (ends e);
      written = at.written;
      read_bound = bound_of at.reads;
      ends_with_status = row;
      reads_little_ahead = at.reads_little_ahead;
      lines = at.lines;
      answers = at.answers;
      state = at.state;
      first_lines = first;
      runs = at.runs;
      represents = represents;
      refusal = refusal;
      is_refusal = is_refusal;
      is_due = due;
      answers_begun = begun;
    }

    ends_within_answers : {Represents : State → Type 0} → Represents at.state → (more : List ℕ) →
        concatenated_text at.answers ≡ at.output ++ more → IsRun r a Represents WriteFault left left' taken taken'
    ends_within_answers represents more e =
        let front = starts_with_answers at.reads r a at.state at.answers at.runs in
        run_ends_here ended represents (lines_processed at.reads r a at.state at.answers at.runs ended (λ e _. e)) at.reads.at_end
        (IsPrefixOf-append at.output (concatenated_text at.answers) _ (more, e) front) [] (inl refl) (inl refl)
        (more, rw append-nil e)

module _ {State : Type 0} {r : Rules State} {a : State} {Represents : State → Type 0} {left left' taken mid taken' : Option (List ℕ)}
    {gathered : List ℕ} where
  -- a run continues after it writes a prefix of the pending output, if the reader is unchanged
  pub underway_gathers : {reading reading' : ReaderState} {gathered' : List ℕ} →
      IsRunUnderway r a Represents reading left left' taken mid gathered →
      BuffersUnwrittenText gathered gathered' mid taken' → reading' ≡ reading →
      IsRunUnderway r a Represents reading' left left' taken taken' gathered'
  underway_gathers u (w, gathered_is, written) e = rw e (record {
    point = after_write u.point w written;
    represents = u.represents;
    output = u.output ∙ rw (gathered_is, append_assoc);
    valid = u.valid;
    not_stopped = u.not_stopped;
  })

  -- if the sink fails after it has taken a prefix of the pending output, the run ends with `WriteFault`
  pub underway_cut : {reading : ReaderState} → IsRunUnderway r a Represents reading left left' taken mid gathered →
      SinkTakesPrefix mid taken' gathered → IsRun r a Represents WriteFault left left' taken taken'
  underway_cut u (w, (more, gathered_is), written) =
      ends_within_answers (after_write u.point w written) u.represents more (u.output ∙ rw (gathered_is, append_assoc))

  module _ {status : Status} {text : List ℕ} (h : IsRunEnding r a Represents status left left' taken mid gathered text) where
    ending_taken : Appends mid taken' (gathered ++ text) → IsRun r a Represents status left left' taken taken'
    ending_taken written =
        let at = after_write h.point (gathered ++ text) written in
        let split : at.output ≡ concatenated_text at.answers ++ text = rw (h.output, append_assoc) refl in
        run_ends_here at h.seen_end h.represents h.first_lines h.source_ended (whole_row status _ _ _ _ h.prescribed split)
        text h.is_refusal (inr (response_text status _ _ h.prescribed)) ([], rw (split, append-nil) refl)

    ending_cut : SinkTakesPrefix mid taken' (gathered ++ text) → IsRun r a Represents WriteFault left left' taken taken'
    ending_cut (w, (more, text_is), written) =
        let at = after_write h.point w written in
        let whole : at.output ++ more ≡ concatenated_text at.answers ++ text =
        rw (append_assoc, ← text_is, h.output, append_assoc) refl in
        run_ends_here at h.seen_end h.represents h.first_lines h.source_ended (more, response_text status _ _ h.prescribed ∙ sym whole)
        text h.is_refusal (inr (response_text status _ _ h.prescribed)) (more, sym whole)

    ending_concludes : (result : Status) → ((result ≡ status) × Appends mid taken' (gathered ++ text))
        ⊎ ((result ≡ WriteFault) × SinkTakesPrefix mid taken' (gathered ++ text)) →
        IsRun r a Represents result left left' taken taken'
    ending_concludes result (inl (e, written)) = rw e (ending_taken written)
    ending_concludes result (inr (e, written)) = rw e (ending_cut written)

-- if processing a line ends the run, the result of the last write determines the final status
pub run_ends : {State : Type 0} (r : Rules State) (a : State) (Represents : State → Type 0) (reading : ReaderState)
    (left left' taken mid taken' : Option (List ℕ)) (gathered text : List ℕ) (status result : Status) →
    IsLineOutcome r a Represents reading left left' taken mid gathered text (Some status) →
    IsLastWriteResult status (gathered ++ text) mid taken' result → IsRun r a Represents result left left' taken taken'
run_ends r a Represents reading left left' taken mid taken' gathered text ReadFault result (ending, none) (e, kept) =
    rw e (ending_taken ending (rw (kept, none) (Appends-nil mid)))
run_ends r a Represents reading left left' taken mid taken' gathered text _ result ending written = ending_concludes ending result written

abbrev before_any_read : {State : Type 0} (r : Rules State) (a : State) (left taken : Option (List ℕ)) →
    IsPointOfRun r a [] 0 0 false left left taken taken
before_any_read r a left taken = record {
  input_read = [];
  output = [];
  lines = [];
  answers = [];
  state = a;
  reads = record {
    read = Consumes-nil left;
    no_line_feed = All-nil IsLine;
    lines_account_for_octets = inl (refl, refl);
    in_range = omega arith;
    fits_buffer = omega arith;
    at_end = λ e. cc e;
  };
  line_count_matches_lines = refl;
  written = Appends-nil taken;
  runs = refl;
  reads_little_ahead = record {
    lines = [];
    answers = [];
    state = a;
    partial_line = [];
    runs = refl;
    begins = begins_with (All-nil IsLine) refl;
    is_prefix = ([], refl);
    reads_little_ahead = omega arith;
  };
}

pub at_first : {State : Type 0} {r : Rules State} {a : State} {Represents : State → Type 0} {reading : ReaderState}
    {left taken : Option (List ℕ)} →
    reading ≡ new_reader → Represents a → IsRunUnderway r a Represents reading left left taken taken []
at_first {r = r} {a = a} {left = left} {taken = taken} e represents = rw e (record {
  point = before_any_read r a left taken;
  represents = represents;
  output = refl;
  valid = record { limit = omega arith; excess = λ h. absurd (omega arith); fits_buffer = omega arith; line_count = omega arith };
  not_stopped = refl;
})

pub without_memory : {State : Type 0} (r : Rules State) (a : State) (Represents : State → Type 0) (left taken : Option (List ℕ)) →
    Represents a → IsRun r a Represents NoMemory left left taken taken
without_memory r a Represents left taken represents =
    run_ends_here (before_any_read r a left taken) false represents (processed_lines [] false, refl) (λ e. cc e) (refl, refl) []
    (inl refl) (inl refl) ([], refl)

pub last_written : (status : Status) (text : List ℕ) (taken taken' : Option (List ℕ)) (result : Status) →
    (status ≡ ReadFault → ⊥) →
    ((result ≡ status) × Appends taken taken' text) ⊎ ((result ≡ WriteFault) × SinkTakesPrefix taken taken' text) →
    IsLastWriteResult status text taken taken' result
last_written ReadFault text taken taken' result unlike written = absurd (unlike refl)
last_written _ text taken taken' result unlike written = written

-- ## TableLemmas: What a run writes by the octets that it read is the beginning of what the whole input prescribes.

Keeps-nil : (a b : Option (List ℕ)) → Appends a b [] → Keeps a b
Keeps-nil None b h = tt
Keeps-nil (Some xs) None h = h
Keeps-nil (Some xs) (Some ys) h = rw append-nil at h

agrees : (s : Status) (heard due : Option Status × List ℕ) (q y : List ℕ) (taken taken' : Option (List ℕ)) →
    Continues heard due →
    EndsWithStatus s heard q y → Appends taken taken' y → WritesAsPrescribed s due taken taken'
agrees ReadFault heard due q y taken taken' goes row written =
    (y, rw row at (Continues-prefix heard due goes), written)
agrees WriteFault heard due q y taken taken' goes row written =
    (y, IsPrefixOf-append y heard.1 due.1 row (Continues-prefix heard due goes), written)
agrees NoMemory heard due q y taken taken' goes row written = Keeps-nil taken taken' (rw row.1 at written)
agrees BadWords heard due q y taken taken' goes row written = absurd row
agrees s heard due q y taken taken' goes row written =
    let same : due ≡ (Some s, y) = rw row at goes in
    rw same (refl, written)

response-later : {State : Type 0} (r : Rules State) (a : State) (q more : List ℕ) (ended : Bool) → (ended ≡ true → more ≡ []) →
    Continues (response r a q ended) (response r a (q ++ more) true)
response-later r a q more false none = response-continues r a q more true
response-later r a q more true none =
    subst (λ o. Continues (response r a q true) (response r a o true)) (sym (append-nil q) ∙ ap (λ o. q ++ o) (sym (none refl)))
    (Continues-refl (response r a q true))

pub EndsAsPrescribed-from_run : {State : Type 0} {r : Rules State} {a : State} {Represents : State → Type 0} {status : Status}
    (left : Option (List ℕ)) {left' taken taken' : Option (List ℕ)} → IsRun r a Represents status left left' taken taken' →
    EndsAsPrescribed r a status left taken taken'
EndsAsPrescribed-from_run None run = tt
EndsAsPrescribed-from_run {r = r} {a = a} {status = status} (Some x) {taken = taken} {taken' = taken'} run =
    subst (λ o. WritesAsPrescribed status (response r a o true) taken taken') (sym run.read.0)
    (agrees status _ _ run.input_read run.output _ _ (response-later r a run.input_read run.unread run.ended run.nothing_left)
    run.ends_with_status run.written)
