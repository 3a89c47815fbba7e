-- The reader of lines: its calls to the source, what it buffers, and that it returns the lines of the source.
use Rattle.{
  std.proofs.Common.{All, Bool, Bor, List, None, Option, Result, Some, [], ap, append-nil, append_assoc, arith, cond, drop, false, inl},
  std.proofs.Common.{inr, length, length-append, refl, slice_index, slice_range, subst, sym, take, true, ℕ, ◌++◌, ◌+◌, ◌-◌},
  std.proofs.{Common.{◌<◌, ◌∙◌, ◌∷◌, ◌≡◌, ◌≤◌, ◌⊎◌}, Math.Seq.take-add, lemmas.Bool.cases_Bool},
  std.proofs.lemmas.List.{drop_all, drop_more, get_or-take, length-take, take-append-drop, take-take, take_all, take_rest},
  std.{proofs.{lemmas.List.Elements.{All-cons, All-nil}, KnownBytes.Appends-trans}, specs.Io.KnownBytes.Appends},
  um_io.{
    specs.{
      Answers.{CallsReturnLines, DividesReadOctets, ReaderStopsWith},
      SourceCalls.{CallsReturnOctets, StopsAtEndOrFailure, more as more_calls, none as no_calls},
      Buffer.octets_of,
      SearchResults.{HasReadOctets, IsFoundInBuffer, IsFoundWithoutLineFeed, IsSearchResult},
      Lines.{IsDividedIntoLines, IsFirstLineFeed, IsLine, lines_of_octets, text_of_lines},
      Next.{IsNextLineCall, IsReaderStep, IsNextLineResult, ReturnsLine, ReturnsNoLine},
      Reading.{IsResultReady, IsValidReader, NeedsMoreOctets, ReaderState, buffer_limit, input_limit, line_limit, new_reader},
      Reading.reader_holding,
      declared.{buffer.Buffer.Buffer, lines.{LineSearchResult.{LineSearchResult, TheVariants.Line as WholeLine}, Next.Next}},
      declared.{lines.Next.TheVariants.{End, Failed, Line, Long, TooMany}, streams.Failed.Failed as Error},
    },
    proofs.{Division.{IsDividedIntoLines-line, lines_of_octets-only}, LineFeeds.slice_range-front},
  },
}

-- ## KnownOctets: The octets that remain in a source, or that a sink has taken, after several calls.

pub Appends-front : (a b c : Option (List ℕ)) (w n : ℕ) (piece : List ℕ) → Appends a b (take w piece) →
    Appends b c (take n (take (length piece - w) (drop w piece))) → Appends a c (take (w + n) piece)
Appends-front a b c w n piece first then =
    rw take-add (Appends-trans a b c (take w piece) (take n (drop w piece)) first (rw (take_rest piece w) at then))

-- ## AskingLemmas: Lemmas about the sequence of calls that a line reader makes to its source.

module _ {S : Type 0} (IsCall : S → Option ℕ → S → Type 0) (first : S) where
  pub asked-none : StopsAtEndOrFailure IsCall first first
  asked-none = record { state_before_last_call = first; earlier_calls = no_calls; last_call = inl refl }

  -- each call to the source so far returned octets, or the last call reached the end of the source
  abbrev pub AskedSoFar : S → Bool → Type 0
  AskedSoFar s ended = CallsReturnOctets IsCall first s ⊎ ((ended ≡ true) × StopsAtEndOrFailure IsCall first s)

  pub so_far-none : (ended : Bool) → AskedSoFar first ended
  so_far-none ended = inl no_calls

  pub asked-once : (s t : S) (ended ended' : Bool) (n : ℕ) → AskedSoFar s ended → ended ≡ false → IsCall s (Some n) t →
      (ended' ≡ false → 0 < n) → AskedSoFar t ended'
  asked-once s t ended ended' n (inl gave) goes_on is_call some = elim (cases_Bool ended') [
    | inl ends ↦ inr (ends, record { state_before_last_call = s; earlier_calls = gave; last_call = inr (Some n, is_call) })
    | inr goes ↦ inl (more_calls s t n gave is_call (some goes))
  ]
  asked-once s t ended ended' n (inr asked) goes_on is_call some = cc (asked.0, goes_on)

-- ## ReadingLemmas: Lemmas about the octets that a line reader buffers, and how a read from the source changes them.

pub length-cut : (octets : List ℕ) (m : ℕ) → length (take m octets) + length (drop m octets) ≡ length octets
length-cut octets m = omega (arith, length-append (take m octets) (drop m octets), ap length (take-append-drop m octets))

pub length-octets_of : (b : Buffer) → length (octets_of b) ≤ buffer_limit
length-octets_of b = omega (arith, length-take (b.end - b.start) (drop b.start b.octets.items))

pub IsValidReader-from : (b : Buffer) (answered number : ℕ) (ended is_over : Bool) → answered ≤ input_limit → number ≤ answered
    → IsValidReader (reader_holding (octets_of b) answered number ended is_over)
IsValidReader-from b answered number ended is_over limit numbered =
    let octets = octets_of b in
    let m = input_limit - answered in
    let whole = length-cut octets m in
    let front = length-take m octets in
    let room = length-octets_of b in record {
      limit = omega arith;
      excess = λ some. omega arith;
      fits_buffer = omega arith;
      line_count = numbered;
    }

-- a search for a line reads the octets `came` from the source, and reads only if the buffered octets are not enough
pub record IsFinding (r s : ReaderState) (left left' : Option (List ℕ)) (came : List ℕ) : Type 0 where
  pub has_read : HasReadOctets r s left left' came
  pub needed : NeedsMoreOctets r ⊎ ((s ≡ r) × (came ≡ []))

-- an upper bound on the number of reads that can still follow: the free capacity, plus one while the source has not ended
abbrev pub reads_left : ReaderState → ℕ
reads_left r = (line_limit + 1 - (length r.held + length r.excess)) + cond r.ended 0 1

pub reads_left-read : (r s : ReaderState) (left left' : Option (List ℕ)) (came : List ℕ) → NeedsMoreOctets r →
    HasReadOctets r s left left' came
    → (s.ended ≡ false → 0 < length came) → IsValidReader s → reads_left s < reads_left r
reads_left-read r s left left' came more has some valid =
    let all : length s.held + length s.excess ≡ length r.held + length r.excess + length came =
    omega (arith, length-append {A = ℕ}, ap length has.octets) in
    let room = valid.fits_buffer in
    elim (cases_Bool s.ended) [
      | inl ends ↦ rw (more.ended, ends) (omega arith)
      | inr goes ↦ let grew = some goes in rw (more.ended, goes) (omega arith)
    ]

-- ## NextLemmas: Lemmas for the contract of `Lines::next`: the octets read and the result of the search determine the result of the call.

IsNextLineCall-from : {r s t : ReaderState} {left left' : Option (List ℕ)} {next : Next} {came : List ℕ} → r.is_over ≡ false →
    HasReadOctets r s left left' came → NeedsMoreOctets r ⊎ (came ≡ []) → IsValidReader s → t.ended ≡ s.ended →
    IsValidReader t →
    IsNextLineResult r t (r.held ++ r.excess ++ came) next → IsNextLineCall r left left' next t
IsNextLineCall-from {s = s} {came = came} going has needed held same valid gives =
    record {
      valid = valid;
      already_stopped = λ is_over. cc (going, is_over);
      not_stopped = λ _. (
        came,
        record {
          consumed = has.consumed;
          fits_buffer = omega (arith, length-append s.held s.excess, ap length has.octets, held.fits_buffer);
          read_if_needed = needed;
          no_read_after_end = λ yes. ((has.no_read_after_end yes).0, same ∙ (has.no_read_after_end yes).1);
          ended = λ yes no. has.ended (sym same ∙ yes) no;
          outcome = gives;
        },
      );
    }

abbrev pub stopped : ReaderState → ReaderState
stopped s = record s { is_over = true }

pub IsNextLineCall-stopped : {r s : ReaderState} {left left' : Option (List ℕ)} {next : Next} {result : Result LineSearchResult Error} →
    r.is_over ≡ false → IsValidReader s → (found : IsSearchResult r s left left' result) → IsLine s.held →
    (ReturnsNoLine r (stopped s) (r.held ++ r.excess ++ found.octets_read) true →
    IsNextLineResult r (stopped s) (r.held ++ r.excess ++ found.octets_read) next) → IsNextLineCall r left left' next (stopped s)
IsNextLineCall-stopped {s = s} going valid found plain gives =
    let has = found.has_read in
    let same : IsValidReader (stopped s) =
    record { limit = valid.limit; excess = valid.excess; fits_buffer = valid.fits_buffer; line_count = valid.line_count } in
    IsNextLineCall-from going has found.read_if_needed valid refl same (gives (record {
      octets = sym has.octets;
      no_line_feed = plain;
      octet_count = has.octet_count;
      line_count = has.line_count;
      stops = refl;
    }))

pub source_unchanged : {X : Type 0} (r : ReaderState) (old new : X) → r.is_over ≡ false → NeedsMoreOctets r ⊎ (new ≡ old) →
    IsResultReady r → new ≡ old
source_unchanged r old new going (inl more) (inl is_over) = cc (going, is_over)
source_unchanged r old new going (inl more) (inr none) = absurd (none more)
source_unchanged r old new going (inr same) ready = same

pub counts-after : (octets : List ℕ) (answered number n whole : ℕ) (ended is_over : Bool) → answered ≤ input_limit →
    number ≤ answered
    → IsFoundInBuffer (reader_holding octets answered number ended is_over) (WholeLine n whole)
    → (answered + whole ≤ input_limit) × (number + 1 ≤ answered + whole)
counts-after octets answered number n whole ended is_over limit numbered looks =
    let front = length-take (input_limit - answered) octets in
    elim looks [ inl first ↦ (omega arith, omega arith) | inr last ↦ (omega arith, omega arith) ]

line_and_rest : (octets : List ℕ) (n : ℕ) → n < length octets → slice_index octets n ≡ 10
    → octets ≡ take n octets ++ (10 ∷ []) ++ drop (n + 1) octets
line_and_rest octets n within feed =
    let rest : drop n octets ≡ 10 ∷ drop (n + 1) octets = drop_more octets n 0 within ∙ ap (λ x. x ∷ drop (n + 1) octets) feed in
    rw (append_assoc, ← rest) (sym (take-append-drop n octets))

lent_line : (octets held : List ℕ) (from n whole : ℕ) → n ≤ whole → slice_range octets from (from + whole) ≡ take whole held
    → slice_range octets from (from + n) ≡ take n held
lent_line octets held from n whole fits skipped =
    sym (slice_range-front octets from (from + whole) n (omega arith)) ∙ ap (take n) skipped ∙ take-take n whole held fits

-- the lemmas of this module assume that a reader removes a line, the first `whole` octets, from the buffer `b`, which leaves `after`
module _ (r : ReaderState) (b after : Buffer) (answered number whole : ℕ) (ended is_over : Bool) (left left' : Option (List ℕ))
    (came : List ℕ) (going : r.is_over ≡ false) (has : HasReadOctets r (reader_holding (octets_of b) answered number ended is_over) left
    left' came) (needed : NeedsMoreOctets r ⊎ (came ≡ [])) (limit : answered ≤ input_limit) (numbered : number ≤ answered)
    (rest : octets_of after ≡ drop whole (octets_of b))
  where
    abbrev held_before : ReaderState
    held_before = reader_holding (octets_of b) answered number ended is_over

    abbrev held_after : ReaderState
    held_after = reader_holding (octets_of after) (answered + whole) (number + 1) ended is_over

    ReturnsLine-from : (line feed : List ℕ) → octets_of b ≡ line ++ feed ++ drop whole (octets_of b) → IsLine line →
        length line ≤ line_limit
        → length (line ++ feed) ≡ whole → 0 < whole
        → ReturnsLine r held_after (r.held ++ r.excess ++ came) line feed
    ReturnsLine-from line feed split plain short size some =
        let before = take-append-drop (input_limit - answered) (octets_of b) in
        let behind = take-append-drop (input_limit - (answered + whole)) (octets_of after) ∙ rest in
        let was : answered ≡ r.octet_count = has.octet_count in
        let counted : number ≡ r.line_count = has.line_count in
        record {
          octets = sym has.octets ∙ before ∙ split ∙ ap (λ l. line ++ feed ++ l) (sym behind);
          no_line_feed = plain;
          in_limit = short;
          nonempty = omega arith;
          octet_count = omega arith;
          line_count = omega arith;
          is_over = has.is_over ∙ going;
        }

    IsValidReader-after : 0 < whole → whole ≤ length held_before.held →
        IsValidReader held_after
    IsValidReader-after some fits =
        let front = length-take (input_limit - answered) (octets_of b) in
        IsValidReader-from after (answered + whole) (number + 1) ended is_over (omega arith) (omega arith)

    IsNextLineCall-line : (n : ℕ) (line : Bor (List ℕ)) → line.now ≡ take n (octets_of b) → IsFirstLineFeed held_before.held n →
        whole ≡ n + 1 → IsNextLineCall r left left' (Line line) held_after
    IsNextLineCall-line n line shown first size =
        let octets = octets_of b in
        let m = input_limit - answered in
        let within = first.in_range in
        let front = length-take m octets in
        let room = length-octets_of b in
        let low : n < m = omega arith in
        let feed : slice_index octets n ≡ 10 = sym (get_or-take m octets n 0 low) ∙ first.is_line_feed in
        let split : octets ≡ take n octets ++ (10 ∷ []) ++ drop whole octets = rw size (line_and_rest octets n (omega arith) feed) in
        let plain : IsLine (take n octets) = subst IsLine (take-take n m octets (omega arith)) first.no_line_feed in
        let long = length-take n octets in
        let counted : length (take n octets ++ 10 ∷ []) ≡ whole = omega (arith, length-append (take n octets) (10 ∷ [])) in
        let answers = ReturnsLine-from (take n octets) (10 ∷ []) split plain (omega arith) counted (omega arith) in
        IsNextLineCall-from going has needed (IsValidReader-from b answered number ended is_over limit numbered) refl
        (IsValidReader-after (omega arith) (omega arith))
        (inl (rw shown answers))

    IsNextLineCall-last : (n : ℕ) (line : Bor (List ℕ)) → line.now ≡ take n (octets_of b) → IsLine held_before.held
        → IsFoundWithoutLineFeed (length held_before.held) (length held_before.excess) ended (WholeLine n whole)
        → IsNextLineCall r left left' (Line line) held_after
    IsNextLineCall-last n line shown plain shows =
        let octets = octets_of b in
        let m = input_limit - answered in
        let front = length-take m octets in
        let cut = length-cut octets m in
        let all : take n octets ≡ octets = take_all n octets (omega (arith, shows.0, shows.4)) in
        let inside : take m octets ≡ octets = take_all m octets (omega (arith, shows.4)) in
        let none : drop whole octets ≡ [] = drop_all whole octets (omega (arith, shows.1, shows.4)) in
        let split : octets ≡ take n octets ++ [] ++ drop whole octets =
        sym (rw (none, append-nil, append-nil) all) in
        let line_has_no_feed : IsLine (take n octets) = subst IsLine (inside ∙ sym all) plain in
        let size : length (take n octets) ≡ length octets = ap length all in
        let counted : length (take n octets ++ []) ≡ whole = omega (arith, ap length (append-nil (take n octets)), shows.1, shows.4) in
        let answers = ReturnsLine-from (take n octets) [] split line_has_no_feed (omega (arith, shows.3, shows.4)) counted
        (omega (arith, shows.1, shows.2)) in
        let nothing = take-append-drop (input_limit - (answered + whole)) (octets_of after) ∙ rest ∙ none in
        IsNextLineCall-from going has needed (IsValidReader-from b answered number ended is_over limit numbered) refl
        (IsValidReader-after (omega (arith, shows.1, shows.2)) (omega (arith, shows.1)))
        (inr (rw shown answers, nothing, shows.5))

    pub IsNextLineCall-found : (from n : ℕ) (line : Bor (List ℕ)) →
        slice_range after.octets.items from (from + whole) ≡ take whole (octets_of b)
        → line.now ≡ slice_range after.octets.items from (from + n)
        → IsFoundInBuffer held_before (WholeLine n whole) → IsNextLineCall r left left' (Line line) held_after
    IsNextLineCall-found from n line skipped borrowed looks = elim looks [
      | inl first ↦
          let shown = borrowed ∙ lent_line after.octets.items (octets_of b) from n whole (omega (arith, first.1)) skipped in
          IsNextLineCall-line n line shown first.0 first.1
      | inr last ↦
          let shown = borrowed ∙ lent_line after.octets.items (octets_of b) from n whole (omega (arith, last.1.0, last.1.1)) skipped in
          IsNextLineCall-last n line shown last.0 last.1
    ]

-- ## AnswersLemmas: The lines that a line reader returns before it ends are the lines of its source. The proof is by induction over the
-- calls; each call takes one line off the front of the octets.

IsDividedIntoLines-last : (line : List ℕ) → IsLine line → 0 < length line → IsDividedIntoLines line (line ∷ [])
IsDividedIntoLines-last line plain some =
    record {
      no_line_feed = All-cons IsLine line [] plain (All-nil IsLine);
      octets_split = inr record { front = []; last = line; lines_split = refl; octets_split = refl; nonempty = some };
    }

no_more : (r r' : ReaderState) (left left' : Option (List ℕ)) (lines : List (List ℕ)) (came : List ℕ) → r.held ++ r.excess
    ≡ [] →
    r.ended ≡ true
    → CallsReturnLines r left lines came r' left' → (lines ≡ []) × (came ≡ [])
no_more r r' left left' [] came none ended answers = (refl, answers.0)
no_more r r' left left' (line ∷ lines) came none ended (first, rest, mid, between, slice, shown_is, came_is, step, later) =
    let nothing : length (r.held ++ r.excess ++ first) ≡ 0 = rw ((step.no_read_after_end ended).0, append-nil, none) in
    elim step.outcome [
      | inl whole ↦ absurd (omega (arith, ap length whole.octets, whole.nonempty, length-append {A = ℕ}))
      | inr last ↦ absurd (omega (arith, ap length last.0.octets, last.0.nonempty, length-append {A = ℕ}))
    ]

IsDividedIntoLines-answers : (lines : List (List ℕ)) (r r' : ReaderState) (left left' : Option (List ℕ)) (came : List ℕ)
    → CallsReturnLines r left lines came r' left' → r'.held ++ r'.excess ≡ [] →
    IsDividedIntoLines (r.held ++ r.excess ++ came) lines
IsDividedIntoLines-answers [] r r' left left' came (nothing, same, _) none =
    rw (nothing, append-nil, ← same, none) (record { no_line_feed = All-nil IsLine; octets_split = inl refl })
IsDividedIntoLines-answers (line ∷ lines) r r' left left' came (first, rest, mid, between, slice, shown_is, came_is, step, later) none =
    let shown = slice.now in
    let joined : r.held ++ r.excess ++ came ≡ (r.held ++ r.excess ++ first) ++ rest = rw came_is (simp append_assoc) in
    rw (← shown_is)
    (elim step.outcome [
      | inl whole ↦
          let behind = mid.held ++ mid.excess in
          let octets : _ ≡ shown ++ 10 ∷ (behind ++ rest) = joined ∙ rw whole.octets (simp append_assoc) in
          rw octets
          (IsDividedIntoLines-line shown (behind ++ rest) lines whole.no_line_feed
          (IsDividedIntoLines-answers lines mid r' between left' rest later none))
      | inr last ↦
          let ends = no_more mid _ _ _ _ _ last.1 last.2 later in
          let octets : r.held ++ r.excess ++ came ≡ shown =
          joined ∙ rw (ends.1, append-nil, last.0.octets, last.1) (simp append-nil) in
          let some : 0 < length shown = omega (arith, ap length (append-nil shown), last.0.nonempty) in
          rw (octets, ends.0) (IsDividedIntoLines-last shown last.0.no_line_feed some)
    ])

nothing_came : (held came : List ℕ) → held ++ came ≡ [] → (held ≡ []) × (came ≡ [])
nothing_came [] came none = (refl, none)
nothing_came (o ∷ held) came none = cc none

-- `rest` are the octets that remain in a source after `came` is read from `octets`; once the source has ended, `rest` is empty
pub record IsLeft (octets came : List ℕ) (left' : Option (List ℕ)) (ended : Bool) : Type 0 where
  pub rest : List ℕ
  pub left_is : left' ≡ Some rest
  pub octets_split : octets ≡ came ++ rest
  pub at_end : ended ≡ true → rest ≡ []

IsLeft-step : (r r' : ReaderState) (octets : List ℕ) (left' : Option (List ℕ)) (next : Next) (came : List ℕ) →
    (r.ended ≡ true → octets ≡ [])
    → IsReaderStep r r' (Some octets) left' next came → IsLeft octets came left' r'.ended
IsLeft-step r r' octets None next came known step = absurd step.consumed
IsLeft-step r r' octets (Some rest) next came known step =
    record {
      rest = rest;
      left_is = refl;
      octets_split = step.consumed;
      at_end = λ yes. elim (cases_Bool r.ended) [
        | inl before ↦ (nothing_came came rest (sym step.consumed ∙ known before)).1
        | inr not_before ↦ step.ended yes not_before
      ];
    }

IsLeft-answers : (lines : List (List ℕ)) (r r' : ReaderState) (octets came : List ℕ) (left' : Option (List ℕ))
    → (r.ended ≡ true → octets ≡ []) → CallsReturnLines r (Some octets) lines came r' left' → IsLeft octets came left' r'.ended
IsLeft-answers [] r r' octets came left' known (none, same, left_is) =
    record { rest = octets; left_is = left_is; octets_split = rw none; at_end = rw same known }
IsLeft-answers (line ∷ lines) r r' octets came left' known (first, others, mid, between, shown, shown_is, came_is, step, later) =
    let one = IsLeft-step _ _ _ _ _ _ known step in
    let rest = IsLeft-answers lines mid r' one.rest others left' one.at_end (rw one.left_is at later) in
    record {
      rest = rest.rest;
      left_is = rest.left_is;
      octets_split = rw (came_is, append_assoc) (cc (one.octets_split, rest.octets_split));
      at_end = rest.at_end;
    }

-- the octets buffered at the start and those read are the returned lines, each with its line feed, then the octets buffered at the end
record AreWhole (r r' : ReaderState) (lines : List (List ℕ)) (came : List ℕ) : Type 0 where
  pub octets : r.held ++ r.excess ++ came ≡ text_of_lines lines ++ (r'.held ++ r'.excess)
  answered : r'.octet_count ≡ r.octet_count + length (text_of_lines lines)
  pub no_line_feed : All IsLine lines

AreWhole-answers : (lines : List (List ℕ)) (r r' : ReaderState) (left left' : Option (List ℕ)) (came : List ℕ)
    → CallsReturnLines r left lines came r' left'
    → AreWhole r r' lines came ⊎ ((r'.held ++ r'.excess ≡ []) × (r'.ended ≡ true))
AreWhole-answers [] r r' left left' came (none, same, _) =
    inl record {
      octets = rw (none, append-nil, same);
      answered = rw same (omega arith);
      no_line_feed = All-nil IsLine;
    }
AreWhole-answers (line ∷ lines) r r' left left' came (first, rest, mid, between, shown, shown_is, came_is, step, later) =
    elim step.outcome [
      | inl whole ↦ elim (AreWhole-answers lines mid r' between left' rest later) [
        | inl then ↦
            let joined : r.held ++ r.excess ++ came ≡ (r.held ++ r.excess ++ first) ++ rest = rw came_is (simp append_assoc) in
            let text = simp append_assoc at then.octets in
            inl record {
              octets = joined ∙ rw (whole.octets, shown_is) (simp (append_assoc, text));
              answered = omega (arith, then.answered, whole.octet_count, length-append {A = ℕ}, ap length shown_is);
              no_line_feed = All-cons IsLine line lines (rw shown_is at whole.no_line_feed) then.no_line_feed;
            }
        | inr is_over ↦ inr is_over
      ]
      | inr last ↦
          let ends = no_more mid _ _ _ _ _ last.1 last.2 later in
          inr (after_end lines mid r' between left' rest last.1 last.2 ends.0 later)
    ]
  where
    after_end : (lines : List (List ℕ)) (mid r' : ReaderState) (between left' : Option (List ℕ)) (rest : List ℕ) →
        mid.held ++ mid.excess ≡ []
        → mid.ended ≡ true → lines ≡ []
        → CallsReturnLines mid between lines rest r' left' → (r'.held ++ r'.excess ≡ []) × (r'.ended ≡ true)
    after_end [] mid r' between left' rest none ended same (_, is, _) = rw is (none, ended)
    after_end (line ∷ lines) mid r' between left' rest none ended same later = absurd (cc same)

module _ (octets : List ℕ) (lines : List (List ℕ)) (came last : List ℕ) (r r' : ReaderState) (left left' : Option (List ℕ)) where
  lines_of_octets-answers : CallsReturnLines new_reader (Some octets) lines came r left → IsReaderStep r r' left left' End last →
      lines ≡ lines_of_octets octets
  lines_of_octets-answers answers step =
      let (held, none) = nothing_came (r.held ++ r.excess) last step.outcome.1 in
      let had = IsLeft-answers lines new_reader r octets came left (λ yes. cc yes) answers in
      let ends = IsLeft-step _ _ _ _ _ _ had.at_end (rw had.left_is at step) in
      let nothing : had.rest ≡ [] = ends.octets_split ∙ ap (λ l. l ++ ends.rest) none ∙ ends.at_end step.outcome.2 in
      let all : octets ≡ came = had.octets_split ∙ rw (nothing, append-nil) in
      lines_of_octets-only octets lines (rw all (IsDividedIntoLines-answers _ _ _ _ _ _ answers held))

  DividesReadOctets-answers : {next : Next} → CallsReturnLines new_reader (Some octets) lines came r left →
      IsReaderStep r r' left left' next last → IsValidReader r' → ReturnsNoLine r r' (r.held ++ r.excess ++ last) true →
      (r.held ++ r.excess ++ last ≡ [] → r'.ended ≡ true → ⊥) → DividesReadOctets octets (came ++ last) lines r'.held r'.excess
  DividesReadOctets-answers {next} answers step valid held open_ =
      elim (AreWhole-answers _ _ _ _ _ _ answers) [
        | inl whole ↦
            let had = IsLeft-answers lines new_reader r octets came left (λ yes. cc yes) answers in
            let then = IsLeft-step _ _ _ _ _ _ had.at_end (rw had.left_is at step) in
            record {
              unread = then.rest;
              octets_split = rw append_assoc (cc (had.octets_split, then.octets_split));
              read_split = ap (λ l. l ++ last) whole.octets ∙ append_assoc (text_of_lines lines) (r.held ++ r.excess) last
                  ∙ ap (λ l. text_of_lines lines ++ l) held.octets;
              no_line_feed = whole.no_line_feed;
              line_has_no_feed = held.no_line_feed;
              limit = omega (arith, valid.limit, held.octet_count, whole.answered, length-append {A = ℕ});
              octets_past_only_at_input_limit =
                  λ some. omega (arith, valid.excess some, held.octet_count, whole.answered, length-append {A = ℕ});
            }
        | inr (none, ended) ↦
            let (nil, ended') = step.no_read_after_end ended in
            absurd (open_ (rw (nil, append-nil) none) ended')
      ]

  pub ends_with : (next : Next) → CallsReturnLines new_reader (Some octets) lines came r left →
      IsReaderStep r r' left left' next last → IsValidReader r' → ReaderStopsWith next octets (came ++ last) lines
  ends_with (Line line) answers step valid = tt
  ends_with End answers step valid = lines_of_octets-answers answers step
  ends_with Long answers step valid =
      let (held, long) = step.outcome in
      let parts = DividesReadOctets-answers answers step valid held
      (λ none _. omega (arith, long, ap length held.octets, ap length none, length-append {A = ℕ})) in
      (r'.held, r'.excess, parts, long)
  ends_with TooMany answers step valid =
      let (held, short, some) = step.outcome in
      let parts = DividesReadOctets-answers answers step valid held
      (λ none _. omega (arith, some, ap length held.octets, ap length none, length-append {A = ℕ})) in
      (r'.held, r'.excess, parts, short, some)
  ends_with Failed answers step valid =
      let (held, needs) = step.outcome in
      let parts = DividesReadOctets-answers answers step valid held (λ _ ended. let open_ = needs.ended in cc (ended, open_)) in
      (r'.held, rw needs.excess at parts, needs.in_limit)
