-- What a run has read: the lines that the command has answered, and the octets that the reader still buffers.
use Rattle.{
  std.proofs.{KnownBytes.Consumes-trans, lemmas.{Bool.cases_Bool, List.{nil_from_length, Elements.All-push}}, Common.{Bool, Err, List}},
  std.proofs.Common.{None, Option, Some, [], append-nil, append_assoc, ap, arith, false, inl, inr, length-append, length, refl, sym, true},
  std.proofs.Common.{ℕ, ◌++◌, ◌+◌, ◌<◌, ◌∙◌, ◌∷◌, ◌≡◌, ◌≤◌, ◌⊎◌},
  std.specs.Io.KnownBytes.{Consumes, IsAtEnd},
  um_driver.{
    specs.{Progress.{AreLinesRead, SourceHasEnded}, Table.{IsReadFromSource, IsPrefixOf}, Outputs.{response, processed_lines}, Rules.Rules},
    specs.{Rules.{Runs, answer_to_line, concatenated_text}, declared.status.Status.TheVariants.{BadInput, TooLong}},
    proofs.Outputs.{respond_line, respond_long, respond_last, respond_open, respond_over, first_processed, all_processed},
    proofs.Outputs.{begins_with_answers, begins_with_all_answers},
  },
  um_io.{
    specs.{
      Next.{IsReaderStep, ReturnsLine, ReturnsNoLine},
      declared.lines.Next.Next,
      Reading.{IsResultReady, IsValidReader, NeedsMoreOctets, ReaderState, buffer_limit, input_limit, line_limit},
      Lines.{IsDividedIntoLines, IsLine, text_of_lines},
    },
    proofs.Division.{length-text-push, text-push},
  },
  um_lines.specs.{Refusals.refused_text, declared.fault.LineFault.{TheVariants.Long, LineFault}},
}
use Rattle.um_io.specs.declared.lines.Next.TheVariants as next

-- after the octets q are read, a list of octets remains in the source; if the octets of the source are unknown, so is this list
pub rest_of : (left left' : Option (List ℕ)) (q : List ℕ) → Consumes left left' q →
    (rest : List ℕ) × IsReadFromSource left left' q rest × (SourceHasEnded left left' → rest ≡ [])
rest_of None left' q h = ([], tt, λ _. refl)
rest_of (Some x) None q h = absurd h
rest_of (Some x) (Some rest) q h = (rest, (h, refl), λ e. e)

SourceHasEnded-now : (left left' : Option (List ℕ)) → IsAtEnd left' → SourceHasEnded left left'
SourceHasEnded-now None left' e = tt
SourceHasEnded-now (Some x) left' e = e

SourceHasEnded-still : (left mid left' : Option (List ℕ)) (q : List ℕ) → Consumes left mid q → Consumes mid left' [] →
    SourceHasEnded left mid → SourceHasEnded left left'
SourceHasEnded-still None mid left' q h k e = tt
SourceHasEnded-still (Some x) (Some y) (Some z) q h k e = sym k ∙ e
SourceHasEnded-still left mid left' q h k e = absurd assumption

-- `AreLinesRead` still holds after the reader reads more octets
pub arrive : {q : List ℕ} {lines : List (List ℕ)} {r r' : ReaderState} {left mid left' : Option
    (List ℕ)} {next : Next} {came : List ℕ} →
    AreLinesRead q lines (r.held ++ r.excess) r.octet_count r.ended left mid → IsReaderStep r r' mid left' next came →
    AreLinesRead (q ++ came) lines (r.held ++ r.excess ++ came) r.octet_count r'.ended left left'
arrive {r = r} u step = record {
  read = Consumes-trans _ _ _ _ _ u.read step.consumed;
  no_line_feed = u.no_line_feed;
  lines_account_for_octets = elim u.lines_account_for_octets [
    | inl (q_is, answered) ↦ inl (rw (q_is, append_assoc), answered)
    | inr (cut, none, ended, answered) ↦
        let (nil, still) = step.no_read_after_end ended in
        inr (rw (nil, append-nil) cut, rw (none, nil), still, rw (nil, append-nil) answered)
  ];
  in_range = u.in_range;
  fits_buffer = step.fits_buffer;
  at_end = λ e. elim (cases_Bool r.ended) [
    | inl before ↦ SourceHasEnded-still _ _ _ _ u.read (rw (step.no_read_after_end before).0 at step.consumed) (u.at_end before)
    | inr open_ ↦ SourceHasEnded-now _ _ (step.ended e open_)
  ];
}

module _ {q : List ℕ} {lines : List (List ℕ)} {held : List ℕ} {answered : ℕ} {ended : Bool} {left left' : Option (List ℕ)}
    (u : AreLinesRead q lines held answered ended left left') where
  -- unless the source has ended and the buffer is empty, the octets read are complete lines, followed by the buffered octets
  read_is_lines_and_held : (held ≡ [] → ended ≡ true → ⊥) →
      (q ≡ text_of_lines lines ++ held) × (answered ≡ length (text_of_lines lines))
  read_is_lines_and_held some = elim u.lines_account_for_octets [ inl whole ↦ whole | inr (_, none, e, _) ↦ absurd (some none e) ]

  pub size_of : length q ≡ answered + length held
  size_of = elim u.lines_account_for_octets [
    | inl (q_is, here) ↦ omega (arith, ap length q_is, here, length-append {A = ℕ})
    | inr (_, none, _, here) ↦ omega (arith, here, ap length none)
  ]

  pub bound_of : length q ≤ input_limit + buffer_limit
  bound_of = omega (arith, size_of)

  -- if the source has ended and the buffer is empty, the lines answered so far are all lines of the input
  pub whole_of : held ≡ [] → IsDividedIntoLines q lines
  whole_of none = record {
    no_line_feed = u.no_line_feed;
    octets_split = elim u.lines_account_for_octets [
      | inl (q_is, _) ↦ inl (q_is ∙ rw (none, append-nil) refl)
      | inr (cut, _, _, _) ↦ inr cut
    ];
  }

  module _ {State : Type 0} (r : Rules State) (a b : State) (answers : List (List ℕ)) (runs : Runs r a lines answers b) where
    -- the lines that the response answers begin with these, if it counts a last line without a line feed only where these do
    pub lines_processed : (seen_end : Bool) → (ended ≡ true → held ≡ [] → seen_end ≡ true) →
        (later : List (List ℕ)) × (processed_lines q seen_end ≡ lines ++ later)
    lines_processed seen_end last = elim u.lines_account_for_octets [
      | inl (q_is, here) ↦ first_processed r a b lines answers runs u.no_line_feed q held seen_end q_is (omega arith)
      | inr (cut, none, e, here) ↦
          rw (last e none) (all_processed r a b lines answers runs u.no_line_feed q (whole_of none) (omega arith))
    ]

    pub starts_with_answers : IsPrefixOf (concatenated_text answers) (response r a q ended).1
    starts_with_answers = elim u.lines_account_for_octets [
      | inl (q_is, here) ↦ begins_with_answers r a b lines answers runs u.no_line_feed q held ended q_is (omega arith)
      | inr (cut, none, e, here) ↦
          rw e (begins_with_all_answers r a b lines answers runs u.no_line_feed q (whole_of none) (omega arith))
    ]

-- the reader returned a line, which ended with a line feed or with the end of the source
abbrev HasLine : ReaderState → ReaderState → (all line : List ℕ) → Type 0
HasLine r r' all line =
    ReturnsLine r r' all line (10 ∷ []) ⊎ (ReturnsLine r r' all line [] × (r'.held ++ r'.excess ≡ []) × (r'.ended ≡ true))

pub answered_of : {r r' : ReaderState} {all line : List ℕ} → HasLine r r' all line →
    (feed : List ℕ) × ReturnsLine r r' all line feed
answered_of (inl l) = (10 ∷ [], l)
answered_of (inr (l, _, _)) = ([], l)

module _ {q : List ℕ} {lines : List (List ℕ)} {r r' : ReaderState} {all : List ℕ} {left left' : Option (List ℕ)}
    (u : AreLinesRead q lines all r.octet_count r'.ended left left') (valid : IsValidReader r') where
  -- at the end of the source, the reader returns a line only if the octets `all` that it has are not empty
  pub some_held : (line feed : List ℕ) → ReturnsLine r r' all line feed → all ≡ [] → r'.ended ≡ true → ⊥
  some_held line feed l none e =
      omega (arith, ap length none, ap length l.octets, length-append {A = ℕ})

  -- the line that the reader returns is the next line among the octets read
  stands_next : (line : List ℕ) → HasLine r r' all line →
      ((q ≡ text_of_lines lines ++ (line ++ 10 ∷ (r'.held ++ r'.excess)))
      × (r'.octet_count ≡ length (text_of_lines lines ++ line) + 1))
      ⊎ ((q ≡ text_of_lines lines ++ line) × (0 < length line) × (r'.held ++ r'.excess ≡ []) × (r'.ended ≡ true)
      × (r'.octet_count ≡ length q))
  stands_next line (inl l) =
      let w = read_is_lines_and_held u (some_held line (10 ∷ []) l) in
      inl (
        w.0 ∙ ap (λ o. text_of_lines lines ++ o) (l.octets ∙ append_assoc line (10 ∷ []) (r'.held ++ r'.excess)),
        omega (arith, l.octet_count, w.1, length-append {A = ℕ}),
      )
  stands_next line (inr (l, none, e)) =
      let w = read_is_lines_and_held u (some_held line [] l) in
      let q_is : q ≡ text_of_lines lines ++ line = w.0 ∙ ap (λ o. text_of_lines lines ++ o) (l.octets ∙ simp (none, append-nil)) in
      inr (
        q_is,
        omega (arith, l.nonempty, length-append line []),
        none,
        e,
        omega (arith, l.octet_count, w.1, length-append {A = ℕ}, ap length q_is),
      )

  module _ (line : List ℕ) (h : HasLine r r' all line) where
    pub next_line : AreLinesRead q (lines ++ line ∷ []) (r'.held ++ r'.excess) r'.octet_count r'.ended left left'
    next_line = record {
      read = u.read;
      no_line_feed = All-push IsLine lines line u.no_line_feed (answered_of h).1.no_line_feed;
      lines_account_for_octets = elim (stands_next line h) [
        | inl (q_is, answered) ↦ inl (rw text-push q_is, rw length-text-push answered)
        | inr (q_is, some, none, e, answered) ↦
            inr (record { front = lines; last = line; lines_split = refl; octets_split = q_is; nonempty = some }, none, e, answered)
      ];
      in_range = omega arith;
      fits_buffer = omega (arith, length-append {A = ℕ});
      at_end = u.at_end;
    }

    -- if the rules refuse the line, the response to what was read ends with the reason
    pub line_judged : {State : Type 0} (rules : Rules State) (a b : State) (answers : List (List ℕ)) (fault : LineFault) →
        Runs rules a lines answers b → answer_to_line rules b line ≡ Err fault →
        (seen_end : Bool) × (seen_end ≡ true → SourceHasEnded left left') × (response rules a q seen_end
        ≡ (Some BadInput, concatenated_text answers ++ refused_text (length lines + 1) fault))
    line_judged rules a b answers fault runs bad = elim (stands_next line h) [
      | inl (q_is, answered) ↦ (
        false,
        λ e. cc e,
        respond_line rules a b lines answers runs u.no_line_feed q line (r'.held ++ r'.excess) false fault q_is
            (answered_of h).1.no_line_feed (omega arith) bad,
      )
      | inr (q_is, some, none, e, answered) ↦ (
        true,
        λ _. u.at_end e,
        respond_last rules a b lines answers runs u.no_line_feed q line fault q_is (answered_of h).1.no_line_feed some
            (omega arith) bad,
      )
    ]

  module _ {stops : Bool} (h : ReturnsNoLine r r' all stops) where
    -- if the reader returns no line while it buffers octets or the source has not ended, the octets read are the answered lines, then the
    -- buffered octets
    held_next : (r'.held ++ r'.excess ≡ [] → r'.ended ≡ true → ⊥) →
        (q ≡ text_of_lines lines ++ (r'.held ++ r'.excess)) × (r'.octet_count ≡ length (text_of_lines lines))
    held_next some =
        let w = read_is_lines_and_held u (λ none. some (sym h.octets ∙ none)) in
        (w.0 ∙ ap (λ o. text_of_lines lines ++ o) h.octets, h.octet_count ∙ w.1)

    module _ {State : Type 0} (rules : Rules State) (a b : State) (answers : List (List ℕ)) (runs : Runs rules a lines answers b) where
      pub long_judged : line_limit < length r'.held →
          response rules a q false ≡ (Some BadInput, concatenated_text answers ++ refused_text (length lines + 1) Long)
      long_judged long =
          let w = held_next (λ none _. omega (arith, long, ap length none, length-append {A = ℕ})) in
          respond_long rules a b lines answers runs u.no_line_feed q r'.held r'.excess false w.0 h.no_line_feed
          (omega (arith, w.1, valid.limit, length-append {A = ℕ})) long

      pub goes_past : length r'.held ≤ line_limit → 0 < length r'.excess →
          response rules a q false ≡ (Some TooLong, concatenated_text answers)
      goes_past short some =
          let w = held_next (λ none _. omega (arith, some, ap length none, length-append {A = ℕ})) in
          respond_over rules a b lines answers runs u.no_line_feed q r'.held r'.excess false w.0 h.no_line_feed short
          (omega (arith, w.1, valid.excess some, length-append {A = ℕ})) some

      pub unfinished : NeedsMoreOctets r' → response rules a q false ≡ (None, concatenated_text answers)
      unfinished needs =
          let w = held_next (λ _ e. cc (e, needs.ended)) in
          let q_is = rw (needs.excess, append-nil) at w.0 in
          respond_open rules a b lines answers runs u.no_line_feed q r'.held q_is h.no_line_feed needs.in_limit
          (omega (arith, ap length q_is, w.1, valid.limit, length-append {A = ℕ}))

pub nothing_read_if_ready : {r r' : ReaderState} {left left' : Option (List ℕ)} {next : Next} {came : List ℕ} →
    IsReaderStep r r' left left' next came → r.is_over ≡ false → IsResultReady r → came ≡ []
nothing_read_if_ready step open_ (inl is_over) = cc is_over
nothing_read_if_ready step open_ (inr answer) = elim step.read_if_needed [ inl needs ↦ absurd (answer needs) | inr none ↦ none ]

-- a reader fails only if it must read from the source, and not if it can return its next result without a read
pub failed_unready : {r r' : ReaderState} {left left' : Option (List ℕ)} {came : List ℕ} → IsValidReader r → IsValidReader r' →
    IsReaderStep r r' left left' next.Failed came → r.is_over ≡ false → IsResultReady r → ⊥
failed_unready {r} {r'} valid valid' step open_ ready =
    let (h, needs) = step.outcome in
    let all : r.held ++ r.excess ≡ r'.held =
    sym (rw (nothing_read_if_ready step open_ ready, append-nil)) ∙ h.octets ∙ rw (needs.excess, append-nil) in
    let past : r.excess ≡ [] =
    nil_from_length r.excess (grind (arith, valid.excess, valid'.limit, h.octet_count, ap length all, length-append r.held r.excess)) in
    let held : r.held ≡ r'.held = sym (rw (past, append-nil)) ∙ all in
    let ended : r.ended ≡ false = elim (cases_Bool r.ended) [
      | inl e ↦ cc ((step.no_read_after_end e).1, needs.ended)
      | inr e ↦ e
    ] in
    elim ready [
      | inl is_over ↦ cc (is_over, open_)
      | inr answer ↦ answer
          (record { no_line_feed = rw held needs.no_line_feed; in_limit = rw held needs.in_limit; excess = past; ended = ended })
    ]
