-- The response to an input that a command accepts as a whole: the answers to its lines, and the status `Done`.
use Rattle.{
  std.proofs.Common.{List, None, Ok, Err, Option, Result, Some, [], append-nil, ap, arith, inl, inr, length, refl, sym, take, true, ℕ},
  std.proofs.{Common.{◌++◌, ◌+◌, ◌∙◌, ◌∷◌, ◌≡◌, ◌≤◌}, lemmas.Bool.{cases_lt, le-ltb, lt-ltb}},
  std.{proofs.lemmas.List.{take_all, Elements.{All-append, All-cons, All-nil}}, specs.List.All},
  um_driver.{proofs.Outputs.{respond_end, lines_to_process-after, lines_to_process-last}, specs.Outputs.{InputEnd, Ended, Exceeded}},
  um_driver.specs.Outputs.{input_end, last_line, lines_to_process, response, response_at_end, response_from_answer, response_to_lines},
  um_driver.specs.{Rules.{Rules, Runs, answer_to_line, concatenated_text}, declared.status.Status.{TheVariants.Done, Status}},
  um_io.{proofs.Division.divide, specs.{Lines.{IsDividedIntoLines, IsLine, text_of_lines}, Reading.input_limit}},
  um_lines.specs.declared.fault.LineFault.LineFault,
}

-- the command answers all lines of `octets` in order with `output`, and the input may end there
pub record AnswersWholeInput {State : Type 0} (r : Rules State) (start : State) (octets output : List ℕ) : Type 0 where
  pub lines : List (List ℕ)
  pub answers : List (List ℕ)
  pub state : State
  pub all : IsDividedIntoLines octets lines
  pub within : length octets ≤ input_limit
  pub runs : Runs r start lines answers state
  pub may_end : r.end_fault state ≡ None
  pub output_is : output ≡ concatenated_text answers

module _ {State : Type 0} (r : Rules State) where
  pub done_if_answered : (a : State) (x y : List ℕ) → AnswersWholeInput r a x y → response r a x true ≡ (Some Done, y)
  done_if_answered a x y h =
      respond_end r a h.state h.lines h.answers h.runs h.all.no_line_feed x h.all h.within
      ∙ rw (h.may_end, h.output_is, append-nil) refl

  never_done : (a : State) (n : ℕ) (lines : List (List ℕ)) → (response_to_lines r a n lines Exceeded).0 ≡ Some Done → ⊥
  never_done a n [] e = absurd (cc e)
  never_done a n (line ∷ lines) e = go (answer_to_line r a line) (λ b. never_done b (n + 1) lines) e
    where
      go : (answer : Result (List ℕ × State) LineFault) →
          ((b : State) → (response_to_lines r b (n + 1) lines Exceeded).0 ≡ Some Done → ⊥) →
          (response_from_answer n (λ b. response_to_lines r b (n + 1) lines Exceeded) answer).0 ≡ Some Done → ⊥
      go (Ok next) later e = later next.1 e
      go (Err fault) later e = absurd (cc e)

  -- these lines have these answers, after which the input may end
  abbrev EndsAfter : (a : State) (lines : List (List ℕ)) (output : List ℕ) → Type 0
  EndsAfter a lines output = (answers : List (List ℕ)) × (b : State) × Runs r a lines answers b × (r.end_fault b ≡ None)
      × (output ≡ concatenated_text answers)

  answered : (a : State) (n : ℕ) (lines : List (List ℕ)) → (response_to_lines r a n lines Ended).0 ≡ Some Done →
      EndsAfter a lines (response_to_lines r a n lines Ended).1
  answered a n [] e = go (r.end_fault a) refl e
    where
      go : (fault : Option LineFault) → r.end_fault a ≡ fault → (response_at_end n fault Ended).0 ≡ Some Done →
          EndsAfter a [] (response_at_end n fault Ended).1
      go None is e = ([], a, refl, is, refl)
      go (Some fault) is e = absurd (cc e)
  answered a n (line ∷ lines) e = go (answer_to_line r a line) refl (λ b. answered b (n + 1) lines) e
    where
      go : (answer : Result (List ℕ × State) LineFault) → answer_to_line r a line ≡ answer →
          ((b : State) → (response_to_lines r b (n + 1) lines Ended).0 ≡ Some Done →
          EndsAfter b lines (response_to_lines r b (n + 1) lines Ended).1) →
          (response_from_answer n (λ b. response_to_lines r b (n + 1) lines Ended) answer).0 ≡ Some Done →
          EndsAfter a (line ∷ lines) (response_from_answer n (λ b. response_to_lines r b (n + 1) lines Ended) answer).1
      go (Ok (y, b)) is later e =
          let (ys, last, runs, may, text) = later b e in (y ∷ ys, last, (b, is, runs), may, ap (λ t. y ++ t) text)
      go (Err fault) is later e = absurd (cc e)

  -- the last line of an input that has ended, if it has no line feed
  divided_at_end : (x last : List ℕ) (ls : List (List ℕ)) → All IsLine ls → IsLine last → x ≡ text_of_lines ls ++ last →
      IsDividedIntoLines x (ls ++ last_line last Ended)
  divided_at_end x [] ls all plain is = record {
    no_line_feed = rw append-nil all;
    octets_split = inl (is ∙ append-nil (text_of_lines ls) ∙ sym (ap text_of_lines (append-nil ls)));
  }
  divided_at_end x (o ∷ last) ls all plain is = record {
    no_line_feed = All-append IsLine ls ((o ∷ last) ∷ []) all (All-cons IsLine (o ∷ last) [] plain (All-nil IsLine));
    octets_split = inr (record { front = ls; last = o ∷ last; lines_split = refl; octets_split = is; nonempty = omega arith });
  }

  not_done_if_over : (a : State) (taken y : List ℕ) (end : InputEnd) → end ≡ Exceeded →
      response_to_lines r a 1 (lines_to_process taken end) end ≡ (Some Done, y) → ⊥
  not_done_if_over a taken y end is h =
      never_done a 1 (lines_to_process taken Exceeded) (ap (λ (z : Option Status × List ℕ). z.0) (rw is at h))

  answered_if_within : (a : State) (x taken y : List ℕ) (end : InputEnd) → taken ≡ x → end ≡ Ended →
      length x ≤ input_limit →
      response_to_lines r a 1 (lines_to_process taken end) end ≡ (Some Done, y) → AnswersWholeInput r a x y
  answered_if_within a x taken y end same is within h =
      let (ls, last, all, plain, x_is) = divide x in
      let lines : lines_to_process x Ended ≡ ls ++ last_line last Ended =
      ap (λ o. lines_to_process o Ended) x_is ∙ lines_to_process-after ls last Ended all
      ∙ ap (λ l. ls ++ l) (lines_to_process-last last Ended plain) in
      let done : response_to_lines r a 1 (ls ++ last_line last Ended) Ended ≡ (Some Done, y) =
      ap (λ l. response_to_lines r a 1 l Ended) (sym lines) ∙ rw (same, is) at h in
      let (answers, state, runs, may_end, text) =
      answered a 1 (ls ++ last_line last Ended) (ap (λ (z : Option Status × List ℕ). z.0) done) in
      record {
        lines = ls ++ last_line last Ended;
        answers = answers;
        state = state;
        all = divided_at_end x last ls all plain x_is;
        within = within;
        runs = runs;
        may_end = may_end;
        output_is = sym (ap (λ (z : Option Status × List ℕ). z.1) done) ∙ text;
      }

  pub answered_if_done : (a : State) (x y : List ℕ) → response r a x true ≡ (Some Done, y) → AnswersWholeInput r a x y
  unfolding response
  answered_if_done a x y h = elim (cases_lt input_limit (length x)) [
    | inl over ↦ absurd (not_done_if_over a (take input_limit x) y (input_end x true) (rw (lt-ltb input_limit (length x) over) refl) h)
    | inr within ↦
        answered_if_within a x (take input_limit x) y (input_end x true) (take_all input_limit x within)
        (rw (le-ltb input_limit (length x) within) refl) within h
  ]
