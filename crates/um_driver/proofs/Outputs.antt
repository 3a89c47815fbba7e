-- The prescribed response to an input: the lines of octets, and the answers to them.
use Rattle.{
  um_driver.specs.{
    Table.{EndsAsPrescribed, IsPrefixOf, IsRun},
    Continued.Continues,
    Divided.BeginsWithLines,
    Outputs.{InputEnd, Ended, Exceeded, Open, divided, input_end, last_line, lines_to_process, response, response_at_end, processed_lines},
    Outputs.{response_from_answer, response_to_lines},
    Rules.{Rules, Runs, answer_to_line, answer_to_meaning, concatenated_text},
    declared.status.Status.{TheVariants.{BadInput, TooLong}, Status},
  },
  um_io.specs.{Lines.{IsDividedIntoLines, IsLine, IsNotLineFeed, text_of_lines}, Reading.{input_limit, line_limit}},
  um_io.proofs.Division.{All-front, divide, text-cons},
  std.{
    proofs.{
      Common.{Bool, Err, List, None, Ok, Option, Result, Some, [], append-nil, append_assoc, ap, arith, false, inl, inr, add-one},
      Common.{length-append, length, refl, subst, sym, take, true, ℕ, ◌++◌, ◌+◌, ◌-◌, ◌<◌, ◌∙◌, ◌∷◌},
      Common.{◌≡◌, ◌≤◌},
      lemmas.{Bool.{cases_lt, le-ltb, lt-ltb, ne_eqb}, List.{Elements.{All-append, All-head, All-tail}, take-append-le, take_all, take_at}},
      Math.Seq.take-append-add,
    },
    specs.List.All,
  },
  um_lines.specs.{Refusals.refused_text, declared.fault.LineFault.{TheVariants.Long, LineFault}},
}

-- ## Dividing: The lines of octets, from the way in which the octets were put together.

pub begins_with : {x rest : List ℕ} {lines : List (List ℕ)} → All IsLine lines → x ≡ text_of_lines lines ++ rest →
    BeginsWithLines x lines rest
begins_with plain split = record { no_line_feed = plain; octets_split = split }

pub begins_with_more : {x rest : List ℕ} {lines : List (List ℕ)} (more : List ℕ) → BeginsWithLines x lines rest →
    BeginsWithLines (x ++ more) lines (rest ++ more)
begins_with_more more b = begins_with b.no_line_feed (rw (b.octets_split, append_assoc))

divided-plain : (last : List ℕ) → IsLine last → divided last ≡ ([], last)
divided-plain [] plain = refl
divided-plain (octet ∷ last) plain =
    rw (ne_eqb octet 10 (All-head IsNotLineFeed octet last plain), divided-plain last (All-tail IsNotLineFeed octet last plain)) refl

divided-line : (line rest : List ℕ) → IsLine line → divided (line ++ 10 ∷ rest) ≡ (line ∷ (divided rest).0, (divided rest).1)
divided-line [] rest plain = refl
divided-line (octet ∷ line) rest plain =
    rw (ne_eqb octet 10 (All-head IsNotLineFeed octet line plain), divided-line line rest (All-tail IsNotLineFeed octet line plain)) refl

divided-lines : (lines : List (List ℕ)) (rest : List ℕ) → All IsLine lines →
    divided (text_of_lines lines ++ rest) ≡ (lines ++ (divided rest).0, (divided rest).1)
divided-lines [] rest plain = refl
divided-lines (line ∷ lines) rest plain =
    rw (
      text-cons line lines rest,
      divided-line line (text_of_lines lines ++ rest) (All-head IsLine line lines plain),
      divided-lines lines rest (All-tail IsLine line lines plain),
    ) refl

pub lines_to_process-after : (lines : List (List ℕ)) (rest : List ℕ) (end : InputEnd) → All IsLine lines →
    lines_to_process (text_of_lines lines ++ rest) end ≡ lines ++ lines_to_process rest end
lines_to_process-after lines rest end plain = rw (divided-lines lines rest plain, append_assoc) refl

pub lines_to_process-last : (last : List ℕ) (end : InputEnd) → IsLine last → lines_to_process last end ≡ last_line last end
lines_to_process-last last end plain = rw (divided-plain last plain) refl

long_last : (last : List ℕ) (end : InputEnd) → line_limit < length last → last_line last end ≡ last ∷ []
long_last [] end long = absurd (omega arith)
long_last (o ∷ last) Ended long = refl
long_last (o ∷ last) Exceeded long = rw (lt-ltb line_limit (length (o ∷ last)) long) refl
long_last (o ∷ last) Open long = rw (lt-ltb line_limit (length (o ∷ last)) long) refl

short_last : (last : List ℕ) → length last ≤ line_limit → last_line last Open ≡ []
short_last [] short = refl
short_last (o ∷ last) short = rw (le-ltb line_limit (length (o ∷ last)) short) refl

short_last_exceeded : (last : List ℕ) → length last ≤ line_limit → last_line last Exceeded ≡ []
short_last_exceeded [] short = refl
short_last_exceeded (o ∷ last) short = rw (le-ltb line_limit (length (o ∷ last)) short) refl

some_last : (last : List ℕ) → 0 < length last → last_line last Ended ≡ last ∷ []
some_last [] some = absurd (omega arith)
some_last (o ∷ last) some = refl

open_end : (x : List ℕ) → length x ≤ input_limit → input_end x false ≡ Open
open_end x short = rw (le-ltb input_limit (length x) short) refl

-- if a line that is too long comes first, so does it when more octets follow
long_first : (line more : List ℕ) (end : InputEnd) → IsLine line → line_limit < length line →
    (next : List ℕ) × (later : List (List ℕ)) × (line_limit < length next) × (lines_to_process (line ++ more) end ≡ next ∷ later)
long_first line more end plain long =
    let (ls, last, all, p, e) = divide more in go ls last all p e
  where
    go : (ls : List (List ℕ)) (last : List ℕ) → All IsLine ls → IsLine last → more ≡ text_of_lines ls ++ last →
        (next : List ℕ) × (later : List (List ℕ)) × (line_limit < length next)
        × (lines_to_process (line ++ more) end ≡ next ∷ later)
    go [] last all p e =
        let far : line_limit < length (line ++ last) = omega (arith, length-append line last) in (
          line ++ last,
          [],
          far,
          ap (λ o. lines_to_process (line ++ o) end) e
              ∙ lines_to_process-last (line ++ last) end (All-append IsNotLineFeed line last plain p)
              ∙ long_last (line ++ last) end far,
        )
    go (l ∷ ls) last all p e =
        let whole : IsLine (line ++ l) = All-append IsNotLineFeed line l plain (All-head IsLine l ls all) in
        let split : line ++ more ≡ (line ++ l) ++ 10 ∷ (text_of_lines ls ++ last) = rw (e, text-cons, append_assoc) refl in (
          line ++ l,
          lines_to_process (text_of_lines ls ++ last) end,
          omega (arith, length-append line l),
          ap (λ o. lines_to_process o end) split ∙ rw (divided-line (line ++ l) (text_of_lines ls ++ last) whole) refl,
        )

-- ---- a response that is only continued when more octets come

Continues-answer : (text : List ℕ) (now later : Option Status × List ℕ) → Continues now later →
    Continues (now.0, text ++ now.1) (later.0, text ++ later.1)
Continues-answer text (None, y) later (more, e) = (more, rw (e, append_assoc) refl)
Continues-answer text (Some s, y) later e = rw e refl

pub Continues-refl : (now : Option Status × List ℕ) → Continues now now
Continues-refl (None, text) = ([], sym (append-nil text))
Continues-refl (Some status, text) = refl

pub Continues-prefix : (now later : Option Status × List ℕ) → Continues now later → IsPrefixOf now.1 later.1
Continues-prefix (None, text) later front = front
Continues-prefix (Some status, text) later e = ([], rw append-nil (ap (λ (z : Option Status × List ℕ). z.1) e))

over_end : (x : List ℕ) (ended : Bool) → input_limit < length x → input_end x ended ≡ Exceeded
over_end x ended over = rw (lt-ltb input_limit (length x) over) refl

-- ## RunLemmas: Lemmas about joining and splitting runs over lines that are not refused.

pub joined-append : (ys ys' : List (List ℕ)) → concatenated_text (ys ++ ys') ≡ concatenated_text ys ++ concatenated_text ys'
joined-append [] ys' = refl
joined-append (y ∷ ys) ys' = rw (joined-append ys ys', append_assoc)

-- the answers to some lines, and the response to what comes after them
abbrev pub answers_then : List (List ℕ) → Option Status × List ℕ → Option Status × List ℕ
answers_then answers next = (next.0, concatenated_text answers ++ next.1)

module _ {State : Type 0} (r : Rules State) where
  pub Runs-append : (a b c : State) (ls ls' ys ys' : List (List ℕ)) → Runs r a ls ys b → Runs r b ls' ys' c →
      Runs r a (ls ++ ls') (ys ++ ys') c
  Runs-append a b c [] ls' [] ys' same then = rw same at then
  Runs-append a b c (line ∷ ls) ls' (y ∷ ys) ys' (mid, step, runs) then =
      (mid, step, Runs-append mid b c ls ls' ys ys' runs then)
  Runs-append a b c _ ls' _ ys' none then = absurd none

  pub Runs-keep : (P : State → Type 0) → ((a b : State) (line answer : List ℕ) → P a →
      answer_to_line r a line ≡ Ok (answer, b) → P b) →
      (a b : State) (ls ys : List (List ℕ)) → P a → Runs r a ls ys b → P b
  Runs-keep P keeps a b [] [] h same = rw same h
  Runs-keep P keeps a b (line ∷ ls) (y ∷ ys) h (mid, step, runs) = Runs-keep P keeps mid b ls ys (keeps a mid line y h step) runs
  Runs-keep P keeps a b _ _ h none = absurd none

  -- ## Responding: The response to octets, from the answers to lines that are not refused and what comes after them.

  response_to_lines-after : (a b : State) (n m : ℕ) (ls ys later : List (List ℕ)) (end : InputEnd) → m ≡ length ls + n →
      Runs r a ls ys b → response_to_lines r a n (ls ++ later) end ≡ answers_then ys (response_to_lines r b m later end)
  response_to_lines-after a b n m [] [] later end e same = let here : m ≡ n = omega arith in rw (same, here) refl
  response_to_lines-after a b n m (line ∷ ls) (y ∷ ys) later end e (mid, step, runs) =
      rw (step, response_to_lines-after mid b (n + 1) m ls ys later end (omega arith) runs, append_assoc) refl
  response_to_lines-after a b n m _ _ later end e none = absurd none

  module _ (a b : State) (lines answers : List (List ℕ)) (runs : Runs r a lines answers b) (plain : All IsLine lines) where
    abbrev next_number : ℕ
    next_number = length lines + 1

    respond_to : (x : List ℕ) (ended : Bool) (end : InputEnd) (later : List (List ℕ)) → input_end x ended ≡ end →
        lines_to_process (take input_limit x) end ≡ lines ++ later →
        response r a x ended ≡ answers_then answers (response_to_lines r b next_number later end)
    unfolding response
    respond_to x ended end later end_is is =
        subst (λ e. response_to_lines r a 1 (lines_to_process (take input_limit x) e) e
        ≡ answers_then answers (response_to_lines r b next_number later end)) (sym end_is)
        (ap (λ l. response_to_lines r a 1 l end) is
        ∙ response_to_lines-after a b 1 next_number lines answers later end refl runs)

    within_limit : (x more : List ℕ) → x ≡ text_of_lines lines ++ more → length (text_of_lines lines) ≤ input_limit →
        take input_limit x ≡ text_of_lines lines ++ take (input_limit - length (text_of_lines lines)) more
    within_limit x more split within =
        let n = length (text_of_lines lines) in
        let whole : n + (input_limit - n) ≡ input_limit = omega arith in
        ap (take input_limit) split ∙ ap (λ k. take k (text_of_lines lines ++ more)) (sym whole)
        ∙ take-append-add (text_of_lines lines) more (input_limit - n)

    respond_after : (x more : List ℕ) (ended : Bool) (end : InputEnd) (front : List ℕ) (later : List (List ℕ)) →
        x ≡ text_of_lines lines ++ more → length (text_of_lines lines) ≤ input_limit → input_end x ended ≡ end →
        take (input_limit - length (text_of_lines lines)) more ≡ front → lines_to_process front end ≡ later →
        response r a x ended ≡ answers_then answers (response_to_lines r b next_number later end)
    respond_after x more ended end front later split within end_is front_is is = respond_to x ended end later end_is
        (ap (λ o. lines_to_process o end) (within_limit x more split within ∙ ap (λ o. text_of_lines lines ++ o) front_is)
        ∙ lines_to_process-after lines front end plain ∙ ap (λ l. lines ++ l) is)

    -- ---- the next line is refused

    pub respond_line : (x line after : List ℕ) (ended : Bool) (fault : LineFault) →
        x ≡ text_of_lines lines ++ (line ++ 10 ∷ after) →
        IsLine line → length (text_of_lines lines ++ line) < input_limit → answer_to_line r b line ≡ Err fault →
        response r a x ended ≡ (Some BadInput, concatenated_text answers ++ refused_text next_number fault)
    respond_line x line after ended fault split p below bad =
        let n = length (text_of_lines lines) in
        let both : length (text_of_lines lines ++ line) ≡ n + length line = length-append (text_of_lines lines) line in
        let j = input_limit - n - length line - 1 in
        let many : input_limit - n ≡ length line + (j + 1) = omega arith in
        let front : take (input_limit - n) (line ++ 10 ∷ after) ≡ line ++ take (j + 1) (10 ∷ after) =
        ap (λ k. take k (line ++ 10 ∷ after)) many ∙ take-append-add line (10 ∷ after) (j + 1) in
        respond_after x (line ++ 10 ∷ after) ended (input_end x ended) (line ++ take (j + 1) (10 ∷ after))
        (line ∷ lines_to_process (take j after) (input_end x ended)) split (omega arith) refl front
        (rw (add-one j, divided-line line (take j after) p) refl) ∙ rw bad refl

    pub respond_long : (x line after : List ℕ) (ended : Bool) → x ≡ text_of_lines lines ++ (line ++ after) →
        IsLine line → length (text_of_lines lines ++ line) ≤ input_limit → line_limit < length line →
        response r a x ended ≡ (Some BadInput, concatenated_text answers ++ refused_text next_number Long)
    respond_long x line after ended split p below long =
        let n = length (text_of_lines lines) in
        let both : length (text_of_lines lines ++ line) ≡ n + length line = length-append (text_of_lines lines) line in
        let j = input_limit - n - length line in
        let many : input_limit - n ≡ length line + j = omega arith in
        let front : take (input_limit - n) (line ++ after) ≡ line ++ take j after =
        ap (λ k. take k (line ++ after)) many ∙ take-append-add line after j in
        let (next, later, far, is) = long_first line (take j after) (input_end x ended) p long in
        respond_after x (line ++ after) ended (input_end x ended) (line ++ take j after) (next ∷ later) split (omega arith) refl front is
        ∙ rw (lt-ltb line_limit (length next) far) refl

    -- ---- the octets after these lines have no line feed

    respond_rest : (x last : List ℕ) (ended : Bool) (end : InputEnd) → x ≡ text_of_lines lines ++ last → IsLine last →
        length x ≤ input_limit → input_end x ended ≡ end →
        response r a x ended ≡ answers_then answers (response_to_lines r b next_number (last_line last end) end)
    respond_rest x last ended end split p within end_is =
        let size : length x ≡ length (text_of_lines lines) + length last = ap length split ∙ length-append (text_of_lines lines) last in
        respond_after x last ended end last (last_line last end) split (omega arith) end_is
        (take_all (input_limit - length (text_of_lines lines)) last (omega arith)) (lines_to_process-last last end p)

    pub respond_last : (x line : List ℕ) (fault : LineFault) → x ≡ text_of_lines lines ++ line → IsLine line → 0 < length line →
        length x ≤ input_limit → answer_to_line r b line ≡ Err fault →
        response r a x true ≡ (Some BadInput, concatenated_text answers ++ refused_text next_number fault)
    respond_last x [] fault split p some within bad = absurd (omega arith)
    respond_last x (o ∷ line) fault split p some within bad =
        respond_rest x (o ∷ line) true Ended split p within (rw (le-ltb input_limit (length x) within) refl) ∙ rw bad refl

    pub respond_open : (x held : List ℕ) → x ≡ text_of_lines lines ++ held → IsLine held → length held ≤ line_limit →
        length x ≤ input_limit → response r a x false ≡ (None, concatenated_text answers)
    respond_open x held split p short within =
        respond_rest x held false Open split p within (rw (le-ltb input_limit (length x) within) refl)
        ∙ rw (short_last held short, append-nil) refl

    pub respond_over : (x held excess : List ℕ) (ended : Bool) → x ≡ text_of_lines lines ++ (held ++ excess) → IsLine held →
        length held ≤ line_limit → length (text_of_lines lines ++ held) ≡ input_limit → 0 < length excess →
        response r a x ended ≡ (Some TooLong, concatenated_text answers)
    respond_over x held excess ended split p short full some =
        let n = length (text_of_lines lines) in
        let both : length (text_of_lines lines ++ held) ≡ n + length held = length-append (text_of_lines lines) held in
        let size : length x ≡ n + length (held ++ excess) = ap length split ∙ length-append (text_of_lines lines) (held ++ excess) in
        let over : input_limit < length x = omega (arith, length-append held excess) in
        respond_after x (held ++ excess) ended Exceeded held [] split (omega arith) (rw (lt-ltb input_limit (length x) over) refl)
        (take_at held excess (input_limit - n) (omega arith))
        (lines_to_process-last held Exceeded p ∙ short_last_exceeded held short) ∙ rw append-nil refl

    -- ---- these lines are the whole input

    whole_input : (x : List ℕ) → IsDividedIntoLines x lines → length x ≤ input_limit →
        lines_to_process (take input_limit x) Ended ≡ lines ++ []
    whole_input x all within =
        ap (λ o. lines_to_process o Ended) (take_all input_limit x within) ∙ elim all.octets_split [
          | inl whole ↦ ap (λ o. lines_to_process o Ended) (whole ∙ sym (append-nil (text_of_lines lines)))
              ∙ lines_to_process-after lines [] Ended plain
          | inr cut ↦
              let (front_plain, last_plain) = All-front lines cut.front cut.last plain cut.lines_split in
              ap (λ o. lines_to_process o Ended) cut.octets_split ∙ lines_to_process-after cut.front cut.last Ended front_plain
              ∙ ap (λ l. cut.front ++ l) (lines_to_process-last cut.last Ended last_plain ∙ some_last cut.last cut.nonempty)
              ∙ sym cut.lines_split ∙ sym (append-nil lines)
        ]

    pub respond_end : (x : List ℕ) → IsDividedIntoLines x lines → length x ≤ input_limit →
        response r a x true ≡ answers_then answers (response_at_end next_number (r.end_fault b) Ended)
    respond_end x all within = respond_to x true Ended [] (rw (le-ltb input_limit (length x) within) refl)
        (whole_input x all within)

    -- ---- the lines that the response answers begin with these

    pub first_processed : (x more : List ℕ) (ended : Bool) → x ≡ text_of_lines lines ++ more →
        length (text_of_lines lines) ≤ input_limit →
        (later : List (List ℕ)) × (processed_lines x ended ≡ lines ++ later)
    unfolding processed_lines
    first_processed x more ended split within =
        let rest = take (input_limit - length (text_of_lines lines)) more in (
          lines_to_process rest (input_end x ended),
          ap (λ o. lines_to_process o (input_end x ended)) (within_limit x more split within)
              ∙ lines_to_process-after lines rest (input_end x ended) plain,
        )

    pub all_processed : (x : List ℕ) → IsDividedIntoLines x lines → length x ≤ input_limit →
        (later : List (List ℕ)) × (processed_lines x true ≡ lines ++ later)
    unfolding processed_lines
    all_processed x all within =
        let end_is : input_end x true ≡ Ended = rw (le-ltb input_limit (length x) within) refl in
        ([], ap (λ e. lines_to_process (take input_limit x) e) end_is ∙ whole_input x all within)

    pub begins_with_answers : (x more : List ℕ) (ended : Bool) → x ≡ text_of_lines lines ++ more →
        length (text_of_lines lines) ≤ input_limit → IsPrefixOf (concatenated_text answers) (response r a x ended).1
    begins_with_answers x more ended split within =
        (_, ap (λ (z : Option Status × List ℕ). z.1) (respond_after x more ended (input_end x ended) _ _ split within refl refl refl))

    pub begins_with_all_answers : (x : List ℕ) → IsDividedIntoLines x lines → length x ≤ input_limit →
        IsPrefixOf (concatenated_text answers) (response r a x true).1
    begins_with_all_answers x all within = (_, ap (λ (z : Option Status × List ℕ). z.1) (respond_end x all within))

  -- ## Extending: The response to octets does not change when more octets come; it is only continued.

  continued : (a : State) (n : ℕ) (lines : List (List ℕ)) (last more : List ℕ) (end : InputEnd) → IsLine last →
      Continues (response_to_lines r a n (lines ++ last_line last Open) Open)
      (response_to_lines r a n (lines ++ lines_to_process (last ++ more) end) end)
  continued a n [] last more end plain = elim (cases_lt line_limit (length last)) [
    | inl long ↦
        let (next, later, far, is) = long_first last more end plain long in
        rw (long_last last Open long, is, lt-ltb line_limit (length last) long, lt-ltb line_limit (length next) far) refl
    | inr short ↦ rw (short_last last short) (_, refl)
  ]
  continued a n (line ∷ lines) last more end plain =
      go (λ b. continued b (n + 1) lines last more end plain) (answer_to_line r a line)
    where
      go : ((b : State) → Continues (response_to_lines r b (n + 1) (lines ++ last_line last Open) Open)
          (response_to_lines r b (n + 1) (lines ++ lines_to_process (last ++ more) end) end)) →
          (answer : Result (List ℕ × State) LineFault) →
          Continues (response_from_answer n (λ b. response_to_lines r b (n + 1) (lines ++ last_line last Open) Open) answer)
          (response_from_answer n (λ b. response_to_lines r b (n + 1) (lines ++ lines_to_process (last ++ more) end) end) answer)
      go later (Ok next) = Continues-answer next.0 _ _ (later next.1)
      go later (Err fault) = refl

  same_when_over : (a : State) (o o' : List ℕ) (e e' : InputEnd) → o' ≡ o → e ≡ Exceeded → e' ≡ Exceeded →
      Continues (response_to_lines r a 1 (lines_to_process o e) e) (response_to_lines r a 1 (lines_to_process o' e') e')
  same_when_over a o o' e e' same is is' =
      rw (same, is, is') (Continues-refl (response_to_lines r a 1 (lines_to_process o Exceeded) Exceeded))

  pub response-continues : (a : State) (x more : List ℕ) (ended : Bool) →
      Continues (response r a x false) (response r a (x ++ more) ended)
  unfolding response
  response-continues a x more ended = elim (cases_lt input_limit (length x)) [
    | inl over ↦
        let over' : input_limit < length (x ++ more) = omega (arith, length-append x more) in
        same_when_over a (take input_limit x) (take input_limit (x ++ more)) _ _ (take-append-le input_limit x more (omega arith))
        (over_end x false over) (over_end (x ++ more) ended over')
    | inr short ↦
        let (ls, last, all, p, x_is) = divide x in
        let j = input_limit - length x in
        let many : input_limit ≡ length x + j = omega arith in
        let more_is : take input_limit (x ++ more) ≡ x ++ take j more =
        ap (λ k. take k (x ++ more)) many ∙ take-append-add x more j in
        let end = input_end (x ++ more) ended in
        let now : lines_to_process (take input_limit x) Open ≡ ls ++ last_line last Open =
        ap (λ o. lines_to_process o Open) (take_all input_limit x short ∙ x_is)
        ∙ lines_to_process-after ls last Open all ∙ ap (λ l. ls ++ l) (lines_to_process-last last Open p) in
        let later : lines_to_process (take input_limit (x ++ more)) end ≡ ls ++ lines_to_process (last ++ take j more) end =
        ap (λ o. lines_to_process o end) (more_is ∙ ap (λ o. o ++ take j more) x_is
        ∙ append_assoc (text_of_lines ls) last (take j more))
        ∙ lines_to_process-after ls (last ++ take j more) end all in
        subst (λ e. Continues (response_to_lines r a 1 (lines_to_process (take input_limit x) e) e)
        (response_to_lines r a 1 (lines_to_process (take input_limit (x ++ more)) end) end))
        (sym (open_end x short))
        (subst (λ l. Continues (response_to_lines r a 1 (lines_to_process (take input_limit x) Open) Open) (response_to_lines r a 1 l end))
        (sym later) (subst (λ l. Continues (response_to_lines r a 1 l Open) (response_to_lines r a 1 (ls ++ lines_to_process
        (last ++ take j more) end) end)) (sym now) (continued a 1 ls last (take j more) end p)))
  ]

pub step_of_answer : {State : Type 0} (r : Rules State) (a : State) (line : List ℕ) (next : List ℕ × State) →
    answer_to_line r a line ≡ Ok next → r.step a line ≡ Ok next
step_of_answer r a line next is = elim (cases_lt line_limit (length line)) [
  | inl long ↦ absurd (cc (rw (lt-ltb line_limit (length line) long) at is))
  | inr short ↦ rw (le-ltb line_limit (length line) short) at is
]

pub meaning_of_answer : {Meaning Answer : Type 0} (answer : Meaning → Answer) (parsed : Result Meaning LineFault) (given : Answer) →
    answer_to_meaning answer parsed ≡ Ok given → (meaning : Meaning) × (parsed ≡ Ok meaning) × (given ≡ answer meaning)
meaning_of_answer answer (Ok meaning) given is = (meaning, refl, grind arith)
meaning_of_answer answer (Err fault) given is = absurd (cc is)

-- ## Projecting: Rules whose states are those of other rules with something added give the same answers.

abbrev pub projected : {S T : Type 0} (f : S → T) → Result (List ℕ × S) LineFault → Result (List ℕ × T) LineFault
projected f (Ok next) = Ok (next.0, f next.1)
projected f (Err fault) = Err fault

-- `f` maps states of r to states of r', and keeps all answers and faults
pub record IsProjectedBy {S T : Type 0} (f : S → T) (r : Rules S) (r' : Rules T) : Type 0 where
  pub step : (a : S) (line : List ℕ) → r'.step (f a) line ≡ projected f (r.step a line)
  pub end_fault : (a : S) → r'.end_fault (f a) ≡ r.end_fault a

module _ {S T : Type 0} (f : S → T) (r : Rules S) (r' : Rules T) (w : IsProjectedBy f r r') where
  answer_by : (a : S) (line : List ℕ) (answer : Result (List ℕ × S) LineFault) → answer_to_line r a line ≡ answer →
      answer_to_line r' (f a) line ≡ projected f answer
  answer_by a line answer e = elim (cases_lt line_limit (length line)) [
    | inl long ↦ rw (lt-ltb line_limit (length line) long, ← e) (rw (lt-ltb line_limit (length line) long) refl)
    | inr short ↦ rw (le-ltb line_limit (length line) short, ← e, w.step a line) (rw (le-ltb line_limit (length line) short) refl)
  ]

  pub runs_by : (a b : S) (lines answers : List (List ℕ)) → Runs r a lines answers b → Runs r' (f a) lines answers (f b)
  runs_by a b [] [] h = ap f h
  runs_by a b (line ∷ lines) (y ∷ ys) (mid, step, h) = (f mid, answer_by a line _ step, runs_by mid b lines ys h)
  runs_by a b _ _ none = absurd none

  response_by : (a : S) (number : ℕ) (lines : List (List ℕ)) (end : InputEnd) →
      response_to_lines r' (f a) number lines end ≡ response_to_lines r a number lines end
  response_by a n [] end = rw (w.end_fault a) refl
  response_by a n (line ∷ lines) end = go (answer_to_line r a line) refl (λ b. response_by b (n + 1) lines end)
    where
      go : (answer : Result (List ℕ × S) LineFault) → answer_to_line r a line ≡ answer →
          ((b : S) → response_to_lines r' (f b) (n + 1) lines end ≡ response_to_lines r b (n + 1) lines end) →
          response_to_lines r' (f a) n (line ∷ lines) end ≡ response_to_lines r a n (line ∷ lines) end
      go (Ok next) e later = rw (answer_by a line (Ok next) e, e, later next.1) refl
      go (Err fault) e later = rw (answer_by a line (Err fault) e, e) refl

  whole_response_by : (a : S) (octets : List ℕ) (ended : Bool) → response r' (f a) octets ended ≡ response r a octets ended
  unfolding response
  whole_response_by a octets ended =
      response_by a 1 (lines_to_process (take input_limit octets) (input_end octets ended)) (input_end octets ended)

  pub run_by : (a : S) (Represents : S → Type 0) (Stands : T → Type 0) →
      ((b : S) (lines answers : List (List ℕ)) → Runs r a lines answers b → Represents b → Stands (f b)) → (status : Status) →
      (left left' taken taken' : Option (List ℕ)) → IsRun r a Represents status left left' taken taken' →
      IsRun r' (f a) Stands status left left' taken taken'
  run_by a Represents Stands implies status left left' taken taken' h = record {
    input_read = h.input_read;
    unread = h.unread;
    output = h.output;
    ended = h.ended;
    read = h.read;
    nothing_left = h.nothing_left;
    written = h.written;
    read_bound = h.read_bound;
    ends_with_status = rw (whole_response_by a h.input_read h.ended) h.ends_with_status;
    reads_little_ahead = let ahead = h.reads_little_ahead in record {
      lines = ahead.lines;
      answers = ahead.answers;
      state = f ahead.state;
      partial_line = ahead.partial_line;
      runs = runs_by a ahead.state ahead.lines ahead.answers ahead.runs;
      begins = ahead.begins;
      is_prefix = ahead.is_prefix;
      reads_little_ahead = ahead.reads_little_ahead;
    };
    lines = h.lines;
    answers = h.answers;
    state = f h.state;
    first_lines = h.first_lines;
    runs = runs_by a h.state h.lines h.answers h.runs;
    represents = implies h.state h.lines h.answers h.runs h.represents;
    refusal = h.refusal;
    is_refusal = h.is_refusal;
    is_due = rw (whole_response_by a h.input_read h.ended) h.is_due;
    answers_begun = h.answers_begun;
  }

  pub prescribed_by : (a : S) (status : Status) (left taken taken' : Option (List ℕ)) →
      EndsAsPrescribed r a status left taken taken' →
      EndsAsPrescribed r' (f a) status left taken taken'
  prescribed_by a status None taken taken' h = tt
  prescribed_by a status (Some x) taken taken' h = rw (whole_response_by a x true) h
