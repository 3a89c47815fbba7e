-- Lemmas for the contract of `run`: which command the words name, and what the clauses of `run` follow from.
use Rattle.{
  std.{
    proofs.{
      Common.{Err, List, None, Ok, Option, Result, Some, [], ap, arith, get_or, inl, inr, length, map, refl, rules, slice_index, subst},
      Common.{true, ℕ, ◌<◌, ◌^◌, ◌∷◌, ◌≡◌, ◌≤◌},
      lemmas.{Bool.{cases_Bool, cases_lt, le-leb, lt-leb}, Str.Parse.{IsNumeralModel, numerals_by_value, parse_plain}},
    },
    specs.{Result.OkIff, Str.{Parse.{ParsesUnsigned, digits_value}, all_ascii_digits}},
  },
  um_cli.{
    proofs.Deciding.{end-most_likely, link-most_likely, replay-most_likely},
    specs.{
      Headline.{DecodesToMostLikelyWords, EverySessionDelivers},
      Machines.{CommandEndsAsPrescribed, IsRunOfCommand},
      Shapes.{HasValidOperands, command_of_words, message_count_of_word},
      declared.words.Invocation.{TheVariants.{Code, End, Link, Make, Margin, Repair, Replay, Show}, Invocation},
    },
  },
  um_driver.{
    proofs.Outputs.{IsProjectedBy, projected, run_by},
    specs.{Rules.Rules, Table.{EndsAsPrescribed, IsRun}, declared.status.Status.Status, um_lines.declared.fault.LineFault.LineFault},
  },
  um_end.specs.{lapdm_frame.declared.Channel.Channel, um_link.Naming.spec_role_of},
  um_link_command.{proofs.Lemmas.delivery_laws_hold, specs.Courses.RadioCounters},
}

-- ## WordListsLemmas: Lemmas about lists of words whose length is known.

pub map-single : {A B : Type 0} (f : A → B) (xs : List A) (d : A) → 1 ≤ length xs → length xs < 2 →
    map f xs ≡ f (get_or xs 0 d) ∷ []
map-single f (x ∷ []) d some few = refl
map-single f xs d some few = absurd (omega arith)

-- ## Counts: The number of messages of `make`: for words that begin with a digit 1 to 9, the library's `parse` agrees with
-- `message_count_of_word`.

decimals : IsNumeralModel (λ ds. all_ascii_digits ds ≡ true) (digits_value 10)
decimals = numerals_by_value _ (search rules)

not_empty : (word : List ℕ) → 49 ≤ slice_index word 0 → 0 < length word
not_empty [] first = absurd (omega arith)
not_empty (octet ∷ word) first = omega arith

abbrev IsReadAs : {E : Type 0} → List ℕ → Result ℕ E → Type 0
IsReadAs word r = OkIff r ((all_ascii_digits word ≡ true) × (0 < length word) × (digits_value 10 word < 2 ^ 32)) (digits_value 10 word)

read_as : {E : Type 0} (word : List ℕ) (r r' : Result ℕ E) → ParsesUnsigned 32 10 word r → 49 ≤ slice_index word 0 →
    r ≡ r' → IsReadAs word r'
read_as {E} word r r' parsed first is = subst (IsReadAs {E = E} word) is (parse_plain decimals 32 word r parsed (omega arith))

pub message_count-some : {E : Type 0} (word : List ℕ) (r : Result ℕ E) (n : ℕ) → ParsesUnsigned 32 10 word r →
    49 ≤ slice_index word 0 → r ≡ Ok n → 1 ≤ n → n ≤ 1000 → Some n ≡ message_count_of_word word
message_count-some word r n parsed first is some most =
    let read = read_as word r (Ok n) parsed first is in
    let v : ℕ = digits_value 10 word in
    let value : n ≡ v = read.1 in
    rw (le-leb 49 (slice_index word 0) first, read.0.0, le-leb 1 v (omega arith), le-leb v 1000 (omega arith)) (ap (λ k. Some k) value)

pub message_count-none : {E : Type 0} (word : List ℕ) (r : Result ℕ E) (e : E) → ParsesUnsigned 32 10 word r →
    49 ≤ slice_index word 0 →
    r ≡ Err e → None ≡ message_count_of_word word
message_count-none word r e parsed first is =
    let read = read_as word r (Err e) parsed first is in
    let v : ℕ = digits_value 10 word in
    let begins = le-leb 49 (slice_index word 0) first in
    elim (cases_Bool (all_ascii_digits word)) [
      | inl all ↦ elim (cases_lt 1000 v) [
        | inl large ↦ rw (begins, all, le-leb 1 v (omega arith), lt-leb v 1000 large) refl
        | inr small ↦ absurd (read (all, not_empty word first, omega arith))
      ]
      | inr other ↦ rw (begins, other) refl
    ]

pub too_many_words : (ws : List (List ℕ)) → 4 ≤ length ws → None ≡ command_of_words ws
too_many_words (a ∷ b ∷ c ∷ d ∷ ws) many = refl
too_many_words ws many = absurd (omega arith)

-- ## Tops: The clauses of `run` follow from the laws of the commands, and from the clauses of the command that the words name.

pub decodes_most_likely : (command : Invocation) → HasValidOperands command → DecodesToMostLikelyWords command
decodes_most_likely Code valid = tt
decodes_most_likely Replay valid = replay-most_likely
decodes_most_likely Show valid = tt
decodes_most_likely Margin valid = tt
decodes_most_likely Repair valid = tt
decodes_most_likely (Link tsc channel) valid = link-most_likely tsc channel valid
decodes_most_likely (Make n tsc) valid = tt
decodes_most_likely (End side tsc) valid = end-most_likely (spec_role_of side) tsc valid

pub every_session_delivers : (tsc : ℕ) (channel : Channel) → tsc ≤ 7 → EverySessionDelivers tsc channel
every_session_delivers tsc channel within = delivery_laws_hold tsc channel within

module _ (found : Option Invocation) (field : Invocation) (named : Some field ≡ found) (valid : HasValidOperands field) where
  valid_operands : (t : Invocation) → found ≡ Some t → HasValidOperands t
  valid_operands t k = subst HasValidOperands (let same : field ≡ t = cc (named, k) in same) valid

  pub most_likely_of : (t : Invocation) → found ≡ Some t → DecodesToMostLikelyWords t
  most_likely_of t k = decodes_most_likely t (valid_operands t k)

  pub session_of : (tsc : ℕ) (channel : Channel) → found ≡ Some (Link tsc channel) → EverySessionDelivers tsc channel
  session_of tsc channel k = every_session_delivers tsc channel (valid_operands (Link tsc channel) k)

as_itself : {State : Type 0} (r : Rules State) → IsProjectedBy (λ a. a) r r
as_itself {State} r = record { step = λ a line. go (r.step a line); end_fault = λ a. refl }
  where
    go : (answer : Result (List ℕ × State) LineFault) → answer ≡ projected (λ a. a) answer
    go (Ok (text, after)) = refl
    go (Err fault) = refl

module _ {State : Type 0} (r : Rules State) (begun : State) (s : Invocation) (found : Option Invocation) (field : Invocation)
    (named : Some field ≡ found) (field_is : field ≡ s) (start : State) (starts : start ≡ begun) (status : Status) where
  same : (t : Invocation) → found ≡ Some t → s ≡ t
  same t k = cc (named, field_is, k)

  pub run_of : (left left' taken taken' : Option (List ℕ)) (before after : RadioCounters) →
      (IsRun r begun (λ _. Unit {0}) status left left' taken taken' → IsRunOfCommand s status left left' taken taken' before after) →
      (Represents : State → Type 0) → IsRun r start Represents status left left' taken taken' →
      (t : Invocation) → found ≡ Some t → IsRunOfCommand t status left left' taken taken' before after
  run_of left left' taken taken' before after is Represents run t k =
      let weak = run_by (λ a. a) r r (as_itself r) start Represents (λ _. Unit {0}) (λ b lines answers runs represents. tt) status
      left left' taken taken' run in
      subst (λ t. IsRunOfCommand t status left left' taken taken' before after) (same t k) (is (rw starts at weak))

  pub due_of : (left taken taken' : Option (List ℕ)) →
      (EndsAsPrescribed r begun status left taken taken' → CommandEndsAsPrescribed s status left taken taken') →
      EndsAsPrescribed r start status left taken taken' →
      (t : Invocation) → found ≡ Some t → CommandEndsAsPrescribed t status left taken taken'
  due_of left taken taken' is due t k =
      subst (λ t. CommandEndsAsPrescribed t status left taken taken') (same t k) (is (rw starts at due))
