-- Lemmas about the lines of a script: their words, bit indices and messages, and why the parser agrees with the line forms.
use Rattle.{
  std.{
    proofs.{
      Common.{Bool, Err, IfOk, IsTrue, List, None, Ok, Option, Result, Some, [], add-one, ap, arith, codes, drop, eqb, false, get_or},
      Common.{if◌then◌else◌, inl, inr, length, map, min, not, refl, replicate, subst, suc, sym, true, ℕ, ◌*◌, ◌+◌, ◌-◌},
      Common.{◌<◌, ◌==◌, ◌||◌, ◌∙◌, ◌∷◌, ◌≡◌, ◌≤◌},
      Math.Seq.drop-cons,
      lemmas.Bool.{Decides.nat_tests, and_parts, cases_Bool, cases_eq, eq-eqb, eqb-false, eqb-true, ltb-false, ne_eqb, or_parts, cases_lt},
      lemmas.List.{Elements.{All-cons, All-nil, All-weaker}, Splits.{join_with_byte-slice_split, length-slice_split}, get_or-replicate},
      lemmas.{List.{get_or-set_other, get_or-set_same, length-set, length-map, Folds.list_any_none}, Slice.Eq.bytes_eq-Decides},
      lemmas.Map.Steps.length-le_from_distinct_below,
    },
    specs.{Char.{digit_value, is_ascii_digit}, Cmp.Lexicographic.pointwise, List.{join_with_byte, list_any, IsDistinct, AllByRecursion}},
    specs.{Prelude.{All, slice_set}, Result.result_err, Str.{Parse.{digits_value_after, digits_value}, all_ascii_digits, bytes_eq}},
  },
  um_lines.{
    proofs.FormLaws.{Each, Fitting, line_by_forms, parsed_by_words, parsed_meaning, parsed_means},
    specs.Fields.{BitDigits, BlockBitIndex, DigitUpTo, LineField, FixedWord, HexOctets, OctetsBetween, SoftOctets, Value, fits_field},
    specs.Fields.{has_forbidden_soft_value, has_octet_count, has_wrong_bit_index, has_wrong_digits, has_wrong_length, is_dash_or_hex},
    specs.{Fields.{is_decimal, octets_from_hex}, Forms.{LineForms, fault_or_value, fields_for_word_count, first_field_fault}},
    specs.Forms.{has_faulty_word, has_repeated_number, line_fault, never_misplaced, bit_indices_of_values, values_of_words},
    specs.Forms.{first_word_fault, form_of_words, meaning_of_words},
    specs.{LinkForms.{any_octets, direction_word, endpoint_word, link_line_forms}, Words.{skips_line, words}},
    specs.declared.fault.LineFault.{TheVariants.{Digits, Place, Twice}, LineFault},
  },
  um_link.specs.{
    Naming.spec_event_of,
    declared.events.Event.Event as EventValue,
    um_air.{Air.Event, Sessions.{AreOctets, EventMessageIsOctets}},
  },
  um_script.specs.{
    Held.decimal_word_values,
    Names.{action_of_name, actor_of_name, request_of_name},
    Naming.event_or_fault,
    ScriptLines.{ScriptLineMeans, call_event, event_of_script_line_meaning, event_of_values, octets_of_values, script_line, sender_of},
    ScriptReading.{event_from_parsed_list, is_index_above_591, parsed_actor_line, parsed_bit_indices, parsed_bit_inversion},
    ScriptReading.{EventOrFault, parsed_layer3_call, parsed_octets_call, parsed_octets_word, parsed_radio_event, parsed_script_words},
  },
}
use Rattle.um_link.specs.lapdm_link.Events as E
use Rattle.um_link.specs.um_air.Air as A
use Rattle.um_lines.specs.LinkForms as L

-- ## ReadingLaws: The parser, which splits a line word by word, agrees with the line forms. The proof considers each actor, each action,
-- and each number of words.

abbrev IsOther : List ℕ → List ℕ → Type 0
IsOther known w = bytes_eq w known ≡ false

cases_word : (P : List ℕ → Type 0) (known w : List ℕ) → P known → (IsOther known w → P w) → P w
cases_word P known w here other =
    elim (cases_Bool (bytes_eq w known)) [
      | inl same ↦ subst P (sym ((bytes_eq-Decides w known).0 same)) here
      | inr unlike ↦ other unlike
    ]

-- ---- parsing a word of octets gives the octets that the line form defines

octets_given : (w : List ℕ) (make : List ℕ → A.Event)
    → fault_or_value (first_field_fault (any_octets ∷ []) (w ∷ [])) (Some (make (octets_from_hex w)))
    ≡ event_from_parsed_list make (parsed_octets_word (w ∷ []))
octets_given w make =
    elim (cases_Bool (is_dash_or_hex w)) [
      | inl digits ↦ elim (cases_Bool (has_octet_count 0 None w)) [
        | inl many ↦ rw (digits, many) refl
        | inr few ↦ rw (digits, few) refl
      ]
      | inr other ↦ rw other refl
    ]

-- ---- parsing a call to an endpoint gives the event that the line form defines

cases_verb : (P : List ℕ → Type 0) (verb : List ℕ) → P (codes "open") → P (codes "send") → P (codes "unit") →
    P (codes "close") → P (codes "tick") → P (codes "idle") →
    (IsOther (codes "open") verb → IsOther (codes "send") verb → IsOther (codes "unit") verb → IsOther (codes "close") verb →
    IsOther (codes "tick") verb → IsOther (codes "idle") verb → P verb) → P verb
cases_verb P verb opens send unit close tick idle other =
    cases_word P (codes "open") verb opens (λ a. cases_word P (codes "send") verb send (λ b. cases_word P (codes "unit") verb unit (λ c.
    cases_word P (codes "close") verb close (λ d. cases_word P (codes "tick") verb tick (λ e. cases_word P (codes "idle") verb idle (λ f.
    other a b c d e f))))))

-- the event that the words describe, or their first fault
abbrev script_parse_result : (words : List (List ℕ)) → EventOrFault
script_parse_result ws = fault_or_value (first_word_fault never_misplaced (form_of_words link_line_forms ws) ws)
    (event_of_script_line_meaning (meaning_of_words
    (form_of_words link_line_forms ws) ws))

abbrev IsCallRead : L.LinkEndpoint → List (List ℕ) → List ℕ → Type 0
IsCallRead end ws verb = script_parse_result (endpoint_word end ∷ verb ∷ ws) ≡ parsed_layer3_call end (verb ∷ ws)

calls : (end : L.LinkEndpoint) (ws : List (List ℕ)) → script_parse_result (endpoint_word end ∷ ws) ≡ parsed_layer3_call end ws
calls L.MobileSapi0 [] = refl
calls L.MobileSapi0 (verb ∷ w ∷ []) =
    cases_verb (IsCallRead L.MobileSapi0 (w ∷ [])) verb (octets_given w E.Open)
    (octets_given w (λ m. call_event L.MobileSapi0 (E.Send m)))
    (octets_given w (λ m. call_event L.MobileSapi0 (E.SendUi m))) refl refl refl (λ a b c d e f. rw (a, b, c, d, e, f) refl)
calls end [] = refl
calls L.MobileSapi0 (verb ∷ []) =
    cases_verb (IsCallRead L.MobileSapi0 []) verb refl refl refl refl refl refl (λ a b c d e f. rw (a, b, c, d, e, f) refl)
calls end (verb ∷ []) = cases_verb (IsCallRead end []) verb refl refl refl refl refl refl (λ a b c d e f. rw (a, b, c, d, e, f) refl)
calls end (verb ∷ w ∷ []) =
    cases_verb (IsCallRead end (w ∷ [])) verb refl (octets_given w (λ m. call_event end (E.Send m)))
    (octets_given w (λ m. call_event end (E.SendUi m))) refl refl refl (λ a b c d e f. rw (a, b, c, d, e, f) refl)
-- if two or more words follow the name of a call, the line matches no form
calls L.MobileSapi0 (verb ∷ w ∷ other ∷ ws) =
    cases_verb (IsCallRead L.MobileSapi0 (w ∷ other ∷ ws)) verb refl refl refl refl refl refl (λ a b c d e f. rw (
      a,
      b,
      c,
      d,
      e,
      f,
    ) refl)
calls end (verb ∷ w ∷ other ∷ ws) =
    cases_verb (IsCallRead end (w ∷ other ∷ ws)) verb refl refl refl refl refl refl (λ a b c d e f. rw (a, b, c, d, e, f) refl)

-- ---- parsing bit indices gives the indices that the line form defines

no_less : (n : ℕ) → suc (suc (suc n)) - 3 ≡ n
no_less n = omega arith

all_fit : (ws : List (List ℕ)) → pointwise fits_field (replicate (length ws) BlockBitIndex) ws ≡ true
all_fit [] = refl
all_fit (w ∷ ws) = all_fit ws

each_against : (is_against : LineField → List ℕ → Bool) (ws : List (List ℕ))
    → has_faulty_word is_against (replicate (length ws) BlockBitIndex) ws ≡ list_any (is_against BlockBitIndex) ws
each_against is_against [] = refl
each_against is_against (w ∷ ws) = ap (λ rest. is_against BlockBitIndex w || rest) (each_against is_against ws)

places_of : (ws : List (List ℕ)) → bit_indices_of_values (values_of_words (replicate (length ws) BlockBitIndex) ws) ≡
    map (digits_value 10) ws
places_of [] = refl
places_of (w ∷ ws) = ap (λ rest. digits_value 10 w ∷ rest) (places_of ws)

cases_reasons : (digits place twice : Bool) (ns : List ℕ) (make : List ℕ → A.Event)
    → fault_or_value (if digits then Some Digits else if place then Some Place else if twice then Some Twice else None) (Some (make ns))
    ≡ event_from_parsed_list make (if digits then Err Digits else if place then Err Place else if twice then Err Twice else Ok ns)
cases_reasons true place twice ns make = refl
cases_reasons false true twice ns make = refl
cases_reasons false false true ns make = refl
cases_reasons false false false ns make = refl

places-parsed : (ws : List (List ℕ)) (make : List ℕ → A.Event)
    → (let fields = replicate (length ws) BlockBitIndex in
    fault_or_value (first_field_fault fields ws) (Some (make (bit_indices_of_values (values_of_words fields ws)))))
    ≡ event_from_parsed_list make (parsed_bit_indices ws)
places-parsed ws make =
    rw (
      each_against has_wrong_digits ws,
      each_against has_wrong_length ws ∙ list_any_none (has_wrong_length BlockBitIndex) ws (λ k d lt. refl),
      each_against has_forbidden_soft_value ws ∙ list_any_none (has_forbidden_soft_value BlockBitIndex) ws (λ k d lt. refl),
      each_against has_wrong_bit_index ws,
      places_of ws,
    )
    (cases_reasons (list_any (has_wrong_digits BlockBitIndex) ws) (list_any is_index_above_591 ws)
    (has_repeated_number (map (digits_value 10) ws)) _ make)

-- ---- parsing an event on the radio path gives the event that the line form defines

cases_action : (P : List ℕ → Type 0) (verb : List ℕ) → P (codes "deliver") → P (codes "lose") → P (codes "flip") →
    (IsOther (codes "deliver") verb → IsOther (codes "lose") verb → IsOther (codes "flip") verb → P verb) → P verb
cases_action P verb deliver lose flip other =
    cases_word P (codes "deliver") verb deliver
    (λ a. cases_word P (codes "lose") verb lose (λ b. cases_word P (codes "flip") verb flip (λ c.
    other a b c)))

abbrev IsRadioRead : L.Way → List (List ℕ) → List ℕ → Type 0
IsRadioRead way ws verb = script_parse_result (direction_word way ∷ verb ∷ ws) ≡ parsed_radio_event way (verb ∷ ws)

radio : (way : L.Way) (ws : List (List ℕ)) → script_parse_result (direction_word way ∷ ws) ≡ parsed_radio_event way ws
radio L.Up [] = refl
radio L.Down [] = refl
radio L.Up (verb ∷ []) = cases_action (IsRadioRead L.Up []) verb refl refl refl (λ a b c. rw (a, b, c) refl)
radio L.Down (verb ∷ []) = cases_action (IsRadioRead L.Down []) verb refl refl refl (λ a b c. rw (a, b, c) refl)
radio L.Up (verb ∷ w ∷ ws) =
    cases_action (IsRadioRead L.Up (w ∷ ws)) verb refl refl
    (rw (no_less (length ws), all_fit ws, no_less (length ws)) (places-parsed (w ∷ ws) (E.Deliver (sender_of L.Up))))
    (λ a b c. rw (a, b, c) refl)
radio L.Down (verb ∷ w ∷ ws) =
    cases_action (IsRadioRead L.Down (w ∷ ws)) verb refl refl
    (rw (no_less (length ws), all_fit ws, no_less (length ws)) (places-parsed (w ∷ ws) (E.Deliver (sender_of L.Down))))
    (λ a b c. rw (a, b, c) refl)

-- ---- parsing a whole line gives the event that the line forms define

rivals : (ws : List (List ℕ)) → script_parse_result (codes "rival" ∷ ws) ≡ event_from_parsed_list E.Rival (parsed_octets_word ws)
rivals [] = refl
rivals (w ∷ []) = octets_given w E.Rival
rivals (w ∷ other ∷ ws) = refl

pub read_by_parts : (ws : List (List ℕ)) → script_parse_result ws ≡ parsed_script_words ws
read_by_parts [] = refl
read_by_parts (name ∷ ws) =
    let P : List ℕ → Type 0 = λ n. script_parse_result (n ∷ ws) ≡ parsed_actor_line (actor_of_name n) ws in
    cases_word P (codes "mob") name (calls L.MobileSapi0 ws) (λ a.
    cases_word P (codes "mob3") name (calls L.MobileSapi3 ws) (λ b.
    cases_word P (codes "net") name (calls L.NetworkSapi0 ws) (λ c.
    cases_word P (codes "net3") name (calls L.NetworkSapi3 ws) (λ d.
    cases_word P (codes "up") name (radio L.Up ws) (λ e.
    cases_word P (codes "down") name (radio L.Down ws) (λ f.
    cases_word P (codes "rival") name (rivals ws) (λ g. rw (a, b, c, d, e, f, g) refl)))))))

-- ---- any text after the action word of a line has at least one word

cases_words : (P : List (List ℕ) → Type 0) (text : List ℕ) → ((w : List ℕ) (ws : List (List ℕ)) → P (w ∷ ws)) →
    P (words text)
cases_words P text some = by (words text) (omega (arith, length-slice_split (λ octet. eqb octet 32) text))
  where
    by : (ws : List (List ℕ)) → 0 < length ws → P ws
    by [] none = absurd (omega arith)
    by (w ∷ ws) more = some w ws

pub layer3_call-verb : (end : L.LinkEndpoint) (verb text : List ℕ) →
    parsed_octets_call end (request_of_name verb) (words text) ≡ parsed_layer3_call end (verb ∷ words text)
layer3_call-verb end verb text =
    cases_words (λ ws. parsed_octets_call end (request_of_name verb) ws ≡ parsed_layer3_call end (verb ∷ ws)) text (λ w ws. refl)

pub radio_event-verb : (way : L.Way) (verb text : List ℕ) →
    parsed_bit_inversion way (action_of_name verb) (words text) ≡ parsed_radio_event way (verb ∷ words text)
radio_event-verb way verb text =
    cases_words (λ ws. parsed_bit_inversion way (action_of_name verb) ws ≡ parsed_radio_event way (verb ∷ ws)) text (λ w ws. refl)

-- ## OctetLaws: The messages in script lines consist of octets, 0 to 255.

fitting_octets : (fields : List LineField) (values : List Value) → Fitting fields values → AreOctets (octets_of_values values)
fitting_octets [] values f = rw f (All-nil (λ octet. octet < 256))
fitting_octets (FixedWord text ∷ fields) values f = fitting_octets fields values f
fitting_octets (DigitUpTo most ∷ fields) values (n, rest, same, known, fits) =
    rw same (fitting_octets fields rest fits)
fitting_octets (BitDigits count ∷ fields) values (bits, rest, same, known, fits) =
    rw same (All-weaker (λ bit. bit ≤ 1) (λ octet. octet < 256) (λ bit small. omega arith) bits known.1)
fitting_octets (HexOctets count ∷ fields) values (octets, rest, same, known, fits) =
    rw same known.1
fitting_octets (SoftOctets count ∷ fields) values (octets, rest, same, known, fits) =
    rw same known.0.1
fitting_octets (OctetsBetween least most ∷ fields) values (octets, rest, same, known, fits) =
    rw same known.2
fitting_octets (BlockBitIndex ∷ fields) values (n, rest, same, known, fits) =
    rw same (fitting_octets fields rest fits)

named_octets : (name : L.LinkLineKind) (values : List Value) → AreOctets (octets_of_values values) →
    EventMessageIsOctets (event_of_values name values)
named_octets L.Open values small = small
named_octets (L.Send end) values small = small
named_octets (L.UnitData end) values small = small
named_octets L.Rival values small = small
named_octets name values small = tt

abbrev HasOctets : Option Event → Type 0
HasOctets None = Unit {0}
HasOctets (Some event) = EventMessageIsOctets event

each_has : (table : LineForms L.LinkLineKind) → Each never_misplaced (λ name values. HasOctets (event_of_script_line_meaning (Some
    (name, values)))) table
each_has [] = tt
each_has (entry ∷ table) = (
  λ count values here fits. named_octets entry.0 values (fitting_octets
      (fields_for_word_count entry.1 count) values fits),
  each_has table,
)

pub octet_event : (line : List ℕ) (event : Event) → ScriptLineMeans line (Some event) → EventMessageIsOctets event
octet_event line event means =
    line_by_forms link_line_forms never_misplaced event_of_script_line_meaning HasOctets tt (each_has link_line_forms) line (Some event)
    means

-- ---- the event of a line as a function

pub script_line_meaning : (line : List ℕ) (event : Option Event) → ScriptLineMeans line event → script_line line ≡ Ok event
unfolding script_line
script_line_meaning line event means =
    parsed_meaning link_line_forms never_misplaced event_of_script_line_meaning line event refl means

pub script_line_means : (line : List ℕ) (event : Option Event) → script_line line ≡ Ok event → ScriptLineMeans line event
unfolding script_line
script_line_means line event is = parsed_means link_line_forms never_misplaced event_of_script_line_meaning line event is

pub script_line_refused : (line : List ℕ) (fault : LineFault) → line_fault link_line_forms never_misplaced line ≡ Some fault →
    script_line line ≡ Err fault
unfolding script_line
script_line_refused line fault bad = rw bad refl

-- ## PlaceLaws: Lemmas about words that are bit indices of a block: their values are capped at 592, and a mark for each index that has
-- occurred finds repeated indices.

-- ---- the value of a word of digits, capped at 592, can be computed digit by digit

appending_digits_never_lowers : (n : ℕ) (ds : List ℕ) → n ≤ digits_value_after 10 n ds
appending_digits_never_lowers n [] = omega arith
appending_digits_never_lowers n (d ∷ ds) = omega (arith, appending_digits_never_lowers (n * 10 + digit_value d) ds)

cap_before_appending : (n : ℕ) (ds : List ℕ) → min (digits_value_after 10 (min n 592) ds) 592 ≡ min (digits_value_after 10 n ds) 592
cap_before_appending n ds = elim (cases_lt n 592) [
  | inl under ↦ rw (let same : min n 592 ≡ n = omega arith in same) refl
  | inr over ↦ rw (let most : min n 592 ≡ 592 = omega arith in most)
      (omega (arith, appending_digits_never_lowers 592 ds, appending_digits_never_lowers n ds))
]

digit_is : (d : ℕ) → is_ascii_digit d ≡ true → digit_value d ≡ d - 48
digit_is d h = grind (arith, nat_tests)

-- reading one more digit of a word does not change the value that the whole word will have, capped at 592
pub next_digit-place : (word : List ℕ) (i place new : ℕ) → i < length word → IsTrue (all_ascii_digits (drop i word))
    → new ≡ min (10 * place + (get_or word i 0 - 48)) 592 → (new ≤ 592) × IsTrue (all_ascii_digits (drop (i + 1) word))
    × (min (digits_value_after 10 new (drop (i + 1) word)) 592 ≡ min (digits_value_after 10 place (drop i word)) 592)
next_digit-place word i place new in_range digits is =
    let cut : drop i word ≡ get_or word i 0 ∷ drop (i + 1) word = rw add-one (drop-cons word i 0 in_range) in
    let parts = and_parts (is_ascii_digit (get_or word i 0)) (all_ascii_digits (drop (i + 1) word)) (rw cut at digits) in
    let digit = digit_is (get_or word i 0) parts.0 in
    let value : 10 * place + (get_or word i 0 - 48) ≡ place * 10 + digit_value (get_or word i 0) = omega arith in (
      omega arith,
      parts.1,
      rw (is, value, cut) (cap_before_appending (place * 10 + digit_value (get_or word i 0)) (drop (i + 1) word)),
    )

-- ---- marking each index that has occurred finds every repeated index

abbrev is_among : List ℕ → ℕ → Bool
is_among before n = list_any (λ m. n == m) before

or_apart : (ns before : List ℕ) (n : ℕ) → list_any (is_among (n ∷ before)) ns ≡
    (list_any (λ m. m == n) ns || list_any (is_among before) ns)
or_apart [] before n = refl
or_apart (m ∷ ns) before n =
    rw (or_apart ns before n) (swapped (m == n) (is_among before m) (list_any (λ m. m == n) ns) (list_any (is_among before) ns))
  where
    swapped : (a b c d : Bool) → ((a || b) || (c || d)) ≡ ((a || c) || (b || d))
    swapped true b c d = refl
    swapped false true true d = refl
    swapped false b c d = refl

-- `marks` marks exactly the indices that occur in `before`
record Marks (marks : List Bool) (before : List ℕ) : Type 0 where
  pub right_length : length marks ≡ 592
  pub each : (k : ℕ) → k < 592 → get_or marks k false ≡ is_among before k

Marks-set : (marks : List Bool) (before : List ℕ) (n : ℕ) → n < 592 → Marks marks before →
    Marks (slice_set marks n true) (n ∷ before)
Marks-set marks before n small m =
    record {
      right_length = length-set marks n true ∙ m.right_length;
      each = λ k in_range.
          elim (cases_eq k n) [
            | inl same ↦ rw (eq-eqb k n same) (rw same (get_or-set_same marks n true false (omega (arith, m.right_length))))
            | inr other ↦ rw (ne_eqb k n other) (get_or-set_other marks n k true false other ∙ m.each k in_range)
          ];
    }

first_small : (w : List ℕ) (ws : List (List ℕ)) → list_any is_index_above_591 (w ∷ ws) ≡ false →
    (digits_value 10 w < 592) × (list_any is_index_above_591 ws ≡ false)
first_small w ws in_range =
    let parts = or_parts (is_index_above_591 w) (list_any is_index_above_591 ws) in_range in
    (omega (arith, ltb-false 591 (digits_value 10 w) parts.0), parts.1)

-- whether an index in the list is already marked, or occurs more than once
abbrev pub has_marked_or_repeated_index : (marks : List Bool) (indices : List ℕ) → Bool
has_marked_or_repeated_index marks [] = false
has_marked_or_repeated_index marks (n ∷ ns) = get_or marks n false || has_marked_or_repeated_index (slice_set marks n true) ns

again : (ws : List (List ℕ)) (marks : List Bool) (before : List ℕ) → list_any is_index_above_591 ws ≡ false → Marks marks before
    →
    has_marked_or_repeated_index marks (decimal_word_values ws) ≡
    (list_any (is_among before) (decimal_word_values ws) || has_repeated_number (decimal_word_values ws))
again [] marks before in_range m = refl
again (w ∷ ws) marks before in_range m =
    let n = digits_value 10 w in
    let ns = decimal_word_values ws in
    let small = first_small w ws in_range in
    rw (
      m.each n small.0,
      again ws (slice_set marks n true) (n ∷ before) small.1 (Marks-set marks before n small.0 m),
      or_apart ns before n,
    )
    (or_regrouped (is_among before n) (list_any (λ m. m == n) ns) (list_any (is_among before) ns) (has_repeated_number ns))
  where
    or_regrouped : (a b c d : Bool) → (a || ((b || c) || d)) ≡ ((a || c) || (b || d))
    or_regrouped true b c d = refl
    or_regrouped false true true d = refl
    or_regrouped false b c d = refl

Marks-none : Marks (replicate 592 false) []
Marks-none = record { right_length = refl; each = λ k in_range. get_or-replicate 592 k false false in_range }

pub repeated-no_marks : (ws : List (List ℕ)) → list_any is_index_above_591 ws ≡ false
    → has_marked_or_repeated_index (replicate 592 false) (decimal_word_values ws) ≡ has_repeated_number (decimal_word_values ws)
repeated-no_marks ws in_range =
    again ws (replicate 592 false) [] in_range Marks-none
    ∙ rw (list_any_none (is_among []) (decimal_word_values ws) (λ k d lt. refl)) refl

pub repeated-next : (marks : List Bool) (ws others : List (List ℕ)) (w : List ℕ) (n : ℕ) → ws ≡ w ∷ others →
    n ≡ min (digits_value 10 w) 592
    → list_any is_index_above_591 ws ≡ false → get_or marks n false ≡ true →
    true ≡ has_marked_or_repeated_index marks (decimal_word_values ws)
repeated-next marks ws others w n is value in_range marked =
    let small = first_small w others (rw is at in_range) in
    let same : n ≡ digits_value 10 w = omega (arith, small.0) in
    rw (is, rw same at marked) refl

pub places_held : (ws : List (List ℕ)) (ns : List ℕ) → list_any (λ w. not (is_decimal w)) ws ≡ false →
    list_any is_index_above_591 ws ≡ false
    → has_repeated_number (decimal_word_values ws) ≡ false → ns ≡ decimal_word_values ws → Ok ns ≡ parsed_bit_indices ws
places_held ws ns decimal in_range once same = rw (decimal, in_range, once, same) refl

-- ---- a block has 592 bits, so it has at most 592 distinct bit indices

unlike : (n : ℕ) (ns : List ℕ) → list_any (λ m. m == n) ns ≡ false → AllByRecursion (λ m. eqb n m ≡ false) ns
unlike n [] none = tt
unlike n (m ∷ ns) none =
    let parts = or_parts (m == n) (list_any (λ m. m == n) ns) none in
    (ne_eqb n m (λ same. eqb-false m n parts.0 (sym same)), unlike n ns parts.1)

distinct : (ns : List ℕ) → has_repeated_number ns ≡ false → IsDistinct eqb ns
unfolding IsDistinct
distinct [] once = tt
distinct (n ∷ ns) once =
    let parts = or_parts (list_any (λ m. m == n) ns) (has_repeated_number ns) once in (unlike n ns parts.0, distinct ns parts.1)

small_among : (ws : List (List ℕ)) → list_any is_index_above_591 ws ≡ false → (n : ℕ) →
    list_any (eqb n) (decimal_word_values ws) ≡ true → n < 592
small_among [] in_range n here = absurd cc
small_among (w ∷ ws) in_range n here =
    let small = first_small w ws in_range in
    elim (cases_Bool (eqb n (digits_value 10 w))) [
      | inl same ↦ omega (arith, small.0, eqb-true n (digits_value 10 w) same)
      | inr other ↦ small_among ws small.1 n (rw other at here)
    ]

pub places-at_most_592 : (ws : List (List ℕ)) → list_any is_index_above_591 ws ≡ false
    → has_repeated_number (decimal_word_values ws) ≡ false →
    length ws ≤ 592
places-at_most_592 ws in_range once = omega (
  arith,
  length-le_from_distinct_below (decimal_word_values ws) 592 (distinct (decimal_word_values ws) once) (small_among ws in_range),
  length-map ws (digits_value 10),
)

pub places-below_592 : (ws : List (List ℕ)) → list_any is_index_above_591 ws ≡ false
    → All (λ place. place < 592) (decimal_word_values ws)
places-below_592 [] in_range = All-nil (λ place. place < 592)
places-below_592 (w ∷ ws) in_range =
    let small = first_small w ws in_range in
    All-cons (λ place. place < 592) (digits_value 10 w) (decimal_word_values ws) small.0 (places-below_592 ws small.1)

-- ## LineLaws: If a parser returns the right result for the words of a line, it returns the right result for the line.

pub read_line : (line : List ℕ) (result read : Result EventValue LineFault) → result ≡ read → Ok false ≡ skips_line line →
    event_or_fault result ≡ parsed_script_words (words line)
    → IfOk read (λ event. ScriptLineMeans line (Some (spec_event_of event)))
    × (result_err read ≡ line_fault link_line_forms never_misplaced line)
read_line line result (Ok event) same judged is =
    (parsed_by_words link_line_forms never_misplaced event_of_script_line_meaning line (Ok false) (Ok (Some (spec_event_of event))) judged
    (ap event_or_fault (sym same) ∙ is ∙ sym (read_by_parts (words line)))).0
read_line line result (Err fault) same judged is =
    (parsed_by_words link_line_forms never_misplaced event_of_script_line_meaning line (Ok false) (Err fault) judged
    (ap event_or_fault (sym same) ∙ is ∙ sym (read_by_parts (words line)))).0

-- ## WordSizes: If a text has only one word, the word is the text.

pub words-single : (text w : List ℕ) → words text ≡ w ∷ [] → w ≡ text
words-single text w is = sym (ap (join_with_byte 32) is) ∙ join_with_byte-slice_split 32 text
