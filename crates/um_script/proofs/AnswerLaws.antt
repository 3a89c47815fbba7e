-- Lemmas about the lines of an answer: their text, and the octets in them.
use Rattle.{
  std.{
    proofs.Common.{Bool, Fits, List, [], append-nil, append_assoc, ap, arith, codes, false, get_or, if◌then◌else◌, length-append},
    proofs.Common.{length, nat_abs, nat_le, negsuc, pos, refl, suc, sym, take, true, w8, ℕ, ℤ, ◌%◌, ◌*◌, ◌++◌, ◌+◌},
    proofs.Common.{◌-◌, ◌/◌, ◌<◌, ◌==◌, ◌^◌, ◌∙◌, ◌∷◌, ◌≡◌, ◌≢◌, ◌≤◌},
    proofs.lemmas.{Bool.{and_parts, leb-true, ne_eqb, Decides.nat_tests}, Fmt.{digits_decimal, digits_value-decimal}},
    proofs.lemmas.List.{Elements.{All-append, All-cons, All-nil, All-weaker}, Splits.{join_with_byte-slice_split, slice_split_at}},
    proofs.lemmas.Str.Parse.{IsNumeralModel, numerals_by_value, tells_all_ascii_digits},
    specs.{Fmt.{decimal, signed_decimal}, List.{join_with_byte, list_all, list_any, slice_split}, Str.Parse.digits_value},
    specs.{Str.{all_ascii_digits, bytes_eq}, Char.is_ascii_digit},
  },
  um_lines.{
    proofs.{SpelledLaws.hex_digits_decode, Texts.words-join},
    specs.{Fields.octets_from_hex, Hex.{encode_lower, is_hex_digit}, LineTexts.octets_word, Words.{IsNotSpace, words}},
  },
  um_link.specs.{
    bit_blocks.Octets.{bits_of, octets_of},
    lapdm_window.{Ends.{Mobile, Network}, declared.{Notice.Notice, Reason.{TheVariants.{Contention, Failed, Refused, Released}, Reason}}},
    lapdm_window.declared.Sapi.{TheVariants.{Three, Zero}, Sapi},
    um_air.Sessions.AreOctets,
  },
  um_script.specs.{
    AnswerLines.{FinalOk, AnswerLine, Drops, LineIsInRange, LinesAreInRange, NoticeIsInRange, No, ReceptionIsInRange, ReceptionQuality},
    AnswerLines.{Reports, Sends, Takes, answer_line_text, answer_words, answer_lines_text, notice_words, reception_words, spaced_words},
    AnswerWords.{actor_word, call_refusal_word, closing_reason_word, sapi_suffix},
  },
}
use Rattle.std.specs.List as L
use Rattle.um_link.specs.lapdm_window.declared.Notice.TheVariants as N
use Rattle.um_link.specs.lapdm_window.declared.Refused.TheVariants as Q
use Rattle.um_link.specs.lapdm_link.Events as E

-- ## AnswerLaws: Different answer lines have different texts. No word contains a line feed or a space, so a text can be split into its
-- lines and words, and each line can be read back from its words.

-- ---- the text of an answer consists of the texts of its lines, and each line consists of words

pub lines_text_append : (ls ms : List AnswerLine) → answer_lines_text (ls ++ ms) ≡ answer_lines_text ls ++ answer_lines_text ms
lines_text_append [] ms = refl
lines_text_append (l ∷ ls) ms = ap (λ t. answer_line_text l ++ t) (lines_text_append ls ms)
    ∙ sym (append_assoc (answer_line_text l) (answer_lines_text ls) (answer_lines_text ms))

pub join-spaced : (w : List ℕ) (ws : List (List ℕ)) → join_with_byte 32 (w ∷ ws) ≡ w ++ spaced_words ws
join-spaced w [] = sym (append-nil w)
join-spaced w (v ∷ ws) = ap (λ t. w ++ 32 ∷ t) (join-spaced v ws)

spaced-append : (ws vs : List (List ℕ)) → spaced_words (ws ++ vs) ≡ spaced_words ws ++ spaced_words vs
spaced-append [] vs = refl
spaced-append (w ∷ ws) vs = ap (λ t. 32 ∷ w ++ t) (spaced-append ws vs)
    ∙ sym (append_assoc (32 ∷ w) (spaced_words ws) (spaced_words vs))

pub line_spaced : (w : List ℕ) (ws vs : List (List ℕ)) →
    (w ++ spaced_words ws) ++ spaced_words vs ≡ join_with_byte 32 (w ∷ ws ++ vs)
line_spaced w ws vs =
    append_assoc w (spaced_words ws) (spaced_words vs) ∙ ap (λ t. w ++ t) (sym (spaced-append ws vs)) ∙ sym (join-spaced w (ws ++ vs))

pub report_line : (out : List ℕ) (who : E.Who) (sapi : Sapi) (notice : Notice) (rest : List ℕ) →
    ((((out ++ actor_word who) ++ sapi_suffix sapi) ++ spaced_words (notice_words notice)) ++ codes "\n") ++ rest
    ≡ out ++ answer_line_text (Reports who sapi notice) ++ rest
report_line out who sapi notice rest =
    rw (join-spaced (actor_word who ++ sapi_suffix sapi) (notice_words notice)) (simp append_assoc)

-- ---- no word of an answer line contains a space or a line feed

abbrev is_plain : List ℕ → Bool
is_plain word = list_all (λ octet. nat_le 33 octet) word

hex-above_32 : (digit : ℕ) → is_hex_digit digit ≡ true → nat_le 33 digit ≡ true
hex-above_32 digit is = grind (arith, nat_tests)

hex_plain : (word : List ℕ) → list_all is_hex_digit word ≡ true → is_plain word ≡ true
hex_plain [] digits = refl
hex_plain (digit ∷ word) digits =
    let parts = and_parts (is_hex_digit digit) (list_all is_hex_digit word) digits in
    rw (hex-above_32 digit parts.0, hex_plain word parts.1) refl

digit-above_32 : (digit : ℕ) → is_ascii_digit digit ≡ true → nat_le 33 digit ≡ true
digit-above_32 digit is = grind (arith, nat_tests)

digits_plain : (word : List ℕ) → all_ascii_digits word ≡ true → is_plain word ≡ true
digits_plain [] digits = refl
digits_plain (digit ∷ word) digits =
    let parts = and_parts _ (all_ascii_digits word) digits in rw (digit-above_32 digit parts.0, digits_plain word parts.1) refl

decimals : IsNumeralModel (λ ds. all_ascii_digits ds ≡ true) (digits_value 10)
decimals = numerals_by_value _ tells_all_ascii_digits

octets_plain : (octets : List ℕ) → AreOctets octets → is_plain (encode_lower octets) ≡ true
octets_plain octets small = hex_plain (encode_lower octets) (hex_digits_decode octets small).0

message_plain : (m : List ℕ) → AreOctets m → is_plain (octets_word m) ≡ true
message_plain [] small = refl
message_plain (octet ∷ m) small = octets_plain (octet ∷ m) small

number_plain : (n : ℕ) → n < 2 ^ 64 → is_plain (decimal n) ≡ true
number_plain n fits = digits_plain (decimal n) (digits_decimal decimals n fits)

signed_plain : (z : ℤ) → nat_abs z < 2 ^ 63 → is_plain (signed_decimal z) ≡ true
signed_plain (pos n) fits = number_plain n (omega arith)
signed_plain (negsuc n) fits = number_plain (suc n) (omega arith)

who_plain : (who : E.Who) → is_plain (actor_word who) ≡ true
who_plain (E.BySide Mobile) = refl
who_plain who = refl

name_plain : (sapi : Sapi) (who : E.Who) → is_plain (actor_word who ++ sapi_suffix sapi) ≡ true
name_plain Zero (E.BySide Mobile) = refl
name_plain Three (E.BySide Mobile) = refl
name_plain sapi who = refl

why_plain : (why : E.EventRefusal) → is_plain (call_refusal_word why) ≡ true
why_plain (E.RefusedByEndpoint Q.NotIdle) = refl
why_plain why = refl

closing_plain : (reason : Reason) → is_plain (closing_reason_word reason) ≡ true
closing_plain Contention = refl
closing_plain reason = refl

are_plain : List (List ℕ) → Bool
are_plain ws = list_all is_plain ws

notice_plain : (notice : Notice) → NoticeIsInRange notice → are_plain (notice_words notice) ≡ true
unfolding are_plain
notice_plain (N.Opened m) fits = rw (message_plain m fits) refl
notice_plain (N.Got m) fits = rw (message_plain m fits) refl
notice_plain (N.Unit m) fits = rw (message_plain m fits) refl
notice_plain (N.Acked n) fits = rw (number_plain n fits) refl
notice_plain N.Oversize fits = refl
notice_plain (N.Closed reason) fits = rw (closing_plain reason) refl

reception_plain : (h : ReceptionQuality) (rest : List (List ℕ)) → ReceptionIsInRange h → are_plain rest ≡ true →
    are_plain (reception_words h ++ rest) ≡ true
unfolding are_plain
reception_plain h rest fits plain =
    rw (number_plain h.tsc fits.tsc, number_plain h.wrong_training fits.wrong_training, signed_plain h.metric fits.metric, plain) refl

line_plain : (line : AnswerLine) → LineIsInRange line → are_plain (answer_words line) ≡ true
unfolding are_plain
line_plain (No why) fits = rw (why_plain why) refl
line_plain (Takes who octets h) fits = rw (who_plain who, octets_plain octets fits.0, reception_plain h [] fits.1 refl) refl
line_plain (Drops who h octets check) fits =
    let back : List (List ℕ) = codes "data" ∷ encode_lower octets ∷ codes "check" ∷ encode_lower check ∷ [] in
    let plain : are_plain back ≡ true = rw (octets_plain octets fits.1, octets_plain check fits.2) refl in
    rw (who_plain who, reception_plain h back fits.0 plain) refl
line_plain (Reports who sapi notice) fits = rw (name_plain sapi who, notice_plain notice fits) refl
line_plain (Sends who octets) fits = rw (who_plain who, octets_plain octets fits) refl
line_plain FinalOk fits = refl

-- ---- splitting a text at its line feeds gives the lines of the text

is_plain-All : (word : List ℕ) (other : ℕ) → other < 33 → is_plain word ≡ true → L.All (λ octet. octet ≢ other) word
is_plain-All [] other below plain = All-nil (λ octet. octet ≢ other)
is_plain-All (octet ∷ word) other below plain =
    let parts = and_parts (nat_le 33 octet) (is_plain word) plain in
    let large : 33 ≤ octet = leb-true 33 octet parts.0 in
    All-cons (λ o. o ≢ other) octet word (λ same. omega arith) (is_plain-All word other below parts.1)

no_spaces : (ws : List (List ℕ)) → are_plain ws ≡ true → L.All (L.All IsNotSpace) ws
unfolding are_plain
no_spaces [] plain = All-nil (L.All IsNotSpace)
no_spaces (w ∷ ws) plain =
    let parts = and_parts (is_plain w) (are_plain ws) plain in
    All-cons (L.All IsNotSpace) w ws (is_plain-All w 32 (omega arith) parts.0) (no_spaces ws parts.1)

abbrev NoLineFeed : List ℕ → Type 0
NoLineFeed text = L.All (λ octet. (octet == 10) ≡ false) text

NoLineFeed-word : (word : List ℕ) → is_plain word ≡ true → NoLineFeed word
NoLineFeed-word word plain =
    All-weaker (λ o. o ≢ 10) (λ o. (o == 10) ≡ false) (λ o other. ne_eqb o 10 other) word (is_plain-All word 10 (omega arith) plain)

NoLineFeed-join : (ws : List (List ℕ)) → are_plain ws ≡ true → NoLineFeed (join_with_byte 32 ws)
unfolding are_plain
NoLineFeed-join [] plain = All-nil (λ octet. (octet == 10) ≡ false)
NoLineFeed-join (w ∷ []) plain = NoLineFeed-word w (and_parts (is_plain w) true plain).0
NoLineFeed-join (w ∷ v ∷ ws) plain =
    let parts = and_parts (is_plain w) (are_plain (v ∷ ws)) plain in
    All-append (λ octet. (octet == 10) ≡ false) w (32 ∷ join_with_byte 32 (v ∷ ws)) (NoLineFeed-word w parts.0)
    (All-cons (λ octet. (octet == 10) ≡ false) 32 (join_with_byte 32 (v ∷ ws)) refl (NoLineFeed-join (v ∷ ws) parts.1))

split-first : (text rest : List ℕ) → NoLineFeed text → slice_split (λ o. o == 10) ((text ++ 10 ∷ []) ++ rest) ≡ text
    ∷ slice_split (λ o. o == 10) rest
split-first text rest no_line_feed =
    ap (slice_split (λ o. o == 10)) (append_assoc text (10 ∷ []) rest) ∙ slice_split_at (λ o. o == 10) text 10 rest no_line_feed refl

first_line : (t u r s : List ℕ) → NoLineFeed t → NoLineFeed u → (t ++ 10 ∷ []) ++ r ≡ (u ++ 10 ∷ []) ++ s → (t ≡ u)
    × (r ≡ s)
first_line t u r s h k e =
    let both : t ∷ slice_split (λ o. o == 10) r ≡ u ∷ slice_split (λ o. o == 10) s =
    sym (split-first t r h) ∙ ap (slice_split (λ o. o == 10)) e ∙ split-first u s k in
    let first : t ≡ u = cc in
    let rest : slice_split (λ o. o == 10) r ≡ slice_split (λ o. o == 10) s = cc in
    (first, sym (join_with_byte-slice_split 10 r) ∙ ap (join_with_byte 10) rest ∙ join_with_byte-slice_split 10 s)

words-not_empty : (line : AnswerLine) → answer_words line ≢ []
words-not_empty (No why) e = absurd cc
words-not_empty line e = absurd cc

words-unique : (l m : AnswerLine) → LineIsInRange l → LineIsInRange m →
    join_with_byte 32 (answer_words l) ≡ join_with_byte 32 (answer_words m) → answer_words l ≡ answer_words m
words-unique l m h k e =
    sym (words-join (answer_words l) (words-not_empty l) (no_spaces (answer_words l) (line_plain l h))) ∙ ap words e
    ∙ words-join (answer_words m) (words-not_empty m) (no_spaces (answer_words m) (line_plain m k))

-- ---- the words of an answer line determine the line

who_of_word : List ℕ → E.Who
who_of_word word =
    if bytes_eq (take 3 word) (codes "mob") then E.BySide Mobile
    else if bytes_eq (take 3 word) (codes "net") then E.BySide Network
    else if bytes_eq (take 3 word) (codes "riv") then E.OtherMobile
    else E.Nobody

sapi_of_word : List ℕ → Sapi
sapi_of_word word = if list_any (λ octet. octet == 51) word then Three else Zero

signed_of_word : List ℕ → ℤ
signed_of_word [] = pos 0
signed_of_word (octet ∷ word) = if octet == 45 then negsuc (digits_value 10 word - 1) else pos (digits_value 10 (octet ∷ word))

reception_of_words : List ℕ → List ℕ → List ℕ → ReceptionQuality
reception_of_words tsc wrong_training metric = record {
  tsc = digits_value 10 tsc;
  wrong_training = digits_value 10 wrong_training;
  metric =
      signed_of_word metric;
}

refusal_of_word : List ℕ → E.EventRefusal
refusal_of_word word =
    if bytes_eq word (codes "nothing") then E.Nothing
    else if bytes_eq word (codes "airfull") then E.AirFull
    else if bytes_eq word (codes "notidle") then E.RefusedByEndpoint Q.NotIdle
    else if bytes_eq word (codes "notopen") then E.RefusedByEndpoint Q.NotOpen
    else if bytes_eq word (codes "notrunning") then E.RefusedByEndpoint Q.NotRunning
    else if bytes_eq word (codes "empty") then E.RefusedByEndpoint Q.Empty
    else if bytes_eq word (codes "toolong") then E.RefusedByEndpoint Q.TooLong
    else E.RefusedByEndpoint Q.Full

reason_of_word : List ℕ → Reason
reason_of_word word =
    if bytes_eq word (codes "contention") then Contention
    else if bytes_eq word (codes "failed") then Failed
    else if bytes_eq word (codes "refused") then Refused
    else Released

notice_of_words : List ℕ → List ℕ → Notice
notice_of_words verb word =
    if bytes_eq verb (codes "opened") then N.Opened (octets_from_hex word)
    else if bytes_eq verb (codes "got") then N.Got (octets_from_hex word)
    else if bytes_eq verb (codes "unit") then N.Unit (octets_from_hex word)
    else if bytes_eq verb (codes "acked") then N.Acked (digits_value 10 word)
    else N.Closed (reason_of_word word)

line_of_two : List ℕ → List ℕ → AnswerLine
line_of_two name word = if bytes_eq name (codes "no") then No (refusal_of_word word) else Reports (who_of_word name) (sapi_of_word name)
    N.Oversize

line_of_three : List ℕ → List ℕ → List ℕ → AnswerLine
line_of_three name verb word =
    if bytes_eq verb (codes "sends") then Sends (who_of_word name) (octets_from_hex word)
    else Reports (who_of_word name) (sapi_of_word name) (notice_of_words verb word)

abbrev line_of_words : List (List ℕ) → AnswerLine
line_of_words (a ∷ b ∷ []) = line_of_two a b
line_of_words (a ∷ b ∷ c ∷ []) = line_of_three a b c
line_of_words (a ∷ b ∷ c ∷ d ∷ e ∷ f ∷ g ∷ h ∷ i ∷ []) =
    Takes (who_of_word a) (octets_from_hex c) (reception_of_words e g i)
line_of_words (a ∷ b ∷ c ∷ d ∷ e ∷ f ∷ g ∷ h ∷ i ∷ j ∷ k ∷ l ∷ []) =
    Drops (who_of_word a) (reception_of_words d f h) (octets_from_hex j)
    (octets_from_hex l)
line_of_words ws = FinalOk

who_back : (who : E.Who) → who_of_word (actor_word who) ≡ who
unfolding who_of_word
who_back (E.BySide Mobile) = refl
who_back who = refl

name_back : (sapi : Sapi) (who : E.Who) →
    (who_of_word (actor_word who ++ sapi_suffix sapi) ≡ who) × (sapi_of_word (actor_word who ++ sapi_suffix sapi) ≡ sapi)
unfolding who_of_word sapi_of_word
name_back Zero (E.BySide Mobile) = (refl, refl)
name_back Three (E.BySide Mobile) = (refl, refl)
name_back sapi who = (refl, refl)

oversize_back : (sapi : Sapi) (who : E.Who) →
    line_of_two (actor_word who ++ sapi_suffix sapi) (codes "oversize") ≡ Reports who sapi N.Oversize
unfolding line_of_two who_of_word sapi_of_word
oversize_back Zero (E.BySide Mobile) = refl
oversize_back Three (E.BySide Mobile) = refl
oversize_back sapi who = refl

why_back : (why : E.EventRefusal) → line_of_two (codes "no") (call_refusal_word why) ≡ No why
unfolding line_of_two refusal_of_word
why_back (E.RefusedByEndpoint Q.NotIdle) = refl
why_back why = refl

reason_back : (reason : Reason) → reason_of_word (closing_reason_word reason) ≡ reason
unfolding reason_of_word
reason_back Contention = refl
reason_back reason = refl

octets_back : (octets : List ℕ) → AreOctets octets → octets_from_hex (encode_lower octets) ≡ octets
octets_back octets small = (hex_digits_decode octets small).1

message_back : (m : List ℕ) → AreOctets m → octets_from_hex (octets_word m) ≡ m
message_back [] small = refl
message_back (octet ∷ m) small = octets_back (octet ∷ m) small

unsigned_back : (word : List ℕ) → all_ascii_digits word ≡ true → signed_of_word word ≡ pos (digits_value 10 word)
unfolding signed_of_word
unsigned_back [] digits = refl
unsigned_back (digit ∷ word) digits =
    let parts = and_parts _ (all_ascii_digits word) digits in
    let other : (digit == 45) ≡ false = ne_eqb digit 45 (λ same. let is = parts.0 in absurd (grind arith)) in
    rw other refl

signed_back : (z : ℤ) → nat_abs z < 2 ^ 63 → signed_of_word (signed_decimal z) ≡ z
unfolding signed_of_word
signed_back (pos n) fits =
    unsigned_back (decimal n) (digits_decimal decimals n (omega arith)) ∙ ap pos (digits_value-decimal decimals n (omega arith))
signed_back (negsuc n) fits =
    let one : suc n - 1 ≡ n = omega arith in ap (λ k. negsuc (k - 1)) (digits_value-decimal decimals (suc n) (omega arith))
    ∙ ap negsuc one

reception_back : (h : ReceptionQuality) → ReceptionIsInRange h →
    reception_of_words (decimal h.tsc) (decimal h.wrong_training) (signed_decimal h.metric) ≡ h
unfolding reception_of_words
reception_back h fits =
    rw (
      digits_value-decimal decimals h.tsc fits.tsc,
      digits_value-decimal decimals h.wrong_training fits.wrong_training,
      signed_back h.metric fits.metric,
    )
    refl

notice_back : (who : E.Who) (sapi : Sapi) (notice : Notice) → NoticeIsInRange notice →
    line_of_words (answer_words (Reports who sapi notice)) ≡ Reports who sapi notice
unfolding line_of_three notice_of_words
notice_back who sapi (N.Opened m) fits = let name = name_back sapi who in rw (name.0, name.1, message_back m fits) refl
notice_back who sapi (N.Got m) fits = let name = name_back sapi who in rw (name.0, name.1, message_back m fits) refl
notice_back who sapi (N.Unit m) fits = let name = name_back sapi who in rw (name.0, name.1, message_back m fits) refl
notice_back who sapi (N.Acked n) fits = let name = name_back sapi who in rw (name.0, name.1, digits_value-decimal decimals n fits) refl
notice_back who sapi N.Oversize fits = oversize_back sapi who
notice_back who sapi (N.Closed reason) fits = let name = name_back sapi who in rw (name.0, name.1, reason_back reason) refl

line_back : (line : AnswerLine) → LineIsInRange line → line_of_words (answer_words line) ≡ line
unfolding line_of_three
line_back (No why) fits = why_back why
line_back (Takes who octets h) fits = rw (who_back who, octets_back octets fits.0, reception_back h fits.1) refl
line_back (Drops who h octets check) fits =
    rw (who_back who, reception_back h fits.0, octets_back octets fits.1, octets_back check fits.2) refl
line_back (Reports who sapi notice) fits = notice_back who sapi notice fits
line_back (Sends who octets) fits = rw (who_back who, octets_back octets fits) refl
line_back FinalOk fits = refl

-- ---- the text of a whole answer determines its lines

text-not_empty : (l : AnswerLine) (ls : List AnswerLine) → answer_lines_text (l ∷ ls) ≢ []
text-not_empty l ls e =
    let none = ap length e in
    omega (
      arith,
      none,
      length-append (join_with_byte 32 (answer_words l) ++ 10 ∷ []) (answer_lines_text ls),
      length-append (join_with_byte 32 (answer_words l)) (10 ∷ []),
    )

pub lines-unique : (ls ms : List AnswerLine) → LinesAreInRange ls → LinesAreInRange ms →
    answer_lines_text ls ≡ answer_lines_text ms → ls ≡ ms
lines-unique [] [] h k e = refl
lines-unique [] (m ∷ ms) h k e = absurd (text-not_empty m ms (sym e))
lines-unique (l ∷ ls) [] h k e = absurd (text-not_empty l ls e)
lines-unique (l ∷ ls) (m ∷ ms) h k e =
    let parts = first_line (join_with_byte 32 (answer_words l)) (join_with_byte 32 (answer_words m)) (answer_lines_text ls)
    (answer_lines_text ms)
    (NoLineFeed-join (answer_words l) (line_plain l h.0)) (NoLineFeed-join (answer_words m) (line_plain m k.0)) e in
    let first : l ≡ m = sym (line_back l h.0) ∙ ap line_of_words (words-unique l m h.0 k.0 parts.0) ∙ line_back m k.0 in
    let rest : ls ≡ ms = lines-unique ls ms h.1 k.1 parts.1 in
    cc

-- ## FittingLines: If the values in an answer are in range, so are the values in its lines.

pub fit_append : (ls ms : List AnswerLine) → LinesAreInRange ls → LinesAreInRange ms → LinesAreInRange (ls ++ ms)
fit_append [] ms h k = k
fit_append (l ∷ ls) ms h k = (h.0, fit_append ls ms h.1 k)

-- ## PackedOctets: Unpacking octets into bits and packing these bits again gives the same octets.

octet_of_bits : (x : ℕ) → x < 256
    → x % 2 + 2 * (x / 2 % 2) + 4 * (x / 4 % 2) + 8 * (x / 8 % 2) + 16 * (x / 16 % 2) + 32 * (x / 32 % 2) + 64 * (x / 64 % 2) + 128
    * (x / 128 % 2) ≡ x
octet_of_bits x small = omega arith

pub octets_of-bits_of : (octets : List ℕ) → ((k : ℕ) → Fits w8 (get_or octets k 0)) → octets_of (bits_of octets) ≡ octets
octets_of-bits_of [] each = refl
octets_of-bits_of (x ∷ octets) each =
    let small : Fits w8 x = each 0 in
    let below : x < 256 = omega (arith, small) in
    let first = octet_of_bits x below in
    let rest = octets_of-bits_of octets (λ k. each (suc k)) in
    cc
