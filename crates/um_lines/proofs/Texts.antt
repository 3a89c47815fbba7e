-- Lemmas about words and digits: how a text is split into words, and how several hexadecimal digits at a time are read and written.
use Rattle.{
  hex.specs.Hex.{encode_lower, encode_with, is_hex_digit, lower_digits},
  memchr.specs.Find.{IsFirstByte, is_byte},
  std.{
    proofs.{
      Common.{Bool, Fits, List, None, Some, [], add-one, ap, ap₂, arith, bit_and, cond, drop, eqb, eqb-true, false, get_or, inl, inr},
      Common.{length, ltb, map, not, refl, replicate, set, suc, sym, take, true, w8, zero, ℕ, ◌%◌, ◌&&◌, ◌*◌, ◌++◌},
      Common.{◌+◌, ◌-◌, ◌/◌, ◌<◌, ◌^◌, ◌∙◌, ◌∷◌, ◌≡◌, ◌≢◌, ◌≤◌},
      Math.Seq.{split_at, take-add, take-length},
      lemmas.{
        Bool.{cases_eq, eq-eqb, false_from_ne_true, ltb-false, ne_eqb},
        Grind.common_steps,
        List.{drop-drop, get_or-drop, get_or-map, get_or-take, length-append, length-drop, length-map, length-take, length-take-le},
        List.{map-append, take-append-drop, take-map, take-take, take_all, Elements.{All-cons, All-from_get_or, All-nil, All-tail}},
        List.{Folds.list_all-append, FromFn.get_or-range_with_len, Quantifiers.position-Some, Splits.{slice_split_at, slice_split_none}},
        List.Sums.{AllPass-from_list_all, fails_before_first},
        Slice.take-put_mid,
      },
    },
    specs.List.{All, join_with_byte, list_all, onto_first, position, range_with_len},
  },
  um_lines.specs.{Fields.{bit_digits, digit_value, octets_from_hex}, HexPlaces.{HasDigitsOfOctet, are_hex_values, hex_octet_at}},
  um_lines.specs.Words.{IsNotSpace, words},
}
use borrow.Rule.Slice.PartMut.{put_mid}
use lib.Lanes.{Each1, mask_l, sel_l, top, zip2}

-- ## WordLists: Lemmas about the first space in a text, and about the words that the text is split into.

no_space : (text : List ℕ) (end : ℕ) → end ≤ length text → ((k : ℕ) → k < end → eqb (get_or text k 0) 32 ≡ false)
    → All (λ octet. eqb octet 32 ≡ false) (take end text)
no_space text end within passed =
    All-from_get_or (λ octet. eqb octet 32 ≡ false) _ 0
    (λ k lt. let below : k < end = omega (arith, length-take-le end text within) in rw get_or-take (passed k below))

only_word : (text : List ℕ) → ((k : ℕ) → k < length text → eqb (get_or text k 0) 32 ≡ false) → words text ≡ text ∷ []
only_word text passed =
    slice_split_none (λ octet. eqb octet 32) text (rw take-length at (no_space text (length text) (omega arith) passed))

front_word : (text : List ℕ) (end : ℕ) → end < length text → eqb (get_or text end 0) 32 ≡ true
    → ((k : ℕ) → k < end → eqb (get_or text k 0) 32 ≡ false) → words text ≡ take end text ∷ words (drop (end + 1) text)
front_word text end within space passed =
    rw add-one
    (ap words (split_at text end 0 within)
    ∙ slice_split_at _ (take end text) (get_or text end 0) (drop (suc end) text)
    (no_space text end (omega arith) passed) space)

pub words_uncut : (text : List ℕ) → IsFirstByte (is_byte 32) text None → words text ≡ text ∷ []
words_uncut text passed = only_word text (λ k below. false_from_ne_true _ (passed k (omega arith) below))

pub words_cut : (text : List ℕ) (end : ℕ) → IsFirstByte (is_byte 32) text (Some end)
    → words text ≡ take end text ∷ words (drop (end + 1) text)
words_cut text end found =
    front_word text end found.0.high found.1 (λ k below. false_from_ne_true _ (found.0.before k (omega arith) below))

none_tested : (b : Bool) (place : ℕ) → None ≡ cond b (Some place) None → b ≡ false
none_tested x _ e = grind arith

pub words_unfound : (text : List ℕ) → None ≡ position (λ octet. eqb octet 32) text → words text ≡ text ∷ []
words_unfound text e =
    let past = ltb-false _ _ (none_tested _ _ e) in
    only_word text (λ k below. fails_before_first (λ octet. eqb octet 32) text k 0 (omega arith))

pub words_found : (text : List ℕ) (end : ℕ) → Some end ≡ position (λ octet. eqb octet 32) text
    → words text ≡ take end text ∷ words (take (length text - (end + 1)) (drop (end + 1) text))
words_found text end e =
    let at = position-Some _ text end 0 (sym e) in
    rw (take_all (length text - (end + 1)) (drop (end + 1) text) (omega (arith, length-drop (end + 1) text)))
    (front_word text end at.0 at.1 at.2)

spaceless_first : (octet : ℕ) (parts : List (List ℕ)) → octet ≢ 32 → All (All IsNotSpace) parts
    → All (All IsNotSpace) (onto_first octet parts)
spaceless_first octet [] plain each = grind arith
spaceless_first octet (part ∷ parts) plain each =
    let first = each 0 part (omega arith) in
    let rest = All-tail (All IsNotSpace) part parts each in grind arith

pub words-no_spaces : (line : List ℕ) → All (All IsNotSpace) (words line)
words-no_spaces [] = grind arith
words-no_spaces (octet ∷ line) =
    elim (cases_eq octet 32) [
      | inl space ↦ rw (eq-eqb octet 32 space)
          (All-cons (All IsNotSpace) [] (words line) (All-nil IsNotSpace) (words-no_spaces line))
      | inr plain ↦ rw (ne_eqb octet 32 plain) (spaceless_first octet (words line) plain (words-no_spaces line))
    ]

pub words-join : (parts : List (List ℕ)) → parts ≢ [] → All (All IsNotSpace) parts → words (join_with_byte 32 parts) ≡ parts
words-join [] some each = absurd (some refl)
words-join (part ∷ []) some each = slice_split_none (λ x. eqb x 32) part (λ k d h. ne_eqb _ 32 (each 0 part (omega arith) k d h))
words-join (part ∷ other ∷ parts) some each =
    slice_split_at (λ x. eqb x 32) part 32 (join_with_byte 32 (other ∷ parts))
    (λ k d h. ne_eqb _ 32 (each 0 part (omega arith) k d h)) refl
    ∙ ap (λ rest. part ∷ rest) (words-join (other ∷ parts) (λ e. cc) (All-tail (All IsNotSpace) part (other ∷ parts) each))

-- ## Sixteens: Lists that are processed in groups of sixteen elements; the last group may overlap the group before it.

-- ---- all elements of a list pass a test if and only if all elements of its two parts do; the parts may overlap

in_two : (p : ℕ → Bool) (xs : List ℕ) (n : ℕ) → list_all p xs ≡ (list_all p (take n xs) && list_all p (drop n xs))
in_two p xs n = rw (← list_all-append p (take n xs) (drop n xs), take-append-drop)

part_passes : (p : ℕ → Bool) (xs : List ℕ) (from n : ℕ) → list_all p xs ≡ true
    → list_all p (take n (drop from xs)) ≡ true
part_passes p xs from n all =
    let back = in_two p xs from in
    let here = in_two p (drop from xs) n in grind arith

pub all_more : (p : ℕ → Bool) (xs : List ℕ) (at n : ℕ) →
    (list_all p (take at xs) && list_all p (take n (drop at xs))) ≡ list_all p (take (at + n) xs)
all_more p xs at n = rw (take-add at n xs, list_all-append)

pub all_overlapping : (p : ℕ → Bool) (xs : List ℕ) (last at : ℕ) → last ≤ at →
    (list_all p (take at xs) && list_all p (drop last xs)) ≡ list_all p xs
all_overlapping p xs last at past =
    let back : at ≡ last + (at - last) = omega arith in
    rw (back, ← all_more p xs last (at - last), in_two p xs last, in_two p (drop last xs) (at - last)) (grind arith)

-- ---- writing the digits of sixteen bits at a time writes the digits of all bits

-- there is room for one digit for each bit, and the digits of the first `at` bits are written
abbrev pub AreWritten : (bits : List ℕ) (at : ℕ) (digits : List ℕ) → Type 0
AreWritten bits at digits = (length digits ≡ length bits) × (take at digits ≡ bit_digits (take at bits))

pub written_more : (bits : List ℕ) (at n : ℕ) (old new : List ℕ) → n ≡ 16 → at + 16 ≤ length bits → AreWritten bits at old
    → new ≡ bit_digits (take n (drop at bits)) → AreWritten bits (at + 16) (put_mid at n old new)
written_more bits at n old new width within (long, front) is =
    let some = rw width at is in
    let few : length new ≡ 16 = ap length some ∙ length-map _ _ ∙ length-take-le 16 _ (omega (arith, length-drop at bits)) in (
      simp (length-append, length-take, length-drop) (omega arith),
      rw (take-put_mid at n old new (at + 16) (omega arith) (omega arith), front, take-add at 16 bits, map-append, some),
    )

pub written_all : (bits : List ℕ) (last at n : ℕ) (old new : List ℕ) → n ≡ 16 → last + 16 ≡ length bits → last ≤ at →
    AreWritten bits at old
    → new ≡ bit_digits (take n (drop last bits)) → put_mid last n old new ≡ bit_digits bits
written_all bits last at n old new width whole past (long, front) is =
    let before : take last old ≡ bit_digits (take last bits) =
    rw (← take-take last at old past, front, take-map, take-take last at bits past) in
    let (many, all) = written_more bits last n old new width (omega arith) (long, before) is in
    sym (take_all (last + 16) _ (omega arith)) ∙ all ∙ ap bit_digits (take_all (last + 16) bits (omega arith))

-- These definitions say what each vector operation on hexadecimal digits computes in each lane.

abbrev plus : ℕ → ℕ → ℕ
plus a b = (a + b) % 2 ^ 8

abbrev less : ℕ → ℕ → ℕ
less a b = (a + (2 ^ 8 - b)) % 2 ^ 8

abbrev pub below : ℕ → ℕ → ℕ
below a b = cond (ltb a b) 255 0

abbrev minima : List ℕ → List ℕ → List ℕ
minima xs ys = sel_l (map (top 7) (zip2 below xs ys)) xs ys

abbrev pub maxima : List ℕ → List ℕ → List ℕ
maxima xs ys = sel_l (map (top 7) (zip2 below xs ys)) ys xs

-- ---- the code of an octet is its value as a hexadecimal digit, or at least 16 if the octet is not a hexadecimal digit

abbrev pub codes : ℕ → List ℕ → List ℕ
codes n xs =
    let decimal = zip2 plus xs (replicate n 198) in
    let letter = zip2 plus (zip2 bit_and xs (replicate n 223)) (replicate n 191) in
    minima (zip2 plus (zip2 less (maxima decimal (replicate n 6)) (replicate n 6)) (replicate n 16))
    (zip2 plus (minima letter (replicate n 245)) (replicate n 10))

abbrev code : ℕ → ℕ
code x = get_or (codes 1 (x ∷ [])) 0 0

abbrev is_right : ℕ → Bool
is_right x = cond (is_hex_digit x) (eqb (code x) (digit_value x) && ltb (code x) 16) (not (ltb (code x) 16))

right : (x : ℕ) → x < 256 → is_right x ≡ true
right x h =
    let is : get_or (range_with_len 0 256) x 0 ≡ x = omega (arith, get_or-range_with_len 0 256 x 0 h) in
    rw is at (AllPass-from_list_all is_right (range_with_len 0 256) refl x 0 (omega arith))

judged : (t e l : Bool) → cond t (e && l) (not l) ≡ true → (l ≡ t) × (t ≡ true → e ≡ true)
judged x y l q = grind arith

pub codes-values : (n : ℕ) (xs : List ℕ) → length xs ≡ n → Each1 (Fits w8) xs
    → (are_hex_values (codes n xs) ≡ list_all is_hex_digit xs)
    × (list_all is_hex_digit xs ≡ true → codes n xs ≡ map digit_value xs)
codes-values zero [] e h = (refl, λ all. refl)
codes-values (suc n) (x ∷ xs) e h =
    let (test, value) = judged (is_hex_digit x) _ _ (right x h.0.fits) in
    let (tests, values) = codes-values n xs (omega arith) h.1 in (
      ap₂ ◌&&◌ test tests,
      λ all. ap₂ (λ c cs. c ∷ cs) (eqb-true _ _ (value (grind arith))) (values (grind arith)),
    )
codes-values n xs e h = absurd (omega arith)

-- ---- the maximum of two codes in a lane is below 16 if and only if both codes are

greater : (x y : ℕ) → ltb (cond (top 7 (below x y)) y x) 16 ≡ (ltb x 16 && ltb y 16)
greater x y = grind arith

crossed : (a b c d : Bool) → ((a && b) && (c && d)) ≡ ((a && c) && (b && d))
crossed x y c d = grind arith

pub maxima-count : (n : ℕ) (xs ys : List ℕ) → length xs ≡ n → length ys ≡ n → length (maxima xs ys) ≡ n
maxima-count zero [] [] e e' = refl
maxima-count (suc n) (x ∷ xs) (y ∷ ys) e e' = ap suc (maxima-count n xs ys (omega arith) (omega arith))
maxima-count n xs ys e e' = grind arith

pub maxima-test : (xs ys : List ℕ) → length xs ≡ length ys
    → are_hex_values (maxima xs ys) ≡ (are_hex_values xs && are_hex_values ys)
maxima-test [] [] e = refl
maxima-test (x ∷ xs) (y ∷ ys) e =
    ap₂ ◌&&◌ (greater x y) (maxima-test xs ys (omega arith))
    ∙ crossed (ltb x 16) (ltb y 16) _ (are_hex_values ys)
maxima-test xs ys e = absurd (omega arith)

-- ---- a vector comparison with 15 tests whether all codes are below 16

above : (x m : ℕ) → eqb (cond (top 7 (below 15 x)) 1 0 + 2 * m) 0 ≡ (ltb x 16 && eqb m 0)
above x m = grind arith

pub none_above : (n : ℕ) (xs : List ℕ) → length xs ≡ n
    → eqb (mask_l (map (top 7) (zip2 below (replicate n 15) xs))) 0 ≡ are_hex_values xs
none_above zero [] e = refl
none_above (suc n) (x ∷ xs) e = above x _ ∙ ap (λ t. ltb x 16 && t) (none_above n xs (omega arith))
none_above n xs e = absurd (omega arith)

-- ## HexLists: Lemmas about decoding hexadecimal digits, several at a time.

pub length-octets_from_hex : (word : List ℕ) → length (octets_from_hex word) ≡ length word / 2
length-octets_from_hex (high ∷ low ∷ rest) = let fewer = length-octets_from_hex rest in omega arith
length-octets_from_hex word = refl

digit_value-small : (digit : ℕ) → digit_value digit < 16
digit_value-small _ = grind arith

pub octets_from_hex-small : (digits : List ℕ) → All (λ octet. octet < 256) (octets_from_hex digits)
octets_from_hex-small (high ∷ low ∷ rest) =
    All-cons (λ octet. octet < 256) _ (octets_from_hex rest) (omega (arith, digit_value-small high, digit_value-small low))
    (octets_from_hex-small rest)
octets_from_hex-small digits = All-nil (λ octet. octet < 256)

pub octets_from_places : (digits octets : List ℕ) → length digits ≡ 2 * length octets
    → ((k : ℕ) → k < length octets → get_or octets k 0 ≡ hex_octet_at digits k) → octets ≡ octets_from_hex digits
octets_from_places [] [] many each = refl
octets_from_places (high ∷ low ∷ digits) (octet ∷ octets) many each =
    ap₂ (λ first others. first ∷ others) (each 0 (omega arith)) (octets_from_places digits octets (omega arith) (λ k within.
    let high : 2 * suc k ≡ suc (suc (2 * k)) = omega arith in
    let low : 2 * suc k + 1 ≡ suc (suc (2 * k + 1)) = omega arith in
    rw (low, high) at (each (suc k) (omega arith))))
octets_from_places x y many each = absurd (omega arith)

-- ---- decoding 32 digits at a time gives sixteen octets

pub decoded_at : (digits front back : List ℕ) (at i : ℕ) → 2 * (at + 16) ≤ length digits → i < 16
    → list_all is_hex_digit digits ≡ true
    → (list_all is_hex_digit (take 16 (drop (2 * at) digits)) ≡ true → front ≡ map digit_value (take 16 (drop (2 * at) digits)))
    → (list_all is_hex_digit (take 16 (drop (2 * at + 16) digits)) ≡ true
    → back ≡ map digit_value (take 16 (drop (2 * at + 16) digits)))
    → (16 * get_or (front ++ back) (2 * i) 0 + get_or (front ++ back) (2 * i + 1) 0) % 256 ≡ hex_octet_at digits (at + i)
decoded_at digits front back at i space small all first last =
    let xs = drop (2 * at) digits in
    let is : front ++ back ≡ map digit_value (take 32 xs) =
    rw (
      first (part_passes is_hex_digit digits (2 * at) 16 all),
      last (part_passes is_hex_digit digits (2 * at + 16) 16 all),
      take-add 16 16 xs,
      drop-drop 16 (2 * at) digits,
      map-append,
    ) in
    let code : (r j : ℕ) → r < 32 → 2 * at + r ≡ j → get_or (front ++ back) r 0 ≡ digit_value (get_or digits j 0) =
    λ r j h same.
    rw (is, ← same)
    (get_or-map digit_value (take 32 xs) r 0 0 (omega (arith, length-take-le 32 xs (omega (arith, length-drop (2 * at) digits))))
    ∙ ap digit_value (get_or-take 32 xs r 0 h ∙ get_or-drop (2 * at) digits r 0)) in
    let e = code (2 * i) (2 * (at + i)) (omega arith) (omega arith) in
    let f = code (2 * i + 1) (2 * (at + i) + 1) (omega arith) (omega arith) in
    omega (arith, digit_value-small)

pub two_sixteens : (p : ℕ → Bool) (xs : List ℕ) (from : ℕ)
    → (list_all p (take 16 (drop from xs)) && list_all p (take 16 (drop (from + 16) xs))) ≡ list_all p (take 32 (drop from xs))
two_sixteens p xs from = rw (← drop-drop 16 from xs) (all_more p (drop from xs) 16 16)

-- ## LowerDigits: Lemmas about writing octets as hexadecimal digits, several octets at a time.

pub digits_from_places : (octets digits : List ℕ) → length digits ≡ 2 * length octets
    → ((k : ℕ) → k < length octets → HasDigitsOfOctet octets digits k) → digits ≡ encode_lower octets
unfolding encode_with
digits_from_places [] [] many each = refl
digits_from_places (octet ∷ octets) (high ∷ low ∷ digits) many each =
    let first = each 0 (omega arith) in
    let rest = digits_from_places octets digits (omega arith) (λ k within.
    let high : 2 * suc k ≡ suc (suc (2 * k)) = omega arith in
    let low : 2 * suc k + 1 ≡ suc (suc (2 * k + 1)) = omega arith in
    rw (low, high) at (each (suc k) (omega arith))) in
    rw (first.0, first.1, rest)
digits_from_places x y many each = absurd (omega arith)

pub digits_set : (octets digits : List ℕ) (n high low : ℕ) → 2 * n + 1 < length digits
    → high ≡ get_or lower_digits (get_or octets n 0 / 16) 0 → low ≡ get_or lower_digits (get_or octets n 0 % 16) 0
    → ((k : ℕ) → k < n → HasDigitsOfOctet octets digits k)
    → (k : ℕ) → k < n + 1 → HasDigitsOfOctet octets (set (set digits (2 * n) high) (2 * n + 1) low) k
digits_set octets digits n high low buffer is-high is-low before k within =
    grind (arith, common_steps)

-- ---- the ASCII code of a hexadecimal digit is 48 plus a value below 10, or 87 plus a value from 10 to 15

pub small_digit : (v : ℕ) → v < 10 → 48 + v ≡ get_or lower_digits v 0
small_digit v small = grind arith

pub large_digit : (v : ℕ) → 10 ≤ v → v < 16 → 87 + v ≡ get_or lower_digits v 0
large_digit v least small = grind arith
