-- Parsing the line that is written for values gives these values back, field by field.
use Rattle.{
  hex.{proofs.HexLemmas.{IsDigits-lower_digits, length-encode_with}, specs.Hex.{encode_lower, encode_with, is_hex_digit}},
  std.{
    proofs.{
      Common.{Bool, List, Option, Some, [], append-nil, arith, codes, false, inl, inr, length, not, refl, subst, suc, sym, true, ℕ},
      Common.{◌%◌, ◌&&◌, ◌*◌, ◌++◌, ◌+◌, ◌-◌, ◌/◌, ◌<◌, ◌==◌, ◌∷◌, ◌≡◌, ◌≢◌},
      Common.◌≤◌,
      lemmas.{Bool.{eq-eqb, le-leb, or_cases, Decides.nat_tests}, List.Elements.{All-append, All-cons, All-nil, recursion_from_All}},
      lemmas.{List.Sums.AllPass-from_list_all, Slice.Eq.bytes_eq-Decides},
    },
    specs.{Fmt.decimal, List.{All, join_with_byte, list_all}, Str.{all_ascii_digits, bytes_eq}},
  },
  um_lines.{
    proofs.{Texts.words-join, FormLaws.{AreOctets, AreWithin, Fitting, decimal_digits}},
    specs.{
      Fields.{BitDigits, BlockBitIndex, DigitUpTo, FixedWord, HexOctets, LineField, Number, NumberList, OctetsBetween, BitIndex},
      Fields.{SoftOctets, Value, WordMeans, bit_digits, is_within_limit, octet_count, octets_from_hex},
      Forms.{AreDistinct, Exactly, IsTableEntry, LineForms, LineMeans, WordsGiveValues, bit_indices_of_values},
      LineTexts.{line_of_values, octets_word, words_of_values},
      Words.{is_skipped_line, words},
    },
  },
}

-- ---- the hexadecimal digits that are written for octets represent these octets

pub hex_digits_decode : (octets : List ℕ) → All (λ octet. octet < 256) octets
    → (list_all is_hex_digit (encode_lower octets) ≡ true) × (octets_from_hex (encode_lower octets) ≡ octets)
unfolding encode_with
hex_digits_decode [] small = (refl, refl)
hex_digits_decode (octet ∷ octets) small =
    let below : octet < 256 = small 0 octet (omega arith) in
    let rest = hex_digits_decode octets (λ k d h. small (suc k) d (omega arith)) in
    let high = IsDigits-lower_digits (octet / 16) (omega arith) in
    let low = IsDigits-lower_digits (octet % 16) (omega arith) in
    let whole : 16 * (octet / 16) + octet % 16 ≡ octet = omega arith in
    (rw (high, low, rest.0), rw (high, low, whole, rest.1))

pub length-encode_lower : (octets : List ℕ) → length (encode_lower octets) ≡ 2 * length octets
length-encode_lower octets = length-encode_with _ octets

hex_meaning : (count : ℕ) (octets : List ℕ) → AreOctets count octets →
    WordMeans (HexOctets count) (encode_lower octets) (NumberList octets ∷ [])
hex_meaning count octets (long, small) =
    let e = hex_digits_decode octets small in
    (e.0, omega (arith, length-encode_lower octets), rw e.1)

within_limit : (most : Option ℕ) (count : ℕ) (octets : List ℕ) → AreWithin most octets → count ≡ length octets →
    is_within_limit most count ≡ true
within_limit x count _ few same = grind arith

octets_meaning : (least : ℕ) (most : Option ℕ) (octets : List ℕ) → least ≤ length octets → AreWithin most octets →
    All (λ octet. octet < 256) octets → WordMeans (OctetsBetween least most) (octets_word octets) (NumberList octets ∷ [])
octets_meaning least most [] many few small = (refl, rw (le-leb least 0 many, within_limit most 0 [] few refl), refl)
octets_meaning least most (octet ∷ octets) many few small =
    let word = encode_lower (octet ∷ octets) in
    let e = hex_digits_decode (octet ∷ octets) small in
    let long = length-encode_lower (octet ∷ octets) in
    let high = within_limit most (octet_count word) (octet ∷ octets) few (omega arith) in
    (grind arith, grind (arith, nat_tests), rw e.1)

-- ---- the word that is written for a value stands for this value in its field

spelled_fill : (fields : List LineField) (values : List Value) → Fitting fields values →
    WordsGiveValues fields (words_of_values fields values) values
spelled_fill [] values f = f
spelled_fill (FixedWord text ∷ fields) values f = ([], values, (refl, refl), spelled_fill fields values f, refl)
spelled_fill (DigitUpTo most ∷ fields) values (n, rest, is, within, f) =
    rw is (Number n ∷ [], rest, (n, within, refl, refl), spelled_fill fields rest f, refl)
spelled_fill (BitDigits count ∷ fields) values (bits, rest, is, known, f) =
    rw is (_, rest, (bits, known.0, recursion_from_All (λ bit. bit ≤ 1) bits known.1, refl, refl), spelled_fill fields rest f, refl)
spelled_fill (HexOctets count ∷ fields) values (octets, rest, is, known, f) =
    rw is (_, rest, hex_meaning count octets known, spelled_fill fields rest f, refl)
spelled_fill (SoftOctets count ∷ fields) values (octets, rest, is, (known, soft), f) =
    let (digits, long, e) = hex_meaning count octets known in
    let soft = recursion_from_All (λ octet. octet ≢ 128) octets soft in
    rw is (_, rest, (digits, long, rw (hex_digits_decode octets known.1).1 soft, e), spelled_fill fields rest f, refl)
spelled_fill (OctetsBetween least most ∷ fields) values (octets, rest, is, (many, few, small), f) =
    rw is (_, rest, octets_meaning least most octets many few small, spelled_fill fields rest f, refl)
spelled_fill (BlockBitIndex ∷ fields) values (n, rest, is, within, f) =
    rw is (BitIndex n ∷ [], rest, (n, within, refl, refl), spelled_fill fields rest f, refl)

-- ---- the octets of digits, letters and `-` are at least 45, so only a fixed word can contain an octet below 45

module _ (other : ℕ) (below : other < 45) where
  abbrev pub Is : ℕ → Type 0
  Is octet = octet ≢ other

  pub passing_lack : (p : ℕ → Bool) → p other ≡ false → (word : List ℕ) → list_all p word ≡ true → All Is word
  passing_lack p fails word passes = λ k d h same. let pass = AllPass-from_list_all p word passes k d h in cc

  hex_lack : (word : List ℕ) → list_all is_hex_digit word ≡ true → All Is word
  hex_lack = passing_lack is_hex_digit (grind arith)

  bits_lack : (bits : List ℕ) → All Is (bit_digits bits)
  bits_lack [] = All-nil Is
  bits_lack (bit ∷ bits) = All-cons Is _ _ (λ same. omega arith) (bits_lack bits)

  ascii_lack : (word : List ℕ) → all_ascii_digits word ≡ true → All Is word
  ascii_lack [] digits = All-nil Is
  ascii_lack (digit ∷ word) digits =
      All-cons Is digit word (λ same. grind arith) (ascii_lack word (grind arith))

  abbrev pub fixed_words_lack : List LineField → Bool
  fixed_words_lack [] = true
  fixed_words_lack (FixedWord text ∷ fields) = list_all (λ octet. not (octet == other)) text && fixed_words_lack fields
  fixed_words_lack (field ∷ fields) = fixed_words_lack fields

  word_lacks : (fields : List LineField) (field : LineField) (word : List ℕ) (values : List Value) → WordMeans field word values →
      fixed_words_lack (field ∷ fields) ≡ true → All Is word × (fixed_words_lack fields ≡ true)
  word_lacks fields (FixedWord text) word values s lacks =
      (rw s.0 (passing_lack (λ octet. not (octet == other)) (rw (eq-eqb other other refl)) text (grind arith)), grind arith)
  word_lacks fields (DigitUpTo most) word values s lacks = (rw s.2 (bits_lack (s.0 ∷ [])), lacks)
  word_lacks fields (BitDigits count) word values s lacks = (rw s.3 (bits_lack s.0), lacks)
  word_lacks fields (OctetsBetween least most) word values s lacks = (
    elim (or_cases (bytes_eq word (codes "-")) _ s.0) [
      | inl dash ↦ rw ((bytes_eq-Decides word (codes "-")).0 dash) (All-cons Is 45 [] (λ same. omega arith) (All-nil Is))
      | inr hex ↦ hex_lack word hex
    ],
    lacks,
  )
  word_lacks fields BlockBitIndex word values s lacks = (rw s.2 (ascii_lack (decimal s.0) (decimal_digits s.0 s.1)), lacks)
  word_lacks fields field word values s lacks = (hex_lack word s.0, lacks)

  words_lack : (fields : List LineField) (words : List (List ℕ)) (values : List Value) → WordsGiveValues fields words values →
      fixed_words_lack fields ≡ true → All (All Is) words
  words_lack [] [] values f lacks = All-nil (All Is)
  words_lack (field ∷ fields) (word ∷ words) values (said, others, means, rest, is) lacks =
      let (first, lacks) = word_lacks fields field word said means lacks in
      All-cons (All Is) word words first (words_lack fields words others rest lacks)
  words_lack fields words values f lacks = absurd f

  join_lack : other ≢ 32 → (parts : List (List ℕ)) → All (All Is) parts → All Is (join_with_byte 32 parts)
  join_lack unlike [] each = All-nil Is
  join_lack unlike (part ∷ []) each = each 0 part (omega arith)
  join_lack unlike (part ∷ next ∷ parts) each =
      All-append Is part _ (each 0 part (omega arith))
      (All-cons Is 32 _ (λ same. unlike (sym same)) (join_lack unlike (next ∷ parts) (λ k d h. each (suc k) d (omega arith))))

-- ---- the line that is written for values has these values as its meaning, and contains no line feed

pub spelled_means : {Name : Type 0} (table : LineForms Name) (misplaced : Name → Bool) (name : Name) (text : List ℕ)
    (fields : List LineField) (values : List Value) → let all = FixedWord text ∷ fields in let line = line_of_values all values in
    IsTableEntry table (name, Exactly all) → misplaced name ≡ false → fixed_words_lack 32 (omega arith) all ≡ true →
    Fitting all values
    → AreDistinct (bit_indices_of_values values) → length line ≤ 4096 → is_skipped_line line ≡ false
    → LineMeans table misplaced line (Some (name, values))
spelled_means table misplaced name text fields values is here lacks fits once short stays =
    let all = FixedWord text ∷ fields in
    let parts = words_of_values all values in
    let filled = spelled_fill all values fits in
    let split = words-join parts (λ e. cc) (words_lack 32 (omega arith) all parts values filled lacks) in (
      short,
      stays,
      record {
        form = Exactly all;
        form_in_table = is;
        not_misplaced = here;
        gives_values = subst (λ parts. WordsGiveValues (all ++ []) parts values) (sym split)
            (subst (λ fields. WordsGiveValues fields parts values) (sym (append-nil all)) filled);
        distinct_indices = once;
      },
    )

pub spelled_uncut : (fields : List LineField) (values : List Value) → fixed_words_lack 10 (omega arith) fields ≡ true
    → Fitting fields values → All (λ octet. octet ≢ 10) (line_of_values fields values)
spelled_uncut fields values lacks fits =
    let words = words_of_values fields values in
    join_lack 10 (omega arith) (λ same. omega arith) words
    (words_lack 10 (omega arith) fields words values (spelled_fill fields values fits) lacks)
