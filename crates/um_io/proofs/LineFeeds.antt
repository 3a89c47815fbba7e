-- The first line feed of a list, found by a search that looks at its parts.
use Rattle.{
  memchr.specs.Find.{IsFirstByte, Nowhere, Passes, is_byte},
  std.{
    proofs.{
      Common.{Bool, List, MatchOption, None, Option, Some, ap, arith, cond, drop, eq-eqb, inl, inr, le_refl, length, length-append, max},
      Common.{slice_index, slice_range, subst, sym, take, ℕ, ◌++◌, eqb, map, not, replicate, w8, ◌%◌, ◌+◌, ◌-◌, ◌<◌},
      Common.{◌^◌, ◌∙◌, ◌≡◌, ◌≢◌, ◌≤◌},
      Math.Seq.{take-add, take-append-add},
      lemmas.{
        Bool.{cases_lt, eqb-true, false≢true},
        List.{drop-drop, drop-take, get_or-append-add, get_or-take, length-drop, length-take, length-take-le, take-append-drop, take-take},
        List.{take_all, Edits.length-between, Elements.{All-append, All-drop, All-from_get_or, All-nil, All-take}},
        Simd.{bitmask_splat, run_in_chunk_fails, run_in_chunk_le, run_in_chunk_stops, trailing_mask_l},
        Slice.between_is,
      },
    },
    specs.List.prefix_len,
  },
  um_io.specs.Lines.{IsFirstLineFeed, IsLine, IsNotLineFeed},
}
use lib.{Count.count_trailing_zeros, Lanes.{mask_l, top, zip2}}

-- ## FeedLemmas: Lemmas about line feeds in parts of a list.

IsLine-front : (octets : List ℕ) (n : ℕ) → n ≤ length octets → Nowhere (Passes (is_byte 10) octets) 0 n →
    IsLine (take n octets)
IsLine-front octets n fits none =
    All-from_get_or IsNotLineFeed (take n octets) 0
    (λ k below is.
    let size = length-take n octets in
    let low : k < n = omega arith in
    none k (omega arith) low (eq-eqb (slice_index octets k) 10 (sym (get_or-take n octets k 0 low) ∙ is)))

pub MatchOption-feed : (octets : List ℕ) (r : Option ℕ) → IsFirstByte (is_byte 10) octets r
    → MatchOption r (IsLine octets) (IsFirstLineFeed octets)
MatchOption-feed octets None none = subst IsLine (take_all (length octets) octets (le_refl (length octets)))
    (IsLine-front octets (length octets) (le_refl (length octets)) none)
MatchOption-feed octets (Some n) found =
    record {
      in_range = found.0.high;
      no_line_feed = IsLine-front octets n (omega arith) found.0.before;
      is_line_feed = eqb-true (slice_index octets n) 10 found.1;
    }

IsFirstLineFeed-behind : (front octets : List ℕ) (n : ℕ) → IsLine front → IsFirstLineFeed octets n
    → IsFirstLineFeed (front ++ octets) (length front + n)
IsFirstLineFeed-behind front octets n plain first =
    record {
      in_range = omega (arith, length-append front octets);
      no_line_feed = rw take-append-add (All-append IsNotLineFeed front (take n octets) plain first.no_line_feed);
      is_line_feed = get_or-append-add front octets n 0 ∙ first.is_line_feed;
    }

pub count-before : (octets : List ℕ) (n : ℕ) → 64 ≤ length octets → n ≡ prefix_len (λ x. not (eqb x 10)) (take 64 octets) →
    (n ≤ 64) × IsLine (take n octets) × (n < 64 → slice_index octets n ≡ 10)
count-before octets n long counted =
    let feed : ℕ → Bool = λ x. eqb x 10 in
    let few = run_in_chunk_le feed octets 0 64 n 0 long counted in
    let other = run_in_chunk_fails feed octets 0 64 n 0 long counted in
    let front : 0 + n ≡ n = omega arith in (
      few,
      IsLine-front octets n (omega arith) (λ k low high is. false≢true (sym (other k low (omega arith)) ∙ is)),
      λ less. eqb-true _ 10 (rw front at (run_in_chunk_stops feed octets 0 64 n 0 long counted less)),
    )

-- in the mask that a vector comparison returns, the bit of each octet tells whether it is a line feed
pub feed-bits : (octets : List ℕ) → 64 ≤ length octets →
    mask_l (map (top 7) (zip2 (λ a b. cond (eqb a b) 255 0) (take 64 octets) (replicate 64 10))) % 2 ^ 64
    ≡ mask_l (map (λ x. eqb x 10) (take 64 octets))
feed-bits octets long = bitmask_splat w8 eqb (take 64 octets) 64 10 (length-take-le 64 octets long) (omega arith)

-- the number of trailing zeros of the mask from a vector comparison is the number of octets before the first line feed
pub count-before-bits : (octets : List ℕ) (bits : ℕ) → 64 ≤ length octets →
    bits ≡ mask_l (map (λ x. eqb x 10) (take 64 octets)) → bits ≢ 0 → (n : ℕ) → n ≡ count_trailing_zeros 64 bits →
    (n ≤ 64) × IsLine (take n octets) × (n < 64 → slice_index octets n ≡ 10)
count-before-bits octets bits long are some n is =
    count-before octets n long (is ∙ ap (count_trailing_zeros 64) are
    ∙ trailing_mask_l (λ x. eqb x 10) 64 (take 64 octets) (omega (arith, length-take-le 64 octets long)) (omega (arith, are)))

pub slice_range-end : (octets : List ℕ) (from : ℕ) → slice_range octets from (length octets) ≡ drop from octets
slice_range-end octets from = take_all (length octets - from) (drop from octets) (omega (arith, length-drop from octets))

pub MatchOption-behind : (octets : List ℕ) (from : ℕ) (r : Option ℕ) → from ≤ length octets → IsLine (take from octets) →
    MatchOption r (IsLine (slice_range octets from (length octets))) (IsFirstLineFeed (slice_range octets from (length octets))) →
    MatchOption r (IsLine octets) (λ n. IsFirstLineFeed octets (from + n))
MatchOption-behind octets from None fits plain none = subst IsLine (take-append-drop from octets)
    (All-append IsNotLineFeed (take from octets) (drop from octets) plain (subst IsLine (slice_range-end octets from) none))
MatchOption-behind octets from (Some n) fits plain first =
    rw (take-append-drop from octets, length-take-le from octets fits) at
    (IsFirstLineFeed-behind (take from octets) (drop from octets) n plain
    (subst (λ rest. IsFirstLineFeed rest n) (slice_range-end octets from) first))

slice_range-joined : (octets : List ℕ) (i j k : ℕ) → i ≤ j → j ≤ k
    → slice_range octets i j ++ slice_range octets j k ≡ slice_range octets i k
slice_range-joined octets i j k first second =
    let rest = drop-drop (j - i) i octets ∙ ap (λ n. drop n octets) (omega arith) in
    ap (λ l. take (j - i) (drop i octets) ++ take (k - j) l) (sym rest) ∙ sym (take-add (j - i) (k - j) (drop i octets))
    ∙ ap (λ n. take n (drop i octets)) (omega arith)

pub slice_range-front : (octets : List ℕ) (i k n : ℕ) → n ≤ k - i →
    take n (slice_range octets i k) ≡ slice_range octets i (i + n)
slice_range-front octets i k n fits =
    take-take n (k - i) (drop i octets) fits ∙ ap (λ m. take m (drop i octets)) (omega arith)

pub slice_range-rest : (octets : List ℕ) (i k n : ℕ) → i + n ≤ k →
    drop n (slice_range octets i k) ≡ slice_range octets (i + n) k
slice_range-rest octets i k n fits =
    ap (λ m. drop n (take m (drop i octets))) (omega arith) ∙ drop-take n (k - (i + n)) (drop i octets)
    ∙ ap (take (k - (i + n))) (drop-drop n i octets)

pub IsLine-join : (octets : List ℕ) (i j k : ℕ) → i ≤ j → j ≤ k → IsLine (slice_range octets i j) →
    IsLine (slice_range octets j k)
    → IsLine (slice_range octets i k)
IsLine-join octets i j k first second before behind =
    subst IsLine (slice_range-joined octets i j k first second) (All-append IsNotLineFeed (slice_range octets i j) (slice_range octets j k)
    before behind)

pub IsLine-join_feed : (octets : List ℕ) (i j k n : ℕ) → i ≤ j → j ≤ k → k ≤ length octets →
    IsLine (slice_range octets i j)
    → IsFirstLineFeed (slice_range octets j k) n → IsLine (slice_range octets i (j + n))
IsLine-join_feed octets i j k n first second fits before found =
    let size = length-between octets j k fits in
    IsLine-join octets i j (j + n) first (omega arith) before
    (subst IsLine (slice_range-front octets j k n (omega arith)) found.no_line_feed)

pub IsFirstLineFeed-upto : (octets : List ℕ) (i j k n : ℕ) → i ≤ j → j ≤ k → k ≤ length octets →
    IsLine (slice_range octets i j)
    → IsFirstLineFeed (slice_range octets j k) n → IsFirstLineFeed (slice_range octets i k) (j + n - i)
IsFirstLineFeed-upto octets i j k n first second fits before found =
    let size = length-between octets i j (omega arith) in
    let joined = IsFirstLineFeed-behind (slice_range octets i j) (slice_range octets j k) n before found in
    let at : length (slice_range octets i j) + n ≡ j + n - i = omega arith in
    rw (slice_range-joined octets i j k first second, at) at joined

pub IsLine-skipped : (octets : List ℕ) (i j n : ℕ) → IsLine (slice_range octets i j) →
    IsLine (slice_range octets (i + n) (max j (i + n)))
IsLine-skipped octets i j n plain =
    elim (cases_lt j (i + n)) [
      | inl less ↦
          let none : max j (i + n) - (i + n) ≡ 0 = omega arith in
          rw none (All-nil IsNotLineFeed)
      | inr more ↦
          let same : max j (i + n) ≡ j = omega arith in
          rw (same, ← slice_range-rest octets i j n more) (All-drop IsNotLineFeed n (slice_range octets i j) plain)
    ]

pub slice_range-kept : (old new : List ℕ) (i j n : ℕ) → j ≤ n → take n new ≡ take n old →
    slice_range new i j ≡ slice_range old i j
slice_range-kept old new i j n within same =
    let front = sym (take-take j n new within) ∙ ap (take j) same ∙ take-take j n old within in
    between_is new i j ∙ ap (drop i) front ∙ sym (between_is old i j)

pub slice_range-came : (old new : List ℕ) (i j n : ℕ) → i ≤ j → take j new ≡ take j old
    → slice_range new i (j + n) ≡ slice_range old i j ++ slice_range new j (j + n)
slice_range-came old new i j n ordered same =
    sym (slice_range-joined new i j (j + n) ordered (omega arith)) ∙ ap (λ l. l ++ slice_range new j (j + n))
    (slice_range-kept old new i j j (le_refl j) same)

pub IsLine-before_feed : (octets : List ℕ) (m n : ℕ) → IsFirstLineFeed octets n → m ≤ n → IsLine (take m octets)
IsLine-before_feed octets m n found low =
    subst IsLine (take-take m n octets low) (All-take IsNotLineFeed m (take n octets) found.no_line_feed)
