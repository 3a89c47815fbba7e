-- Octets can be divided into lines in only one way.
use Rattle.{
  std.proofs.{
    Common.{All, List, [], ap, append-nil, append_assoc, arith, inl, inr, length, length-append, refl, sym, ℕ, ◌++◌, ◌+◌},
    Common.{◌-◌, ◌<◌, ◌∙◌, ◌∷◌, ◌≡◌},
    lemmas.{
      Bool.{cases_eq, ne_eqb},
      List.{drop_at, take_at, Elements.{All-cons, All-drop, All-head, All-nil, All-push, All-tail, All-take}},
    },
  },
  um_io.specs.Lines.{IsDividedIntoLines, IsLine, IsNotLineFeed, lines_of_octets, push_onto_first_line, text_of_lines},
}

-- ## LineLists: Octets can be divided into complete lines and a rest without a line feed in only one way. Of two divisions, one begins with
-- the lines of the other; the rest of the other contains no line feed, so no further line follows.

All-before : {A : Type 0} (P : A → Type 0) (xs ys : List A) → All P (xs ++ ys) → All P xs
All-before P xs ys h = rw (take_at xs ys (length xs) refl) at (All-take P (length xs) (xs ++ ys) h)

All-behind : {A : Type 0} (P : A → Type 0) (xs ys : List A) → All P (xs ++ ys) → All P ys
All-behind P xs ys h = rw (drop_at xs ys (length xs) refl) at (All-drop P (length xs) (xs ++ ys) h)

pub text-cons : (line : List ℕ) (lines : List (List ℕ)) (rest : List ℕ) →
    text_of_lines (line ∷ lines) ++ rest ≡ line ++ 10 ∷ (text_of_lines lines ++ rest)
text-cons line lines rest = append_assoc line (10 ∷ text_of_lines lines) rest

pub text-append : (ls ms : List (List ℕ)) (rest : List ℕ) →
    text_of_lines (ls ++ ms) ++ rest ≡ text_of_lines ls ++ (text_of_lines ms ++ rest)
text-append [] ms rest = refl
text-append (l ∷ ls) ms rest = simp (append_assoc, text-append ls ms rest)

pub text-push : (ls : List (List ℕ)) (l u : List ℕ) → text_of_lines (ls ++ l ∷ []) ++ u ≡ text_of_lines ls ++ (l ++ 10 ∷ u)
text-push ls l u = rw (text-append, append_assoc)

pub length-text-push : (ls : List (List ℕ)) (l : List ℕ) →
    length (text_of_lines (ls ++ l ∷ [])) ≡ length (text_of_lines ls ++ l) + 1
length-text-push ls l = omega (arith, length-append {A = ℕ}, ap length (text-push ls l []))

-- ## DivisionLemmas: Each list of octets is divided into lines in exactly one way: `lines_of_octets` gives a division, by induction over
-- the octets, and it is the only one.

lines_of_octets-plain : (octet : ℕ) (octets : List ℕ) → IsNotLineFeed octet →
    lines_of_octets (octet ∷ octets) ≡ push_onto_first_line octet (lines_of_octets octets)
lines_of_octets-plain octet octets plain = rw (ne_eqb octet 10 plain)

lines_of_octets-line : (line rest : List ℕ) → IsLine line → lines_of_octets (line ++ 10 ∷ rest) ≡ line ∷ lines_of_octets rest
lines_of_octets-line [] rest plain = refl
lines_of_octets-line (octet ∷ line) rest plain =
    lines_of_octets-plain octet (line ++ 10 ∷ rest) (All-head IsNotLineFeed octet line plain)
    ∙ ap (push_onto_first_line octet) (lines_of_octets-line line rest (All-tail IsNotLineFeed octet line plain))

lines_of_octets-text : (lines : List (List ℕ)) (rest : List ℕ) → All IsLine lines →
    lines_of_octets (text_of_lines lines ++ rest) ≡ lines ++ lines_of_octets rest
lines_of_octets-text [] rest plain = refl
lines_of_octets-text (line ∷ lines) rest plain =
    ap lines_of_octets (append_assoc line (10 ∷ text_of_lines lines) rest) ∙ lines_of_octets-line line (text_of_lines lines ++ rest)
    (All-head IsLine line lines plain)
    ∙ ap (λ l. line ∷ l) (lines_of_octets-text lines rest (All-tail IsLine line lines plain))

lines_of_octets-last : (line : List ℕ) → IsLine line → 0 < length line → lines_of_octets line ≡ line ∷ []
lines_of_octets-last [] plain some = absurd (omega arith)
lines_of_octets-last (octet ∷ []) plain some = lines_of_octets-plain octet [] (All-head IsNotLineFeed octet [] plain)
lines_of_octets-last (octet ∷ next ∷ line) plain some =
    lines_of_octets-plain octet (next ∷ line) (All-head IsNotLineFeed octet (next ∷ line) plain)
    ∙ ap (push_onto_first_line octet) (lines_of_octets-last (next ∷ line) (All-tail IsNotLineFeed octet (next ∷ line) plain)
    (omega arith))

pub All-front : (lines front : List (List ℕ)) (last : List ℕ) → All IsLine lines → lines ≡ front ++ last ∷ [] →
    All IsLine front × IsLine last
All-front lines front last plain are =
    let all = rw are at plain in
    (All-before IsLine front (last ∷ []) all, All-head IsLine last [] (All-behind IsLine front (last ∷ []) all))

pub lines_of_octets-only : (octets : List ℕ) (lines : List (List ℕ)) → IsDividedIntoLines octets lines →
    lines ≡ lines_of_octets octets
lines_of_octets-only octets lines divided =
    elim divided.octets_split [
      | inl whole ↦
          sym (ap lines_of_octets (whole ∙ sym (append-nil (text_of_lines lines))) ∙ lines_of_octets-text lines [] divided.no_line_feed
          ∙ append-nil lines)
      | inr cut ↦
          let plain = All-front lines cut.front cut.last divided.no_line_feed cut.lines_split in
          sym (ap lines_of_octets cut.octets_split ∙ lines_of_octets-text cut.front cut.last plain.0
          ∙ ap (λ l. cut.front ++ l) (lines_of_octets-last cut.last plain.1 cut.nonempty) ∙ sym cut.lines_split)
    ]

pub IsDividedIntoLines-line : (line octets : List ℕ) (lines : List (List ℕ)) → IsLine line → IsDividedIntoLines octets lines
    → IsDividedIntoLines (line ++ 10 ∷ octets) (line ∷ lines)
IsDividedIntoLines-line line octets lines plain divided =
    record {
      no_line_feed = All-cons IsLine line lines plain divided.no_line_feed;
      octets_split = elim divided.octets_split [
        | inl whole ↦ inl (ap (λ l. line ++ 10 ∷ l) whole)
        | inr cut ↦ inr record {
          front = line ∷ cut.front;
          last = cut.last;
          lines_split = ap (λ l. line ∷ l) cut.lines_split;
          octets_split = ap (λ l. line ++ 10 ∷ l) cut.octets_split ∙ sym (append_assoc line (10 ∷ text_of_lines cut.front) cut.last);
          nonempty = cut.nonempty;
        }
      ];
    }

-- a way to divide octets into complete lines and a rest without a line feed
abbrev pub Division : List ℕ → Type 0
Division octets = (lines : List (List ℕ)) × (last : List ℕ) × All IsLine lines × IsLine last
    × (octets ≡ text_of_lines lines ++ last)

Division-plain : (octet : ℕ) (octets : List ℕ) → IsNotLineFeed octet → Division octets → Division (octet ∷ octets)
Division-plain octet octets plain ([], last, h, p, e) = ([], octet ∷ last, h, All-cons IsNotLineFeed octet last plain p, cc e)
Division-plain octet octets plain (l ∷ ls, last, h, p, e) = (
  (octet ∷ l) ∷ ls,
  last,
  All-cons IsLine (octet ∷ l) ls (All-cons IsNotLineFeed octet l plain (All-head IsLine l ls h)) (All-tail IsLine l ls h),
  p,
  cc e,
)

pub divide : (octets : List ℕ) → Division octets
divide [] = ([], [], All-nil IsLine, All-nil IsNotLineFeed, refl)
divide (octet ∷ octets) = elim (cases_eq octet 10) [
  | inl feed ↦
      let (lines, last, h, p, e) = divide octets in
      ([] ∷ lines, last, All-cons IsLine [] lines (All-nil IsNotLineFeed) h, p, cc (feed, e))
  | inr plain ↦ Division-plain octet octets plain (divide octets)
]

IsDividedIntoLines-from : (octets : List ℕ) → Division octets → (lines : List (List ℕ)) × IsDividedIntoLines octets lines
IsDividedIntoLines-from octets (lines, [], h, p, e) =
    (lines, record { no_line_feed = h; octets_split = inl (e ∙ append-nil (text_of_lines lines)) })
IsDividedIntoLines-from octets (lines, o ∷ last, h, p, e) = (
  lines ++ (o ∷ last) ∷ [],
  record {
    no_line_feed = All-push IsLine lines (o ∷ last) h p;
    octets_split = inr record { front = lines; last = o ∷ last; lines_split = refl; octets_split = e; nonempty = omega arith };
  },
)

pub IsDividedIntoLines-lines_of_octets : (octets : List ℕ) → IsDividedIntoLines octets (lines_of_octets octets)
IsDividedIntoLines-lines_of_octets octets =
    let (lines, d) = IsDividedIntoLines-from octets (divide octets) in
    rw (lines_of_octets-only octets lines d) at d

-- an example: the octets `a`, line feed, line feed, `b` are the line `a`, an empty line, and the line `b` without a line feed
lines_of_octets-example : lines_of_octets (97 ∷ 10 ∷ 10 ∷ 98 ∷ []) ≡ (97 ∷ []) ∷ [] ∷ (98 ∷ []) ∷ []
lines_of_octets-example = refl
