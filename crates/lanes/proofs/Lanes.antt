-- What an operation on vectors leaves in each lane. The operations are defined on unsigned lanes; signed lanes are converted and back.
use Rattle.{
  std.{
    proofs.{
      Common.{◌≡◌, ℕ, zero, suc, ◌+◌, ◌-◌, ◌/◌, ◌%◌, ◌^◌, ◌<◌, ◌≤◌, Bool, true, false},
      Common.{if◌then◌else◌, ℤ, pos, ◌+ℤ◌, ◌-ℤ◌, ◌≤ℤ◌, List, [], ◌∷◌, ◌++◌, map, below_more, length},
      Common.{get_or, replicate, refl, ap, ap₂, sym, ◌∙◌, arith, int_lt, FitsSigned, inl, inr, subst},
      lemmas.{Int.{ints, to_z-of_z, wrapping_add_is, wrapping_sub_is, int_wrap_fits}, Simd.{mask_l-lt, mask_l-mod, bit_mask_l}},
      lemmas.{Simd.{tops_compared, length-zip2, get_or-zip2}, Bool.cases_lt, List.{map-append, get_or_append_left, get_or-append_right}},
    },
    specs.Int.{cast_signed, cast_unsigned},
  },
  lanes.specs.Lanes.{AreBetween, AreSigned, DifferencesFit, IsLanewise, greater, lane, lane_of_two},
}
use mir.{Syntax.Width, Val.{hbits, bits as width}}
use lib.Lanes.{zip2, sel_l, pick_l, mask_l, top}

-- ## Below: A property of each number below a bound, by cases.

abbrev pub EachBelow : (ℕ → Type 0) → ℕ → Type 0
EachBelow P zero = Unit {0}
EachBelow P (suc n) = EachBelow P n × P n

pub each : (P : ℕ → Type 0) (n : ℕ) → EachBelow P n → (k : ℕ) → k < n → P k
each P zero h k lt = absurd (omega arith)
each P (suc n) h k lt = below_more P n (each P n h.0) h.1 k (omega arith)

abbrev values : {A : Type 0} → (ℕ → A) → ℕ → List A
values f zero = []
values f (suc n) = f n ∷ values f n

-- `refl` proves the equality of the lists, by computation
pub same_below : {A : Type 0} (f g : ℕ → A) {n : ℕ} → values f n ≡ values g n → (k : ℕ) → k < n → f k ≡ g k
same_below f g {n = zero} h = λ k lt. absurd (omega arith)
same_below f g {n = suc n} h = λ k lt. below_more (λ k. f k ≡ g k) n (same_below f g (cc)) (cc) k (omega arith)

pub if_either : {A : Type 0} (P : A → Type 0) (t : Bool) {x y : A} → P x → P y → P (if t then x else y)
if_either P true px py = px
if_either P false px py = py

pub if_map : {A B : Type 0} (f : A → B) (t : Bool) {m n : A} {x y : B} → f m ≡ x → f n ≡ y →
    f (if t then m else n) ≡ (if t then x else y)
if_map f true ex ey = ex
if_map f false ex ey = ey

-- ## Lanewise: An operation that combines the lanes of two vectors at the same index.

-- F n combines the n lanes of two vectors by g, lane by lane
module _ {X Y Z : Type 0} (F : ℕ → List X → List Y → List Z) (g : X → Y → Z) (none : F 0 [] [] ≡ [])
    (more : (n : ℕ) (x : X) (y : Y) (xs : List X) (ys : List Y) → F (suc n) (x ∷ xs) (y ∷ ys) ≡ g x y ∷ F n xs ys) where
  lanewise-zip2 : (n : ℕ) (xs : List X) (ys : List Y) → length xs ≡ n → length ys ≡ n → F n xs ys ≡ zip2 g xs ys
  lanewise-zip2 zero [] [] ex ey = none
  lanewise-zip2 (suc n) (x ∷ xs) (y ∷ ys) ex ey =
      more n x y xs ys ∙ ap (λ zs. g x y ∷ zs) (lanewise-zip2 n xs ys (omega arith) (omega arith))
  lanewise-zip2 n xs ys ex ey = absurd (omega arith)

  pub lanewise-at : (n : ℕ) (xs : List X) (ys : List Y) → length xs ≡ n → length ys ≡ n → (k : ℕ) → k < n →
      (c : X) (d : Y) (e : Z) → get_or (F n xs ys) k e ≡ g (get_or xs k c) (get_or ys k d)
  lanewise-at n xs ys ex ey k lt c d e =
      ap (λ zs. get_or zs k e) (lanewise-zip2 n xs ys ex ey) ∙ get_or-zip2 g xs ys k c d e (omega arith) (omega arith)

  pub length-lanewise : (n : ℕ) (xs : List X) (ys : List Y) → length xs ≡ n → length ys ≡ n → length (F n xs ys) ≡ n
  length-lanewise n xs ys ex ey =
      ap length (lanewise-zip2 n xs ys ex ey) ∙ length-zip2 g xs ys (ex ∙ sym ey) ∙ ex

-- ## Signed: Sums, differences, maxima, comparisons and signs of signed lanes.

pub AreSigned-splat : (w : Width) (n : ℕ) (x : ℤ) → FitsSigned w x → AreSigned w n (replicate n x)
AreSigned-splat w n x fits = record { count = length-splat n; fits = at n }
  where
    length-splat : (n : ℕ) → length (replicate n x) ≡ n
    length-splat zero = refl
    length-splat (suc n) = ap suc (length-splat n)

    at : (n k : ℕ) → k < n → FitsSigned w (lane (replicate n x) k)
    at zero k lt = absurd (omega arith)
    at (suc n) zero lt = fits
    at (suc n) (suc k) lt = at n k (omega arith)

fits-between : (w : Width) (low high x : ℤ) → FitsSigned w low → FitsSigned w high → low ≤ℤ x → x ≤ℤ high →
    FitsSigned w x
fits-between w low high x l h from to = omega (arith, ints)

pub AreSigned-between : (w : Width) {low high : ℤ} {n : ℕ} {a : List ℤ} → FitsSigned w low → FitsSigned w high →
    AreBetween low high n a → AreSigned w n a
AreSigned-between w l h between = record {
  count = between.count;
  fits = λ k lt. fits-between w _ _ _ l h (between.lower_bound k lt) (between.upper_bound k lt);
}

abbrev pub bits_of : Width → List ℤ → List ℕ
bits_of w = map (cast_unsigned w)

pub IsLanewise-by_lane : (w : Width) (n : ℕ) (F : ℕ → List ℤ → List ℤ → List ℤ) (g h : ℤ → ℤ → ℤ) →
    F 0 [] [] ≡ [] →
    ((n : ℕ) (x y : ℤ) (xs ys : List ℤ) → F (suc n) (x ∷ xs) (y ∷ ys) ≡ g x y ∷ F n xs ys) →
    ((x y : ℤ) → FitsSigned w x → FitsSigned w y → FitsSigned w (h x y) → g x y ≡ h x y) → (a b : List ℤ) →
    AreSigned w n a → AreSigned w n b → ((k : ℕ) → k < n → FitsSigned w (h (lane a k) (lane b k))) →
    IsLanewise w n h a b (F n a b)
IsLanewise-by_lane w n F g h none more is a b sa sb fit =
    let each : (k : ℕ) → k < n → lane (F n a b) k ≡ h (lane a k) (lane b k) =
    λ k lt. lanewise-at F g none more n a b sa.count sb.count k lt (pos 0) (pos 0) (pos 0)
    ∙ is _ _ (sa.fits k lt) (sb.fits k lt) (fit k lt) in
    record {
      each = each;
      lanes = record {
        count = length-lanewise F g none more n a b sa.count sb.count;
        fits = λ k lt. rw (each k lt) (fit k lt);
      };
    }

pub wrapped_sum : (w : Width) (x y : ℤ) → FitsSigned w x → FitsSigned w y → FitsSigned w (x +ℤ y) →
    cast_signed w ((cast_unsigned w x + cast_unsigned w y) % 2 ^ width w) ≡ x +ℤ y
wrapped_sum w x y hx hy h = wrapping_add_is w x y hx hy ∙ int_wrap_fits w _ h

pub wrapped_difference : (w : Width) (x y : ℤ) → FitsSigned w x → FitsSigned w y → FitsSigned w (x -ℤ y) →
    cast_signed w ((cast_unsigned w x + (2 ^ width w - cast_unsigned w y)) % 2 ^ width w) ≡ x -ℤ y
wrapped_difference w x y hx hy h = wrapping_sub_is w x y hx hy ∙ int_wrap_fits w _ h

module _ (w : Width) (n : ℕ) (a b : List ℤ) (sa : AreSigned w n a) (sb : AreSigned w n b) where
  pub sums : ((k : ℕ) → k < n → FitsSigned w (lane a k +ℤ lane b k)) →
      IsLanewise w n ◌+ℤ◌ a b (map (cast_signed w) (zip2 (λ x y. (x + y) % 2 ^ width w) (bits_of w a) (bits_of w b)))
  sums = IsLanewise-by_lane w n (λ _ a b. map (cast_signed w) (zip2 (λ x y. (x + y) % 2 ^ width w) (bits_of w a)
      (bits_of w b))) _ ◌+ℤ◌
      refl (λ n x y xs ys. refl) (wrapped_sum w) a b sa sb

  pub differences : DifferencesFit w n a b →
      IsLanewise w n ◌-ℤ◌ a b (map (cast_signed w) (zip2 (λ x y. (x + (2 ^ width w - y)) % 2 ^ width w) (bits_of w a) (bits_of w b)))
  differences =
      IsLanewise-by_lane w n
      (λ _ a b. map (cast_signed w) (zip2 (λ x y. (x + (2 ^ width w - y)) % 2 ^ width w) (bits_of w a) (bits_of w b))) _ ◌-ℤ◌
      refl (λ n x y xs ys. refl) (wrapped_difference w) a b sa sb

-- ---- lemmas about comparisons

-- the result of the comparison "less than" in one lane: all bits are 1 if it is true, and 0 if not
abbrev pub compared : Width → ℕ → ℕ → ℕ
compared w x y = if int_lt (cast_signed w x) (cast_signed w y) then 2 ^ width w - 1 else 0

pub top-compared : (w : Width) (x y : ℕ) → top (hbits w) (compared w x y) ≡ int_lt (cast_signed w x) (cast_signed w y)
top-compared w x y = ap (λ l. get_or l 0 false)
    (tops_compared w (λ x y. int_lt (cast_signed w x) (cast_signed w y)) (x ∷ []) (y ∷ []))

abbrev pub less_lanes : Width → ℕ → List ℤ → List ℤ → List Bool
less_lanes w n a b = map (top (hbits w)) (zip2 (compared w) (bits_of w a) (bits_of w b))

module _ (w : Width) (x y : ℤ) (hx : FitsSigned w x) (hy : FitsSigned w y) where
  tested : top (hbits w) (compared w (cast_unsigned w x) (cast_unsigned w y)) ≡ int_lt x y
  tested = top-compared w _ _ ∙ ap₂ int_lt (to_z-of_z w x hx) (to_z-of_z w y hy)

  larger : FitsSigned w (if int_lt x y then y else x) →
      cast_signed w (if top (hbits w) (compared w (cast_unsigned w x) (cast_unsigned w y)) then cast_unsigned w y else cast_unsigned w x)
      ≡ (if int_lt x y then y else x)
  larger fit =
      ap (λ t. cast_signed w (if t then cast_unsigned w y else cast_unsigned w x)) tested
      ∙ if_map (cast_signed w) (int_lt x y) (to_z-of_z w y hy) (to_z-of_z w x hx)

module _ (w : Width) (n : ℕ) (a b : List ℤ) (sa : AreSigned w n a) (sb : AreSigned w n b) where
  pub maxima : IsLanewise w n greater a b
      (map (cast_signed w) (sel_l (less_lanes w n a b) (bits_of w b) (bits_of w a)))
  maxima =
      IsLanewise-by_lane w n (λ n a b. map (cast_signed w) (sel_l (less_lanes w n a b) (bits_of w b) (bits_of w a))) _
      greater refl (λ n x y xs ys. refl) (larger w) a b sa sb
      (λ k lt. if_either (FitsSigned w) _ (sb.fits k lt) (sa.fits k lt))

  pub length-less_lanes : length (less_lanes w n a b) ≡ n
  length-less_lanes = length-lanewise (less_lanes w) _ refl (λ n x y xs ys. refl) n a b sa.count sb.count

  pub less_lanes-at : (k : ℕ) → k < n → get_or (less_lanes w n a b) k false ≡ int_lt (lane a k) (lane b k)
  less_lanes-at k lt =
      lanewise-at (less_lanes w) _ refl (λ n x y xs ys. refl) n a b sa.count sb.count k lt (pos 0) (pos 0) false
      ∙ tested w _ _ (sa.fits k lt) (sb.fits k lt)

module _ (w : Width) (zero_is : cast_signed w 0 ≡ pos 0) (n : ℕ) (few : n ≤ 64) (a : List ℤ) (sa : AreSigned w n a) where
  abbrev signs : ℕ → List ℤ → List ℤ → List Bool
  signs n a b = map (top (hbits w)) (zip2 (compared w) (bits_of w a) (replicate n 0))

  length-signs : length (signs n a a) ≡ n
  length-signs = length-lanewise signs _ refl (λ n x y xs ys. refl) n a a sa.count sa.count

  pub signs-fit : mask_l (signs n a a) % 18446744073709551616 < 2 ^ n
  signs-fit = rw (mask_l-mod (signs n a a) 64 (omega (arith, length-signs))) (rw length-signs at (mask_l-lt (signs n a a)))

  pub sign_bit : (k : ℕ) → k < n →
      mask_l (signs n a a) % 18446744073709551616 / 2 ^ k % 2 ≡ (if int_lt (lane a k) (pos 0) then 1 else 0)
  sign_bit k lt =
      ap (λ row. row / 2 ^ k % 2) (mask_l-mod _ 64 (omega (arith, length-signs)))
      ∙ bit_mask_l _ k
      ∙ ap (λ t. if t then 1 else 0) (lanewise-at signs _ refl (λ n x y xs ys. refl) n a a sa.count sa.count k lt (pos 0) (pos 0) false
      ∙ top-compared w _ 0 ∙ ap₂ int_lt (to_z-of_z w _ (sa.fits k lt)) zero_is)

-- ## Shuffles: Vectors whose lanes are in a new order.

pub cast_lanes-each : (w : Width) (n : ℕ) (a : List ℤ) → AreSigned w n a → map (cast_signed w) (bits_of w a) ≡ a
cast_lanes-each w n a sa = by a (λ k lt. sa.fits k (omega (arith, sa.count)))
  where
    by : (a : List ℤ) → ((k : ℕ) → k < length a → FitsSigned w (lane a k)) → map (cast_signed w) (bits_of w a) ≡ a
    by [] fits = refl
    by (x ∷ a) fits = ap₂ (λ y ys. y ∷ ys) (to_z-of_z w x (fits 0 (omega arith))) (by _ (λ s lt. fits (suc s) (omega arith)))

pub lane_of_two-first : (n : ℕ) (a b : List ℤ) (k : ℕ) → k < n → lane_of_two n a b k ≡ lane a k
lane_of_two-first n a b k lt = grind arith

pub lane_of_two-second : (n : ℕ) (a b : List ℤ) (k : ℕ) → lane_of_two n a b (n + k) ≡ lane b k
lane_of_two-second n a b k = let back : n + k - n ≡ k = omega arith in grind arith

pub by_two : (P : ℕ → Type 0) (n m : ℕ) → ((k : ℕ) → k < n → P k) → ((k : ℕ) → k < m → P (n + k)) → (k : ℕ) →
    k < n + m → P k
by_two P n m first second k lt = elim (cases_lt k n) [
  | inl lower ↦ first k lower
  | inr upper ↦ subst P (omega arith) (second (k - n) (omega arith))
]

pub lanewise_of_two : (h : ℤ → ℤ → ℤ) (n m : ℕ) (a b c a' b' c' : List ℤ) → ((k : ℕ) → k < n →
    lane c k ≡ h (lane a k) (lane b k)) →
    ((k : ℕ) → k < m → lane c' k ≡ h (lane a' k) (lane b' k)) → (k : ℕ) → k < n + m →
    lane_of_two n c c' k ≡ h (lane_of_two n a a' k) (lane_of_two n b b' k)
lanewise_of_two h n m a b c a' b' c' first second = by_two _ n m
    (λ k lt. rw (lane_of_two-first n a a' k lt, lane_of_two-first n b b' k lt, lane_of_two-first n c c' k lt) (first k lt))
    (λ k lt. rw (lane_of_two-second n a a' k, lane_of_two-second n b b' k, lane_of_two-second n c c' k) (second k lt))

pub between_of_two : {low high : ℤ} {n m : ℕ} {a b : List ℤ} → AreBetween low high n a → AreBetween low high m b →
    (k : ℕ) → k < n + m →
    (low ≤ℤ lane_of_two n a b k) × (lane_of_two n a b k ≤ℤ high)
between_of_two {n} {m} {a} {b} first second = by_two _ n m
    (λ k lt. rw (lane_of_two-first n a b k lt) (first.lower_bound k lt, first.upper_bound k lt))
    (λ k lt. rw (lane_of_two-second n a b k) (second.lower_bound k lt, second.upper_bound k lt))

-- the lane that a shuffle of a and b takes from index k of both
abbrev pub taken : Width → List ℤ → List ℤ → ℕ → ℤ
taken w a b k = cast_signed w (get_or (bits_of w a ++ bits_of w b) k 0)

module _ (w : Width) (zero_is : cast_signed w 0 ≡ pos 0) (n m : ℕ) (a b : List ℤ) (sa : AreSigned w n a) (sb : AreSigned w m b) where
  signed_at : (xs : List ℕ) (k : ℕ) → cast_signed w (get_or xs k 0) ≡ lane (map (cast_signed w) xs) k
  signed_at [] k = zero_is
  signed_at (x ∷ xs) zero = refl
  signed_at (x ∷ xs) (suc k) = signed_at xs k

  unsigned_at : (xs : List ℤ) (k : ℕ) → get_or (bits_of w xs) k 0 ≡ cast_unsigned w (lane xs k)
  unsigned_at [] k = refl
  unsigned_at (x ∷ xs) zero = refl
  unsigned_at (x ∷ xs) (suc k) = unsigned_at xs k

  of_both : (k : ℕ) → lane (a ++ b) k ≡ lane_of_two n a b k
  of_both k = elim (cases_lt k n) [
    | inl lower ↦ get_or_append_left a b (pos 0) k (omega (arith, sa.count)) ∙ sym (lane_of_two-first n a b k lower)
    | inr upper ↦
        let back : n + (k - n) ≡ k = omega arith in
        get_or-append_right a b n k (pos 0) sa.count upper
        ∙ sym (ap (lane_of_two n a b) (sym back) ∙ lane_of_two-second n a b (k - n))
  ]

  pub taken_is : (k : ℕ) → taken w a b k ≡ lane_of_two n a b k
  taken_is k =
      signed_at _ k
      ∙ ap (λ l. lane l k) (map-append _ (bits_of w a) _ ∙ ap₂ ◌++◌ (cast_lanes-each w n a sa) (cast_lanes-each w m b sb))
      ∙ of_both k

  pub shuffled_bits : (order : List ℕ) → pick_l 0 (bits_of w a ++ bits_of w b) order ≡ bits_of w (map (lane_of_two n a b) order)
  shuffled_bits [] = refl
  shuffled_bits (k ∷ order) =
      ap₂ (λ x xs. x ∷ xs) (ap (λ xs. get_or xs k 0) (sym (map-append _ a b)) ∙ unsigned_at (a ++ b) k
      ∙ ap (cast_unsigned w) (of_both k)) (shuffled_bits order)

  pub shuffled : (order : List ℕ) → map (taken w a b) order ≡ map (lane_of_two n a b) order
  shuffled [] = refl
  shuffled (k ∷ order) = ap₂ (λ x xs. x ∷ xs) (taken_is k) (shuffled order)
