-- Interleaving the lanes of two vectors and reading the result as lanes of twice the width joins lanes in pairs. Three such steps transpose
-- eight rows of eight octets.
use Rattle.{
  lanes.proofs.Lanes.{each, lanewise-at, length-lanewise},
  std.proofs.{
    Common.{Fits, List, [], ap, ap₂, arith, bit_and, get_or, length, refl, replicate, suc, w16, w8, zero-add, zero, ℕ, ◌%◌},
    Common.{◌*◌, ◌++◌, ◌+◌, ◌-◌, ◌/◌, ◌<◌, ◌^◌, ◌∙◌, ◌∷◌, ◌≡◌, ◌≤◌},
    Math.{Arith.digits_lt, Nat.{mul_comm, pow-suc, pow-zero}},
    lemmas.{List.{get_or-append_right, get_or-map, get_or_append_left, length-map}, Nat.{Bits.and_high_mask, and_mask, pow_pos}},
    lemmas.Simd.{Each1-chunk, below_from_Fits, chunk-fits, get_or-chunk, get_or_wider, length-chunk},
  },
}
use borrow.Rule.Slice.PartMut.{mid_of}
use lib.Lanes.{Each1, chunk, digits_l, number_l, pick_l, zip2}
use mir.{Syntax.Width, Val.bits}

pub each_below_8 : (P : ℕ → Type 0) → P 0 → P 1 → P 2 → P 3 → P 4 → P 5 → P 6 → P 7 → (k : ℕ) → k < 8 → P k
each_below_8 P a b c d e f g h = each P 8 ((((((((tt, a), b), c), d), e), f), g), h)

number_l-pair : (p : ℕ) (xs : List ℕ) (i : ℕ) → suc i < length xs →
    number_l p (chunk i 2 xs) ≡ get_or xs i 0 + p * get_or xs (suc i) 0
number_l-pair p (x ∷ y ∷ xs) zero h = grind arith
number_l-pair p (x ∷ y ∷ xs) (suc i) h = number_l-pair p _ i (omega arith)
number_l-pair p xs i h = absurd (omega arith)

number_l-digits_l : (n x : ℕ) → x < 256 ^ n → number_l 256 (digits_l 256 n x) ≡ x
number_l-digits_l zero x h = omega arith
number_l-digits_l (suc n) x h =
    let front : x / 256 < 256 ^ n = omega arith in
    let rest = number_l-digits_l n _ front in
    omega arith

number_l-below : (p : ℕ) (xs : List ℕ) → Each1 (λ x. x < p) xs → number_l p xs < p ^ length xs
number_l-below p [] h = omega (arith, pow-zero)
number_l-below p (x ∷ xs) h = omega (arith, digits_lt (number_l-below p xs h.1) h.0, mul_comm, pow-suc)

pub octet_of_joined : (e : ℕ → ℕ) → ((r : ℕ) → e r < 256) → (r : ℕ) → r < 8 →
    (e 0 + 256 * e 1 + 65536 * (e 2 + 256 * e 3) + 2 ^ 32 * (e 4 + 256 * e 5 + 65536 * (e 6 + 256 * e 7))) / 256 ^ r % 256 ≡ e r
octet_of_joined e h = each _ 8 (omega arith)

-- two adjacent lanes, read as one lane of twice the width, form a number whose lower half is the first lane
lane_of_two_lanes : (p q n : ℕ) (lanes : List ℕ) → q ≡ p ^ 2 → p ^ length lanes ≡ 256 ^ 16 → Each1 (λ x. x < p) lanes →
    (j : ℕ) → j < n → suc (2 * j) < length lanes → get_or (digits_l q n (number_l 256 (digits_l 256 16 (number_l p lanes)))) j 0
    ≡ get_or lanes (2 * j) 0 + p * get_or lanes (suc (2 * j)) 0
lane_of_two_lanes p q n lanes square whole small j h within =
    ap (λ x. get_or (digits_l q n x) j 0) (number_l-digits_l 16 _ (rw (← whole) (number_l-below p lanes small)))
    ∙ get_or_wider p 2 q n lanes j square small h
    ∙ number_l-pair p lanes (2 * j) within

module _ (p : ℕ) (some : 0 < p) where
  pub below_at : (xs : List ℕ) → Each1 (λ x. x < p) xs → (k : ℕ) → get_or xs k 0 < p
  below_at [] h k = some
  below_at (x ∷ xs) h zero = h.0
  below_at (x ∷ xs) h (suc k) = below_at xs h.1 k

  below-append : (xs ys : List ℕ) → Each1 (λ x. x < p) xs → Each1 (λ x. x < p) ys → Each1 (λ x. x < p) (xs ++ ys)
  below-append [] ys h g = g
  below-append (x ∷ xs) ys h g = (h.0, below-append xs ys h.1 g)

  below-picked : (xs : List ℕ) → Each1 (λ x. x < p) xs → (ks : List ℕ) → Each1 (λ x. x < p) (pick_l 0 xs ks)
  below-picked xs h [] = tt
  below-picked xs h (k ∷ ks) = (below_at xs h k, below-picked xs h ks)

get_or-append_pair : (p n : ℕ) (x y : List ℕ) → length x ≡ n → (s : ℕ) → s < n →
    get_or (x ++ y) s 0 + p * get_or (x ++ y) (n + s) 0 ≡ get_or x s 0 + p * get_or y s 0
get_or-append_pair p n x y long s h =
    ap₂ (λ a b. a + p * b) (get_or_append_left x y 0 s (omega arith))
    (get_or-append_right x y n _ 0 long (omega arith) ∙ ap (λ k. get_or y k 0) (omega arith))

-- if lane s of x and lane s of y are moved next to each other and read as one lane of twice the width, lane s of x is the lower half
pub paired_lane : (w : Width) (q n m : ℕ) (x y : List ℕ) → q ≡ (2 ^ bits w) ^ 2 → length x ≡ m → Each1 (Fits w) x →
    Each1 (Fits w) y → (order : List ℕ) (j s : ℕ) → (2 ^ bits w) ^ length order ≡ 256 ^ 16 → j < n
    → suc (2 * j) < length order →
    s < m → get_or order (2 * j) 0 ≡ s → get_or order (suc (2 * j)) 0 ≡ m + s →
    get_or (digits_l q n (number_l 256 (digits_l 256 16 (number_l (2 ^ bits w) (pick_l 0 (x ++ y) order))))) j 0
    ≡ get_or x s 0 + 2 ^ bits w * get_or y s 0
paired_lane w q n m x y square long fits_x fits_y order j s whole h within hs first second =
    let p : ℕ = 2 ^ bits w in
    let some : 0 < p = pow_pos _ in
    let lanes : List ℕ = pick_l 0 _ _ in
    let count : length lanes ≡ length order = length-map _ _ in
    let small = below-picked p some _ (below-append p some x y (below_from_Fits w x fits_x) (below_from_Fits w y fits_y)) _ in
    let at = λ (i : ℕ) (hi : i < length order). get_or-map (λ k. get_or (x ++ y) k 0) order i 0 0 hi in
    lane_of_two_lanes p q n lanes square (ap (λ k. p ^ k) count ∙ whole) small j h (omega arith)
    ∙ ap₂ (λ a b. a + p * b) (at (2 * j) (omega arith) ∙ ap (λ k. get_or (x ++ y) k 0) first)
    (at (suc (2 * j)) within ∙ ap (λ k. get_or (x ++ y) k 0) second)
    ∙ get_or-append_pair p m x y long s hs

-- a splat combined with each of two vectors, and both results added
abbrev sum_of_splats : (f g : ℕ → ℕ → ℕ) (m n : ℕ) → ℕ → List ℕ → List ℕ → List ℕ
sum_of_splats f g m n k x y = zip2 (λ a b. (a + b) % 2 ^ 16) (zip2 f x (replicate k m)) (zip2 g y (replicate k n))

module _ (x y : List ℕ) (long_x : length x ≡ 8) (long_y : length y ≡ 8) where
  sum_lane : (f g : ℕ → ℕ → ℕ) (m n s : ℕ) → s < 8 →
      get_or (sum_of_splats f g m n 8 x y) s 0 ≡ (f (get_or x s 0) m + g (get_or y s 0) n) % 2 ^ 16
  sum_lane f g m n s h = lanewise-at (sum_of_splats f g m n) _ refl (λ k a b xs ys. refl) 8 x y long_x long_y s h 0 0 0

  pub length-joined_octets : (f g : ℕ → ℕ → ℕ) (m n : ℕ) → length (sum_of_splats f g m n 8 x y) ≡ 8
  length-joined_octets f g m n = length-lanewise (sum_of_splats f g m n) _ refl (λ k a b xs ys. refl) 8 x y long_x long_y

  pub join_lower_octets-lane : (s : ℕ) → s < 8 →
      get_or (zip2 (λ a b. (a + b) % 2 ^ 16) (zip2 bit_and x (replicate 8 255)) (zip2 (λ a b. a * 2 ^ b % 2 ^ 16) y (replicate 8 8))) s 0
      ≡ get_or x s 0 % 256 + 256 * (get_or y s 0 % 256)
  join_lower_octets-lane s h =
      sum_lane _ _ 255 8 s h
      ∙ ap (λ a. (a + get_or y s 0 * 256 % 65536) % 65536) (and_mask _ 8)
      ∙ omega arith

  pub join_upper_octets-lane : Each1 (Fits w16) x → Each1 (Fits w16) y → (s : ℕ) → s < 8 →
      get_or (zip2 (λ a b. (a + b) % 2 ^ 16) (zip2 (λ a b. a / 2 ^ b) x (replicate 8 8)) (zip2 bit_and y (replicate 8 65280))) s 0
      ≡ get_or x s 0 / 256 % 256 + 256 * (get_or y s 0 / 256 % 256)
  join_upper_octets-lane fits_x fits_y s h =
      let small_x = below_at _ (pow_pos 16) x (below_from_Fits w16 x fits_x) s in
      let small_y = below_at _ (pow_pos 16) y (below_from_Fits w16 y fits_y) s in
      sum_lane (λ a b. a / 2 ^ b) bit_and 8 65280 s h
      ∙ ap (λ b. (get_or x s 0 / 256 + b) % 65536) (and_high_mask 16 8 (omega arith) (get_or y s 0) small_y)
      ∙ omega arith

pub octet_pairs-lane : (octets : List ℕ) (from s : ℕ) → from + 16 ≤ length octets →
    ((k : ℕ) → Fits w8 (get_or octets k 0)) →
    s < 8 → get_or (digits_l 65536 8 (number_l 256 (chunk 0 16 (mid_of from (from + 16 - from) octets)))) s 0
    ≡ get_or octets (from + 2 * s) 0 + 256 * get_or octets (from + suc (2 * s)) 0
octet_pairs-lane octets from s room fits h =
    let part : List ℕ = chunk _ 16 octets in
    let lanes : List ℕ = chunk 0 16 _ in
    let whole : from + 16 - from ≡ 16 = omega arith in
    let long : length lanes ≡ 16 = length-chunk 0 16 _ (omega (arith, length-chunk)) in
    let small = Each1-chunk (λ x. x < 256) 0 16 part (below_from_Fits w8 part (chunk-fits w8 from 16 octets fits)) in
    let at = λ (k : ℕ) (hk : k < 16).
    get_or-chunk 0 16 part k 0 hk ∙ ap (λ m. get_or part m 0) (zero-add k) ∙ get_or-chunk from 16 octets k 0 hk in
    ap (λ n. get_or (digits_l 65536 8 (number_l 256 (chunk 0 16 (mid_of from n octets)))) s 0) whole
    ∙ get_or_wider 256 2 65536 8 lanes s refl small h
    ∙ number_l-pair 256 lanes (2 * s) (omega arith)
    ∙ ap₂ (λ a b. a + 256 * b) (at (2 * s) (omega arith)) (at (suc (2 * s)) (omega arith))
