-- The free distance of the code, and what three wrong soft bits can change.
use Rattle.{
  bit_blocks.{
    proofs.Lemmas.{AllBits-xor_bits, get_or-xor_bits, length-xor_bits, xor_bits-append},
    specs.{Bits.{AllBits, IsBit, xor_bits}, SoftValues.count_wrong_bits},
  },
  conv_code.{
    proofs.Lemmas.{AllBits-coded, IsMostLikely-only, coded_from_start, length-coded, range_more},
    specs.{Code.{IsEncoderInput, coded_pair, delayed_bit, encoding, g0_bit, g1_bit}, Likelihood.{IsMostLikely, bit_metric, likelihood}},
    specs.States.{encoding_from_state, first_coded_bit, next_trellis_state, second_coded_bit},
  },
  std.{
    proofs.Common.{Bool, List, [], ap, ap₂, arith, cond, drop, false, get_or, if◌then◌else◌, inl, length-drop, length, map, max},
    proofs.Common.{min, nat_le, nat_lt, negsuc, not, pos, refl, replicate, subst, suc, sym, take, true, zero-add, zero, ℕ, ℤ, ◌%◌},
    proofs.Common.{◌&&◌, ◌*◌, ◌++◌, ◌+ℤ◌, ◌+◌, ◌-ℤ◌, ◌-◌, ◌<◌, ◌==◌, ◌∙◌, ◌∷◌},
    proofs.{Common.{◌≡◌, ◌≢◌, ◌≤◌}, Math.Nat.mul-le-mul_left, lemmas.{Bool.{and_parts, leb-true}, Int.ints}},
    proofs.lemmas.List.Elements.{All-cons, All-drop, All-head, All-more, All-replicate, All-tail, All-take, All-weaker},
    proofs.lemmas.List.{FromFn.{get_or-range_with_len, length-range_with_len}, Sums.{AllPass-from_list_all, count_by-le-length}},
    proofs.lemmas.List.{Sums.{sum_by-cons, sum_by_push}, get_or-map, length-map, length-replicate, length-take, take-append-drop, take_all},
    specs.{List.{All, Contains, count_by, flat_map, list_all, range_with_len}, Prelude.{int_le, unsigned_abs, ◌<ℤ◌, ◌≤ℤ◌}},
    specs.Prelude.◌⊎◌,
  },
  weight_bound.specs.{
    Distance.{SomeDistanceIsSeven, differ_at, distance},
    Restoring.{AreLeastAndGreatestStrength, IsCorrectable, OthersAreLessLikely},
  },
}

-- ## Linear: The code is linear: the coded bits of the XOR of two lists are the XOR of their coded bits.

module _ (u v : List ℕ) (same : length u ≡ length v) where
  delayed-xor_bits : (k d : ℕ) → k < length u → delayed_bit (xor_bits u v) k d ≡ (delayed_bit u k d + delayed_bit v k d) % 2
  delayed-xor_bits k d within =
      let before : k - d < length u = omega arith in
      elim (nat_lt k d) as
      (λ early. (if early then 0 else get_or (xor_bits u v) (k - d) 0)
      ≡ ((if early then 0 else get_or u (k - d) 0) + (if early then 0 else get_or v (k - d) 0)) % 2) [
        | true ↦ refl
        | false ↦ get_or-xor_bits u v (k - d) same before
      ]

  g0_bit-xor_bits : (k : ℕ) → k < length u → g0_bit (xor_bits u v) k ≡ (g0_bit u k + g0_bit v k) % 2
  g0_bit-xor_bits k within =
      rw (get_or-xor_bits u v k same within, delayed-xor_bits k 3 within, delayed-xor_bits k 4 within) (omega arith)

  g1_bit-xor_bits : (k : ℕ) → k < length u → g1_bit (xor_bits u v) k ≡ (g1_bit u k + g1_bit v k) % 2
  g1_bit-xor_bits k within =
      rw (get_or-xor_bits u v k same within, delayed-xor_bits k 1 within, delayed-xor_bits k 3 within, delayed-xor_bits k 4 within)
      (omega arith)

  coded_places-xor_bits : (a n : ℕ) → a + n ≤ length u →
      flat_map (coded_pair (xor_bits u v)) (range_with_len a n) ≡
      xor_bits (flat_map (coded_pair u) (range_with_len a n)) (flat_map (coded_pair v) (range_with_len a n))
  coded_places-xor_bits a zero within = refl
  coded_places-xor_bits a (suc n) within =
      let here : a < length u = omega arith in
      ap₂ (λ x rest. x ∷ rest) (g0_bit-xor_bits a here)
      (ap₂ (λ x rest. x ∷ rest) (g1_bit-xor_bits a here) (coded_places-xor_bits (a + 1) n (omega arith)))

  coded-xor_bits : encoding (xor_bits u v) ≡ xor_bits (encoding u) (encoding v)
  coded-xor_bits =
      ap (λ n. flat_map (coded_pair (xor_bits u v)) (range_with_len 0 n)) (length-xor_bits u v same)
      ∙ coded_places-xor_bits 0 (length u) (omega arith)
      ∙ ap (λ n. xor_bits (encoding u) (flat_map (coded_pair v) (range_with_len 0 n))) same

-- ## Weights: A lower bound for the weight of coded bits. Each state of the encoder has a number, its potential, such that no transition
-- lowers the potential by more than the weight of the two coded bits. This is checked by computation for all sixteen states.

abbrev pub ones : List ℕ → ℕ
ones [] = 0
ones (x ∷ c) = x + ones c

-- the four tail bits, which return the encoder to state 0
abbrev pub tail_bits : List ℕ
tail_bits = 0 ∷ 0 ∷ 0 ∷ 0 ∷ []

-- a lower bound for the weight of the coded bits from a state to the end of the tail
abbrev pub potential : ℕ → ℕ
potential state = get_or (0 ∷ 5 ∷ 4 ∷ 4 ∷ 4 ∷ 5 ∷ 4 ∷ 3 ∷ 2 ∷ 5 ∷ 5 ∷ 4 ∷ 2 ∷ 5 ∷ 2 ∷ 3 ∷ []) state 0

-- whether a step of the encoder lowers the potential by no more than the weight of its two coded bits
abbrev is_paid : ℕ → ℕ → Bool
is_paid state bit = nat_le (potential state)
    (first_coded_bit state bit + second_coded_bit state bit + potential (next_trellis_state state bit))

abbrev are_paid : ℕ → Bool
are_paid state = is_paid state 0 && is_paid state 1

all_paid : list_all are_paid (range_with_len 0 16) ≡ true
all_paid = refl

paid_step : (state bit : ℕ) → state < 16 → bit ≤ 1 →
    potential state ≤ first_coded_bit state bit + second_coded_bit state bit + potential (next_trellis_state state bit)
paid_step state bit h b = go bit b where
  paid : are_paid state ≡ true
  paid = rw (get_or-range_with_len 0 16 state 0 h, zero-add state)
      at (AllPass-from_list_all are_paid (range_with_len 0 16) all_paid state 0 h)

  go : (bit : ℕ) → bit ≤ 1 →
      potential state ≤ first_coded_bit state bit + second_coded_bit state bit + potential (next_trellis_state state bit)
  go zero b = leb-true _ _ (and_parts (is_paid state 0) _ paid).0
  go (suc zero) b = leb-true _ _ (and_parts (is_paid state 0) _ paid).1
  go bit b = absurd (omega arith)

paid_rest : (state : ℕ) → state < 16 → potential state ≤ ones (encoding_from_state state tail_bits)
paid_rest _ h = grind arith

ones_bound : (state : ℕ) (u : List ℕ) → state < 16 → AllBits u →
    potential state ≤ ones (encoding_from_state state (u ++ tail_bits))
ones_bound state [] h bits = paid_rest state h
ones_bound state (x ∷ u) h bits =
    omega (
      arith,
      paid_step state x h (All-head IsBit x u bits),
      ones_bound (next_trellis_state state x) u (omega arith) (All-tail IsBit x u bits),
    )

-- ## AbsoluteValues: The least and the greatest absolute value of a list, found by reading one value at a time.

abbrev pub Between : ℕ → ℕ → ℤ → Type 0
Between min_abs max_abs value = (min_abs ≤ unsigned_abs value) × (unsigned_abs value ≤ max_abs)

between_more : (s : List ℤ) (k min_abs max_abs strength : ℕ) → k < length s → strength ≡ unsigned_abs (get_or s k (pos 0)) →
    All (Between min_abs max_abs) (take k s) → All (Between (min min_abs strength) (max max_abs strength)) (take (k + 1) s)
between_more s k min_abs max_abs strength within e so_far =
    All-more (Between _ (max max_abs strength)) s k (pos 0) within
    (omega arith)
    (omega arith, omega arith)

Contains-strength : (s : List ℤ) (k strength : ℕ) → k < length s → strength ≡ unsigned_abs (get_or s k (pos 0)) →
    Contains (map unsigned_abs s) strength
Contains-strength s k _ within e = (k, rw length-map within, get_or-map _ s k (pos 0) _ within ∙ sym e)

either : (xs : List ℕ) (a b c : ℕ) → (c ≡ a) ⊎ (c ≡ b) → Contains xs a → Contains xs b → Contains xs c
either xs a b c x in_a in_b = grind arith

pub record IsSoFar (s : List ℤ) (k min_abs max_abs : ℕ) : Type 0 where
  pub between : All (Between min_abs max_abs) (take k s)
  pub least : Contains (map unsigned_abs s) min_abs
  pub greatest : Contains (map unsigned_abs s) max_abs

pub IsSoFar-none : (s : List ℤ) (strength : ℕ) → 0 < length s → strength ≡ unsigned_abs (get_or s 0 (pos 0)) →
    IsSoFar s 0 strength strength
IsSoFar-none s strength within e = record {
  between = omega arith;
  least = Contains-strength s 0 strength within e;
  greatest = Contains-strength s 0 strength within e;
}

pub IsSoFar-more : (s : List ℤ) (k min_abs max_abs strength : ℕ) → k < length s → strength ≡ unsigned_abs (get_or s k (pos 0)) →
    IsSoFar s k min_abs max_abs → IsSoFar s (k + 1) (min min_abs strength) (max max_abs strength)
IsSoFar-more s k min_abs max_abs strength within e h =
    let here = Contains-strength s k strength within e in
    record {
      between = between_more s k min_abs max_abs strength within e h.between;
      least = either (map unsigned_abs s) min_abs strength _ (grind arith) h.least here;
      greatest = either (map unsigned_abs s) max_abs strength _ (grind arith) h.greatest here;
    }

pub AreLeastAndGreatestStrength-whole : (s : List ℤ) (k min_abs max_abs : ℕ) → length s ≤ k → IsSoFar s k min_abs max_abs →
    AreLeastAndGreatestStrength s min_abs max_abs
AreLeastAndGreatestStrength-whole s k min_abs max_abs whole h =
    record { between = subst (All (Between min_abs max_abs)) (take_all k s whole) h.between; least = h.least; greatest = h.greatest }

-- ## Counting: The number of indices in a range that pass a test, when the range grows at its end or at its front.

pub count_by_more : (p : ℕ → Bool) (n : ℕ) →
    count_by p (range_with_len 0 (n + 1)) ≡ count_by p (range_with_len 0 n) + cond (p n) 1 0
count_by_more p n =
    ap (count_by p) (range_more 0 n n (omega arith)) ∙ sum_by_push _ (range_with_len 0 n) n

count_by-rest : (p q : ℕ → Bool) (a n : ℕ) → ((k : ℕ) → p (suc k) ≡ q k) →
    count_by p (range_with_len (suc a) n) ≡ count_by q (range_with_len a n)
count_by-rest p q a zero h = refl
count_by-rest p q a (suc n) h =
    let more : suc a + 1 ≡ suc (a + 1) = omega arith in
    sum_by-cons (λ k. cond (p k) 1 0) (suc a) (range_with_len (suc a + 1) n)
    ∙ ap₂ (λ here rest. cond here 1 0 + rest) (h a)
    (ap (λ b. count_by p (range_with_len b n)) more ∙ count_by-rest p q (a + 1) n h)
    ∙ sym (sum_by-cons (λ k. cond (q k) 1 0) a (range_with_len (a + 1) n))

count_by-first : (p q : ℕ → Bool) (n : ℕ) → ((k : ℕ) → p (suc k) ≡ q k) →
    count_by p (range_with_len 0 (suc n)) ≡ cond (p 0) 1 0 + count_by q (range_with_len 0 n)
count_by-first p q n h =
    sum_by-cons (λ k. cond (p k) 1 0) 0 (range_with_len 1 n)
    ∙ ap (λ rest. cond (p 0) 1 0 + rest) (count_by-rest p q 0 n h)

distance-cons : (x y : ℕ) (a b : List ℕ) → distance (x ∷ a) (y ∷ b) ≡ cond (not (x == y)) 1 0 + distance a b
distance-cons x y a b = count_by-first _ (differ_at a b) (length a) (λ k. refl)

-- ## Distances: The free distance is seven. The code is linear, so the distance between two codewords is the weight of the codeword of the
-- XOR of their encoder inputs. The first bit 1 in this XOR gives two coded bits 1 and leads to state 1, whose potential is five. The
-- codeword of an encoder input with a single bit 1 has weight seven.

distance-xor_bits : (a b : List ℕ) → length a ≡ length b → AllBits a → AllBits b → distance a b ≡ ones (xor_bits a b)
distance-xor_bits [] b e bits_a bits_b = refl
distance-xor_bits (x ∷ a) [] e bits_a bits_b = absurd (omega arith)
distance-xor_bits (x ∷ a) (y ∷ b) e bits_a bits_b =
    distance-cons x y a b
    ∙ ap₂ (λ here after. here + after) (one_place x y (All-head IsBit x a bits_a) (All-head IsBit y b bits_b))
    (distance-xor_bits a b (omega arith) (All-tail IsBit x a bits_a) (All-tail IsBit y b bits_b))
  where
    one_place : (x y : ℕ) → x ≤ 1 → y ≤ 1 → cond (not (x == y)) 1 0 ≡ (x + y) % 2
    one_place zero zero hx hy = refl
    one_place zero (suc zero) hx hy = refl
    one_place (suc zero) zero hx hy = refl
    one_place (suc zero) (suc zero) hx hy = refl
    one_place x y hx hy = absurd (omega arith)

-- at the first position where u and v differ, their XOR gives two coded bits 1 and leads to state 1, from which at least five more follow
seven_ones : (u v : List ℕ) → AllBits u → AllBits v → length u ≡ length v → u ≢ v →
    7 ≤ ones (encoding_from_state 0 (xor_bits u v ++ tail_bits))
seven_ones [] [] bits_u bits_v e ne = absurd (ne refl)
seven_ones (zero ∷ u) (zero ∷ v) bits_u bits_v e ne =
    omega (
      arith,
      seven_ones u v (All-tail IsBit 0 u bits_u) (All-tail IsBit 0 v bits_v) (omega arith)
          (λ same. ne (ap (λ w. 0 ∷ w) same)),
    )
seven_ones (suc zero ∷ u) (suc zero ∷ v) bits_u bits_v e ne =
    omega (
      arith,
      seven_ones u v (All-tail IsBit 1 u bits_u) (All-tail IsBit 1 v bits_v) (omega arith)
          (λ same. ne (ap (λ w. 1 ∷ w) same)),
    )
seven_ones (zero ∷ u) (suc zero ∷ v) bits_u bits_v e ne =
    omega (arith, ones_bound 1 (xor_bits u v) (omega arith) (AllBits-xor_bits u v))
seven_ones (suc zero ∷ u) (zero ∷ v) bits_u bits_v e ne =
    omega (arith, ones_bound 1 (xor_bits u v) (omega arith) (AllBits-xor_bits u v))
seven_ones (suc (suc x) ∷ u) (y ∷ v) bits_u bits_v e ne = absurd (omega (arith, All-head IsBit (suc (suc x)) u bits_u))
seven_ones (x ∷ u) (suc (suc y) ∷ v) bits_u bits_v e ne = absurd (omega (arith, All-head IsBit (suc (suc y)) v bits_v))
seven_ones u v bits_u bits_v e ne = absurd (omega arith)

tail_bits-from_zeros : (t : List ℕ) → length t ≡ 4 → All (λ bit. bit ≡ 0) t → t ≡ tail_bits
tail_bits-from_zeros (a ∷ b ∷ c ∷ d ∷ []) e zeros =
    let all : (a ≡ 0) × (b ≡ 0) × (c ≡ 0) × (d ≡ 0) =
    (zeros 0 0 (omega arith), zeros 1 0 (omega arith), zeros 2 0 (omega arith), zeros 3 0 (omega arith)) in
    cc
tail_bits-from_zeros x e zeros = absurd (omega arith)

abbrev front : List ℕ → List ℕ
front u = take (length u - 4) u

front-tail_bits : (u : List ℕ) → IsEncoderInput u → front u ++ tail_bits ≡ u
front-tail_bits u information =
    let count = information.count in
    let four : length (drop (length u - 4) u) ≡ 4 = rw length-drop (omega arith) in
    ap (λ tail. front u ++ tail) (sym (tail_bits-from_zeros (drop (length u - 4) u) four information.tail))
    ∙ take-append-drop (length u - 4) u

distance-coded : (u v : List ℕ) → length u ≡ length v → AllBits u → AllBits v →
    distance (encoding u) (encoding v) ≡ ones (encoding_from_state 0 (xor_bits u v))
distance-coded u v same bits_u bits_v =
    let count : length (encoding u) ≡ length (encoding v) = length-coded u ∙ ap (λ n. 2 * n) same ∙ sym (length-coded v) in
    distance-xor_bits (encoding u) (encoding v) count (AllBits-coded u) (AllBits-coded v)
    ∙ ap ones (sym (coded-xor_bits u v same) ∙ coded_from_start (xor_bits u v) (AllBits-xor_bits u v))

pub at_least_seven : (u v : List ℕ) → IsEncoderInput u → IsEncoderInput v → length u ≡ length v → u ≢ v →
    7 ≤ distance (encoding u) (encoding v)
at_least_seven u v information_u information_v same ne =
    let bits_u = information_u.bits in
    let bits_v = information_v.bits in
    let fronts : length (front u) ≡ length (front v) = simp length-take (omega arith) in
    let split : xor_bits u v ≡ xor_bits (front u) (front v) ++ tail_bits =
    ap₂ xor_bits (sym (front-tail_bits u information_u)) (sym (front-tail_bits v information_v))
    ∙ xor_bits-append (front u) (front v) tail_bits tail_bits fronts in
    let whole : distance (encoding u) (encoding v) ≡ ones (encoding_from_state 0 (xor_bits (front u) (front v) ++ tail_bits)) =
    distance-coded u v same bits_u bits_v ∙ ap (λ w. ones (encoding_from_state 0 w)) split in
    let ne' : front u ≢ front v =
    λ e. ne (sym (front-tail_bits u information_u) ∙ ap (λ w. w ++ tail_bits) e ∙ front-tail_bits v information_v) in
    let bound = seven_ones (front u) (front v) (All-take IsBit (length u - 4) u bits_u)
    (All-take IsBit (length v - 4) v bits_v) fronts ne' in
    omega (arith, whole, bound)

xor_bits-zeros : (n : ℕ) → xor_bits (replicate n 0) (replicate n 0) ≡ replicate n 0
xor_bits-zeros zero = refl
xor_bits-zeros (suc n) = ap (λ w. 0 ∷ w) (xor_bits-zeros n)

ones-zeros : (n : ℕ) → ones (encoding_from_state 0 (replicate n 0)) ≡ 0
ones-zeros zero = refl
ones-zeros (suc n) = let later = ones-zeros n in omega arith

IsEncoderInput-zeros : (n : ℕ) → 5 ≤ n → IsEncoderInput (replicate n 0)
IsEncoderInput-zeros n count = record {
  count = rw length-replicate count;
  bits = All-replicate IsBit n 0 (omega arith);
  tail = All-drop (λ bit. bit ≡ 0) _ (replicate n 0) (All-replicate (λ bit. bit ≡ 0) n 0 (refl {a = 0}));
}

abbrev one_first : ℕ → List ℕ
one_first n = 1 ∷ replicate n 0

IsEncoderInput-one_first : (n : ℕ) → 4 ≤ n → IsEncoderInput (one_first n)
IsEncoderInput-one_first n four =
    let after : length (one_first n) - 4 ≡ suc (n - 4) = omega (arith, length-replicate {A = ℕ} n 0) in
    record {
      count = omega (arith, length-replicate {A = ℕ} n 0);
      bits = All-cons IsBit 1 (replicate n 0) (omega arith) (All-replicate IsBit n 0 (omega arith));
      tail = rw after (All-drop (λ bit. bit ≡ 0) (n - 4) (replicate n 0) (All-replicate (λ bit. bit ≡ 0) n 0 (refl {a = 0})));
    }

distance-one_first : (m : ℕ) → let n = suc (suc (suc (suc m))) in
    distance (encoding (one_first n)) (encoding (replicate (suc n) 0)) ≡ 7
distance-one_first m =
    let n = suc (suc (suc (suc m))) in
    distance-coded (one_first n) (replicate (suc n) 0) refl (IsEncoderInput-one_first n (omega arith)).bits
    (IsEncoderInput-zeros (suc n) (omega arith)).bits
    ∙ ap (λ w. ones (encoding_from_state 0 (1 ∷ 0 ∷ 0 ∷ 0 ∷ 0 ∷ w))) (xor_bits-zeros m)
    ∙ omega (arith, ones-zeros m)

pub reaches_seven : (n : ℕ) → 5 ≤ n → SomeDistanceIsSeven n
reaches_seven (suc (suc (suc (suc (suc m))))) h =
    let n = suc (suc (suc (suc m))) in record {
      u = one_first n;
      v = replicate (suc n) 0;
      u_is_input = IsEncoderInput-one_first n (omega arith);
      v_is_input = IsEncoderInput-zeros (suc n) h;
      first_length = ap suc (length-replicate n 0);
      second_length = length-replicate (suc n) 0;
      distance_is_seven = distance-one_first m;
    }
reaches_seven n h = absurd (omega arith)

-- ## Restoring: Three wrong soft bits cannot outweigh a distance of seven if all soft bits have a similar strength, `min_abs` to `max_abs`.
-- Compared with any other encoder input, the sent one gains at least 2 `min_abs` at each of at least four differences and loses at most 2
-- `max_abs` at each of three.

bit_metric-zero : (p : ℤ) → bit_metric p 0 ≡ p
bit_metric-zero p = grind arith

bit_metric-one : (p : ℤ) → bit_metric p 1 ≡ pos 0 -ℤ p
bit_metric-one p = grind arith

-- the path metric b of the other encoder input is smaller than a by 2 `min_abs` for each difference, minus 2 (`min_abs` + `max_abs`) for
-- each wrong soft bit
abbrev IsOutweighed : ℤ → ℤ → ℕ → ℕ → ℕ → ℕ → Type 0
IsOutweighed a b min_abs max_abs differ wrong = (b +ℤ pos (2 * (min_abs * differ))) ≤ℤ
    (a +ℤ pos (2 * ((min_abs + max_abs) * wrong)))

-- the bound for one soft bit: equal bits add the same; where the bits differ, the bound depends on whether the soft bit is wrong
one_place : (p : ℤ) (x y min_abs max_abs : ℕ) → Between min_abs max_abs p → x ≤ 1 → y ≤ 1 →
    IsOutweighed (bit_metric p x) (bit_metric p y) min_abs max_abs (cond (not (x == y)) 1 0) (cond (int_le (bit_metric p x) (pos 0)) 1 0)
one_place p zero zero min_abs max_abs between hx hy = omega (arith, ints)
one_place p (suc zero) (suc zero) min_abs max_abs between hx hy = omega (arith, ints)
one_place p zero (suc zero) min_abs max_abs between hx hy = grind arith
one_place p (suc zero) zero min_abs max_abs between hx hy = grind arith
one_place p x y min_abs max_abs between hx hy = absurd (omega arith)

pub all_places : (s : List ℤ) (c d : List ℕ) (min_abs max_abs : ℕ) → length s ≡ length c → length s ≡ length d →
    AllBits c → AllBits d → All (Between min_abs max_abs) s →
    IsOutweighed (likelihood s c) (likelihood s d) min_abs max_abs (distance c d) (count_wrong_bits s c)
all_places [] [] [] min_abs max_abs ec ed bits_c bits_d between = omega (arith, ints)
all_places (p ∷ s) (x ∷ c) (y ∷ d) min_abs max_abs ec ed bits_c bits_d between =
    let here = one_place p x y min_abs max_abs (All-head (Between min_abs max_abs) p s between) (All-head IsBit x c bits_c)
    (All-head IsBit y d bits_d) in
    let later = all_places s c d min_abs max_abs (omega arith) (omega arith) (All-tail IsBit x c bits_c) (All-tail IsBit y d bits_d)
    (All-tail (Between min_abs max_abs) p s between) in
    rw (distance-cons x y c d) (omega (arith, ints, here, later))
all_places x y z min_abs max_abs ec ed bits_c bits_d between = absurd (omega arith)

less_likely : (s : List ℤ) (u v : List ℕ) → IsEncoderInput u → IsEncoderInput v → length s ≡ 2 * length u →
    length v ≡ length u → v ≢ u → IsCorrectable s (encoding u) → likelihood s (encoding v) <ℤ likelihood s (encoding u)
less_likely s u v information_u information_v pairs same ne damage =
    let min_abs = damage.min_abs in
    let max_abs = damage.max_abs in
    let count_u : length s ≡ length (encoding u) = pairs ∙ sym (length-coded u) in
    let count_v : length s ≡ length (encoding v) = pairs ∙ ap (λ n. 2 * n) (sym same) ∙ sym (length-coded v) in
    let sums = all_places s (encoding u) (encoding v) min_abs max_abs count_u count_v (AllBits-coded u) (AllBits-coded v)
    damage.strengths.between in
    let seven = at_least_seven u v information_u information_v (sym same) (λ e. ne (sym e)) in
    let gained = mul-le-mul_left min_abs seven in
    let lost = mul-le-mul_left (min_abs + max_abs) damage.at_most_3_wrong_bits in
    omega (arith, ints, sums, gained, lost, damage.similar_strengths)

pub restores : (soft : List ℤ) (u : List ℕ) → IsEncoderInput u → length soft ≡ 2 * length u →
    IsCorrectable soft (encoding u) → IsMostLikely soft u × OthersAreLessLikely soft u
restores soft u information pairs damage = (
  record {
    information = information;
    count = pairs;
    others = (λ v other same ne. inl (less_likely soft u v information other pairs same ne damage));
  },
  (λ v other same ne. less_likely soft u v information other pairs same ne damage),
)

pub restored : (soft : List ℤ) (u v : List ℕ) → IsEncoderInput u → length soft ≡ 2 * length u →
    IsCorrectable soft (encoding u) → IsMostLikely soft v → v ≡ u
restored soft u v information pairs damage most = IsMostLikely-only soft u v (restores soft u information pairs damage).0 most

pub IsCorrectable-equal : (soft : List ℤ) (c : List ℕ) (strength : ℕ) → 0 < length soft → 0 < strength →
    All (λ value. unsigned_abs value ≡ strength) soft → count_wrong_bits soft c ≤ 3 → IsCorrectable soft c
IsCorrectable-equal soft c strength any more equal few =
    let first = Contains-strength soft 0 strength any (sym (equal 0 (pos 0) any)) in
    record {
      at_most_3_wrong_bits = few;
      min_abs = strength;
      max_abs = strength;
      strengths = record {
        between = All-weaker (λ value. unsigned_abs value ≡ strength) (Between strength strength)
            (λ value e. (omega arith, omega arith)) soft equal;
        least = first;
        greatest = first;
      };
      similar_strengths = omega arith;
    }

-- ## Checks: The definitions, computed for worked examples.

distance-two : distance (0 ∷ 1 ∷ 1 ∷ []) (1 ∷ 1 ∷ 0 ∷ []) ≡ 2
distance-two = refl

count_wrong_bits-two : count_wrong_bits (pos 0 ∷ pos 3 ∷ negsuc 2 ∷ []) (0 ∷ 0 ∷ 0 ∷ []) ≡ 2
count_wrong_bits-two = refl

distance-seven : distance (encoding (1 ∷ replicate 17 0)) (encoding (replicate 18 0)) ≡ 7
distance-seven = refl

are_within : list_all (λ value. nat_le (unsigned_abs value) 5) (negsuc 4 ∷ pos 4 ∷ pos 0 ∷ []) ≡ true
are_within = refl

strengths-zero_five : AreLeastAndGreatestStrength (negsuc 4 ∷ pos 4 ∷ pos 0 ∷ []) 0 5
strengths-zero_five = grind arith
