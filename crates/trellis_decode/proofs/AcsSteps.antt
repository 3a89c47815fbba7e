-- Viterbi steps in SIMD lanes: branch metrics, decisions and survivor maps.
use Rattle.{
  conv_code.specs.Likelihood.bit_metric,
  std.{
    proofs.{
      Common.{Bool, FitsSigned, List, [], ap, ap₂, arith, drop, false, get_or, if◌then◌else◌, inl, inr, int_lt, length, lit≤},
      Common.{map, negsuc, pos, refl, replicate, subst, suc, sym, take, true, w16, w8, zero, ℕ, ℤ, ◌%◌, ◌*◌, ◌++◌},
      Common.{◌+ℤ◌, ◌+◌, ◌-ℤ◌, ◌-◌, ◌<◌, ◌∙◌, ◌/◌, ◌∷◌, ◌≡◌, ◌≤ℤ◌, ◌≤◌},
      lemmas.{Int.{ints, of_z-to_z}, List.{Elements.{All-drop, All-head, All-tail, All-take}, drop-drop, drop-take, take-append-drop}},
      lemmas.List.take-take,
    },
    specs.{Int.{cast_signed, cast_unsigned}, List.All},
  },
  lanes.{
    specs.Lanes.{AreSigned, DifferencesFit, lane, lane_of_two, greater},
    proofs.Lanes.{AreSigned-between, between_of_two, by_two, each, if_map, lane_of_two-first, lane_of_two-second, lanewise_of_two},
    proofs.Lanes.{same_below, shuffled, taken, wrapped_difference, wrapped_sum},
  },
  trellis_decode.{
    proofs.HardLanes.IsHardStep,
    specs.AcsLanes.{AbsFit16Bits, AreBranchMetrics, AreDecisionLanes, DifferByAtMost4096, HasBranchMetrics, three_bits_reversed},
    specs.AcsLanes.{interleaved_lanes, lane_decisions, lane_decision, path_metric_of_lane, lane_of_state, in_state_order},
    specs.{AcsLanes.{lanes_in_state_order, metrics_of_lanes}, Candidates.AreAcsCandidates, Hard.{AreInt8, HasHardBranchMetrics}},
    specs.Hard.{HaveHeadroom8, IsHardBit, hard_lane_metrics, lane_after_bit_0, lane_after_bit_1, metric_of_hard_lane, sign_bit_of},
    specs.{SurvivorPaths.AreMetricsWithin, Trellis.{IsDecision, branch_metric, candidate_metric, next_trellis_state, first_coded_bit}},
    specs.{Trellis.second_coded_bit, declared.acs_step.Candidates.Candidates, SignedOctets.{AreSignedOctets, IsSignedOctet}},
  },
}
use lib.Lanes.{Each1}

-- ## BranchMetricLanes: The branch metric of bit 1 is the negative of that of bit 0. The branch metric of bit 0 in state s + 8 is the
-- negative of that in state s.

pub bit_metric-zero : (p : ℤ) → bit_metric p 0 ≡ p
bit_metric-zero p = omega (arith, ints)

pub bit_metric-one : (p : ℤ) → bit_metric p 1 ≡ pos 0 -ℤ p
bit_metric-one p = omega (arith, ints)

bit_metric-opposite : (p : ℤ) (x y : ℕ) → x + y ≡ 1 → bit_metric p x ≡ pos 0 -ℤ bit_metric p y
bit_metric-opposite p zero (suc zero) e = omega (arith, ints)
bit_metric-opposite p (suc zero) zero e = omega (arith, ints)
bit_metric-opposite p x y e = absurd (omega arith)

branch_metric-opposite : (pair : List ℤ) (s t x y : ℕ) → length pair ≡ 2 → first_coded_bit s x + first_coded_bit t y ≡ 1 →
    second_coded_bit s x + second_coded_bit t y ≡ 1 → branch_metric s x pair ≡ pos 0 -ℤ branch_metric t y pair
unfolding branch_metric
branch_metric-opposite (p ∷ q ∷ []) s t x y two first second =
    omega (arith, ints, bit_metric-opposite p _ _ first, bit_metric-opposite q _ _ second)
branch_metric-opposite pair s t x y two first second = absurd (omega arith)

pub branch_metric-one : (pair : List ℤ) → length pair ≡ 2 → (s : ℕ)
    → branch_metric s 1 pair ≡ pos 0 -ℤ branch_metric s 0 pair
branch_metric-one pair two s = branch_metric-opposite pair s s 1 0 two (omega arith) (omega arith)

pub branch_metric-high : (pair : List ℤ) → length pair ≡ 2 → (s : ℕ) → s < 8 →
    branch_metric (8 + s) 0 pair ≡ pos 0 -ℤ branch_metric s 0 pair
branch_metric-high pair two s lt = branch_metric-opposite pair (8 + s) s 0 0 two (omega arith) (omega arith)

-- ## FourPairs: The branch metrics of four positions, computed from eight soft bits in one vector.

-- ---- lemmas about soft bits widened to 16-bit lanes

pub widen_to_i16-fits : (soft : List ℤ) → AreSignedOctets soft →
    Each1 (λ a. FitsSigned w16 (cast_signed w8 a)) (map (cast_unsigned w8) soft)
widen_to_i16-fits [] octets = tt
widen_to_i16-fits (x ∷ soft) octets =
    let head = All-head IsSignedOctet x soft octets in
    (omega (arith, ints), widen_to_i16-fits soft (All-tail IsSignedOctet x soft octets))

pub widen_to_i16-same : (soft : List ℤ) → AreSignedOctets soft →
    map (cast_signed w16) (map (λ a. cast_unsigned w16 (cast_signed w8 a)) (map (cast_unsigned w8) soft)) ≡ soft
widen_to_i16-same [] octets = refl
widen_to_i16-same (x ∷ soft) octets =
    let head = All-head IsSignedOctet x soft octets in
    ap₂ (λ y ys. y ∷ ys) (omega (arith, ints)) (widen_to_i16-same _ (All-tail IsSignedOctet x _ octets))

-- ---- lemmas about the branch metrics of one position

-- the branch metrics of bit 0 in states 0 to 7, in bit-reversed order, from two soft bits as unsigned lanes
abbrev metrics_of_bits : ℕ → ℕ → List ℤ
metrics_of_bits x y =
    let sum : ℕ = (x + y) % 65536 in
    let difference : ℕ = (x + (65536 - y)) % 65536 in
    let a : ℤ = cast_signed w16 sum in
    let b : ℤ = cast_signed w16 difference in
    let c : ℤ = cast_signed w16 ((0 + (65536 - sum)) % 65536) in
    let d : ℤ = cast_signed w16 ((0 + (65536 - difference)) % 65536) in
    a ∷ c ∷ a ∷ c ∷ b ∷ d ∷ b ∷ d ∷ []

negated-cast_signed : (x : ℕ) → x < 65536 → negsuc 32766 ≤ℤ cast_signed w16 x →
    cast_signed w16 ((0 + (65536 - x)) % 65536) ≡ pos 0 -ℤ cast_signed w16 x
negated-cast_signed x small low =
    cc (
      of_z-to_z w16 x small,
      wrapped_difference w16 (pos 0) (cast_signed w16 x) (omega (arith, ints)) (omega (arith, ints)) (omega
          (arith, ints)),
    )

abbrev metrics_of_pair : ℤ → ℤ → List ℤ
metrics_of_pair p q = metrics_of_bits (cast_unsigned w16 p) (cast_unsigned w16 q)

metrics_of_pair-are : (p q : ℤ) → IsSignedOctet p → IsSignedOctet q → HasBranchMetrics (metrics_of_pair p q) (p ∷ q ∷ [])
unfolding branch_metric
metrics_of_pair-are p q hp hq =
    let a = wrapped_sum w16 p q (omega (arith, ints)) (omega (arith, ints)) (omega (arith, ints)) in
    let b = wrapped_difference w16 p q (omega (arith, ints)) (omega (arith, ints)) (omega (arith, ints)) in
    let c = negated-cast_signed ((cast_unsigned w16 p + cast_unsigned w16 q) % 65536) (omega arith) (omega (arith, ints)) in
    let d = negated-cast_signed ((cast_unsigned w16 p + (65536 - cast_unsigned w16 q)) % 65536) (omega arith) (omega (arith, ints)) in
    record {
      size = refl;
      count = refl;
      each_lane = each (λ k. lane (metrics_of_pair p q) k ≡ branch_metric (three_bits_reversed k) 0 (p ∷ q ∷ [])) 8
          (omega (arith, ints));
    }

-- ---- lemmas about the branch metrics of four positions

-- the branch metrics of bit 0 in states 0 to 7 for the pair of soft bits at index i
abbrev pub branch_metrics_at : List ℤ → ℕ → List ℤ
branch_metrics_at soft i =
    let bits : ℕ → ℕ = λ k. get_or (map (cast_unsigned w16) soft ++ map (cast_unsigned w16) soft) k 0 in
    metrics_of_bits (bits i) (bits (i + 1))

pub four_pairs : (soft : List ℤ) → AreSignedOctets soft → length soft ≡ 8 → (k : ℕ) → k < 4 →
    HasBranchMetrics (branch_metrics_at soft (2 * k)) (take 2 (drop (2 * k) soft))
four_pairs (p ∷ q ∷ r ∷ s ∷ t ∷ u ∷ v ∷ w ∷ []) octets count =
    let soft : List ℤ = p ∷ q ∷ r ∷ s ∷ t ∷ u ∷ v ∷ w ∷ [] in
    let octet = λ (k : ℕ) (lt : k < 8). octets k (pos 0) lt in
    each (λ k. HasBranchMetrics (branch_metrics_at soft (2 * k)) (take 2 (drop (2 * k) soft))) 4 (
      (
        (
          (tt, metrics_of_pair-are p q (octet 0 (lit≤ tt)) (octet 1 (lit≤ tt))),
          metrics_of_pair-are r s (octet 2 (lit≤ tt)) (octet 3 (lit≤ tt)),
        ),
        metrics_of_pair-are t u (octet 4 (lit≤ tt)) (octet 5 (lit≤ tt)),
      ),
      metrics_of_pair-are v w (octet 6 (lit≤ tt)) (octet 7 (lit≤ tt)),
    )
four_pairs soft octets count = absurd (omega arith)

-- ---- lemmas about the pairs of soft bits in a list

abbrev pub pair_at : List ℤ → ℕ → List ℤ
pair_at soft i = take 2 (drop i soft)

pub AreSignedOctets-pair : (soft : List ℤ) (i : ℕ) → AreSignedOctets soft → AreSignedOctets (pair_at soft i)
AreSignedOctets-pair soft i octets = All-take IsSignedOctet 2 _ (All-drop IsSignedOctet i _ octets)

pub pair_and_after : (soft : List ℤ) (i j : ℕ) → i + 2 ≡ j → pair_at soft i ++ drop j soft ≡ drop i soft
pair_and_after soft i j e =
    rw (← e, ← drop-drop 2 i soft) (take-append-drop 2 (drop i soft))

pub pair_at-take_drop : (soft : List ℤ) (from n i j : ℕ) → i + 2 ≤ n → from + i ≡ j →
    pair_at (take n (drop from soft)) i ≡ pair_at soft j
pair_at-take_drop soft from n i j inside e =
    ap (take 2) (ap (λ n. drop i (take n (drop from soft))) (sym (omega arith)) ∙ drop-take i _ _)
    ∙ take-take 2 (n - i) _ (omega arith)
    ∙ ap (take 2) (cc (drop-drop i _ _, e))

-- ## Steps: One Viterbi step (add, compare, select) in lanes of any width. Each state has its lane of a survivor map.

pub lane_of_state-inside : (s : ℕ) → s < 16 → lane_of_state s < 16
lane_of_state-inside s lt = omega arith

pub lane_of_state-twice : (s : ℕ) → s < 16 → lane_of_state (lane_of_state s) ≡ s
lane_of_state-twice = same_below _ _ refl

pub in_state_order-at : {A : Type 0} (value : ℕ → A) (d : A) (s : ℕ) → s < 16 →
    get_or (in_state_order value) s d ≡ value (lane_of_state s)
in_state_order-at value d = same_below _ _ refl

-- the lanes hold the candidate metrics of bit 0 and of bit 1, lowered and scaled, and the greater of both
module _ (metric : ℤ → ℤ) (same_order : (x y : ℤ) →
    int_lt (metric x) (metric y) ≡ int_lt x y) (after pair : List ℤ) (zeros ones values : ℕ → ℤ)
    (zero_is : (s : ℕ) → s < 16 → metric (zeros (lane_of_state s)) ≡ candidate_metric after pair s 0)
    (one_is : (s : ℕ) → s < 16 → metric (ones (lane_of_state s)) ≡ candidate_metric after pair s 1)
    (best : (k : ℕ) → k < 16 → values k ≡ greater (zeros k) (ones k)) where
  pub IsDecision-lanes : (s : ℕ) → s < 16 → IsDecision after pair s (metric (values (lane_of_state s)))
      (if int_lt (zeros (lane_of_state s)) (ones (lane_of_state s)) then 1 else 0)
  IsDecision-lanes s lt = rw (best _ (lane_of_state-inside s lt)) (by _ (same_order (zeros (lane_of_state s)) (ones (lane_of_state s))))
    where
      by : (t : Bool) → int_lt (metric (zeros (lane_of_state s))) (metric (ones (lane_of_state s))) ≡ t →
          IsDecision after pair s (metric (if t then ones (lane_of_state s) else zeros (lane_of_state s))) (if t then 1 else 0)
      by true e = inr (refl, one_is s lt, omega (arith, ints, zero_is s lt, one_is s lt))
      by false e = inl (refl, zero_is s lt, omega (arith, ints, zero_is s lt, one_is s lt))

-- ## AcsSteps: The step in two vectors of eight 16-bit lanes. The states are in bit-reversed order, so that the next states after bit 0 are
-- one whole vector, and those after bit 1 the other.

path_metric_of_lane-order : (x y : ℤ) → int_lt (path_metric_of_lane x) (path_metric_of_lane y) ≡ int_lt x y
path_metric_of_lane-order x y = grind (arith, ints)

pub even_metric : (even odd : List ℤ) (k : ℕ) → k < 8 →
    lane (metrics_of_lanes even odd) (next_trellis_state (three_bits_reversed k) 0) ≡
    path_metric_of_lane (lane even k)
even_metric _ odd = same_below _ _ refl

pub odd_metric : (even odd : List ℤ) (k : ℕ) → k < 8 →
    lane (metrics_of_lanes even odd) (next_trellis_state (three_bits_reversed k) 1) ≡
    path_metric_of_lane (lane odd k)
odd_metric _ odd = same_below _ _ refl

-- the path metrics that result from a step, from the lanes of states 0 to 7 (low) and 8 to 15 (high)
pub step_metric : (low high : List ℤ) (s : ℕ) → s < 16 →
    lane (metrics_of_lanes (interleaved_lanes low high 0 1 2 3) (interleaved_lanes low high 4 5 6 7)) s
    ≡ path_metric_of_lane (lane_of_two 8 low high (lane_of_state s))
step_metric low high = same_below _ _ refl

-- a property of the lane of each state, from the lanes of states 0 to 7 and of states 8 to 15
each_state : (P : ℕ → ℕ → Type 0) → ((k : ℕ) → k < 8 → P (three_bits_reversed k) k) →
    ((k : ℕ) → k < 8 → P (8 + three_bits_reversed k) (8 + k)) → (s : ℕ) → s < 16 → P s (lane_of_state s)
each_state P low high s lt =
    subst (λ s'. P s' (lane_of_state s)) (lane_of_state-twice s lt)
    (by_two (λ k. P (lane_of_state k) k) 8 8
    (λ k lt. subst (λ s. P s k) (sym (same_below lane_of_state three_bits_reversed refl k lt)) (low k lt))
    (λ k lt. subst (λ s. P s (8 + k)) (sym (same_below (λ k. lane_of_state (8 + k)) (λ k. 8 + three_bits_reversed k) refl k lt))
    (high k lt))
    (lane_of_state s) (lane_of_state-inside s lt))

-- in each lane, the sums and differences of path metrics and branch metrics are the candidate metrics of two states
module _ (even odd branch_metrics pair : List ℤ) (has : HasBranchMetrics branch_metrics pair) (low high : List ℤ) where
  abbrev candidate_at : ℕ → ℕ → ℤ
  candidate_at = candidate_metric (metrics_of_lanes even odd) pair

  pub candidates_of_bit_0 : ((k : ℕ) → k < 8 → lane low k ≡ lane even k +ℤ lane branch_metrics k) →
      ((k : ℕ) → k < 8 → lane high k ≡ lane even k -ℤ lane branch_metrics k) →
      (s : ℕ) → s < 16 → path_metric_of_lane (lane_of_two 8 low high (lane_of_state s)) ≡ candidate_at s 0
  unfolding candidate_metric
  candidates_of_bit_0 sum difference = each_state (λ s k. path_metric_of_lane (lane_of_two 8 low high k) ≡ candidate_at s 0)
      (λ k lt. omega (
        arith,
        ints,
        lane_of_two-first 8 low high k lt,
        sum k lt,
        has.each_lane k lt,
        even_metric even odd k lt,
      ))
      (λ k lt. omega (
        arith,
        ints,
        lane_of_two-second 8 low high k,
        difference k lt,
        has.each_lane k lt,
        same_below (λ k. lane (metrics_of_lanes even odd) (next_trellis_state (8 + three_bits_reversed k) 0))
            (λ k. path_metric_of_lane (lane even k)) refl k lt,
        branch_metric-high pair has.count (three_bits_reversed k) (omega arith),
      ))

  pub candidates_of_bit_1 : ((k : ℕ) → k < 8 → lane low k ≡ lane odd k -ℤ lane branch_metrics k) →
      ((k : ℕ) → k < 8 → lane high k ≡ lane odd k +ℤ lane branch_metrics k) →
      (s : ℕ) → s < 16 → path_metric_of_lane (lane_of_two 8 low high (lane_of_state s)) ≡ candidate_at s 1
  unfolding candidate_metric
  candidates_of_bit_1 difference sum = each_state (λ s k. path_metric_of_lane (lane_of_two 8 low high k) ≡ candidate_at s 1)
      (λ k lt. omega (
        arith,
        ints,
        lane_of_two-first 8 low high k lt,
        difference k lt,
        has.each_lane k lt,
        odd_metric even odd k lt,
        branch_metric-one pair has.count (three_bits_reversed k),
      ))
      (λ k lt. omega (
        arith,
        ints,
        lane_of_two-second 8 low high k,
        sum k lt,
        has.each_lane k lt,
        same_below (λ k. lane (metrics_of_lanes even odd) (next_trellis_state (8 + three_bits_reversed k) 1))
            (λ k. path_metric_of_lane (lane odd k)) refl k lt,
        branch_metric-one pair has.count (8 + three_bits_reversed k),
        branch_metric-high pair has.count (three_bits_reversed k) (omega arith),
      ))

module _ (even odd branch_metrics pair : List ℤ) (has : HasBranchMetrics branch_metrics pair) (candidates : Candidates)
    (are : AreAcsCandidates even odd branch_metrics candidates) where
  abbrev pub zeros : ℕ → ℤ
  zeros = lane_of_two 8 candidates.low_states_bit_0.lanes candidates.high_states_bit_0.lanes

  abbrev pub ones : ℕ → ℤ
  ones = lane_of_two 8 candidates.low_states_bit_1.lanes candidates.high_states_bit_1.lanes

  pub zeros-are : (s : ℕ) → s < 16 →
      path_metric_of_lane (zeros (lane_of_state s)) ≡ candidate_metric (metrics_of_lanes even odd) pair s 0
  zeros-are = candidates_of_bit_0 even odd branch_metrics pair has _ _ are.low_states_bit_0.each are.high_states_bit_0.each

  pub ones-are : (s : ℕ) → s < 16 →
      path_metric_of_lane (ones (lane_of_state s)) ≡ candidate_metric (metrics_of_lanes even odd) pair s 1
  ones-are = candidates_of_bit_1 even odd branch_metrics pair has _ _ are.low_states_bit_1.each are.high_states_bit_1.each

  -- `low` and `high` are the greater candidates, and `low_decisions` and `high_decisions` tell which they are
  pub IsDecision-candidates : (low high low_decisions high_decisions : List ℤ) →
      ((k : ℕ) → k < 16 → lane_of_two 8 low high k ≡ greater (zeros k) (ones k)) →
      ((k : ℕ) → k < 16 → lane_of_two 8 low_decisions high_decisions k
      ≡ (if int_lt (zeros k) (ones k) then negsuc 0 else pos 0)) →
      (s : ℕ) → s < 16 → IsDecision (metrics_of_lanes even odd) pair s
      (path_metric_of_lane (lane_of_two 8 low high (lane_of_state s))) (get_or (lane_decisions low_decisions high_decisions) s 0)
  IsDecision-candidates low high low_decisions high_decisions best decided s lt =
      rw (
        in_state_order-at (λ k. lane_decision (lane_of_two 8 low_decisions high_decisions k)) 0 s lt,
        decided _ (lane_of_state-inside s lt),
        if_map lane_decision (int_lt (zeros (lane_of_state s)) (ones (lane_of_state s))) {x = 1} {y = 0} refl refl,
      )
      (IsDecision-lanes path_metric_of_lane path_metric_of_lane-order (metrics_of_lanes even odd) pair zeros ones (lane_of_two 8 low high)
      zeros-are ones-are best s lt)

-- a path metric is no less than the smaller path metric of the two next states, since one of the two branch metrics is not negative
pub IsDecision-lower_bound : (after pair : List ℤ) (s bit : ℕ) (value floor : ℤ) → length pair ≡ 2 → s < 16 →
    floor ≤ℤ lane after (next_trellis_state s 0) → floor ≤ℤ lane after (next_trellis_state s 1)
    → IsDecision after pair s value bit → floor ≤ℤ value
unfolding candidate_metric
IsDecision-lower_bound after pair s bit value floor count lt low0 low1 h = omega (arith, ints, branch_metric-one _ count s)

-- ## Leads: The difference between the candidate metrics of bit 0 and bit 1: its sign is the decision, and its absolute value the cost of
-- the other bit.

pub IsDecision-bit : (after pair : List ℤ) (s bit bit' : ℕ) (value lead : ℤ) → IsDecision after pair s value bit →
    lead ≡ candidate_metric after pair s 0 -ℤ candidate_metric after pair s 1 → bit' ≡ (if int_lt lead (pos 0) then 1 else 0) →
    IsDecision after pair s value bit'
IsDecision-bit after pair s bit bit' value lead h is b = grind arith

pub IsDecision-loss : (after pair : List ℤ) (s bit : ℕ) (value lead loss : ℤ) → IsDecision after pair s value bit →
    lead ≡ candidate_metric after pair s 0 -ℤ candidate_metric after pair s 1 →
    loss ≡ (if int_lt lead (pos 0 -ℤ lead) then pos 0 -ℤ lead else lead) →
    loss ≡ candidate_metric after pair s bit -ℤ candidate_metric after pair s (1 - bit)
IsDecision-loss after pair s bit value lead loss h is l = grind arith

-- ---- lemmas about the differences in all sixteen states

pub record AreLeads (even odd branch_metrics leads : List ℤ) : Type 0 where
  pub subtract_lanes : AbsFit16Bits leads
  pub each : (pair : List ℤ) → HasBranchMetrics branch_metrics pair → (s : ℕ) → s < 16 →
      lane leads s ≡ candidate_metric (metrics_of_lanes even odd) pair s 0 -ℤ candidate_metric (metrics_of_lanes even odd) pair s 1

module _ (even odd branch_metrics : List ℤ) (candidates : Candidates) (is : AreAcsCandidates even odd branch_metrics candidates)
    (close : DifferByAtMost4096 even odd) (bounded : AreBranchMetrics branch_metrics) where
  abbrev Fits : ℤ → Type 0
  Fits x = (negsuc 32766 ≤ℤ x) × (x ≤ℤ pos 32767)

  low_fits : (k : ℕ) → k < 8 → Fits (lane candidates.low_states_bit_0.lanes k -ℤ lane candidates.low_states_bit_1.lanes k)
  low_fits k lt = omega (
    arith,
    ints,
    is.low_states_bit_0.each k lt,
    is.low_states_bit_1.each k lt,
    close.lower_bound k,
    close.upper_bound k,
    bounded.lower_bound k,
    bounded.upper_bound k,
  )

  high_fits : (k : ℕ) → k < 8 → Fits (lane candidates.high_states_bit_0.lanes k -ℤ lane candidates.high_states_bit_1.lanes k)
  high_fits k lt = omega (
    arith,
    ints,
    is.high_states_bit_0.each k lt,
    is.high_states_bit_1.each k lt,
    close.lower_bound k,
    close.upper_bound k,
    bounded.lower_bound k,
    bounded.upper_bound k,
  )

  pub low_differences_fit : DifferencesFit w16 8 candidates.low_states_bit_0.lanes candidates.low_states_bit_1.lanes
  low_differences_fit k lt = omega (arith, ints, low_fits k lt)

  pub high_differences_fit : DifferencesFit w16 8 candidates.high_states_bit_0.lanes candidates.high_states_bit_1.lanes
  high_differences_fit k lt = omega (arith, ints, high_fits k lt)

  module _ (low high leads : List ℤ)
      (low_lane : (k : ℕ) → k < 8 → lane low k ≡ lane candidates.low_states_bit_0.lanes k -ℤ lane
      candidates.low_states_bit_1.lanes k)
      (high_lane : (k : ℕ) → k < 8 → lane high k ≡ lane candidates.high_states_bit_0.lanes k -ℤ lane
      candidates.high_states_bit_1.lanes k)
      (ordered : leads ≡ lanes_in_state_order low high) where
    fit : (k : ℕ) → k < 16 → Fits (lane_of_two 8 low high k)
    fit = by_two (λ k. Fits (lane_of_two 8 low high k)) 8 8
        (λ k lt. rw (lane_of_two-first 8 low high k lt, low_lane k lt) (low_fits k lt))
        (λ k lt. rw (lane_of_two-second 8 low high k, high_lane k lt) (high_fits k lt))

    lead_at : (s : ℕ) → s < 16 → lane (lanes_in_state_order low high) s ≡ lane_of_two 8 low high (lane_of_state s)
    lead_at = in_state_order-at (lane_of_two 8 low high) (pos 0)

    pub leads-subtract_lanes : AreLeads even odd branch_metrics leads
    leads-subtract_lanes =
        rw ordered (record {
          subtract_lanes = record {
            count = refl;
            lower_bound = λ s lt. rw (lead_at s lt) (fit _ (lane_of_state-inside s lt)).0;
            upper_bound = λ s lt. rw (lead_at s lt) (fit _ (lane_of_state-inside s lt)).1;
          };
          each = λ pair has s lt. omega (
            arith,
            ints,
            lead_at s lt,
            lanewise_of_two ◌-ℤ◌ 8 8 _ _ low _ _ high low_lane high_lane (lane_of_state s) (lane_of_state-inside s lt),
            zeros-are even odd branch_metrics pair has candidates is s lt,
            ones-are even odd branch_metrics pair has candidates is s lt,
          );
        })

-- ## Followed: The decisions of the sixteen states, in one vector of lanes, select the entries of the extended survivor map.

abbrev pub none : List ℤ
none = replicate 16 (pos 0)

AreDecisionLanes-signed : (a : List ℤ) → AreDecisionLanes a → AreSigned w8 8 a
AreDecisionLanes-signed a = AreSigned-between w8 (omega (arith, ints)) (omega (arith, ints))

module _ (low high : List ℤ) (hl : AreDecisionLanes low) (hh : AreDecisionLanes high) where
  abbrev indexes : List ℕ
  indexes = 0 ∷ 1 ∷ 2 ∷ 3 ∷ 4 ∷ 5 ∷ 6 ∷ 7 ∷ 8 ∷ 9 ∷ 10 ∷ 11 ∷ 12 ∷ 13 ∷ 14 ∷ 15 ∷ []

  abbrev pub joined : List ℤ
  joined = map (taken w8 low high) indexes

  joined_at : (k : ℕ) → k < 16 → lane joined k ≡ lane_of_two 8 low high k
  joined_at k lt =
      ap (λ l. lane l k) (shuffled w8 refl 8 8 low high (AreDecisionLanes-signed low hl) (AreDecisionLanes-signed high hh) indexes)
      ∙ same_below (lane (map (lane_of_two 8 low high) indexes)) (lane_of_two 8 low high) refl k lt

  decision_at : (k : ℕ) → k < 16 → (negsuc 0 ≤ℤ lane_of_two 8 low high k) × (lane_of_two 8 low high k ≤ℤ pos 0)
  decision_at = between_of_two hl hh

  pub AreInt8-joined : AreInt8 joined
  AreInt8-joined = record { count = refl; fits = λ k lt. rw (joined_at k lt) (omega (arith, ints, decision_at k lt)) }

  pub joined-decision : (s : ℕ) → s < 16 → (if int_lt (lane joined (lane_of_state s)) (lane none (lane_of_state s)) then 1 else 0)
      ≡ get_or (lane_decisions low high) s 0
  joined-decision s lt =
      rw (
        joined_at _ (lane_of_state-inside s lt),
        same_below (lane none) (λ k. pos 0) refl _ (lane_of_state-inside s lt),
        in_state_order-at (λ k. lane_decision (lane_of_two 8 low high k)) 0 s lt,
      ) (sign _ (decision_at _ (lane_of_state-inside s lt)))
    where
      sign : (x : ℤ) → (negsuc 0 ≤ℤ x) × (x ≤ℤ pos 0) → (if int_lt x (pos 0) then 1 else 0) ≡ lane_decision x
      sign x within = grind (arith, ints)

-- ## HardSteps: One Viterbi step (add, compare, select) for hard bits, in sixteen 8-bit lanes. The branch metrics are a table indexed by
-- the signs of the two soft bits, which is checked by computation.

-- ---- lemmas about states and their lanes

next_state_0-lane : (s : ℕ) → s < 16 → lane_after_bit_0 (lane_of_state s) ≡ lane_of_state (next_trellis_state s 0)
next_state_0-lane = same_below _ _ refl

next_state_1-lane : (s : ℕ) → s < 16 → lane_after_bit_1 (lane_of_state s) ≡ lane_of_state (next_trellis_state s 1)
next_state_1-lane = same_below _ _ refl

metric_of_hard_lane-order : (x y : ℤ) → int_lt (metric_of_hard_lane x) (metric_of_hard_lane y) ≡ int_lt x y
metric_of_hard_lane-order x y = grind (arith, ints)

pub hard_metric-at : (lanes : List ℤ) (s : ℕ) → s < 16 →
    lane (hard_lane_metrics lanes) s ≡ metric_of_hard_lane (lane lanes (lane_of_state s))
hard_metric-at lanes = in_state_order-at (λ k. metric_of_hard_lane (lane lanes k)) (pos 0)

-- ---- lemmas about the candidate metrics of bit 0 and of bit 1

module _ (after branch_metrics pair : List ℤ) (has : HasHardBranchMetrics branch_metrics pair) where
  pub bit_0_candidate-metric : (candidates : List ℤ) → ((k : ℕ) → k < 16 →
      lane candidates k ≡ lane after (lane_after_bit_0 k) +ℤ lane branch_metrics k) →
      (s : ℕ) → s < 16 → metric_of_hard_lane (lane candidates (lane_of_state s)) ≡
      candidate_metric (hard_lane_metrics after) pair s 0
  unfolding candidate_metric
  bit_0_candidate-metric candidates are s lt =
      let is = are _ (lane_of_state-inside s lt)
      ∙ ap (λ k. lane after k +ℤ lane branch_metrics (lane_of_state s)) (next_state_0-lane s lt) in
      omega (arith, ints, hard_metric-at after (next_trellis_state s 0) (omega arith), has.at_state s lt)

  one_candidate : (candidates : List ℤ) → ((k : ℕ) → k < 16 →
      lane candidates k ≡ lane after (lane_after_bit_1 k) -ℤ lane branch_metrics k) →
      (s : ℕ) → s < 16 → metric_of_hard_lane (lane candidates (lane_of_state s)) ≡
      candidate_metric (hard_lane_metrics after) pair s 1
  unfolding candidate_metric
  one_candidate candidates are s lt =
      let is = are _ (lane_of_state-inside s lt)
      ∙ ap (λ k. lane after k -ℤ lane branch_metrics (lane_of_state s)) (next_state_1-lane s lt) in
      omega (
        arith,
        ints,
        hard_metric-at after (next_trellis_state s 1) (omega arith),
        has.at_state s lt,
        branch_metric-one pair
            has.count s,
      )

  pub IsDecision-hard : (zeros ones values : List ℤ) → IsHardStep after branch_metrics zeros ones values → (s : ℕ) → s < 16 →
      IsDecision (hard_lane_metrics after) pair s (lane (hard_lane_metrics values) s)
      (if int_lt (lane zeros (lane_of_state s)) (lane ones (lane_of_state s)) then 1 else 0)
  IsDecision-hard zeros ones values step s lt =
      rw (hard_metric-at values s lt) (IsDecision-lanes metric_of_hard_lane metric_of_hard_lane-order (hard_lane_metrics after) pair
      (lane zeros) (lane ones) (lane values) (bit_0_candidate-metric zeros step.zero) (one_candidate ones step.one) step.best s lt)

pub next_lane-state : (s : ℕ) → s < 16 → (t : Bool) →
    (if t then lane_after_bit_1 (lane_of_state s) else lane_after_bit_0 (lane_of_state s))
    ≡ lane_of_state (next_trellis_state s (if t then 1 else 0))
next_lane-state s lt true = next_state_1-lane s lt
next_lane-state s lt false = next_state_0-lane s lt

-- ---- lemmas about bounds of the path metrics

pub HaveHeadroom8-within : (lanes : List ℤ) (most : ℕ) → most ≤ 60000 → length lanes ≡ 16 →
    AreMetricsWithin most (hard_lane_metrics lanes) → HaveHeadroom8 lanes
HaveHeadroom8-within lanes most few count within = record {
  count = count;
  lower_bound = λ k lt. omega (arith, ints, metric_at k lt, within.lower_bound _ (lane_of_state-inside k lt));
  upper_bound = λ k lt. omega (arith, ints, metric_at k lt, within.upper_bound _ (lane_of_state-inside k lt));
} where
  metric_at : (k : ℕ) → k < 16 → lane (hard_lane_metrics lanes) (lane_of_state k) ≡ metric_of_hard_lane (lane lanes k)
  metric_at = same_below _ _ refl

pub hard_octets : (soft : List ℤ) → All IsHardBit soft → AreSignedOctets soft
hard_octets soft hard k d lt = let is = hard k d lt in grind arith

-- the lanes at the end of the trellis, which represent path metrics of 0
abbrev pub start : List ℤ
start = replicate 16 (negsuc 119)

pub start-metric : (s : ℕ) → s < 16 → lane (hard_lane_metrics start) s ≡ pos 0
start-metric = same_below _ _ refl

pub pair_lanes : (soft : List ℤ) (i : ℕ) → i + 2 ≤ length soft → take 2 (drop i soft) ≡ lane soft i ∷ lane soft (i + 1) ∷ []
pair_lanes (x ∷ y ∷ soft) zero within = refl
pair_lanes (x ∷ soft) (suc i) within =
    let at : suc i + 1 ≡ suc (i + 1) = omega arith in
    pair_lanes _ i (omega arith) ∙ ap (λ k. lane soft i ∷ lane (x ∷ soft) k ∷ []) (sym at)
pair_lanes soft i within = absurd (omega arith)

-- ---- lemmas about the table of branch metrics

abbrev pub hard_table : List (List ℤ)
hard_table =
    let p : ℤ = pos 1 in
    let n : ℤ = negsuc 0 in
    let o : ℤ = pos 0 in
    (p ∷ n ∷ p ∷ n ∷ o ∷ o ∷ o ∷ o ∷ n ∷ p ∷ n ∷ p ∷ o ∷ o ∷ o ∷ o ∷ []) ∷
    (o ∷ o ∷ o ∷ o ∷ n ∷ p ∷ n ∷ p ∷ o ∷ o ∷ o ∷ o ∷ p ∷ n ∷ p ∷ n ∷ []) ∷
    (o ∷ o ∷ o ∷ o ∷ p ∷ n ∷ p ∷ n ∷ o ∷ o ∷ o ∷ o ∷ n ∷ p ∷ n ∷ p ∷ []) ∷
    (n ∷ p ∷ n ∷ p ∷ o ∷ o ∷ o ∷ o ∷ p ∷ n ∷ p ∷ n ∷ o ∷ o ∷ o ∷ o ∷ []) ∷ []

-- a row of the table of branch metrics, converted to octets and back
abbrev pub hard_row : ℕ → List ℤ → List ℤ
hard_row n d = map (cast_signed w8) (map (cast_unsigned w8) (get_or hard_table n d))

pub HasHardBranchMetrics-row : (d : List ℤ) (n : ℕ) (p q : ℤ) → IsHardBit p → IsHardBit q
    → n ≡ sign_bit_of p + 2 * sign_bit_of q →
    HasHardBranchMetrics (hard_row n d) (p ∷ q ∷ [])
unfolding branch_metric
HasHardBranchMetrics-row d n p q (inl hp) (inl hq) is =
    rw (is, hp, hq) (record { size = refl; count = refl; at_state = same_below _ _ refl })
HasHardBranchMetrics-row d n p q (inr hp) (inl hq) is =
    rw (is, hp, hq) (record { size = refl; count = refl; at_state = same_below _ _ refl })
HasHardBranchMetrics-row d n p q (inl hp) (inr hq) is =
    rw (is, hp, hq) (record { size = refl; count = refl; at_state = same_below _ _ refl })
HasHardBranchMetrics-row d n p q (inr hp) (inr hq) is =
    rw (is, hp, hq) (record { size = refl; count = refl; at_state = same_below _ _ refl })

-- row n of a table of branch metrics, converted to octets and back; there is a table for the first pair of soft bits and one for the second
abbrev pub row_of : List (List ℤ) → ℕ → List ℤ → List ℤ
row_of table n d = map (cast_signed w8) (map (cast_unsigned w8) (get_or table n d))

abbrev pub first_table : List (List ℤ)
first_table = (hard_table ++ hard_table) ++ (hard_table ++ hard_table)

abbrev pub second_table : List (List ℤ)
second_table =
    (replicate 4 (get_or hard_table 0 []) ++ replicate 4 (get_or hard_table 1 [])) ++ (replicate 4 (get_or hard_table 2 []) ++
    replicate 4 (get_or hard_table 3 []))

pub first_row : (d : List ℤ) (n : ℕ) → n < 16 → row_of first_table n d ≡ hard_row (n % 4) d
first_row d = same_below (λ n. row_of first_table n d) (λ n. hard_row (n % 4) d) refl

pub second_row : (d : List ℤ) (n : ℕ) → n < 16 → row_of second_table n d ≡ hard_row (n / 4) d
second_row d = same_below (λ n. row_of second_table n d) (λ n. hard_row (n / 4) d) refl
