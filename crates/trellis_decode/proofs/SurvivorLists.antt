-- Survivors and decisions over many positions.
use Rattle.{
  std.{
    proofs.{
      lemmas.List.{Elements.{All-append, All-cons, All-drop, All-nil, All-tail, All-take}, drop-drop, drop-set, length-append, length-drop},
      lemmas.{List.{length-replicate, length-take, take-append-drop}, Int.ints},
      Common.{List, [], append_assoc, ap, ap₂, arith, drop, get_or, length, lit≤, negsuc, pos, refl, replicate, subst, suc, sym, take},
      Common.{zero, ℕ, ℤ, ◌%◌, ◌*◌, ◌++◌, ◌+ℤ◌, ◌+◌, ◌-ℤ◌, ◌-◌, ◌/◌, ◌<◌, ◌^◌, ◌∙◌},
      Common.{◌∷◌, ◌≡◌, ◌≤ℤ◌, ◌≤◌, ◌*ℤ◌},
      Math.{ListN.set, Seq.drop-length},
    },
    specs.List.All,
  },
  conv_code.specs.bit_blocks.Bits.{AllBits, IsBit},
  lanes.{proofs.Lanes.{each, same_below}, specs.Lanes.lane},
  trellis_decode.{
    proofs.AcsSteps.{even_metric, IsDecision-lower_bound, lane_of_state-inside, lane_of_state-twice, odd_metric},
    proofs.Viterbi.{AllBits-encoding_from_state, lex_not_after-refl, IsSurvivor-bit, IsSurvivor-tail_bit, IsSurvivor-more, IsSurvivor-same},
    proofs.Viterbi.{candidate-survivor, traceback-tail_rows, length-traceback, length-to_binary, likelihood_bound, metric_from_state-cons},
    proofs.Viterbi.traceback-zeros,
    specs.{
      AcsLanes.{AreBranchMetrics, HasBranchMetrics, DifferByAtMost4096, HaveHeadroom16, three_bits_reversed, path_metric_of_lane},
      AcsLanes.{lane_of_state, metrics_of_lanes},
      Decisions.HasDecisionsAndMetrics,
      Hard.{DifferByAtMost, HasHardBranchMetrics, HaveMagnitudeAtMostOne, hard_lane_metrics, metric_of_hard_lane},
      SurvivorPaths.{AreMetricsWithin, AreSurvivors, state_after_bits, survivor_traceback},
      Trellis.{AreDecisions, EqualMetricButLater, HasTailBits, IsDecision, IsSurvivor, LessMetric, branch_metric, candidate_metric},
      Trellis.{first_coded_bit, metric_from_state, next_trellis_state, second_coded_bit, traceback},
      Words.to_binary,
      SignedOctets.{AreSignedOctets, IsSignedOctet},
    },
  },
}

-- ## SurvivorPaths: The survivors over a few positions of the trellis, extended by one position at the front, and bounds of the path
-- metrics.

pub state_after-inside : (s : ℕ) (u : List ℕ) → s < 16 → state_after_bits s u < 16
state_after-inside s [] lt = lt
state_after-inside s (x ∷ u) lt = state_after-inside (next_trellis_state s x) u (omega arith)

same_lengths : {after values soft : List ℤ} {map : List ℕ} (walk : AreSurvivors after values map soft) (lists : ℕ →
    List ℕ) (n : ℕ) → ((s : ℕ) → s < 16 → length (lists s) ≡ n) → (s : ℕ) → s < 16 →
    2 * length (walk.bits s ++ lists (state_after_bits s (walk.bits s))) ≡ length soft + 2 * n
same_lengths walk lists n same s lt =
    omega (arith, same _ (state_after-inside s (walk.bits s) lt), length-append (walk.bits s) (lists (state_after_bits s (walk.bits s))))

pub AreSurvivors-none : (values : List ℤ) →
    AreSurvivors values values (0 ∷ 1 ∷ 2 ∷ 3 ∷ 4 ∷ 5 ∷ 6 ∷ 7 ∷ 8 ∷ 9 ∷ 10 ∷ 11 ∷ 12 ∷ 13 ∷ 14 ∷ 15 ∷ []) []
AreSurvivors-none values = record {
  bits = λ s. [];
  count = λ s lt. refl;
  maps_to_end_state = same_below _ _ refl;
  best = λ rest lists n long same best s lt. best s lt;
}

module _ (after middle values pair soft : List ℤ) (map map' : List ℕ) (bit : ℕ → ℕ) (two : length pair ≡ 2)
    (chosen : (s : ℕ) → s < 16 → IsDecision middle pair s (lane values s) (bit s))
    (extend_survivor_map : (s : ℕ) → s < 16
    → get_or map' (lane_of_state s) 0 ≡ get_or map (lane_of_state (next_trellis_state s (bit s))) 0) where
  pub AreSurvivors-more : AreSurvivors after middle map soft → AreSurvivors after values map' (pair ++ soft)
  AreSurvivors-more walk = record {
    bits = bits;
    count = λ s lt. omega (arith, length-append pair soft);
    maps_to_end_state = λ s lt. extend_survivor_map s lt ∙ walk.maps_to_end_state (next_trellis_state s (bit s)) (inside s);
    best = best;
  } where
    bits : ℕ → List ℕ
    bits s = bit s ∷ walk.bits (next_trellis_state s (bit s))

    inside : (s : ℕ) → next_trellis_state s (bit s) < 16
    inside s = omega arith

    best : (rest : List ℤ) (lists : ℕ → List ℕ) (n : ℕ) → 4 ≤ n → ((s : ℕ) → s < 16 → length (lists s) ≡ n) →
        ((s : ℕ) → s < 16 → IsSurvivor s (lists s) rest (lane after s)) →
        (s : ℕ) → s < 16 → IsSurvivor s (bits s ++ lists (state_after_bits s (bits s))) ((pair ++ soft) ++ rest) (lane values s)
    best rest lists n long same each s lt =
        let longer : ℕ → List ℕ = λ s. walk.bits s ++ lists (state_after_bits s (walk.bits s)) in
        let from = walk.best rest lists n long same each in
        let zero_long = same_lengths walk _ n same (next_trellis_state s 0) (omega arith) in
        let one_long = same_lengths walk _ n same (next_trellis_state s 1) (omega arith) in
        rw append_assoc
        (IsSurvivor-bit middle pair (soft ++ rest) s (bit s) longer (lane values s) two (omega arith) (omega arith)
        (from (next_trellis_state s 0) (omega arith)) (from (next_trellis_state s 1) (omega arith)) (chosen s lt))

-- ---- lemmas about bounds of the path metrics

branch_metric_bound : (pair : List ℤ) (s bit : ℕ) → length pair ≡ 2 → AreSignedOctets pair →
    (negsuc 255 ≤ℤ branch_metric s bit pair) × (branch_metric s bit pair ≤ℤ pos 256)
unfolding branch_metric
branch_metric_bound pair s bit two octets =
    let bits : AllBits (first_coded_bit s bit ∷ second_coded_bit s bit ∷ []) =
    All-cons IsBit (first_coded_bit s bit) (second_coded_bit s bit ∷ []) (omega arith) (All-cons _ _ [] (omega arith) (All-nil IsBit)) in
    omega (arith, ints, likelihood_bound pair (first_coded_bit s bit ∷ second_coded_bit s bit ∷ []) octets bits)

pub AreBranchMetrics-from_HasBranchMetrics : (lanes pair : List ℤ) → AreSignedOctets pair → HasBranchMetrics lanes pair →
    AreBranchMetrics lanes
AreBranchMetrics-from_HasBranchMetrics lanes pair octets has = record {
  count = has.size;
  lower_bound = λ k lt. rw (has.each_lane k lt) (branch_metric_bound pair _ 0 has.count octets).0;
  upper_bound = λ k lt. rw (has.each_lane k lt) (branch_metric_bound pair _ 0 has.count octets).1;
}

pub HaveMagnitudeAtMostOne-from_HasHardBranchMetrics : (lanes pair : List ℤ) → AreSignedOctets pair →
    HasHardBranchMetrics lanes pair →
    HaveMagnitudeAtMostOne lanes
HaveMagnitudeAtMostOne-from_HasHardBranchMetrics lanes pair octets has =
    record { count = has.size; lower_bound = λ k lt. (unit k lt).0; upper_bound = λ k lt. (unit k lt).1 }
  where
    unit : (k : ℕ) → k < 16 → (negsuc 0 ≤ℤ lane lanes k) × (lane lanes k ≤ℤ pos 1)
    unit k lt =
        let is = has.at_state (lane_of_state k) (lane_of_state-inside k lt)
        ∙ ap (λ j. pos 254 *ℤ lane lanes j) (lane_of_state-twice k lt) in
        omega (arith, ints, branch_metric_bound pair (lane_of_state k) 0 has.count octets)

IsDecision-upper_bound : (after pair : List ℤ) (s bit most : ℕ) (value : ℤ) → length pair ≡ 2 → AreSignedOctets pair →
    lane after (next_trellis_state s 0) ≤ℤ pos most → lane after (next_trellis_state s 1) ≤ℤ pos most
    → IsDecision after pair s value bit →
    value ≤ℤ pos (most + 256)
unfolding candidate_metric
IsDecision-upper_bound after pair s bit most value two octets high0 high1 h =
    omega (arith, ints, branch_metric_bound _ s 0 two octets, branch_metric_bound _ s 1 two octets)

pub AreMetricsWithin-more : (after values pair : List ℤ) (most : ℕ) (bit : ℕ → ℕ) → length pair ≡ 2 →
    AreSignedOctets pair → ((s : ℕ) → s < 16 → IsDecision after pair s (lane values s) (bit s)) → AreMetricsWithin most after →
    AreMetricsWithin (most + 256) values
AreMetricsWithin-more after values pair most bit two octets chosen within = record {
  lower_bound = λ s lt.
      IsDecision-lower_bound _ _ s _ _ _ two lt (within.lower_bound (next_trellis_state s 0) (omega arith))
      (within.lower_bound (next_trellis_state s 1) (omega arith))
      (chosen s lt);
  upper_bound = λ s lt.
      IsDecision-upper_bound _ _ s _ _ _ two octets (within.upper_bound (next_trellis_state s 0) (omega arith))
      (within.upper_bound (next_trellis_state s 1) (omega arith))
      (chosen s lt);
}

-- the sum of a bounded path metric and a branch metric fits in 16 bits
module _ (even odd : List ℤ) (most : ℕ) (few : most ≤ 63000) (within : AreMetricsWithin most (metrics_of_lanes even odd)) where
  has_headroom : (lanes : List ℤ) (bit : ℕ) → length lanes ≡ 8 →
      ((k : ℕ) → k < 8 → lane (metrics_of_lanes even odd)
      (next_trellis_state (three_bits_reversed k) bit) ≡ path_metric_of_lane (lane lanes k))
      →
      HaveHeadroom16 lanes
  has_headroom lanes bit count path_metric = record {
    count = count;
    lower_bound = λ k lt. omega (
      arith,
      ints,
      path_metric k lt,
      within.lower_bound (next_trellis_state (three_bits_reversed k) bit) (omega arith),
    );
    upper_bound = λ k lt. omega (
      arith,
      ints,
      path_metric k lt,
      within.upper_bound (next_trellis_state (three_bits_reversed k) bit) (omega arith),
    );
  }

  pub HaveHeadroom16-even : length even ≡ 8 → HaveHeadroom16 even
  HaveHeadroom16-even count = has_headroom _ 0 count (even_metric _ odd)

  pub HaveHeadroom16-odd : length odd ≡ 8 → HaveHeadroom16 odd
  HaveHeadroom16-odd count = has_headroom odd 1 count (odd_metric even odd)

IsSurvivor-bounds : (s : ℕ) (u : List ℕ) (soft : List ℤ) (value : ℤ) → AreSignedOctets soft → IsSurvivor s u soft value →
    ((pos 0 -ℤ pos (128 * length soft)) ≤ℤ value) × (value ≤ℤ pos (128 * length soft))
unfolding metric_from_state
IsSurvivor-bounds s u soft value octets best =
    omega (arith, ints, likelihood_bound soft _ octets (AllBits-encoding_from_state s u))

pub AreMetricsWithin-best : (n : ℕ) (values soft : List ℤ) (lists : ℕ → List ℕ) → AreSignedOctets soft
    → length soft ≤ n + 8 →
    ((s : ℕ) → s < 16 → IsSurvivor s (lists s) (drop n soft) (lane values s)) → AreMetricsWithin 1024 values
AreMetricsWithin-best n values soft lists octets few best = record {
  lower_bound = λ s lt. omega (arith, ints, length-drop n soft, IsSurvivor-bounds s _ _ _ (All-drop IsSignedOctet n _ octets) (best s lt));
  upper_bound = λ s lt. omega (arith, ints, length-drop n soft, IsSurvivor-bounds s _ _ _ (All-drop IsSignedOctet n _ octets) (best s lt));
}

pub AreMetricsWithin-most : (n : ℕ) (values soft : List ℤ) (lists : ℕ → List ℕ) → AreSignedOctets soft → length soft ≤ 456
    →
    ((s : ℕ) → s < 16 → negsuc 1023 ≤ℤ lane values s) →
    ((s : ℕ) → s < 16 → IsSurvivor s (lists s) (drop n soft) (lane values s)) → AreMetricsWithin 58368 values
AreMetricsWithin-most n values soft lists octets few low best = record {
  lower_bound = low;
  upper_bound = λ s lt.
      omega (arith, ints, length-drop n soft, IsSurvivor-bounds s _ _ _ (All-drop IsSignedOctet n _ octets) (best s lt));
}

pub IsSurvivor-zero_tail : (after values pair soft : List ℤ) (n : ℕ) → length pair ≡ 2 → n < 4 →
    ((s : ℕ) → s < 16 → IsSurvivor s (replicate n 0) soft (lane after s)) →
    ((s : ℕ) → s < 16 → lane values s ≡ candidate_metric after pair s 0) →
    (s : ℕ) → s < 16 → IsSurvivor s (replicate (suc n) 0) (pair ++ soft) (lane values s)
IsSurvivor-zero_tail after values pair soft n two few best candidates s lt =
    rw (candidates s lt) (IsSurvivor-tail_bit _ _ _ s _ two (omega (arith, length-replicate {A = ℕ} n 0))
    (best (next_trellis_state s 0) (omega arith)))

-- ## MapLists: The bits that traceback reads from survivor maps of four positions each, extended by one map at the front. A state consists
-- of the four bits that led to it.

length-survivor_traceback : (survivors : List (List ℕ)) (at : ℕ) →
    length (survivor_traceback survivors at) ≡ 4 * length survivors
length-survivor_traceback [] at = refl
length-survivor_traceback (map ∷ survivors) at =
    let to = get_or map at 0 % 16 in
    omega (arith, length-survivor_traceback survivors to, length-to_binary)

HasTailBits-front : (u rest : List ℕ) → HasTailBits (u ++ rest) → AllBits u
HasTailBits-front [] rest ends = All-nil _
HasTailBits-front (x ∷ u) rest ends = All-cons IsBit x u ends.0 (HasTailBits-front u _ ends.2)

four_bits-state : (s a b c d : ℕ) → s < 16 → a ≤ 1 → b ≤ 1 → c ≤ 1 → d ≤ 1 →
    to_binary 4 (state_after_bits s (a ∷ b ∷ c ∷ d ∷ [])) ≡ a ∷ b ∷ c ∷ d ∷ []
four_bits-state s a b c d lt ha hb hc hd =
    let at = state_after_bits s (a ∷ b ∷ c ∷ d ∷ []) in
    let is : (at / 8 % 2 ≡ a) × (at / 4 % 2 ≡ b) × (at / 2 % 2 ≡ c) × (at / 1 % 2 ≡ d) = omega arith in
    cc

state_after-four_bits : (s : ℕ) (u : List ℕ) → s < 16 → length u ≡ 4 → AllBits u → to_binary 4 (state_after_bits s u) ≡ u
state_after-four_bits s (a ∷ b ∷ c ∷ d ∷ []) lt four bits =
    four_bits-state s a b c d lt (bits 0 0 (omega arith)) (bits 1 0 (omega arith)) (bits 2 0 (omega arith)) (bits 3 0 (omega arith))
state_after-four_bits s u lt four bits = absurd (omega arith)

pub last_state-bits : (u : List ℕ) → length u < 4 → AllBits u → drop (4 - length u) (to_binary 4 (state_after_bits 0 u)) ≡ u
last_state-bits [] few bits = refl
last_state-bits (a ∷ []) few bits =
    ap (drop 3) (four_bits-state 0 0 0 0 a (omega arith) (omega arith) (omega arith) (omega arith) (bits 0 0 (omega arith)))
last_state-bits (a ∷ b ∷ []) few bits =
    ap (drop 2) (four_bits-state 0 0 0 a b (omega arith) (omega arith) (omega arith) (bits 0 0 (omega arith)) (bits 1 0 (omega arith)))
last_state-bits (a ∷ b ∷ c ∷ []) few bits =
    ap (drop 1)
    (four_bits-state 0 0 a b c (omega arith) (omega arith) (bits 0 0 (omega arith)) (bits 1 0 (omega arith)) (bits 2 0 (omega arith)))
last_state-bits u few bits = absurd (omega arith)

module _ {after values soft rest : List ℤ} {map : List ℕ} (survivors : List (List ℕ)) (walk : AreSurvivors after values map soft)
    (some : 1 ≤ length survivors)
    (best : (s : ℕ) → s < 16 → IsSurvivor s (survivor_traceback survivors (lane_of_state s)) rest (lane after s)) where
  abbrev bits : ℕ → List ℕ
  bits = walk.bits

  maps_to_end_state : (s : ℕ) → s < 16 → get_or map (lane_of_state s) 0 % 16 ≡ lane_of_state (state_after_bits s (bits s))
  maps_to_end_state s lt =
      omega (arith, walk.maps_to_end_state s lt, state_after-inside s (bits s) lt)

  pub traced_survivor : (s : ℕ) → s < 16 →
      IsSurvivor s (bits s ++ survivor_traceback survivors (get_or map (lane_of_state s) 0 % 16)) (soft ++ rest) (lane values s)
  traced_survivor s lt =
      rw (maps_to_end_state s lt)
      (walk.best _ _ _ (omega arith) (λ s lt. length-survivor_traceback _ _) best s lt)

  pub traced_survivor-bits : (s : ℕ) → s < 16 → AllBits (bits s)
  traced_survivor-bits s lt = HasTailBits-front _ (survivor_traceback _ _) (traced_survivor s lt).tail_bits

  pub traced_survivor-state : (s : ℕ) → s < 16 → lane_of_state (get_or map (lane_of_state s) 0 % 16) ≡ state_after_bits s (bits s)
  traced_survivor-state s lt = ap lane_of_state (maps_to_end_state s lt) ∙ lane_of_state-twice _ (state_after-inside s (bits s) lt)

  IsSurvivor-map : length soft ≡ 8 → (s : ℕ) → s < 16 →
      IsSurvivor s (survivor_traceback (map ∷ survivors) (lane_of_state s)) (soft ++ rest) (lane values s)
  IsSurvivor-map eight s lt =
      IsSurvivor-same s (ap (λ u. u ++ survivor_traceback survivors (get_or map (lane_of_state s) 0 % 16))
      (sym (ap (to_binary 4) (traced_survivor-state s lt) ∙ state_after-four_bits s _ lt (omega arith) (traced_survivor-bits s lt)))) refl
      refl (traced_survivor s lt)

read_last : (s : ℕ) → s < 16 →
    survivor_traceback (replicate 16 0 ∷ []) (lane_of_state s) ≡ replicate 4 0
read_last = same_below _ _ refl

-- ---- lemmas about survivor maps, filled from the last to the first

pub last_map : (survivors : List (List ℕ)) (soft values : List ℤ) (last : ℕ) → last + 1 ≡ length survivors →
    ((s : ℕ) → s < 16 → IsSurvivor s (replicate 4 0) soft (lane values s)) → (s : ℕ) → s < 16 →
    IsSurvivor s (survivor_traceback (drop last (set survivors last (replicate 16 0))) (lane_of_state s)) soft
    (lane values s)
last_map survivors soft values last end best s lt =
    let blank : List ℕ = replicate 16 0 in
    let alone : drop last (set survivors last blank) ≡ blank ∷ [] =
    drop-set _ last _ (omega arith) ∙ ap (λ rest. blank ∷ rest) (ap (λ k. drop k survivors) end ∙ drop-length survivors) in
    IsSurvivor-same s (sym (cc (alone, read_last s lt))) refl refl (best s lt)

pub more_survivors : (after values soft : List ℤ) (map : List ℕ) (survivors : List (List ℕ)) (before group : ℕ) →
    before + 1 ≡ group → group < length survivors → 8 * group ≤ length soft →
    AreSurvivors after values map (take 8 (drop (8 * before) soft)) →
    ((s : ℕ) → s < 16 → IsSurvivor s (survivor_traceback (drop group survivors) (lane_of_state s)) (drop (8 * group) soft)
    (lane after s)) → (s : ℕ) → s < 16 →
    IsSurvivor s (survivor_traceback (drop before (set survivors before map)) (lane_of_state s)) (drop (8 * before) soft)
    (lane values s)
more_survivors after values soft map survivors before group at inside within walk best s lt =
    let four = take 8 (drop (8 * before) soft) in
    let whole : four ++ drop (8 * group) soft ≡ drop (8 * before) soft =
    ap (λ rest. four ++ rest) (ap (λ k. drop k soft) (sym (omega arith)) ∙ sym (drop-drop 8 (8 * before) soft))
    ∙ take-append-drop 8 (drop (8 * before) soft) in
    let grown : map ∷ drop group survivors ≡ drop before (set survivors before map) = cc (
      at,
      drop-set survivors before map (omega
          arith),
    ) in
    IsSurvivor-same s (ap (λ survivors. survivor_traceback survivors (lane_of_state s)) grown) whole refl
    (IsSurvivor-map (drop group survivors) walk (omega (arith, length-drop group survivors)) best
    (omega (arith, length-take 8 (drop (8 * before) soft), length-drop (8 * before) soft)) s lt)

-- ## Decisions: `fill_decisions` extends its decisions and costs by one position at a time. Two path metrics differ by at most 2,048, since
-- four equal bits lead from any two states to the same state; so the differences fit in 16 bits.

HasTailBits-same : (u w : List ℕ) → HasTailBits u → HasTailBits w → length w ≡ length u → length u ≤ 4 → w ≡ u
HasTailBits-same [] [] eu ew count short = refl
HasTailBits-same (x ∷ u) (y ∷ w) eu ew count short =
    ap₂ (λ z v. z ∷ v) (ew.1 (omega arith) ∙ sym (eu.1 (omega arith))) (HasTailBits-same u w eu.2 ew.2 (omega arith) (omega arith))
HasTailBits-same u w eu ew count short = absurd (omega arith)

HasTailBits-zeros : (n : ℕ) → HasTailBits (replicate n 0)
HasTailBits-zeros zero = tt
HasTailBits-zeros (suc n) = (omega arith, (λ _. refl), HasTailBits-zeros n)

IsSurvivor-short : (s : ℕ) (u : List ℕ) (soft : List ℤ) → HasTailBits u → length u ≤ 4 →
    IsSurvivor s u soft (metric_from_state s u soft)
IsSurvivor-short s u soft ends short = record {
  has_metric = refl;
  tail_bits = ends;
  no_other_path_is_better = λ v ends_v count. rw (HasTailBits-same u v ends ends_v count short) (EqualMetricButLater refl
      (lex_not_after-refl u));
}

AreDecisions-tail : (rows : List ℕ) (losses : List (List ℤ)) (soft : List ℤ) → length rows ≤ 4 →
    length losses ≡ length rows → length soft ≡ 2 * length rows → All (λ row. row ≡ 0) rows → AreDecisions rows losses soft
AreDecisions-tail [] losses soft short same pairs blank = pairs
AreDecisions-tail (row ∷ rows) [] soft short same pairs blank = absurd (omega arith)
AreDecisions-tail (row ∷ rows) (lost ∷ losses) soft short same pairs blank = (
  omega arith,
  record {
    best = λ s lt. IsSurvivor-short s (traceback (row ∷ rows) s) soft
        (subst HasTailBits (sym (traceback-zeros (row ∷ rows) s blank)) (HasTailBits-zeros (suc (length rows))))
        (omega (arith, length-traceback (row ∷ rows) s));
    loss_of_each_state = λ s lt four. absurd (omega arith);
  },
  AreDecisions-tail rows losses (drop 2 soft) (omega arith) (omega arith) (omega (arith, length-drop 2 soft))
      (All-tail (λ row. row ≡ 0) row rows blank),
)

-- ---- lemmas about the decisions and costs that a step adds when it puts one earlier position in front of the soft bits

drop-pair : (pair soft : List ℤ) → length pair ≡ 2 → drop 2 (pair ++ soft) ≡ soft
drop-pair (p ∷ q ∷ []) soft two = refl
drop-pair pair soft two = absurd (omega arith)

module _ (after values lost pair soft : List ℤ) (rows : List ℕ) (losses : List (List ℤ)) (row : ℕ) (two : length pair ≡ 2)
    (octets : AreSignedOctets pair) (chosen : (s : ℕ) → s < 16 → IsDecision after pair s (lane values s) (row / 2 ^ s % 2))
    (loses : (s : ℕ) → s < 16 → lane lost s ≡ candidate_metric after pair s (row / 2 ^ s % 2) -ℤ candidate_metric after pair s
    (1 - row / 2 ^ s % 2))
    (old : HasDecisionsAndMetrics rows losses soft after) where
  best_more : (s : ℕ) → s < 16 → IsSurvivor s (traceback (row ∷ rows) s) (pair ++ soft) (lane values s)
  best_more s lt = IsSurvivor-more after _ _ s row _ _ two old.at_least (old.best (next_trellis_state s 0) (omega arith))
      (old.best (next_trellis_state s 1)
      (omega arith))
      (chosen s lt)

  candidate_is : (s bit : ℕ) → candidate_metric after pair s bit
      ≡ metric_from_state s (bit ∷ traceback rows (next_trellis_state s bit)) (pair ++ soft)
  candidate_is s bit = candidate-survivor _ _ _ s bit _ two (old.best (next_trellis_state s bit) (omega arith))

  pub HasDecisionsAndMetrics-more : HasDecisionsAndMetrics (row ∷ rows) (lost ∷ losses) (pair ++ soft) values
  HasDecisionsAndMetrics-more = record {
    decisions = (
      omega (arith, length-append pair soft),
      record {
        best = λ s lt. rw (← (best_more s lt).has_metric) (best_more s lt);
        loss_of_each_state = λ s lt long. loses s lt ∙ ap₂ (λ a b. a -ℤ b) (candidate_is s _) (candidate_is s _);
      },
      rw (drop-pair pair soft two) old.decisions,
    );
    count = omega (arith, old.count, length-append pair soft);
    equal_counts = ap suc old.equal_counts;
    at_least = omega (arith, old.at_least);
    octets = All-append IsSignedOctet _ _ octets old.octets;
    lower_bound = λ s lt. IsDecision-lower_bound _ _ s _ _ _ two lt (old.lower_bound (next_trellis_state s 0) (omega arith))
        (old.lower_bound (next_trellis_state s 1) (omega arith))
        (chosen s lt);
    best = best_more;
  }

-- ---- lemmas about how far apart two path metrics can be

metric_from_state-more : (state x : ℕ) (u : List ℕ) (soft : List ℤ) → 2 ≤ length soft →
    metric_from_state state (x ∷ u) soft ≡ branch_metric state x (take 2 soft) +ℤ metric_from_state (next_trellis_state state x) u
    (drop 2 soft)
metric_from_state-more state x u soft long =
    ap (metric_from_state state (x ∷ u)) (sym (take-append-drop 2 _))
    ∙ metric_from_state-cons _ x u _ _ (omega (arith, length-take 2 soft))

abbrev IsNear : ℕ → ℕ → ℕ → List ℕ → List ℤ → Type 0
IsNear n s t u soft = metric_from_state s u soft ≤ℤ (metric_from_state t u soft +ℤ pos n)

near_none : (n s t : ℕ) (soft : List ℤ) → IsNear n s t [] soft
unfolding metric_from_state
near_none n s t soft = omega (arith, ints)

near_more : (n s t x : ℕ) (u : List ℕ) (soft : List ℤ) → 2 ≤ length soft → AreSignedOctets soft →
    IsNear n (next_trellis_state s x) (next_trellis_state t x) u (drop 2 soft) → IsNear (n + 512) s t (x ∷ u) soft
near_more n s t x u soft long octets fits_16_bits =
    let two : length (take 2 soft) ≡ 2 = omega (arith, length-take 2 soft) in
    let pair : AreSignedOctets (take 2 soft) = All-take IsSignedOctet 2 _ octets in
    omega (
      arith,
      ints,
      metric_from_state-more s x u soft long,
      metric_from_state-more t x u soft long,
      branch_metric_bound (take 2 soft) s x two pair,
      branch_metric_bound (take 2 soft) t x two pair,
    )

-- if two states are equal modulo m, the path metrics of a list from them differ by at most n
abbrev NearIfCongruent : ℕ → ℕ → Type 0
NearIfCongruent n m = (s t : ℕ) (u : List ℕ) (soft : List ℤ) → length soft ≡ 2 * length u → AreSignedOctets soft →
    s % m ≡ t % m
    → IsNear n s t u soft

near_step : (n m k : ℕ) → ((s t x : ℕ) → s % m ≡ t % m → next_trellis_state s x % k ≡ next_trellis_state t x % k)
    → NearIfCongruent n k → NearIfCongruent (n + 512) m
near_step n m k same near s t [] soft count octets e = near_none _ s t _
near_step n m k same near s t (x ∷ u) soft count octets e =
    near_more _ s t x u _ (omega arith) octets
    (near _ _ u _ (omega (arith, length-drop 2 soft)) (All-drop IsSignedOctet 2 _ octets) (same s t x e))

-- the path metrics of u from any two states differ by at most 2,048, since four equal bits lead to the same state
fits_16_bits : NearIfCongruent 2048 1
fits_16_bits =
    near_step 1536 1 2 (λ s t x e. omega arith) (near_step 1024 2 4 (λ s t x e. omega arith) (near_step 512 4 8 (λ s t x e. omega arith)
    near_8))
  where
    near_8 : NearIfCongruent 512 8
    near_8 s t [] soft count octets e = near_none _ s t _
    near_8 s t (x ∷ u) soft count octets e =
        near_more 0 s t x u _ (omega arith) octets
        (let same : next_trellis_state s x ≡ next_trellis_state t x = omega arith in rw same (omega (arith, ints)))

survivors_near : (values soft : List ℤ) (paths : ℕ → List ℕ) (count : ℕ) → AreSignedOctets soft →
    length soft ≡ 2 * count → ((s : ℕ) → length (paths s) ≡ count) →
    ((s : ℕ) → s < 16 → IsSurvivor s (paths s) soft (lane values s)) → (s t : ℕ) → s < 16 → t < 16 →
    lane values s ≤ℤ (lane values t +ℤ pos 2048)
survivors_near values soft paths count octets long counts best s t hs ht =
    let apart = fits_16_bits s t (paths s) soft (long ∙ ap (λ n. 2 * n) (sym (counts s))) octets (omega arith) in
    let here = (best s hs).has_metric in
    let there = (best t ht).has_metric in
    elim ((best t ht).no_other_path_is_better (paths s) (best s hs).tail_bits (counts s ∙ sym (counts t))) [
      | LessMetric h ↦ omega (arith, ints)
      | EqualMetricButLater h later ↦ omega (arith, ints)
    ]

-- the lanes of hard path metrics differ by at most 8, since 8 * 254 ≤ 2048 < 9 * 254
pub DifferByAtMost-survivors : (lanes soft : List ℤ) (group : ℕ) (survivors : List (List ℕ)) → AreSignedOctets soft →
    length soft ≡ 8 * length survivors →
    ((s : ℕ) → s < 16 → IsSurvivor s (survivor_traceback (drop group survivors) (lane_of_state s)) (drop (8 * group) soft)
    (lane (hard_lane_metrics lanes) s)) → DifferByAtMost 8 lanes
DifferByAtMost-survivors lanes soft group survivors octets long best j k lj lk =
    let left = drop group survivors in
    let near = survivors_near (hard_lane_metrics lanes) (drop (8 * group) soft) (λ s. survivor_traceback left (lane_of_state s))
    (4 * length left) (All-drop IsSignedOctet (8 * group) _ octets)
    (omega (arith, length-drop (8 * group) soft, length-drop group survivors)) (λ s. length-survivor_traceback left _) best
    (lane_of_state j) (lane_of_state k) (lane_of_state-inside j lj) (lane_of_state-inside k lk) in
    omega (arith, ints, metric_at j lj, metric_at k lk)
  where
    metric_at : (k : ℕ) → k < 16 → lane (hard_lane_metrics lanes) (lane_of_state k) ≡ metric_of_hard_lane (lane lanes k)
    metric_at = same_below _ _ refl

-- ---- lemmas about the preconditions of a trellis step

module _ (rows : List ℕ) (losses : List (List ℤ)) (soft even odd : List ℤ)
    (decided : HasDecisionsAndMetrics rows losses soft (metrics_of_lanes even odd)) where
  value_near : (s t : ℕ) → s < 16 → t < 16 → lane (metrics_of_lanes even odd) s ≤ℤ
      (lane (metrics_of_lanes even odd) t +ℤ pos 2048)
  value_near =
      survivors_near (metrics_of_lanes even odd) soft (traceback rows) (length rows) decided.octets (omega (arith, decided.count))
      (λ s. length-traceback rows s) decided.best

  pub HasDecisionsAndMetrics-differences : DifferByAtMost4096 even odd
  HasDecisionsAndMetrics-differences = record {
    lower_bound = λ k lt. omega (
      arith,
      ints,
      even_metric even odd k lt,
      odd_metric even odd k lt,
      value_near (next_trellis_state (three_bits_reversed k) 1) (next_trellis_state (three_bits_reversed k) 0) (omega arith)
          (omega arith),
    );
    upper_bound = λ k lt. omega (
      arith,
      ints,
      even_metric even odd k lt,
      odd_metric even odd k lt,
      value_near (next_trellis_state (three_bits_reversed k) 0) (next_trellis_state (three_bits_reversed k) 1) (omega arith)
          (omega arith),
    );
  }

  module _ (few : length rows ≤ 228) where
    within : AreMetricsWithin 58368 (metrics_of_lanes even odd)
    within = AreMetricsWithin-most 0 (metrics_of_lanes even odd) soft (traceback rows) decided.octets (omega arith) decided.lower_bound
        decided.best

    pub HasDecisionsAndMetrics-even : length even ≡ 8 → HaveHeadroom16 even
    HasDecisionsAndMetrics-even = HaveHeadroom16-even even odd 58368 (lit≤ tt) within

    pub HasDecisionsAndMetrics-odd : length odd ≡ 8 → HaveHeadroom16 odd
    HasDecisionsAndMetrics-odd = HaveHeadroom16-odd even odd 58368 (lit≤ tt) within

-- ---- lemmas about the last four positions, which are the tail

pub HasDecisionsAndMetrics-tail : (rows : List ℕ) (losses : List (List ℤ)) (soft values : List ℤ) → length rows ≡ 4 →
    length losses ≡ 4 → length soft ≡ 8 → AreSignedOctets soft → All (λ row. row ≡ 0) rows →
    ((s : ℕ) → s < 16 → IsSurvivor s (replicate 4 0) soft (lane values s)) → HasDecisionsAndMetrics rows losses soft values
HasDecisionsAndMetrics-tail rows losses soft values four same eight octets blank best = record {
  decisions = AreDecisions-tail rows losses soft (omega arith) (cc (same, four)) (omega arith) blank;
  count = omega arith;
  equal_counts = same ∙ sym four;
  at_least = omega arith;
  octets = octets;
  lower_bound = (AreMetricsWithin-best 0 values soft (λ s. replicate 4 0) octets (omega arith) best).lower_bound;
  best = λ s lt. IsSurvivor-same s (traceback-tail_rows rows s four blank) refl refl (best s lt);
}

pub HasDecisionsAndMetrics-same : {rows rows' : List ℕ} {losses losses' : List (List ℤ)} {soft soft' values : List ℤ} →
    rows ≡ rows' → losses ≡ losses' → soft ≡ soft' → HasDecisionsAndMetrics rows losses soft values →
    HasDecisionsAndMetrics rows' losses' soft' values
HasDecisionsAndMetrics-same er el es decided = rw (← er, ← el, ← es) decided
