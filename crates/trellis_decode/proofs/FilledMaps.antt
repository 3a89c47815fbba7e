-- How both decoders fill the survivor maps, from the last to the first, starting with the path metrics before the tail.
use Rattle.{
  std.proofs.{
    lemmas.{Bool.cases_lt, Grind.get_or-set_at, List.{get_or-replicate, get_or-set_other, length-set, length-drop, drop_all, length-take}},
    Common.{List, [], ap, arith, drop, get_or, inl, inr, length, negsuc, pos, refl, replicate, suc, sym, take, ℕ, ℤ, ◌*◌, ◌+◌},
    Common.{◌-◌, ◌<◌, ◌∙◌, ◌∷◌, ◌≡◌, ◌≤ℤ◌, ◌≤◌},
    Math.ListN.set,
  },
  lanes.specs.Lanes.lane,
  trellis_decode.{
    proofs.{
      AcsSteps.{lane_of_state-inside, lane_of_state-twice, pair_and_after, pair_at},
      Viterbi.{IsSurvivor-none, IsSurvivor-to_end, IsSurvivor-same},
      SurvivorLists.{AreMetricsWithin-best, AreMetricsWithin-most, IsSurvivor-zero_tail, last_map, more_survivors, state_after-inside},
    },
    specs.{AcsLanes.lane_of_state, SurvivorPaths.{AreMetricsWithin, AreSurvivors, HoldLaneNumbersFromIndex, state_after_bits}},
    specs.{SurvivorPaths.survivor_traceback, Trellis.{IsSurvivor, candidate_metric}, SignedOctets.AreSignedOctets},
  },
}

-- ## LanesOfMaps: Every lane of a survivor map holds the number of a lane.

AreSurvivors-map_lanes : (after values : List ℤ) (map : List ℕ) (soft : List ℤ) → AreSurvivors after values map soft →
    (k : ℕ) →
    k < 16 → get_or map k 0 < 16
AreSurvivors-map_lanes after values map soft walk k lt =
    let s = lane_of_state k in
    let low : lane_of_state k < 16 = lane_of_state-inside k lt in
    let end : state_after_bits s (walk.bits s) < 16 = state_after-inside s (walk.bits s) low in
    let is : get_or map k 0 ≡ lane_of_state (state_after_bits s (walk.bits s)) =
    ap (λ k. get_or map k 0) (sym (lane_of_state-twice k lt)) ∙ walk.maps_to_end_state s low in
    rw is (lane_of_state-inside _ end)

HoldLaneNumbersFromIndex-more : (survivors : List (List ℕ)) (map : List ℕ) (before from : ℕ) → before + 1 ≡ from →
    before < length survivors → ((k : ℕ) → k < 16 → get_or map k 0 < 16) → HoldLaneNumbersFromIndex from survivors →
    HoldLaneNumbersFromIndex before (set survivors before map)
HoldLaneNumbersFromIndex-more survivors map before from at within small old group k low member lt = elim (cases_lt before group) [
  | inl less ↦ rw (get_or-set_other survivors before group map [] (λ e. omega arith)) (old group k (omega arith)
      (omega (arith, length-set survivors before map)) lt)
  | inr most ↦ rw (get_or-set_at survivors before group map [] (omega arith) within) (small k lt)
]

HoldLaneNumbersFromIndex-last : (survivors : List (List ℕ)) (last : ℕ) → last + 1 ≡ length survivors →
    HoldLaneNumbersFromIndex last (set survivors last
    (0 ∷ 0 ∷ 0 ∷ 0 ∷ 0 ∷ 0 ∷ 0 ∷ 0 ∷ 0 ∷ 0 ∷ 0 ∷ 0 ∷ 0 ∷ 0 ∷ 0 ∷ 0 ∷ []))
HoldLaneNumbersFromIndex-last survivors last end =
    let blank : List ℕ = 0 ∷ 0 ∷ 0 ∷ 0 ∷ 0 ∷ 0 ∷ 0 ∷ 0 ∷ 0 ∷ 0 ∷ 0 ∷ 0 ∷ 0 ∷ 0 ∷ 0 ∷ 0 ∷ [] in
    HoldLaneNumbersFromIndex-more survivors blank last (last + 1) refl (omega arith)
    (λ k lt. rw (get_or-replicate {A = ℕ} 16 k 0 0 lt) (omega arith)) (λ group k low member lt. absurd (omega arith))

-- ## Filled: The path metrics before the tail, and the survivor maps from a group on.

-- the path metrics from position `k` of the four tail bits on
abbrev pub AreTailMetrics : (k : ℕ) (soft metrics : List ℤ) → Type 0
AreTailMetrics k soft metrics = (s : ℕ) → s < 16 → IsSurvivor s (replicate (4 - k) 0) (drop (2 * k) soft) (lane metrics s)

module _ (soft : List ℤ) (eight : length soft ≡ 8) where
  pub tail-none : (metrics : List ℤ) → ((s : ℕ) → s < 16 → lane metrics s ≡ pos 0) → AreTailMetrics 4 soft metrics
  tail-none metrics none s lt = IsSurvivor-same s refl (sym (drop_all 8 soft (omega arith))) (sym (none s lt)) (IsSurvivor-none s)

  pub tail-within : (k : ℕ) (metrics : List ℤ) → AreSignedOctets soft → AreTailMetrics k soft metrics →
      AreMetricsWithin 1024 metrics
  tail-within k metrics octets = AreMetricsWithin-best (2 * k) metrics soft (λ s. replicate (4 - k) 0) octets (omega arith)

  pub tail-more : (after metrics : List ℤ) (before k : ℕ) → before + 1 ≡ k → k ≤ 4 →
      ((s : ℕ) → s < 16 → lane metrics s ≡ candidate_metric after (pair_at soft (2 * before)) s 0) →
      AreTailMetrics k soft after →
      AreTailMetrics before soft metrics
  tail-more after metrics before k next few candidates best s lt =
      let one_more : suc (4 - k) ≡ 4 - before = omega arith in
      let two : length (pair_at soft (2 * before)) ≡ 2 =
      omega (arith, length-take 2 (drop (2 * before) soft), length-drop (2 * before) soft) in
      IsSurvivor-same s (ap (λ n. replicate n 0) one_more) (pair_and_after soft (2 * before) (2 * k) (omega arith)) refl
      (IsSurvivor-zero_tail after metrics (pair_at soft (2 * before)) (drop (2 * k) soft) (4 - k) two (omega arith) best candidates s lt)

-- traceback through the survivor maps from number `group` on gives the survivors, and `metrics` are the path metrics before these maps
pub record AreFilled (group : ℕ) (survivors : List (List ℕ)) (soft metrics : List ℤ) : Type 0 where
  pub best : (s : ℕ) → s < 16 →
      IsSurvivor s (survivor_traceback (drop group survivors) (lane_of_state s)) (drop (8 * group) soft) (lane metrics s)
  pub low : (s : ℕ) → s < 16 → negsuc 1023 ≤ℤ lane metrics s
  pub maps : HoldLaneNumbersFromIndex group survivors

module _ (soft : List ℤ) (octets : AreSignedOctets soft) where
  pub filled-last : (survivors : List (List ℕ)) (metrics : List ℤ) (last : ℕ) → last + 1 ≡ length survivors →
      length soft ≡ 8 * length survivors →
      ((s : ℕ) → s < 16 → IsSurvivor s (replicate 4 0) (take (length soft - 8 * last) (drop (8 * last) soft)) (lane metrics s)) →
      AreFilled last (set survivors last (replicate 16 0)) soft metrics
  filled-last survivors metrics last end count tail =
      let closing = λ (s : ℕ) (lt : s < 16). IsSurvivor-to_end s (8 * last) _ soft _ (tail s lt) in
      record {
        best = last_map survivors (drop (8 * last) soft) metrics last end closing;
        low = (AreMetricsWithin-best (8 * last) metrics soft (λ s. replicate 4 0) octets (omega arith) closing).lower_bound;
        maps = HoldLaneNumbersFromIndex-last survivors last end;
      }

  pub filled-more : {after metrics : List ℤ} {map : List ℕ} (survivors : List (List ℕ)) (before group : ℕ) →
      before + 1 ≡ group →
      group < length survivors → length soft ≡ 8 * length survivors →
      AreSurvivors after metrics map (take 8 (drop (8 * before) soft)) →
      ((s : ℕ) → s < 16 → negsuc 1023 ≤ℤ lane metrics s) → AreFilled group survivors soft after →
      AreFilled before (set survivors before map) soft metrics
  filled-more survivors before group next inside count walk low filled = record {
    best = more_survivors _ _ soft _ survivors before group next inside (omega arith) walk filled.best;
    low = low;
    maps = HoldLaneNumbersFromIndex-more survivors _ before group next (omega arith) (AreSurvivors-map_lanes _ _ _ _ walk) filled.maps;
  }

  pub filled-within : (group : ℕ) (survivors : List (List ℕ)) (metrics : List ℤ) → length soft ≤ 456 →
      AreFilled group survivors soft metrics → AreMetricsWithin 58368 metrics
  filled-within group survivors metrics few filled =
      AreMetricsWithin-most (8 * group) metrics soft (λ s. survivor_traceback (drop group survivors) (lane_of_state s)) octets few
      filled.low filled.best
