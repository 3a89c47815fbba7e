-- The most likely word of a class: it deviates from a returned word at a position that the class allows, where the returned word follows
-- the survivors.
use Rattle.{
  std.proofs.Common.{◌≡◌, ◌≢◌, ◌⊎◌, ℕ, zero, suc, ◌+◌, ◌-◌, ◌*◌, ◌/◌, ◌%◌, ◌^◌, ◌<◌},
  std.proofs.Common.{◌≤◌, true, inl, inr, ℤ, ◌-ℤ◌, List, ◌∷◌, ◌++◌, length, get_or, take, drop, refl, ap, sym},
  std.{proofs.{Common.{◌∙◌, arith}, lemmas.{Bool.cases_lt, Int.{ints, by_lt_z}}}, specs.Prelude.◌<ℤ◌},
  weight_bound.specs.conv_code.{Code.encoding, Likelihood.{likelihood, IsLexicographicallyBefore, RanksAfter, IsMostLikely}},
  weight_bound.{specs.bit_blocks.Bits.AllBits, proofs.conv_code.Lemmas.same_number},
  trellis_decode.{
    specs.Trellis.{next_trellis_state, metric_from_state, HasTailBits, IsNotLexicographicallyAfter, traceback, AreDecisions, LessMetric},
    specs.Trellis.EqualMetricButLater,
    proofs.Lemmas.{HasTailBits-bits, HasTailBits-from_tail, lex_before-not_after, metric_from_state-start, length-traceback},
    proofs.Lemmas.{IsEncoderInput-ends, IsMostLikely-best},
  },
  list_decode.{
    specs.{
      Classes.{DeviatesAt, DeviationClass, IsInClass, deviations_anywhere},
      DeviatingWords.{state_after_bits, deviation_loss, FollowsSurvivors, word_deviating_at, IsLeastLossFreePosition, IsLeastLossPosition},
      Ranking.{IsCandidate, IsSecondMostLikely},
    },
    proofs.{DeviatingWords.{metric_from_state-more, length-follows, survivor-best, IsNoBetterPath-more}, Classes.deviates},
    proofs.Classes.{DeviatesAt-cons, DeviatesAt-tail, lex_before-fork, lex_behind-fork},
  },
}

-- ---- lemmas about a word that deviates from another

follows_next : (from x : ℕ) (u : List ℕ) (row : ℕ) (rows : List ℕ) (state : ℕ)
    → FollowsSurvivors from (x ∷ u) (row ∷ rows) state →
    FollowsSurvivors (from - 1) u rows (next_trellis_state state x)
follows_next zero x u row rows state follows =
    let is : x ≡ row / 2 ^ state % 2 = cc in
    let rest : u ≡ traceback rows (next_trellis_state state (row / 2 ^ state % 2)) = cc in
    rw is rest
follows_next (suc from) x u row rows state follows = let e : suc from - 1 ≡ from = omega arith in rw e follows

pub record IsDeviation (u rows : List ℕ) (losses : List (List ℤ)) (soft : List ℤ) (state index : ℕ) : Type 0 where
  pub has_metric : metric_from_state state (word_deviating_at u rows state index) soft ≡
      metric_from_state state u soft -ℤ deviation_loss state u losses index
  pub tail_bits : HasTailBits (word_deviating_at u rows state index)
  pub count : length (word_deviating_at u rows state index) ≡ length rows
  pub deviates : DeviatesAt u (word_deviating_at u rows state index) index

pub is_deviation : (from : ℕ) (u rows : List ℕ) (losses : List (List ℤ)) (soft : List ℤ) (state index : ℕ) →
    AreDecisions rows losses soft → state < 16 → HasTailBits u → FollowsSurvivors from u rows state → from ≤ index →
    index + 4 < length rows →
    IsDeviation u rows losses soft state index
is_deviation zero (x ∷ u) (row ∷ rows) (lost ∷ losses) soft state zero kept lt ends follows le within =
    let bit = row / 2 ^ state % 2 in
    let best = survivor-best rows losses (drop 2 soft) kept.2 (omega arith) (next_trellis_state state (1 - bit)) (omega arith) in
    let loss = kept.1.loss_of_each_state state lt (omega arith) in
    rw follows (record {
      has_metric = omega (arith, ints);
      tail_bits = (omega arith, (λ short. absurd (omega (arith, length-traceback))), best.tail_bits);
      count = ap suc (length-traceback rows _);
      deviates = record { in_range = omega arith; equal_before = (λ j lt. absurd (omega arith)); differs = (λ e. omega arith) };
    })
is_deviation from (x ∷ u) (row ∷ rows) (lost ∷ losses) soft state (suc index) kept lt ends follows le within =
    let rest = is_deviation (from - 1) u rows losses (drop 2 soft) (next_trellis_state state x) index kept.2 (omega arith) ends.2
    (follows_next from x u row rows state follows) (omega arith) (omega arith) in
    let gu = metric_from_state-more state x u soft kept.0 in
    let gv = metric_from_state-more state x (word_deviating_at u rows (next_trellis_state state x) index) soft kept.0 in
    let is = rest.has_metric in
    record {
      has_metric = omega (arith, ints);
      tail_bits = (ends.0, (λ short. absurd (let c = rest.count in omega arith)), rest.tail_bits);
      count = ap suc rest.count;
      deviates = DeviatesAt-cons x _ _ index rest.deviates;
    }
is_deviation from u rows losses soft state index kept lt ends follows le within =
    absurd (let n = length-follows from u rows state follows in omega arith)

-- against u, the word w loses more path metric than the loss stored at `index`, or it loses the same and does not come before the best
-- deviating word in lexicographic order
pub record LosesAtLeast (u rows : List ℕ) (losses : List (List ℤ)) (soft : List ℤ) (state index : ℕ) (w : List ℕ) : Type 0 where
  pub in_range : index + 4 < length rows
  pub short : (metric_from_state state w soft <ℤ (metric_from_state state u soft -ℤ deviation_loss state u losses index)) ⊎
      ((metric_from_state state w soft ≡ (metric_from_state state u soft -ℤ deviation_loss state u losses index)) ×
      IsNotLexicographicallyAfter (word_deviating_at u rows state index) w)

loses_at_least : (from : ℕ) (u rows : List ℕ) (losses : List (List ℤ)) (soft : List ℤ) (state index : ℕ) (w : List ℕ) →
    AreDecisions rows losses soft → state < 16 → HasTailBits u → HasTailBits w → length w ≡ length rows →
    FollowsSurvivors from u rows state → from ≤ index → DeviatesAt u w index → LosesAtLeast u rows losses soft state index w
loses_at_least zero (x ∷ u) (row ∷ rows) (lost ∷ losses) soft state zero (y ∷ w) kept lt ends wends same follows le at =
    let bit = row / 2 ^ state % 2 in
    let is : x ≡ bit = cc in
    let n = length-follows zero (x ∷ u) (row ∷ rows) state follows in
    let other = at.differs in
    -- the last four bits of every word are 0, so no word deviates there
    let four : 4 ≤ length rows = elim (cases_lt (length rows) 4) [
      | inl short ↦ absurd (other (ends.1 (omega arith) ∙ sym (wends.1 (omega arith))))
      | inr enough ↦ enough
    ] in
    let flipped : y ≡ 1 - bit = omega arith in
    let best = survivor-best rows losses (drop 2 soft) kept.2 (omega arith) (next_trellis_state state (1 - bit)) (omega arith) in
    let loss = kept.1.loss_of_each_state state lt four in
    let worse = IsNoBetterPath-more state (1 - bit) w _ soft kept.0
    (best.no_other_path_is_better w wends.2 (let m = length-traceback rows (next_trellis_state state (1 - bit)) in omega arith)) in
    rw (flipped, follows) (record {
      in_range = omega arith;
      short = elim worse [
        | LessMetric h ↦ inl (omega (arith, ints))
        | EqualMetricButLater h after ↦ inr (omega (arith, ints), after)
      ];
    })
loses_at_least from (x ∷ u) (row ∷ rows) (lost ∷ losses) soft state (suc index) (y ∷ w) kept lt ends wends same follows le at =
    rw (← at.equal_before 0 (omega arith))
    (later (loses_at_least (from - 1) u rows losses (drop 2 soft) (next_trellis_state state x) index w kept.2 (omega arith) ends.2 wends.2
    (omega arith)
    (follows_next from x u row rows state follows) (omega arith) (DeviatesAt-tail x y u w index at)))
  where
    later : LosesAtLeast u rows losses (drop 2 soft) (next_trellis_state state x) index w →
        LosesAtLeast (x ∷ u) (row ∷ rows) (lost ∷ losses) soft state (suc index) (x ∷ w)
    later rest =
        let gu = metric_from_state-more state x u soft kept.0 in
        let gw = metric_from_state-more state x w soft kept.0 in
        record {
          in_range = let i = rest.in_range in omega arith;
          short = elim rest.short [
            | inl less ↦ inl (omega (arith, ints))
            | inr tie ↦ inr ((let e = tie.0 in omega (arith, ints)), inr (refl, tie.1))
          ];
        }
loses_at_least from u rows losses soft state index w kept lt ends wends same follows le at =
    absurd (let n = length-follows from u rows state follows in let i = at.in_range in omega arith)

pub follows-deviation : (u rows : List ℕ) (state index : ℕ) → length u ≡ length rows → index < length rows →
    FollowsSurvivors (index + 1) (word_deviating_at u rows state index) rows state
follows-deviation (x ∷ u) (row ∷ rows) state zero same within = refl
follows-deviation (x ∷ u) (row ∷ rows) state (suc index) same within =
    let more : suc index + 1 ≡ suc (index + 1) = omega arith in
    rw more (follows-deviation u _ _ _ (omega arith) (omega arith))
follows-deviation u rows state index same within = absurd (omega arith)

pub deviation_written : (u rows : List ℕ) (state index : ℕ) → index < length u → length rows ≡ length u →
    take index u ++ (1 - get_or u index 0) ∷ traceback (drop (index + 1) rows)
    (next_trellis_state (state_after_bits state (take index u)) (1 - get_or u index 0)) ≡ word_deviating_at u rows state index
deviation_written (x ∷ u) (row ∷ rows) state zero within same = refl
deviation_written (x ∷ u) (row ∷ rows) state (suc index) within same =
    let more : suc index + 1 ≡ suc (index + 1) = omega arith in
    rw more (ap (λ rest. x ∷ rest) (deviation_written u _ _ _ (omega arith) (omega arith)))
deviation_written u rows state index within same = absurd (omega arith)

-- ---- lemmas about the most likely word of a class

-- the word of the class is a candidate that follows the survivors from position `from` on, and the class allows no deviation before that
-- position
pub record FollowsFrom (soft : List ℤ) (rows : List ℕ) (losses : List (List ℤ)) (c : DeviationClass) (from : ℕ) : Type 0 where
  pub decisions : AreDecisions rows losses soft
  pub pairs : length soft ≡ 2 * length rows
  pub candidate : IsCandidate soft c.word
  pub follows : FollowsSurvivors from c.word rows 0
  pub later : (k : ℕ) → c.may_deviate_at k ≡ true → from ≤ k

module _ (soft : List ℤ) (rows : List ℕ) (losses : List (List ℤ)) (c : DeviationClass) (from : ℕ)
    (followed : FollowsFrom soft rows losses c from) where
  list_ends : HasTailBits c.word
  list_ends = HasTailBits-from_tail _ followed.candidate.information.bits followed.candidate.information.tail

  same_length : length c.word ≡ length rows
  same_length = length-follows from _ _ 0 followed.follows

  pub LosesAtLeast-in_class : (w : List ℕ) → IsCandidate soft w → (at : IsInClass c w) →
      LosesAtLeast c.word rows losses soft 0 at.index w
  LosesAtLeast-in_class w candidate at =
      loses_at_least from _ _ _ _ 0 _ w followed.decisions (omega arith) list_ends
      (HasTailBits-from_tail w candidate.information.bits candidate.information.tail) (omega arith) followed.follows
      (followed.later _ at.allowed) at.deviates

  module _ (index : ℕ) (least : IsLeastLossFreePosition c.word losses c.may_deviate_at (length c.word - 4) index) where
    abbrev v : List ℕ
    v = word_deviating_at c.word rows 0 index

    inside : index + 4 < length rows
    inside = let i = least.in_range in let n = same_length in let five = followed.candidate.information.count in omega arith

    here : IsDeviation c.word rows losses soft 0 index
    here = is_deviation from c.word rows losses soft 0 index followed.decisions (omega arith) list_ends followed.follows
        (followed.later index least.index_is_free) inside

    pub deviation_value : likelihood soft (encoding v) ≡ likelihood soft (encoding c.word) -ℤ deviation_loss 0 c.word losses index
    deviation_value =
        let gv = metric_from_state-start soft v (HasTailBits-bits v here.tail_bits) in
        let gu = metric_from_state-start soft c.word (HasTailBits-bits c.word list_ends) in
        let g = here.has_metric in
        omega (arith, ints)

    before_at : (w : List ℕ)
        (k : ℕ) → AllBits w → length w ≡ length c.word → k + 4 < length rows → DeviatesAt c.word w k
        → c.may_deviate_at k ≡ true →
        deviation_loss 0 c.word losses k ≡ deviation_loss 0 c.word losses index → k ≢ index → IsLexicographicallyBefore v w
    before_at w k bits long_w within at free tie other =
        let n = here.count in
        let m = same_length in elim (cases_lt k index) [
          | inl early ↦ lex_behind-fork c.word w v k index at here.deviates early bits long_w (omega arith)
              (least.tie_before k early free tie)
          | inr not_early ↦ let late : index < k = omega arith in
              lex_before-fork c.word v w index k here.deviates at late (HasTailBits-bits v here.tail_bits) (omega arith) long_w
              (least.tie_after k late (omega arith) free tie)
        ]

    pub deviation_best : (w : List ℕ) → IsCandidate soft w → IsInClass c w → w ≢ v → RanksAfter soft w v
    deviation_best w candidate at ne =
        let short = LosesAtLeast-in_class w candidate at in
        let gu = metric_from_state-start soft c.word (HasTailBits-bits c.word list_ends) in
        let gw = metric_from_state-start soft w candidate.information.bits in
        let value = deviation_value in
        let low = least.least at.index (let n = same_length in let i = short.in_range in omega arith) at.allowed in
        let count : length w ≡ length v = let a = candidate.count in let b = followed.pairs in let n = here.count in omega arith in
        elim short.short [
          | inl less ↦ inl (omega (arith, ints))
          | inr tie ↦ let e = tie.0 in by_lt_z (deviation_loss 0 c.word losses index) (deviation_loss 0 c.word losses at.index)
              (λ more. inl (omega (arith, ints)))
              (λ not_more.
              let equal : deviation_loss 0 c.word losses at.index ≡ deviation_loss 0 c.word losses index = omega (arith, ints) in
              inr (
                omega (arith, ints),
                elim (same_number at.index index) [
                  | inl there ↦ lex_before-not_after v w candidate.information.bits count
                      (rw there at tie.1) ne
                  | inr elsewhere ↦ before_at w at.index candidate.information.bits (let n = same_length in let m =
                      here.count in omega arith) short.in_range at.deviates at.allowed equal elsewhere
                ],
              ))
        ]

-- ---- lemmas about the two words that `margin` writes

pub record AreFirstTwo (soft : List ℤ) (u v : List ℕ) (margin : ℤ) : Type 0 where
  pub best : IsMostLikely soft u
  pub second : IsSecondMostLikely soft u v
  pub value : margin ≡ likelihood soft (encoding u) -ℤ likelihood soft (encoding v)

pub first_two : (soft : List ℤ) (rows : List ℕ) (losses : List (List ℤ)) (u v : List ℕ) (index state : ℕ) (loss : ℤ) →
    AreDecisions rows losses soft → length soft ≡ 2 * length rows → 5 ≤ length rows → u ≡ traceback rows 0 →
    IsLeastLossPosition u losses (length u - 4) index loss → index + 4 < length u → state ≡ state_after_bits 0 (take index u) →
    v ≡ take index u ++ (1 - get_or u index 0) ∷ traceback (drop (index + 1) rows) (next_trellis_state state (1 - get_or u index 0)) →
    AreFirstTwo soft u v loss
first_two soft rows losses u v index state loss kept pairs five is least within known written =
    let n = length-follows 0 u rows 0 is in
    let best : IsMostLikely soft u = rw is (IsMostLikely-best soft (traceback rows 0) _ (omega (arith, length-traceback)) (omega
    (arith, length-traceback))
    (survivor-best rows losses soft kept (omega arith) 0 (omega arith))) in
    let followed : FollowsFrom soft rows losses (deviations_anywhere u) 0 = record {
      decisions = kept;
      pairs = pairs;
      candidate = record { information = best.information; count = best.count };
      follows = is;
      later = λ k free. omega arith;
    } in
    let free : IsLeastLossFreePosition u losses (λ k. true) (length u - 4) index = record {
      in_range = omega arith;
      index_is_free = refl;
      least = λ k lt free. rw (← least.value) (least.least k lt);
      tie_before = λ k lt free tie. least.tie_before k lt (tie ∙ sym least.value);
      tie_after = λ k late lt free tie. least.tie_after k late lt (tie ∙ sym least.value);
    } in
    let here = here soft rows losses (deviations_anywhere u) 0 followed index free in
    let value = deviation_value soft rows losses (deviations_anywhere u) 0 followed index free in
    rw (written, known, deviation_written u rows 0 index (omega arith) (sym n)) (record {
      best = best;
      second = record {
        candidate = record {
          information = IsEncoderInput-ends _ (let m = here.count in omega arith) here.tail_bits;
          count = (let m = here.count in omega arith);
        };
        differs = λ e. here.deviates.differs (ap (λ w. get_or w index 0) (sym e));
        others = λ w is_w other. let at = deviates u w (let m = is_w.count in omega arith) other in
            deviation_best soft rows losses (deviations_anywhere u) 0 followed index free w is_w
            (record { index = at.0; deviates = at.1; allowed = refl });
      };
      value = let is = least.value in omega (arith, ints);
    })
