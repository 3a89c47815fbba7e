-- Lemmas about the comparison of the two most likely words.
use Rattle.{
  list_decode.{
    proofs.{Lemmas.{IsLikelihoodMargin-second, both_unique, one_margin}, SecondWord.IsSecondMostLikely-second_most_likely},
    proofs.weight_bound.Lemmas.{Between, all_places, at_least_seven},
    specs.{Ranking.{HasTiedWord, IsCandidate}, SecondWord.second_most_likely, weight_bound.Distance.distance},
  },
  std.proofs.Common.{List, [], ap, ap₂, arith, inl, inr, length, map, pos, refl, sym, ℕ, ℤ, ◌*◌, ◌+ℤ◌, ◌-ℤ◌, ◌-◌},
  std.proofs.{Common.{◌∙◌, ◌≡◌, ◌≢◌, ◌≤◌}, Math.Logic.◌↔◌, lemmas.{Int.ints, List.Elements.All-weaker}},
  std.specs.{List.All, Prelude.{unsigned_abs, ◌≤ℤ◌}},
  um_block.{
    proofs.{conv_code.Lemmas.{AllBits-coded, IsMostLikely-only, length-coded}, interleave.Bursts.{IsInterleaved-deinterleaved, same_coded}},
    proofs.{ComputedReports.block_computed, trellis_decode.Lemmas.IsMostLikely-most_likely},
    specs.{Received.{IsReceivedBlock, coded_soft_bits}, bit_blocks.SoftValues.{count_wrong_bits, likelihood}},
    specs.{interleave.Bursts.{IsInterleaved, deinterleaved}, conv_code.{Code.encoding, Likelihood.IsMostLikely}},
    specs.{declared.received.Received.Received, trellis_decode.MostLikely.most_likely},
  },
  um_margin.specs.Compared.{AreTwoMostLikelyBlockWords, AreTwoMostLikelyWords, TwoMostLikelyWords, compared_block_words, compared_words},
}

-- ## Comparing: For any soft bits, there is exactly one comparison of the two most likely words.

-- ---- soft bits have at most one comparison of their two most likely words

pub one_compared : (soft : List ℤ) (c d : TwoMostLikelyWords) → AreTwoMostLikelyWords soft c → AreTwoMostLikelyWords soft d →
    c ≡ d
one_compared soft c d h g =
    let same = both_unique soft d.best d.next c.best c.next g.best g.next h.best h.next in
    let make : List ℕ → List ℕ → ℤ → ℤ → TwoMostLikelyWords =
    λ a b m n. record { best = a; next = b; margin = m; metric = n } in
    ap₂ (λ a b. make a b c.margin c.metric) same.0 same.1
    ∙ ap₂ (make d.best d.next) (one_margin soft d.best c.margin d.margin (rw same.0 at h.margin) g.margin)
    (h.metric ∙ ap (λ u. likelihood soft (encoding u)) same.0 ∙ sym g.metric)

-- ---- `margin` finds the same most likely word as `replay`

pub same_word : (soft : List ℤ) (u : List ℕ) (metric : ℤ) (c : TwoMostLikelyWords) → IsMostLikely soft u →
    metric ≡ likelihood soft (encoding u) → AreTwoMostLikelyWords soft c → (c.best ≡ u) × (c.metric ≡ metric)
same_word soft u metric c best is h =
    let same = IsMostLikely-only soft u c.best best h.best in
    (same, h.metric ∙ ap (λ v. likelihood soft (encoding v)) same ∙ sym is)

pub same_block_word : (bursts : List (List ℤ)) (r : Received) (c : TwoMostLikelyWords) → IsReceivedBlock bursts r →
    AreTwoMostLikelyBlockWords bursts c → (c.best ≡ r.u) × (c.metric ≡ r.metric)
same_block_word bursts r c received h =
    same_word received.soft r.u r.metric c received.best received.metric
    (rw (same_coded h.soft received.soft _ h.deinterleaved received.deinterleaved) at h.compared)

-- ---- the comparison as a function

pub AreTwoMostLikelyWords-compared_words : (soft : List ℤ) (n : ℕ) → length soft ≡ 2 * n → 5 ≤ n →
    AreTwoMostLikelyWords soft (compared_words soft)
AreTwoMostLikelyWords-compared_words soft n pairs long =
    let next = IsSecondMostLikely-second_most_likely soft n pairs long in record {
      best = IsMostLikely-most_likely soft n pairs long;
      next = next;
      margin = IsLikelihoodMargin-second soft (most_likely soft) (second_most_likely soft) _ next refl;
      margin_is_difference = refl;
      metric = refl;
    }

pub compared_words-only : (soft : List ℤ) (n : ℕ) (c : TwoMostLikelyWords) → length soft ≡ 2 * n → 5 ≤ n →
    AreTwoMostLikelyWords soft c →
    c ≡ compared_words soft
compared_words-only soft n c pairs long h = one_compared soft c _ h (AreTwoMostLikelyWords-compared_words soft n pairs long)

pub deinterleaved-only : (soft : List ℤ) (parts : List (List ℤ)) → IsInterleaved soft parts → soft ≡ deinterleaved (pos 0) parts
deinterleaved-only soft parts h =
    same_coded soft _ parts h (IsInterleaved-deinterleaved (pos 0) parts h.burst_count h.burst_lengths)

pub compared_block_words-only : (bursts : List (List ℤ)) (c : TwoMostLikelyWords) → AreTwoMostLikelyBlockWords bursts c →
    c ≡ compared_block_words bursts
compared_block_words-only bursts c h =
    compared_words-only h.soft 228 c h.deinterleaved.coded_count (omega arith) h.compared
    ∙ ap compared_words (deinterleaved-only h.soft _ h.deinterleaved)

pub AreTwoMostLikelyBlockWords-compared_block_words : (bursts : List (List ℤ)) → length bursts ≡ 4 →
    All (λ burst. length burst ≡ 148) bursts → AreTwoMostLikelyBlockWords bursts (compared_block_words bursts)
AreTwoMostLikelyBlockWords-compared_block_words bursts four each =
    let parts = (block_computed bursts four each).deinterleaved in
    let spread = IsInterleaved-deinterleaved (pos 0) (map coded_soft_bits bursts) parts.burst_count parts.burst_lengths in record {
      soft = deinterleaved (pos 0) (map coded_soft_bits bursts);
      deinterleaved = spread;
      compared = AreTwoMostLikelyWords-compared_words _ 228 spread.coded_count (omega arith);
    }

-- ## Ahead: The margin of the most likely word is 0 if and only if another word has the same path metric. For hard bits with few errors,
-- the margin is large: two codewords differ in at least seven bits, and each wrong bit cancels a correct one.

bounds : (s : List ℤ) (u v : List ℕ) → IsMostLikely s u → IsCandidate s v → v ≢ u →
    likelihood s (encoding v) ≤ℤ likelihood s (encoding u)
bounds s u v best is ne =
    elim (best.others v is.information (omega (arith, best.count, is.count)) ne) [
      | inl less ↦ omega (arith, ints)
      | inr tie ↦ omega (arith, ints, tie.0)
    ]

pub zero_margin_is_tie : (soft : List ℤ) (c : TwoMostLikelyWords) → AreTwoMostLikelyWords soft c →
    (c.margin ≡ pos 0) ↔ HasTiedWord soft c.best
zero_margin_is_tie soft c h =
    let m = h.margin in (
      λ e. record {
        tied_word = m.nearest_word;
        candidate = m.candidate;
        differs = m.differs;
        equal = omega (arith, ints, m.margin_reached, e);
      },
      λ tie. omega (
        arith,
        ints,
        m.least tie.tied_word tie.candidate tie.differs,
        tie.equal,
        m.margin_reached,
        bounds soft c.best m.nearest_word h.best m.candidate m.differs,
      ),
    )

-- two codewords differ in at least seven bits
pub hard_margin_law : (soft : List ℤ) (c : TwoMostLikelyWords) (e : ℕ) → AreTwoMostLikelyWords soft c →
    All (λ value. unsigned_abs value ≡ 127) soft → count_wrong_bits soft (encoding c.best) ≡ e → e ≤ 3 →
    pos (254 * (7 - 2 * e)) ≤ℤ c.margin
hard_margin_law soft c e h hard wrong few =
    let u = c.best in
    let v = c.next in
    let best = h.best in
    let is = h.next.candidate in
    let same : length u ≡ length v = omega (arith, best.count, is.count) in
    let between = All-weaker (λ value. unsigned_abs value ≡ 127) (Between 127 127) (λ value h. (omega arith, omega arith)) soft hard in
    let sums = all_places soft (encoding u) (encoding v) 127 127 (best.count ∙ sym (length-coded u)) (is.count ∙ sym (length-coded v))
    (AllBits-coded u) (AllBits-coded v) between in
    let seven = at_least_seven u v best.information is.information same (λ e. h.next.differs (sym e)) in
    rw h.margin_is_difference
    (weighed (likelihood soft (encoding u)) (likelihood soft (encoding v)) (distance (encoding u) (encoding v))
    (count_wrong_bits soft (encoding u)) e sums seven wrong few)
  where
    weighed : (a b : ℤ) (d w e : ℕ) → (b +ℤ pos (2 * (127 * d))) ≤ℤ (a +ℤ pos (2 * (254 * w))) → 7 ≤ d → w ≡ e →
        e ≤ 3 → pos (254 * (7 - 2 * e)) ≤ℤ (a -ℤ b)
    weighed a b d w e sums seven wrong few = omega (arith, ints)
