-- The report of list decoding is unique.
use Rattle.{
  list_decode.{proofs.Lemmas.{beginning_is_ranked, most_likely_is_ranked, one_ranking}, specs.Ranking.{IsCandidate, IsRanked}},
  std.{
    proofs.{
      Common.{List, None, Option, Some, [], ap, ap₂, arith, drop, false, get_or, inl, inr, length-append, length, map, refl, subst, suc},
      Common.{sym, take, true, zero, ℕ, ℤ, ◌++◌, ◌+◌, ◌<◌, ◌∙◌, ◌∷◌, ◌≡◌, ◌≢◌, ◌≤◌},
      Math.Seq.get_or-append_seam,
      lemmas.{Bool.cases_lt, List.Elements.{All-contains, All-cons, All-nil, All-take, Contains-append_cases, Contains-append_right}},
      lemmas.List.{length-take-le, take-append-drop},
    },
    specs.{List.{All, Contains}, Prelude.{IsNone, IsSome, MatchOption, ◌↔◌}},
  },
  um_list_receive.specs.{
    ListDecoding.{BlockCrcHolds, IsFirstCrcMatch, IsListDecodedBlock, IsListDecoderChoice, NoCrcHolds},
    declared.reports.ListDecodedBlock.ListDecodedBlock,
  },
  um_block.{
    proofs.{burst_map.training_seq.Lemmas.one_first_greatest, conv_code.Lemmas.IsMostLikely-only, interleave.Bursts.same_coded},
    specs.{Received.{IsReceivedBlock, coded_soft_bits, wrong_training_bits}, bit_blocks.{Octets.octets_of, SoftValues.likelihood}},
    specs.{conv_code.{Code.{IsEncoderInput, encoding}, Likelihood.{IsMostLikely, RanksAfter}}, declared.received.Received.Received},
    specs.interleave.Bursts.IsInterleaved,
  },
}

-- ## FirstCrcMatch: The first word whose CRC holds is unique, and it is the most likely of all words whose CRC holds.

pub never : false ≡ true → ⊥
never e = cc

All-last : {X : Type 0} (P : X → Type 0) (xs : List X) (x : X) → All P (xs ++ x ∷ []) → P x
All-last P xs x all = All-contains P _ x all (Contains-append_right xs _ x (0, omega arith, refl))

only_one : (u v : List ℕ) → Contains (u ∷ []) v → v ≡ u
only_one u v (zero, lt, e) = sym e
only_one u v (suc k, lt, e) = absurd (omega arith)

alone : (s : List ℤ) (earlier_words : List (List ℕ)) (u : List ℕ) → IsRanked s (earlier_words ++ u ∷ []) →
    length earlier_words ≡ 0 → IsMostLikely s u
alone s [] u ranked none = (most_likely_is_ranked s u).1 ranked
alone s (v ∷ earlier_words) u ranked none = absurd (omega arith)

module _ (CrcHolds : List ℕ → Type 0) (s : List ℤ) (most : ℕ) where
  fails_earlier : (earlier_words us : List (List ℕ)) (u : List ℕ) → IsRanked s (earlier_words ++ u ∷ []) → IsRanked s us →
      length earlier_words + 1 ≤ length us → All (λ v. ¬ CrcHolds v) us → CrcHolds u → ⊥
  fails_earlier earlier_words us u ranked ranked' few crcs_fail holds =
      let Fails : List ℕ → Type 0 = λ v. ¬ CrcHolds v in
      let tried = earlier_words ++ u ∷ [] in
      let n = length tried in
      -- the shorter of two rankings is a prefix of the longer
      let begins = beginning_is_ranked s (take n us) (drop n us) (rw (take-append-drop n us) ranked') in
      let few_words : n ≤ length us = omega (arith, length-append earlier_words (u ∷ [])) in
      let same = one_ranking s tried (take n us) ranked begins (sym (length-take-le n us few_words)) in
      All-last Fails earlier_words u (subst (All Fails) (sym same) (All-take Fails n us crcs_fail)) holds

  later : (r r' : ℕ) (u u' : List ℕ) (h : IsFirstCrcMatch CrcHolds s most r u) (g : IsFirstCrcMatch CrcHolds s most r' u') →
      length h.earlier_words < length g.earlier_words → ⊥
  later r r' u u' h g less =
      fails_earlier h.earlier_words g.earlier_words u h.ranked (beginning_is_ranked s g.earlier_words (u' ∷ []) g.ranked) (omega arith)
      g.crcs_fail h.crc_holds

  one_first : (r r' : ℕ) (u u' : List ℕ) → IsFirstCrcMatch CrcHolds s most r u → IsFirstCrcMatch CrcHolds s most r' u' →
      (r ≡ r') × (u ≡ u')
  one_first r r' u u' h g = elim (cases_lt (length h.earlier_words) (length g.earlier_words)) [
    | inl less ↦ absurd (later r r' u u' h g less)
    | inr many ↦ elim (cases_lt (length g.earlier_words) (length h.earlier_words)) [
      | inl less ↦ absurd (later r' r u' u g h less)
      | inr few ↦
          let e : length h.earlier_words ≡ length g.earlier_words = omega arith in
          let whole = one_ranking s (h.earlier_words ++ u ∷ []) (g.earlier_words ++ u' ∷ []) h.ranked g.ranked
          (simp length-append (ap (λ n. n + 1) e)) in (
            h.rank_follows_earlier_words ∙ ap (λ n. n + 1) e ∙ sym g.rank_follows_earlier_words,
            sym (get_or-append_seam h.earlier_words u [] [])
                ∙ ap₂ (λ us n. get_or us n []) whole e
                ∙ get_or-append_seam g.earlier_words u' [] [],
          )
    ]
  ]

  candidate : (r : ℕ) (u : List ℕ) → IsFirstCrcMatch CrcHolds s most r u → IsCandidate s u
  candidate r u h = All-last (IsCandidate s) h.earlier_words u h.ranked.ranked_words_are_candidates

  not_both : (r : ℕ) (u : List ℕ) → IsFirstCrcMatch CrcHolds s most r u → NoCrcHolds CrcHolds s most → ⊥
  not_both r u h none = elim none.all_tried [
    | inl many ↦ fails_earlier h.earlier_words none.tried_words u h.ranked none.ranked (omega (
      arith,
      h.rank_follows_earlier_words,
      h.rank_limit,
      many,
    ))
        none.crcs_fail h.crc_holds
    | inr all ↦ All-contains (λ v. ¬ CrcHolds v) none.tried_words u none.crcs_fail (all u (candidate r u h)) h.crc_holds
  ]

  pub taken_once : {X : Type 0} (data_of : List ℕ → X) (r r' : ℕ) (u u' : List ℕ) (a a' : Option X) →
      IsListDecoderChoice CrcHolds data_of s most r u a →
      IsListDecoderChoice CrcHolds data_of s most r' u' a' → (r ≡ r') × (u ≡ u') × (a ≡ a')
  taken_once data_of r r' u u' None None h g = (h.2 ∙ sym g.2, IsMostLikely-only s u' u g.1 h.1, refl)
  taken_once data_of r r' u u' None (Some x) h g = absurd (not_both r' u' g.0 h.0)
  taken_once data_of r r' u u' (Some x) None h g = absurd (not_both r u h.0 g.0)
  taken_once data_of r r' u u' (Some x) (Some x') h g =
      let same = one_first r r' u u' h.0 g.0 in
      (same.0, same.1, ap Some (h.1 ∙ ap data_of same.1 ∙ sym g.1))

  pub taken_lost : {X : Type 0} (data_of : List ℕ → X) (r : ℕ) (u : List ℕ) (a : Option X) →
      IsListDecoderChoice CrcHolds data_of s most r u a → (IsNone a ↔ NoCrcHolds CrcHolds s most)
  taken_lost data_of r u None h = (λ _. h.0, λ _. refl)
  taken_lost data_of r u (Some x) h = (λ e. absurd (never (sym e)), λ none. absurd (not_both r u h.0 none))

  most_likely_holds : (u : List ℕ) → 1 ≤ most → IsMostLikely s u → CrcHolds u → IsFirstCrcMatch CrcHolds s most 1 u
  most_likely_holds u some best holds = record {
    earlier_words = [];
    ranked = (most_likely_is_ranked s u).0 best;
    rank_follows_earlier_words = refl;
    rank_limit = some;
    crcs_fail = All-nil _;
    crc_holds = holds;
  }

  -- ---- lemmas about the word that the list decoder takes

  pub taken_best : {X : Type 0} (data_of : List ℕ → X) (r : ℕ) (u : List ℕ) (a : Option X) →
      IsListDecoderChoice CrcHolds data_of s most r u a → IsSome a → (v : List ℕ) → IsCandidate s v → CrcHolds v → v ≢ u →
      RanksAfter s v u
  taken_best data_of r u None h some v is holds ne = absurd (never some)
  taken_best data_of r u (Some x) (h, _) some v is holds ne = elim (h.ranked.others v is) [
    | inl returned ↦ elim (Contains-append_cases h.earlier_words _ v returned) [
      | inl early ↦ absurd (All-contains (λ v. ¬ CrcHolds v) h.earlier_words v h.crcs_fail early holds)
      | inr here ↦ absurd (ne (only_one u v here))
    ]
    | inr behind ↦ All-last (RanksAfter s v) h.earlier_words u behind
  ]

  pub taken_first : {X : Type 0} (data_of : List ℕ → X) (r : ℕ) (u : List ℕ) (a : Option X) → 1 ≤ most → r ≡ 1 →
      IsListDecoderChoice CrcHolds data_of s most r u a → IsMostLikely s u
      × MatchOption a (¬ CrcHolds u) (λ x. CrcHolds u × (x ≡ data_of u))
  taken_first data_of r u None some e h = (h.1, λ holds. not_both 1 u (most_likely_holds u some h.1 holds) h.0)
  taken_first data_of r u (Some x) some e h =
      (alone s h.0.earlier_words u h.0.ranked (omega (arith, h.0.rank_follows_earlier_words, e)), (h.0.crc_holds, h.1))

  pub taken_of_one : {X : Type 0} (data_of : List ℕ → X) (r : ℕ) (u : List ℕ) (a : Option X) → most ≡ 1 →
      IsListDecoderChoice CrcHolds data_of s most r u a → r ≡ 1
  taken_of_one data_of r u None e h = h.2
  taken_of_one data_of r u (Some x) e h = omega (arith, h.0.rank_follows_earlier_words, h.0.rank_limit)

  pub taken_at_once : {X : Type 0} (data_of : List ℕ → X) (u : List ℕ) (a : Option X) → 1 ≤ most → IsMostLikely s u →
      MatchOption a (¬ CrcHolds u) (λ x. CrcHolds u × (x ≡ data_of u)) → IsSome a →
      IsListDecoderChoice CrcHolds data_of s most 1 u a
  taken_at_once data_of u None some best h is = absurd (never is)
  taken_at_once data_of u (Some x) some best h is = (most_likely_holds u some best h.0, h.1)

  pub taken_found : {X : Type 0} (data_of : List ℕ → X) (r : ℕ) (soft : List ℤ) (u v : List ℕ) (a : Option X) → soft ≡ s →
      v ≡ u → IsFirstCrcMatch CrcHolds soft most r u → MatchOption a (¬ CrcHolds u) (λ x. CrcHolds u × (x ≡ data_of u)) →
      IsListDecoderChoice CrcHolds data_of s most r v a
  taken_found data_of r soft u v None is same first h = absurd (h first.crc_holds)
  taken_found data_of r soft u v (Some x) is same first h = (rw (same, ← is) first, h.1 ∙ ap data_of (sym same))

  pub taken_none : {X : Type 0} (data_of : List ℕ → X) (soft : List ℤ) (u : List ℕ) (a : Option X) → soft ≡ s →
      NoCrcHolds CrcHolds soft most → IsMostLikely s u → ¬ IsSome a → IsListDecoderChoice CrcHolds data_of s most 1 u a
  taken_none data_of soft u None is none best lacks = (rw (← is) none, best, refl)
  taken_none data_of soft u (Some x) is none best lacks = absurd (lacks refl)

  pub taken_information : {X : Type 0} (data_of : List ℕ → X) (r : ℕ) (u : List ℕ) (a : Option X) →
      IsListDecoderChoice CrcHolds data_of s most r u a → IsEncoderInput u
  taken_information data_of r u None h = h.1.information
  taken_information data_of r u (Some x) h = (candidate r u h.0).information

-- ## UniqueReports: The report is unique. If the word of rank 1 is taken, the report is that of `receive_block`.

same_report : {R : Type 0} (make : ℕ → List ℕ → ℤ → ℕ → ℕ → Option (List ℕ) →
    R) {n n' c c' d d' : ℕ} {a a' : List ℕ} {b b' : ℤ}
    {e e' : Option (List ℕ)} → n ≡ n' → a ≡ a' → b ≡ b' → c ≡ c' → d ≡ d' → e ≡ e' →
    make n a b c d e ≡ make n' a' b' c' d' e'
same_report make rank u metric tsc wrong accepted = cc

abbrev pub octets_if_crc_holds : List ℕ → List ℕ
octets_if_crc_holds u = octets_of (take 184 u)

module _ (bursts : List (List ℤ)) (most : ℕ) where
  taken_at : (r : ListDecodedBlock) → IsListDecodedBlock bursts most r → (soft : List ℤ) →
      IsInterleaved soft (map coded_soft_bits bursts) → IsListDecoderChoice BlockCrcHolds octets_if_crc_holds soft most r.rank r.report.u
      r.report.accepted
  taken_at r h soft deinterleaved = rw (same_coded _ _ _ deinterleaved h.deinterleaved) h.choice

  pub one_block_among : (r r' : ListDecodedBlock) → IsListDecodedBlock bursts most r → IsListDecodedBlock bursts most r' → r ≡ r'
  one_block_among r r' h g =
      let soft : h.soft ≡ g.soft = same_coded h.soft g.soft (map coded_soft_bits bursts) h.deinterleaved g.deinterleaved in
      let same = taken_once BlockCrcHolds g.soft most octets_if_crc_holds r.rank r'.rank r.report.u r'.report.u
      r.report.accepted r'.report.accepted (taken_at r h g.soft g.deinterleaved) g.choice in
      let tsc = one_first_greatest _ 7 _ _ h.tsc g.tsc in
      same_report (λ n a b c d e. record { report = record { u = a; metric = b; tsc = c; wrong_training = d; accepted = e }; rank = n })
      same.0 same.1 (h.metric ∙ ap₂ (λ s v. likelihood s (encoding v)) soft same.1 ∙ sym g.metric) tsc
      (h.wrong_training ∙ ap (wrong_training_bits bursts) tsc ∙ sym g.wrong_training) same.2

  pub block_best : (r : ListDecodedBlock) → IsListDecodedBlock bursts most r → IsSome r.report.accepted →
      (soft : List ℤ) (v : List ℕ) → IsInterleaved soft (map coded_soft_bits bursts) → IsCandidate soft v → BlockCrcHolds v →
      v ≢ r.report.u → RanksAfter soft v r.report.u
  block_best r h some soft v deinterleaved =
      taken_best BlockCrcHolds _ most octets_if_crc_holds r.rank _ r.report.accepted (taken_at r h _ deinterleaved) some v

  pub block_none : (r : ListDecodedBlock) → IsListDecodedBlock bursts most r → (soft : List ℤ) →
      IsInterleaved soft (map coded_soft_bits bursts) → (IsNone r.report.accepted ↔ NoCrcHolds BlockCrcHolds soft most)
  block_none r h soft deinterleaved =
      taken_lost BlockCrcHolds soft most octets_if_crc_holds r.rank r.report.u r.report.accepted (taken_at r h soft deinterleaved)

  pub block_information : (r : ListDecodedBlock) → IsListDecodedBlock bursts most r → IsEncoderInput r.report.u
  block_information r h =
      taken_information BlockCrcHolds h.soft most octets_if_crc_holds r.rank _ r.report.accepted h.choice

  pub block_at_once : (r : Received) → 1 ≤ most → IsReceivedBlock bursts r → IsSome r.accepted →
      IsListDecodedBlock bursts most (record { report = r; rank = 1 })
  block_at_once r some h accepted = record {
    soft = h.soft;
    deinterleaved = h.deinterleaved;
    choice = taken_at_once _ _ _ octets_if_crc_holds r.u _ some h.best h.accepted accepted;
    metric = h.metric;
    tsc = h.tsc;
    wrong_training = h.wrong_training;
  }

  pub block_first : (r : ListDecodedBlock) → 1 ≤ most → IsListDecodedBlock bursts most r → (alone : Received) →
      IsReceivedBlock bursts alone → IsSome alone.accepted → r ≡ record { report = alone; rank = 1 }
  block_first r some h alone received accepted =
      one_block_among r (record { report = alone; rank = 1 }) h (block_at_once alone some received accepted)

-- ---- lemmas about access bursts: the report is unique, and which word is taken

-- ## FirstWords: The search begins after the most likely word, whose CRC fails.

pub block_first_word : (bursts : List (List ℤ)) (r : Received) (soft : List ℤ) → IsReceivedBlock bursts r →
    IsInterleaved soft (map coded_soft_bits bursts) → IsMostLikely soft r.u × (r.metric ≡ likelihood soft (encoding r.u))
block_first_word bursts r soft h deinterleaved =
    let same : soft ≡ h.soft = same_coded _ h.soft (map _ _) deinterleaved h.deinterleaved in
    (subst (λ s. IsMostLikely s r.u) (sym same) h.best, h.metric ∙ ap (λ s. likelihood s (encoding r.u)) (sym same))

pub one_tried : (P : List ℕ → Type 0) (soft : List ℤ) (u : List ℕ) → IsMostLikely soft u → ¬ P u → NoCrcHolds P soft 1
one_tried P soft u best fails = record {
  tried_words = u ∷ [];
  ranked = (most_likely_is_ranked soft u).0 best;
  all_tried = inl refl;
  crcs_fail = All-cons (λ v. ¬ P v) u [] fails (All-nil _);
}
