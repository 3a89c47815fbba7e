-- The classes of the words not returned yet, and which they are after one more word is returned.
use Rattle.{
  list_decode.{
    proofs.Rankings.{Contains-cases, Contains-here, Contains-middle, IsRanked-more, IsRanked-most_likely},
    specs.Classes.{AreDisjoint, DeviatesAt, DeviationClass, IsInClass, NextInRankingIsBestOfAllClasses, PartitionsUnreturnedWords},
    specs.Classes.{RankingBeginsWithMostLikelyWord, RankingIsCompleteIfClassesEmpty, deviations_after_index, without_position},
    specs.Ranking.{IsCandidate, IsRanked},
  },
  std.proofs.Common.{Bool, List, [], ap, ap₂, arith, get_or, inl, inr, length, refl, subst, suc, sym, true, zero, ℕ, ℤ, ◌++◌},
  std.proofs.{Common.{◌<◌, ◌∙◌, ◌∷◌, ◌≡◌, ◌≢◌, ◌⊎◌}, lemmas.{Bool.cases_lt, List.Elements.All-append}},
  std.proofs.lemmas.List.Elements.{All-cons, All-contains, All-from_recursion, All-head, All-nil, All-tail, All-weaker},
  std.proofs.lemmas.List.Elements.{Contains-append_cases, Contains-append_left, Contains-append_right, Contains-push, Contains-push_cases},
  std.specs.List.{All, Contains},
  weight_bound.{
    proofs.conv_code.Lemmas.{bit_at-most_1, same_list, same_number},
    specs.{bit_blocks.Bits.AllBits, conv_code.Likelihood.{IsLexicographicallyBefore, IsMostLikely, RanksAfter}},
  },
}

-- ## ClassSteps: The classes of the words not returned yet, after one more word is returned.

-- ---- lemmas about the position at which one word deviates from another

pub DeviatesAt-cons : (x : ℕ) (u w : List ℕ) (index : ℕ) → DeviatesAt u w index → DeviatesAt (x ∷ u) (x ∷ w) (suc index)
DeviatesAt-cons x u w index h = record { in_range = omega arith; equal_before = same; differs = h.differs } where
  same : (j : ℕ) → j < suc index → get_or (x ∷ u) j 0 ≡ get_or (x ∷ w) j 0
  same zero lt = refl
  same (suc j) lt = h.equal_before j (omega arith)

pub DeviatesAt-tail : (x y : ℕ) (u w : List ℕ) (index : ℕ) → DeviatesAt (x ∷ u) (y ∷ w) (suc index) → DeviatesAt u w index
DeviatesAt-tail x y u w index at = record {
  in_range = (let i = at.in_range in omega arith);
  equal_before = λ j lt. at.equal_before (suc j) (omega arith);
  differs = at.differs;
}

pub deviates : (u w : List ℕ) → length w ≡ length u → w ≢ u → (index : ℕ) × DeviatesAt u w index
deviates [] [] same ne = absurd (ne refl)
deviates (x ∷ u) (y ∷ w) same ne = elim (same_number x y) [
  | inl equal ↦
      let rest = deviates u w (omega arith) (λ e. ne (ap₂ (λ z zs. z ∷ zs) (sym equal) e)) in
      (suc rest.0, subst (λ y. DeviatesAt (x ∷ u) (y ∷ w) (suc rest.0)) equal (DeviatesAt-cons x u w rest.0 rest.1))
  | inr other ↦ (0, record { in_range = omega arith; equal_before = (λ j lt. absurd (omega arith)); differs = other })
]
deviates u w same ne = absurd (omega arith)

pub DeviatesAt-unique : (u w : List ℕ) (p q : ℕ) → DeviatesAt u w p → DeviatesAt u w q → p ≡ q
DeviatesAt-unique u w p q h g = grind arith

pub DeviatesAt-earlier : (u v w : List ℕ) (p q : ℕ) → length v ≡ length u → DeviatesAt u v p → DeviatesAt v w q → p < q →
    DeviatesAt u w p
DeviatesAt-earlier u v w p q same h g lt = record {
  in_range = h.in_range;
  equal_before = (λ j before. h.equal_before j before ∙ g.equal_before j (omega arith));
  differs = (λ e. h.differs (e ∙ sym (g.equal_before p lt)));
}

pub DeviatesAt-later : (u v w : List ℕ) (p q : ℕ) → AllBits u → AllBits v → AllBits w → DeviatesAt u v p →
    DeviatesAt u w p →
    DeviatesAt v w q → p < q
DeviatesAt-later u v w p q bits_u bits_v bits_w h g other = elim (cases_lt p q) [
  | inl less ↦ less
  | inr not_less ↦ absurd (elim (cases_lt q p) [
    | inl before ↦ other.differs (sym (h.equal_before q before) ∙ g.equal_before q before)
    | inr at ↦
        let x = bit_at-most_1 u p bits_u in
        let y = bit_at-most_1 v p bits_v in
        let z = bit_at-most_1 w p bits_w in
        let xy = h.differs in
        let xz = g.differs in
        let e : q ≡ p = omega arith in
        other.differs (rw e (omega arith))
  ])
]

pub lex_before-deviates : (u v : List ℕ) (p : ℕ) → DeviatesAt u v p → get_or u p 0 ≡ 0 → get_or v p 0 ≢ 0
    → IsLexicographicallyBefore u v
lex_before-deviates u v p at none one =
    record { place = p; in_range = at.in_range; equal_before = at.equal_before; zero = none; differs = one }

pub lex_behind-deviates : (u v : List ℕ) (p : ℕ) → DeviatesAt u v p → length v ≡ length u → get_or v p 0 ≡ 0 →
    get_or u p 0 ≢ 0
    →
    IsLexicographicallyBefore v u
lex_behind-deviates u v p at same none one = record {
  place = p;
  in_range = (let i = at.in_range in omega arith);
  equal_before = λ j lt. sym (at.equal_before j lt);
  zero = none;
  differs = one;
}

-- if v deviates from u where w still agrees with u, then v and w first differ there
module _ (u v w : List ℕ) (p q : ℕ) (lv : DeviatesAt u v p) (lw : DeviatesAt u w q) (early : p < q) (bits_v : AllBits v)
    (long_v : length v ≡ length u) (long_w : length w ≡ length u) where
  pub lex_before-fork : get_or u p 0 ≡ 1 → IsLexicographicallyBefore v w
  lex_before-fork one =
      let bit = bit_at-most_1 v p bits_v in
      let other = lv.differs in
      let same = lw.equal_before p early in
      record {
        place = p;
        in_range = omega arith;
        equal_before = (λ j lt. sym (lv.equal_before j lt) ∙ lw.equal_before j (omega arith));
        zero = omega arith;
        differs = (λ e. omega arith);
      }

  pub lex_behind-fork : get_or u p 0 ≡ 0 → IsLexicographicallyBefore w v
  lex_behind-fork none =
      let other = lv.differs in
      record {
        place = p;
        in_range = omega arith;
        equal_before = (λ j lt. sym (lw.equal_before j (omega arith)) ∙ lv.equal_before j lt);
        zero = sym (lw.equal_before p early) ∙ none;
        differs = (λ e. omega arith);
      }

pub equal_lengths : (s : List ℤ) (u v : List ℕ) → IsCandidate s u → IsCandidate s v → length v ≡ length u
equal_lengths s u v hu hv = omega arith

-- ---- lemmas about the two parts of a class without its word v

pub without_position-free : (c : DeviationClass) (index k : ℕ) → (without_position c index).may_deviate_at k ≡ true →
    (k ≢ index) × (c.may_deviate_at k ≡ true)
without_position-free c index k h = ((λ same. grind arith), grind arith)

pub free-without_position : (c : DeviationClass) (index k : ℕ) → k ≢ index → c.may_deviate_at k ≡ true →
    (without_position c index).may_deviate_at k ≡ true
free-without_position c index k ne h = grind arith

without_position-within : (c : DeviationClass) (index : ℕ) (w : List ℕ) → IsInClass (without_position c index) w → IsInClass c w
without_position-within c index w h = record {
  index = h.index;
  deviates = h.deviates;
  allowed =
      (without_position-free c index _ h.allowed).1;
}

pub deviations_after_index-index : (v : List ℕ) (index k : ℕ) → (deviations_after_index v index).may_deviate_at k ≡ true →
    index < k
deviations_after_index-index v index k h = grind (arith)

pub index-deviations_after_index : (v : List ℕ) (index k : ℕ) → index < k →
    (deviations_after_index v index).may_deviate_at k ≡ true
index-deviations_after_index v index k h = grind (arith)

module _ (s : List ℤ) (c : DeviationClass) (v : List ℕ) (index : ℕ) (list : IsCandidate s c.word) (is : IsCandidate s v)
    (left : DeviatesAt c.word v index) (free : c.may_deviate_at index ≡ true) where
  deviations_after_index-within : (w : List ℕ) → IsInClass (deviations_after_index v index) w → IsInClass c w
  deviations_after_index-within w h = record {
    index = index;
    deviates = DeviatesAt-earlier _ v w _ h.index (equal_lengths s _ v list is) left h.deviates
        (deviations_after_index-index v _ _ h.allowed);
    allowed = free;
  }

  parts_apart : (w : List ℕ) → IsInClass (without_position c index) w → IsInClass (deviations_after_index v index) w → ⊥
  unfolding deviations_after_index-within
  parts_apart w h g = (without_position-free c index h.index h.allowed).0
      (DeviatesAt-unique c.word w _ _ h.deviates (deviations_after_index-within w g).deviates)

  without_position-without : IsInClass (without_position c index) v → ⊥
  without_position-without h = (without_position-free c index h.index h.allowed).0 (DeviatesAt-unique c.word v _ _ h.deviates left)

  pub parts : (w : List ℕ) → IsCandidate s w → IsInClass c w → w ≢ v →
      IsInClass (without_position c index) w ⊎ IsInClass (deviations_after_index v index) w
  parts w is_w h ne = elim (same_number h.index index) [
    | inr other ↦ inl (record { index = h.index; deviates = h.deviates; allowed = free-without_position c _ h.index other h.allowed })
    | inl same ↦
        let there = deviates v w (equal_lengths s v w is is_w) ne in
        inr (record {
          index = there.0;
          deviates = there.1;
          allowed = index-deviations_after_index v index _
              (DeviatesAt-later _ v w index _ list.information.bits is.information.bits is_w.information.bits left
              (rw (← same) h.deviates)
              there.1);
        })
  ]

-- ---- lemmas about the classes after one more word is returned

abbrev pub IsPartOfClass : DeviationClass → DeviationClass → Type 0
IsPartOfClass e c = (w : List ℕ) → IsInClass e w → IsInClass c w

abbrev pub Disjoint : DeviationClass → DeviationClass → Type 0
Disjoint c e = (w : List ℕ) → IsInClass c w → IsInClass e w → ⊥

-- with the class e in place of c, every class has the property Q: e by assumption, the others because they have P and are disjoint from c
All-replace : (P Q : DeviationClass → Type 0) (before after : List DeviationClass) (c e : DeviationClass) →
    ((d : DeviationClass) → P d → Disjoint d c → Q d) → Q e → All P (before ++ c ∷ after)
    → AreDisjoint (before ++ c ∷ after) →
    All Q (before ++ e ∷ after)
All-replace P Q [] after c e more here all apart =
    All-cons Q e after here (λ k d lt. more _ (All-tail P c after all k d lt) (λ w in_d in_c. apart.0 k d lt w in_c in_d))
All-replace P Q (b ∷ before) after c e more here all apart =
    All-cons Q b _ (more b (All-head P b _ all) (All-contains (Disjoint b) _ c apart.0 (Contains-middle before after c)))
    (All-replace P Q before after c e more here (All-tail P b _ all) apart.1)

AreDisjoint-part : (before after : List DeviationClass) (c e : DeviationClass) → IsPartOfClass e c →
    AreDisjoint (before ++ c ∷ after) →
    AreDisjoint (before ++ e ∷ after)
AreDisjoint-part [] after c e part h =
    (All-weaker (Disjoint c) (Disjoint e) (λ d apart w in_e in_d. apart w (part w in_e) in_d) _ h.0, h.1)
AreDisjoint-part (d ∷ before) after c e part h = (
  All-replace (Disjoint d) (Disjoint d) before after c e (λ b apart aside. apart)
      (λ w in_d in_e. All-contains (Disjoint d) _ c h.0 (Contains-middle before after c) w in_d (part w in_e)) h.0 h.1,
  AreDisjoint-part before after c e part h.1,
)

AreDisjoint-append : (cs ds : List DeviationClass) → AreDisjoint cs → AreDisjoint ds → All (λ c. All (Disjoint c) ds) cs →
    AreDisjoint (cs ++ ds)
AreDisjoint-append [] ds h g all = g
AreDisjoint-append (c ∷ cs) ds h g all = (
  All-append (Disjoint c) cs ds h.0 (All-head (λ c. All (Disjoint c) ds) c cs all),
  AreDisjoint-append cs ds h.1 g (All-tail (λ c. All (Disjoint c) ds) c cs all),
)

pub ends_ranked : RankingIsCompleteIfClassesEmpty
ends_ranked s us cs covers none w is = elim (covers.all_covered w is) [
  | inl returned ↦ returned
  | inr in_class ↦ absurd (none _ w in_class.1 is in_class.2)
]

-- the most likely word u begins a ranking, and all others form one class if it allows every position at which one deviates from u
pub ranking-begins_with : (s : List ℤ) (u : List ℕ) (free : ℕ → Bool) → IsMostLikely s u →
    ((w : List ℕ) (index : ℕ) → IsCandidate s w → DeviatesAt u w index → free index ≡ true) →
    IsRanked s (u ∷ []) × PartitionsUnreturnedWords s (u ∷ []) (record { word = u; may_deviate_at = free } ∷ [])
ranking-begins_with s u free best all =
    let candidate : IsCandidate s u = record { information = best.information; count = best.count } in (
      IsRanked-most_likely s u best,
      record {
        words_are_candidates = All-cons (λ c. IsCandidate s c.word) _ [] candidate (All-nil _);
        none_returned = All-cons (λ c. (w : List ℕ) → IsInClass c w → Contains (u ∷ []) w → ⊥) _ [] (λ w h returned. elim
            (Contains-cases u w [] returned) [
              | inl same ↦ h.deviates.differs (ap (λ w. get_or w h.index 0) same)
              | inr none ↦ omega arith
            ]) (All-nil _);
        disjoint = (All-nil _, tt);
        all_covered = λ w is. elim (same_list w u) [
          | inl same ↦ inl (rw same (Contains-here u []))
          | inr other ↦
              let there = deviates u w (omega arith) other in
              inr (_, Contains-here _ [], record { index = there.0; deviates = there.1; allowed = all w there.0 is there.1 })
        ];
      },
    )

pub begins_ranked : RankingBeginsWithMostLikelyWord
begins_ranked s u best = ranking-begins_with s u (λ k. true) best (λ w index is at. refl)

Contains-replace : {X : Type 0} (xs ys : List X) (x y : X) → Contains (xs ++ x ∷ ys) y →
    (x ≡ y) ⊎ ((z : X) → Contains (xs ++ z ∷ ys) y)
Contains-replace xs ys x y member = elim (Contains-append_cases xs (x ∷ ys) y member) [
  | inl early ↦ inr (λ z. Contains-append_left xs (z ∷ ys) y early)
  | inr late ↦ elim (Contains-cases x y ys late) [
    | inl same ↦ inl same
    | inr later ↦ inr (λ z. Contains-append_right xs (z ∷ ys) y (suc later.0, omega arith, later.2))
  ]
]

pub record IsPartWithout (s : List ℤ) (c : DeviationClass) (v : List ℕ) (p : DeviationClass) : Type 0 where
  pub candidate : IsCandidate s p.word
  pub part : IsPartOfClass p c
  pub without : IsInClass p v → ⊥

-- the most likely word v of all classes is returned, and the class c of v is replaced by parts that have all its other candidates
module _ (s : List ℤ) (us : List (List ℕ)) (before after : List DeviationClass) (c : DeviationClass) (v : List ℕ)
    (ranked : IsRanked s us) (covers : PartitionsUnreturnedWords s us (before ++ c ∷ after)) (is : IsCandidate s v)
    (member : IsInClass c v)
    (best : (e : DeviationClass) (w : List ℕ) → Contains (before ++ c ∷ after) e → IsCandidate s w → IsInClass e w → w ≢ v →
    RanksAfter s w v) where
  abbrev Unreturned : List (List ℕ) → DeviationClass → Type 0
  Unreturned us e = (w : List ℕ) → IsInClass e w → Contains us w → ⊥

  old : (e : DeviationClass) → Contains (before ++ c ∷ after) e → Unreturned us e
  old e = All-contains (Unreturned us) _ e covers.none_returned

  new : (e : DeviationClass) → Unreturned us e → (IsInClass e v → ⊥) → Unreturned (us ++ v ∷ []) e
  new e fresh without w in_e returned = elim (Contains-push_cases us v w returned) [
    | inl early ↦ fresh w in_e early
    | inr same ↦ without (rw same in_e)
  ]

  new_part : (e : DeviationClass) → IsPartWithout s c v e → Unreturned (us ++ v ∷ []) e
  new_part e is = new e (λ w in_e. old c (Contains-middle before after c) w (is.part w in_e)) is.without

  pub classes-parted : (e : DeviationClass) (parts : List DeviationClass) → All (IsPartWithout s c v) (e ∷ parts)
      → AreDisjoint (e ∷ parts) →
      ((w : List ℕ) → IsCandidate s w → IsInClass c w → w ≢ v
      → (p : DeviationClass) × Contains (e ∷ parts) p × IsInClass p w) →
      IsRanked s (us ++ v ∷ []) × PartitionsUnreturnedWords s (us ++ v ∷ []) ((before ++ e ∷ after) ++ parts)
  classes-parted e parts are apart all = (
    IsRanked-more s us v ranked is (old c (Contains-middle before after c) v member)
        (λ w is_w not_returned ne. elim (covers.all_covered w is_w) [
          | inl returned ↦ absurd (not_returned returned)
          | inr in_class ↦ best in_class.0 w in_class.1 is_w in_class.2 ne
        ]),
    record {
      words_are_candidates = All-append (λ c. IsCandidate s c.word) (before ++ e ∷ after) parts
          (All-replace (λ c. IsCandidate s c.word) (λ c. IsCandidate s c.word) before after c e (λ d list aside. list) here.candidate
          covers.words_are_candidates covers.disjoint)
          (λ k d lt. (rest k d lt).candidate);
      none_returned = All-append (Unreturned (us ++ v ∷ [])) (before ++ e ∷ after) parts
          (All-replace (Unreturned us) (Unreturned (us ++ v ∷ [])) before after c e
          (λ d fresh aside. new d fresh (λ in_d. aside v in_d member)) (new_part e here) covers.none_returned covers.disjoint)
          (λ k d lt. new_part _ (rest k d lt));
      disjoint = AreDisjoint-append (before ++ e ∷ after) parts (AreDisjoint-part before after c e here.part covers.disjoint) apart.1
          (All-replace (Unreturned us) (λ d. All (Disjoint d) parts) before after c e
          (λ d fresh aside k x lt w in_d in_x. aside w in_d ((rest k x lt).part w in_x)) apart.0 covers.none_returned covers.disjoint);
      all_covered = λ w is_w. elim (same_list w v) [
        | inl same ↦ inl (rw same (Contains-push us v))
        | inr ne ↦ elim (covers.all_covered w is_w) [
          | inl returned ↦ inl (Contains-append_left us (v ∷ []) w returned)
          | inr in_class ↦ inr (elim (Contains-replace before after c in_class.0 in_class.1) [
            | inl same ↦
                let in_part = all w is_w (rw same in_class.2) ne in (
                  in_part.0,
                  elim (Contains-cases e in_part.0 parts in_part.1) [
                    | inl e ↦ rw (← e) (Contains-append_left _ parts _ (Contains-middle before after _))
                    | inr later ↦ Contains-append_right (before ++ e ∷ after) parts in_part.0 later
                  ],
                  in_part.2,
                )
            | inr stays ↦ (in_class.0, Contains-append_left (before ++ e ∷ after) parts in_class.0 (stays e), in_class.2)
          ])
        ]
      ];
    },
  ) where
    here : IsPartWithout s c v e
    here = All-head (IsPartWithout s c v) e parts are

    rest : All (IsPartWithout s c v) parts
    rest = All-tail (IsPartWithout s c v) e parts are

pub goes_on_ranked : NextInRankingIsBestOfAllClasses
goes_on_ranked s us before after c v index ranked covers is left free best =
    let member : IsInClass c v = record { index = index; deviates = left; allowed = free } in
    let list = All-contains (λ c. IsCandidate s c.word) _ c covers.words_are_candidates (Contains-middle before after c) in
    let without : IsPartWithout s c v (without_position c index) = record {
      candidate = list;
      part = without_position-within c index;
      without = without_position-without s c v index list is left free;
    } in
    let later : IsPartWithout s c v (deviations_after_index v index) = record {
      candidate = is;
      part = deviations_after_index-within s c v index list is left free;
      without = λ h. h.deviates.differs refl;
    } in
    classes-parted s us before after c v ranked covers is member best (without_position c index) (deviations_after_index v index ∷ [])
    (All-from_recursion (IsPartWithout s c v) (without_position c index ∷ deviations_after_index v index ∷ []) (without, (later, tt)))
    (All-cons (Disjoint (without_position c index)) _ [] (parts_apart s c v index list is left free) (All-nil _), (All-nil _, tt))
    (λ w is_w in_c ne. elim (parts s c v index list is left free w is_w in_c ne) [
      | inl still ↦ (without_position c index, (0, omega arith, refl), still)
      | inr now ↦ (deviations_after_index v index, (1, omega arith, refl), now)
    ])
