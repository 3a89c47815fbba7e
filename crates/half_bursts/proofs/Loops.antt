-- What a loop keeps that writes one element after another, and the rows of some bursts by those that were read.
use Rattle.{
  half_bursts.{proofs.Halves.IsBurst, specs.Halves.partner},
  std.proofs.Common.{List, [], ap, arith, get_or, inl, inr, length, set, subst, sym, ℕ, ◌+◌, ◌-◌, ◌<◌, ◌∙◌},
  std.proofs.Common.{◌≡◌, ◌≤◌},
  std.proofs.lemmas.{Bool.cases_lt, List.{get_or-set_other, get_or-set_same, get_or_default}},
  std.specs.List.All,
}

pub set-more : {X : Type 0} (P : ℕ → X → Type 0) (xs : List X) (p : ℕ) (v d : X) → p < length xs →
    ((k : ℕ) → k < p → P k (get_or xs k d)) → P p v → (k : ℕ) → k < p + 1 → P k (get_or (set xs p v) k d)
set-more P xs p v d within before here k hk =
    elim (cases_lt k p) [
      | inl earlier ↦ subst (P k) (sym (get_or-set_other xs p k v d (omega arith))) (before k earlier)
      | inr last ↦
          let is : p ≡ k = omega arith in
          subst (λ n. P n (get_or (set xs p v) n d)) is (subst (P p) (sym (get_or-set_same xs p v d within)) here)
    ]

pub IsBurst-read : {X : Type 0} (bursts : List (List X)) → 4 ≤ length bursts → length bursts ≤ 8 →
    ((b : ℕ) → b < 4 →
    (length (get_or bursts b []) ≡ 148) × (length (get_or bursts (partner (length bursts) b) []) ≡ 148)) → All IsBurst bursts
IsBurst-read bursts some few read b d lt =
    ap length (get_or_default bursts b d [] lt)
    ∙ elim (cases_lt b 4) [
      | inl lower ↦ (read b lower).0
      | inr upper ↦
          let last : b - 4 < 4 = omega arith in
          let is : partner (length bursts) (b - 4) ≡ b = grind arith in
          ap (λ n. length (get_or bursts n [])) (sym is) ∙ (read (b - 4) last).1
    ]
