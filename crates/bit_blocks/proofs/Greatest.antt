-- `first_greatest` finds the greatest of several scores, and the first if several are equal.
use Rattle.bit_blocks.specs.Greatest.{first_greatest}
use Rattle.std.proofs.{
  Common.{arith, false, inl, inr, int_lt, suc, true, zero, ℕ, ℤ},
  Common.{◌+◌, ◌<ℤ◌, ◌<◌, ◌≡◌, ◌≢◌, ◌≤ℤ◌, ◌⊎◌},
  lemmas.{Bool.{cases_Bool, cases_eq}, Int.{by_lt_z, ints}},
}

pub record LeadsBelow (score : ℕ → ℤ) (end best : ℕ) : Type 0 where
  pub in_range : best < end
  pub others : (n : ℕ) → n < end → n ≢ best → (score n <ℤ score best) ⊎ ((score n ≡ score best) × (best < n))

LeadsBelow-one : (score : ℕ → ℤ) → LeadsBelow score 1 0
LeadsBelow-one score = record {
  in_range = omega arith;
  others = λ n h ne. absurd (omega arith);
}

pub LeadsBelow-overtaken : (score : ℕ → ℤ) (end best : ℕ) → LeadsBelow score end best → score best <ℤ score end →
    LeadsBelow score (end + 1) end
LeadsBelow-overtaken score end best leads more = record {
  in_range = omega arith;
  others = λ n h ne. inl (behind n (omega arith) (cases_eq n best));
} where
  behind : (n : ℕ) → n < end → (n ≡ best) ⊎ (n ≢ best) → score n <ℤ score end
  behind n h (inl same) = rw same more
  behind n h (inr other) = omega (arith, ints, leads.others n h other)

pub LeadsBelow-kept : (score : ℕ → ℤ) (end best : ℕ) → LeadsBelow score end best → score end ≤ℤ score best →
    LeadsBelow score (end + 1) best
LeadsBelow-kept score end best leads less = record {
  in_range = omega (arith, leads.in_range);
  others = λ n h ne. behind n h ne (cases_eq n end);
} where
  behind : (n : ℕ) → n < end + 1 → n ≢ best → (n ≡ end) ⊎ (n ≢ end) →
      (score n <ℤ score best) ⊎ ((score n ≡ score best) × (best < n))
  behind n h ne (inl same) =
      rw same
      (by_lt_z (score end) (score best)
      inl (λ over. inr (omega (arith, ints), omega (arith, leads.in_range))))
  behind n h ne (inr other) = leads.others n (omega arith) ne

less_by_test : (a b : ℤ) → int_lt a b ≡ true → a <ℤ b
less_by_test a b test = grind arith

most_by_test : (a b : ℤ) → int_lt a b ≡ false → b ≤ℤ a
most_by_test a b test = grind arith

pub leads : (score : ℕ → ℤ) (n : ℕ) → LeadsBelow score (n + 1) (first_greatest score n)
unfolding first_greatest
leads score zero = LeadsBelow-one score
leads score (suc n) =
    let before = leads score n in
    let best = first_greatest score n in
    let longer : n + 1 + 1 ≡ suc n + 1 = omega arith in
    elim (cases_Bool (int_lt (score best) (score (n + 1)))) [
      | inl more ↦ rw more (rw (← longer) (LeadsBelow-overtaken score (n + 1) best before (less_by_test _ _ more)))
      | inr less ↦ rw less (rw (← longer) (LeadsBelow-kept score (n + 1) best before (most_by_test _ _ less)))
    ]
