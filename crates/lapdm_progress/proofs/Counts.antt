-- The sequence invariant of two links, by plain numbers: counts that never go down, and what three bits of them show.
use Rattle.{
  std.{specs.Prelude.{◌≡◌, ℕ, zero, suc, ◌+◌, ◌-◌, ◌%◌, ◌≤◌, ◌⊎◌}, proofs.Common.{inl, inr, arith, refl}},
  lapdm_end.specs.lapdm_window.Ends.{Role, Mobile, Network},
  lapdm_link.specs.Events.other,
}

-- the counts of both links before each slot: acknowledged, issued, accepted and aired segments
pub record Counts : Type 0 where
  pub acked : Role → ℕ → ℕ
  pub issued : Role → ℕ → ℕ
  pub accepted : Role → ℕ → ℕ
  pub aired : Role → ℕ → ℕ

-- how the counts of two links move if each block arrives `d` slots late
pub record Run (d : ℕ) (c : Counts) : Type 0 where
  pub acked_start : (r : Role) (k : ℕ) → k ≤ d + 1 → c.acked r k ≡ 0
  pub accepted_start : (r : Role) (k : ℕ) → k ≤ d + 1 → c.accepted r k ≡ 0
  pub acked_up : (r : Role) (n : ℕ) → c.acked r n ≤ c.acked r (suc n)
  pub accepted_up : (r : Role) (n : ℕ) → c.accepted r n ≤ c.accepted r (suc n)
  pub aired_up : (r : Role) (n : ℕ) → c.aired r n ≤ c.aired r (suc n)
  pub acked_aired : (r : Role) (n : ℕ) → c.acked r n ≤ c.aired r n
  pub aired_issued : (r : Role) (n : ℕ) → c.aired r n ≤ c.issued r n
  pub window : (r : Role) (n : ℕ) → c.issued r n ≤ c.acked r n + 1
  -- an acknowledgement that arrives was sent with the N(R) of its slot
  pub by_nr : (r : Role) (n : ℕ) → (c.acked r (suc (suc n + d)) ≡ c.acked r (suc n + d))
      ⊎ ((c.acked r (suc (suc n + d)) ≡ c.issued r (suc n + d)) × (c.issued r (suc n + d) ≡ c.acked r (suc n + d) + 1)
      × (c.issued r (suc n + d) % 8 ≡ c.accepted (other r) (suc n) % 8))
  -- an I frame that is accepted was the outstanding one in its slot
  pub by_ns : (r : Role) (n : ℕ) → (c.accepted r (suc (suc n + d)) ≡ c.accepted r (suc n + d))
      ⊎ ((c.accepted r (suc (suc n + d)) ≡ c.accepted r (suc n + d) + 1)
      × (c.accepted r (suc n + d) % 8 ≡ c.acked (other r) (suc n) % 8)
      × (c.aired (other r) (suc n) ≡ c.acked (other r) (suc n) + 1))

le-trans : {a b c : ℕ} → a ≤ b → b ≤ c → a ≤ c
le-trans h k = omega arith

-- a count that never goes down is at most what it is later
pub later : (f : ℕ → ℕ) → ((n : ℕ) → f n ≤ f (suc n)) → (n k : ℕ) → f n ≤ f (n + k)
later f up n zero = let e : n + 0 ≡ n = omega arith in rw e (omega arith)
later f up n (suc k) = let e : n + suc k ≡ suc (n + k) = omega arith in rw e (le-trans (later f up n k) (up (n + k)))

pub later-to : (f : ℕ → ℕ) → ((n : ℕ) → f n ≤ f (suc n)) → (n m : ℕ) → n ≤ m → f n ≤ f m
later-to f up n m h = let e : n + (m - n) ≡ m = omega arith in rw e at (later f up n (m - n))

same_number : (a v s : ℕ) → a ≤ v → v ≤ s → s ≡ a + 1 → s % 8 ≡ v % 8 → v ≡ s
same_number a v s h1 h2 h3 h4 = grind arith

same_segment : (a v : ℕ) → a ≤ v → v ≤ a + 1 → v % 8 ≡ a % 8 → v ≡ a
same_segment a v h1 h2 h3 = grind arith

other-other : (r : Role) → other (other r) ≡ r
other-other Mobile = refl
other-other Network = refl

module _ (d : ℕ) (c : Counts) (h : Run d c) where
  -- what a link counts as acknowledged was accepted when the acknowledgement was sent, and what is accepted was aired when it was sent
  abbrev pub AckedIn : ℕ → Type 0
  AckedIn n = (r : Role) → c.acked r (suc n + d) ≤ c.accepted (other r) n

  abbrev pub AcceptedIn : ℕ → Type 0
  AcceptedIn n = (r : Role) → c.accepted (other r) (suc n + d) ≤ c.aired r n

  start_acked : AckedIn 0
  start_acked r = omega (arith, h.acked_start r (suc 0 + d) (omega arith))

  start_accepted : AcceptedIn 0
  start_accepted r = omega (arith, h.accepted_start (other r) (suc 0 + d) (omega arith))

  step_acked : (n : ℕ) → AckedIn n → AcceptedIn n → AckedIn (suc n)
  step_acked n a b r = by_case (h.by_nr r n)
    where
      before : c.acked r (suc n + d) ≤ c.accepted (other r) (suc n)
      before = omega (arith, a r, h.accepted_up (other r) n)

      within : c.accepted (other r) (suc n) ≤ c.issued r (suc n + d)
      within = omega (
        arith,
        b r,
        later-to (c.accepted (other r)) (h.accepted_up (other r)) (suc n) (suc n + d) (omega arith),
        later-to (c.aired r) (h.aired_up r) n (suc n + d) (omega arith),
        h.aired_issued r (suc n + d),
      )

      by_case : (c.acked r (suc (suc n + d)) ≡ c.acked r (suc n + d))
          ⊎ ((c.acked r (suc (suc n + d)) ≡ c.issued r (suc n + d)) × (c.issued r (suc n + d) ≡ c.acked r (suc n + d) + 1)
          × (c.issued r (suc n + d) % 8 ≡ c.accepted (other r) (suc n) % 8)) →
          c.acked r (suc (suc n) + d) ≤ c.accepted (other r) (suc n)
      by_case x = let e : suc (suc n) + d ≡ suc (suc n + d) = omega arith in rw e (by_same x)
        where
          by_same : (c.acked r (suc (suc n + d)) ≡ c.acked r (suc n + d))
              ⊎ ((c.acked r (suc (suc n + d)) ≡ c.issued r (suc n + d)) × (c.issued r (suc n + d) ≡ c.acked r (suc n + d) + 1)
              × (c.issued r (suc n + d) % 8 ≡ c.accepted (other r) (suc n) % 8)) →
              c.acked r (suc (suc n + d)) ≤ c.accepted (other r) (suc n)
          by_same (inl e) = omega (arith, e, before)
          by_same (inr (e, one, same)) =
              omega (arith, e, same_number _ (c.accepted (other r) (suc n)) _ before within one same)

  step_accepted : (n : ℕ) → AckedIn n → AcceptedIn n → AcceptedIn (suc n)
  step_accepted n a b r = let e : suc (suc n) + d ≡ suc (suc n + d) = omega arith in rw e (by_case (h.by_ns (other r) n))
    where
      low : c.acked r (suc n) ≤ c.accepted (other r) (suc n + d)
      low = omega (
        arith,
        later-to (c.acked r) (h.acked_up r) (suc n) (suc n + d) (omega arith),
        a r,
        later-to (c.accepted (other r)) (h.accepted_up (other r)) n (suc n + d) (omega arith),
      )

      by_case : (c.accepted (other r) (suc (suc n + d)) ≡ c.accepted (other r) (suc n + d))
          ⊎ ((c.accepted (other r) (suc (suc n + d)) ≡ c.accepted (other r) (suc n + d) + 1)
          × (c.accepted (other r) (suc n + d) % 8 ≡ c.acked (other (other r)) (suc n) % 8)
          × (c.aired (other (other r)) (suc n) ≡ c.acked (other (other r)) (suc n) + 1)) →
          c.accepted (other r) (suc (suc n + d)) ≤ c.aired r (suc n)
      by_case (inl e) = omega (arith, e, b r, h.aired_up r n)
      by_case (inr (e, same, one)) =
          let one' : c.aired r (suc n) ≡ c.acked r (suc n) + 1 = rw other-other at one in
          let same' : c.accepted (other r) (suc n + d) % 8 ≡ c.acked r (suc n) % 8 = rw other-other at same in
          omega (arith, e, one', same_segment _ _ low (omega (arith, b r, h.aired_up r n, one')) same')

  both : (n : ℕ) → AckedIn n × AcceptedIn n
  both zero = (start_acked, start_accepted)
  both (suc n) = let x = both n in (step_acked n x.0 x.1, step_accepted n x.0 x.1)

  pub acked_in : (n : ℕ) (r : Role) → c.acked r (suc n + d) ≤ c.accepted (other r) n
  acked_in n r = (both n).0 r

  pub accepted_in : (n : ℕ) (r : Role) → c.accepted (other r) (suc n + d) ≤ c.aired r n
  accepted_in n r = (both n).1 r
