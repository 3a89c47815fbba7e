-- What is counted in a slot: a frame that is due, an answer that goes first, an expiry of T200, and a loss.
use Rattle.{
  std.proofs.{lemmas.Bool.cases_Bool, Common.{inl, inr, arith, refl, ap, sym, ◌∙◌}, Math.Nat.{mul-add, mul-one}},
  std.specs.Prelude.{◌≡◌, ℕ, zero, suc, ◌+◌, ◌-◌, ◌*◌, ◌≤◌, Bool, true, false, ◌&&◌, ◌||◌, ◌⊎◌},
  std.specs.Prelude.{nat_eq, nat_le, Some},
  lapdm_frame.specs.Content.Frame,
  lapdm_end.specs.lapdm_window.{declared.State.TheVariants.Open, Ends.{Role, Mobile, Network, EndpointState, awaits_answer, awaits_ack}},
  lapdm_datalink.specs.{Links.{LinkState, slot_outcome, is_due, keeps_back}, Slots.{expires_in, answer_goes}},
  lapdm_progress.{
    specs.{Channels.Run, Progress.{link_at, arriving_at, ready_at, is_loss_at, is_lossy, one_if, slots_with}},
    proofs.{Steps.{acked, issued}, Start.clock_after, Runs.{t200_in, NeverReleases}, Paid.{le_of, not_le_of}},
  },
}

-- B: in how many of these slots this link sends an answer though the frame that awaits an answer is due
abbrev pub answers_first : (run : Run) (slot : ℕ) (role : Role) → Bool
answers_first r n role = is_due (ready_at r n role) && answer_goes (ready_at r n role).answer (ready_at r n role)

abbrev pub answering_slots : (run : Run) (first slots : ℕ) (role : Role) → ℕ
answering_slots r n k role = slots_with (λ m. answers_first r m role) n k

-- ---- how often something is so

pub slots_same : (f g : ℕ → Bool) (n k : ℕ) → ((m : ℕ) → suc m ≤ n + k → f m ≡ g m) →
    slots_with f n k ≡ slots_with g n k
slots_same f g n zero h = refl
slots_same f g n (suc k) h = rw (slots_same f g n k (λ m a. h m (omega (arith, a))), h (n + k) (omega arith)) refl

pub slots_up : (f : ℕ → Bool) (n k j : ℕ) → slots_with f n k ≤ slots_with f n (k + j)
slots_up f n k zero = let e : k + 0 ≡ k = omega arith in rw e (omega arith)
slots_up f n k (suc j) = let e : k + suc j ≡ suc (k + j) = omega arith in rw e (omega (arith, slots_up f n k j))

pub slots_next : (f : ℕ → Bool) (n : ℕ) → slots_with f 0 (suc n) ≡ slots_with f 0 n + one_if (f n)
slots_next f n = let e : 0 + n ≡ n = omega arith in ap (λ j. slots_with f 0 n + one_if (f j)) e

-- what is so only some slots after something else is so no more often than that
module _ (f g : ℕ → Bool) (n d k c m : ℕ) (more : ℕ → ℕ) (most : (j : ℕ) → more j ≤ m) (early : slots_with f n d ≤ c)
    (step : (j : ℕ) → suc (d + j) ≤ k → one_if (f (n + (d + j))) + more j ≤ one_if (g (n + j)) + more (suc j))
  where
    later : (j : ℕ) → d + j ≤ k → slots_with f n (d + j) ≤ slots_with g n j + more j + c
    later zero a = let e : d + 0 ≡ d = omega arith in rw e (omega (arith, early))
    later (suc j) a =
        let e : d + suc j ≡ suc (d + j) = omega arith in
        let b : suc (d + j) ≤ k = omega (arith, a) in
        rw e (omega (arith, later j (omega (arith, a)), step j b))

    pub slots_after : slots_with f n k ≤ slots_with g n k + m + c
    slots_after = elim (cases_Bool (nat_le d k)) [
      | inl e ↦
          let h : d + (k - d) ≡ k = omega (arith, le_of d k e) in
          let i : (k - d) + d ≡ k = omega (arith, h) in
          let a : slots_with f n k ≤ slots_with g n (k - d) + more (k - d) + c = rw h at (later (k - d) (omega (arith, h))) in
          let b : slots_with g n (k - d) ≤ slots_with g n k = rw i at (slots_up g n (k - d) d) in
          omega (arith, a, b, most (k - d))
      | inr e ↦
          let h : k + (d - k) ≡ d = omega (arith, not_le_of d k e) in
          let a : slots_with f n k ≤ slots_with f n d = rw h at (slots_up f n k (d - k)) in omega (arith, a, early)
    ]

pub open_awaits : (e : EndpointState) → e.state ≡ Open → awaits_answer e ≡ awaits_ack e
open_awaits e o = grind (arith, o)

pub due_clock : (m : LinkState) → is_due m ≡ true → (m.clock ≡ 0) × (awaits_answer m.endpoint ≡ true)
due_clock m h = (grind (arith, h), grind (arith, h))

pub not_due : (m : LinkState) → is_due m ≡ false → awaits_answer m.endpoint ≡ true → 1 ≤ m.clock
not_due m h w = grind (arith, h, w)

pub ack_one : (l : LinkState) → awaits_ack l.endpoint ≡ true → acked l ≤ issued l → issued l ≤ acked l + 1 →
    issued l ≡ acked l + 1
ack_one l w a b = grind (arith, w)

pub expires_due : (m : LinkState) → expires_in m ≡ true →
    (is_due m ≡ true) × (m.is_sent ≡ true) × (answer_goes m.answer m ≡ false)
expires_due m h = (grind (arith, h), grind (arith, h), grind (arith, h))

pub both : (a b : Bool) → a ≡ true → b ≡ true → (a && b) ≡ true
both a b h k = rw (h, k) refl

pub goes_it : (m : LinkState) (f : Frame) → m.answer ≡ Some f → keeps_back f m ≡ false → answer_goes m.answer m ≡ true
goes_it m f a k = grind (arith, a, k)

some_loss : (a b : Bool) → a ≡ true → (a || b) ≡ true
some_loss a b h = rw h refl

other_loss : (a b : Bool) → b ≡ true → (a || b) ≡ true
other_loss true b h = refl
other_loss false b h = h

pub eq_of : (a b : ℕ) → nat_eq a b ≡ true → a ≡ b
eq_of a b h = grind (arith, h)

pub above : (a b : ℕ) → b ≤ a → nat_eq a b ≡ false → b + 1 ≤ a
above a b h e = grind (arith, e)

pub no_ack : (l : LinkState) → issued l ≡ acked l → awaits_ack l.endpoint ≡ false
no_ack l e = grind (arith, e)

pub times_next : (k a b : ℕ) → a + 1 ≤ b → k * a + k ≤ k * b
times_next k a b h =
    let e : (a + 1) + (b - (a + 1)) ≡ b = omega (arith, h) in
    let f : k * b ≡ k * (a + 1) + k * (b - (a + 1)) = ap (λ x. k * x) (sym e) ∙ mul-add k (a + 1) (b - (a + 1)) in
    omega (arith, f, mul-add k a 1, mul-one k)

pub times_le : (k a b : ℕ) → a ≤ b → k * a ≤ k * b
times_le k a b h =
    let e : a + (b - a) ≡ b = omega (arith, h) in
    let f : k * b ≡ k * a + k * (b - a) = ap (λ x. k * x) (sym e) ∙ mul-add k a (b - a) in
    omega (arith, f)

pub cost : (t a b : ℕ) → t * (a + b + 1) ≡ t * (a + 1) + t * b
cost t a b = let e : a + b + 1 ≡ (a + 1) + b = omega arith in rw e (mul-add t (a + 1) b)

pub apart : (a n : ℕ) → suc a ≤ suc n → nat_eq a n ≡ false → suc a ≤ n
apart a n h e = grind (arith, e)

pub lossy_by : (r : Run) (n : ℕ) (role : Role) → is_loss_at r n role ≡ true → is_lossy r n ≡ true
lossy_by r n Mobile h = some_loss (is_loss_at r n Mobile) (is_loss_at r n Network) h
lossy_by r n Network h = other_loss (is_loss_at r n Mobile) (is_loss_at r n Network) h

pub clock_within : (r : Run) → NeverReleases r → (role : Role) (n : ℕ) → (link_at r n role).clock ≤ r.t200
clock_within r u role zero = omega arith
clock_within r u role (suc n) = by_slot (clock_after r.pair role (arriving_at r n role) (r.turn n role) (link_at r n role)
    (u n role)) (clock_within r u role n)
  where
    by_slot : ((slot_outcome (ready_at r n role)).link.clock ≤ (link_at r n role).clock)
        ⊎ ((slot_outcome (ready_at r n role)).link.clock ≡ (ready_at r n role).t200) → (link_at r n role).clock ≤ r.t200 →
        (link_at r (suc n) role).clock ≤ r.t200
    by_slot (inl h) before = omega (arith, h, before)
    by_slot (inr e) before = omega (
      arith,
      e,
      t200_in r u n role,
    )

pub one_at_most : (b c : Bool) → (b ≡ true → c ≡ true) → one_if b ≤ one_if c
one_at_most true c h = omega (arith, ap one_if (h refl))
one_at_most false c h = omega arith

pub not_if : (b : Bool) → (b ≡ true → ⊥) → b ≡ false
not_if true h = absurd (h refl)
not_if false h = refl

pub one_most : (b : Bool) → one_if b ≤ 1
one_most b = grind arith
