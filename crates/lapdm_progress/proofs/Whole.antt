-- A run from its start, slot by slot: each side's waiting is paid by its frames and by lossy slots.
use Rattle.lapdm_progress.proofs.Early.{alone, idle, Early, early_next, late_open, times_less}
use Rattle.lapdm_progress.proofs.Known.{begins, joins, mobile_slot, network_slot, rests, state_next, stays, tries, Known, Unclosed}
use Rattle.lapdm_progress.proofs.Known.{MobileSlot, NetworkSlot, known}
use Rattle.lapdm_progress.proofs.Steps.{acked}
use Rattle.lapdm_progress.proofs.Runs.{NeverReleases}
use Rattle.lapdm_progress.proofs.Start.{is_young}
use Rattle.lapdm_progress.proofs.Paid.{le_of, not_le_of}
use Rattle.lapdm_progress.proofs.Expiries.{old_enough}
use Rattle.lapdm_progress.proofs.Waiting.{Stage, Next, pending, quiet, unsent, failed}
use Rattle.lapdm_progress.proofs.Opening.{times_one, W, E, B, Lo, waits_step, expiry_step, answer_step, loss_step, Calling, Through}
use Rattle.lapdm_progress.proofs.Opening.{Resting, rest_on, begin, calling_expires, call_next, confirmed, not_due_yet, through_next}
use Rattle.lapdm_progress.proofs.Slots.{clock_within, no_ack, times_le}
use Rattle.lapdm_progress.specs.Channels.{Run}
use Rattle.lapdm_progress.specs.Progress.{link_at, ready_at, round_trip, is_lossy, one_if}
use Rattle.std.proofs.lemmas.Bool.{cases_Bool}
use Rattle.std.proofs.Common.{inl, inr, arith, refl, ap, ◌∙◌}
use Rattle.std.proofs.Math.Nat.{mul-add, mul-one}
use Rattle.std.specs.Prelude.{◌≡◌, ℕ, zero, suc, ◌+◌, ◌-◌, ◌*◌, ◌≤◌, Bool, true, false, ◌⊎◌, nat_le}
use Rattle.lapdm_end.specs.lapdm_window.declared.State.TheVariants.{Open}
use Rattle.lapdm_end.specs.lapdm_window.Ends.{Role, Mobile, Network, awaits_ack}
use Rattle.lapdm_link.specs.Events.{other}
use Rattle.lapdm_progress.proofs.Waiting as P
use Rattle.lapdm_progress.proofs.Early as Y

module _ (r : Run) (u : NeverReleases r) (long : round_trip r.delay ≤ r.t200) where
  -- the link waited this long up to slot n, with so many frames before its I frames
  pub record Work (role : Role) (more n0 n : ℕ) : Type 0 where
    pub paid : ℕ
    pub used : ℕ
    pub stage : Stage r u long n0 role n paid used
    pub bound : W r u long n role + paid ≤ round_trip r.delay * acked (link_at r n role) + round_trip r.delay * more
        + r.t200 * Lo r u long n + B r u long n role + used
    pub repays : E r u long n role + pending r u long n0 role stage ≤ Lo r u long n

  one_work : (role : Role) (more n0 n : ℕ) (w : Work role more n0 n) →
      Next r u long n0 role n w.paid w.used (pending r u long n0 role w.stage) → Work role more n0 (suc n)
  one_work role more n0 n w x = record {
    paid = x.paid_next;
    used = x.used_next;
    stage = x.stage;
    bound = omega (
      arith,
      w.bound,
      x.bound,
      waits_step r u long n role,
      answer_step r u long n role,
      ap (λ k. r.t200 * k) (loss_step r u long n),
      mul-add r.t200 (Lo r u long n) (one_if (is_lossy r n)),
    );
    repays = omega (arith, w.repays, x.repays, expiry_step r u long n role, loss_step r u long n);
  }

  work_next : (role : Role) (more n0 n : ℕ) → Work role more n0 n → Unclosed r u (suc n) → n0 ≤ suc n + r.delay →
      (ready_at r n role).endpoint.state ≡ Open →
      ((k : ℕ) → n0 ≤ k → k ≤ n → (link_at r k (other role)).endpoint.state ≡ Open) →
      (n0 ≤ suc n → (link_at r (suc n) (other role)).endpoint.state ≡ Open) → Work role more n0 (suc n)
  work_next role more n0 n w c first o there next =
      one_work role more n0 n w (P.next r u long n0 role n first o there
      (state_next r u n c role ∙ o) next w.paid w.used w.stage)

  -- ---- the mobile when it opens

  pub mobile_work : (n : ℕ) → Calling r u long n → Work Mobile 1 n n
  mobile_work n x = record {
    paid = 0;
    used = 0;
    stage = quiet refl refl (no_ack (link_at r n Mobile) (old_enough r u Mobile n (ap is_young x.state)));
    bound = by_fate x.fate;
    repays = omega (arith, calling_expires r u long n x);
  }
    where
      R : ℕ
      R = round_trip r.delay

      by_fate : (Through r u long n x.v × (E r u long n Mobile ≤ Lo r u long n)) ⊎ (E r u long n Mobile + 1 ≤ Lo r u long n) →
          W r u long n Mobile + 0 ≤ round_trip r.delay * acked (link_at r n Mobile) + round_trip r.delay * 1
          + r.t200 * Lo r u long n + B r u long n Mobile + 0
      by_fate (inl (t, p)) = omega (
        arith,
        x.waits,
        t.early,
        mul-one R,
        times_le r.t200 (E r u long n Mobile) (Lo r u long n) p,
      )
      by_fate (inr p) = omega (
        arith,
        x.waits,
        x.early,
        times_le r.t200 (E r u long n Mobile + 1) (Lo r u long n) p,
        times_one r.t200 (E r u long n Mobile),
      )

  -- ---- the network when the mobile opens, or will

  -- before the slot the network had not sent the UA to the last SABM without a loss
  abbrev pub IsUnheard : (n : ℕ) → Calling r u long n → Type 0
  IsUnheard n x = (n ≤ suc x.v + r.delay) ⊎ (E r u long n Mobile + 1 ≤ Lo r u long n)

  pub lo_up : (n : ℕ) → Lo r u long n ≤ Lo r u long (suc n)
  lo_up n = omega (arith, loss_step r u long n)

  -- its attempts are at most those of the mobile that failed
  pub few : (n : ℕ) (x : Calling r u long n) (q a : ℕ) → IsUnheard n x → x.v1 + r.delay + 1 ≤ q →
      q + 2 + r.t200 * a ≤ suc n + r.t200 → a ≤ Lo r u long n
  few n x q a (inl k) late f = omega (arith, less, calling_expires r u long n x)
    where
      less : a ≤ E r u long n Mobile
      less = times_less r.t200 a (E r u long n Mobile)
          (omega (arith, k, late, f, x.count, times_one r.t200 (E r u long n Mobile)))
  few n x q a (inr p) late f = omega (arith, less, p)
    where
      less : a ≤ E r u long n Mobile + 1
      less = times_less r.t200 a (E r u long n Mobile + 1) (omega (
        arith,
        late,
        f,
        x.early,
        x.count,
        times_one r.t200 (E r u long n Mobile),
        times_one r.t200 (E r u long n Mobile + 1),
      ))

  pub network_work : (n n0 : ℕ) (x : Calling r u long n) → IsUnheard n x → Early r u long (suc n) →
      (link_at r (suc n) Network).endpoint.state ≡ Open → Work Network 0 n0 (suc n)
  network_work n n0 x b (idle i w e) o = absurd cc
  network_work n n0 x b (alone q a some p (Y.unsent w e z)) o = record {
    paid = 0;
    used = 0;
    stage = by_case z;
    bound = omega (arith, w);
    repays = by_zero z;
  }
    where
      by_case : ((link_at r (suc n) Network).is_sent ≡ false) ⊎ (awaits_ack (link_at r (suc n) Network).endpoint ≡ false) →
          Stage r u long n0 Network (suc n) 0 0
      by_case (inl f) = unsent refl refl f
      by_case (inr f) = quiet refl refl f

      by_zero : (z : ((link_at r (suc n) Network).is_sent ≡ false) ⊎ (awaits_ack (link_at r (suc n) Network).endpoint ≡ false)) →
          E r u long (suc n) Network + pending r u long n0 Network (by_case z) ≤ Lo r u long (suc n)
      by_zero (inl f) = omega (arith, e)
      by_zero (inr f) = omega (arith, e)
  network_work n n0 x b (alone q a some p (Y.sent k w e f g s)) o = record {
    paid = (link_at r (suc n) Network).clock - 1;
    used = 0;
    stage = failed refl refl;
    bound = omega (arith, w, times_le r.t200 k (Lo r u long (suc n)) fewer);
    repays = omega (arith, e, fewer);
  }
    where
      fewer : k ≤ Lo r u long (suc n)
      fewer = omega (
        arith,
        few n x q k b (late_open r u long n x q some) (omega (arith, f, clock_within r u Network (suc n))),
        lo_up n,
      )

  -- ---- the whole run

  pub data Whole (n : ℕ) : Type 0 where
    resting : Resting r u long n → Early r u long n → Whole n
    calling : (x : Calling r u long n) → IsUnheard n x → Early r u long n → Whole n
    heard : (x : Calling r u long n) (v : ℕ) → x.v ≡ v → Through r u long n v → E r u long n Mobile ≤ Lo r u long n →
        suc (suc v + r.delay) ≤ n → (link_at r n Network).endpoint.state ≡ Open →
        Work Network 0 (suc (suc v + (1 + 2 * r.delay))) n → Whole n
    joined : (link_at r n Mobile).endpoint.state ≡ Open → (n0 n1 : ℕ) → n0 ≤ n →
        ((k : ℕ) → n0 ≤ k → k ≤ n → (link_at r k Network).endpoint.state ≡ Open) → Work Mobile 1 n0 n →
        n1 ≤ suc n + r.delay →
        ((k : ℕ) → n1 ≤ k → k ≤ n → (link_at r k Mobile).endpoint.state ≡ Open) → Work Network 0 n1 n → Whole n

  module _ (n : ℕ) (h : Known r u n) (c : Unclosed r u (suc n)) where
    network_open : (link_at r n Network).endpoint.state ≡ Open → ((ready_at r n Network).endpoint.state ≡ Open)
        × ((link_at r (suc n) Network).endpoint.state ≡ Open)
    network_open o = by_slot (network_slot r u n h)
      where
        by_slot : NetworkSlot r u n → ((ready_at r n Network).endpoint.state ≡ Open)
            × ((link_at r (suc n) Network).endpoint.state ≡ Open)
        by_slot (rests i e) = absurd cc
        by_slot (joins i p x a q) = (p, state_next r u n c Network ∙ p)
        by_slot (stays i p x a) = (p, state_next r u n c Network ∙ p)

    at_last : (k n0 : ℕ) (role : Role) → ((k : ℕ) → n0 ≤ k → k ≤ n → (link_at r k role).endpoint.state ≡ Open) →
        (link_at r (suc n) role).endpoint.state ≡ Open → n0 ≤ k → k ≤ suc n → (link_at r k role).endpoint.state ≡ Open
    at_last k n0 role before now a b = elim (cases_Bool (nat_le k n)) [
      | inl e ↦ before k a (le_of k n e)
      | inr e ↦ let same : k ≡ suc n = omega (arith, not_le_of k n e, b) in rw same now
    ]

    -- the slot in which the mobile opens
    joins_mobile : Calling r u long n → (ready_at r n Mobile).endpoint.state ≡ Open →
        (link_at r n Network).endpoint.state ≡ Open →
        Work Mobile 1 n (suc n)
    joins_mobile x o t = work_next Mobile 1 n n (mobile_work n x) c (omega arith) o
        (λ k a b. (let same : k ≡ n = omega (arith, a, b) in rw same t)) (λ a. (network_open t).1)

    mobile_there : (link_at r n Network).endpoint.state ≡ Open → (k : ℕ) → n ≤ k → k ≤ suc n →
        (link_at r k Network).endpoint.state ≡ Open
    mobile_there t k a b = at_last k n Network (λ j a' b'. (let same : j ≡ n = omega (arith, a', b') in rw same t))
        (network_open t).1 a b

    resting_next : Resting r u long n → Early r u long n → MobileSlot r u n → Whole (suc n)
    resting_next x y (rests i e) = resting (rest_on r u long n h c x e) (early_next r u long n h c (ap is_young i) y)
    resting_next x y (begins i o q s k a) =
        let z = begin r u long n h c x o s k a in calling z (inl (now z)) (early_next r u long n h c (ap is_young i) y)
      where
        now : (z : Calling r u long (suc n)) → suc n ≤ suc z.v + r.delay
        now z = elim (cases_Bool (nat_le (suc z.v) n)) [
          | inl e ↦ absurd (cc (x.before z.v (le_of (suc z.v) n e), z.sabm))
          | inr e ↦ omega (arith, not_le_of (suc z.v) n e)
        ]
    resting_next x y (tries o e) = absurd (cc x.state)
    resting_next x y (joins o p i a t) = absurd (cc x.state)
    resting_next x y (stays o p i a) = absurd (cc x.state)

    early_then : (x : Calling r u long n) → Early r u long n → Early r u long (suc n)
    early_then x y = early_next r u long n h c (ap is_young x.state) y

    calling_then : (x : Calling r u long n) → IsUnheard n x → Early r u long n → (z : Calling r u long (suc n)) → Whole (suc n)
    calling_then x b y z = by_case (nat_le (suc n) (suc z.v + r.delay)) refl z.fate
      where
        by_case : (q : Bool) → nat_le (suc n) (suc z.v + r.delay) ≡ q →
            (Through r u long (suc n) z.v × (E r u long (suc n) Mobile ≤ Lo r u long (suc n)))
            ⊎ (E r u long (suc n) Mobile + 1 ≤ Lo r u long (suc n)) → Whole (suc n)
        by_case true e f = calling z (inl (le_of (suc n) (suc z.v + r.delay) e)) (early_then x y)
        by_case false e (inr p) = calling z (inr p) (early_then x y)
        by_case false e (inl (t, p)) =
            let late : suc (suc z.v + r.delay) ≤ suc n = not_le_of (suc n) (suc z.v + r.delay) e in
            let o : (link_at r (suc n) Network).endpoint.state ≡ Open = (t.returns late).2 in
            heard z z.v refl t p late o (network_work n (suc (suc z.v + (1 + 2 * r.delay))) x b (early_then x y) o)

    calling_next : (x : Calling r u long n) → IsUnheard n x → Early r u long n → MobileSlot r u n → Whole (suc n)
    calling_next x b y (rests i e) = absurd (cc x.state)
    calling_next x b y (begins i o q s k a) = absurd (cc x.state)
    calling_next x b y (tries o e) = calling_then x b y (call_next r u long n h c x e).0
    calling_next x b y (joins o p i a t) = joined (state_next r u n c Mobile ∙ p) n (suc n) (omega arith) (mobile_there t)
        (joins_mobile x p t) (omega arith)
        (λ k a b. (let same : k ≡ suc n = omega (arith, a, b) in rw same (state_next r u n c Mobile ∙ p)))
        (network_work n (suc n) x b (early_then x y) (network_open t).1)
    calling_next x b y (stays o p i a) = absurd (cc x.state)

    heard_work : (x : Calling r u long n) (v : ℕ) → x.v ≡ v → Through r u long n v → suc (suc v + r.delay) ≤ n →
        (link_at r n Network).endpoint.state ≡ Open → Work Network 0 (suc (suc v + (1 + 2 * r.delay))) n →
        Work Network 0 (suc (suc v + (1 + 2 * r.delay))) (suc n)
    heard_work x v e t late o w = work_next Network 0 (suc (suc v + (1 + 2 * r.delay))) n w c (omega (arith, late)) (network_open o).0
        (λ k a b. absurd (omega (arith, a, b, t.early)))
        (λ a. state_next r u n c Mobile ∙ confirmed r u long n x (rw e t) (omega (arith, a, t.early, e)))

    heard_next : (x : Calling r u long n) (v : ℕ) → x.v ≡ v → Through r u long n v → E r u long n Mobile ≤ Lo r u long n →
        suc (suc v + r.delay) ≤ n → (link_at r n Network).endpoint.state ≡ Open →
        Work Network 0 (suc (suc v + (1 + 2 * r.delay))) n → MobileSlot r u n → Whole (suc n)
    heard_next x v e t p late o w (rests i q) = absurd (cc x.state)
    heard_next x v e t p late o w (begins i q s k a b) = absurd (cc x.state)
    heard_next x v e t p late o w (tries q s) = by_case (call_next r u long n h c x s)
      where
        by_case : (z : Calling r u long (suc n)) × (((z.v ≡ x.v) × (E r u long (suc n) Mobile ≡ E r u long n Mobile))
            ⊎ ((link_at r n Mobile).clock ≤ 1)) → Whole (suc n)
        by_case (z, inr low) = absurd (not_due_yet r u long n x s (rw e t) low)
        by_case (z, inl (same, count)) = heard z v (same ∙ e)
            (rw e at (through_next r u long n h c x s (rw e t) (λ a. rw e late)))
            (omega (arith, count, p, lo_up n)) (omega (arith, late)) (network_open o).1 (heard_work x v e t late o w)
    heard_next x v e t p late o w (joins q s i a b) = joined (state_next r u n c Mobile ∙ s) n (suc (suc v + (1 + 2 * r.delay)))
        (omega arith) (mobile_there b) (joins_mobile x s b) (omega (arith, late))
        (λ k y z. (let same : k ≡ suc n = omega (arith, y, z, t.early) in rw same (state_next r u n c Mobile ∙ s)))
        (heard_work x v e t late o w)
    heard_next x v e t p late o w (stays q s i a) = absurd (cc x.state)

    joined_next : (link_at r n Mobile).endpoint.state ≡ Open → (n0 n1 : ℕ) → n0 ≤ n →
        ((k : ℕ) → n0 ≤ k → k ≤ n → (link_at r k Network).endpoint.state ≡ Open) → Work Mobile 1 n0 n →
        n1 ≤ suc n + r.delay →
        ((k : ℕ) → n1 ≤ k → k ≤ n → (link_at r k Mobile).endpoint.state ≡ Open) → Work Network 0 n1 n →
        MobileSlot r u n →
        Whole (suc n)
    joined_next o n0 n1 a there w b here v (rests i e) = absurd cc
    joined_next o n0 n1 a there w b here v (begins i p q s k x) = absurd cc
    joined_next o n0 n1 a there w b here v (tries p e) = absurd cc
    joined_next o n0 n1 a there w b here v (joins p s i x t) = absurd cc
    joined_next o n0 n1 a there w b here v (stays p s i x) =
        let now : (link_at r (suc n) Mobile).endpoint.state ≡ Open = state_next r u n c Mobile ∙ s in
        let there_now = network_open (there n a (omega arith)) in
        joined now n0 n1 (omega (arith, a)) (λ k y z. at_last k n0 Network there there_now.1 y z)
        (work_next Mobile 1 n0 n w c (omega (arith, a)) s there (λ y. there_now.1)) (omega (arith, b))
        (λ k y z. at_last k n1 Mobile here now y z)
        (work_next Network 0 n1 n v c b there_now.0 here (λ y. now))

    whole_next : Whole n → Whole (suc n)
    whole_next (resting x y) = resting_next x y (mobile_slot r u n h)
    whole_next (calling x b y) = calling_next x b y (mobile_slot r u n h)
    whole_next (heard x v e t p late o w) = heard_next x v e t p late o w (mobile_slot r u n h)
    whole_next (joined o n0 n1 a there w b here v) = joined_next o n0 n1 a there w b here v (mobile_slot r u n h)

  whole_start : Whole 0
  whole_start = resting (record { state = refl; mobile = (refl, refl); before = λ j a. absurd (omega (arith, a)) })
      (idle refl refl refl)

  pub whole : (n : ℕ) → Unclosed r u n → Whole n
  whole zero c = whole_start
  whole (suc n) c =
      let before : Unclosed r u n = λ j a q. c j (omega (arith, a)) q in
      whole_next n (known r u n before) c (whole n before)
