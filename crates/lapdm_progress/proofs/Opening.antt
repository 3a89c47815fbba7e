-- From the start of a run until the mobile opens: its SABM, and what a network that is open already sends, charged to losses.
use Rattle.{
  lapdm_progress.{
    proofs.{
      Frames.{CalledTo, nothing, opened, opening_again, opening_awaits, opening_counts, opening_expires, opening_first, sabm_at_idle},
      Frames.{sabm_at_open, ua_arrives, ua_goes, Brings, sabm_of, ua_of},
      Known.{calls_of, info_next, joins, network_slot, network_stays, rests, state_next, stays, Known, Unclosed, NetworkSlot},
      Runs.{placed_in, NeverReleases, sound, arrived, t200_in},
      Start.idle_silent,
      Paid.{le_of, not_le_of},
      Expiries.loss_of,
      Slots.{answering_slots, answers_first, slots_next, eq_of, lossy_by},
    },
    specs.{
      Channels.{after_slot, Run, after_calls, after_arriving},
      Progress.{link_at, arriving_at, ready_at, frame_at, is_lossy, one_if, round_trip, waiting_slots, lossy_slots, expiries},
    },
  },
  std.proofs.{lemmas.Bool.cases_Bool, Common.{inl, inr, arith, refl, ap, sym, ◌∙◌}, Math.Nat.{mul-add, mul-one}},
  std.specs.Prelude.{◌≡◌, ℕ, suc, ◌+◌, ◌-◌, ◌*◌, ◌≤◌, Bool, true, false, ◌⊎◌, nat_eq, nat_le, List, Some},
  std.specs.Prelude.None,
  lapdm_frame.specs.Content.{Content, I, Rr, Rej, Frame},
  lapdm_end.specs.lapdm_window.{
    declared.State.TheVariants.{Idle, Opening, Open},
    Ends.{Role, Mobile, Network, awaits_answer},
    Calls.is_idle,
  },
  lapdm_link.specs.Events.other,
  lapdm_datalink.specs.{Links.{LinkState, slot_outcome}, Slots.{nr_in, expires_in}},
}
use Rattle.lapdm_progress.proofs.Frames as F
use Rattle.lapdm_progress.proofs.Known as K

pub times_zero : (t e : ℕ) → e ≡ 0 → t * e ≡ 0
times_zero t e h = rw h (omega arith)

pub times_one : (t e : ℕ) → t * (e + 1) ≡ t * e + t
times_one t e = mul-add t e 1 ∙ ap (λ x. t * e + x) (mul-one t)

pub idle_rests : (m : LinkState) → m.endpoint.state ≡ Idle → (awaits_answer m.endpoint ≡ false) × (expires_in m ≡ false)
idle_rests m i = (grind (arith, i), grind (arith, i))

pub young_number : (c : Content) (o : Role) (cr : Bool) (info : List ℕ) (k : ℕ) → Brings o Mobile true info cr c →
    nr_in c ≡ Some k → ⊥
young_number (I ns nr p more x) o cr info k b e = cc
young_number (Rr nr p) o cr info k b e = cc
young_number (Rej nr p) o cr info k b e = cc
young_number other o cr info k b e = cc

idle_open : Idle ≡ Open → ⊥
idle_open h = cc

none_some : {f : Frame} → None ≡ Some f → ⊥
none_some h = cc

apart_from : (n m : ℕ) → suc m ≤ suc n → nat_eq n m ≡ false → suc m ≤ n
apart_from n m h e = grind (arith, e)

module _ (r : Run) (u : NeverReleases r) (long : round_trip r.delay ≤ r.t200) where
  abbrev pub L : ℕ → Role → LinkState
  L n role = link_at r n role

  abbrev pub M : ℕ → Role → LinkState
  M n role = ready_at r n role

  abbrev pub W : ℕ → Role → ℕ
  W n role = waiting_slots r 0 n role

  abbrev pub E : ℕ → Role → ℕ
  E n role = expiries r 0 n role

  abbrev pub B : ℕ → Role → ℕ
  B n role = answering_slots r 0 n role

  abbrev pub Lo : ℕ → ℕ
  Lo n = lossy_slots r 0 n

  abbrev pub info_at : ℕ → List ℕ
  info_at n = (link_at r n Mobile).endpoint.sabm_info

  pub waits_step : (n : ℕ) (role : Role) → W (suc n) role ≡ W n role + one_if (awaits_answer (M n role).endpoint)
  waits_step n role = slots_next (λ j. awaits_answer (ready_at r j role).endpoint) n

  pub expiry_step : (n : ℕ) (role : Role) → E (suc n) role ≡ E n role + one_if (expires_in (M n role))
  expiry_step n role = slots_next (λ j. expires_in (ready_at r j role)) n

  pub answer_step : (n : ℕ) (role : Role) → B (suc n) role ≡ B n role + one_if (answers_first r n role)
  answer_step n role = slots_next (λ j. answers_first r j role) n

  pub loss_step : (n : ℕ) → Lo (suc n) ≡ Lo n + one_if (is_lossy r n)
  loss_step = slots_next (is_lossy r)

  lost_at : (n : ℕ) (role : Role) (f : Frame) → frame_at r n role ≡ Some f → (r.turn n role).is_lost ≡ true →
      one_if (is_lossy r n) ≡ 1
  lost_at n role f e h = ap one_if (lossy_by r n role (loss_of (r.turn n role).is_lost (frame_at r n role) f e h))

  -- ---- the mobile

  -- neither the SABM of slot v nor, so far, the UA to it was lost
  pub record Through (n v : ℕ) : Type 0 where
    pub arrives : (r.turn v Mobile).is_lost ≡ false
    pub returns : suc (suc v + r.delay) ≤ n → ((r.turn (suc v + r.delay) Network).is_lost ≡ false)
        × (frame_at r (suc v + r.delay) Network ≡ Some (ua_of r.pair (info_at n))) × ((L n Network).endpoint.state ≡ Open)
    pub early : n ≤ suc v + (1 + 2 * r.delay)

  -- the mobile sent its SABM first in slot v1 and last in slot v
  pub record Calling (n : ℕ) : Type 0 where
    pub v : ℕ
    pub v1 : ℕ
    pub now : suc v ≤ n
    pub state : (L n Mobile).endpoint.state ≡ Opening
    pub time : (L n Mobile).clock + n ≡ suc v + r.t200
    pub early : suc n ≤ suc v + r.t200
    pub sabm : frame_at r v Mobile ≡ Some (sabm_of r.pair (info_at n))
    pub count : v ≡ v1 + r.t200 * E n Mobile
    pub before : (j : ℕ) → suc j ≤ v1 → frame_at r j Mobile ≡ None
    pub waits : W n Mobile + v ≡ r.t200 * E n Mobile + n
    pub fate : (Through n v × (E n Mobile ≤ Lo n)) ⊎ (E n Mobile + 1 ≤ Lo n)

  pub calling_expires : (n : ℕ) (x : Calling n) → E n Mobile ≤ Lo n
  calling_expires n x = elim x.fate [
    | inl y ↦ y.1
    | inr p ↦ omega (arith, p)
  ]

  pub record Resting (n : ℕ) : Type 0 where
    pub state : (L n Mobile).endpoint.state ≡ Idle
    pub mobile : (W n Mobile ≡ 0) × (E n Mobile ≡ 0)
    pub before : (j : ℕ) → suc j ≤ n → frame_at r j Mobile ≡ None

  is_opening_sent : (n : ℕ) → (L n Mobile).endpoint.state ≡ Opening → (L n Mobile).is_sent ≡ true
  is_opening_sent n o = ((sound r u n).settled Mobile).opening (rw o refl)

  module _ (n : ℕ) where
    -- the mobile opens in the slot in which the UA arrives
    pub confirmed : (x : Calling n) → Through n x.v → n ≡ suc x.v + (1 + 2 * r.delay) → (M n Mobile).endpoint.state ≡ Open
    confirmed x t e = by_calls (calls_of r u n Mobile)
      where
        back : ℕ
        back = suc x.v + r.delay

        here : n ≡ suc back + r.delay
        here = omega (arith, e)

        comes : arriving_at r n Mobile ≡ Some (ua_of r.pair (info_at n))
        comes =
            let y = t.returns (omega (arith, here)) in
            ap (λ k. arriving_at r k Mobile) here ∙ arrived r back Mobile ∙ rw (y.0, y.1) refl

        opens_now : K.after r u n Mobile ≡ opened (L n Mobile)
        opens_now = ap (λ o. after_arriving o (L n Mobile)) comes
            ∙ ua_arrives r.pair (L n Mobile) ((sound r u n).placed Mobile) x.state
            (is_opening_sent n x.state) (info_at n) refl

        is_open : (K.after r u n Mobile).endpoint.state ≡ Open
        is_open = ap (λ l. l.endpoint.state) opens_now

        by_calls : CalledTo r.pair Mobile (K.after r u n Mobile) (after_calls (r.turn n Mobile).calls (K.after r u n Mobile)) →
            (M n Mobile).endpoint.state ≡ Open
        by_calls (nothing q) = ap (λ l. l.endpoint.state) q ∙ is_open
        by_calls (F.opens a b c d f g) = absurd (idle_open (sym b ∙ is_open))
        by_calls (F.sends a b c) = b

    module _ (x : Calling n) (e : M n Mobile ≡ after_slot false (L n Mobile)) where
      m_opening : (M n Mobile).endpoint.state ≡ Opening
      m_opening = ap (λ l. l.endpoint.state) e ∙ x.state

      m_none : (M n Mobile).answer ≡ None
      m_none = ap (λ l. l.answer) e ∙ ((sound r u n).settled Mobile).owes

      m_sent : (M n Mobile).is_sent ≡ true
      m_sent = ap (λ l. l.is_sent) e ∙ is_opening_sent n x.state

      m_clock : (M n Mobile).clock ≡ (L n Mobile).clock - 1
      m_clock = ap (λ l. l.clock) e

      info_same : info_at (suc n) ≡ info_at n
      info_same = info_next r u n Mobile ∙ ap (λ l. l.endpoint.sabm_info) e

      not_confirmed : Through n x.v → n ≡ suc x.v + (1 + 2 * r.delay) → ⊥
      not_confirmed t q = cc (confirmed x t q)

      pub not_due_yet : Through n x.v → (L n Mobile).clock ≤ 1 → ⊥
      not_due_yet t k = not_confirmed t (omega (arith, k, x.time, x.early, long, t.early))

      pub must_fail : (L n Mobile).clock ≤ 1 → E n Mobile + 1 ≤ Lo n
      must_fail k = elim x.fate [
        | inl y ↦ absurd (not_due_yet y.0 k)
        | inr p ↦ p
      ]

  module _ (n : ℕ) (h : Known r u n) (c : Unclosed r u (suc n)) where
    pub rest_on : Resting n → M n Mobile ≡ after_slot (r.turn n Mobile).is_held (L n Mobile) → Resting (suc n)
    rest_on x e = record {
      state = state_next r u n c Mobile ∙ idle;
      mobile = (
        omega (arith, waits_step n Mobile, x.mobile.0, ap one_if (idle_rests (M n Mobile) idle).0),
        omega (arith, expiry_step n Mobile, x.mobile.1, ap one_if (idle_rests (M n Mobile) idle).1),
      );
      before = λ j a. by_last j a (nat_le (suc j) n) refl;
    }
      where
        idle : (M n Mobile).endpoint.state ≡ Idle
        idle = ap (λ l. l.endpoint.state) e ∙ x.state

        by_last : (j : ℕ) → suc j ≤ suc n → (b : Bool) → nat_le (suc j) n ≡ b → frame_at r j Mobile ≡ None
        by_last j a true q = x.before j (le_of (suc j) n q)
        by_last j a false q =
            let same : j ≡ n = omega (arith, not_le_of (suc j) n q, a) in
            rw same (idle_silent (M n Mobile) (ap is_idle idle)
            (ap (λ l. l.answer) e ∙ ((sound r u n).settled Mobile).owes))

    by_fate : (e : ℕ) → e ≤ Lo n → frame_at r n Mobile ≡ Some (sabm_of r.pair (info_at (suc n))) → (b : Bool) →
        (r.turn n Mobile).is_lost ≡ b →
        (Through (suc n) n × (e ≤ Lo (suc n))) ⊎ (e + 1 ≤ Lo (suc n))
    by_fate e p f true lost = inr (omega (arith, p, loss_step n, lost_at n Mobile _ f lost))
    by_fate e p f false kept = inl (
      record { arrives = kept; returns = λ k. absurd (omega (arith, k)); early = omega arith },
      omega (arith, p, loss_step n),
    )

    pub begin : Resting n → (M n Mobile).endpoint.state ≡ Opening → (M n Mobile).is_sent ≡ false → (M n Mobile).clock ≡ 0 →
        (M n Mobile).answer ≡ None → Calling (suc n)
    begin x o s k a = record {
      v = n;
      v1 = n;
      now = omega arith;
      state = state_next r u n c Mobile ∙ o;
      time = omega (arith, y.1, t200_in r u n Mobile);
      early = omega (arith, long);
      sabm = sent;
      count = omega (arith, times_zero r.t200 (E (suc n) Mobile) none);
      before = x.before;
      waits = omega (
        arith,
        waits_step n Mobile,
        x.mobile.0,
        ap one_if (opening_awaits (M n Mobile) o),
        times_zero r.t200 (E (suc n) Mobile) none,
      );
      fate = rw none (by_fate 0 (omega arith) sent (r.turn n Mobile).is_lost refl);
    }
      where
        y : ((slot_outcome (M n Mobile)).frame ≡ Some (sabm_of r.pair (M n Mobile).endpoint.sabm_info))
            × ((slot_outcome (M n Mobile)).link.clock ≡ (M n Mobile).t200) × (expires_in (M n Mobile) ≡ false)
        y = opening_first (M n Mobile) o a r.pair (placed_in r u n Mobile) s k

        sent : frame_at r n Mobile ≡ Some (sabm_of r.pair (info_at (suc n)))
        sent = y.0 ∙ ap (λ i. Some (sabm_of r.pair i)) (sym (info_next r u n Mobile))

        none : E (suc n) Mobile ≡ 0
        none = omega (arith, expiry_step n Mobile, x.mobile.1, ap one_if y.2)

    -- the UA goes out in the slot in which the SABM arrives
    answered : (x : Calling n) → Through n x.v → n ≡ suc x.v + r.delay →
        (frame_at r n Network ≡ Some (ua_of r.pair (info_at n))) × ((M n Network).endpoint.state ≡ Open)
    answered x t e = ((ua_goes (M n Network) r.pair (info_at n) is_open owes).0, is_open)
      where
        comes : arriving_at r n Network ≡ Some (sabm_of r.pair (info_at n))
        comes = ap (λ k. arriving_at r k Network) e ∙ arrived r x.v Network ∙ rw (t.arrives, x.sabm) refl

        after : (after_arriving (Some (sabm_of r.pair (info_at n))) (L n Network)).answer ≡ Some (ua_of r.pair (info_at n))
        after = elim h.network [
          | inl i ↦ sabm_at_idle r.pair (L n Network) ((sound r u n).placed Network) i (info_at n)
              (h.some (λ q. cc x.state))
          | inr o ↦ sabm_at_open r.pair (L n Network) ((sound r u n).placed Network) o (info_at n)
              (h.some (λ q. cc x.state)) (h.info o)
        ]

        owes : (M n Network).answer ≡ Some (ua_of r.pair (info_at n))
        owes = K.kept r u n Network ∙ ap (λ o. (after_arriving o (L n Network)).answer) comes ∙ after

        is_open : (M n Network).endpoint.state ≡ Open
        is_open = by_slot (network_slot r u n h)
          where
            by_slot : NetworkSlot r u n → (M n Network).endpoint.state ≡ Open
            by_slot (rests i e) =
                absurd (none_some (sym (ap (λ l. l.answer) e ∙ ((sound r u n).settled Network).owes) ∙ owes))
            by_slot (joins i o p a q) = o
            by_slot (stays i o p a) = o

    module _ (x : Calling n) (e : M n Mobile ≡ after_slot false (L n Mobile)) where
      new_info : (k : ℕ) → frame_at r k Network ≡ Some (ua_of r.pair (info_at n)) →
          frame_at r k Network ≡ Some (ua_of r.pair (info_at (suc n)))
      new_info k q = q ∙ ap (λ i. Some (ua_of r.pair i)) (sym (info_same n x e))

      pub through_next : Through n x.v → (suc (suc x.v + r.delay) ≤ suc n → suc (suc x.v + r.delay) ≤ n) → Through (suc n) x.v
      through_next t later = record {
        arrives = t.arrives;
        returns = λ a. (let z = t.returns (later a) in
            (z.0, new_info (suc x.v + r.delay) z.1, network_stays r u n h c (network_slot r u n h) z.2));
        early = by_early (nat_le (suc n) (suc x.v + (1 + 2 * r.delay))) refl;
      }
        where
          by_early : (b : Bool) → nat_le (suc n) (suc x.v + (1 + 2 * r.delay)) ≡ b → suc n ≤ suc x.v + (1 + 2 * r.delay)
          by_early true z = le_of (suc n) (suc x.v + (1 + 2 * r.delay)) z
          by_early false z =
              absurd (not_confirmed n x e t (omega (arith, not_le_of (suc n) (suc x.v + (1 + 2 * r.delay)) z, t.early)))

      call_again : (L n Mobile).clock ≤ 1 → Calling (suc n)
      call_again k = record {
        v = n;
        v1 = x.v1;
        now = omega arith;
        state = state_next r u n c Mobile ∙ (m_opening n x e);
        time = omega (arith, y.1, t200_in r u n Mobile);
        early = omega (arith, long);
        sabm = sent;
        count = omega (arith, x.count, more, times_one r.t200 (E n Mobile), product, x.time, x.early, k);
        before = x.before;
        waits = omega (
          arith,
          waits_step n Mobile,
          x.waits,
          ap one_if (opening_awaits (M n Mobile) (m_opening n x e)),
          times_one r.t200 (E n Mobile),
          product,
          x.time,
          x.early,
          k,
        );
        fate = rw more (by_fate (E n Mobile + 1) (must_fail n x e k) sent (r.turn n Mobile).is_lost refl);
      }
        where
          zero_clock : (M n Mobile).clock ≡ 0
          zero_clock = omega (arith, (m_clock n x e), k)

          y : ((slot_outcome (M n Mobile)).frame ≡ Some (sabm_of r.pair (M n Mobile).endpoint.sabm_info))
              × ((slot_outcome (M n Mobile)).link.clock ≡ (M n Mobile).t200)
          y = opening_again (M n Mobile) (m_opening n x e) (m_none n x e) r.pair (placed_in r u n Mobile)
              (m_sent n x e) zero_clock
              (state_next r u n c Mobile ∙ (m_opening n x e))

          sent : frame_at r n Mobile ≡ Some (sabm_of r.pair (info_at (suc n)))
          sent = y.0 ∙ ap (λ i. Some (sabm_of r.pair i)) (sym (info_next r u n Mobile))

          more : E (suc n) Mobile ≡ E n Mobile + 1
          more = expiry_step n Mobile ∙ ap (λ b. E n Mobile + one_if b)
              (opening_expires (M n Mobile) (m_opening n x e) (m_none n x e)
              (m_sent n x e) zero_clock)

          product : r.t200 * E (suc n) Mobile ≡ r.t200 * (E n Mobile + 1)
          product = ap (λ k. r.t200 * k) more

      call_on : 2 ≤ (L n Mobile).clock → (z : Calling (suc n)) × (z.v ≡ x.v) × (E (suc n) Mobile ≡ E n Mobile)
      call_on k = (
        record {
          v = x.v;
          v1 = x.v1;
          now = omega (arith, x.now);
          state = state_next r u n c Mobile ∙ (m_opening n x e);
          time = omega (arith, y.0, (m_clock n x e), x.time, k);
          early = omega (arith, x.time, k);
          sabm = x.sabm ∙ ap (λ i. Some (sabm_of r.pair i)) (sym (info_same n x e));
          count = x.count ∙ ap (λ j. x.v1 + r.t200 * j) (sym same);
          before = x.before;
          waits = omega (
            arith,
            waits_step n Mobile,
            x.waits,
            ap one_if (opening_awaits (M n Mobile) (m_opening n x e)),
            ap (λ j. r.t200 * j) same,
          );
          fate = rw same (by_case x.fate);
        },
        refl,
        same,
      )
        where
          y : ((slot_outcome (M n Mobile)).link.clock ≡ (M n Mobile).clock) × (expires_in (M n Mobile) ≡ false)
          y = opening_counts (M n Mobile) (m_opening n x e) (m_none n x e)
              (omega (arith, (m_clock n x e), k))

          same : E (suc n) Mobile ≡ E n Mobile
          same = omega (arith, expiry_step n Mobile, ap one_if y.1)

          through : (t : Through n x.v) → E n Mobile ≤ Lo n → (b : Bool) → nat_eq n (suc x.v + r.delay) ≡ b → (l : Bool) →
              (r.turn n Network).is_lost ≡ l →
              (Through (suc n) x.v × (E n Mobile ≤ Lo (suc n))) ⊎ (E n Mobile + 1 ≤ Lo (suc n))
          through t p true q true lost = inr (omega (
            arith,
            p,
            loss_step n,
            lost_at n Network _ (answered x t (eq_of n (suc x.v + r.delay) q)).0 lost,
          ))
          through t p true q false kept = inl (
            record {
              arrives = t.arrives;
              returns = λ a. (
                ap (λ j. (r.turn j Network).is_lost) (sym (eq_of n (suc x.v + r.delay) q)) ∙ kept,
                ap (λ j. frame_at r j Network) (sym (eq_of n (suc x.v + r.delay) q))
                    ∙ new_info n (answered x t (eq_of n (suc x.v + r.delay) q)).0,
                state_next r u n c Network ∙ (answered x t (eq_of n (suc x.v + r.delay) q)).1,
              );
              early = omega (arith, eq_of n (suc x.v + r.delay) q);
            },
            omega (arith, p, loss_step n),
          )
          through t p false q l lost =
              inl (through_next t (λ a. apart_from n (suc x.v + r.delay) a q), omega (arith, p, loss_step n))

          by_case : (Through n x.v × (E n Mobile ≤ Lo n)) ⊎ (E n Mobile + 1 ≤ Lo n) →
              (Through (suc n) x.v × (E n Mobile ≤ Lo (suc n))) ⊎ (E n Mobile + 1 ≤ Lo (suc n))
          by_case (inl (t, p)) = through t p _ refl _ refl
          by_case (inr p) = inr (omega (arith, p, loss_step n))

      -- it goes on waiting, or repeats its SABM
      pub call_next : (z : Calling (suc n)) × (((z.v ≡ x.v) × (E (suc n) Mobile ≡ E n Mobile)) ⊎ ((L n Mobile).clock ≤ 1))
      call_next = elim (cases_Bool (nat_le 2 (L n Mobile).clock)) [
        | inl k ↦ let y = call_on (le_of 2 (L n Mobile).clock k) in (y.0, inl (y.1, y.2))
        | inr k ↦
            let low : (L n Mobile).clock ≤ 1 = omega (arith, not_le_of 2 (L n Mobile).clock k) in (call_again low, inr low)
      ]
