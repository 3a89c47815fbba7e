-- The bounds from the start of a run, and why few losses close no link.
use Rattle.{
  lapdm_progress.{
    specs.{Progress.{few_losses, link_at, arriving_at, ready_at, round_trip, lossy_slots, one_if, frames_at, FromStart}, Channels.Pair},
    specs.Channels.{Run, IsUse, after_arriving, after_calls},
    proofs.{
      Whole.{calling, heard, joined, resting, Work, Whole, whole, few, IsUnheard, mobile_work, lo_up},
      Early.{alone, idle, Early, late_open, expires_not},
      Frames.{response_is, slot_state, ua_goes},
      Known.{begins, joins, mobile_slot, network_slot, rests, stays, tries, Known, Unclosed, MobileSlot, NetworkSlot, known},
      Steps.{acked, issued, is_rej},
      Link.{reply_with, not_rej, over_endpoint, over_calls},
      Runs.{NeverReleases, sound},
      Start.{is_young, over_i},
      Paid.{le_of, not_le_of},
      Expiries.{old_enough, waits_at},
      Waiting.{Stage, quiet, unsent, failed, going},
      Opening.{times_one, idle_rests, W, E, B, Lo, expiry_step, Calling, calling_expires, must_fail},
      Total.answers_total,
      Slots.{ack_one, clock_within, due_clock, expires_due, no_ack, open_awaits, times_le},
    },
  },
  std.proofs.{lemmas.Bool.cases_Bool, Common.{inl, inr, arith, refl, ap, sym, ◌∙◌}, Math.Nat.{add-mul, mul-add, one-mul}},
  std.specs.Prelude.{◌≡◌, ◌≢◌, ℕ, zero, suc, ◌+◌, ◌*◌, ◌≤◌, Bool, true, false, ◌⊎◌, nat_le, nat_lt, List},
  std.specs.Prelude.{Option, Some, All, ◌-◌},
  lapdm_frame.specs.Content.{Content, I, Frame},
  lapdm_end.specs.lapdm_window.{
    declared.State.TheVariants.{Idle, Open, Closed},
    Ends.{Role, Mobile, Network, EndpointState, n200, awaits_ack},
    Tables.{outcome_of_reply, Reply, TakesIFrame, TakesRr, TakesRej},
    Calls.{Call, is_idle, t200_expiry},
    segmenting.Segments.Segment,
    Rules.{takes_i_frame, takes_rr},
  },
  lapdm_link.specs.Events.other,
  lapdm_datalink.{
    specs.{Links.{LinkState, SlotOutcome, slot_outcome, is_due}, Slots.{expires_in, answer_goes}},
    proofs.Answering.{IsSlot, expiring, is_slot},
  },
}
use Rattle.lapdm_progress.proofs.Waiting as P
use Rattle.lapdm_progress.proofs.Early as Y

-- ---- the bounds

module _ (r : Run) (u : NeverReleases r) (long : round_trip r.delay ≤ r.t200) where
  work_bound : (role : Role) (more n0 n : ℕ) → Work r u long role more n0 n → W r u long n role
      ≤ round_trip r.delay * (more + issued (link_at r n role)) + r.t200 * Lo r u long n + B r u long n role
  work_bound role more n0 n w = by_stage w.paid w.used w.stage w.bound
    where
      R : ℕ
      R = round_trip r.delay

      low : R * acked (link_at r n role) ≤ R * issued (link_at r n role)
      low = times_le R (acked (link_at r n role)) (issued (link_at r n role)) ((sound r u n).good role).low

      split : R * (more + issued (link_at r n role)) ≡ R * more + R * issued (link_at r n role)
      split = mul-add R more (issued (link_at r n role))

      by_stage : (paid used : ℕ) → Stage r u long n0 role n paid used →
          W r u long n role + paid ≤ R * acked (link_at r n role) + R * more + r.t200 * Lo r u long n + B r u long n role + used →
          W r u long n role ≤ R * (more + issued (link_at r n role)) + r.t200 * Lo r u long n + B r u long n role
      by_stage paid used (quiet p q a) b = omega (arith, b, q, low, split)
      by_stage paid used (unsent p q a) b = omega (arith, b, q, low, split)
      by_stage paid used (failed p q) b = omega (arith, b, q, low, split)
      by_stage paid used (going g p q) b =
          let one : issued (link_at r n role) ≡ acked (link_at r n role) + 1 =
          ack_one (link_at r n role) g.awaits ((sound r u n).good role).low ((sound r u n).good role).window in
          let product : R * issued (link_at r n role) ≡ R * acked (link_at r n role) + R =
          ap (λ x. R * x) one ∙ times_one R (acked (link_at r n role)) in
          omega (arith, b, q, g.early, product, split)

  -- the network while the mobile opens
  early_bound : (n : ℕ) (x : Calling r u long n) → IsUnheard r u long n x → Early r u long n →
      (W r u long n Network ≤ r.t200 * Lo r u long n + B r u long n Network) × (E r u long n Network ≤ Lo r u long n)
  early_bound n x b (idle i w e) = (omega (arith, w), omega (arith, e))
  early_bound n x b (alone q a some o (Y.unsent w e z)) = (omega (arith, w), omega (arith, e))
  early_bound n x b (alone q a some o (Y.sent k w e f g s)) =
      (omega (arith, w, times_le r.t200 k (Lo r u long n) fewer), omega (arith, e, fewer))
    where
      fewer : k ≤ Lo r u long n
      fewer = few r u long n x q k b (late_open r u long n x q some) (omega (arith, f, clock_within r u Network n))

  -- the frames of a link, with its SABM
  pub record Bounds (n : ℕ) : Type 0 where
    pub mobile : W r u long n Mobile ≤ round_trip r.delay * frames_at r n Mobile + r.t200 * Lo r u long n + B r u long n Mobile
    pub network : W r u long n Network ≤ round_trip r.delay * frames_at r n Network + r.t200 * Lo r u long n + B r u long n Network
    pub mobile_expires : E r u long n Mobile ≤ Lo r u long n
    pub network_expires : E r u long n Network ≤ Lo r u long n

  asked_one : (n : ℕ) → is_idle (link_at r n Mobile).endpoint.state ≡ false →
      frames_at r n Mobile ≡ 1 + issued (link_at r n Mobile)
  asked_one n e = rw e refl

  work_expires : (role : Role) (more n0 n : ℕ) → Work r u long role more n0 n → E r u long n role ≤ Lo r u long n
  work_expires role more n0 n w = omega (arith, w.repays)

  network_idle : (n : ℕ) → (link_at r n Mobile).endpoint.state ≡ Idle → (link_at r n Network).endpoint.state ≡ Open → ⊥
  network_idle n i o = cc ((sound r u n).network_idle (ap is_idle i))

  calling_waits : (n : ℕ) (x : Calling r u long n) → W r u long n Mobile
      ≤ round_trip r.delay * frames_at r n Mobile + r.t200 * Lo r u long n + B r u long n Mobile
  calling_waits n x = rw (asked_one n (ap is_idle x.state)) (work_bound Mobile 1 n n (mobile_work r u long n x))

  network_waits : (n n0 : ℕ) → Work r u long Network 0 n0 n → W r u long n Network
      ≤ round_trip r.delay * frames_at r n Network + r.t200 * Lo r u long n + B r u long n Network
  network_waits n n0 w =
      let e : 0 + issued (link_at r n Network) ≡ issued (link_at r n Network) = omega arith in
      omega (arith, work_bound Network 0 n0 n w, ap (λ x. round_trip r.delay * x) e)

  bounds : (n : ℕ) → Whole r u long n → Bounds n
  bounds n (resting x y) = record {
    mobile = omega (arith, x.mobile.0);
    network = omega (arith, (by_early y).0);
    mobile_expires = omega (arith, x.mobile.1);
    network_expires = omega (arith, (by_early y).1);
  }
    where
      by_early : Early r u long n → (W r u long n Network ≡ 0) × (E r u long n Network ≡ 0)
      by_early (idle i w e) = (w, e)
      by_early (alone q a some o z) = absurd (network_idle n x.state o)
  bounds n (calling x b y) = record {
    mobile = calling_waits n x;
    network = omega (arith, (early_bound n x b y).0);
    mobile_expires = calling_expires r u long n x;
    network_expires = (early_bound n x b y).1;
  }
  bounds n (heard x v e t p late o w) = record {
    mobile = calling_waits n x;
    network = network_waits n (suc (suc v + (1 + 2 * r.delay))) w;
    mobile_expires = calling_expires r u long n x;
    network_expires = work_expires Network 0 (suc (suc v + (1 + 2 * r.delay))) n w;
  }
  bounds n (joined o n0 n1 a there w b here v) = record {
    mobile = rw (asked_one n (ap is_idle o)) (work_bound Mobile 1 n0 n w);
    network = network_waits n n1 v;
    mobile_expires = work_expires Mobile 1 n0 n w;
    network_expires = work_expires Network 0 n1 n v;
  }

  times_next : (l : ℕ) → (r.t200 + 1) * l ≡ r.t200 * l + l
  times_next l = add-mul r.t200 1 l ∙ ap (λ x. r.t200 * l + x) (one-mul l)

-- ---- what a slot does to an endpoint

not_less : (a b : ℕ) → nat_lt a b ≡ false → b ≤ a
not_less a b h = grind (arith, h)

expiry_closes : (e : EndpointState) → (t200_expiry e).new_state.state ≡ Closed → e.state ≢ Closed → few_losses ≤ e.retries
expiry_closes e h o = elim (cases_Bool (nat_lt e.retries (n200 e.channel e.state))) [
  | inl k ↦ absurd (o (sym (grind (arith, k)) ∙ h))
  | inr k ↦ omega (arith, five, not_less e.retries (n200 e.channel e.state) k)
]
  where
    five : few_losses ≤ n200 e.channel e.state
    five = grind arith

expiry_counts : (e : EndpointState) → (t200_expiry e).new_state.retries ≤ e.retries + 1
expiry_counts e = grind arith

-- a link that is given up in its slot had repeated its frame N200 times
gives_up : (m : LinkState) → (slot_outcome m).link.endpoint.state ≡ Closed → m.endpoint.state ≢ Closed →
    (expires_in m ≡ true) × (few_losses ≤ m.endpoint.retries)
gives_up m h o = by_slot (slot_outcome m) (is_slot m) h
  where
    by_slot : (s : SlotOutcome) → IsSlot m s → s.link.endpoint.state ≡ Closed →
        (expires_in m ≡ true) × (few_losses ≤ m.endpoint.retries)
    by_slot s (expiring awaits sent due over) h = (over, expiry_closes m.endpoint h o)
    by_slot s other h = absurd (o h)

slot_retries : (m : LinkState) → (slot_outcome m).link.endpoint.retries ≤ m.endpoint.retries + one_if (expires_in m)
slot_retries m = by_slot (slot_outcome m) (is_slot m)
  where
    by_slot : (s : SlotOutcome) → IsSlot m s → s.link.endpoint.retries ≤ m.endpoint.retries + one_if (expires_in m)
    by_slot s (expiring awaits sent due over) = omega (arith, expiry_counts m.endpoint, ap one_if over)
    by_slot s other = omega arith

i_retries : (ns nr : ℕ) (p : Bool) (s : Segment) (e : EndpointState) → (takes_i_frame ns nr p s e).new_state.retries ≤ e.retries
i_retries ns nr p s e = grind arith

rr_retries : (nr : ℕ) (p : Bool) (e : EndpointState) → (takes_rr nr p e).new_state.retries ≤ e.retries
rr_retries nr p e = grind arith

reply_retries : (e : EndpointState) (r : Reply) → is_rej r ≡ false → (outcome_of_reply r e).new_state.retries ≤ e.retries
reply_retries e (TakesIFrame ns nr p s) h = i_retries ns nr p s e
reply_retries e (TakesRr nr p) h = rr_retries nr p e
reply_retries e (TakesRej nr p) h = absurd cc
reply_retries e other h = grind arith

-- ---- Closed is never left

module _ (cr : Bool) (l : LinkState) where
  closed_reply : (c : Content) → l.endpoint.state ≡ Closed →
      (outcome_of_reply (reply_with cr l c) l.endpoint).new_state.state ≡ Closed
  closed_reply (I ns nr p more info) h = over_i cr l (λ q. (outcome_of_reply q l.endpoint).new_state.state ≡ Closed)
      ns nr p more info (λ o. absurd cc) h h
  closed_reply other h = grind (arith, h)

closed_arriving : (o : Option Frame) (l : LinkState) → l.endpoint.state ≡ Closed →
    (after_arriving o l).endpoint.state ≡ Closed
closed_arriving o l h = over_endpoint o l (λ e. e.state ≡ Closed) h (λ f. closed_reply f.cr l f.content h)

pub closed_calls : (w : Pair) (role : Role) (cs : List Call) (l : LinkState) → All (IsUse w role) cs → l.endpoint.state ≡ Closed →
    (after_calls cs l).endpoint.state ≡ Closed
closed_calls w role = over_calls w role (λ l m. l.endpoint.state ≡ Closed → m.endpoint.state ≡ Closed) (λ l h. h)
    (λ l m k a b h. b (a h)) (λ m l e h. absurd (grind (arith, h, e))) (λ info l q i may h. absurd (grind (arith, h, i)))

module _ (r : Run) (u : NeverReleases r) where
  closed_next : (n : ℕ) (role : Role) → (link_at r n role).endpoint.state ≡ Closed →
      (link_at r (suc n) role).endpoint.state ≡ Closed
  closed_next n role h = by_slot (slot_state (ready_at r n role))
    where
      ready : (ready_at r n role).endpoint.state ≡ Closed
      ready = closed_calls r.pair role (r.turn n role).calls (after_arriving (arriving_at r n role) (link_at r n role)) (u n role)
          (closed_arriving (arriving_at r n role) (link_at r n role) h)

      by_slot : ((slot_outcome (ready_at r n role)).link.endpoint.state ≡ (ready_at r n role).endpoint.state)
          ⊎ ((slot_outcome (ready_at r n role)).link.endpoint.state ≡ Closed) →
          (slot_outcome (ready_at r n role)).link.endpoint.state ≡ Closed
      by_slot (inl e) = e ∙ ready
      by_slot (inr e) = e

  closed_on : (n k : ℕ) (role : Role) → (link_at r n role).endpoint.state ≡ Closed →
      (link_at r (n + k) role).endpoint.state ≡ Closed
  closed_on n zero role h = let e : n + 0 ≡ n = omega arith in rw e h
  closed_on n (suc k) role h = let e : n + suc k ≡ suc (n + k) = omega arith in rw e (closed_next (n + k) role (closed_on n k role h))

  pub unclosed : (n : ℕ) → ((role : Role) → (link_at r n role).endpoint.state ≢ Closed) → Unclosed r u n
  unclosed n h j a role q =
      let e : j + (n - j) ≡ n = omega (arith, a) in h role (rw e at (closed_on j (n - j) role q))

-- ---- repetitions are counted

arriving_retries : (o : Option Frame) (l : LinkState) →
    (after_arriving o l).endpoint.retries ≤ l.endpoint.retries
arriving_retries o l = over_endpoint o l (λ e. e.retries ≤ l.endpoint.retries) (omega arith)
    (λ f. reply_retries l.endpoint (reply_with f.cr l f.content) (not_rej f.cr l f.content))

calls_retries : (w : Pair) (role : Role) (cs : List Call) (l : LinkState) → All (IsUse w role) cs →
    (after_calls cs l).endpoint.retries ≤ l.endpoint.retries
calls_retries w role = over_calls w role (λ l m. m.endpoint.retries ≤ l.endpoint.retries) (λ l. omega arith)
    (λ l m k a b. omega (arith, a, b)) (λ m l ok. grind arith) (λ info l q i may. grind arith)

module _ (r : Run) (u : NeverReleases r) (long : round_trip r.delay ≤ r.t200) where
  ready_retries : (n : ℕ) (role : Role) → (ready_at r n role).endpoint.retries ≤ (link_at r n role).endpoint.retries
  ready_retries n role = omega (
    arith,
    arriving_retries (arriving_at r n role) (link_at r n role),
    calls_retries r.pair role (r.turn n role).calls (after_arriving (arriving_at r n role) (link_at r n role)) (u n role),
  )

  retries_most : (n : ℕ) (role : Role) → (link_at r n role).endpoint.retries ≤ E r u long n role
  retries_most zero role = omega arith
  retries_most (suc n) role = omega (
    arith,
    slot_retries (ready_at r n role),
    ready_retries n role,
    retries_most n role,
    expiry_step r u long n role,
  )

  -- ---- each expiry, and the one that gives up, has a loss of its own

  no_expiry : (m : LinkState) → expires_in m ≡ true → m.is_sent ≡ false → ⊥
  no_expiry m h s = cc (sym (expires_due m h).1)

  module _ (n : ℕ) (h : Known r u n) where
    work_owes : (role : Role) (more n0 : ℕ) → Work r u long role more n0 n → n0 ≤ suc n + r.delay →
        (ready_at r n role).endpoint.state ≡ Open →
        ((k : ℕ) → n0 ≤ k → k ≤ n → (link_at r k (other role)).endpoint.state ≡ Open) →
        expires_in (ready_at r n role) ≡ true →
        E r u long n role + 1 ≤ Lo r u long n
    work_owes role more n0 w first o there x =
        let y = expires_due (ready_at r n role) x in
        omega (arith, w.repays, P.was_failed r u long n0 role n first o there w.paid w.used w.stage y.0 y.1)

    network_ready : (link_at r n Network).endpoint.state ≡ Open → (ready_at r n Network).endpoint.state ≡ Open
    network_ready o = by_slot (network_slot r u n h)
      where
        by_slot : NetworkSlot r u n → (ready_at r n Network).endpoint.state ≡ Open
        by_slot (rests i e) = absurd cc
        by_slot (joins i p x a q) = p
        by_slot (stays i p x a) = p

    opening_owes : (x : Calling r u long n) → expires_in (ready_at r n Mobile) ≡ true → MobileSlot r u n →
        E r u long n Mobile + 1 ≤ Lo r u long n
    opening_owes x y (rests i e) = absurd (cc x.state)
    opening_owes x y (begins i o q s k a) = absurd (cc x.state)
    opening_owes x y (tries o e) = must_fail r u long n x e
        (omega (arith, (due_clock (ready_at r n Mobile) (expires_due (ready_at r n Mobile) y).0).0, ap (λ l. l.clock) e))
    opening_owes x y (joins o p i a t) =
        let d = expires_due (ready_at r n Mobile) y in
        let w = waits_at r u Mobile n (sym (open_awaits (ready_at r n Mobile).endpoint p) ∙ (due_clock (ready_at r n Mobile) d.0).1)
        d.1 in
        absurd (cc (w.0, no_ack (link_at r n Mobile) (old_enough r u Mobile n (ap is_young x.state))))
    opening_owes x y (stays o p i a) = absurd (cc x.state)

    mobile_owes : Whole r u long n → expires_in (ready_at r n Mobile) ≡ true → MobileSlot r u n →
        E r u long n Mobile + 1 ≤ Lo r u long n
    mobile_owes (resting x y) e (rests i q) = absurd (cc ((idle_rests (ready_at r n Mobile) (ap (λ l. l.endpoint.state) q ∙ i)).1))
    mobile_owes (resting x y) e (begins i o q s k a) = absurd (no_expiry (ready_at r n Mobile) e s)
    mobile_owes (resting x y) e (tries o q) = absurd (cc x.state)
    mobile_owes (resting x y) e (joins o p i a t) = absurd (cc x.state)
    mobile_owes (resting x y) e (stays o p i a) = absurd (cc x.state)
    mobile_owes (calling x b y) e z = opening_owes x e z
    mobile_owes (heard x v s t p late o w) e z = opening_owes x e z
    mobile_owes (joined o n0 n1 a there w b here v) e (rests i q) = absurd cc
    mobile_owes (joined o n0 n1 a there w b here v) e (begins i p q s k x) = absurd cc
    mobile_owes (joined o n0 n1 a there w b here v) e (tries p q) = absurd cc
    mobile_owes (joined o n0 n1 a there w b here v) e (joins p q i x t) = absurd cc
    mobile_owes (joined o n0 n1 a there w b here v) e (stays p q i x) =
        work_owes Mobile 1 n0 w (omega (arith, a)) q there e

    idle_owes : (link_at r n Network).endpoint.state ≡ Idle → expires_in (ready_at r n Network) ≡ true → NetworkSlot r u n → ⊥
    idle_owes i e (rests j q) = cc ((idle_rests (ready_at r n Network) (ap (λ l. l.endpoint.state) q ∙ i)).1)
    idle_owes i e (joins j p x a q) =
        let ua = a ∙ ap Some (response_is r.pair (link_at r n Network) ((sound r u n).placed Network)
        (link_at r n Mobile).endpoint.sabm_info) in
        cc (expires_not (ready_at r n Network) (ua_goes (ready_at r n Network) r.pair (link_at r n Mobile).endpoint.sabm_info p ua).1)
    idle_owes i e (stays o p x a) = cc

    early_owes : (x : Calling r u long n) → IsUnheard r u long n x → Early r u long n → expires_in (ready_at r n Network) ≡ true →
        E r u long n Network + 1 ≤ Lo r u long n
    early_owes x b (idle i w e) y = absurd (idle_owes i y (network_slot r u n h))
    early_owes x b (alone q a some o (Y.unsent w e z)) y = absurd (by_case z)
      where
        d : (is_due (ready_at r n Network) ≡ true) × ((ready_at r n Network).is_sent ≡ true)
            × (answer_goes (ready_at r n Network).answer (ready_at r n Network) ≡ false)
        d = expires_due (ready_at r n Network) y

        v : (awaits_ack (link_at r n Network).endpoint ≡ true) × ((link_at r n Network).is_sent ≡ true)
            × (acked (ready_at r n Network) ≡ acked (link_at r n Network))
            × ((ready_at r n Network).clock ≡ (link_at r n Network).clock - 1)
        v =
            let x = waits_at r u Network n (sym (open_awaits (ready_at r n Network).endpoint (network_ready o))
            ∙ (due_clock (ready_at r n Network) d.0).1) d.1 in
            (x.0, x.1, x.2, x.3 (due_clock (ready_at r n Network) d.0).1)

        by_case : ((link_at r n Network).is_sent ≡ false) ⊎ (awaits_ack (link_at r n Network).endpoint ≡ false) → ⊥
        by_case (inl f) = cc v.1
        by_case (inr f) = cc v.0
    early_owes x b (alone q a some o (Y.sent k w e f g s)) y = omega (
      arith,
      e,
      few r u long n x q k b (late_open r u long n x q some) (omega (arith, f, clock_within r u Network n)),
    )

    network_owes : Whole r u long n → expires_in (ready_at r n Network) ≡ true →
        E r u long n Network + 1 ≤ Lo r u long n
    network_owes (resting x (idle i w e)) y = absurd (idle_owes i y (network_slot r u n h))
    network_owes (resting x (alone q a some o z)) y = absurd (network_idle r u long n x.state o)
    network_owes (calling x b z) y = early_owes x b z y
    network_owes (heard x v s t p late o w) y =
        work_owes Network 0 (suc (suc v + (1 + 2 * r.delay))) w (omega (arith, late)) (network_ready o)
        (λ k a b. absurd (omega (arith, a, b, t.early))) y
    network_owes (joined o n0 n1 a there w b here v) y = work_owes Network 0 n1 v b (network_ready (there n a (omega arith))) here y

    pub mobile_ready : MobileSlot r u n → (ready_at r n Mobile).endpoint.state ≢ Closed
    mobile_ready (rests i e) q = cc
    mobile_ready (begins i o x s k a) q = cc
    mobile_ready (tries o e) q = cc
    mobile_ready (joins o p i a t) q = cc
    mobile_ready (stays o p i a) q = cc

    pub network_ready_open : NetworkSlot r u n → (ready_at r n Network).endpoint.state ≢ Closed
    network_ready_open (rests i e) q = cc
    network_ready_open (joins i p x a b) q = cc
    network_ready_open (stays o p x a) q = cc

    -- a link that is given up has N200 + 1 slots with a loss
    closes : Whole r u long n → (role : Role) → (link_at r (suc n) role).endpoint.state ≡ Closed → 6 ≤ Lo r u long n
    closes w Mobile q =
        let x = gives_up (ready_at r n Mobile) q
        (mobile_ready (mobile_slot r u n h)) in
        omega (arith, mobile_owes w x.0 (mobile_slot r u n h), x.1, ready_retries n Mobile, retries_most n Mobile)
    closes w Network q =
        let x = gives_up (ready_at r n Network) q
        (network_ready_open (network_slot r u n h)) in
        omega (arith, network_owes w x.0, x.1, ready_retries n Network, retries_most n Network)

  -- ---- no loss closes it, unless there are six

  losses_pay : (k : ℕ) (role : Role) → E r u long k role ≤ Lo r u long k →
      (expires_in (ready_at r k role) ≡ true → E r u long k role + 1 ≤ Lo r u long k) → E r u long (suc k) role ≤ Lo r u long k
  losses_pay k role p more = elim (cases_Bool (expires_in (ready_at r k role))) [
    | inl e ↦ omega (arith, expiry_step r u long k role, ap one_if e, more e)
    | inr e ↦ omega (arith, expiry_step r u long k role, ap one_if e, p)
  ]

  keeps_next : (n : ℕ) → Lo r u long (suc n) ≤ few_losses → Unclosed r u n → Unclosed r u (suc n)
  keeps_next n h before j a role e = elim (cases_Bool (nat_le j n)) [
    | inl q ↦ before j (le_of j n q) role e
    | inr q ↦
        let same : j ≡ suc n = omega (arith, not_le_of j n q, a) in
        omega (arith, closes n (known r u n before) (whole r u long n before) role (rw same at e), h, lo_up r u long n)
  ]

  keeps_start : Unclosed r u 0
  keeps_start j a role e = start_closed role (let same : j ≡ 0 = omega (arith, a) in rw same at e)
    where
      start_closed : (role : Role) → (link_at r 0 role).endpoint.state ≡ Closed → ⊥
      start_closed role e = grind arith

  pub keeps : (n : ℕ) → Lo r u long n ≤ few_losses → Unclosed r u n
  keeps zero h = keeps_start
  keeps (suc n) h = keeps_next n h (keeps n (omega (arith, h, lo_up r u long n)))

  pub from_start : (k : ℕ) → Unclosed r u k → (role : Role) → FromStart r k role
  from_start k c Mobile =
      let w = whole r u long k c in
      let x = bounds r u long k w in
      record {
        waits = omega (arith, x.mobile, (answers_total r u long k c).0, x.network_expires, times_next r u long (lossy_slots r 0 k));
        expires = losses_pay k Mobile x.mobile_expires (λ e. mobile_owes k (known r u k c) w e (mobile_slot r u k (known r u k c)));
      }
  from_start k c Network =
      let w = whole r u long k c in
      let x = bounds r u long k w in
      record {
        waits = omega (arith, x.network, (answers_total r u long k c).1, x.mobile_expires, times_next r u long (lossy_slots r 0 k));
        expires = losses_pay k Network x.network_expires (λ e. network_owes k (known r u k c) w e);
      }
