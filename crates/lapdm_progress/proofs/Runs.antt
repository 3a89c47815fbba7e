-- A run of the two links, slot by slot: what each link is between slots, what arrives, and the counts of both.
use Rattle.lapdm_progress.proofs.Start.{settled, Settled, slotted_link, ready_moves, ready_called, ready_due, UnsentIsDue, idle_from}
use Rattle.lapdm_progress.proofs.Start.{idle_sends_nothing, idle_network, idle_stays, idle_silent}
use Rattle.lapdm_progress.proofs.Steps.{IsIn, acked, issued, accepted, aired, Good, Moves}
use Rattle.lapdm_progress.proofs.Link.{Slotted, Called, good_next, ns_of}
use Rattle.lapdm_progress.specs.Channels.{after_slot, Run, side_at, after_calls, after_arriving, IsUse}
use Rattle.lapdm_progress.specs.Progress.{link_at, arriving_at, ready_at, frame_at}
use Rattle.std.specs.Prelude.{◌≡◌, ℕ, zero, suc, ◌+◌, ◌%◌, ◌≤◌, Bool, true, false, ◌⊎◌, length, get_or, Option}
use Rattle.std.specs.Prelude.{Some, None, All}
use Rattle.std.proofs.Common.{inl, inr, arith, refl, ap, sym, ◌∙◌}
use Rattle.std.proofs.lemmas.List.{get_or_past}
use Rattle.lapdm_frame.specs.Content.{Frame}
use Rattle.lapdm_end.specs.lapdm_window.Ends.{Role, Mobile, Network}
use Rattle.lapdm_end.specs.lapdm_window.Calls.{is_idle}
use Rattle.lapdm_link.specs.Events.{other}
use Rattle.lapdm_datalink.specs.Links.{LinkState}
use Rattle.lapdm_datalink.specs.Slots.{nr_of}
use Rattle.lapdm_delivery.specs.Lockstep.{carried}
use Rattle.lapdm_progress.proofs.Counts as C

-- layer 3 releases no link in any slot
abbrev pub NeverReleases : Run → Type 0
NeverReleases r = (n : ℕ) (role : Role) → All (IsUse r.pair role) (r.turn n role).calls

module _ (r : Run) where
  sent_after : (n k : ℕ) (role : Role) → get_or (side_at r (suc n + k) role).sent k None ≡
      carried (r.turn n role).is_lost (frame_at r n role)
  sent_after n zero role =
      let e : suc n + 0 ≡ suc n = omega arith in rw e refl
  sent_after n (suc k) role =
      let e : suc n + suc k ≡ suc (suc n + k) = omega arith in
      rw e (sent_after n k role)

  sent_length : (n : ℕ) (role : Role) → length (side_at r n role).sent ≡ n
  sent_length zero role = refl
  sent_length (suc n) role = ap suc (sent_length n role)

  -- what arrives was sent by the other side `delay` slots before the last
  pub arrived : (n : ℕ) (role : Role) →
      arriving_at r (suc n + r.delay) role ≡ carried (r.turn n (other role)).is_lost (frame_at r n (other role))
  arrived n role = sent_after n r.delay (other role)

  pub nothing_arrives : (n : ℕ) (role : Role) → n ≤ r.delay → arriving_at r n role ≡ None
  nothing_arrives n role h =
      get_or_past (side_at r n (other role)).sent r.delay None (omega (arith, h, sent_length n (other role)))

  -- ---- between slots

  pub record Sound (n : ℕ) : Type 0 where
    pub good : (role : Role) → Good (link_at r n role)
    pub idle : (role : Role) → is_idle (link_at r n role).endpoint.state ≡ true →
        issued (link_at r n role) ≡ acked (link_at r n role)
    pub settled : (role : Role) → Settled role (link_at r n role)
    pub placed : (role : Role) → IsIn r.pair role (link_at r n role)
    pub t200 : (role : Role) → (link_at r n role).t200 ≡ r.t200
    -- while the mobile is idle, so is the network, and neither has sent a frame
    pub network_idle : is_idle (link_at r n Mobile).endpoint.state ≡ true → is_idle (link_at r n Network).endpoint.state ≡ true
    pub silent : is_idle (link_at r n Mobile).endpoint.state ≡ true → (role : Role) (k : ℕ) →
        get_or (side_at r n role).sent k None ≡ None

  start : Sound 0
  start = record {
    good = λ role. record { low = omega arith; window = omega arith };
    idle = λ role i. refl;
    settled = λ role. record { owes = refl; unsent = λ s. refl; opening = λ o. absurd cc };
    placed = λ role. record { sapi = refl; role = refl };
    t200 = λ role. refl;
    network_idle = λ i. refl;
    silent = λ i role k. refl;
  }

  pub carried_none : (lost : Bool) → carried lost None ≡ None
  carried_none b = grind arith

  module _ (u : NeverReleases r) where
    -- the slot of each link
    slotted_at : (n : ℕ) → Sound n → (role : Role) →
        Slotted (arriving_at r n role) (link_at r n role) (link_at r (suc n) role) (frame_at r n role)
    slotted_at n h role =
        slotted_link r.pair role (arriving_at r n role) (r.turn n role) (link_at r n role) (h.good role) (h.settled role).owes
        (h.idle role) (u n role)

    idle_before : (n : ℕ) → Sound n → (role : Role) → is_idle (link_at r (suc n) role).endpoint.state ≡ true →
        (link_at r (suc n) role).endpoint ≡ (link_at r n role).endpoint
    idle_before n h role i =
        let f = idle_from r.pair role (arriving_at r n role) (r.turn n role) (link_at r n role) (u n role) in
        f (i)

    mobile_idle : (n : ℕ) → Sound n → is_idle (link_at r (suc n) Mobile).endpoint.state ≡ true →
        is_idle (link_at r n Mobile).endpoint.state ≡ true
    mobile_idle n h i = ap (λ e. is_idle e.state) (sym (idle_before n h Mobile i)) ∙ i

    nothing_comes : (n : ℕ) → Sound n → is_idle (link_at r n Mobile).endpoint.state ≡ true → (role : Role) →
        arriving_at r n role ≡ None
    nothing_comes n h i role = h.silent i (other role) r.delay

    -- the network's slot while both are idle
    network_slot : (n : ℕ) → Sound n → is_idle (link_at r n Mobile).endpoint.state ≡ true →
        (is_idle (link_at r (suc n) Network).endpoint.state ≡ true) × (frame_at r n Network ≡ None)
    network_slot n h i = (
      ap (λ e. is_idle e.state) (idle_stays (ready_at r n Network) ready_idle) ∙ ready_idle,
      idle_silent (ready_at r n Network) ready_idle (ap (λ m. m.answer) same ∙ (h.settled Network).owes),
    )
      where
        quiet : after_calls (r.turn n Network).calls (after_arriving (arriving_at r n Network) (link_at r n Network)) ≡
            link_at r n Network
        quiet = rw (nothing_comes n h i Network)
            (idle_network r.pair (r.turn n Network).calls (link_at r n Network) (u n Network) (h.network_idle i))

        same : ready_at r n Network ≡ after_slot (r.turn n Network).is_held (link_at r n Network)
        same = ap (after_slot (r.turn n Network).is_held) quiet

        ready_idle : is_idle (ready_at r n Network).endpoint.state ≡ true
        ready_idle = ap (λ m. is_idle m.endpoint.state) same ∙ h.network_idle i

    mobile_frame : (n : ℕ) → Sound n → is_idle (link_at r (suc n) Mobile).endpoint.state ≡ true → frame_at r n Mobile ≡ None
    mobile_frame n h i =
        idle_sends_nothing r.pair Mobile (arriving_at r n Mobile) (r.turn n Mobile) (link_at r n Mobile) (u n Mobile)
        (nothing_comes n h (mobile_idle n h i) Mobile) (h.settled Mobile).owes i

    step : (n : ℕ) → Sound n → Sound (suc n)
    step n h = record {
      good = λ role. good_next (h.good role) (slotted_at n h role).moves;
      idle = λ role i. (let e = idle_before n h role i in
          ap (λ x. x.sent_segments) e ∙ h.idle role (ap (λ x. is_idle x.state) (sym e) ∙ i) ∙ sym (ap (λ x. x.acked_segments) e));
      settled = λ role. settled r.pair role (arriving_at r n role) (r.turn n role) (link_at r n role) (u n role) (quiet role)
          (h.settled role);
      placed = λ role. record {
        sapi = (slotted_at n h role).moves.sapi ∙ (h.placed role).sapi;
        role = (slotted_at n h role).moves.role ∙ (h.placed role).role;
      };
      t200 = λ role. (slotted_at n h role).moves.t200 ∙ h.t200 role;
      network_idle = λ i. (network_slot n h (mobile_idle n h i)).0;
      silent = λ i role. silent_after i role;
    }
      where
        quiet : (role : Role) → is_idle (link_at r n role).endpoint.state ≡ true → role ≡ Mobile → arriving_at r n role ≡ None
        quiet Mobile i e = nothing_comes n h i Mobile
        quiet Network i e = absurd cc

        sent_none : (role : Role) → frame_at r n role ≡ None →
            ((k : ℕ) → get_or (side_at r n role).sent k None ≡ None) →
            (k : ℕ) → get_or (side_at r (suc n) role).sent k None ≡ None
        sent_none role f old zero = rw f (carried_none (r.turn n role).is_lost)
        sent_none role f old (suc k) = old k

        silent_after : is_idle (link_at r (suc n) Mobile).endpoint.state ≡ true → (role : Role) (k : ℕ) →
            get_or (side_at r (suc n) role).sent k None ≡ None
        silent_after i Mobile k = sent_none Mobile (mobile_frame n h i) (h.silent (mobile_idle n h i) Mobile) k
        silent_after i Network k =
            sent_none Network (network_slot n h (mobile_idle n h i)).1 (h.silent (mobile_idle n h i) Network) k

    pub sound : (n : ℕ) → Sound n
    sound zero = start
    sound (suc n) = step n (sound n)

    pub slotted_in : (n : ℕ) (role : Role) →
        Slotted (arriving_at r n role) (link_at r n role) (link_at r (suc n) role) (frame_at r n role)
    slotted_in n role = slotted_at n (sound n) role

    -- ---- the link before it sends

    pub moved_in : (n : ℕ) (role : Role) → Moves (link_at r n role) (ready_at r n role)
    moved_in n role = ready_moves r.pair role (arriving_at r n role) (r.turn n role) (link_at r n role) ((sound n).good role)
        ((sound n).settled role).owes ((sound n).idle role) (u n role)

    pub called_in : (n : ℕ) (role : Role) → Called (after_arriving (arriving_at r n role) (link_at r n role)) (ready_at r n role)
    called_in n role = ready_called r.pair role (arriving_at r n role) (r.turn n role) (link_at r n role) ((sound n).good role)
        ((sound n).settled role).owes ((sound n).idle role) (u n role)

    pub due_in : (n : ℕ) (role : Role) → UnsentIsDue (ready_at r n role)
    due_in n role = ready_due r.pair role (arriving_at r n role) (r.turn n role) (link_at r n role)
        (u n role) ((sound n).settled role)

    pub t200_in : (n : ℕ) (role : Role) → (ready_at r n role).t200 ≡ r.t200
    t200_in n role = (moved_in n role).t200 ∙ (sound n).t200 role

    pub placed_in : (n : ℕ) (role : Role) → IsIn r.pair role (ready_at r n role)
    placed_in n role = record {
      sapi = (moved_in n role).sapi ∙ ((sound n).placed role).sapi;
      role = (moved_in n role).role ∙ ((sound n).placed role).role;
    }

    -- ---- the counts

    abbrev pub counts : C.Counts
    counts = record {
      acked = λ role n. acked (link_at r n role);
      issued = λ role n. issued (link_at r n role);
      accepted = λ role n. accepted (link_at r n role);
      aired = λ role n. aired (link_at r n role);
    }

    no_number : (k : ℕ) → None ≡ Some k → ⊥
    no_number k h = cc

    -- a number of what arrives was in the frame that was sent
    arrived_with : (of : Option Frame → Option ℕ) → of None ≡ None → (n : ℕ) (role : Role) (k : ℕ) →
        of (arriving_at r (suc n + r.delay) role) ≡ Some k →
        (f : Frame) × (frame_at r n (other role) ≡ Some f) × (of (Some f) ≡ Some k)
    arrived_with of none n role k h =
        by_frame (r.turn n (other role)).is_lost (frame_at r n (other role)) (ap of (sym (arrived n role)) ∙ h)
      where
        by_frame : (lost : Bool) (x : Option Frame) → of (carried lost x) ≡ Some k →
            (f : Frame) × (x ≡ Some f) × (of (Some f) ≡ Some k)
        by_frame true x h = absurd (no_number k (sym none ∙ h))
        by_frame false None h = absurd (no_number k (sym none ∙ h))
        by_frame false (Some f) h = (f, refl, h)

    number_arrived : (n : ℕ) (role : Role) (k : ℕ) → nr_of (arriving_at r (suc n + r.delay) role) ≡ Some k →
        k ≡ accepted (link_at r (suc n) (other role)) % 8
    number_arrived n role k h =
        let x = arrived_with nr_of refl n role k h in (slotted_in n (other role)).number x.0 x.1 k x.2

    segment_arrived : (n : ℕ) (role : Role) (k : ℕ) → ns_of (arriving_at r (suc n + r.delay) role) ≡ Some k →
        (k ≡ acked (link_at r (suc n) (other role)) % 8)
        × (aired (link_at r (suc n) (other role)) ≡ acked (link_at r (suc n) (other role)) + 1)
    segment_arrived n role k h =
        let x = arrived_with ns_of refl n role k h in
        let y = (slotted_in n (other role)).segment x.0 x.1 k x.2 in
        (y.0, y.1)

    acked_aired : (l : LinkState) → acked l ≤ issued l → acked l ≤ aired l
    acked_aired l h = grind arith

    aired_issued : (l : LinkState) → acked l ≤ issued l → aired l ≤ issued l
    aired_issued l h = grind arith

    by_nr_at : (n : ℕ) (role : Role) → let m = suc n + r.delay in
        (acked (link_at r (suc m) role) ≡ acked (link_at r m role))
        ⊎ ((acked (link_at r (suc m) role) ≡ issued (link_at r m role)) × (issued (link_at r m role) ≡ acked (link_at r m role) + 1)
        × (issued (link_at r m role) % 8 ≡ accepted (link_at r (suc n) (other role)) % 8))
    by_nr_at n role = elim (slotted_in (suc n + r.delay) role).by_nr [
      | inl e ↦ inl e
      | inr x ↦ inr (x.2, x.1, number_arrived n role _ x.0)
    ]

    by_ns_at : (n : ℕ) (role : Role) → let m = suc n + r.delay in
        (accepted (link_at r (suc m) role) ≡ accepted (link_at r m role))
        ⊎ ((accepted (link_at r (suc m) role) ≡ accepted (link_at r m role) + 1)
        × (accepted (link_at r m role) % 8 ≡ acked (link_at r (suc n) (other role)) % 8)
        × (aired (link_at r (suc n) (other role)) ≡ acked (link_at r (suc n) (other role)) + 1))
    by_ns_at n role = elim (slotted_in (suc n + r.delay) role).by_ns [
      | inl e ↦ inl e
      | inr x ↦ let y = segment_arrived n role _ x.0 in inr (x.1, y.0, y.1)
    ]

    -- nothing is acknowledged or accepted before anything arrives
    early_acked : (role : Role) (k : ℕ) → k ≤ r.delay + 1 → acked (link_at r k role) ≡ 0
    early_acked role zero h = refl
    early_acked role (suc k) h = elim (slotted_in k role).by_nr [
      | inl e ↦ e ∙ early_acked role k (omega (arith, h))
      | inr x ↦ absurd (no_number _ (ap nr_of (sym (nothing_arrives k role (omega (arith, h)))) ∙ x.0))
    ]

    early_accepted : (role : Role) (k : ℕ) → k ≤ r.delay + 1 → accepted (link_at r k role) ≡ 0
    early_accepted role zero h = refl
    early_accepted role (suc k) h = elim (slotted_in k role).by_ns [
      | inl e ↦ e ∙ early_accepted role k (omega (arith, h))
      | inr x ↦ absurd (no_number _ (ap ns_of (sym (nothing_arrives k role (omega (arith, h)))) ∙ x.0))
    ]

    pub counted : C.Run r.delay counts
    counted = record {
      acked_start = early_acked;
      accepted_start = early_accepted;
      acked_up = λ role n. (slotted_in n role).moves.acked_up;
      accepted_up = λ role n. (slotted_in n role).moves.accepted_up;
      aired_up = λ role n. (slotted_in n role).moves.aired_up;
      acked_aired = λ role n. acked_aired (link_at r n role) ((sound n).good role).low;
      aired_issued = λ role n. aired_issued (link_at r n role) ((sound n).good role).low;
      window = λ role n. ((sound n).good role).window;
      by_nr = λ role n. by_nr_at n role;
      by_ns = λ role n. by_ns_at n role;
    }
