-- Each expiry of T200 of an open link of SAPI 0 is paid by a loss: the last sending of its I frame, followed from slot to slot.
use Rattle.{
  lapdm_progress.{
    proofs.{
      Slots.open_awaits,
      Steps.{acked, issued, IsAnswerOf},
      Link.{From, nowhere, owed, first, again, slot_from, slot_acked, slot_issued},
      Start.{is_young, Ages, ages, ages_ready, ready_owed, slot_open},
      Waits.{WaitsReady, waits_ready, WaitsOver, starts, goes_on, waits_over},
      Runs.{sound, slotted_in, t200_in, NeverReleases},
      Paid.{acked_in_time, le_of, not_le_of, answered_frame},
    },
    specs.{Channels.Run, Progress.{link_at, arriving_at, ready_at, frame_at, is_loss, is_loss_at, is_i_frame, is_i_content, is_repetition}},
    specs.Progress.{is_repeated_content, round_trip, NoneGaveUp, IsPaid},
  },
  std.{proofs.{lemmas.Bool.cases_Bool, Common.{inl, inr, arith, refl, ap, sym, ◌∙◌}}, specs.Prelude.{◌≡◌, ◌≢◌, ℕ}},
  std.specs.Prelude.{zero, suc, ◌+◌, ◌-◌, ◌≤◌, Bool, true, false, ◌⊎◌, nat_le, List, Option, Some, None, IfSome},
  lapdm_frame.specs.Content.{Content, I, Frame},
  lapdm_end.specs.lapdm_window.{
    declared.State.TheVariants.{Open, Closed},
    Ends.{Role, awaits_ack},
    Rules.is_open,
    Calls.{awaited_frame, t200_expiry},
  },
  lapdm_link.specs.Events.other,
  lapdm_datalink.specs.{Links.{LinkState, slot_outcome, is_closed, is_due, first_frame, is_awaiting_kind}, Slots.expires_in},
}
use Rattle.lapdm_progress.proofs.Counts as C

-- ---- an I frame with P = 1

again_open : (m : LinkState) → is_repetition (first_frame (t200_expiry m.endpoint).frames) ≡ true → is_due m ≡ true →
    (m.endpoint.state ≡ Open) × (m.clock ≡ 0) × (awaits_ack m.endpoint ≡ true)
again_open m h d = (grind (arith, h, d), grind (arith, d), grind (arith, h, d))

first_no_poll : (m : LinkState) → is_repetition (Some (awaited_frame false m.endpoint.state m.endpoint)) ≡ true → ⊥
first_no_poll m h = grind (arith, h)

pub answer_no_i : (m : LinkState) (a : Option Frame) → IfSome a (IsAnswerOf m) → is_i_frame a ≡ false
answer_no_i m None h = refl
answer_no_i m (Some f) h = one f.content h.kind
  where
    one : (c : Content) → is_awaiting_kind c ≡ false → is_i_content c ≡ false
    one (I ns nr p more info) e = cc
    one other e = refl

pub poll_is_i : (x : Option Frame) → is_repetition x ≡ true → is_i_frame x ≡ true
poll_is_i None h = cc
poll_is_i (Some f) h = one f.content h
  where
    one : (c : Content) → is_repeated_content c ≡ true → is_i_content c ≡ true
    one (I ns nr p more info) e = refl
    one other e = cc

-- the link that repeats its I frame had sent it, and its clock is over
pub repeats : (m : LinkState) → IfSome m.answer (IsAnswerOf m) → is_repetition (slot_outcome m).frame ≡ true →
    (m.is_sent ≡ true) × (m.endpoint.state ≡ Open) × (m.clock ≡ 0) × (awaits_ack m.endpoint ≡ true) × (expires_in m ≡ true)
repeats m owes h = by_from (slot_from m)
  where
    by_from : From m (slot_outcome m) → (m.is_sent ≡ true) × (m.endpoint.state ≡ Open) × (m.clock ≡ 0)
        × (awaits_ack m.endpoint ≡ true) × (expires_in m ≡ true)
    by_from (nowhere e) = absurd cc
    by_from (owed e) = absurd (cc (poll_is_i m.answer (ap is_repetition (sym e) ∙ h), answer_no_i m m.answer owes))
    by_from (first e due new sent) = absurd (first_no_poll m (ap is_repetition (sym e) ∙ h))
    by_from (again e due old sent over) =
        let x = again_open m (ap is_repetition (sym e) ∙ h) due in (old, x.0, x.1, x.2, over)

-- ---- the last sending

module _ (r : Run) (u : NeverReleases r) (role : Role) where
  -- a link that waits sent its I frame in this slot, and none since
  pub record LastSending (n : ℕ) : Type 0 where
    pub slot : ℕ
    pub before : suc slot ≤ n
    pub sent : is_i_frame (frame_at r slot role) ≡ true
    pub last : (k : ℕ) → suc slot ≤ k → suc k ≤ n → is_i_frame (frame_at r k role) ≡ false
    pub same : acked (link_at r (suc slot) role) ≡ acked (link_at r n role)
    pub time : suc slot + r.t200 ≤ n + (link_at r n role).clock
    pub opened : (k : ℕ) → suc slot ≤ k → k ≤ n → (link_at r k role).endpoint.state ≡ Open

  pub old_enough : (n : ℕ) → is_young (link_at r n role).endpoint.state ≡ true →
      issued (link_at r n role) ≡ acked (link_at r n role)
  old_enough zero h = refl
  old_enough (suc n) h =
      let x = (ages r.pair role (arriving_at r n role) (r.turn n role) (link_at r n role) (u n role)).young h in
      x.1 ∙ old_enough n x.0 ∙ sym x.2

  pub awaits_differs : (l : LinkState) → awaits_ack l.endpoint ≡ true → issued l ≡ acked l → ⊥
  awaits_differs l w e = grind (arith, w, e)

  -- a link that waits before a slot is open if the link is open after what arrives and the calls
  open_before : (n : ℕ) → awaits_ack (link_at r n role).endpoint ≡ true → (ready_at r n role).endpoint.state ≡ Open →
      (link_at r n role).endpoint.state ≡ Open
  open_before n w h = elim (a.opened h) [
    | inl e ↦ e
    | inr y ↦ absurd (awaits_differs (link_at r n role) w (old_enough n y))
  ]
    where
      a : Ages (link_at r n role) (ready_at r n role)
      a = ages_ready r.pair role (arriving_at r n role) (r.turn n role) (link_at r n role) (u n role)

  pub owes_ready : (n : ℕ) → IfSome (ready_at r n role).answer (IsAnswerOf (ready_at r n role))
  owes_ready n = ready_owed r.pair role (arriving_at r n role) (r.turn n role) (link_at r n role) ((sound r u n).good role)
      ((sound r u n).settled role).owes ((sound r u n).idle role) (u n role)

  pub waits_at : (n : ℕ) → WaitsReady (link_at r n role) (ready_at r n role)
  waits_at n = waits_ready r.pair role (arriving_at r n role) (r.turn n role) (link_at r n role) ((sound r u n).good role)
      ((sound r u n).settled role).owes (u n role)

  pub awaits_same : (l k : LinkState) → acked k ≡ acked l → issued k ≡ issued l → awaits_ack k.endpoint ≡ true →
      awaits_ack l.endpoint ≡ true
  awaits_same l k a i w = rw (a, i) at w

  last_sending : (n : ℕ) → (link_at r n role).endpoint.state ≡ Open → awaits_ack (link_at r n role).endpoint ≡ true →
      (link_at r n role).is_sent ≡ true → LastSending n
  last_sending zero o w s = absurd (start_none role o)
    where
      start_none : (q : Role) → (link_at r 0 q).endpoint.state ≡ Open → ⊥
      start_none role e = grind arith
  last_sending (suc n) o w s = step (is_i_frame (frame_at r n role)) refl (waits_over m m_open s o)
      (λ ro rw_ rs. last_sending n ro rw_ rs)
    where
      m : LinkState
      m = ready_at r n role

      m_open : m.endpoint.state ≡ Open
      m_open = slot_open m o

      m_waits : awaits_ack m.endpoint ≡ true
      m_waits = awaits_same m (slot_outcome m).link (slot_acked m) (slot_issued m) w

      here : acked (link_at r (suc n) role) ≡ acked m
      here = slot_acked m

      fresh : is_i_frame (frame_at r n role) ≡ true → (slot_outcome m).link.clock ≡ m.t200 → LastSending (suc n)
      fresh i c = record {
        slot = n;
        before = omega arith;
        sent = i;
        last = λ k a b. absurd (omega (arith, a, b));
        same = refl;
        time = omega (arith, c, t200_in r u n role);
        opened = λ k a b. (let e : k ≡ suc n = omega (arith, a, b) in rw e o);
      }

      older : is_i_frame (frame_at r n role) ≡ false → m.is_sent ≡ true → (slot_outcome m).link.clock ≡ m.clock →
          ((link_at r n role).endpoint.state ≡ Open → awaits_ack (link_at r n role).endpoint ≡ true →
          (link_at r n role).is_sent ≡ true → LastSending n) → LastSending (suc n)
      older i ms c before_ =
          let x = waits_at n m_waits ms in
          let y : LastSending n = before_ (open_before n x.0 m_open) x.0 x.1 in
          record {
            slot = y.slot;
            before = omega (arith, y.before);
            sent = y.sent;
            last = λ k a b. last_now y k a b;
            same = y.same ∙ sym x.2 ∙ sym here;
            time = omega (arith, y.time, x.3 (open_awaits m.endpoint m_open ∙ m_waits), c);
            opened = λ k a b. opened_now y k a b;
          }
        where
          last_now : (y : LastSending n) (k : ℕ) → suc y.slot ≤ k → suc k ≤ suc n → is_i_frame (frame_at r k role) ≡ false
          last_now y k a b = elim (cases_Bool (nat_le (suc k) n)) [
            | inl e ↦ y.last k a (le_of (suc k) n e)
            | inr e ↦ let same : k ≡ n = omega (arith, not_le_of (suc k) n e, b) in rw same i
          ]

          opened_now : (y : LastSending n) (k : ℕ) → suc y.slot ≤ k → k ≤ suc n → (link_at r k role).endpoint.state ≡ Open
          opened_now y k a b = elim (cases_Bool (nat_le k n)) [
            | inl e ↦ y.opened k a (le_of k n e)
            | inr e ↦ let same : k ≡ suc n = omega (arith, not_le_of k n e, b) in rw same o
          ]

      step : (b : Bool) → is_i_frame (frame_at r n role) ≡ b → WaitsOver m (slot_outcome m) →
          ((link_at r n role).endpoint.state ≡ Open → awaits_ack (link_at r n role).endpoint ≡ true →
          (link_at r n role).is_sent ≡ true → LastSending n) → LastSending (suc n)
      step true i (starts f c) before_ = fresh i c
      step true i (goes_on ms c e) before_ = absurd (cc (not_i e))
        where
          not_i : ((slot_outcome m).frame ≡ None) ⊎ ((slot_outcome m).frame ≡ m.answer) → is_i_frame (frame_at r n role) ≡ false
          not_i (inl e) = ap is_i_frame e
          not_i (inr e) = ap is_i_frame e ∙ answer_no_i m m.answer (owes_ready n)
      step false i (starts f c) before_ = absurd cc
      step false i (goes_on ms c e) before_ = older i ms c before_

-- ---- each expiry is paid

not_open : (l : LinkState) → is_open l.endpoint.state ≡ true → l.endpoint.state ≡ Open
not_open l h = grind (arith, h)

not_closed : (l : LinkState) → is_closed l.endpoint.state ≡ false → l.endpoint.state ≡ Closed → ⊥
not_closed l h e = cc

pub i_parts : (x : Option Frame) → is_i_frame x ≡ true → (f : Frame) × (x ≡ Some f) × (ns : ℕ) × (nr : ℕ)
    × (p : Bool) × (more : Bool) × (info : List ℕ) × (f.content ≡ I ns nr p more info)
i_parts None h = absurd cc
i_parts (Some f) h = let y = one f.content h in (f, refl, y.0, y.1, y.2, y.3, y.4, y.5)
  where
    one : (c : Content) → is_i_content c ≡ true →
        (ns : ℕ) × (nr : ℕ) × (p : Bool) × (more : Bool) × (info : List ℕ) × (c ≡ I ns nr p more info)
    one (I ns nr p more info) e = (ns, nr, p, more, info, refl)
    one other e = absurd cc

pub loss_of : (lost : Bool) (x : Option Frame) (f : Frame) → x ≡ Some f → lost ≡ true → is_loss lost x ≡ true
loss_of lost x f e h = rw e h

pub pays : (r : Run) → NeverReleases r → round_trip r.delay ≤ r.t200 → (n : ℕ) →
    ((k : ℕ) → k ≤ n → NoneGaveUp r k) → (role : Role) →
    is_repetition (frame_at r n role) ≡ true → IsPaid r n role
pays r u long n none role again_ = record {
  slot = y.slot;
  before = omega (arith, in_time);
  sent = y.sent;
  last = y.last;
  lost = λ o. by_loss o _ refl _ refl;
}
  where
    m : LinkState
    m = ready_at r n role

    rep : (m.is_sent ≡ true) × (m.endpoint.state ≡ Open) × (m.clock ≡ 0) × (awaits_ack m.endpoint ≡ true)
        × (expires_in m ≡ true)
    rep = repeats m (owes_ready r u role n) again_

    x : (awaits_ack (link_at r n role).endpoint ≡ true) × ((link_at r n role).is_sent ≡ true)
        × (acked m ≡ acked (link_at r n role)) × (m.clock ≡ (link_at r n role).clock - 1)
    x = let v = waits_at r u role n rep.3 rep.0 in (v.0, v.1, v.2, v.3 (open_awaits m.endpoint rep.1 ∙ rep.3))

    y : LastSending r u role n
    y = last_sending r u role n (open_before r u role n x.0 rep.1) x.0 x.1

    in_time : suc y.slot + r.t200 ≤ n + 1
    in_time = omega (arith, y.time, x.3, rep.2)

    parts : (f : Frame) × (frame_at r y.slot role ≡ Some f) × (ns : ℕ) × (nr : ℕ) × (p : Bool) × (more : Bool)
        × (info : List ℕ) × (f.content ≡ I ns nr p more info)
    parts = i_parts (frame_at r y.slot role) y.sent

    back : ℕ
    back = suc y.slot + r.delay

    there : (k : ℕ) → k ≤ n → (q : Role) → (link_at r k q).endpoint.state ≢ Closed
    there k h q e = not_closed (link_at r k q) (none k h q) e

    late : suc back + r.delay ≤ n
    late = omega (arith, in_time, long)

    by_loss : is_open (link_at r back (other role)).endpoint.state ≡ true → (a : Bool) → (r.turn y.slot role).is_lost ≡ a →
        (b : Bool) → (r.turn back (other role)).is_lost ≡ b →
        (is_loss_at r y.slot role ≡ true) ⊎ (is_loss_at r back (other role) ≡ true)
    by_loss o true ea b eb = inl (loss_of (r.turn y.slot role).is_lost (frame_at r y.slot role) parts.0 parts.1 ea)
    by_loss o false ea true eb =
        let g = answered_frame r u y.slot role parts.0 parts.2 parts.3 parts.4 parts.5 parts.6 parts.1 parts.7 ea
        (not_open (link_at r back (other role)) o) (there (suc back) (omega (arith, late)) (other role)) in
        inr (loss_of (r.turn back (other role)).is_lost (frame_at r back (other role)) g.0 g.1 eb)
    by_loss o false ea false eb = absurd (omega (
      arith,
      acked_in_time r u y.slot role parts.0 parts.2 parts.3 parts.4 parts.5 parts.6 parts.1 parts.7 ea
          (not_open (link_at r back (other role)) o)
          (there (suc back) (omega (arith, late)) (other role)) eb (y.opened (suc back + r.delay) (omega arith) late),
      C.later-to (λ k. acked (link_at r k role)) (λ k. (slotted_in r u k role).moves.acked_up) (suc (suc back + r.delay)) (suc n)
          (omega (arith, late)),
      y.same,
      x.2,
      slot_acked m,
    ))
