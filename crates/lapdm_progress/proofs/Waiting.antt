-- How long a link of SAPI 0 waits while both are open: each slot of waiting is charged to a segment, to a loss, or to an answer.
use Rattle.{
  std.proofs.{lemmas.Bool.cases_Bool, Common.{inl, inr, arith, refl, ap, sym, ◌∙◌}, Math.Nat.{mul-add, mul-one}},
  std.specs.Prelude.{◌≡◌, ◌≢◌, ℕ, zero, suc, ◌+◌, ◌-◌, ◌*◌, ◌≤◌, Bool, true, false, nat_le, nat_eq, List},
  std.specs.Prelude.Some,
  lapdm_frame.specs.Content.{I, Frame},
  lapdm_end.specs.lapdm_window.{declared.State.TheVariants.{Open, Closed}, Ends.{Role, awaits_answer, awaits_ack}},
  lapdm_link.specs.Events.other,
  lapdm_datalink.specs.{Links.{LinkState, slot_outcome, is_due}, Slots.{expires_in, answer_goes}},
  lapdm_progress.{
    specs.{Channels.Run, Progress.{link_at, ready_at, frame_at, round_trip, is_i_frame, is_lossy, one_if, waiting_slots, lossy_slots}},
    specs.Progress.{expiries, AreOpen, acked_at},
    proofs.{Steps.{awaits_none, acked, issued, aired, Moves}, Link.{slot_acked, slot_issued, aired_unsent, aired_sent}, Start.slot_open},
    proofs.{Waits.{SlotWay, sends, blocked, counts, slot_way}, Runs.{sound, slotted_in, counted, moved_in, due_in, t200_in}},
    proofs.{Runs.NeverReleases, Paid.{acked_in_time, answered_frame, le_of, not_le_of}, Expiries.{i_parts, loss_of, waits_at, awaits_same}},
    proofs.Slots.{not_if, answers_first, answering_slots, open_awaits, due_clock, not_due, ack_one, expires_due, both, goes_it, eq_of},
    proofs.Slots.{above, no_ack, times_next, times_le, cost, apart, lossy_by, clock_within},
  },
}

module _ (r : Run) (u : NeverReleases r) (long : round_trip r.delay ≤ r.t200) (n0 : ℕ) (role : Role) where
  abbrev pub L : ℕ → LinkState
  L n = link_at r n role

  abbrev pub M : ℕ → LinkState
  M n = ready_at r n role

  -- the link sent its I frame in this slot, and neither that block nor, so far, the one with the answer was lost
  pub record Going (n : ℕ) : Type 0 where
    pub slot : ℕ
    pub since : ℕ
    pub start : n0 ≤ suc slot + r.delay
    pub here : (L n).endpoint.state ≡ Open
    pub now : suc slot + since ≡ n
    pub sent : is_i_frame (frame_at r slot role) ≡ true
    pub arrives : (r.turn slot role).is_lost ≡ false
    pub returns : suc (suc slot + r.delay) ≤ n → (r.turn (suc slot + r.delay) (other role)).is_lost ≡ false
    pub same : acked (L (suc slot)) ≡ acked (L n)
    pub time : (L n).clock + since ≡ r.t200
    pub early : since ≤ 1 + 2 * r.delay
    pub awaits : awaits_ack (L n).endpoint ≡ true
    pub is_sent : (L n).is_sent ≡ true

  -- where a link stands before a slot: how many slots it may still wait that a loss has paid, and how many it has waited in this sending
  pub data Stage (n paid used : ℕ) : Type 0 where
    quiet : paid ≡ 0 → used ≡ 0 → awaits_ack (L n).endpoint ≡ false → Stage n paid used
    unsent : paid ≡ 0 → used ≡ 0 → (L n).is_sent ≡ false → Stage n paid used
    failed : paid ≡ (L n).clock - 1 → used ≡ 0 → Stage n paid used
    going : (g : Going n) → paid ≡ 0 → used ≡ g.since + 1 → Stage n paid used

  -- 1 if the present sending is lost, and T200 has not expired yet
  abbrev pub pending : {n paid used : ℕ} → Stage n paid used → ℕ
  pending (quiet p q a) = 0
  pending (unsent p q a) = 0
  pending (failed p q) = 1
  pending (going g p q) = 0

  -- the bounds hold in a slot
  pub record Next (n paid used left : ℕ) : Type 0 where
    pub paid_next : ℕ
    pub used_next : ℕ
    pub stage : Stage (suc n) paid_next used_next
    pub bound : one_if (awaits_answer (M n).endpoint) + paid_next + round_trip r.delay * acked (L n) + used
        ≤ round_trip r.delay * acked (L (suc n)) + r.t200 * one_if (is_lossy r n) + one_if (answers_first r n role) + used_next + paid
    pub repays : one_if (expires_in (M n)) + pending stage ≤ one_if (is_lossy r n) + left

  -- the link is open in slot n, and the other side since slot n0
  module _ (n : ℕ) (first : n0 ≤ suc n + r.delay) (m_open : (M n).endpoint.state ≡ Open)
      (there : (k : ℕ) → n0 ≤ k → k ≤ n → (link_at r k (other role)).endpoint.state ≡ Open)
    where
      m_acked : acked (L (suc n)) ≡ acked (M n)
      m_acked = slot_acked (M n)

      m_issued : issued (L (suc n)) ≡ issued (M n)
      m_issued = slot_issued (M n)

      m_moves : Moves (L n) (M n)
      m_moves = moved_in r u n role

      m_t200 : (M n).t200 ≡ r.t200
      m_t200 = t200_in r u n role

      m_due : (M n).is_sent ≡ false → (M n).clock ≡ 0
      m_due = due_in r u n role

      up : acked (L n) ≤ acked (L (suc n))
      up = (slotted_in r u n role).moves.acked_up

      -- a sending that goes on is not answered later than in the round trip
      in_time : (g : Going n) → acked (L (suc n)) ≡ acked (L n) → g.since ≤ 2 * r.delay
      in_time g stays = by_since (nat_le g.since (2 * r.delay)) refl
        where
          back : ℕ
          back = suc g.slot + r.delay

          late : 1 + 2 * r.delay ≤ g.since → suc back + r.delay ≡ n
          late h = omega (arith, h, g.early, g.now)

          by_since : (b : Bool) → nat_le g.since (2 * r.delay) ≡ b → g.since ≤ 2 * r.delay
          by_since true e = le_of g.since (2 * r.delay) e
          by_since false e = absurd (omega (arith, acked_late, stays, g.same))
            where
              h : suc back + r.delay ≡ n
              h = late (omega (arith, not_le_of g.since (2 * r.delay) e))

              x : (f : Frame) × (frame_at r g.slot role ≡ Some f) × (ns : ℕ) × (nr : ℕ) × (p : Bool)
                  × (more : Bool) × (info : List ℕ) × (f.content ≡ I ns nr p more info)
              x = i_parts (frame_at r g.slot role) g.sent

              open_back : (link_at r back (other role)).endpoint.state ≡ Open
              open_back = there back (omega (arith, g.start)) (omega (arith, h))

              closed_open : (link_at r (suc back) (other role)).endpoint.state ≢ Closed
              closed_open e = cc (there (suc back) (omega (arith, g.start)) (omega (arith, h)))

              acked_back : acked (L (suc g.slot)) + 1 ≤ acked (L (suc (suc back + r.delay)))
              acked_back = acked_in_time r u g.slot role x.0 x.2 x.3 x.4 x.5 x.6 x.1 x.7 g.arrives open_back closed_open
                  (g.returns (omega (arith, h))) (rw h g.here)

              acked_late : acked (L (suc g.slot)) + 1 ≤ acked (L (suc n))
              acked_late = rw (← h) acked_back

      -- it is not due while it goes on
      not_yet : (g : Going n) → is_due (M n) ≡ true → acked (L (suc n)) ≡ acked (L n) → ⊥
      not_yet g due stays = elim (cases_Bool (M n).is_sent) [
        | inl s ↦
            let x = waits_at r u role n w s in
            omega (arith, x.3 (due_clock (M n) due).1, (due_clock (M n) due).0, g.time, in_time g stays, long)
        | inr s ↦
            let one : aired (L n) ≡ issued (L n) = aired_sent (L n) (issued (L n)) g.is_sent refl in
            let two : issued (L n) ≡ acked (L n) + 1 =
            ack_one (L n) g.awaits ((sound r u n).good role).low ((sound r u n).good role).window in
            omega (arith, one, two, m_moves.aired_up, aired_unsent (M n) s, m_acked, stays)
      ]
        where
          w : awaits_ack (M n).endpoint ≡ true
          w = sym (open_awaits (M n).endpoint m_open) ∙ (due_clock (M n) due).1

      -- what was used is paid by a segment, unless the sending goes on
      product : round_trip r.delay * acked (L n) ≤ round_trip r.delay * acked (L (suc n))
      product = times_le (round_trip r.delay) (acked (L n)) (acked (L (suc n))) up

      settle : (paid used : ℕ) → Stage n paid used → ((g : Going n) → acked (L (suc n)) ≡ acked (L n) → ⊥) →
          round_trip r.delay * acked (L n) + used ≤ round_trip r.delay * acked (L (suc n))
      settle paid used (quiet p q w) ends = omega (arith, q, product)
      settle paid used (unsent p q w) ends = omega (arith, q, product)
      settle paid used (failed p q) ends = omega (arith, q, product)
      settle paid used (going g p q) ends = elim (cases_Bool (nat_eq (acked (L (suc n))) (acked (L n)))) [
        | inl e ↦ absurd (ends g (eq_of (acked (L (suc n))) (acked (L n)) e))
        | inr e ↦
            let more : acked (L n) + 1 ≤ acked (L (suc n)) = above (acked (L (suc n))) (acked (L n)) up e in
            let next : round_trip r.delay * acked (L n) + round_trip r.delay ≤ round_trip r.delay * acked (L (suc n)) =
            times_next (round_trip r.delay) (acked (L n)) (acked (L (suc n))) more in
            omega (arith, next, q, g.early)
      ]

      -- ---- a repetition

      no_expiry : (expires_in (M n) ≡ true → ⊥) → one_if (expires_in (M n)) ≡ 0
      no_expiry ends = ap one_if (not_if (expires_in (M n)) ends)

      -- the link whose T200 expires had sent its I frame, and its clock is over
      expiring : expires_in (M n) ≡ true →
          ((M n).is_sent ≡ true) × ((M n).clock ≡ 0) × (awaits_answer (M n).endpoint ≡ true)
      expiring h = let x = expires_due (M n) h in let y = due_clock (M n) x.0 in (x.1, y.0, y.1)

      -- the sending before it was lost
      pub was_failed : (paid used : ℕ) (s : Stage n paid used) → is_due (M n) ≡ true → (M n).is_sent ≡ true → pending s ≡ 1
      was_failed paid used s due sent = by_stage s
        where
          x : (awaits_ack (L n).endpoint ≡ true) × ((L n).is_sent ≡ true) × (acked (M n) ≡ acked (L n))
              × ((M n).clock ≡ (L n).clock - 1)
          x =
              let v = waits_at r u role n (sym (open_awaits (M n).endpoint m_open) ∙ (due_clock (M n) due).1) sent in
              (v.0, v.1, v.2, v.3 (due_clock (M n) due).1)

          by_stage : (s : Stage n paid used) → pending s ≡ 1
          by_stage (quiet p q a) = absurd (cc x.0)
          by_stage (unsent p q a) = absurd (cc x.1)
          by_stage (failed p q) = refl
          by_stage (going g p q) = absurd (not_yet g due (m_acked ∙ x.2))

      repeats_failed : (paid used : ℕ) (s : Stage n paid used) → is_due (M n) ≡ true →
          one_if (expires_in (M n)) ≤ pending s
      repeats_failed paid used s due = elim (cases_Bool (expires_in (M n))) [
        | inl e ↦ omega (arith, ap one_if e, was_failed paid used s due (expiring e).0)
        | inr e ↦ omega (arith, ap one_if e)
      ]

      -- ---- the ways of a slot

      module _ (out_open : (slot_outcome (M n)).link.endpoint.state ≡ Open)
          (next_there : n0 ≤ suc n → (link_at r (suc n) (other role)).endpoint.state ≡ Open)
        where
          here : (L (suc n)).endpoint.state ≡ Open
          here = out_open

          -- it awaits nothing
          rests : (paid used : ℕ) (s : Stage n paid used) → awaits_answer (M n).endpoint ≡ false → Next n paid used (pending s)
          rests paid used s w = record {
            paid_next = 0;
            used_next = 0;
            stage = quiet refl refl later;
            bound = omega (arith, ap one_if w, settle paid used s ends);
            repays = omega (arith, no_expiry (λ h. cc (sym (expiring h).2)));
          }
            where
              none : issued (M n) ≡ acked (M n)
              none = awaits_none (M n) (sym (open_awaits (M n).endpoint m_open) ∙ w)

              later : awaits_ack (L (suc n)).endpoint ≡ false
              later = no_ack (L (suc n)) (m_issued ∙ none ∙ sym m_acked)

              ends : (g : Going n) → acked (L (suc n)) ≡ acked (L n) → ⊥
              ends g stays =
                  let one : aired (L n) ≡ issued (L n) = aired_sent (L n) (issued (L n)) g.is_sent refl in
                  let two : issued (L n) ≡ acked (L n) + 1 =
                  ack_one (L n) g.awaits ((sound r u n).good role).low ((sound r u n).good role).window in
                  omega (
                    arith,
                    one,
                    two,
                    (slotted_in r u n role).moves.aired_up,
                    (counted r u).aired_issued role (suc n),
                    m_issued,
                    none,
                    m_acked,
                    stays,
                  )

          -- its frame is due, and it sends it
          starts : (paid used : ℕ) (s : Stage n paid used) → is_due (M n) ≡ true → is_i_frame (frame_at r n role) ≡ true →
              (L (suc n)).is_sent ≡ true → (L (suc n)).clock ≡ r.t200 → (b : Bool) → (r.turn n role).is_lost ≡ b →
              Next n paid used (pending s)
          starts paid used s due i sent c true lost = record {
            paid_next = r.t200 - 1;
            used_next = 0;
            stage = failed (rw c refl) refl;
            bound = omega (
              arith,
              ap one_if (due_clock (M n) due).1,
              settle paid used s (λ g. not_yet g due),
              ap one_if (lossy lost),
              mul-one r.t200,
              ap (λ k. r.t200 * k) (ap one_if (lossy lost)),
              long,
            );
            repays = omega (arith, repeats_failed paid used s due, ap one_if (lossy lost));
          }
            where
              lossy : (r.turn n role).is_lost ≡ true → is_lossy r n ≡ true
              lossy e =
                  let x = i_parts (frame_at r n role) i in
                  lossy_by r n role (loss_of (r.turn n role).is_lost (frame_at r n role) x.0 x.1 e)
          starts paid used s due i sent c false kept = record {
            paid_next = 0;
            used_next = 1;
            stage = going (record {
              slot = n;
              since = 0;
              start = first;
              here = here;
              now = omega arith;
              sent = i;
              arrives = kept;
              returns = λ h. absurd (omega (arith, h));
              same = refl;
              time = omega (arith, c);
              early = omega arith;
              awaits = awaits_same r u role (L (suc n)) (M n) (sym m_acked) (sym m_issued) w;
              is_sent = sent;
            }) refl refl;
            bound = omega (arith, ap one_if (due_clock (M n) due).1, settle paid used s (λ g. not_yet g due));
            repays = omega (arith, repeats_failed paid used s due);
          }
            where
              w : awaits_ack (M n).endpoint ≡ true
              w = sym (open_awaits (M n).endpoint m_open) ∙ (due_clock (M n) due).1

          answers_it : is_due (M n) ≡ true → answer_goes (M n).answer (M n) ≡ true → answers_first r n role ≡ true
          answers_it due goes = both (is_due (M n)) (answer_goes (M n).answer (M n)) due goes

          no_poll : answer_goes (M n).answer (M n) ≡ true → expires_in (M n) ≡ true → ⊥
          no_poll goes h = cc ((expires_due (M n) h).2)

          -- its frame is due, and an answer goes first
          yields : (paid used : ℕ) (s : Stage n paid used) → is_due (M n) ≡ true → answer_goes (M n).answer (M n) ≡ true →
              (L (suc n)).is_sent ≡ (M n).is_sent → (L (suc n)).clock ≡ (M n).clock → (b : Bool) → (M n).is_sent ≡ b →
              Next n paid used (pending s)
          yields paid used s due i sent c true e = record {
            paid_next = 0;
            used_next = 0;
            stage = failed (omega (arith, c, (due_clock (M n) due).0)) refl;
            bound = omega (
              arith,
              ap one_if (due_clock (M n) due).1,
              settle paid used s (λ g. not_yet g due),
              ap one_if (answers_it due i),
            );
            repays = omega (arith, no_expiry (no_poll i), was_failed paid used s due e);
          }
          yields paid used s due i sent c false e = record {
            paid_next = 0;
            used_next = 0;
            stage = unsent refl refl (sent ∙ e);
            bound = omega (
              arith,
              ap one_if (due_clock (M n) due).1,
              settle paid used s (λ g. not_yet g due),
              ap one_if (answers_it due i),
            );
            repays = omega (arith, no_expiry (no_poll i));
          }

          -- its frame is not due, and its clock counts
          module _ (w : awaits_answer (M n).endpoint ≡ true) (due : is_due (M n) ≡ false)
              (keeps : (L (suc n)).is_sent ≡ (M n).is_sent)
              (runs : (L (suc n)).clock ≡ (M n).clock)
            where
              ticks : 1 ≤ (M n).clock
              ticks = not_due (M n) due w

              m_sent : (b : Bool) → (M n).is_sent ≡ b → (M n).is_sent ≡ true
              m_sent true e = e
              m_sent false e = absurd (omega (arith, ticks, m_due e))

              m_awaits : awaits_ack (M n).endpoint ≡ true
              m_awaits = sym (open_awaits (M n).endpoint m_open) ∙ w

              x : (awaits_ack (L n).endpoint ≡ true) × ((L n).is_sent ≡ true) × (acked (M n) ≡ acked (L n))
                  × ((M n).clock ≡ (L n).clock - 1)
              x = let v = waits_at r u role n m_awaits (m_sent _ refl) in (v.0, v.1, v.2, v.3 w)

              stays : acked (L (suc n)) ≡ acked (L n)
              stays = m_acked ∙ x.2

              goes_on : (g : Going n) →
                  (suc (suc g.slot + r.delay) ≤ suc n → (r.turn (suc g.slot + r.delay) (other role)).is_lost ≡ false) →
                  (h : Going (suc n)) × (h.since ≡ g.since + 1)
              goes_on g returns = (
                record {
                  slot = g.slot;
                  since = g.since + 1;
                  start = g.start;
                  here = here;
                  now = omega (arith, g.now);
                  sent = g.sent;
                  arrives = g.arrives;
                  returns = returns;
                  same = g.same ∙ sym stays;
                  time = omega (arith, g.time, runs, ticks, x.3);
                  early = omega (arith, in_time g stays);
                  awaits = awaits_same r u role (L (suc n)) (M n) (sym m_acked) (sym m_issued) m_awaits;
                  is_sent = keeps ∙ m_sent _ refl;
                },
                refl,
              )

              silent : one_if (expires_in (M n)) ≡ 0
              silent = no_expiry (λ h. absurd (omega (arith, ticks, (expiring h).1)))

              goes : (paid used left : ℕ) (g : Going n) → used ≡ g.since + 1 → (h : Going (suc n)) × (h.since ≡ g.since + 1) →
                  Next n paid used left
              goes paid used left g q (h, e) = record {
                paid_next = 0;
                used_next = h.since + 1;
                stage = going h refl refl;
                bound = omega (arith, ap one_if w, product, q, e);
                repays = omega (arith, silent);
              }

              back_lost : (paid used left : ℕ) (g : Going n) → paid ≡ 0 → used ≡ g.since + 1 → suc g.slot + r.delay ≡ n →
                  is_lossy r n ≡ true → Next n paid used left
              back_lost paid used left g p q at_n lossy = record {
                paid_next = (L (suc n)).clock - 1;
                used_next = 0;
                stage = failed refl refl;
                bound = omega (
                  arith,
                  ap one_if w,
                  product,
                  q,
                  g.time,
                  g.now,
                  at_n,
                  runs,
                  ticks,
                  x.3,
                  ap (λ k. r.t200 * one_if k) lossy,
                  mul-one r.t200,
                );
                repays = omega (arith, silent, ap one_if lossy);
              }

              loss_there : (g : Going n) → suc g.slot + r.delay ≡ n →
                  (r.turn (suc g.slot + r.delay) (other role)).is_lost ≡ true →
                  is_lossy r n ≡ true
              loss_there g at_n lost =
                  let f = i_parts (frame_at r g.slot role) g.sent in
                  let answer = answered_frame r u g.slot role f.0 f.2 f.3 f.4 f.5 f.6 f.1 f.7 g.arrives
                  (there (suc g.slot + r.delay) (omega (arith, g.start)) (omega (arith, at_n)))
                  (λ e. cc (next_there (omega (arith, g.start, at_n)))) in
                  rw at_n at (lossy_by r (suc g.slot + r.delay) (other role)
                  (loss_of (r.turn (suc g.slot + r.delay) (other role)).is_lost (frame_at r (suc g.slot + r.delay) (other role)) answer.0
                  answer.1 lost))

              going_on : (paid used left : ℕ) (g : Going n) → paid ≡ 0 → used ≡ g.since + 1 → (b : Bool) →
                  nat_eq (suc g.slot + r.delay) n ≡ b →
                  (c : Bool) → (r.turn (suc g.slot + r.delay) (other role)).is_lost ≡ c → Next n paid used left
              going_on paid used left g p q true e true lost =
                  let at_n : suc g.slot + r.delay ≡ n = eq_of (suc g.slot + r.delay) n e in
                  back_lost paid used left g p q at_n (loss_there g at_n lost)
              going_on paid used left g p q b e false kept =
                  goes paid used left g q (goes_on g (λ late. kept))
              going_on paid used left g p q false e true lost =
                  goes paid used left g q (goes_on g (λ late. g.returns (apart (suc g.slot + r.delay) n late e)))

              ticking : (paid used : ℕ) (s : Stage n paid used) → Next n paid used (pending s)
              ticking paid used (quiet p q a) = absurd (cc x.0)
              ticking paid used (unsent p q s) = absurd (cc x.1)
              ticking paid used (failed p q) = record {
                paid_next = (L (suc n)).clock - 1;
                used_next = 0;
                stage = failed refl refl;
                bound = omega (arith, ap one_if w, product, p, q, runs, ticks, x.3);
                repays = omega (arith, silent);
              }
              ticking paid used (going g p q) = going_on paid used 0 g p q _ refl _ refl

          -- the slot
          pub next : (paid used : ℕ) (s : Stage n paid used) → Next n paid used (pending s)
          next paid used s = elim (cases_Bool (awaits_answer (M n).endpoint)) [
            | inl w ↦ by_way w (slot_way (M n) m_open out_open)
            | inr w ↦ rests paid used s w
          ]
            where
              by_way : awaits_answer (M n).endpoint ≡ true → SlotWay (M n) (slot_outcome (M n)) → Next n paid used (pending s)
              by_way w (sends d i t c) = starts paid used s d i t
                  (c ∙ m_t200) (r.turn n role).is_lost refl
              by_way w (blocked x a k d f t c) =
                  yields paid used s d (goes_it (M n) x a k)
                  (t) c (M n).is_sent refl
              by_way w (counts d t c) = ticking w d t
                  (c) paid used s

  -- ---- all slots

  pub record Total (k m : ℕ) : Type 0 where
    pub paid : ℕ
    pub used : ℕ
    pub stage : Stage m paid used
    pub bound : waiting_slots r n0 k role + paid + round_trip r.delay * acked (L n0)
        ≤ round_trip r.delay * acked (L m) + r.t200 * (lossy_slots r n0 k + 1) + answering_slots r n0 k role + used
    pub repays : expiries r n0 k role + pending stage ≤ lossy_slots r n0 k + 1

  at_start : Total 0 n0
  at_start = record {
    paid = (L n0).clock - 1;
    used = 0;
    stage = failed refl refl;
    bound = omega (arith, clock_within r u role n0, mul-one r.t200);
    repays = omega arith;
  }

  one_more : (k : ℕ) (t : Total k (n0 + k)) → Next (n0 + k) t.paid t.used (pending t.stage) → Total (suc k) (suc (n0 + k))
  one_more k t x = record {
    paid = x.paid_next;
    used = x.used_next;
    stage = x.stage;
    bound = omega (arith, t.bound, x.bound, cost r.t200 (lossy_slots r n0 k) (one_if (is_lossy r (n0 + k))));
    repays = omega (arith, t.repays, x.repays);
  }

  total : (k : ℕ) → AreOpen r n0 k → Total k (n0 + k)
  total zero o = let e : n0 + 0 ≡ n0 = omega arith in rw e at_start
  total (suc k) o =
      let e : n0 + suc k ≡ suc (n0 + k) = omega arith in
      let t = total k (λ j h q. o j (omega (arith, h)) q) in
      rw e (one_more k t (next (n0 + k) (omega arith) m_open (λ j a b. open_at j a (omega (arith, b)) (other role)) out_open
      (λ a. open_at (suc (n0 + k)) a (omega arith) (other role)) t.paid t.used t.stage))
    where
      open_at : (j : ℕ) → n0 ≤ j → j ≤ suc (n0 + k) → (q : Role) → (link_at r j q).endpoint.state ≡ Open
      open_at j a b q = let e : n0 + (j - n0) ≡ j = omega (arith, a) in rw e at (o (j - n0) (omega (arith, b)) q)

      out_open : (slot_outcome (M (n0 + k))).link.endpoint.state ≡ Open
      out_open = open_at (suc (n0 + k)) (omega arith) (omega arith) role

      m_open : (M (n0 + k)).endpoint.state ≡ Open
      m_open = slot_open (M (n0 + k)) out_open

  used_at_most : (m paid used : ℕ) → Stage m paid used → used ≤ round_trip r.delay
  used_at_most m paid used (quiet p q w) = omega (arith, q)
  used_at_most m paid used (unsent p q w) = omega (arith, q)
  used_at_most m paid used (failed p q) = omega (arith, q)
  used_at_most m paid used (going g p q) = omega (arith, q, g.early)

  pub waits_at_most : (k : ℕ) → AreOpen r n0 k → waiting_slots r n0 k role + round_trip r.delay * acked_at r n0 role
      ≤ round_trip r.delay * (acked_at r (n0 + k) role + 1) + r.t200 * (lossy_slots r n0 k + 1) + answering_slots r n0 k role
  waits_at_most k o =
      let t = total k o in
      omega (
        arith,
        t.bound,
        used_at_most (n0 + k) t.paid t.used t.stage,
        mul-add (round_trip r.delay) (acked_at r (n0 + k) role) 1,
        mul-one (round_trip r.delay),
      )

  pub repeats_at_most : (k : ℕ) → AreOpen r n0 k → expiries r n0 k role ≤ lossy_slots r n0 k + 1
  repeats_at_most k o = omega (arith, (total k o).repays)
