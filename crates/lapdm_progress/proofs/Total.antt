-- A link lets an answer go before its own frame only after T200 of the other side expired, the network also after the first SABM.
use Rattle.{
  lapdm_progress.{
    proofs.{Frames.{opening_expires, opening_silent}, Known.{begins, joins, kept, mobile_slot, network_slot, network_stays, rests}},
    proofs.{Known.{state_next, stays, tries, Known, Unclosed, MobileSlot, NetworkSlot, known}, Runs.{NeverReleases, sound}},
    proofs.{Runs.nothing_arrives, Start.idle_silent, Paid.{le_of, not_le_of, arrived_other}, Polls.{goes_first, is_for_poll}, Opening.E},
    proofs.{Opening.{B, answer_step}, Slots.{not_if, one_most, one_at_most, answers_first, slots_after}},
    specs.{Channels.{after_slot, Run}, Progress.{link_at, arriving_at, ready_at, frame_at, round_trip, one_if}},
  },
  std.{
    specs.Prelude.{◌≡◌, ℕ, zero, suc, ◌+◌, ◌≤◌, Bool, true, false, not, ◌⊎◌, nat_le, None},
    proofs.Common.{inl, inr, arith, refl, ap, ◌∙◌},
  },
  lapdm_end.specs.lapdm_window.{declared.State.TheVariants.{Idle, Opening, Open}, Ends.{Role, Mobile, Network}, Calls.is_idle},
  lapdm_link.specs.Events.other,
  lapdm_datalink.specs.{Links.LinkState, Slots.expires_in},
  lapdm_delivery.specs.Lockstep.carried,
}

-- ---- an answer goes first only behind a frame of the other side

module _ (r : Run) (u : NeverReleases r) where
  -- an answer is owed only for a frame that arrives
  owes_for : (n : ℕ) (role : Role) → arriving_at r n role ≡ None → answers_first r n role ≡ true → ⊥
  owes_for n role e h =
      let y = goes_first (ready_at r n role) h in
      cc (kept r u n role, ((sound r u n).settled role).owes, y.1)

  none_owed : (n : ℕ) (role : Role) → (ready_at r n role).answer ≡ None → answers_first r n role ≡ true → ⊥
  none_owed n role e h = let y = goes_first (ready_at r n role) h in cc y.1

  network_on : (j k : ℕ) → Unclosed r u (j + k) → (link_at r j Network).endpoint.state ≡ Open →
      (link_at r (j + k) Network).endpoint.state ≡ Open
  network_on j zero c o = let e : j + 0 ≡ j = omega arith in rw e o
  network_on j (suc k) c o =
      let e : j + suc k ≡ suc (j + k) = omega arith in
      let c' : Unclosed r u (suc (j + k)) = λ i a q. c i (omega (arith, a)) q in
      let b : Unclosed r u (j + k) = λ i a q. c i (omega (arith, a)) q in
      rw e (network_stays r u (j + k) (known r u (j + k) b) c' (network_slot r u (j + k) (known r u (j + k) b)) (network_on j k b o))

  -- nothing that is not sent arrives
  silent_then : (q : ℕ) (role : Role) → frame_at r q role ≡ None → answers_first r (suc q + r.delay) (other role) ≡ true → ⊥
  silent_then q role e h = owes_for (suc q + r.delay) (other role)
      (arrived_other r q role ∙ carried_nothing (r.turn q role).is_lost e) h
    where
      carried_nothing : (b : Bool) → frame_at r q role ≡ None → carried b (frame_at r q role) ≡ None
      carried_nothing true x = refl
      carried_nothing false x = x

  idle_frame : (q : ℕ) (role : Role) → (link_at r q role).endpoint.state ≡ Idle →
      ready_at r q role ≡ after_slot (r.turn q role).is_held (link_at r q role) →
      frame_at r q role ≡ None
  idle_frame q role i e = idle_silent (ready_at r q role) (ap (λ l. is_idle l.endpoint.state) e ∙ ap is_idle i)
      (ap (λ l. l.answer) e ∙ ((sound r u q).settled role).owes)

  module _ (q : ℕ) (c : Unclosed r u (suc (suc q + r.delay))) where
    abbrev pub n : ℕ
    n = suc q + r.delay

    c_to : (j : ℕ) → j ≤ suc n → Unclosed r u j
    c_to j a i b role = c i (omega (arith, a, b)) role

    known_q : Known r u q
    known_q = known r u q (c_to q (omega arith))

    known_n : Known r u n
    known_n = known r u n (c_to n (omega arith))

    -- a mobile answers a poll of the network
    mobile_answers : answers_first r n Mobile ≡ true → expires_in (ready_at r q Network) ≡ true
    mobile_answers h = by_mobile (mobile_slot r u n known_n)
      where
        by_network : (link_at r n Mobile).endpoint.state ≡ Open → (link_at r (suc n) Mobile).endpoint.state ≡ Open →
            NetworkSlot r u q → expires_in (ready_at r q Network) ≡ true
        by_network o p (rests i e) = absurd (silent_then q Network (idle_frame q Network i e) h)
        by_network o p (joins i s x a b) =
            is_for_poll r u q Network (state_next r u q (c_to (suc q) (omega arith)) Network ∙ s) o p h
        by_network o p (stays i s x a) =
            is_for_poll r u q Network (state_next r u q (c_to (suc q) (omega arith)) Network ∙ s) o p h

        by_mobile : MobileSlot r u n → expires_in (ready_at r q Network) ≡ true
        by_mobile (rests i e) = absurd (none_owed n Mobile (ap (λ l. l.answer) e ∙ ((sound r u n).settled Mobile).owes) h)
        by_mobile (begins i o x s k a) = absurd (none_owed n Mobile a h)
        by_mobile (tries o e) = absurd (none_owed n Mobile (ap (λ l. l.answer) e ∙ ((sound r u n).settled Mobile).owes) h)
        by_mobile (joins o p i a t) = absurd (none_owed n Mobile a h)
        by_mobile (stays o p i a) = by_network o (state_next r u n c Mobile ∙ p) (network_slot r u q known_q)

    -- the network answers a poll of the mobile, or its SABM
    network_answers : answers_first r n Network ≡ true → (expires_in (ready_at r q Mobile) ≡ true)
        ⊎ (((link_at r q Mobile).endpoint.state ≡ Idle) × ((link_at r (suc q) Mobile).endpoint.state ≡ Opening))
    network_answers h = by_mobile (mobile_slot r u q known_q)
      where
        opened : (link_at r (suc q) Mobile).endpoint.state ≡ Open → expires_in (ready_at r q Mobile) ≡ true
        opened o =
            let p : (link_at r (suc q) Network).endpoint.state ≡ Open =
            (known r u (suc q) (c_to (suc q) (omega arith))).later o in
            let s : (link_at r (suc q + r.delay) Network).endpoint.state ≡ Open =
            network_on (suc q) r.delay (c_to n (omega arith)) p in
            is_for_poll r u q Mobile o s (network_stays r u n known_n c (network_slot r u n known_n) s) h

        by_mobile : MobileSlot r u q → (expires_in (ready_at r q Mobile) ≡ true)
            ⊎ (((link_at r q Mobile).endpoint.state ≡ Idle) × ((link_at r (suc q) Mobile).endpoint.state ≡ Opening))
        by_mobile (rests i e) = absurd (silent_then q Mobile (idle_frame q Mobile i e) h)
        by_mobile (begins i o x s k a) = inr (i, state_next r u q (c_to (suc q) (omega arith)) Mobile ∙ o)
        by_mobile (tries o e) = inl (by_clock (nat_le 1 m.clock) refl)
          where
            m : LinkState
            m = ready_at r q Mobile

            m_opening : m.endpoint.state ≡ Opening
            m_opening = ap (λ l. l.endpoint.state) e ∙ o

            m_none : m.answer ≡ None
            m_none = ap (λ l. l.answer) e ∙ ((sound r u q).settled Mobile).owes

            m_sent : m.is_sent ≡ true
            m_sent = ap (λ l. l.is_sent) e ∙ ((sound r u q).settled Mobile).opening (rw o refl)

            by_clock : (b : Bool) → nat_le 1 m.clock ≡ b → expires_in m ≡ true
            by_clock true k = absurd (silent_then q Mobile
                (opening_silent m m_opening m_none (le_of 1 m.clock k)) h)
            by_clock false k = opening_expires m m_opening m_none m_sent
                (omega (arith, not_le_of 1 m.clock k))
        by_mobile (joins o p i a t) = inl (opened (state_next r u q (c_to (suc q) (omega arith)) Mobile ∙ p))
        by_mobile (stays o p i a) = inl (opened (state_next r u q (c_to (suc q) (omega arith)) Mobile ∙ p))

-- ---- how often

module _ (r : Run) (u : NeverReleases r) (long : round_trip r.delay ≤ r.t200) (k : ℕ) (c : Unclosed r u k) where
  abbrev pub asked : ℕ → ℕ
  asked n = one_if (not (is_idle (link_at r n Mobile).endpoint.state))

  until : (j : ℕ) → j ≤ k → Unclosed r u j
  until j a i b role = c i (omega (arith, a, b)) role

  asked_up : (n : ℕ) → suc n ≤ k → asked n ≤ asked (suc n)
  asked_up n a = by_slot (mobile_slot r u n (known r u n (until n (omega (arith, a)))))
    where
      next : (link_at r (suc n) Mobile).endpoint.state ≡ (ready_at r n Mobile).endpoint.state
      next = state_next r u n (until (suc n) a) Mobile

      more : (b : Bool) → is_idle (link_at r (suc n) Mobile).endpoint.state ≡ false → asked n ≤ asked (suc n)
      more b e = omega (arith, one_most (not (is_idle (link_at r n Mobile).endpoint.state)), ap (λ x. one_if (not x)) e)

      by_slot : MobileSlot r u n → asked n ≤ asked (suc n)
      by_slot (rests i e) = omega (arith, ap (λ x. one_if (not (is_idle x))) i)
      by_slot (begins i o x s y z) = more true (ap is_idle (next ∙ o))
      by_slot (tries o e) = more true (ap is_idle (next ∙ ap (λ l. l.endpoint.state) e ∙ o))
      by_slot (joins o p i x t) = more true (ap is_idle (next ∙ p))
      by_slot (stays o p i x) = more true (ap is_idle (next ∙ p))

  none_early : (n : ℕ) (role : Role) → n ≤ suc r.delay → B r u long n role ≡ 0
  none_early zero role a = refl
  none_early (suc n) role a = omega (
    arith,
    answer_step r u long n role,
    none_early n role (omega (arith, a)),
    ap one_if (not_if (answers_first r n role) (owes_for r u n role (nothing_arrives r n role (omega (arith, a))))),
  )

  network_one : (j : ℕ) → suc (suc j + r.delay) ≤ k → one_if (answers_first r (suc j + r.delay) Network) + asked j
      ≤ one_if (expires_in (ready_at r j Mobile)) + asked (suc j)
  network_one j a = by_answer (answers_first r (suc j + r.delay) Network) refl
    where
      by_answer : (b : Bool) → answers_first r (suc j + r.delay) Network ≡ b →
          one_if (answers_first r (suc j + r.delay) Network) + asked j ≤ one_if (expires_in (ready_at r j Mobile)) + asked (suc j)
      by_answer false e = omega (arith, ap one_if e, asked_up j (omega (arith, a)))
      by_answer true e = by_case (network_answers r u j (until (suc (suc j + r.delay)) a) e)
        where
          by_case : (expires_in (ready_at r j Mobile) ≡ true)
              ⊎ (((link_at r j Mobile).endpoint.state ≡ Idle) × ((link_at r (suc j) Mobile).endpoint.state ≡ Opening)) →
              one_if (answers_first r (suc j + r.delay) Network) + asked j
              ≤ one_if (expires_in (ready_at r j Mobile)) + asked (suc j)
          by_case (inl x) = omega (arith, ap one_if e, ap one_if x, asked_up j (omega (arith, a)))
          by_case (inr (i, o)) = omega (
            arith,
            ap one_if e,
            ap (λ x. one_if (not (is_idle x))) i,
            ap (λ x. one_if (not (is_idle x))) o,
          )

  -- the slot in which an answer comes to a frame
  answer_slot : (j : ℕ) → 0 + (suc r.delay + j) ≡ suc j + r.delay
  answer_slot j = omega arith

  none_plus : (j : ℕ) → 0 + j ≡ j
  none_plus j = omega arith

  pub answers_total : (B r u long k Mobile ≤ E r u long k Network) × (B r u long k Network ≤ E r u long k Mobile + 1)
  answers_total = (
    omega (
      arith,
      slots_after (λ j. answers_first r j Mobile) (λ j. expires_in (ready_at r j Network)) 0 (suc r.delay) k 0 0 (λ j. 0)
          (λ j. omega arith) (omega (arith, none_early (suc r.delay) Mobile (omega arith)))
          (λ j a. rw (answer_slot j, none_plus j) (omega (
            arith,
            one_at_most (answers_first r (suc j + r.delay) Mobile) (expires_in (ready_at r j Network))
                (mobile_answers r u j (until (suc (suc j + r.delay)) (omega (arith, a)))),
          ))),
    ),
    omega (
      arith,
      slots_after (λ j. answers_first r j Network) (λ j. expires_in (ready_at r j Mobile)) 0 (suc r.delay) k 0 1 asked
          (λ j. one_most (not (is_idle (link_at r j Mobile).endpoint.state)))
          (omega (arith, none_early (suc r.delay) Network (omega arith)))
          (λ j a. rw (answer_slot j, none_plus j) (network_one j (omega (arith, a)))),
    ),
  )
