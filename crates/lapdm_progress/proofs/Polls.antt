-- A link of SAPI 0 sends an answer before its own frame only for a poll of the other side, which repeats a frame then.
use Rattle.{
  lapdm_progress.{
    specs.Progress.{is_repeated_content, link_at, arriving_at, ready_at, frame_at, round_trip, one_if, is_i_frame, is_i_content},
    specs.{Progress.{is_repetition, lossy_slots, expiries, AreOpen, Progress}, Channels.{place, Run, after_arriving}},
    proofs.{Steps.{IsAnswerOf, taken}, Link.{answer_is, From, nowhere, owed, first, again, slot_from, reply_with, frame_taken}},
    proofs.{Start.slot_open, Runs.{sound, called_in, placed_in, NeverReleases}, Paid.{in_sequence_or_polls, taken_is}},
    proofs.{Paid.arrived_other, Expiries.{owes_ready, i_parts, repeats}, Waiting.{waits_at_most, repeats_at_most}, Slots.one_most},
    proofs.Slots.{one_at_most, answering_slots, answers_first, slots_after},
  },
  std.proofs.{lemmas.Bool.cases_Bool, Common.{inl, inr, arith, refl, ap, sym, ◌∙◌}, Math.Nat.{add-mul, one-mul}},
  std.specs.Prelude.{◌≡◌, ◌≢◌, ℕ, zero, suc, ◌+◌, ◌-◌, ◌*◌, ◌≤◌, Bool, true, false, not, ◌&&◌},
  std.specs.Prelude.{◌||◌, ◌⊎◌, nat_eq, List, Option, Some, None, IfSome},
  lapdm_frame.specs.Content.{Content, I, Rr, Rej, Frame},
  lapdm_end.specs.lapdm_window.{
    declared.State.TheVariants.{Open, Closed},
    segmenting.Segments.Segment,
    Ends.{Role, Mobile, Network, EndpointState, vr, command_cr, first_unacked_segment},
    Rules.nr_acknowledges_segment,
    Calls.{awaited_frame, t200_expiry},
  },
  lapdm_link.specs.Events.other,
  lapdm_datalink.specs.{
    Links.{LinkState, nr_as_taken, slot_outcome, is_due, keeps_back, is_plain_rr, is_awaiting_kind, first_frame},
    Slots.{took, expires_in, answer_goes},
  },
}

-- ---- what an open link owes after a frame that does not poll

module _ (cr : Bool) (l : LinkState) (o : l.endpoint.state ≡ Open) (none : l.answer ≡ None)
    (response : cr ≡ command_cr l.endpoint.role)
  where
    no_answer : (c : Content) → is_awaiting_kind c ≡ false → (taken (reply_with cr l c) l).answer ≡ None
    no_answer (I ns nr p more info) k = absurd cc
    no_answer (Rr nr p) k = grind (arith, o, none, response)
    no_answer (Rej nr p) k = grind (arith, o, none, response)
    no_answer other k = grind (arith, o, none, response, k)

plain_i : (l : LinkState) (ns nr : ℕ) (s : Segment) → l.answer ≡ None → nat_eq ns (vr l.endpoint) ≡ true →
    (f : Frame) → (took ns nr false s l).answer ≡ Some f → is_plain_rr f.content ≡ true
plain_i l ns nr s none h f e = by_match (nr_acknowledges_segment nr l.endpoint) refl (first_unacked_segment l.endpoint).1 refl
  where
    by_match : (a : Bool) → nr_acknowledges_segment nr l.endpoint ≡ a → (more : Bool) →
        (first_unacked_segment l.endpoint).1 ≡ more → is_plain_rr f.content ≡ true
    by_match true a true k = grind (arith, none, h, e, a, k)
    by_match true a false k = grind (arith, none, h, e, a, k)
    by_match false a true k = grind (arith, none, h, e, a, k)
    by_match false a false k = grind (arith, none, h, e, a, k)

-- ---- what an open link sends: an I frame, or a response that awaits no answer

first_i : (e : EndpointState) (f : Frame) → e.state ≡ Open → Some (awaited_frame false e.state e) ≡ Some f →
    is_i_content f.content ≡ true
first_i e f o h = grind (arith, o, h)

again_i : (e : EndpointState) (f : Frame) → e.state ≡ Open → first_frame (t200_expiry e).frames ≡ Some f →
    is_i_content f.content ≡ true
again_i e f o h = grind (arith, o, h)

sends_answer : (m : LinkState) (f : Frame) → m.endpoint.state ≡ Open → IfSome m.answer (IsAnswerOf m) →
    (slot_outcome m).frame ≡ Some f → is_i_content f.content ≡ false → IsAnswerOf m f
sends_answer m f o owes h i = by_from (slot_from m)
  where
    by_from : From m (slot_outcome m) → IsAnswerOf m f
    by_from (nowhere e) = absurd cc
    by_from (owed e) = answer_is m m.answer f (sym e ∙ h) owes
    by_from (first e due new sent) = absurd (cc (first_i m.endpoint f o (sym e ∙ h)))
    by_from (again e due old sent over) = absurd (cc (again_i m.endpoint f o (sym e ∙ h)))

response_way : (o role : Role) → not (command_cr (place o role)) ≡ command_cr (place o (other role))
response_way Mobile role = grind arith
response_way Network role = grind arith

held_back : (f : Frame) (m : LinkState) → is_plain_rr f.content ≡ true → is_due m ≡ true → m.endpoint.state ≡ Open →
    keeps_back f m ≡ true
held_back f m p d o = grind (arith, p, d, o)

parts_of : (a b : Bool) → (a && b) ≡ true → (a ≡ true) × (b ≡ true)
parts_of true true h = (refl, refl)
parts_of true false h = absurd cc
parts_of false b h = absurd cc

-- an answer goes first
pub goes_first : (m : LinkState) → (is_due m && answer_goes m.answer m) ≡ true →
    (f : Frame) × (m.answer ≡ Some f) × (is_due m ≡ true) × (keeps_back f m ≡ false)
goes_first m h = let x = parts_of (is_due m) (answer_goes m.answer m) h in by_answer m.answer refl x.0 x.1
  where
    not_false : (b : Bool) → not b ≡ true → b ≡ false
    not_false true h = absurd cc
    not_false false h = refl

    by_answer : (a : Option Frame) → m.answer ≡ a → is_due m ≡ true → answer_goes a m ≡ true →
        (f : Frame) × (m.answer ≡ Some f) × (is_due m ≡ true) × (keeps_back f m ≡ false)
    by_answer None e due g = absurd cc
    by_answer (Some f) e due g = (f, e, due, not_false (keeps_back f m) g)

in_order : (b p : Bool) → (b || p) ≡ true → p ≡ false → b ≡ true
in_order true p h e = refl
in_order false p h e = absurd cc

-- ---- the slot in which an answer goes first is one delay after a repetition of the other side

module _ (r : Run) (u : NeverReleases r) (q : ℕ) (role : Role) where
  abbrev pub n : ℕ
  n = suc q + r.delay

  abbrev pub x : Role
  x = other role

  abbrev pub l : LinkState
  l = link_at r n x

  abbrev pub m : LinkState
  m = ready_at r n x

  module _ (open_q : (link_at r (suc q) role).endpoint.state ≡ Open) (open_n : l.endpoint.state ≡ Open)
      (open_next : (link_at r (suc n) x).endpoint.state ≡ Open)
    where
      m_open : m.endpoint.state ≡ Open
      m_open = slot_open m open_next

      sender_open : (ready_at r q role).endpoint.state ≡ Open
      sender_open = slot_open (ready_at r q role) open_q

      owes_none : l.answer ≡ None
      owes_none = ((sound r u n).settled x).owes

      -- the calls keep what is owed
      kept : m.answer ≡ (after_arriving (arriving_at r n x) l).answer
      kept = (called_in r u n x).answer_same

      still_open : (link_at r (suc n) x).endpoint.state ≢ Closed
      still_open e = cc

      owes_plain : (f : Frame) → m.answer ≡ Some f → is_repetition (frame_at r q role) ≡ false → is_plain_rr f.content ≡ true
      owes_plain f a none = by_sent (r.turn q role).is_lost refl (frame_at r q role) refl
        where
          nothing : arriving_at r n x ≡ None → is_plain_rr f.content ≡ true
          nothing e = absurd (cc (sym (ap (λ o. (after_arriving o l).answer) e ∙ owes_none) ∙ sym kept ∙ a))

          by_kind : (g : Frame) → frame_at r q role ≡ Some g → (r.turn q role).is_lost ≡ false → (b : Bool) →
              is_i_content g.content ≡ b → is_plain_rr f.content ≡ true
          by_kind g e lost true i =
              by_poll y.4 refl
            where
              y : (g : Frame) × (frame_at r q role ≡ Some g) × (ns : ℕ) × (nr : ℕ) × (p : Bool) × (more : Bool)
                  × (info : List ℕ) × (g.content ≡ I ns nr p more info)
              y = i_parts (frame_at r q role) (ap is_i_frame e ∙ i)

              arrived_i : after_arriving (arriving_at r n x) l ≡ took y.2 (nr_as_taken y.3 l) y.4 (y.6, y.5) l
              arrived_i = taken_is r u q role y.0 y.2 y.3 y.4 y.5 y.6 y.1 y.7 lost open_n still_open

              order : (nat_eq y.2 (vr l.endpoint) || y.4) ≡ true
              order = in_sequence_or_polls r u q role y.0 y.2 y.3 y.4 y.5 y.6 y.1 y.7 lost open_n still_open

              by_poll : (p : Bool) → y.4 ≡ p → is_plain_rr f.content ≡ true
              by_poll true p =
                  let e : is_repetition (frame_at r q role) ≡ true = ap is_repetition y.1 ∙ ap is_repeated_content y.7
                  ∙ p in absurd cc
              by_poll false p = plain_i l y.2 (nr_as_taken y.3 l) (y.6, y.5) owes_none (in_order (nat_eq y.2 (vr l.endpoint)) y.4 order p) f
                  (ap (λ t. (took y.2 (nr_as_taken y.3 l) t (y.6, y.5) l).answer) (sym p) ∙ ap (λ k. k.answer) (sym arrived_i)
                  ∙ sym kept ∙ a)
          by_kind g e lost false i =
              let w : IsAnswerOf (ready_at r q role) g =
              sends_answer (ready_at r q role) g sender_open (owes_ready r u role q) e i in
              by_taken w (frame_taken g l)
            where
              comes : arriving_at r n x ≡ Some g
              comes = arrived_other r q role ∙ rw (lost, e) refl

              way_of : IsAnswerOf (ready_at r q role) g → g.cr ≡ command_cr l.endpoint.role
              way_of w = w.way ∙ ap (λ k. not (command_cr k)) (placed_in r u q role).role ∙ response_way r.pair.opener role
                  ∙ ap command_cr (sym ((sound r u n).placed x).role)

              by_taken : IsAnswerOf (ready_at r q role) g →
                  (after_arriving (Some g) l ≡ l) ⊎ (after_arriving (Some g) l ≡ taken (reply_with g.cr l g.content) l) →
                  is_plain_rr f.content ≡ true
              by_taken w (inl h) = absurd (cc (sym (ap (λ o. (after_arriving o l).answer) comes ∙ ap (λ k. k.answer) h
                  ∙ owes_none) ∙ sym kept ∙ a))
              by_taken w (inr h) = absurd (cc (sym (ap (λ o. (after_arriving o l).answer) comes ∙ ap (λ k. k.answer) h
                  ∙ no_answer g.cr l open_n owes_none (way_of w) g.content w.kind) ∙ sym kept ∙ a))

          by_sent : (b : Bool) → (r.turn q role).is_lost ≡ b → (y : Option Frame) → frame_at r q role ≡ y →
              is_plain_rr f.content ≡ true
          by_sent true lost y e = nothing (arrived_other r q role ∙ rw lost refl)
          by_sent false lost None e = nothing (arrived_other r q role ∙ rw (lost, e) refl)
          by_sent false lost (Some g) e = by_kind g e lost (is_i_content g.content) refl

      pub is_for_poll : answers_first r n x ≡ true → expires_in (ready_at r q role) ≡ true
      is_for_poll h = elim (cases_Bool (is_repetition (frame_at r q role))) [
        | inl e ↦ (repeats (ready_at r q role) (owes_ready r u role q) e).4
        | inr e ↦ absurd (cc (held_back y.0 m (owes_plain y.0 y.1 e) y.2 m_open, y.3))
      ]
        where
          y : (f : Frame) × (m.answer ≡ Some f) × (is_due m ≡ true) × (keeps_back f m ≡ false)
          y = goes_first m h

-- ---- all slots

module _ (r : Run) (u : NeverReleases r) (n0 : ℕ) (role : Role) where
  few : (k : ℕ) → answering_slots r n0 k (other role) ≤ k
  few zero = omega arith
  few (suc k) = omega (arith, few k, one_most (answers_first r (n0 + k) (other role)))

  open_in : (k j : ℕ) → n0 ≤ j → j ≤ n0 + k → AreOpen r n0 k → (p : Role) → (link_at r j p).endpoint.state ≡ Open
  open_in k j a b o p = let e : n0 + (j - n0) ≡ j = omega (arith, a) in rw e at (o (j - n0) (omega (arith, b)) p)

  polled : (j : ℕ) → AreOpen r n0 (suc (suc r.delay + j)) →
      one_if (answers_first r (n0 + (suc r.delay + j)) (other role)) ≤ one_if (expires_in (ready_at r (n0 + j) role))
  polled j o =
      let e : n0 + (suc r.delay + j) ≡ suc (n0 + j) + r.delay = omega arith in
      rw e (one_at_most (answers_first r (suc (n0 + j) + r.delay) (other role)) (expires_in (ready_at r (n0 + j) role))
      (is_for_poll r u (n0 + j) role
      (open_in (suc (suc r.delay + j)) (suc (n0 + j)) (omega arith) (omega arith) o role)
      (open_in (suc (suc r.delay + j)) (suc (n0 + j) + r.delay) (omega arith) (omega arith) o (other role))
      (open_in (suc (suc r.delay + j)) (suc (suc (n0 + j) + r.delay)) (omega arith) (omega arith) o (other role))))

  pub answers_at_most : (k : ℕ) → AreOpen r n0 k → answering_slots r n0 k (other role) ≤ expiries r n0 k role + suc r.delay
  answers_at_most k o = omega (
    arith,
    slots_after (λ j. answers_first r j (other role)) (λ j. expires_in (ready_at r j role)) n0
        (suc r.delay) k (suc r.delay) 0 (λ j. 0) (λ j. omega arith) (few (suc r.delay))
        (λ j a. omega (arith, polled j (λ i h p. o i (omega (arith, h, a)) p))),
  )

bound : (t l : ℕ) → (t + 1) * l ≡ t * l + l
bound t l = add-mul t 1 l ∙ ap (λ x. t * l + x) (one-mul l)

progress_of : (r : Run) → NeverReleases r → round_trip r.delay ≤ r.t200 → (n k : ℕ) → AreOpen r n k → (role : Role) →
    answering_slots r n k role ≤ expiries r n k (other role) + suc r.delay → Progress r n k role
progress_of r u long n k o role h = record {
  waits = omega (
    arith,
    waits_at_most r u long n role k o,
    h,
    repeats_at_most r u long n (other role) k o,
    bound r.t200 (lossy_slots r n k + 1),
  );
  expires = repeats_at_most r u long n role k o;
}

pub progresses : (r : Run) → NeverReleases r → round_trip r.delay ≤ r.t200 → (n k : ℕ) → AreOpen r n k → (role : Role) →
    Progress r n k role
progresses r u long n k o Mobile = progress_of r u long n k o Mobile (answers_at_most r u n Network k o)
progresses r u long n k o Network = progress_of r u long n k o Network (answers_at_most r u n Mobile k o)
