-- An I frame is acknowledged within a round trip if neither its slot nor that of its answer brings a loss.
use Rattle.{
  lapdm_end.specs.lapdm_window.{
    Ends.{sapi_number, Role, Mobile, Network, vr, awaits_ack, command_cr},
    declared.State.TheVariants.{Open, Closed},
  },
  lapdm_progress.{
    specs.{Channels.{place, after_slot, Run, after_calls, after_arriving}, Progress.{link_at, arriving_at, ready_at, frame_at}},
    proofs.{Steps.{acked, issued, accepted, aired, accepts_taken}, Link.{ns_in, poll_in, slot_acked, slot_accepted}, Answers.gets_ack},
    proofs.{Answers.{i_arrives, answers}, Runs.{sound, slotted_in, arrived, counts, counted, NeverReleases, called_in}},
  },
  std.{proofs.{lemmas.Bool.cases_Bool, Common.{inl, inr, arith, refl, ap, sym, ◌∙◌}}, specs.Prelude.{◌≡◌, ◌≢◌, ℕ, suc}},
  std.specs.Prelude.{◌+◌, ◌%◌, ◌≤◌, Bool, true, false, ◌||◌, ◌⊎◌, nat_eq, nat_le, List, Option, Some, None},
  lapdm_frame.specs.Content.{I, Frame},
  lapdm_link.specs.Events.other,
  lapdm_datalink.specs.{Links.{LinkState, nr_as_taken, slot_outcome}, Slots.{nr_in, nr_of, took}},
  lapdm_delivery.specs.Lockstep.carried,
}
use Rattle.lapdm_progress.proofs.Counts as C

sent_of : (l : LinkState) → acked l + 1 ≤ aired l → l.is_sent ≡ true
sent_of l h = grind (arith, h)

pub arrived_other : (r : Run) (n : ℕ) (role : Role) →
    arriving_at r (suc n + r.delay) (other role) ≡ carried (r.turn n role).is_lost (frame_at r n role)
arrived_other r n Mobile = arrived r n Network
arrived_other r n Network = arrived r n Mobile

-- the sides in two places send commands with different C/R bits
cr_differs : (o role : Role) → command_cr (place o role) ≢ command_cr (place o (other role))
cr_differs Mobile Mobile h = cc
cr_differs Mobile Network h = cc
cr_differs Network Mobile h = cc
cr_differs Network Network h = cc

frame_says : (x : Option Frame) (k : ℕ) → nr_of x ≡ Some k → (g : Frame) × (x ≡ Some g) × (nr_in g.content ≡ Some k)
frame_says None k h = absurd cc
frame_says (Some g) k h = (g, refl, h)

differs : (a v s : ℕ) → a ≤ v → v ≤ a + 1 → nat_eq (a % 8) (v % 8) ≡ false → v ≡ a + 1
differs a v s h k e = grind (arith, e)

equals : (a v : ℕ) → a ≤ v → v ≤ a + 1 → nat_eq (a % 8) (v % 8) ≡ true → v ≡ a
equals a v h k e = grind (arith, e)

awaits_one : (l : LinkState) → issued l ≡ acked l + 1 → awaits_ack l.endpoint ≡ true
awaits_one l h = grind (arith, h)

pub le_of : (n k : ℕ) → nat_le n k ≡ true → n ≤ k
le_of n k h = grind (arith, h)

pub not_le_of : (n k : ℕ) → nat_le n k ≡ false → suc k ≤ n
not_le_of n k h = grind (arith, h)

module _ (r : Run) (u : NeverReleases r) (s : ℕ) (role : Role) (f : Frame) (ns nr : ℕ) (p more : Bool) (info : List ℕ)
    (sent : frame_at r s role ≡ Some f) (is_i : f.content ≡ I ns nr p more info) (arrives : (r.turn s role).is_lost ≡ false)
    (open_there : (link_at r (suc s + r.delay) (other role)).endpoint.state ≡ Open)
    (stays_there : (link_at r (suc (suc s + r.delay)) (other role)).endpoint.state ≢ Closed)
  where
    abbrev pub o : Role
    o = other role

    abbrev pub m : ℕ
    m = suc s + r.delay

    abbrev pub before : LinkState
    before = link_at r m o

    abbrev pub a : ℕ
    a = acked (link_at r (suc s) role)

    -- what one side sends has the SAPI of the other
    sapi_of : (n : ℕ) (q : Role) (g : Frame) → frame_at r n q ≡ Some g → (k : ℕ) (p : Role) →
        g.sapi ≡ sapi_number (link_at r k p).endpoint.sapi
    sapi_of n q g e k p = (slotted_in r u n q).sapi g e
        ∙ ap sapi_number (((sound r u n).placed q).sapi ∙ sym ((sound r u k).placed p).sapi)

    has_ns : ns_in f.content ≡ Some ns
    has_ns = ap ns_in is_i

    number : ns ≡ a % 8
    number = ((slotted_in r u s role).segment f sent ns has_ns).0

    aired_one : aired (link_at r (suc s) role) ≡ a + 1
    aired_one = ((slotted_in r u s role).segment f sent ns has_ns).1

    low : a ≤ accepted before
    low = omega (
      arith,
      C.later-to (λ n. acked (link_at r n role)) (λ n. (slotted_in r u n role).moves.acked_up) (suc s) m (omega arith),
      C.acked_in r.delay (counts r u) (counted r u) s role,
      C.later-to (λ n. accepted (link_at r n o)) (λ n. (slotted_in r u n o).moves.accepted_up) s m (omega arith),
    )

    up : accepted before ≤ accepted (link_at r (suc m) o)
    up = (slotted_in r u m o).moves.accepted_up

    high : accepted (link_at r (suc m) o) ≤ a + 1
    high =
        let e : suc (suc s) + r.delay ≡ suc m = omega arith in
        omega (arith, rw e at (C.accepted_in r.delay (counts r u) (counted r u) (suc s) role), aired_one)

    comes : arriving_at r m o ≡ Some f
    comes = arrived_other r s role ∙ rw (arrives, sent) refl

    taken_there : after_arriving (arriving_at r m o) before ≡ took ns (nr_as_taken nr before) p (info, more) before
    taken_there =
        ap (λ x. after_arriving x before) comes
        ∙ i_arrives f before ns nr p more info is_i open_there (sapi_of s role f sent m o) wrong_way
      where
        wrong_way : f.cr ≢ command_cr before.endpoint.role
        wrong_way h = cr_differs r.pair.opener role
            (sym (ap command_cr ((sound r u s).placed role).role) ∙ sym (((slotted_in r u s role).segment f sent ns has_ns).2) ∙ h
            ∙ ap command_cr ((sound r u m).placed o).role)

    kept_there : accepted (link_at r (suc m) o) ≡ accepted (took ns (nr_as_taken nr before) p (info, more) before)
    kept_there =
        slot_accepted (ready_at r m o) ∙ (called_in r u m o).accepted_same
        ∙ ap accepted taken_there

    in_sequence : (b : Bool) → nat_eq ns (vr before.endpoint) ≡ b →
        (accepted (link_at r (suc m) o) ≡ a + 1) × ((nat_eq ns (vr before.endpoint) || p) ≡ true)
    in_sequence true e = (
      kept_there ∙ accepts_taken before ns (nr_as_taken nr before) p (info, more) e
          ∙ ap (λ n. n + 1) (equals a (accepted before) low (omega (arith, up, high)) (rw number at e)),
      rw e refl,
    )
    in_sequence false e =
        let v : accepted before ≡ a + 1 = differs a (accepted before) 0 low (omega (arith, up, high)) (rw number at e) in
        (omega (arith, v, up, high), by_poll p refl v)
      where
        by_poll : (b : Bool) → p ≡ b → accepted before ≡ a + 1 → (nat_eq ns (vr before.endpoint) || p) ≡ true
        by_poll true h v = rw (e, h) refl
        by_poll false h v =
            let fresh : aired (link_at r s role) ≤ a = (slotted_in r u s role).first f sent ns has_ns (ap poll_in is_i ∙ h) in
            absurd (omega (arith, fresh, C.accepted_in r.delay (counts r u) (counted r u) s role, v))

    accepted_one : accepted (link_at r (suc m) o) ≡ a + 1
    accepted_one = (in_sequence _ refl).0

    -- the answer
    ready_is : ready_at r m o
        ≡ after_slot (r.turn m o).is_held (after_calls (r.turn m o).calls (took ns (nr_as_taken nr before) p (info, more) before))
    ready_is = ap (λ l. after_slot (r.turn m o).is_held (after_calls (r.turn m o).calls l)) taken_there

    pub answered : (g : Frame) × (frame_at r m o ≡ Some g) × (nr_in g.content ≡ Some ((a + 1) % 8))
    answered = by_case (answers r.pair o (r.turn m o) ns (nr_as_taken nr before) p (info, more) before (u m o) open_there
        ((sound r u m).settled o).owes
        (in_sequence _ refl).1)
      where
        x : LinkState
        x = after_slot (r.turn m o).is_held (after_calls (r.turn m o).calls (took ns (nr_as_taken nr before) p (info, more) before))

        by_case : (nr_of (slot_outcome x).frame ≡ Some (vr x.endpoint)) ⊎ ((slot_outcome x).link.endpoint.state ≡ Closed) →
            (g : Frame) × (frame_at r m o ≡ Some g) × (nr_in g.content ≡ Some ((a + 1) % 8))
        by_case (inr e) =
            absurd (stays_there (ap (λ l. (slot_outcome l).link.endpoint.state) ready_is ∙ e))
        by_case (inl e) =
            let said = frame_says (frame_at r m o) _ (ap (λ l. nr_of (slot_outcome l).frame) ready_is ∙ e) in
            (said.0, said.1, said.2 ∙ ap Some ((slotted_in r u m o).number said.0 said.1 _ said.2 ∙ ap (λ n. n % 8) accepted_one))

    pub answered_frame : (g : Frame) × (frame_at r m o ≡ Some g)
    answered_frame = (answered.0, answered.1)

    pub in_sequence_or_polls : (nat_eq ns (vr before.endpoint) || p) ≡ true
    in_sequence_or_polls = (in_sequence _ refl).1

    pub taken_is : after_arriving (arriving_at r m o) before ≡ took ns (nr_as_taken nr before) p (info, more) before
    taken_is = taken_there

    module _ (returns : (r.turn m o).is_lost ≡ false) (open_here : (link_at r (suc m + r.delay) role).endpoint.state ≡ Open) where
      abbrev pub t : ℕ
      t = suc m + r.delay

      abbrev pub here : LinkState
      here = link_at r t role

      acked_here : a ≤ acked here
      acked_here = C.later-to (λ n. acked (link_at r n role)) (λ n. (slotted_in r u n role).moves.acked_up) (suc s) t (omega arith)

      aired_here : a + 1 ≤ aired here
      aired_here = omega (
        arith,
        aired_one,
        C.later-to (λ n. aired (link_at r n role)) (λ n. (slotted_in r u n role).moves.aired_up) (suc s) t (omega arith),
      )

      gets : arriving_at r t role ≡ Some answered.0
      gets = arrived r m role ∙ rw (returns, answered.1) refl

      right_way : (k : ℕ) → ns_in answered.0.content ≡ Some k → answered.0.cr ≢ command_cr here.endpoint.role
      right_way k e h = cr_differs r.pair.opener role (sym (sym (ap command_cr ((sound r u m).placed o).role)
          ∙ sym (((slotted_in r u m o).segment answered.0 answered.1 k e).2) ∙ h ∙ ap command_cr ((sound r u t).placed role).role))

      acked_now : issued here ≡ acked here + 1 → acked here ≡ a → acked (link_at r (suc t) role) ≡ a + 1
      acked_now w same =
          slot_acked (ready_at r t role) ∙ (called_in r u t role).acked_same
          ∙ ap (λ x. acked (after_arriving x here)) gets
          ∙ gets_ack answered.0 here ((sound r u t).good role) ((sound r u t).settled role).owes open_here
          (sapi_of m o answered.0 answered.1 t role) right_way (awaits_one here w)
          (sent_of here (omega (arith, same, aired_here)))
          (answered.2 ∙ ap (λ n. Some (n % 8)) (sym (w ∙ ap (λ n. n + 1) same)))
          ∙ w ∙ ap (λ n. n + 1) same

      pub acked_in_time : a + 1 ≤ acked (link_at r (suc t) role)
      acked_in_time = elim (cases_Bool (nat_le (a + 1) (acked here))) [
        | inl e ↦ omega (arith, le_of (a + 1) (acked here) e, (slotted_in r u t role).moves.acked_up)
        | inr e ↦
            let same : acked here ≡ a = omega (arith, not_le_of (a + 1) (acked here) e, acked_here) in
            let one : issued here ≡ acked here + 1 =
            omega (arith, same, aired_here, (counted r u).aired_issued role t, ((sound r u t).good role).window) in
            omega (arith, acked_now one same)
      ]
