-- What holds of a link between slots: it owes nothing, and before it opens it has counted nothing.
use Rattle.{
  lapdm_progress.{
    proofs.{
      Link.{with_message, with_sabm, reply_with, over_arrival, over_endpoint, over_calls, Arrives, arrives, good_next, Called, then_called},
      Link.may_open,
      Link.{then_moves, Slotted, slotted, called_nothing, called_sends, called_opens, passes_slot, slot_acked, slot_issued, owed_later},
      Steps.{acked, issued, IsAnswerOf, Good, Moves, taken, outcome_endpoint},
    },
    specs.Channels.{Pair, Turn, after_slot, after_calls, after_arriving, before_sending, IsUse},
  },
  std.specs.Prelude.{◌≡◌, ℕ, ◌≤◌, Bool, true, false, if◌then◌else◌, ◌&&◌, ◌⊎◌, List, []},
  std.specs.Prelude.{◌∷◌, Option, None, All, IfSome},
  std.proofs.Common.{inl, inr, arith, refl, ap, sym, ◌∙◌, subst},
  lapdm_frame.specs.Content.{Content, I, Rr, Rej, Frame},
  lapdm_end.specs.lapdm_window.{
    declared.State.{State, TheVariants.{Idle, Opening, Open}},
    Ends.{EndpointState, Role, Mobile, Network, sapi_number},
    Tables.{Reply, Nothing, SendsDm, TakesIFrame, TakesRr, outcome_of_reply, is_command, reply_to_frame},
    Rules.{takes_i_frame, takes_rr},
    segmenting.Segments.Segment,
    Calls.{Call, Sends, refusal_of, is_idle},
  },
  lapdm_datalink.{
    specs.Links.{LinkState, as_taken, content_as_taken, nr_as_taken, refuses, slot_outcome, is_opening, sabm_goes_first},
    specs.Links.{with_frame, with_frames, is_awaiting_kind},
    proofs.Answering.owes_nothing,
  },
}

true_false : true ≡ false → ⊥
true_false h = cc

i_state : (ns nr : ℕ) (p : Bool) (s : Segment) (e : EndpointState) → (takes_i_frame ns nr p s e).new_state.state ≡ e.state
i_state ns nr p s e = grind arith

rr_state : (nr : ℕ) (p : Bool) (e : EndpointState) → (takes_rr nr p e).new_state.state ≡ e.state
rr_state nr p e = grind arith

-- ---- Idle is never entered again

module _ (cr : Bool) (l : LinkState) where
  -- the reply to an I frame and to an RR, whatever their N(R)
  abbrev replied : (s : ℕ) → Content → Reply
  replied s c = reply_to_frame (record { sapi = s; cr = cr; content = c }) l.endpoint

  idle_i : (s ns n : ℕ) (p more : Bool) (info : List ℕ) → (let o = outcome_of_reply (replied s (I ns n p more info)) l.endpoint in
      is_idle o.new_state.state ≡ true → o.new_state ≡ l.endpoint)
  idle_i s ns n p more info h = grind arith

  idle_rr : (s n : ℕ) (p : Bool) → (let o = outcome_of_reply (replied s (Rr n p)) l.endpoint in
      is_idle o.new_state.state ≡ true → o.new_state ≡ l.endpoint)
  idle_rr s n p h = grind arith

  opening_rr : (s n : ℕ) (p : Bool) → is_opening (taken (replied s (Rr n p)) l).endpoint.state ≡ true →
      (is_opening l.endpoint.state ≡ true) × ((taken (replied s (Rr n p)) l).is_sent ≡ l.is_sent)
  opening_rr s n p h = grind arith

  idle_at : (s : ℕ) (c : Content) → (let e = l.endpoint in
      let o = outcome_of_reply (reply_to_frame (record { sapi = s; cr = cr; content = content_as_taken c l }) e) e in
      is_idle o.new_state.state ≡ true → o.new_state ≡ e)
  idle_at s (I ns nr p more info) h = idle_i s ns (nr_as_taken nr l) p more info h
  idle_at s (Rr nr p) h = idle_rr s (nr_as_taken nr l) p h
  idle_at s (Rej nr p) h = idle_rr s (nr_as_taken nr l) p h
  idle_at s other h = grind arith

  idle_reply : (c : Content) → is_idle (outcome_of_reply (reply_with cr l c) l.endpoint).new_state.state ≡ true →
      (outcome_of_reply (reply_with cr l c) l.endpoint).new_state ≡ l.endpoint
  idle_reply c = by (refuses arrived l.endpoint)
    where
      arrived : Frame
      arrived = record { sapi = sapi_number l.endpoint.sapi; cr = cr; content = c }

      by : (b : Bool) →
          (let o = outcome_of_reply (if b then SendsDm else reply_to_frame (as_taken arrived l) l.endpoint) l.endpoint in
          is_idle o.new_state.state ≡ true → o.new_state ≡ l.endpoint)
      by true h = refl
      by false h = idle_at (sapi_number l.endpoint.sapi) c h

  -- an I frame is taken in Open alone
  i_reply : (ns nr : ℕ) (p more : Bool) (info : List ℕ) →
      ((reply_with cr l (I ns nr p more info) ≡ TakesIFrame ns (nr_as_taken nr l) p (info, more)) × (l.endpoint.state ≡ Open))
      ⊎ (reply_with cr l (I ns nr p more info) ≡ Nothing) ⊎ (reply_with cr l (I ns nr p more info) ≡ SendsDm)
  i_reply ns nr p more info = grind arith

  -- what holds of the reply to an I frame in Open, of none, and of a DM holds of the reply to an I frame
  pub over_i : (P : Reply → Type 0) (ns nr : ℕ) (p more : Bool) (info : List ℕ) →
      (l.endpoint.state ≡ Open → P (TakesIFrame ns (nr_as_taken nr l) p (info, more))) → P Nothing → P SendsDm →
      P (reply_with cr l (I ns nr p more info))
  over_i P ns nr p more info takes none dm = by_reply (i_reply ns nr p more info)
    where
      by_reply : ((reply_with cr l (I ns nr p more info) ≡ TakesIFrame ns (nr_as_taken nr l) p (info, more))
          × (l.endpoint.state ≡ Open))
          ⊎ (reply_with cr l (I ns nr p more info) ≡ Nothing) ⊎ (reply_with cr l (I ns nr p more info) ≡ SendsDm) →
          P (reply_with cr l (I ns nr p more info))
      by_reply (inl (e, o)) = subst P (sym e) (takes o)
      by_reply (inr (inl e)) = subst P (sym e) none
      by_reply (inr (inr e)) = subst P (sym e) dm

  opening_reply : (c : Content) → is_opening (taken (reply_with cr l c) l).endpoint.state ≡ true →
      (is_opening l.endpoint.state ≡ true) × ((taken (reply_with cr l c) l).is_sent ≡ l.is_sent)
  opening_reply (I ns nr p more info) = over_i (λ q. is_opening (taken q l).endpoint.state ≡ true →
      (is_opening l.endpoint.state ≡ true) × ((taken q l).is_sent ≡ l.is_sent)) ns nr p more info
      (λ o h. absurd (true_false (sym h ∙ ap is_opening (ap (λ q. q.state)
      (outcome_endpoint (outcome_of_reply (TakesIFrame ns (nr_as_taken nr l) p (info, more)) l.endpoint) l)
      ∙ i_state ns (nr_as_taken nr l) p (info, more) l.endpoint ∙ o)))) (λ h. (h, refl)) (λ h. (h, refl))
  opening_reply (Rr nr p) = opening_rr (sapi_number l.endpoint.sapi) (nr_as_taken nr l) p
  opening_reply (Rej nr p) = opening_rr (sapi_number l.endpoint.sapi) (nr_as_taken nr l) p
  opening_reply other = λ h. grind arith

-- an idle link was idle before, with the same endpoint
abbrev pub IdleFrom : LinkState → LinkState → Type 0
IdleFrom l m = is_idle m.endpoint.state ≡ true → m.endpoint ≡ l.endpoint

pub idle_frame : (o : Option Frame) (l : LinkState) → IdleFrom l (after_arriving o l)
idle_frame o l = over_endpoint o l (λ e. is_idle e.state ≡ true → e ≡ l.endpoint) (λ h. refl)
    (λ f. idle_reply f.cr l f.content)

pub opening_frame : (o : Option Frame) (l : LinkState) →
    is_opening (after_arriving o l).endpoint.state ≡ true →
    (is_opening l.endpoint.state ≡ true) × ((after_arriving o l).is_sent ≡ l.is_sent)
opening_frame o l = over_arrival o l (λ m. is_opening m.endpoint.state ≡ true →
    (is_opening l.endpoint.state ≡ true) × (m.is_sent ≡ l.is_sent)) (λ h. (h, refl)) (λ f e. opening_reply f.cr l f.content)

-- ---- calls

idle_sends : (m : List ℕ) (l : LinkState) → refusal_of (Sends m) l.endpoint ≡ None →
    is_idle (with_message m l).endpoint.state ≡ true → ⊥
idle_sends m l ok h = grind (arith, ok, h)

idle_opens : (info : List ℕ) (l : LinkState) → is_idle (with_sabm info l).endpoint.state ≡ true → ⊥
idle_opens info l h = grind (arith, h)

pub idle_calls : (w : Pair) (role : Role) (cs : List Call) (l : LinkState) → All (IsUse w role) cs →
    is_idle (after_calls cs l).endpoint.state ≡ true → after_calls cs l ≡ l
idle_calls w role = over_calls w role (λ l m. is_idle m.endpoint.state ≡ true → m ≡ l) (λ l h. refl)
    (λ l m k a b h. b h ∙ a (ap (λ x. is_idle x.endpoint.state) (sym (b h)) ∙ h))
    (λ m l ok h. absurd (idle_sends m l ok h)) (λ info l q i may h. absurd (idle_opens info l h))

-- an idle network link takes no call
pub idle_network : (w : Pair) (cs : List Call) (l : LinkState) → All (IsUse w Network) cs → is_idle l.endpoint.state ≡ true →
    after_calls cs l ≡ l
idle_network w = over_calls w Network (λ l m. is_idle l.endpoint.state ≡ true → m ≡ l) (λ l i. refl)
    (λ l m k a b i. b (ap (λ x. is_idle x.endpoint.state) (a i) ∙ i) ∙ a i)
    (λ m l ok i. absurd (grind (arith, ok, i))) (λ info l q i may h. absurd cc)

-- an opening link that has not sent its SABM was idle before the calls, or opening and had not sent it
abbrev pub UnsentFrom : Role → LinkState → Type 0
UnsentFrom role l = ((is_idle l.endpoint.state ≡ true) × (role ≡ Mobile))
    ⊎ ((is_opening l.endpoint.state ≡ true) × (l.is_sent ≡ false))

opening_sends : (m : List ℕ) (l : LinkState) → refusal_of (Sends m) l.endpoint ≡ None →
    is_opening (with_message m l).endpoint.state ≡ true → ⊥
opening_sends m l ok h = grind (arith, ok, h)

opening_calls : (w : Pair) (role : Role) (cs : List Call) (l : LinkState) → All (IsUse w role) cs →
    UnsentFrom role (after_calls cs l) →
    UnsentFrom role l
opening_calls w role = over_calls w role (λ l m. UnsentFrom role m → UnsentFrom role l) (λ l x. x) (λ l m k a b x. a (b x)) sends
    (λ info l q i may x. inl (i, q))
  where
    sends : (m : List ℕ) (l : LinkState) → refusal_of (Sends m) l.endpoint ≡ None → UnsentFrom role (with_message m l) →
        UnsentFrom role l
    sends m l ok (inl (i, x)) = absurd (idle_sends m l ok i)
    sends m l ok (inr (o, n)) = absurd (opening_sends m l ok o)

-- ---- a frame that was not sent is due

abbrev pub UnsentIsDue : LinkState → Type 0
UnsentIsDue l = l.is_sent ≡ false → l.clock ≡ 0

due_frames : (fs : List Frame) (l : LinkState) → UnsentIsDue l → UnsentIsDue (with_frames fs l)
due_frames [] l h = h
due_frames (f ∷ fs) l h = due_frames fs (with_frame f l) (one (is_awaiting_kind f.content) refl)
  where
    one : (b : Bool) → is_awaiting_kind f.content ≡ b → UnsentIsDue (with_frame f l)
    one true e s = grind (arith, e)
    one false e s = grind (arith, e, h, s)

due_arriving : (o : Option Frame) (l : LinkState) → UnsentIsDue l → UnsentIsDue (after_arriving o l)
due_arriving o l h = over_arrival o l UnsentIsDue h (λ f e. let x = outcome_of_reply (reply_with f.cr l f.content) l.endpoint in
    due_frames x.frames (record l { endpoint = x.new_state }) h)

due_calls : (w : Pair) (role : Role) (cs : List Call) (l : LinkState) → All (IsUse w role) cs → UnsentIsDue l →
    UnsentIsDue (after_calls cs l)
due_calls w role = over_calls w role (λ l m. UnsentIsDue l → UnsentIsDue m) (λ l h. h) (λ l m k a b h. b (a h))
    (λ m l ok h s. grind (arith, h, s)) (λ info l q i may h s. grind (arith, h, s))

pub due_after_slot : (held : Bool) (l : LinkState) → l.clock ≡ 0 → (after_slot held l).clock ≡ 0
due_after_slot held l h = grind (arith, h)

-- ---- between slots

pub record Settled (role : Role) (l : LinkState) : Type 0 where
  pub owes : l.answer ≡ None
  pub unsent : UnsentIsDue l
  pub opening : is_opening l.endpoint.state ≡ true → l.is_sent ≡ true

module _ (l : LinkState) where
  kept_none : l.answer ≡ None → (slot_outcome l).link.answer ≡ None
  kept_none h = grind (arith, h)

  unsent_slot : UnsentIsDue l → UnsentIsDue (slot_outcome l).link
  unsent_slot h s = grind (arith, h, s)

  opening_slot : UnsentIsDue l → (b : Bool) → l.is_sent ≡ b → is_opening (slot_outcome l).link.endpoint.state ≡ true →
      (slot_outcome l).link.is_sent ≡ true
  opening_slot h true s o = grind (arith, s, o)
  opening_slot h false s o = grind (arith, s, o, h)

  goes_first : sabm_goes_first l ≡ true → (is_opening l.endpoint.state ≡ true) × (l.is_sent ≡ false)
  goes_first h = (grind (arith, h), grind (arith, h))

same_answer : (w : Pair) (role : Role) (cs : List Call) (l : LinkState) → All (IsUse w role) cs → (after_calls cs l).answer ≡ l.answer
same_answer w role = over_calls w role (λ l m. m.answer ≡ l.answer) (λ l. refl) (λ l m k a b. b ∙ a) (λ m l ok. grind arith)
    (λ info l q i may. grind arith)

-- an idle mobile receives nothing, and the network never opens the link
pub settled : (w : Pair) (role : Role) (o : Option Frame) (t : Turn) (l : LinkState) → All (IsUse w role) t.calls →
    (is_idle l.endpoint.state ≡ true → role ≡ Mobile → o ≡ None) → Settled role l →
    Settled role (slot_outcome (before_sending o t l)).link
settled w role o t l u quiet h = record {
  owes = by_first (sabm_goes_first m) refl;
  unsent = unsent_slot m ready_due;
  opening = opening_slot m ready_due m.is_sent refl;
}
  where
    m : LinkState
    m = before_sending o t l

    ready_due : UnsentIsDue m
    ready_due s = due_after_slot t.is_held (after_calls t.calls (after_arriving o l))
        (due_calls w role t.calls (after_arriving o l) u (due_arriving o l h.unsent) s)

    nothing : o ≡ None → m.answer ≡ None
    nothing e = rw e (same_answer w role t.calls l u ∙ h.owes)

    by_from : UnsentFrom role (after_arriving o l) → m.answer ≡ None
    by_from (inl (i, r)) =
        nothing (quiet (ap (λ e. is_idle e.state) (sym (idle_frame o l i)) ∙ i) r)
    by_from (inr (op, n)) =
        let x = opening_frame o l op in absurd (cc (h.opening x.0, x.1))

    by_first : (b : Bool) → sabm_goes_first m ≡ b → (slot_outcome m).link.answer ≡ None
    by_first false e = owes_nothing m e
    by_first true e =
        let x = goes_first m e in
        kept_none m (by_from (opening_calls w role t.calls (after_arriving o l) u (inr x)))

-- ---- calls, and the whole slot

-- what a call needs of the link, and keeps
pub record Steady (l : LinkState) : Type 0 where
  pub good : Good l
  pub idle : is_idle l.endpoint.state ≡ true → issued l ≡ acked l

called : (w : Pair) (role : Role) (cs : List Call) (l : LinkState) → All (IsUse w role) cs → Steady l →
    Called l (after_calls cs l) × Steady (after_calls cs l)
called w role = over_calls w role (λ l m. Steady l → Called l m × Steady m) (λ l s. (called_nothing l s.good, s))
    (λ l m k a b s. (let x = a s in let y = b x.1 in (then_called x.0 y.0, y.1))) sends opens
  where
    sends : (m : List ℕ) (l : LinkState) → refusal_of (Sends m) l.endpoint ≡ None → Steady l →
        Called l (with_message m l) × Steady (with_message m l)
    sends m l ok s = let c = called_sends l s.good m ok in
        (c, record { good = good_next s.good c.moves; idle = λ i. absurd (idle_sends m l ok i) })

    opens : (info : List ℕ) (l : LinkState) → role ≡ Mobile → is_idle l.endpoint.state ≡ true →
        may_open w.opener w.sapi info ≡ true → Steady l → Called l (with_sabm info l) × Steady (with_sabm info l)
    opens info l q i may s = let c = called_opens l s.good info (s.idle i) in
        (c, record { good = good_next s.good c.moves; idle = λ i. absurd (idle_opens info l i) })

idle_slot : (m : LinkState) → is_idle (slot_outcome m).link.endpoint.state ≡ true → (slot_outcome m).link.endpoint ≡ m.endpoint
idle_slot m h = grind (arith, h)

pub idle_silent : (m : LinkState) → is_idle m.endpoint.state ≡ true → m.answer ≡ None → (slot_outcome m).frame ≡ None
idle_silent m h n = grind (arith, h, n)

pub idle_stays : (m : LinkState) → is_idle m.endpoint.state ≡ true → (slot_outcome m).link.endpoint ≡ m.endpoint
idle_stays m h = grind (arith, h)

module _ (w : Pair) (role : Role) (o : Option Frame) (t : Turn) (l : LinkState) (u : All (IsUse w role) t.calls) where
  -- a link that is idle after a slot was idle before it, with the same endpoint
  pub idle_ready : is_idle (before_sending o t l).endpoint.state ≡ true → (before_sending o t l).endpoint ≡ l.endpoint
  idle_ready i =
      let same : after_calls t.calls (after_arriving o l) ≡ after_arriving o l = idle_calls w role t.calls (after_arriving o l) u i in
      ap (λ m. m.endpoint) same ∙ idle_frame o l (ap (λ m. is_idle m.endpoint.state) (sym same) ∙ i)

  pub idle_from : IdleFrom l (slot_outcome (before_sending o t l)).link
  idle_from i =
      let same = idle_slot (before_sending o t l) i in
      same ∙ idle_ready (ap (λ e. is_idle e.state) (sym same) ∙ i)

  -- and it sends nothing if it owed nothing and nothing arrives
  pub idle_sends_nothing : o ≡ None → l.answer ≡ None →
      is_idle (slot_outcome (before_sending o t l)).link.endpoint.state ≡ true → (slot_outcome (before_sending o t l)).frame ≡ None
  idle_sends_nothing e n i =
      idle_silent (before_sending o t l) (ap (λ e. is_idle e.state) (sym (idle_slot (before_sending o t l) i)) ∙ i)
      (rw e (same_answer w role t.calls l u ∙ n))

-- ---- before the link opens

abbrev pub is_young : State → Bool
is_young Idle = true
is_young Opening = true
is_young other = false

-- a link that has not opened had not opened before, and its counts are the same; an open one was open, or had not opened
pub record Ages (l m : LinkState) : Type 0 where
  pub young : is_young m.endpoint.state ≡ true → (is_young l.endpoint.state ≡ true)
      × (issued m ≡ issued l) × (acked m ≡ acked l)
  pub opened : m.endpoint.state ≡ Open → (l.endpoint.state ≡ Open) ⊎ (is_young l.endpoint.state ≡ true)

ages_same : (l : LinkState) → Ages l l
ages_same l = record { young = λ h. (h, refl, refl); opened = λ h. inl h }

ages_then : (l m k : LinkState) → Ages l m → Ages m k → Ages l k
ages_then l m k a b = record {
  young = λ h. (let x = b.young h in let y = a.young x.0 in (y.0, x.1 ∙ y.1, x.2 ∙ y.2));
  opened = λ h. by_open (b.opened h);
}
  where
    by_open : (m.endpoint.state ≡ Open) ⊎ (is_young m.endpoint.state ≡ true) →
        (l.endpoint.state ≡ Open) ⊎ (is_young l.endpoint.state ≡ true)
    by_open (inl e) = a.opened e
    by_open (inr y) = inr ((a.young y).0)

abbrev StaysYoung : LinkState → EndpointState → Type 0
StaysYoung l e = is_young e.state ≡ true →
    (is_young l.endpoint.state ≡ true) × (e.sent_segments ≡ issued l) × (e.acked_segments ≡ acked l)

module _ (cr : Bool) (l : LinkState) where
  rr_reply : (nr : ℕ) (p : Bool) →
      ((reply_with cr l (Rr nr p)
      ≡ TakesRr (nr_as_taken nr l) (is_command l.endpoint (record { sapi = 0; cr = cr; content = Rr nr p }) && p))
      × (l.endpoint.state ≡ Open))
      ⊎ (reply_with cr l (Rr nr p) ≡ Nothing) ⊎ (reply_with cr l (Rr nr p) ≡ SendsDm)
  rr_reply nr p = grind arith

  -- the same of an RR
  over_rr : (P : Reply → Type 0) (nr : ℕ) (p : Bool) →
      (l.endpoint.state ≡ Open → (q : Bool) → P (TakesRr (nr_as_taken nr l) q)) →
      P Nothing → P SendsDm → P (reply_with cr l (Rr nr p))
  over_rr P nr p takes none dm = by_reply (rr_reply nr p)
    where
      by_reply : ((reply_with cr l (Rr nr p) ≡
          TakesRr (nr_as_taken nr l) (is_command l.endpoint (record { sapi = 0; cr = cr; content = Rr nr p }) && p))
          × (l.endpoint.state ≡ Open))
          ⊎ (reply_with cr l (Rr nr p) ≡ Nothing) ⊎ (reply_with cr l (Rr nr p) ≡ SendsDm) → P (reply_with cr l (Rr nr p))
      by_reply (inl (e, o)) = subst P (sym e) (takes o _)
      by_reply (inr (inl e)) = subst P (sym e) none
      by_reply (inr (inr e)) = subst P (sym e) dm

  abbrev KeepsYoung : Reply → Type 0
  KeepsYoung q = StaysYoung l (outcome_of_reply q l.endpoint).new_state

  open_stays : (e : EndpointState) → e.state ≡ Open → StaysYoung l e
  open_stays e o h = absurd cc

  young_rr : (nr : ℕ) (p : Bool) → KeepsYoung (reply_with cr l (Rr nr p))
  young_rr nr p = over_rr KeepsYoung nr p
      (λ o q. open_stays (takes_rr (nr_as_taken nr l) q l.endpoint).new_state (rr_state (nr_as_taken nr l) q l.endpoint ∙ o))
      (λ h. (h, refl, refl)) (λ h. (h, refl, refl))

  young_reply : (c : Content) → KeepsYoung (reply_with cr l c)
  young_reply (I ns nr p more info) = over_i cr l KeepsYoung ns nr p more info
      (λ o. open_stays (takes_i_frame ns (nr_as_taken nr l) p (info, more) l.endpoint).new_state
      (i_state ns (nr_as_taken nr l) p (info, more) l.endpoint ∙ o))
      (λ h. (h, refl, refl)) (λ h. (h, refl, refl))
  young_reply (Rr nr p) = young_rr nr p
  young_reply (Rej nr p) = young_rr nr p
  young_reply other = λ h. grind arith

  opened_reply : (c : Content) → (outcome_of_reply (reply_with cr l c) l.endpoint).new_state.state ≡ Open →
      (l.endpoint.state ≡ Open) ⊎ (is_young l.endpoint.state ≡ true)
  opened_reply (I ns nr p more info) h = grind arith
  opened_reply other h = grind arith

ages_frame : (o : Option Frame) (l : LinkState) → Ages l (after_arriving o l)
ages_frame o l = record {
  young = over_endpoint o l (StaysYoung l) (λ h. (h, refl, refl)) (λ f. young_reply f.cr l f.content);
  opened = over_endpoint o l (λ e. e.state ≡ Open → (l.endpoint.state ≡ Open) ⊎ (is_young l.endpoint.state ≡ true))
      (λ h. inl h) (λ f. opened_reply f.cr l f.content);
}

ages_calls : (w : Pair) (role : Role) (cs : List Call) (l : LinkState) → All (IsUse w role) cs → Ages l (after_calls cs l)
ages_calls w role = over_calls w role Ages ages_same ages_then (λ m l ok. grind (arith, ok)) (λ info l q i may. grind (arith, i))

pub slot_open : (m : LinkState) → (slot_outcome m).link.endpoint.state ≡ Open → m.endpoint.state ≡ Open
slot_open m h = grind (arith, h)

ages_slot : (m : LinkState) → Ages m (slot_outcome m).link
ages_slot m = record {
  young = λ h. (grind (arith, h), slot_issued m, slot_acked m);
  opened = λ h. inl (slot_open m h);
}

pub ages_ready : (w : Pair) (role : Role) (o : Option Frame) (t : Turn) (l : LinkState) → All (IsUse w role) t.calls →
    Ages l (before_sending o t l)
ages_ready w role o t l u =
    let a = after_arriving o l in
    let x = ages_then l a (after_calls t.calls a) (ages_frame o l) (ages_calls w role t.calls a u) in
    record { young = x.young; opened = x.opened }

pub ages : (w : Pair) (role : Role) (o : Option Frame) (t : Turn) (l : LinkState) → All (IsUse w role) t.calls →
    Ages l (slot_outcome (before_sending o t l)).link
ages w role o t l u =
    let m = before_sending o t l in
    ages_then l m (slot_outcome m).link (ages_ready w role o t l u) (ages_slot m)

-- ---- what arrives, the calls, and the slot
module _ (w : Pair) (role : Role) (o : Option Frame) (t : Turn) (l : LinkState) (g : Good l) (n : l.answer ≡ None)
    (idle : is_idle l.endpoint.state ≡ true → issued l ≡ acked l) (u : All (IsUse w role) t.calls)
  where
    came : Arrives o l (after_arriving o l)
    came = arrives o l g n

    both : Called (after_arriving o l) (after_calls t.calls (after_arriving o l)) × Steady (after_calls t.calls (after_arriving o l))
    both = called w role t.calls (after_arriving o l) u (record { good = good_next g came.moves; idle = λ i. idle_still i })
      where
        idle_still : is_idle (after_arriving o l).endpoint.state ≡ true → issued (after_arriving o l) ≡ acked (after_arriving o l)
        idle_still i =
            let same = idle_frame o l i in
            ap (λ k. k.sent_segments) same ∙ idle (ap (λ k. is_idle k.state) (sym same) ∙ i)
            ∙ sym (ap (λ k. k.acked_segments) same)

    pub ready_called : Called (after_arriving o l) (before_sending o t l)
    ready_called = then_called both.0 (passes_slot t.is_held (after_calls t.calls (after_arriving o l)) both.1.good)

    pub slotted_link : Slotted o l (slot_outcome (before_sending o t l)).link
        (slot_outcome (before_sending o t l)).frame
    slotted_link = slotted o l (after_arriving o l) (before_sending o t l) g came ready_called

    -- what the link owes before it sends
    pub ready_owed : IfSome (before_sending o t l).answer (IsAnswerOf (before_sending o t l))
    ready_owed = owed_later (after_arriving o l) (before_sending o t l) ready_called came.owed

    pub ready_moves : Moves l (before_sending o t l)
    ready_moves = then_moves came.moves ready_called.moves

pub ready_due : (w : Pair) (role : Role) (o : Option Frame) (t : Turn) (l : LinkState) → All (IsUse w role) t.calls →
    Settled role l → UnsentIsDue (before_sending o t l)
ready_due w role o t l u h s = due_after_slot t.is_held (after_calls t.calls (after_arriving o l))
    (due_calls w role t.calls (after_arriving o l) u (due_arriving o l h.unsent) s)

-- ---- the clock never shows more than T200

clock_frames : (fs : List Frame) (l : LinkState) → (with_frames fs l).clock ≤ l.clock
clock_frames [] l = omega arith
clock_frames (f ∷ fs) l = omega (arith, clock_frames fs (with_frame f l), one (is_awaiting_kind f.content) refl)
  where
    one : (b : Bool) → is_awaiting_kind f.content ≡ b → (with_frame f l).clock ≤ l.clock
    one true e = grind (arith, e)
    one false e = grind (arith, e)

clock_arriving : (o : Option Frame) (l : LinkState) → (after_arriving o l).clock ≤ l.clock
clock_arriving o l = over_arrival o l (λ m. m.clock ≤ l.clock) (omega arith)
    (λ f e. let x = outcome_of_reply (reply_with f.cr l f.content) l.endpoint in
    clock_frames x.frames (record l { endpoint = x.new_state }))

clock_calls : (w : Pair) (role : Role) (cs : List Call) (l : LinkState) → All (IsUse w role) cs → (after_calls cs l).clock ≤ l.clock
clock_calls w role = over_calls w role (λ l m. m.clock ≤ l.clock) (λ l. omega arith) (λ l m k a b. omega (arith, a, b))
    (λ m l ok. grind arith) (λ info l q i may. grind arith)

clock_passes : (held : Bool) (l : LinkState) → (after_slot held l).clock ≤ l.clock
clock_passes held l = grind arith

clock_slot : (l : LinkState) → ((slot_outcome l).link.clock ≡ l.clock) ⊎ ((slot_outcome l).link.clock ≡ l.t200)
clock_slot l = grind arith

-- the clock after a slot shows at most what it showed, or T200
pub clock_after : (w : Pair) (role : Role) (o : Option Frame) (t : Turn) (l : LinkState) → All (IsUse w role) t.calls →
    let m = before_sending o t l in
    ((slot_outcome m).link.clock ≤ l.clock) ⊎ ((slot_outcome m).link.clock ≡ m.t200)
clock_after w role o t l u = elim (clock_slot (before_sending o t l)) [
  | inl e ↦ inl (omega (
    arith,
    e,
    clock_passes t.is_held (after_calls t.calls (after_arriving o l)),
    clock_calls w role t.calls (after_arriving o l) u,
    clock_arriving o l,
  ))
  | inr e ↦ inr e
]
  where
    m : LinkState
    m = before_sending o t l
