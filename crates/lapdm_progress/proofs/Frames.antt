-- What each link sends while neither is closed, and what opens it.
use Rattle.{
  lapdm_progress.{
    proofs.{Steps.{IsIn, taken, outcome_endpoint}, Link.{with_message, with_sabm, reply_with, over_arrival, over_calls, is_rr, From}},
    proofs.Link.{may_open, nowhere, owed, first, again, slot_from},
    specs.Channels.{Pair, place, after_calls, after_arriving, IsUse},
  },
  lapdm_end.specs.lapdm_window.{
    Calls.{is_idle, sabm, Call, Sends, refusal_of, awaited_frame, t200_expiry},
    Tables.{is_command, reply_to_sabm_in_idle, answers_repeated_sabm, Reply, TakesIFrame, TakesRr, SendsUa, AcceptsSabm},
    Tables.{ConfirmsEstablishment, Nothing, outcome_of_reply},
    Ends.{sapi_number, EndpointState, Role, Mobile, Network, command_cr, response_frame, vr, first_unacked_segment, awaits_answer},
    declared.{State.{State, TheVariants.{Idle, Opening, Open, Closed}}, Sapi.{TheVariants.{Three, Zero}, Sapi}},
    segmenting.Segments.Segment,
    Rules.{nr_acknowledges_segment, takes_i_frame, takes_rr},
  },
  std.specs.{Bool.beq, Prelude.{not, ◌≡◌, ◌≢◌, ℕ, ◌≤◌, Bool, true, false, ◌⊎◌, nat_eq, List, [], ◌∷◌}},
  std.{specs.{Prelude.{Option, Some, None, All, IfSome}, Str.bytes_eq}, proofs.Common.{inl, inr, arith, refl, ap, sym, ◌∙◌}},
  std.proofs.lemmas.Slice.Eq.bytes_eq-Decides,
  lapdm_frame.specs.Content.{Content, I, Rr, Rej, Sabm, Ua, Frame},
  lapdm_link.specs.Events.other,
  lapdm_datalink.{
    specs.{Links.{LinkState, SlotOutcome, slot_outcome, first_frame, nr_as_taken}, Slots.{answer_goes, expires_in}},
    proofs.Answering.{IsSlot, expiring, is_slot, slot_keeps},
  },
}

-- the frames that a side sends: the opener its SABM, the other side the UA to it, and each side I frames, RR and REJ once it is open
abbrev pub Brings : (opener sender : Role) (young : Bool) (info : List ℕ) (cr : Bool) → Content → Type 0
Brings o sender idle info cr (Sabm p x) = (sender ≡ Mobile) × (x ≡ info) × (cr ≡ command_cr o)
Brings o sender idle info cr (Ua p x) = (sender ≡ Network) × (x ≡ info) × (cr ≡ command_cr o) × (p ≡ true) × (idle ≡ false)
Brings o sender idle info cr (I ns nr p more x) = idle ≡ false
Brings o sender idle info cr (Rr nr p) = idle ≡ false
Brings o sender idle info cr (Rej nr p) = idle ≡ false
Brings o sender idle info cr other = ⊥

abbrev pub opened : LinkState → LinkState
opened l = record l { endpoint = record l.endpoint { state = Open } }

abbrev pub accepting : (info : List ℕ) → LinkState → LinkState
accepting info l = record l {
  endpoint = record l.endpoint { state = Open; sabm_info = info };
  answer = Some (response_frame l.endpoint (Ua true info));
}

abbrev pub is_numbered_answer : Content → Bool
is_numbered_answer (Rr nr p) = true
is_numbered_answer (Rej nr p) = true
is_numbered_answer other = false

bytes_same : (info : List ℕ) → bytes_eq info info ≡ true
bytes_same info = (bytes_eq-Decides info info).1 refl

more_brings : (o sender : Role) (info : List ℕ) (cr : Bool) (c : Content) → Brings o sender true info cr c →
    Brings o sender false info cr c
more_brings o sender info cr (Sabm p x) b = b
more_brings o sender info cr (Ua p x) b = (b.0, b.1, b.2, b.3, refl)
more_brings o sender info cr (I ns nr p more x) b = refl
more_brings o sender info cr (Rr nr p) b = refl
more_brings o sender info cr (Rej nr p) b = refl
more_brings o sender info cr other b = absurd b

pub still_brings : (o sender : Role) (info : List ℕ) (cr : Bool) (c : Content) (idle later : Bool) →
    (idle ≡ false → later ≡ false) → Brings o sender idle info cr c → Brings o sender later info cr c
still_brings o sender info cr c true true h b = b
still_brings o sender info cr c true false h b = more_brings o sender info cr c b
still_brings o sender info cr c false later h b = rw (h refl) b

-- ---- the side that opens, and the other

opener_cr : (o : Role) → command_cr (place o Mobile) ≡ command_cr o
opener_cr o = grind arith

other_cr : (o : Role) → not (command_cr (place o Network)) ≡ command_cr o
other_cr o = grind arith

accepts_info : (o : Role) (s : Sapi) (info : List ℕ) → may_open o s info ≡ true →
    reply_to_sabm_in_idle s (place o Network) info ≡ AcceptsSabm info
accepts_info Mobile Zero (x ∷ xs) h = refl
accepts_info Mobile Three [] h = refl
accepts_info Network Three [] h = refl
accepts_info o s info h = absurd cc

accepts_again : (o : Role) (s : Sapi) (info : List ℕ) → may_open o s info ≡ true →
    answers_repeated_sabm s (place o Network) ≡ true
accepts_again Mobile Zero (x ∷ xs) h = refl
accepts_again Mobile Three [] h = refl
accepts_again Network Three [] h = refl
accepts_again o s info h = absurd cc

-- ---- what arrives

command_is : (l : LinkState) (cr : Bool) (s : ℕ) (c : Content) → cr ≡ not (command_cr l.endpoint.role) →
    is_command l.endpoint (record { sapi = s; cr = cr; content = c }) ≡ true
command_is l cr s c h = rw h (by (command_cr l.endpoint.role))
  where
    by : (b : Bool) → not (beq (not b) b) ≡ true
    by b = grind arith

response_is_none : (l : LinkState) (cr : Bool) (s : ℕ) (c : Content) → cr ≡ command_cr l.endpoint.role →
    is_command l.endpoint (record { sapi = s; cr = cr; content = c }) ≡ false
response_is_none l cr s c h = rw h (by (command_cr l.endpoint.role))
  where
    by : (b : Bool) → not (beq b b) ≡ false
    by b = grind arith

module _ (w : Pair) (cr : Bool) (l : LinkState) (idle : Bool) where
  ua_opens : l.endpoint.state ≡ Opening → cr ≡ command_cr l.endpoint.role →
      reply_with cr l (Ua true l.endpoint.sabm_info) ≡ ConfirmsEstablishment l.endpoint.sabm_info
  ua_opens o c = grind (
    arith,
    o,
    response_is_none l cr (sapi_number l.endpoint.sapi) (Ua true l.endpoint.sabm_info) c,
    bytes_same l.endpoint.sabm_info,
  )

  sabm_accepted : (p : Bool) (info : List ℕ) → IsIn w Network l → may_open w.opener w.sapi info ≡ true →
      l.endpoint.state ≡ Idle →
      cr ≡ command_cr w.opener → reply_with cr l (Sabm p info) ≡ AcceptsSabm info
  sabm_accepted p info i may o c =
      let k : reply_to_sabm_in_idle l.endpoint.sapi l.endpoint.role info ≡ AcceptsSabm info =
      rw (i.sapi, i.role) (accepts_info w.opener w.sapi info may) in
      let h = command_is l cr (sapi_number l.endpoint.sapi) (Sabm p info) (c ∙ sym (other_cr w.opener)
      ∙ ap (λ q. not (command_cr q)) (sym i.role)) in
      grind (arith, o, h, k)

  sabm_again : (p : Bool) → IsIn w Network l → may_open w.opener w.sapi l.endpoint.sabm_info ≡ true → l.endpoint.state ≡ Open →
      cr ≡ command_cr w.opener → reply_with cr l (Sabm p l.endpoint.sabm_info) ≡ SendsUa l.endpoint.sabm_info
  sabm_again p i may o c =
      let k : answers_repeated_sabm l.endpoint.sapi l.endpoint.role ≡ true =
      rw (i.sapi, i.role) (accepts_again w.opener w.sapi l.endpoint.sabm_info may) in
      let h = command_is l cr (sapi_number l.endpoint.sapi) (Sabm p l.endpoint.sabm_info) (c ∙ sym (other_cr w.opener)
      ∙ ap (λ q. not (command_cr q)) (sym i.role)) in
      grind (arith, o, h, k, bytes_same l.endpoint.sabm_info)

  pub opening_keeps : IsIn w Mobile l → l.endpoint.state ≡ Opening → (c : Content) →
      Brings w.opener Network idle l.endpoint.sabm_info cr c →
      (taken (reply_with cr l c) l ≡ l) ⊎ ((taken (reply_with cr l c) l ≡ opened l) × (idle ≡ false))
  opening_keeps i o (I ns nr p more x) b = inl (grind (arith, o))
  opening_keeps i o (Rr nr p) b = inl (grind (arith, o))
  opening_keeps i o (Rej nr p) b = inl (grind (arith, o))
  opening_keeps i o (Sabm p x) b = absurd cc
  opening_keeps i o (Ua p x) b = inr (
    ap (λ y. taken (reply_with cr l y) l) (λ j. Ua (b.3 j) (b.1 j))
        ∙ ap (λ q. taken q l) (ua_opens o (b.2 ∙ sym (opener_cr w.opener) ∙ ap command_cr (sym i.role))),
    b.4,
  )
  opening_keeps i o other b = absurd b

  pub idle_accepts : IsIn w Network l → l.endpoint.state ≡ Idle → (info : List ℕ) → may_open w.opener w.sapi info ≡ true →
      (c : Content) → Brings w.opener Mobile idle info cr c → idle ≡ true → taken (reply_with cr l c) l ≡ accepting info l
  idle_accepts i o info may (Sabm p x) b y =
      ap (λ y. taken (reply_with cr l (Sabm p y)) l) b.1 ∙ ap (λ q. taken q l) (sabm_accepted p info i may o b.2)
  idle_accepts i o info may (Ua p x) b y = absurd cc
  idle_accepts i o info may (I ns nr p more x) b y = absurd cc
  idle_accepts i o info may (Rr nr p) b y = absurd cc
  idle_accepts i o info may (Rej nr p) b y = absurd cc
  idle_accepts i o info may other b y = absurd b

-- ---- an open link

-- an open link after a frame: it is open, and owes nothing, or an RR or REJ, or the UA to a SABM
pub record StaysOpen (w : Pair) (p : Role) (l m : LinkState) : Type 0 where
  pub state : m.endpoint.state ≡ Open
  pub info : m.endpoint.sabm_info ≡ l.endpoint.sabm_info
  pub owes : IfSome m.answer (λ f. Brings w.opener p false l.endpoint.sabm_info f.cr f.content)

stays_as : (w : Pair) (p : Role) (l m : LinkState) → m ≡ l → l.endpoint.state ≡ Open → l.answer ≡ None → StaysOpen w p l m
stays_as w p l m e o n = rw e (record { state = o; info = refl; owes = rw n tt })

other_place : (role : Role) → other role ≡ Mobile → role ≡ Network
other_place role h = grind (arith, h)

module _ (w : Pair) (role : Role) (l : LinkState) (o : l.endpoint.state ≡ Open) (none : l.answer ≡ None) where
  numbered_brings : (c : Content) (cr : Bool) → is_numbered_answer c ≡ true →
      Brings w.opener role false l.endpoint.sabm_info cr c
  numbered_brings (Rr nr p) cr h = refl
  numbered_brings (Rej nr p) cr h = refl
  numbered_brings (I ns nr p more x) cr h = refl
  numbered_brings other cr h = absurd cc

  owes_numbered : (m : LinkState) → ((f : Frame) → m.answer ≡ Some f → is_numbered_answer f.content ≡ true) →
      IfSome m.answer (λ f. Brings w.opener role false l.endpoint.sabm_info f.cr f.content)
  owes_numbered m h = elim m.answer as (λ a. (m.answer ≡ a → IfSome a (λ f.
      Brings w.opener role false l.endpoint.sabm_info f.cr f.content))) [
        | None ↦ λ e. tt
        | Some f ↦ λ e. numbered_brings f.content f.cr (h f e)
      ] refl

  i_answer : (ns nr : ℕ) (p : Bool) (s : Segment) (f : Frame) → (taken (TakesIFrame ns nr p s) l).answer ≡ Some f →
      is_numbered_answer f.content ≡ true
  i_answer ns nr p s f e = by_match (nat_eq ns (vr l.endpoint)) refl p refl (nr_acknowledges_segment nr l.endpoint) refl
      (first_unacked_segment l.endpoint).1 refl
    where
      by_match : (q : Bool) → nat_eq ns (vr l.endpoint) ≡ q → (t : Bool) → p ≡ t → (a : Bool) →
          nr_acknowledges_segment nr l.endpoint ≡ a → (more : Bool) → (first_unacked_segment l.endpoint).1 ≡ more →
          is_numbered_answer f.content ≡ true
      by_match true q true t true a true k = grind (arith, none, e, q, t, a, k)
      by_match true q true t true a false k = grind (arith, none, e, q, t, a, k)
      by_match true q true t false a true k = grind (arith, none, e, q, t, a, k)
      by_match true q true t false a false k = grind (arith, none, e, q, t, a, k)
      by_match true q false t true a true k = grind (arith, none, e, q, t, a, k)
      by_match true q false t true a false k = grind (arith, none, e, q, t, a, k)
      by_match true q false t false a true k = grind (arith, none, e, q, t, a, k)
      by_match true q false t false a false k = grind (arith, none, e, q, t, a, k)
      by_match false q true t true a true k = grind (arith, none, e, q, t, a, k)
      by_match false q true t true a false k = grind (arith, none, e, q, t, a, k)
      by_match false q true t false a true k = grind (arith, none, e, q, t, a, k)
      by_match false q true t false a false k = grind (arith, none, e, q, t, a, k)
      by_match false q false t true a true k = grind (arith, none, e, q, t, a, k)
      by_match false q false t true a false k = grind (arith, none, e, q, t, a, k)
      by_match false q false t false a true k = grind (arith, none, e, q, t, a, k)
      by_match false q false t false a false k = grind (arith, none, e, q, t, a, k)

  rr_answer : (nr : ℕ) (p : Bool) (f : Frame) → (taken (TakesRr nr p) l).answer ≡ Some f → is_numbered_answer f.content ≡ true
  rr_answer nr p f e = grind (arith, none, e)

  -- what a rule of the window keeps
  record Keeps (e : EndpointState) : Type 0 where
    state : e.state ≡ Open
    info : e.sabm_info ≡ l.endpoint.sabm_info

  i_keeps : (ns nr : ℕ) (p : Bool) (s : Segment) → Keeps (takes_i_frame ns nr p s l.endpoint).new_state
  i_keeps ns nr p s = grind (arith, o)

  rr_keeps : (nr : ℕ) (p : Bool) → Keeps (takes_rr nr p l.endpoint).new_state
  rr_keeps nr p = grind (arith, o)

  open_by : (r : Reply) → Keeps (outcome_of_reply r l.endpoint).new_state →
      ((f : Frame) → (taken r l).answer ≡ Some f → is_numbered_answer f.content ≡ true) → StaysOpen w role l (taken r l)
  open_by r k answers =
      let same = outcome_endpoint (outcome_of_reply r l.endpoint) l in
      record {
        state = ap (λ e. e.state) same ∙ k.state;
        info = ap (λ e. e.sabm_info) same ∙ k.info;
        owes = owes_numbered (taken r l) answers;
      }

  open_i : (ns nr : ℕ) (p : Bool) (s : Segment) → StaysOpen w role l (taken (TakesIFrame ns nr p s) l)
  open_i ns nr p s = open_by (TakesIFrame ns nr p s) (i_keeps ns nr p s) (i_answer ns nr p s)

  open_rr : (nr : ℕ) (p : Bool) → StaysOpen w role l (taken (TakesRr nr p) l)
  open_rr nr p = open_by (TakesRr nr p) (rr_keeps nr p) (rr_answer nr p)

  open_ua : role ≡ Network → IsIn w role l → StaysOpen w role l (taken (SendsUa l.endpoint.sabm_info) l)
  open_ua ro i = record {
    state = o;
    info = refl;
    owes = (
      ro,
      refl,
      ap (λ q. not (command_cr q)) i.role ∙ ap (λ q. not (command_cr (place w.opener q))) ro
          ∙ other_cr w.opener,
      refl,
      refl,
    );
  }

  module _ (cr : Bool) (i : IsIn w role l) (may : may_open w.opener w.sapi l.endpoint.sabm_info ≡ true) where
    i_case : (ns nr : ℕ) (p more : Bool) (x : List ℕ) →
        (reply_with cr l (I ns nr p more x) ≡ TakesIFrame ns (nr_as_taken nr l) p (x, more))
        ⊎ (reply_with cr l (I ns nr p more x) ≡ Nothing)
    i_case ns nr p more x = grind (arith, o)

    open_nothing : (r : Reply) → r ≡ Nothing → StaysOpen w role l (taken r l)
    open_nothing r e = stays_as w role l (taken r l) (ap (λ q. taken q l) e) o none

    pub open_keeps : (idle : Bool) (c : Content) → Brings w.opener (other role) idle l.endpoint.sabm_info cr c →
        StaysOpen w role l (taken (reply_with cr l c) l)
    open_keeps idle (I ns nr p more x) b = elim (i_case ns nr p more x) [
      | inl e ↦ rw e (open_i ns (nr_as_taken nr l) p (x, more))
      | inr e ↦ open_nothing (reply_with cr l (I ns nr p more x)) e
    ]
    open_keeps idle (Rr nr p) b =
        rw ((is_rr cr l nr p o).1) (open_rr (nr_as_taken nr l) _)
    open_keeps idle (Rej nr p) b =
        rw ((is_rr cr l nr p o).1) (open_rr (nr_as_taken nr l) _)
    open_keeps idle (Sabm p x) b =
        let n = other_place role b.0 in
        rw (b.1, sabm_again w cr l idle p (rw n at i) may o b.2) (open_ua n i)
    open_keeps idle (Ua p x) b = open_nothing (reply_with cr l (Ua p x)) (grind (arith, o))
    open_keeps idle other b = absurd b

-- ---- calls

pub data CalledTo (w : Pair) (role : Role) (l m : LinkState) : Type 0 where
  nothing : m ≡ l → CalledTo w role l m
  opens : role ≡ Mobile → l.endpoint.state ≡ Idle → m.endpoint.state ≡ Opening → may_open w.opener w.sapi m.endpoint.sabm_info
      ≡ true →
      m.is_sent ≡ false → m.clock ≡ 0 → CalledTo w role l m
  sends : l.endpoint.state ≡ Open → m.endpoint.state ≡ Open → m.endpoint.sabm_info ≡ l.endpoint.sabm_info → CalledTo w role l m

idle_is : (s : State) → is_idle s ≡ true → s ≡ Idle
idle_is s h = grind (arith, h)

module _ (w : Pair) (role : Role) (l : LinkState) where
  opens_to : (info : List ℕ) → role ≡ Mobile → is_idle l.endpoint.state ≡ true → may_open w.opener w.sapi info ≡ true →
      CalledTo w role l (with_sabm info l)
  opens_to info q i may = opens q (idle_is l.endpoint.state i) refl may refl refl

  sends_to : (m : List ℕ) → refusal_of (Sends m) l.endpoint ≡ None → CalledTo w role l (with_message m l)
  sends_to m ok = sends (grind (arith, ok)) (grind (arith, ok)) (grind (arith, ok))

then_to : (w : Pair) (role : Role) (l m k : LinkState) → CalledTo w role l m → CalledTo w role m k → CalledTo w role l k
then_to w role l m k (nothing e) y = rw e at y
then_to w role l m k x (nothing e) = rw (sym e) at x
then_to w role l m k (opens a b c d f g) (opens a' b' c' d' f' g') = absurd cc
then_to w role l m k (opens a b c d f g) (sends b' c' d') = absurd cc
then_to w role l m k (sends a b c) (opens a' b' c' d' f' g') = absurd cc
then_to w role l m k (sends a b c) (sends a' b' c') = sends a b' (c' ∙ c)

pub calls_to : (w : Pair) (role : Role) (cs : List Call) (l : LinkState) → All (IsUse w role) cs → CalledTo w role l (after_calls cs l)
calls_to w role = over_calls w role (CalledTo w role) (λ l. nothing refl) (then_to w role) (λ m l. sends_to w role l m)
    (λ info l. opens_to w role l info)

-- ---- the slot

again_case : (e : EndpointState) → (first_frame (t200_expiry e).frames ≡ Some (awaited_frame true e.state e))
    ⊎ (first_frame (t200_expiry e).frames ≡ None)
again_case e = grind arith

expiry_state : (e : EndpointState) → ((t200_expiry e).new_state.state ≡ e.state) ⊎ ((t200_expiry e).new_state.state ≡ Closed)
expiry_state e = grind arith

module _ (m : LinkState) where
  pub slot_info : (slot_outcome m).link.endpoint.sabm_info ≡ m.endpoint.sabm_info
  slot_info = slot_keeps m (λ e. e.sabm_info) (λ e. grind arith)

  pub slot_state : ((slot_outcome m).link.endpoint.state ≡ m.endpoint.state) ⊎ ((slot_outcome m).link.endpoint.state ≡ Closed)
  slot_state = by_slot (slot_outcome m) (is_slot m)
    where
      by_slot : (o : SlotOutcome) → IsSlot m o → (o.link.endpoint.state ≡ m.endpoint.state) ⊎ (o.link.endpoint.state ≡ Closed)
      by_slot o (expiring awaits sent due over) = expiry_state m.endpoint
      by_slot o other = inl refl

  module _ (w : Pair) (role : Role) (ro : IsIn w role m) (idle : Bool) where
    abbrev pub SentBy : Option Frame → Type 0
    SentBy x = IfSome x (λ f. Brings w.opener role idle m.endpoint.sabm_info f.cr f.content)

    opening_made : m.endpoint.state ≡ Opening → role ≡ Mobile → (p : Bool) →
        SentBy (Some (awaited_frame p m.endpoint.state m.endpoint))
    opening_made o e p = rw o (e, refl, ap command_cr (ro.role ∙ ap (place w.opener) e) ∙ opener_cr w.opener)

    open_made : m.endpoint.state ≡ Open → idle ≡ false → (p : Bool) → SentBy (Some (awaited_frame p m.endpoint.state m.endpoint))
    open_made o e p = rw o e

    again_made : SentBy (Some (awaited_frame true m.endpoint.state m.endpoint)) → SentBy (first_frame (t200_expiry m.endpoint).frames)
    again_made h = elim (again_case m.endpoint) [
      | inl e ↦ rw e h
      | inr e ↦ rw e tt
    ]

    made_brings : IfSome m.answer (λ f. Brings w.opener role idle m.endpoint.sabm_info f.cr f.content) →
        ((p : Bool) → SentBy (Some (awaited_frame p m.endpoint.state m.endpoint))) → SentBy (slot_outcome m).frame
    made_brings owes made = by_from (slot_from m)
      where
        by_from : From m (slot_outcome m) → SentBy (slot_outcome m).frame
        by_from (nowhere e) = rw e tt
        by_from (owed e) = rw e owes
        by_from (first e due new sent) = rw e (made false)
        by_from (again e due old sent over) = rw e (again_made (made true))

    pub opening_brings : m.endpoint.state ≡ Opening → role ≡ Mobile → m.answer ≡ None → SentBy (slot_outcome m).frame
    opening_brings o e none = made_brings (rw none tt) (opening_made o e)

    pub open_brings : m.endpoint.state ≡ Open → idle ≡ false →
        IfSome m.answer (λ f. Brings w.opener role idle m.endpoint.sabm_info f.cr f.content) → SentBy (slot_outcome m).frame
    open_brings o e owes = made_brings owes (open_made o e)

-- ---- what arrives at a link

abbrev pub Arrived : (pair : Pair) (role : Role) (idle : Bool) (info : List ℕ) (arrived : Option Frame) → Type 0
Arrived w role idle info o =
    IfSome o (λ f. (f.sapi ≡ sapi_number w.sapi) × Brings w.opener (other role) idle info f.cr f.content)

-- what holds of the link as it is, and after each frame that it takes on its SAPI, holds after what arrives
over_arrived : (w : Pair) (role : Role) (idle : Bool) (info : List ℕ) (o : Option Frame) (l : LinkState) → IsIn w role l →
    Arrived w role idle info o → (P : LinkState → Type 0) → P l →
    ((cr : Bool) (c : Content) → o ≢ None → Brings w.opener (other role) idle info cr c → P (taken (reply_with cr l c) l)) →
    P (after_arriving o l)
over_arrived w role idle info o l i b P same takes = over_arrival o l P same (λ f e. (
    let x : Arrived w role idle info (Some f) = rw e at b in takes f.cr f.content (λ h. cc) x.1))

module _ (w : Pair) (l : LinkState) (idle : Bool) where
  pub opening_arrives : IsIn w Mobile l → l.endpoint.state ≡ Opening → (o : Option Frame) →
      Arrived w Mobile idle l.endpoint.sabm_info o →
      (after_arriving o l ≡ l) ⊎ ((after_arriving o l ≡ opened l) × (idle ≡ false))
  opening_arrives i op o b = over_arrived w Mobile idle l.endpoint.sabm_info o l i b
      (λ m. (m ≡ l) ⊎ ((m ≡ opened l) × (idle ≡ false))) (inl refl) (λ cr c n x. opening_keeps w cr l idle i op c x)

  pub idle_arrives : IsIn w Network l → l.endpoint.state ≡ Idle → idle ≡ true → (info : List ℕ) →
      may_open w.opener w.sapi info ≡ true → (o : Option Frame) → Arrived w Network idle info o →
      (after_arriving o l ≡ l) ⊎ ((after_arriving o l ≡ accepting info l) × (o ≢ None))
  idle_arrives i op y info may o b = over_arrived w Network idle info o l i b
      (λ m. (m ≡ l) ⊎ ((m ≡ accepting info l) × (o ≢ None))) (inl refl)
      (λ cr c n x. inr (idle_accepts w cr l idle i op info may c x y, n))

  pub open_arrives : l.endpoint.state ≡ Open → l.answer ≡ None → (role : Role) → IsIn w role l →
      may_open w.opener w.sapi l.endpoint.sabm_info ≡ true → (o : Option Frame) →
      Arrived w role idle l.endpoint.sabm_info o → StaysOpen w role l (after_arriving o l)
  open_arrives op none role i may o b = over_arrived w role idle l.endpoint.sabm_info o l i b
      (StaysOpen w role l) (stays_as w role l l refl op none) (λ cr c n x. open_keeps w role l op none cr i may idle c x)

-- ---- the SABM and its UA

abbrev pub sabm_of : Pair → List ℕ → Frame
sabm_of w info = record { sapi = sapi_number w.sapi; cr = command_cr w.opener; content = Sabm true info }

abbrev pub ua_of : Pair → List ℕ → Frame
ua_of w info = record { sapi = sapi_number w.sapi; cr = command_cr w.opener; content = Ua true info }

module _ (w : Pair) (l : LinkState) where
  pub response_is : IsIn w Network l → (info : List ℕ) → response_frame l.endpoint (Ua true info) ≡ ua_of w info
  response_is i info = λ j. record {
    sapi = sapi_number (i.sapi j);
    cr = (ap (λ q. not (command_cr q)) i.role ∙ other_cr w.opener) j;
    content = Ua true info;
  }

  pub sabm_at_idle : IsIn w Network l → l.endpoint.state ≡ Idle → (info : List ℕ) → may_open w.opener w.sapi info ≡ true →
      (after_arriving (Some (sabm_of w info)) l).answer ≡ Some (ua_of w info)
  sabm_at_idle i o info may =
      ap (λ m. m.answer) (ap (λ q. taken q l) (sabm_accepted w (command_cr w.opener) l true true info i may o refl))
      ∙ ap Some (response_is i info)

  pub sabm_at_open : IsIn w Network l → l.endpoint.state ≡ Open → (info : List ℕ) → may_open w.opener w.sapi info ≡ true →
      l.endpoint.sabm_info ≡ info → (after_arriving (Some (sabm_of w info)) l).answer ≡ Some (ua_of w info)
  sabm_at_open i o info may same =
      ap (λ x. (after_arriving (Some (sabm_of w x)) l).answer) (sym same)
      ∙ ap (λ m. m.answer) (ap (λ q. taken q l) (sabm_again w (command_cr w.opener) l true true i (rw (← same) at may) o refl))
      ∙ ap Some (response_is i l.endpoint.sabm_info) ∙ ap (λ x. Some (ua_of w x)) same

  ua_is : l.is_sent ≡ true → (info : List ℕ) → after_arriving (Some (ua_of w info)) l
      ≡ taken (reply_with (command_cr w.opener) l (Ua true info)) l
  ua_is s info = grind (arith, s)

  pub ua_arrives : IsIn w Mobile l → l.endpoint.state ≡ Opening → l.is_sent ≡ true → (info : List ℕ) →
      l.endpoint.sabm_info ≡ info → after_arriving (Some (ua_of w info)) l ≡ opened l
  ua_arrives i o s info same =
      ap (λ x. after_arriving (Some (ua_of w x)) l) (sym same) ∙ ua_is s l.endpoint.sabm_info
      ∙ ap (λ q. taken q l) (ua_opens w (command_cr w.opener) l true o (sym (opener_cr w.opener) ∙ ap command_cr (sym i.role)))

module _ (m : LinkState) where
  pub ua_goes : (w : Pair) (info : List ℕ) → m.endpoint.state ≡ Open → m.answer ≡ Some (ua_of w info) →
      ((slot_outcome m).frame ≡ Some (ua_of w info)) × (answer_goes m.answer m ≡ true)
  ua_goes w info o a = (grind (arith, o, a), grind (arith, o, a))

  pub sabm_is : (w : Pair) → IsIn w Mobile m → sabm m.endpoint ≡ sabm_of w m.endpoint.sabm_info
  sabm_is w i = λ j. record {
    sapi = sapi_number (i.sapi j);
    cr = (ap command_cr i.role ∙ opener_cr w.opener) j;
    content = Sabm true m.endpoint.sabm_info;
  }

  module _ (o : m.endpoint.state ≡ Opening) (none : m.answer ≡ None) where
    first_sabm : m.is_sent ≡ false → m.clock ≡ 0 → (slot_outcome m).frame ≡ Some (sabm m.endpoint)
    first_sabm s k = grind (arith, o, none, s, k)

    again_sabm : m.is_sent ≡ true → m.clock ≡ 0 → (slot_outcome m).link.endpoint.state ≡ Opening →
        (slot_outcome m).frame ≡ Some (sabm m.endpoint)
    again_sabm s k q = grind (arith, o, none, s, k, q)

    pub opening_first : (w : Pair) → IsIn w Mobile m → m.is_sent ≡ false → m.clock ≡ 0 →
        ((slot_outcome m).frame ≡ Some (sabm_of w m.endpoint.sabm_info)) × ((slot_outcome m).link.clock ≡ m.t200)
        × (expires_in m ≡ false)
    opening_first w i s k = (first_sabm s k ∙ ap Some (sabm_is w i), grind (arith, o, none, s, k), grind (arith, s))

    pub opening_again : (w : Pair) → IsIn w Mobile m → m.is_sent ≡ true → m.clock ≡ 0 →
        (slot_outcome m).link.endpoint.state ≡ Opening →
        ((slot_outcome m).frame ≡ Some (sabm_of w m.endpoint.sabm_info)) × ((slot_outcome m).link.clock ≡ m.t200)
    opening_again w i s k q = (again_sabm s k q ∙ ap Some (sabm_is w i), grind (arith, o, none, s, k))

    pub opening_expires : m.is_sent ≡ true → m.clock ≡ 0 → expires_in m ≡ true
    opening_expires s k = grind (arith, o, none, s, k)

    pub opening_silent : 1 ≤ m.clock → (slot_outcome m).frame ≡ None
    opening_silent k = grind (arith, o, none, k)

    pub opening_counts : 1 ≤ m.clock → ((slot_outcome m).link.clock ≡ m.clock) × (expires_in m ≡ false)
    opening_counts k = (grind (arith, o, none, k), grind (arith, o, none, k))

  pub opening_awaits : m.endpoint.state ≡ Opening → awaits_answer m.endpoint ≡ true
  opening_awaits o = grind (arith, o)
