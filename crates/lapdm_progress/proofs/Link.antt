-- What a link does with what arrives, with the calls of layer 3, and in its slot: its counts, and what its frames say.
use Rattle.{
  lapdm_end.specs.lapdm_window.{
    declared.{Sapi.{Sapi, TheVariants.{Three, Zero}}, State.TheVariants.Open, Refused.Refused},
    Calls.{OpensWithoutInfo, call_outcome, sends_sabm, Call, Opens, Sends, refusal_of, awaited_frame, t200_expiry, is_idle},
    Ends.{sapi_number, EndpointState, Role, Mobile, vr, vs, va, command_cr},
    Tables.{Reply, TakesIFrame, TakesRr, outcome_of_reply, is_command},
  },
  lapdm_datalink.{
    specs.{Links.{with_outcome, LinkState, SlotOutcome, slot_outcome, ignores, is_due, first_frame, is_awaiting_kind}, Slots.expires_in},
    specs.Links.{link_reply, nr_as_taken},
    specs.Slots.{nr_in, nr_of},
    proofs.Answering.{IsSlot, sabm_first, idles, answering, repeating, expiring, is_slot, slot_keeps},
  },
  lapdm_progress.{
    specs.Channels.{Pair, after_call, after_slot, after_arriving, after_calls, IsUse},
    proofs.Steps.{acked, issued, accepted, aired, IsAnswerOf, Good, Moves, Takes, nr_taken, ns_taken, is_rej, taken, takes},
    proofs.Steps.outcome_endpoint,
  },
  std.proofs.{lemmas.{Bool.cases_Bool, List.Elements.{All-head, All-tail}}, Common.{inl, inr, arith, refl, ap, sym, ◌∙◌, subst}},
  std.specs.Prelude.{◌≡◌, ℕ, ◌+◌, ◌%◌, ◌≤◌, Bool, true, false, not, ◌&&◌, ◌⊎◌, List, Option, Some, None},
  std.specs.Prelude.{IfSome, ◌≢◌, [], ◌∷◌, All},
  lapdm_frame.specs.Content.{Content, I, Rr, Rej, Frame},
}

-- the N(S) and the P bit of an I frame
abbrev pub ns_in : Content → Option ℕ
ns_in (I ns nr p more info) = Some ns
ns_in other = None

abbrev pub ns_of : Option Frame → Option ℕ
ns_of None = None
ns_of (Some f) = ns_in f.content

abbrev pub poll_in : Content → Bool
poll_in (I ns nr p more info) = p
poll_in other = false

-- ---- what arrives

module _ (cr : Bool) (l : LinkState) where
  abbrev pub reply_with : Content → Reply
  reply_with c = link_reply (record { sapi = sapi_number l.endpoint.sapi; cr = cr; content = c }) l

  pub not_rej : (c : Content) → is_rej (reply_with c) ≡ false
  not_rej (I ns nr p more info) = grind arith
  not_rej other = grind arith

  is_vs : (nr : ℕ) → nr_as_taken nr l ≡ vs l.endpoint → nr ≡ vs l.endpoint
  is_vs nr h = grind (arith, h)

  nr_reply : (c : Content) → nr_taken (reply_with c) ≡ Some (vs l.endpoint) → nr_in c ≡ Some (vs l.endpoint)
  nr_reply (I ns nr p more info) h = ap Some (is_vs nr (grind (arith, h)))
  nr_reply (Rr nr p) h = ap Some (is_vs nr (grind (arith, h)))
  nr_reply (Rej nr p) h = ap Some (is_vs nr (grind (arith, h)))
  nr_reply other h = grind arith

  ns_reply : (c : Content) (k : ℕ) → ns_taken (reply_with c) ≡ Some k → ns_in c ≡ Some k
  ns_reply (I ns nr p more info) k h = grind arith
  ns_reply other k h = grind arith

  pub is_i : (ns nr : ℕ) (p more : Bool) (info : List ℕ) → l.endpoint.state ≡ Open →
      cr ≢ command_cr l.endpoint.role → reply_with (I ns nr p more info) ≡ TakesIFrame ns (nr_as_taken nr l) p (info, more)
  is_i ns nr p more info c d = grind (arith, c, d)

  pub is_rr : (nr : ℕ) (p : Bool) → l.endpoint.state ≡ Open →
      (q : Bool) × (reply_with (Rr nr p) ≡ TakesRr (nr_as_taken nr l) q)
  is_rr nr p c =
      (is_command l.endpoint (record { sapi = sapi_number l.endpoint.sapi; cr = cr; content = Rr nr p }) && p, grind (arith, c))

pub frame_taken : (f : Frame) (l : LinkState) →
    (after_arriving (Some f) l ≡ l) ⊎ (after_arriving (Some f) l ≡ taken (reply_with f.cr l f.content) l)
frame_taken f l = elim (cases_Bool (ignores f l)) [
  | inl h ↦ inl (rw h refl)
  | inr h ↦ inr (rw h refl)
]

-- what holds of the link as it is and after each frame that it takes holds after what arrives
module _ (o : Option Frame) (l : LinkState) where
  pub over_arrival : (P : LinkState → Type 0) → P l →
      ((f : Frame) → o ≡ Some f → P (taken (reply_with f.cr l f.content) l)) → P (after_arriving o l)
  over_arrival P same takes = by_frame o refl
    where
      by_frame : (x : Option Frame) → o ≡ x → P (after_arriving x l)
      by_frame None e = same
      by_frame (Some f) e = elim (frame_taken f l) [
        | inl k ↦ subst P (sym k) same
        | inr k ↦ subst P (sym k) (takes f e)
      ]

  -- the same of its endpoint
  pub over_endpoint : (P : EndpointState → Type 0) → P l.endpoint →
      ((f : Frame) → P (outcome_of_reply (reply_with f.cr l f.content) l.endpoint).new_state) → P (after_arriving o l).endpoint
  over_endpoint P same takes = over_arrival (λ m. P m.endpoint) same
      (λ f e. subst P (sym (outcome_endpoint (outcome_of_reply (reply_with f.cr l f.content) l.endpoint) l)) (takes f))

-- the link after layer 3 sends a message, and after it opens the link with this information
abbrev pub with_message : List ℕ → LinkState → LinkState
with_message m l = with_outcome (call_outcome (Sends m) l.endpoint) l

abbrev pub with_sabm : (info : List ℕ) → LinkState → LinkState
with_sabm info l = with_outcome (sends_sabm info l.endpoint) l

-- a side may open the link with this information: on SAPI 0 a mobile with one octet at least, on SAPI 3 either side without
abbrev pub may_open : (role : Role) (sapi : Sapi) (info : List ℕ) → Bool
may_open Mobile Zero (x ∷ xs) = true
may_open role Three [] = true
may_open role sapi info = false

some_info : (info : List ℕ) (e : EndpointState) → refusal_of (Opens info) e ≡ None → may_open Mobile Zero info ≡ true
some_info [] e h = absurd (grind (arith, h))
some_info (x ∷ xs) e h = refl

no_info : (role : Role) → may_open role Three [] ≡ true
no_info role = grind arith

opens_idle : (info : List ℕ) (e : EndpointState) → refusal_of (Opens info) e ≡ None → is_idle e.state ≡ true
opens_idle info e h = grind (arith, h)

bare_idle : (e : EndpointState) → refusal_of OpensWithoutInfo e ≡ None → is_idle e.state ≡ true
bare_idle e h = grind (arith, h)

-- what holds of no call, of a call that is not refused, and of two steps together, holds of all calls
module _ (w : Pair) (role : Role) (P : LinkState → LinkState → Type 0) (same : (l : LinkState) → P l l)
    (next : (l m k : LinkState) → P l m → P m k → P l k)
    (sends : (m : List ℕ) (l : LinkState) → refusal_of (Sends m) l.endpoint ≡ None → P l (with_message m l))
    (opens : (info : List ℕ) (l : LinkState) → role ≡ Mobile → is_idle l.endpoint.state ≡ true →
    may_open w.opener w.sapi info ≡ true → P l (with_sabm info l))
  where
    over_call : (c : Call) (l : LinkState) → IsUse w role c → (r : Option Refused) → refusal_of c l.endpoint ≡ r →
        P l (after_call r c l)
    over_call c l u (Some why) e = same l
    over_call (Sends m) l u None e = sends m l e
    over_call (Opens info) l u None e = opens info l u.0 (opens_idle info l.endpoint e) (rw (u.1, u.2) (some_info info l.endpoint e))
    over_call OpensWithoutInfo l u None e = opens [] l u.0 (bare_idle l.endpoint e) (rw u.1 (no_info w.opener))
    over_call other l u None e = absurd u

    pub over_calls : (cs : List Call) (l : LinkState) → All (IsUse w role) cs → P l (after_calls cs l)
    over_calls [] l u = same l
    over_calls (c ∷ cs) l u =
        let m = after_call (refusal_of c l.endpoint) c l in
        next l m (after_calls cs m) (over_call c l (All-head (IsUse w role) c cs u) _ refl)
        (over_calls cs m (All-tail (IsUse w role) c cs u))

pub record Arrives (o : Option Frame) (l m : LinkState) : Type 0 where
  pub moves : Moves l m
  pub by_nr : (acked m ≡ acked l)
      ⊎ ((nr_of o ≡ Some (vs l.endpoint)) × (issued l ≡ acked l + 1) × (acked m ≡ issued l))
  pub by_ns : (accepted m ≡ accepted l) ⊎ ((ns_of o ≡ Some (vr l.endpoint)) × (accepted m ≡ accepted l + 1))
  pub owed : IfSome m.answer (IsAnswerOf m)

pub good_next : {l m : LinkState} → Good l → Moves l m → Good m
good_next g x = record { low = x.low; window = x.window }

stays : (l : LinkState) → Good l → Moves l l
stays l g = record {
  role = refl;
  sapi = refl;
  t200 = refl;
  acked_up = omega arith;
  accepted_up = omega arith;
  aired_up = omega arith;
  low = g.low;
  window = g.window;
}

arrives_same : (o : Option Frame) (l : LinkState) → Good l → l.answer ≡ None → Arrives o l l
arrives_same o l g n = record { moves = stays l g; by_nr = inl refl; by_ns = inl refl; owed = rw n tt }

of_reply : (f : Frame) (l m : LinkState) → Takes (reply_with f.cr l f.content) l m → Arrives (Some f) l m
of_reply f l m t = record {
  moves = t.moves;
  by_nr = elim t.by_nr [
    | inl e ↦ inl e
    | inr x ↦ inr (nr_reply f.cr l f.content x.0, x.1, x.2)
  ];
  by_ns = elim t.by_ns [
    | inl e ↦ inl e
    | inr x ↦ inr (ns_reply f.cr l f.content _ x.0, x.1)
  ];
  owed = t.owed;
}

pub arrives : (o : Option Frame) (l : LinkState) → Good l → l.answer ≡ None → Arrives o l (after_arriving o l)
arrives o l g n = over_arrival o l (Arrives o l) (arrives_same o l g n) (λ f e. rw e
    (of_reply f l _ (takes l g n (reply_with f.cr l f.content) (not_rej f.cr l f.content))))

-- ---- calls of layer 3

pub record Called (l m : LinkState) : Type 0 where
  pub moves : Moves l m
  pub acked_same : acked m ≡ acked l
  pub accepted_same : accepted m ≡ accepted l
  pub answer_same : m.answer ≡ l.answer

pub then_moves : {l m k : LinkState} → Moves l m → Moves m k → Moves l k
then_moves a b = record {
  role = b.role ∙ a.role;
  sapi = b.sapi ∙ a.sapi;
  t200 = b.t200 ∙ a.t200;
  acked_up = omega (arith, a.acked_up, b.acked_up);
  accepted_up = omega (arith, a.accepted_up, b.accepted_up);
  aired_up = omega (arith, a.aired_up, b.aired_up);
  low = b.low;
  window = b.window;
}

pub then_called : {l m k : LinkState} → Called l m → Called m k → Called l k
then_called a b = record {
  moves = then_moves a.moves b.moves;
  acked_same = b.acked_same ∙ a.acked_same;
  accepted_same = b.accepted_same ∙ a.accepted_same;
  answer_same = b.answer_same ∙ a.answer_same;
}

module _ (l : LinkState) (g : Good l) where
  pub called_nothing : Called l l
  called_nothing = record { moves = stays l g; acked_same = refl; accepted_same = refl; answer_same = refl }

  pub called_sends : (m : List ℕ) → refusal_of (Sends m) l.endpoint ≡ None → Called l (with_message m l)
  called_sends m ok = grind (arith, g.low, g.window)

  pub called_opens : (info : List ℕ) → issued l ≡ acked l → Called l (with_sabm info l)
  called_opens info same = grind (arith, same, g.low, g.window)

pub passes_slot : (held : Bool) (l : LinkState) → Good l → Called l (after_slot held l)
passes_slot held l g = grind (arith, g.low, g.window)

-- ---- the slot

-- where the frame of a slot comes from
pub data From (m : LinkState) (o : SlotOutcome) : Type 0 where
  nowhere : o.frame ≡ None → From m o
  owed : o.frame ≡ m.answer → From m o
  first : o.frame ≡ Some (awaited_frame false m.endpoint.state m.endpoint) → is_due m ≡ true → m.is_sent ≡ false →
      o.link.is_sent ≡ true → From m o
  again : o.frame ≡ first_frame (t200_expiry m.endpoint).frames → is_due m ≡ true → m.is_sent ≡ true →
      o.link.is_sent ≡ true → expires_in m ≡ true → From m o

module _ (l : LinkState) where
  from_by : (o : SlotOutcome) → IsSlot l o → From l o
  from_by o (sabm_first opening before due new) = first refl due new refl
  from_by o (idles before none due) = nowhere refl
  from_by o (answering f before owes back) = owed (sym owes)
  from_by o (repeating awaits due new) = first refl due new refl
  from_by o (expiring awaits sent due over) = again refl due sent sent over

  pub slot_from : From l (slot_outcome l)
  slot_from = from_by (slot_outcome l) (is_slot l)

  flags_by : (o : SlotOutcome) → IsSlot l o → (o.link.is_sent ≡ l.is_sent) ⊎ (o.link.is_sent ≡ true)
  flags_by o (expiring awaits sent due over) = inl refl
  flags_by o (idles before none due) = inl refl
  flags_by o (answering f before owes back) = inl refl
  flags_by o other = inr refl

  t200_by : (o : SlotOutcome) → IsSlot l o → o.link.t200 ≡ l.t200
  t200_by o (idles before none due) = refl
  t200_by o other = refl

  pub slot_acked : acked (slot_outcome l).link ≡ acked l
  slot_acked = grind arith

  pub slot_issued : issued (slot_outcome l).link ≡ issued l
  slot_issued = grind arith

  pub slot_accepted : accepted (slot_outcome l).link ≡ accepted l
  slot_accepted = grind arith

aired_on : (l m : LinkState) → acked m ≡ acked l → issued m ≡ issued l → acked l ≤ issued l →
    (m.is_sent ≡ l.is_sent) ⊎ (m.is_sent ≡ true) → aired l ≤ aired m
aired_on l m a i low (inl e) = grind arith
aired_on l m a i low (inr e) = grind arith

slot_moves : (l : LinkState) → acked l ≤ issued l → issued l ≤ acked l + 1 → Moves l (slot_outcome l).link
slot_moves l low window = record {
  role = slot_keeps l (λ e. e.role) (λ e. grind arith);
  sapi = slot_keeps l (λ e. e.sapi) (λ e. grind arith);
  t200 = t200_by l (slot_outcome l) (is_slot l);
  acked_up = omega (arith, slot_acked l);
  accepted_up = omega (arith, slot_accepted l);
  aired_up = aired_on l (slot_outcome l).link (slot_acked l) (slot_issued l) low (flags_by l (slot_outcome l) (is_slot l));
  low = omega (arith, slot_acked l, slot_issued l, low);
  window = omega (arith, slot_acked l, slot_issued l, window);
}

pub record IsSentBy (m : LinkState) (o : SlotOutcome) (f : Frame) : Type 0 where
  pub sapi : f.sapi ≡ sapi_number m.endpoint.sapi
  pub number : (nr : ℕ) → nr_in f.content ≡ Some nr → nr ≡ vr m.endpoint
  pub segment : (ns : ℕ) → ns_in f.content ≡ Some ns → (ns ≡ va m.endpoint) × (o.link.is_sent ≡ true)
      × (issued m ≡ acked m + 1) × (f.cr ≡ command_cr m.endpoint.role)
  pub first : (ns : ℕ) → ns_in f.content ≡ Some ns → poll_in f.content ≡ false → m.is_sent ≡ false

answers_no_i : (c : Content) (ns : ℕ) → is_awaiting_kind c ≡ false → ns_in c ≡ Some ns → ⊥
answers_no_i (I ns nr p more info) k h e = cc
answers_no_i other k h e = cc

module _ (m : LinkState) (o : SlotOutcome) (low : acked m ≤ issued m) (window : issued m ≤ acked m + 1) where
  sent_first : (f : Frame) → Some (awaited_frame false m.endpoint.state m.endpoint) ≡ Some f → is_due m ≡ true →
      m.is_sent ≡ false → o.link.is_sent ≡ true → IsSentBy m o f
  sent_first f e due new sent = record {
    sapi = grind arith;
    number = λ nr h. grind arith;
    segment = λ ns h. (grind arith, sent, grind arith, grind arith);
    first = λ ns h k. new;
  }

  sent_again : (f : Frame) → first_frame (t200_expiry m.endpoint).frames ≡ Some f → is_due m ≡ true →
      o.link.is_sent ≡ true →
      IsSentBy m o f
  sent_again f e due sent = record {
    sapi = grind arith;
    number = λ nr h. grind arith;
    segment = λ ns h. (grind arith, sent, grind arith, grind arith);
    first = λ ns h k. grind arith;
  }

  sent_owed : (f : Frame) → IsAnswerOf m f → IsSentBy m o f
  sent_owed f a = record {
    sapi = a.sapi;
    number = a.number;
    segment = λ ns h. absurd (answers_no_i f.content ns a.kind h);
    first = λ ns h k. absurd (answers_no_i f.content ns a.kind h);
  }

some_same : (g f : Frame) → Some g ≡ Some f → g ≡ f
some_same g f e = cc

pub answer_is : (m : LinkState) (a : Option Frame) (f : Frame) → a ≡ Some f → IfSome a (IsAnswerOf m) → IsAnswerOf m f
answer_is m None f e h = absurd cc
answer_is m (Some g) f e h = rw (some_same g f e) at h

pub aired_sent : (l : LinkState) (n : ℕ) → l.is_sent ≡ true → n ≡ issued l → aired l ≡ n
aired_sent l n s e = rw s (sym e)

pub aired_unsent : (l : LinkState) → l.is_sent ≡ false → aired l ≡ acked l
aired_unsent l s = rw s refl

sent : (m : LinkState) → acked m ≤ issued m → issued m ≤ acked m + 1 →
    IfSome m.answer (IsAnswerOf m) →
    (f : Frame) → (slot_outcome m).frame ≡ Some f → IsSentBy m (slot_outcome m) f
sent m low window owes f h = by_from (slot_from m)
  where
    by_from : From m (slot_outcome m) → IsSentBy m (slot_outcome m) f
    by_from (nowhere e) = absurd cc
    by_from (owed e) = sent_owed m (slot_outcome m) low window f (answer_is m m.answer f (sym e ∙ h) owes)
    by_from (first e due new sent) = sent_first m (slot_outcome m) low window f (sym e ∙ h) due new sent
    by_from (again e due old sent over) = sent_again m (slot_outcome m) low window f (sym e ∙ h) due sent

-- ---- a whole slot: what arrives, the calls, and what is sent

-- the link before it sends, and after its slot, given what arrives
pub record Slotted (o : Option Frame) (l l' : LinkState) (frame : Option Frame) : Type 0 where
  pub moves : Moves l l'
  pub by_nr : (acked l' ≡ acked l)
      ⊎ ((nr_of o ≡ Some (vs l.endpoint)) × (issued l ≡ acked l + 1) × (acked l' ≡ issued l))
  pub by_ns : (accepted l' ≡ accepted l) ⊎ ((ns_of o ≡ Some (vr l.endpoint)) × (accepted l' ≡ accepted l + 1))
  pub sapi : (f : Frame) → frame ≡ Some f → f.sapi ≡ sapi_number l.endpoint.sapi
  pub number : (f : Frame) → frame ≡ Some f → (nr : ℕ) → nr_in f.content ≡ Some nr → nr ≡ accepted l' % 8
  pub segment : (f : Frame) → frame ≡ Some f → (ns : ℕ) → ns_in f.content ≡ Some ns →
      (ns ≡ acked l' % 8) × (aired l' ≡ acked l' + 1) × (f.cr ≡ command_cr l.endpoint.role)
  pub first : (f : Frame) → frame ≡ Some f → (ns : ℕ) → ns_in f.content ≡ Some ns → poll_in f.content ≡ false →
      aired l ≤ acked l'

pub owed_later : (l m : LinkState) → Called l m → IfSome l.answer (IsAnswerOf l) → IfSome m.answer (IsAnswerOf m)
owed_later l m c h = by_answer l.answer m.answer c.answer_same h
  where
    vr_same : vr l.endpoint ≡ vr m.endpoint
    vr_same = ap (λ n. n % 8) (sym c.accepted_same)

    by_answer : (x y : Option Frame) → y ≡ x → IfSome x (IsAnswerOf l) → IfSome y (IsAnswerOf m)
    by_answer x None e h = tt
    by_answer None (Some g) e h = absurd cc
    by_answer (Some f) (Some g) e h = rw (some_same g f e) (record {
      number = λ nr q. h.number nr q ∙ vr_same;
      kind = h.kind;
      sapi = h.sapi ∙ ap sapi_number (sym c.moves.sapi);
      way = h.way ∙ ap (λ q. not (command_cr q)) (sym c.moves.role);
    })

module _ (o : Option Frame) (l a m : LinkState) (g : Good l) (x : Arrives o l a) (c : Called a m) where
  abbrev pub out : LinkState
  out = (slot_outcome m).link

  moves_all : Moves l out
  moves_all = then_moves x.moves (then_moves c.moves (slot_moves m c.moves.low c.moves.window))

  number_of : acked out ≡ acked a
  number_of = slot_acked m ∙ c.acked_same

  accepted_of : accepted out ≡ accepted a
  accepted_of = slot_accepted m ∙ c.accepted_same

  sent_of : (f : Frame) → (slot_outcome m).frame ≡ Some f → IsSentBy m (slot_outcome m) f
  sent_of f h = sent m c.moves.low c.moves.window (owed_later a m c x.owed) f h

  aired_out : out.is_sent ≡ true → issued m ≡ acked m + 1 → aired out ≡ acked out + 1
  aired_out s w = aired_sent out (issued out) s refl ∙ slot_issued m ∙ w ∙ ap (λ n. n + 1) (sym (slot_acked m))

  unsent : m.is_sent ≡ false → aired l ≤ acked out
  unsent s = omega (arith, x.moves.aired_up, c.moves.aired_up, aired_unsent m s, slot_acked m)

  pub slotted : Slotted o l out (slot_outcome m).frame
  slotted = record {
    moves = moves_all;
    by_nr = rw number_of x.by_nr;
    by_ns = rw accepted_of x.by_ns;
    sapi = λ f h. (sent_of f h).sapi ∙ ap sapi_number (c.moves.sapi ∙ x.moves.sapi);
    number = λ f h nr e. (sent_of f h).number nr e ∙ ap (λ n. n % 8) (sym (slot_accepted m));
    segment = λ f h ns e. (
      ((sent_of f h).segment ns e).0 ∙ ap (λ n. n % 8) (sym (slot_acked m)),
      aired_out ((sent_of f h).segment ns e).1 ((sent_of f h).segment ns e).2,
      ((sent_of f h).segment ns e).3 ∙ ap command_cr (c.moves.role ∙ x.moves.role),
    );
    first = λ f h ns e p. unsent ((sent_of f h).first ns e p);
  }
