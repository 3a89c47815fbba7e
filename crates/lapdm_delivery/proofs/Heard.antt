-- An end that has shown itself open sends no SABM any more: once an I, RR, RNR or REJ of a link was sent, no SABM of this opening follows.
-- So no SABM opens an open link again while each link is opened once.
use Rattle.std.specs.Prelude.{◌≡◌, ◌&&◌, ◌||◌, not, Bool, true, false, if◌then◌else◌, ℕ, List, [], ◌∷◌}
use Rattle.std.specs.Prelude.{◌++◌, All, Option, Some, None, IfSome, ◌⊎◌}
use Rattle.std.specs.List.{cons_option}
use Rattle.std.proofs.Common.{arith, refl, sym, ap, ◌∙◌, inl, inr}
use Rattle.std.proofs.lemmas.List.Elements.{All-head, All-tail, All-cons, All-nil}
use Rattle.lapdm_frame.specs.Content.{Content, Sabm, Frame}
use Rattle.lapdm_end.specs.lapdm_window.declared.Sapi.{Sapi}
use Rattle.lapdm_end.specs.lapdm_window.declared.Sapi.TheVariants.{Zero, Three}
use Rattle.lapdm_end.specs.lapdm_window.declared.State.{State}
use Rattle.lapdm_end.specs.lapdm_window.declared.State.TheVariants.{Idle, Opening, Open}
use Rattle.lapdm_end.specs.lapdm_window.declared.Refused.{Refused}
use Rattle.lapdm_end.specs.lapdm_window.segmenting.Segments.{Segment}
use Rattle.lapdm_end.specs.lapdm_window.Ends.{Role, EndpointState, Outcome, ◌then◌, awaits_answer}
use Rattle.lapdm_end.specs.lapdm_window.Rules.{sends_next_segment, evaluates_nr, accepts_segment, answers_segment, rejects_segment}
use Rattle.lapdm_end.specs.lapdm_window.Rules.{answers_poll, is_open, resends_outstanding_segment}
use Rattle.lapdm_end.specs.lapdm_window.Tables.{Reply, TakesIFrame, TakesRr, TakesRej, SendsDm, outcome_of_reply, reply_to_frame}
use Rattle.lapdm_end.specs.lapdm_window.Tables.{is_command}
use Rattle.lapdm_end.specs.lapdm_window.Calls.{Call, Opens, OpensWithoutInfo, Sends, Closes, refusal_of, call_outcome, with_queued_message}
use Rattle.lapdm_end.specs.lapdm_window.Calls.{awaited_frame, t200_expiry, IsCallAllowedFor}
use Rattle.lapdm_link.proofs.Lemmas.{AllOf, IsReplyTo, cause_of, is_on, of-append}
use Rattle.lapdm_delivery.specs.Lockstep.{after_call_unless}
use Rattle.lapdm_datalink.specs.Links.{LinkState, SlotOutcome, is_awaiting_kind, with_frame, with_frames, with_outcome, afresh, for_call}
use Rattle.lapdm_datalink.specs.Links.{IsLinkCall, after_frame, received_outcome, ignores, refuses, is_reopened_by_call}
use Rattle.lapdm_datalink.specs.Links.{is_reopened_by_frame}
use Rattle.lapdm_datalink.specs.Links.{is_numbered, first_frame, is_sabm_that_opened, is_return, renewed_for, heard_with, after_received}
use Rattle.lapdm_datalink.specs.Links.{received_notices, slot_outcome, as_taken, as_normal, is_opening, is_opening_content, is_sapi3}
use Rattle.lapdm_datalink.specs.Links.{is_opened_with_contention, frame_notices}
use Rattle.lapdm_datalink.proofs.Returned.{returns-received, returns-call}
use Rattle.lapdm_datalink.proofs.Lemmas.{endpoint_with_frame, endpoint_with_frames}
use Rattle.lapdm_datalink.proofs.Answering.{IsSlot, sabm_first, idles, answering, repeating, expiring, is_slot}

-- whether an end in this state sends no SABM, now or later
abbrev pub is_past : State → Bool
is_past Idle = false
is_past Opening = false
is_past other = true

abbrev pub is_sabm : Content → Bool
is_sabm (Sabm p info) = true
is_sabm other = false

-- ---- the endpoint

-- an end in this state is past Opening if this frame is its RR or REJ
abbrev Answers : State → Frame → Type 0
Answers st f = is_awaiting_kind f.content ≡ false → is_numbered true f.content ≡ true → is_past st ≡ true

-- whether the SABM of an end in Opening, if it is one with contention resolution, has information
abbrev pub is_informed : EndpointState → Bool
is_informed x = is_sapi3 x.sapi || not (is_opening x.state) || not (is_opening_content (Sabm true x.sabm_info))

-- an end that is past Opening stays so, and one that answers by an RR or REJ is past it
record Grows (x : EndpointState) (o : Outcome) : Type 0 where
  past : is_past x.state ≡ true → is_past o.new_state.state ≡ true
  informed : is_informed x ≡ true → is_informed o.new_state ≡ true
  answers : All (Answers o.new_state.state) o.frames

abbrev IsSteady : (EndpointState → Outcome) → Type 0
IsSteady rule = (x : EndpointState) → (rule x).new_state.state ≡ x.state

steady-next : IsSteady sends_next_segment
steady-next x = grind arith

steady-three : (nr : ℕ) (first second : EndpointState → Outcome) → IsSteady first → IsSteady second →
    IsSteady (λ x. evaluates_nr nr x then first then second)
steady-three nr first second f g x = g _ ∙ f _ ∙ steady-nr x
  where
    steady-nr : IsSteady (evaluates_nr nr)
    steady-nr x = grind arith

steady-accepts : (segment : Segment) → IsSteady (accepts_segment segment)
steady-accepts segment x = grind arith

steady-answers : (p : Bool) → IsSteady (answers_segment p)
steady-answers p x = grind arith

steady-rejects : (p : Bool) → IsSteady (rejects_segment p)
steady-rejects p x = grind arith

steady-poll : (p : Bool) → IsSteady (answers_poll p)
steady-poll p x = grind arith

steady-resends : IsSteady resends_outstanding_segment
steady-resends x = grind arith

steady-if : (x : EndpointState) (b : Bool) (o p : Outcome) → o.new_state.state ≡ x.state → p.new_state.state ≡ x.state →
    (if b then o else p).new_state.state ≡ x.state
steady-if x true o p h g = h
steady-if x false o p h g = g

-- a step that leaves an end in Open
grows-open : (x : EndpointState) (o : Outcome) → x.state ≡ Open → o.new_state.state ≡ x.state → Grows x o
grows-open x o is same = record { past = λ h. now; informed = λ h. elsewhere o.new_state (same ∙ is); answers = all o.frames }
  where
    elsewhere : (y : EndpointState) → y.state ≡ Open → is_informed y ≡ true
    elsewhere y e = grind (arith, e)

    now : is_past o.new_state.state ≡ true
    now = ap is_past (same ∙ is)

    all : (fs : List Frame) → All (Answers o.new_state.state) fs
    all [] = All-nil (Answers o.new_state.state)
    all (f ∷ fs) = All-cons (Answers o.new_state.state) f fs (λ a n. now) (all fs)

grows-reply : (c : Content) (r : Reply) (x : EndpointState) → IsReplyTo c x r → Grows x (outcome_of_reply r x)
grows-reply c (TakesIFrame ns nr p segment) x cause = grows-open x _ cause.1
    (steady-if x _ _ _ (steady-three nr (accepts_segment segment) (answers_segment p) (steady-accepts segment) (steady-answers p) x)
    (steady-three nr (rejects_segment p) sends_next_segment (steady-rejects p) steady-next x))
grows-reply c (TakesRr nr poll) x cause = grows-open x _ cause.2
    (steady-three nr (answers_poll poll) sends_next_segment (steady-poll poll) steady-next x)
grows-reply c (TakesRej nr poll) x cause = grows-open x _ cause.2
    (steady-three nr (answers_poll poll) resends_outstanding_segment (steady-poll poll) steady-resends x)
grows-reply c r x cause = grind arith

grows-frame : (f : Frame) (l : LinkState) → Grows l.endpoint (received_outcome f l)
grows-frame f l = by (refuses f l.endpoint)
  where
    x : EndpointState
    x = l.endpoint

    by : (b : Bool) → Grows x (outcome_of_reply (if b then SendsDm else reply_to_frame (as_taken f l) x) x)
    by true = grows-reply f.content SendsDm x tt
    by false = let g = as_taken f l in grows-reply g.content (reply_to_frame g x) x (cause_of x g)

grows-call : (role : Role) (call : Call) (x : EndpointState) → IsLinkCall call → IsCallAllowedFor role x.sapi call →
    refusal_of call x ≡ None → Grows x (call_outcome call x)
grows-call role (Opens info) x is may ok = grind (arith, ok)
grows-call role OpensWithoutInfo x is may ok = grind (arith, ok, may)
grows-call role (Sends m) x is may ok = grows-open x _ (sends_open x ok) (steady-next (with_queued_message m x))
  where
    sends_open : (x : EndpointState) → refusal_of (Sends m) x ≡ None → x.state ≡ Open
    sends_open x ok = grind (arith, ok)
grows-call role Closes x is may ok = grind (arith, ok)
grows-call role call x is may ok = absurd is

-- ---- the link

-- a link that owes this answer in this state: it is no SABM, and only a link that is past Opening owes an RR or REJ
abbrev pub MayOwe : State → Frame → Type 0
MayOwe st f = (is_sabm f.content ≡ false) × (is_numbered true f.content ≡ true → is_past st ≡ true)

-- the endpoint of the link has SAPI `k`
pub record IsFine (k : Sapi) (l : LinkState) : Type 0 where
  pub sapi : l.endpoint.sapi ≡ k
  pub informed : is_informed l.endpoint ≡ true
  pub answer : IfSome l.answer (MayOwe l.endpoint.state)

pub record Ages (k : Sapi) (l m : LinkState) : Type 0 where
  pub past : is_past l.endpoint.state ≡ true → is_past m.endpoint.state ≡ true
  pub fine : IsFine k l → IsFine k m

pub ages-same : (k : Sapi) (l : LinkState) → Ages k l l
ages-same k l = record { past = λ h. h; fine = λ h. h }

pub ages-then : {k : Sapi} {l m n : LinkState} → Ages k l m → Ages k m n → Ages k l n
ages-then h g = record { past = λ p. g.past (h.past p); fine = λ f. g.fine (h.fine f) }

answer-no_sabm : (c : Content) → is_awaiting_kind c ≡ false → is_sabm c ≡ false
answer-no_sabm (Sabm p info) h = absurd cc
answer-no_sabm c h = refl

-- what waits changes no endpoint
owed-frames : (st : State) (fs : List Frame) (l : LinkState) → l.endpoint.state ≡ st → All (Answers st) fs →
    IfSome l.answer (MayOwe st) → IfSome (with_frames fs l).answer (MayOwe st)
owed-frames st [] l is h g = g
owed-frames st (f ∷ fs) l is h g =
    owed-frames st fs (with_frame f l) (ap (λ (e : EndpointState). e.state) (endpoint_with_frame f l) ∙ is)
    (All-tail (Answers st) f fs h) (by (is_awaiting_kind f.content) refl)
  where
    by : (b : Bool) → is_awaiting_kind f.content ≡ b →
        IfSome (if b then record l { is_sent = false; clock = 0 } else record l { answer = Some f }).answer (MayOwe st)
    by true e = g
    by false e = (answer-no_sabm f.content e, All-head (Answers st) f fs h e)

ages-outcome : (k : Sapi) (o : Outcome) (l : LinkState) → o.new_state.sapi ≡ l.endpoint.sapi → Grows l.endpoint o →
    Ages k l (with_outcome o l)
ages-outcome k o l same g =
    let m : LinkState = record l { endpoint = o.new_state } in
    let e = endpoint_with_frames o.frames m in
    record {
      past = λ h. ap (λ (e : EndpointState). is_past e.state) e ∙ g.past h;
      fine = λ f. record {
        sapi = ap (λ (e : EndpointState). e.sapi) e ∙ same ∙ f.sapi;
        informed = ap is_informed e ∙ g.informed f.informed;
        answer = rw e (owed-frames o.new_state.state o.frames m refl g.answers (moved l.answer f.answer));
      };
    }
  where
    moved : (a : Option Frame) → IfSome a (MayOwe l.endpoint.state) → IfSome a (MayOwe o.new_state.state)
    moved None h = tt
    moved (Some f) h = (h.0, λ n. g.past (h.1 n))

pub ages-frame : (k : Sapi) (f : Frame) (l : LinkState) → is_reopened_by_frame f l ≡ false → Ages k l (after_frame f l)
ages-frame k f l once = by (ignores f l) (is_reopened_by_frame f l) once
  where
    by : (b c : Bool) → c ≡ false →
        Ages k l (if b then l else (let m = if c then afresh l else l in with_outcome (received_outcome f m) m))
    by true false e = ages-same k l
    by false false e = ages-outcome k _ l (returns-received f l).sapi (grows-frame f l)
    by b true e = absurd cc

pub ages-call : (k : Sapi) (role : Role) (call : Call) (l : LinkState) → IsLinkCall call → IsCallAllowedFor role k call →
    is_reopened_by_call call l ≡ false → (r : Option Refused) → refusal_of call (for_call call l).endpoint ≡ r →
    IsFine k l → Ages k l (after_call_unless r call l)
ages-call k role call l is may once (Some why) e h = ages-same k l
ages-call k role call l is may once None e h = by (is_reopened_by_call call l) once e
  where
    by : (b : Bool) → b ≡ false → refusal_of call (if b then afresh l else l).endpoint ≡ None →
        Ages k l (let m = if b then afresh l else l in with_outcome (call_outcome call m.endpoint) m)
    by false n ok = ages-outcome k (call_outcome call l.endpoint) l (returns-call call l.endpoint is).sapi
        (grows-call role call l.endpoint is (rw h.sapi may) ok)
    by true n ok = absurd cc

-- What a link sends in a slot: an end that is past Opening sends no SABM, one that sends an I, RR or REJ is past it, and with contention
-- resolution each SABM has information.
pub record Shows (k : Sapi) (l : LinkState) (o : SlotOutcome) : Type 0 where
  pub ages : Ages k l o.link
  pub quiet : is_past l.endpoint.state ≡ true → IfSome o.frame (λ f. is_sabm f.content ≡ false)
  pub past_if_shown : IfSome o.frame (λ f. is_numbered true f.content ≡ true → is_past o.link.endpoint.state ≡ true)
  pub full : k ≡ Zero → IfSome o.frame (λ f. is_opening_content f.content ≡ false)

awaited-quiet : (p : Bool) (st : State) (e : EndpointState) → is_past st ≡ true → is_sabm (awaited_frame p st e).content ≡ false
awaited-quiet p st e h = grind (arith, h)

awaited-open : (p : Bool) (st : State) (e : EndpointState) → e.state ≡ st → awaits_answer e ≡ true →
    is_numbered true (awaited_frame p st e).content ≡ true → is_past st ≡ true
awaited-open p st e same h n = grind (arith, same, h, n)

expired-past : (e : EndpointState) → is_past e.state ≡ true → is_past (t200_expiry e).new_state.state ≡ true
expired-past e h = grind (arith, h)

expired-quiet : (e : EndpointState) → is_past e.state ≡ true →
    IfSome (first_frame (t200_expiry e).frames) (λ f. is_sabm f.content ≡ false)
expired-quiet e h = grind (arith, awaited-quiet true e.state e h)

expired-open : (e : EndpointState) → awaits_answer e ≡ true →
    IfSome (first_frame (t200_expiry e).frames)
    (λ f. is_numbered true f.content ≡ true → is_past (t200_expiry e).new_state.state ≡ true)
expired-open e h = grind (arith, awaited-open true e.state e refl h)

no_sabm-full : (c : Content) → is_sabm c ≡ false → is_opening_content c ≡ false
no_sabm-full (Sabm p info) h = absurd cc
no_sabm-full c h = refl

awaited-full : (p : Bool) (e : EndpointState) → e.sapi ≡ Zero → is_informed e ≡ true →
    is_opening_content (awaited_frame p e.state e).content ≡ false
awaited-full p e s h = by e.state refl
  where
    by : (st : State) → e.state ≡ st → is_opening_content (awaited_frame p st e).content ≡ false
    by st is = grind (arith, s, h, is)

expired-full : (e : EndpointState) → e.sapi ≡ Zero → is_informed e ≡ true →
    IfSome (first_frame (t200_expiry e).frames) (λ f. is_opening_content f.content ≡ false)
expired-full e s h = grind (arith, awaited-full true e s h)

expired-informed : (e : EndpointState) → is_informed e ≡ true → is_informed (t200_expiry e).new_state ≡ true
expired-informed e h = grind (arith, h)

pub expired-sapi : (e : EndpointState) → (t200_expiry e).new_state.sapi ≡ e.sapi
expired-sapi e = grind arith

shows-by : (k : Sapi) (l : LinkState) (o : SlotOutcome) → IsFine k l → IsSlot l o → Shows k l o
shows-by k l o h (sabm_first opening first due new) = record {
  ages = record { past = λ p. p; fine = λ f. record { sapi = f.sapi; informed = f.informed; answer = f.answer } };
  quiet = λ p. awaited-quiet false l.endpoint.state l.endpoint p;
  past_if_shown = λ n. absurd (grind (arith, opening, n));
  full = λ z. awaited-full false l.endpoint (h.sapi ∙ z) h.informed;
}
shows-by k l o h (idles first owes_none due) =
    record { ages = ages-same k l; quiet = λ p. tt; past_if_shown = tt; full = λ z. tt }
shows-by k l o h (answering f first owes back) =
    let a : MayOwe l.endpoint.state f = rw owes at h.answer in
    record {
      ages = record { past = λ p. p; fine = λ g. record { sapi = g.sapi; informed = g.informed; answer = tt } };
      quiet = λ p. a.0;
      past_if_shown = a.1;
      full = λ z. no_sabm-full f.content a.0;
    }
shows-by k l o h (repeating await due new) = record {
  ages = record { past = λ p. p; fine = λ g. record { sapi = g.sapi; informed = g.informed; answer = tt } };
  quiet = λ p. awaited-quiet false l.endpoint.state l.endpoint p;
  past_if_shown = awaited-open false l.endpoint.state l.endpoint refl await;
  full = λ z. awaited-full false l.endpoint (h.sapi ∙ z) h.informed;
}
shows-by k l o h (expiring await sent due over) = record {
  ages = record {
    past = expired-past l.endpoint;
    fine = λ g. record {
      sapi = expired-sapi l.endpoint ∙ g.sapi;
      informed = expired-informed l.endpoint g.informed;
      answer = tt;
    };
  };
  quiet = expired-quiet l.endpoint;
  past_if_shown = expired-open l.endpoint await;
  full = λ z. expired-full l.endpoint (h.sapi ∙ z) h.informed;
}

pub shows-slot : (k : Sapi) (l : LinkState) → IsFine k l → Shows k l (slot_outcome l)
shows-slot k l h = shows-by k l (slot_outcome l) h (is_slot l)

-- ---- a link that no SABM opens again

-- what the link hears changes nothing but this bit
pub received-is : (f : Frame) (l : LinkState) → renewed_for f l ≡ l →
    after_received f l ≡ record (after_frame f l) { heard = heard_with f l }
received-is f l same = ap (λ m. record (after_frame f m) { heard = heard_with f m }) same

pub notices-are : (f : Frame) (l : LinkState) → renewed_for f l ≡ l → received_notices f l ≡ frame_notices f l
notices-are f l same = ap (frame_notices f) same

pub ages-received : (k : Sapi) (f : Frame) (l : LinkState) → is_reopened_by_frame f l ≡ false → renewed_for f l ≡ l →
    Ages k l (after_received f l)
ages-received k f l once same = rw (received-is f l same) (let g = ages-frame k f l once in record {
  past = g.past;
  fine = λ h. (let x = g.fine h in record { sapi = x.sapi; informed = x.informed; answer = x.answer });
})

-- it has heard such a frame before, or this is one
pub heard-by : (f : Frame) (l : LinkState) → heard_with f l ≡ true → (l.heard ≡ true) ⊎ (is_numbered true f.content ≡ true)
heard-by f l h = grind (arith, h)

-- a frame renews no link that has heard of no SABM to come, nor, with contention resolution, one that no SABM without information reaches
pub never-again : (k : Sapi) (f : Frame) (l : LinkState) → l.endpoint.sapi ≡ k →
    (l.heard ≡ true → is_sabm f.content ≡ false) → (k ≡ Zero → is_opening_content f.content ≡ false) → renewed_for f l ≡ l
never-again k f l same h full =
    ap (λ (b : Bool). if b then afresh l else (if is_return f l then as_normal l else l)) (again l.heard f.content h)
    ∙ ap (λ (b : Bool). if b then as_normal l else l) (returns k same full)
  where
    again : (b : Bool) (c : Content) → (b ≡ true → is_sabm c ≡ false) →
        (b && is_open l.endpoint.state && is_command l.endpoint f && is_sabm_that_opened c l.endpoint) ≡ false
    again b c h = grind (arith, h)

    right : (a b c d : Bool) → d ≡ false → (a && b && c && d) ≡ false
    right a b c d e = grind (arith, e)

    returns : (k : Sapi) → l.endpoint.sapi ≡ k → (k ≡ Zero → is_opening_content f.content ≡ false) → is_return f l ≡ false
    returns Three e full = rw e refl
    returns Zero e full = right (is_opened_with_contention l.endpoint.sapi l.endpoint.role) (is_open l.endpoint.state)
        (is_command l.endpoint f) (is_opening_content f.content) (full refl)

heard_with_frames : (fs : List Frame) (l : LinkState) → (with_frames fs l).heard ≡ l.heard
heard_with_frames [] l = refl
heard_with_frames (f ∷ fs) l = heard_with_frames fs (with_frame f l) ∙ by (is_awaiting_kind f.content)
  where
    by : (b : Bool) → (if b then record l { is_sent = false; clock = 0 } else record l { answer = Some f }).heard ≡ l.heard
    by b = grind arith

-- a call hears nothing, nor does a slot
pub heard_call : (call : Call) (l : LinkState) → is_reopened_by_call call l ≡ false → (r : Option Refused) →
    (after_call_unless r call l).heard ≡ l.heard
heard_call call l once (Some why) = refl
heard_call call l once None = by (is_reopened_by_call call l) once
  where
    by : (b : Bool) → b ≡ false →
        (let m = if b then afresh l else l in with_outcome (call_outcome call m.endpoint) m).heard ≡ l.heard
    by false e =
        let o = call_outcome call l.endpoint in
        heard_with_frames o.frames (record l { endpoint = o.new_state })
    by true e = absurd cc

heard-by_slot : (l : LinkState) (o : SlotOutcome) → IsSlot l o → o.link.heard ≡ l.heard
heard-by_slot l o (sabm_first opening first due new) = refl
heard-by_slot l o (idles first owes_none due) = refl
heard-by_slot l o (answering f first owes back) = refl
heard-by_slot l o (repeating await due new) = refl
heard-by_slot l o (expiring await sent due over) = refl

pub heard_slot : (l : LinkState) → (slot_outcome l).link.heard ≡ l.heard
heard_slot l = heard-by_slot l (slot_outcome l) (is_slot l)

-- ---- what is in transit

-- the frame is a SABM of this SAPI, or an I, RR, RNR or REJ
abbrev pub opens_on : Sapi → Frame → Bool
opens_on s f = is_on s f && is_sabm f.content

abbrev pub shows_on : Sapi → Frame → Bool
shows_on s f = is_on s f && is_numbered true f.content

-- none of the frames is a SABM of this SAPI
abbrev pub Silent : Sapi → List Frame → Type 0
Silent s fs = AllOf (λ f. opens_on s f ≡ false) fs

-- after an I, RR, RNR or REJ of this SAPI comes no SABM, and the end that sent it is past Opening
abbrev pub Settled : (sapi : Sapi) (state : State) (frames : List Frame) → Type 0
Settled s st [] = Unit {0}
Settled s st (f ∷ fs) = (shows_on s f ≡ true → Silent s fs × (is_past st ≡ true)) × Settled s st fs

settled-more : (s : Sapi) (st st' : State) (q gs : List Frame) → (is_past st ≡ true → is_past st' ≡ true) →
    (is_past st ≡ true → Silent s gs) → Settled s st' gs → Settled s st q → Settled s st' (q ++ gs)
settled-more s st st' [] gs past quiet new h = new
settled-more s st st' (f ∷ fs) gs past quiet new h = (
  λ n. (let g = h.0 n in (of-append _ fs gs g.0 (quiet g.1), past g.1)),
  settled-more s st st' fs gs past quiet new h.1,
)

settled-past : (s : Sapi) (st st' : State) (q : List Frame) → (is_past st ≡ true → is_past st' ≡ true) → Settled s st q →
    Settled s st' q
settled-past s st st' [] past h = tt
settled-past s st st' (f ∷ fs) past h = (λ n. (let g = h.0 n in (g.0, past g.1)), settled-past s st st' fs past h.1)

-- the frame is a SABM of this SAPI without information
abbrev pub is_bare_on : Sapi → Frame → Bool
is_bare_on s f = is_on s f && is_opening_content f.content

-- with contention resolution none of the frames is such a SABM
abbrev pub Full : (endpoint_sapi sapi : Sapi) → List Frame → Type 0
Full k s fs = k ≡ Zero → AllOf (λ f. is_bare_on s f ≡ false) fs

-- what holds of the frames in transit with SAPI `s` from the link `l` to the link `m`, whose endpoints have SAPI `k`: once `m` has heard
-- one that shows `l` open, no SABM comes
pub record IsHeard (s k : Sapi) (q : List Frame) (l m : LinkState) : Type 0 where
  pub fine : IsFine k l
  pub settled : Settled s l.endpoint.state q
  pub heard : m.heard ≡ true → Silent s q × (is_past l.endpoint.state ≡ true)
  pub full : Full k s q

module _ {s k : Sapi} {q : List Frame} {l m : LinkState} (h : IsHeard s k q l m) where
  -- the sender ages, and the receiver hears nothing more
  pub sender_ages : {l' : LinkState} → Ages k l l' → IsHeard s k q l' m
  sender_ages {l'} g = record {
    fine = g.fine h.fine;
    settled = settled-past s l.endpoint.state l'.endpoint.state q g.past h.settled;
    heard = λ e. (let t = h.heard e in (t.0, g.past t.1));
    full = h.full;
  }

  pub receiver_ages : {m' : LinkState} → m'.heard ≡ m.heard → IsHeard s k q l m'
  receiver_ages same =
      record { fine = h.fine; settled = h.settled; heard = λ e. h.heard (sym same ∙ e); full = h.full }

  -- the sender sends frames
  pub sender_sends : {l' : LinkState} (gs : List Frame) → Ages k l l' → (is_past l.endpoint.state ≡ true → Silent s gs) →
      Settled s l'.endpoint.state gs → Full k s gs → IsHeard s k (q ++ gs) l' m
  sender_sends {l'} gs g quiet new full = record {
    fine = g.fine h.fine;
    settled = settled-more s l.endpoint.state l'.endpoint.state q gs g.past quiet new h.settled;
    heard = λ e. (let t = h.heard e in (of-append _ q gs t.0 (quiet t.1), g.past t.1));
    full = λ z. of-append _ q gs (h.full z) (full z);
  }

module _ {s k : Sapi} {f : Frame} {q : List Frame} {l m : LinkState} (h : IsHeard s k (f ∷ q) l m) where
  -- the oldest frame is lost, or is not for this link
  pub rest_heard : IsHeard s k q l m
  rest_heard = record {
    fine = h.fine;
    settled = h.settled.1;
    heard = λ e. (let t = h.heard e in (t.0.1, t.1));
    full = λ z. (h.full z).1;
  }

  -- it opens nothing again
  pub not_again : m.endpoint.sapi ≡ k → is_on s f ≡ true → renewed_for f m ≡ m
  not_again same on =
      never-again k f m same (λ e. and-right _ _ on (h.heard e).0.0) (λ z. and-right _ _ on (h.full z).0)
    where
      and-right : (a b : Bool) → a ≡ true → (a && b) ≡ false → b ≡ false
      and-right a b e g = grind (arith, e, g)

  -- the link takes it
  pub taken_heard : m.endpoint.sapi ≡ k → is_on s f ≡ true → IsHeard s k q l (after_received f m)
  taken_heard same on = record {
    fine = h.fine;
    settled = h.settled.1;
    heard = λ e. by (heard-by f m (sym (ap (λ (k : LinkState). k.heard) (received-is f m (not_again same on))) ∙ e));
    full = λ z. (h.full z).1;
  }
    where
      by : (m.heard ≡ true) ⊎ (is_numbered true f.content ≡ true) → Silent s q × (is_past l.endpoint.state ≡ true)
      by (inl e) = let t = h.heard e in (t.0.1, t.1)
      by (inr n) = h.settled.0 (rw (on, n) refl)

-- ---- the frame of a slot

module _ (s : Sapi) where
  and-false : (b c : Bool) → c ≡ false → (b && c) ≡ false
  and-false b c h = grind (arith, h)

  and-right : (a b : Bool) → (a && b) ≡ true → b ≡ true
  and-right a b e = grind (arith, e)

  -- the link of this SAPI sends it
  pub slot_is_silent : (a : Option Frame) → IfSome a (λ f. is_sabm f.content ≡ false) → Silent s (cons_option a [])
  slot_is_silent None h = tt
  slot_is_silent (Some f) h = (and-false (is_on s f) _ h, tt)

  pub slot_is_settled : (st : State) (a : Option Frame) → IfSome a (λ f. is_numbered true f.content ≡ true → is_past st ≡ true) →
      Settled s st (cons_option a [])
  slot_is_settled st None h = tt
  slot_is_settled st (Some f) h = (λ n. (tt, h (and-right (is_on s f) _ n)), tt)

  pub slot_is_full : (k : Sapi) (a : Option Frame) → (k ≡ Zero → IfSome a (λ f. is_opening_content f.content ≡ false)) →
      Full k s (cons_option a [])
  slot_is_full k None h z = tt
  slot_is_full k (Some f) h z = (and-false (is_on s f) _ (h z), tt)

  -- a frame of the other link, or a UI frame, is neither
  abbrev pub IsElse : Option Frame → Type 0
  IsElse a = IfSome a (λ f. (opens_on s f ≡ false) × (shows_on s f ≡ false))

  pub else_is_silent : (a : Option Frame) → IsElse a → Silent s (cons_option a [])
  else_is_silent None h = tt
  else_is_silent (Some f) h = (h.0, tt)

  pub else_is_settled : (st : State) (a : Option Frame) → IsElse a → Settled s st (cons_option a [])
  else_is_settled st None h = tt
  else_is_settled st (Some f) h = (λ n. absurd (no (sym h.1 ∙ n)), tt)
    where
      no : false ≡ true → ⊥
      no e = cc

  pub else_is_full : (k : Sapi) (a : Option Frame) → IsElse a → Full k s (cons_option a [])
  else_is_full k None h z = tt
  else_is_full k (Some f) h z = (no_sabm (is_on s f) f.content h.0, tt)
    where
      no_sabm : (b : Bool) (c : Content) → (b && is_sabm c) ≡ false → (b && is_opening_content c) ≡ false
      no_sabm b c h = grind (arith, h)
