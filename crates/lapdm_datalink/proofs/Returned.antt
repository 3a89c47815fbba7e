-- What an endpoint returns to its link: each frame awaits an answer, or is an answer of the link.
use Rattle.std.proofs.Common.{◌≡◌, ◌∙◌, ◌∷◌, subst, arith, ℕ, Bool, true, false, if◌then◌else◌}
use Rattle.std.proofs.Common.{List, [], All}
use Rattle.std.proofs.lemmas.List.Elements.{All-append, All-head, All-tail, All-cons, All-nil}
use Rattle.lapdm_frame.specs.Content.{Frame}
use Rattle.lapdm_frame.specs.Frames.{FrameFits}
use Rattle.lapdm_end.specs.lapdm_window.declared.Sapi.{Sapi}
use Rattle.lapdm_end.specs.lapdm_window.Ends.{EndpointState, Outcome, Role, ◌then◌}
use Rattle.lapdm_end.specs.lapdm_window.segmenting.Segments.{Segment}
use Rattle.lapdm_end.specs.lapdm_window.Rules.{sends_next_segment, evaluates_nr, accepts_segment, answers_segment, rejects_segment}
use Rattle.lapdm_end.specs.lapdm_window.Rules.{answers_poll, resends_outstanding_segment, sends_rr, sends_segment, may_send_next_segment}
use Rattle.lapdm_end.specs.lapdm_window.Tables.{Reply, TakesIFrame, TakesRr, TakesRej, outcome_of_reply, reply_to_frame, frame_outcome}
use Rattle.lapdm_end.specs.lapdm_window.Calls.{Call, Sends, call_outcome, with_queued_message}
use Rattle.lapdm_link.proofs.lapdm_window.Lemmas.{Keeps}
use Rattle.lapdm_datalink.specs.Links.{LinkState, is_awaiting_kind, link_reply, received_outcome, IsLinkCall}
use Rattle.lapdm_datalink.specs.Abstraction.{IsAnswer, MayBeReturned}

-- the frame awaits an answer, or is an answer of a link with this role and SAPI
abbrev pub IsReturned : Role → Sapi → Frame → Type 0
IsReturned role sapi f = is_awaiting_kind f.content ≡ false → IsAnswer role sapi f

-- so is each frame of the outcome, after which role and SAPI are the same
pub record Returns (x : EndpointState) (o : Outcome) : Type 0 where
  pub role : o.new_state.role ≡ x.role
  pub sapi : o.new_state.sapi ≡ x.sapi
  pub frames : All (IsReturned x.role x.sapi) o.frames

returns-then : (x : EndpointState) (o : Outcome) (rule : EndpointState → Outcome) → Returns x o →
    ((y : EndpointState) → Returns y (rule y)) → Returns x (o then rule)
returns-then x o rule h g =
    let k = g o.new_state in
    let fs = (rule o.new_state).frames in
    record {
      role = k.role ∙ h.role;
      sapi = k.sapi ∙ h.sapi;
      frames = All-append (IsReturned x.role x.sapi) o.frames fs h.frames
          (subst (λ (r : Role). All (IsReturned r x.sapi) fs) h.role
          (subst (λ (s : Sapi). All (IsReturned o.new_state.role s) fs) h.sapi k.frames));
    }

returns-next : (x : EndpointState) → Returns x (sends_next_segment x)
returns-next x = grind arith

returns-evaluates_nr : (nr : ℕ) (x : EndpointState) → Returns x (evaluates_nr nr x)
returns-evaluates_nr nr x = grind arith

returns-accepts_segment : (segment : Segment) (x : EndpointState) → Returns x (accepts_segment segment x)
returns-accepts_segment segment x = grind arith

returns-if : (x : EndpointState) (b : Bool) (o p : Outcome) → Returns x o → Returns x p → Returns x (if b then o else p)
returns-if x true o p h g = h
returns-if x false o p h g = g

returns-rr : (f : Bool) (x : EndpointState) → Returns x (sends_rr f x)
returns-rr f x = grind arith

returns-segment : (x : EndpointState) → Returns x (sends_segment x)
returns-segment x = grind arith

returns-answers_segment : (p : Bool) (x : EndpointState) → Returns x (answers_segment p x)
returns-answers_segment true x = returns-then x (sends_rr true x) sends_next_segment (returns-rr true x) returns-next
returns-answers_segment false x = returns-if x (may_send_next_segment x) _ _ (returns-segment x) (returns-rr false x)

returns-rejects_segment : (p : Bool) (x : EndpointState) → Returns x (rejects_segment p x)
returns-rejects_segment p x = grind arith

returns-poll : (p : Bool) (x : EndpointState) → Returns x (answers_poll p x)
returns-poll p x = grind arith

returns-resends : (x : EndpointState) → Returns x (resends_outstanding_segment x)
returns-resends x = grind arith

returns-nr : (nr : ℕ) (first second : EndpointState → Outcome) → ((x : EndpointState) → Returns x (first x)) →
    ((x : EndpointState) → Returns x (second x)) →
    (x : EndpointState) → Returns x (evaluates_nr nr x then first then second)
returns-nr nr first second f g x = returns-then x (evaluates_nr nr x then first) second
    (returns-then x (evaluates_nr nr x) first (returns-evaluates_nr nr x) f) g

returns-reply : (r : Reply) (x : EndpointState) → Returns x (outcome_of_reply r x)
returns-reply (TakesIFrame ns nr p segment) x =
    returns-if x _ _ _
    (returns-nr nr (accepts_segment segment) (answers_segment p) (returns-accepts_segment segment) (returns-answers_segment p) x)
    (returns-nr nr (rejects_segment p) sends_next_segment (returns-rejects_segment p) returns-next x)
returns-reply (TakesRr nr poll) x = returns-nr nr (answers_poll poll) sends_next_segment (returns-poll poll) returns-next x
returns-reply (TakesRej nr poll) x = returns-nr nr (answers_poll poll) resends_outstanding_segment (returns-poll poll) returns-resends x
returns-reply r x = grind arith

pub returns-frame : (f : Frame) (x : EndpointState) → Returns x (frame_outcome f x)
returns-frame f x = returns-reply (reply_to_frame f x) x

pub returns-received : (f : Frame) (l : LinkState) → Returns l.endpoint (received_outcome f l)
returns-received f l = returns-reply (link_reply f l) l.endpoint

pub returns-call : (call : Call) (x : EndpointState) → IsLinkCall call → Returns x (call_outcome call x)
returns-call (Sends m) x is =
    let k = returns-next (with_queued_message m x) in
    record { role = k.role; sapi = k.sapi; frames = k.frames }
returns-call call x is = grind arith

both : (x : EndpointState) (fs : List Frame) → All (FrameFits x.channel) fs → All (IsReturned x.role x.sapi) fs →
    All (MayBeReturned x) fs
both x [] h g = All-nil (MayBeReturned x)
both x (f ∷ fs) h g =
    All-cons (MayBeReturned x) f fs (All-head (FrameFits x.channel) f fs h, All-head (IsReturned x.role x.sapi) f fs g)
    (both x fs (All-tail (FrameFits x.channel) f fs h) (All-tail (IsReturned x.role x.sapi) f fs g))

pub may_be_returned : {x : EndpointState} {o : Outcome} → Keeps x o → Returns x o → All (MayBeReturned x) o.frames
may_be_returned {x} {o} k r = both x o.frames k.frames r.frames
