-- What a link owes is an answer of its own SAPI, and no step ends normal establishment, however often the link is opened. So each frame
-- that it sends has its SAPI, and is no UI frame.
use Rattle.std.specs.Prelude.{◌≡◌, Bool, true, false, if◌then◌else◌, List, [], ◌∷◌, All, Option, Some, IfSome}
use Rattle.std.proofs.Common.{arith, refl, ap, ◌∙◌}
use Rattle.std.proofs.lemmas.List.Elements.{All-head, All-tail}
use Rattle.lapdm_frame.specs.Content.{Content, Frame}
use Rattle.lapdm_end.specs.lapdm_window.declared.Sapi.{Sapi}
use Rattle.lapdm_end.specs.lapdm_window.declared.Sapi.TheVariants.{Three}
use Rattle.lapdm_end.specs.lapdm_window.declared.State.{State}
use Rattle.lapdm_end.specs.lapdm_window.Ends.{Role, EndpointState, Outcome, sapi_number}
use Rattle.lapdm_end.specs.lapdm_window.Calls.{Call, awaited_frame, t200_expiry, call_outcome}
use Rattle.lapdm_datalink.specs.Links.{LinkState, SlotOutcome, is_awaiting_kind, with_frame, with_frames, with_outcome, afresh, as_normal}
use Rattle.lapdm_datalink.specs.Links.{is_reopened_by_call, is_reopened_by_frame, IsLinkCall, after_call, ignores, received_outcome}
use Rattle.lapdm_datalink.specs.Links.{after_frame, is_opened_again, is_return, renewed_for, after_received, slot_outcome, first_frame}
use Rattle.lapdm_datalink.specs.DataLinks.{is_ui}
use Rattle.lapdm_datalink.specs.Abstraction.{IsAnswer, is_answer_kind}
use Rattle.lapdm_datalink.proofs.Returned.{IsReturned, Returns, returns-received, returns-call}
use Rattle.lapdm_datalink.proofs.Lemmas.{endpoint_with_frames, awaited-own}
use Rattle.lapdm_datalink.proofs.Answering.{IsSlot, sabm_first, idles, answering, repeating, expiring, is_slot}
use Rattle.lapdm_delivery.proofs.Heard.{expired-sapi}

-- a link of the SAPI whose endpoints have the SAPI `k` while each link is opened once
pub record Own (k : Sapi) (l : LinkState) : Type 0 where
  pub answer : IfSome l.answer (IsAnswer l.endpoint.role l.endpoint.sapi)
  pub normal : k ≡ Three → l.endpoint.sapi ≡ Three

owed-frames : (role : Role) (s : Sapi) (fs : List Frame) (l : LinkState) → All (IsReturned role s) fs →
    IfSome l.answer (IsAnswer role s) → IfSome (with_frames fs l).answer (IsAnswer role s)
owed-frames role s [] l h g = g
owed-frames role s (f ∷ fs) l h g =
    owed-frames role s fs (with_frame f l) (All-tail (IsReturned role s) f fs h) (by (is_awaiting_kind f.content) refl)
  where
    by : (b : Bool) → is_awaiting_kind f.content ≡ b →
        IfSome (if b then record l { is_sent = false; clock = 0 } else record l { answer = Some f }).answer (IsAnswer role s)
    by true e = g
    by false e = All-head (IsReturned role s) f fs h e

readdressed : (a : Option Frame) {role role' : Role} {s s' : Sapi} → role' ≡ role → s' ≡ s → IfSome a (IsAnswer role s) →
    IfSome a (IsAnswer role' s')
readdressed a e f h = rw (e, f) h

module _ {k : Sapi} {l : LinkState} (h : Own k l) where
  own-outcome : (o : Outcome) → Returns l.endpoint o → Own k (with_outcome o l)
  own-outcome o g =
      let m : LinkState = record l { endpoint = o.new_state } in
      let e = endpoint_with_frames o.frames m in
      record {
        answer = readdressed (with_frames o.frames m).answer (ap (λ (x : EndpointState). x.role) e ∙ g.role)
            (ap (λ (x : EndpointState). x.sapi) e ∙ g.sapi)
            (owed-frames l.endpoint.role l.endpoint.sapi o.frames m g.frames h.answer);
        normal = λ is. ap (λ (x : EndpointState). x.sapi) e ∙ g.sapi ∙ h.normal is;
      }

  pub own-afresh : Own k (afresh l)
  own-afresh = record { answer = tt; normal = h.normal }

  own-normal : Own k (as_normal l)
  own-normal = record { answer = tt; normal = λ is. refl }

  own-found : (b : Bool) → Own k (if b then afresh l else l)
  own-found true = own-afresh
  own-found false = h

  own-renewed : (f : Frame) → Own k (renewed_for f l)
  own-renewed f = by (is_opened_again f l) (is_return f l)
    where
      by : (b c : Bool) → Own k (if b then afresh l else (if c then as_normal l else l))
      by true c = own-afresh
      by false true = own-normal
      by false false = h

  pub own-slot : Own k (slot_outcome l).link
  own-slot = by (slot_outcome l) (is_slot l)
    where
      by : (o : SlotOutcome) → IsSlot l o → Own k o.link
      by o (sabm_first opening first due new) = record { answer = h.answer; normal = h.normal }
      by o (idles first owes_none due) = h
      by o (answering f first owes back) = record { answer = tt; normal = h.normal }
      by o (repeating await due new) = record { answer = tt; normal = h.normal }
      by o (expiring await sent due over) = record { answer = tt; normal = λ is. expired-sapi l.endpoint ∙ h.normal is }

module _ {k : Sapi} {l : LinkState} (h : Own k l) where
  pub own-call : (call : Call) → IsLinkCall call → Own k (after_call call l)
  own-call call is = by (is_reopened_by_call call l)
    where
      by : (b : Bool) → Own k (let m = if b then afresh l else l in with_outcome (call_outcome call m.endpoint) m)
      by b =
          let m : LinkState = if b then afresh l else l in
          own-outcome (own-found h b) (call_outcome call m.endpoint) (returns-call call m.endpoint is)

  own-frame : (f : Frame) → Own k (after_frame f l)
  own-frame f = by (ignores f l) (is_reopened_by_frame f l)
    where
      by : (a b : Bool) → Own k (if a then l else (let m = if b then afresh l else l in with_outcome (received_outcome f m) m))
      by true b = h
      by false b =
          let m : LinkState = if b then afresh l else l in
          own-outcome (own-found h b) (received_outcome f m) (returns-received f m)

pub own-received : {k : Sapi} {l : LinkState} → Own k l → (f : Frame) → Own k (after_received f l)
own-received h f = let g = own-frame (own-renewed h f) f in record { answer = g.answer; normal = g.normal }

-- ---- the frame of a slot

-- the frame has this SAPI, and is no UI frame
pub record IsOf (s : Sapi) (f : Frame) : Type 0 where
  pub sapi : f.sapi ≡ sapi_number s
  pub kind : is_ui f.content ≡ false

answer-no_ui : (c : Content) → is_answer_kind c ≡ true → is_ui c ≡ false
answer-no_ui c h = grind arith

awaited-no_ui : (p : Bool) (st : State) (e : EndpointState) → is_ui (awaited_frame p st e).content ≡ false
awaited-no_ui p st e = grind arith

awaited-of : (p : Bool) (e : EndpointState) → IsOf e.sapi (awaited_frame p e.state e)
awaited-of p e = record { sapi = awaited-own p e.state e; kind = awaited-no_ui p e.state e }

expired-of : (e : EndpointState) → IfSome (first_frame (t200_expiry e).frames) (IsOf e.sapi)
expired-of e = grind (arith, awaited-of true e)

pub slot-of : {k : Sapi} {l : LinkState} → Own k l → IfSome (slot_outcome l).frame (IsOf l.endpoint.sapi)
slot-of {l = l} h = by (slot_outcome l) (is_slot l)
  where
    by : (o : SlotOutcome) → IsSlot l o → IfSome o.frame (IsOf l.endpoint.sapi)
    by o (sabm_first opening first due new) = awaited-of false l.endpoint
    by o (idles first owes_none due) = tt
    by o (answering f first owes back) =
        let a : IsAnswer l.endpoint.role l.endpoint.sapi f = rw owes at h.answer in
        record { sapi = a.sapi_is; kind = answer-no_ui f.content a.kind }
    by o (repeating await due new) = awaited-of false l.endpoint
    by o (expiring await sent due over) = expired-of l.endpoint
