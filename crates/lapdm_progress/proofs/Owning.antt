-- Each link of a data link owes and sends only frames of the SAPI of its endpoint, none of them UI, and the endpoint of the link of SAPI 3
-- has SAPI 3.
use Rattle.lapdm_delivery.specs.Lockstep.{after_calls}
use Rattle.lapdm_datalink.specs.Links.{after_call, after_slot}
use Rattle.lapdm_delivery.specs.Lockstep.{Part, Run, ready, ready_at, side_at, arriving_at, HasCalls, IsCallOf, after_call_unless}
use Rattle.lapdm_delivery.specs.Lockstep.{after_call_of}
use Rattle.std.specs.Prelude.{◌≡◌, ℕ, zero, suc, Bool, true, false, if◌then◌else◌, List, [], ◌∷◌, All}
use Rattle.std.specs.Prelude.{Option, Some, None, IfSome}
use Rattle.std.proofs.Common.{arith, refl, ◌∙◌}
use Rattle.std.proofs.lemmas.List.Elements.{All-head, All-tail}
use Rattle.lapdm_frame.specs.Content.{Content, Ui, Frame}
use Rattle.lapdm_end.specs.lapdm_window.declared.Sapi.{Sapi}
use Rattle.lapdm_end.specs.lapdm_window.declared.Sapi.TheVariants.{Zero, Three}
use Rattle.lapdm_end.specs.lapdm_window.declared.State.{State}
use Rattle.lapdm_end.specs.lapdm_window.declared.Refused.{Refused}
use Rattle.lapdm_end.specs.lapdm_window.Ends.{Role, EndpointState, Outcome, sapi_number}
use Rattle.lapdm_end.specs.lapdm_window.Calls.{Call, awaited_frame, t200_expiry}
use Rattle.lapdm_datalink.specs.Links.{LinkState, SlotOutcome, is_awaiting_kind, with_frame, with_frames, with_outcome, afresh, for_call}
use Rattle.lapdm_datalink.specs.declared.data_links.Establishment.{Establishment}
use Rattle.lapdm_datalink.specs.Links.{after_received, renewed_for, as_normal}
use Rattle.lapdm_datalink.specs.Links.{for_frame, IsLinkCall, after_frame, ignores, received_outcome, slot_outcome, first_frame}
use Rattle.lapdm_datalink.specs.DataLinks.{DataLinkState, link_with_sapi, taken_by, sapi_for_frame, is_ui, having_main, data_link_outcome}
use Rattle.lapdm_datalink.specs.DataLinks.{with_sapi3, with_clocks_moved}
use Rattle.lapdm_datalink.specs.Abstraction.{IsAnswer, is_answer_kind}
use Rattle.lapdm_delivery.specs.Runs.{after_arrival_if_any}
use Rattle.lapdm_delivery.proofs.Heard.{expired-sapi}
use Rattle.lapdm_datalink.proofs.Returned.{IsReturned, Returns, returns-call, returns-received}
use Rattle.lapdm_datalink.proofs.Lemmas.{awaited-own, endpoint_with_frame, by_renewal}
use Rattle.lapdm_datalink.proofs.Answering.{IsSlot, sabm_first, idles, answering, repeating, expiring, is_slot}

abbrev pub IsOf : Sapi → Frame → Type 0
IsOf s f = (f.sapi ≡ sapi_number s) × (is_ui f.content ≡ false)

-- `s` is the SAPI of the link
pub record Owns (s : Sapi) (l : LinkState) : Type 0 where
  pub sapi : s ≡ Three → l.endpoint.sapi ≡ Three
  pub answer : IfSome l.answer (IsOf l.endpoint.sapi)

answer-no_ui : (c : Content) → is_answer_kind c ≡ true → is_ui c ≡ false
answer-no_ui (Ui p info) h = absurd cc
answer-no_ui c h = refl

answer-of : (role : Role) (s : Sapi) (f : Frame) → IsAnswer role s f → IsOf s f
answer-of role s f h = (h.sapi_is, answer-no_ui f.content h.kind)

own_frames : (role : Role) (s : Sapi) (fs : List Frame) (l : LinkState) → All (IsReturned role l.endpoint.sapi) fs → Owns s l →
    Owns s (with_frames fs l)
own_frames role s [] l h g = g
own_frames role s (f ∷ fs) l h g =
    own_frames role s fs (with_frame f l)
    (rw (endpoint_with_frame f l) (All-tail (IsReturned role l.endpoint.sapi) f fs h)) (by_kind (is_awaiting_kind f.content) refl)
  where
    by_kind : (b : Bool) → is_awaiting_kind f.content ≡ b →
        Owns s (if b then record l { is_sent = false; clock = 0 } else record l { answer = Some f })
    by_kind true e = record { sapi = g.sapi; answer = g.answer }
    by_kind false e = record {
      sapi = g.sapi;
      answer = answer-of role l.endpoint.sapi f (All-head (IsReturned role l.endpoint.sapi) f fs h e);
    }

own_if : (s : Sapi) (b : Bool) (l m : LinkState) → Owns s l → Owns s m → Owns s (if b then l else m)
own_if s true l m h g = h
own_if s false l m h g = g

module _ (s : Sapi) (l : LinkState) (h : Owns s l) where
  own_outcome : (o : Outcome) → Returns l.endpoint o → Owns s (with_outcome o l)
  own_outcome o r =
      own_frames l.endpoint.role s o.frames (record l { endpoint = o.new_state })
      (rw r.sapi r.frames) (record { sapi = λ e. r.sapi ∙ h.sapi e; answer = rw r.sapi h.answer })

  own_afresh : Owns s (afresh l)
  own_afresh = record { sapi = h.sapi; answer = tt }

  own_normal : Owns s (as_normal l)
  own_normal = record { sapi = λ e. refl; answer = tt }

own_call : (s : Sapi) (call : Call) (l : LinkState) → IsLinkCall call → Owns s l → Owns s (after_call call l)
own_call s call l is h =
    own_outcome s (for_call call l) (own_if s _ (afresh l) l (own_afresh s l h) h) _ (returns-call call (for_call call l).endpoint is)

own_frame : (s : Sapi) (f : Frame) (l : LinkState) → Owns s l → Owns s (after_frame f l)
own_frame s f l h =
    own_if s (ignores f l) l (with_outcome (received_outcome f (for_frame f l)) (for_frame f l)) h
    (own_outcome s (for_frame f l) (own_if s _ (afresh l) l (own_afresh s l h) h) (received_outcome f (for_frame f l))
    (returns-received f (for_frame f l)))

own_received : (s : Sapi) (f : Frame) (l : LinkState) → Owns s l → Owns s (after_received f l)
own_received s f l h =
    let g = own_frame s f (renewed_for f l) (by_renewal (Owns s) f l h (own_afresh s l h) (own_normal s l h)) in
    record { sapi = g.sapi; answer = g.answer }

awaited-no_ui : (p : Bool) (st : State) (e : EndpointState) → is_ui (awaited_frame p st e).content ≡ false
awaited-no_ui p st e = grind arith

awaited-of : (p : Bool) (st : State) (e : EndpointState) → IsOf e.sapi (awaited_frame p st e)
awaited-of p st e = (awaited-own p st e, awaited-no_ui p st e)

own_passes : (s : Sapi) (l : LinkState) → Owns s l → Owns s (after_slot l)
own_passes s l h = record { sapi = h.sapi; answer = h.answer }

-- a slot of a link that owns what it owes
pub record OwnSlot (s : Sapi) (l : LinkState) (o : SlotOutcome) : Type 0 where
  pub link : Owns s o.link
  pub frame : IfSome o.frame (IsOf l.endpoint.sapi)

own_slot_by : (s : Sapi) (l : LinkState) (o : SlotOutcome) → Owns s l → IsSlot l o → OwnSlot s l o
own_slot_by s l o h (sabm_first opening first due new) = record {
  link = record { sapi = h.sapi; answer = h.answer };
  frame = awaited-of false l.endpoint.state l.endpoint;
}
own_slot_by s l o h (idles first owes_none due) = record { link = h; frame = tt }
own_slot_by s l o h (answering f first owes back) = record { link = record { sapi = h.sapi; answer = tt }; frame = rw owes at h.answer }
own_slot_by s l o h (repeating await due new) = record {
  link = record { sapi = h.sapi; answer = tt };
  frame = awaited-of false l.endpoint.state l.endpoint;
}
own_slot_by s l o h (expiring await sent due over) = record {
  link = record { sapi = λ e. expired-sapi l.endpoint ∙ h.sapi e; answer = tt };
  frame = expired-of;
}
  where
    expired-of : IfSome (first_frame (t200_expiry l.endpoint).frames) (IsOf l.endpoint.sapi)
    expired-of = grind (arith, awaited-of true l.endpoint.state l.endpoint)

own_slot : (s : Sapi) (l : LinkState) → Owns s l → OwnSlot s l (slot_outcome l)
own_slot s l h = own_slot_by s l (slot_outcome l) h (is_slot l)

own_arrival : (s : Sapi) (a : Option Frame) (d : DataLinkState) → Owns s (link_with_sapi s d) →
    Owns s (link_with_sapi s (after_arrival_if_any a d))
own_arrival s None d h = h
own_arrival s (Some f) d h = by s (sapi_for_frame f d) h
  where
    by : (s : Sapi) (t : Option Sapi) → Owns s (link_with_sapi s d) → Owns s (link_with_sapi s (taken_by t f d))
    by Zero None h = h
    by Zero (Some Zero) h = own_received Zero f d.link0 h
    by Zero (Some Three) h = h
    by Three None h = h
    by Three (Some Zero) h = h
    by Three (Some Three) h = own_received Three f d.link3 h

own_called : (s : Sapi) (r : Option Refused) (call : Call) (l : LinkState) → IsLinkCall call → Owns s l →
    Owns s (after_call_unless r call l)
own_called s None call l is h = own_call s call l is h
own_called s (Some why) call l is h = h

own_calls : (e : Establishment) (role : Role) (s : Sapi) (cs : List (Sapi × Call)) (d : DataLinkState) → All (IsCallOf e role) cs →
    Owns s (link_with_sapi s d) → Owns s (link_with_sapi s (after_calls cs d))
own_calls e role s [] d h g = g
own_calls e role s ((t, call) ∷ cs) d h g =
    own_calls e role s cs (after_call_of (t, call) d) (All-tail (IsCallOf e role) (t, call) cs h) (by s t g)
  where
    by : (s t : Sapi) → Owns s (link_with_sapi s d) → Owns s (link_with_sapi s (after_call_of (t, call) d))
    by Zero Zero g = own_called Zero _ call d.link0 (All-head (IsCallOf e role) (t, call) cs h).1 g
    by Zero Three g = g
    by Three Zero g = g
    by Three Three g = own_called Three _ call d.link3 (All-head (IsCallOf e role) (t, call) cs h).1 g

-- ---- both links

pub own_ready : (e : Establishment) (role : Role) (p : Part) (a : Option Frame) (d : DataLinkState) → All (IsCallOf e role) p.calls →
    ((s : Sapi) → Owns s (link_with_sapi s d)) → (s : Sapi) → Owns s (link_with_sapi s (ready p a d))
own_ready e role p a d calls h s = own_calls e role s p.calls _ calls (own_arrival s a _ (with_main s (h s)))
  where
    with_main : (s : Sapi) → Owns s (link_with_sapi s d) → Owns s (link_with_sapi s (having_main p.is_main_established d))
    with_main Zero g = g
    with_main Three g = g

pub own_moved : (s : Sapi) (d : DataLinkState) → ((s : Sapi) → Owns s (link_with_sapi s d)) →
    Owns s (link_with_sapi s (with_clocks_moved d))
own_moved Zero d h = own_passes Zero d.link0 (h Zero)
own_moved Three d h = own_if Three d.heard_sapi0 d.link3 (after_slot d.link3) (h Three) (own_passes Three d.link3 (h Three))

-- what the link of this SAPI does if it has the slot
pub own_slot_of : (s : Sapi) (d : DataLinkState) → ((s : Sapi) → Owns s (link_with_sapi s d)) →
    OwnSlot s (link_with_sapi s (with_clocks_moved d)) (slot_outcome (link_with_sapi s (with_clocks_moved d)))
own_slot_of s d h = own_slot s (link_with_sapi s (with_clocks_moved d)) (own_moved s d h)

own_after : (d : DataLinkState) → ((s : Sapi) → Owns s (link_with_sapi s d)) → (s : Sapi) →
    Owns s (link_with_sapi s (data_link_outcome d).new_state)
own_after d h s = by s (slot_outcome (after_slot d.link0)).frame
  where
    by : (s : Sapi) (a : Option Frame) →
        Owns s (link_with_sapi s (with_sapi3 (slot_outcome (after_slot d.link0)) a (with_clocks_moved d)).new_state)
    by Zero None = (own_slot_of Zero d h).link
    by Zero (Some f) = (own_slot_of Zero d h).link
    by Three None = (own_slot_of Three d h).link
    by Three (Some f) = own_moved Three d h

own_start : (s : Sapi) (role : Role) (r : Run) → Owns s (link_with_sapi s (side_at r 0 role).data_link)
own_start Zero role r = record { sapi = λ e. absurd cc; answer = tt }
own_start Three role r = record { sapi = λ e. refl; answer = tt }

-- each link owns what it owes, before each slot, and before it sends
module _ (r : Run) (calls : HasCalls r) where
  pub owned : (n : ℕ) (role : Role) (s : Sapi) → Owns s (link_with_sapi s (side_at r n role).data_link)
  owned zero role s = own_start s role r
  owned (suc n) role s = own_after (ready_at r n role)
      (own_ready r.establishment role (r.part n role) (arriving_at r n role) (side_at r n role).data_link (calls n role) (owned n role)) s

  pub owned_ready : (n : ℕ) (role : Role) (s : Sapi) → Owns s (link_with_sapi s (ready_at r n role))
  owned_ready n role =
      own_ready r.establishment role (r.part n role) (arriving_at r n role) (side_at r n role).data_link (calls n role) (owned n role)
