-- The steps of one link in a run (`Links`), with what its ends have heard: no SABM opens an open link again.
use Rattle.{
  std.specs.{Prelude.{◌≡◌, ◌++◌, Bool, false, true, if◌then◌else◌, ℕ, List, [], ◌∷◌, map, Some, None}},
  std.specs.List.cons_option,
  std.proofs.{Common.{refl, ap, ◌∙◌}, Math.Bool.and-false},
  lapdm_frame.specs.Content.{Frame, Ui},
  lapdm_end.specs.lapdm_window.{declared.Sapi.Sapi, Ends.Role, Calls.{Call, SendsUi, IsCallAllowedFor, refusal_of}},
  lapdm_link.proofs.Lemmas.{IsPlaced, LogLine, Asked, Notified, is_on},
  lapdm_datalink.{
    specs.Links.{LinkState, IsLinkCall, after_call, for_call, afresh, after_slot, slot_outcome, ui_frame, is_reopened_by_frame, heard_with},
    specs.Links.{after_received, received_notices},
  },
  lapdm_delivery.{
    proofs.Queues.pending,
    proofs.Links.{LinkAt, not_reopened, stays, passes_slot, slot_step, unit_step, call_step, lose_step, take_step},
    proofs.Heard.{IsHeard, Ages, ages-same, ages-call, ages-received, received-is, notices-are, shows-slot, heard_call, heard_slot, IsElse},
    proofs.Heard.{sender_ages, receiver_ages, sender_sends, rest_heard, not_again, taken_heard, slot_is_silent, slot_is_settled},
    proofs.Heard.{slot_is_full, else_is_silent, else_is_settled, else_is_full},
  },
}

-- a session reaches a state that both ends of a link fit, and each has heard of the other what an IsHeard says
pub record Known (s : Sapi) (r : Role) (air : List Frame) (l : LinkState) (air' : List Frame) (l' : LinkState)
    (log : List LogLine) : Type 0 where
  pub link : LinkAt s r air l air' l' log
  pub out : IsHeard s s air l l'
  pub back : IsHeard s s air' l' l

pub ages-slot : (k : Sapi) (l : LinkState) → Ages k l (after_slot l)
ages-slot k l =
    record { past = λ p. p; fine = λ h. record { sapi = h.sapi; informed = h.informed; answer = h.answer } }

pub unit_is_else : (s : Sapi) (f : Frame) (m : List ℕ) → f.content ≡ Ui false m → IsElse s (Some f)
unit_is_else s f m e = rw e (and-false (is_on s f), and-false (is_on s f))

-- what a link has heard plays no part in the session
reheard : {s : Sapi} {r : Role} {air air' : List Frame} {l l' : LinkState} {log : List LogLine} (b : Bool) →
    LinkAt s r air l air' l' log → LinkAt s r air (record l { heard = b }) air' l' log
reheard b k = stays k refl k.here.queue (record {
  clock = k.here.sound.clock;
  answer = k.here.sound.answer;
  idle = k.here.sound.idle;
})

module _ {s : Sapi} {r : Role} {air air' : List Frame} {l l' : LinkState} {log : List LogLine}
    (k : Known s r air l air' l' log)
  where
    pub known_passes : Known s r air (after_slot l) air' l' log
    known_passes = record {
      link = passes_slot k.link;
      out = sender_ages k.out (ages-slot s l);
      back = receiver_ages k.back refl;
    }

    pub known_slot : Known s r (air ++ cons_option (slot_outcome l).frame []) (slot_outcome l).link air' l'
        (log ++ map (Notified r s) (slot_outcome l).notices)
    known_slot =
        let o = slot_outcome l in
        let h = shows-slot s l k.out.fine in
        record {
          link = slot_step k.link;
          out = sender_sends k.out (cons_option o.frame []) h.ages (λ p. slot_is_silent s o.frame (h.quiet p))
              (slot_is_settled s o.link.endpoint.state o.frame h.past_if_shown) (slot_is_full s s o.frame h.full);
          back = receiver_ages k.back (heard_slot l);
        }

    pub known_unit : (m : List ℕ) → pending l ≡ [] → refusal_of (SendsUi m) l.endpoint ≡ None →
        Known s r (air ++ ui_frame m l.endpoint ∷ []) l air' l' (log ++ Asked r s (SendsUi m) ∷ [])
    known_unit m waits ok =
        let u = ui_frame m l.endpoint in
        record {
          link = unit_step k.link m waits ok;
          out = sender_sends k.out (u ∷ []) (ages-same s l) (λ p. else_is_silent s (Some u) (unit_is_else s u m refl))
              (else_is_settled s l.endpoint.state (Some u) (unit_is_else s u m refl))
              (else_is_full s s (Some u) (unit_is_else s u m refl));
          back = k.back;
        }

    pub known_call : (call : Call) → IsLinkCall call → IsCallAllowedFor r s call → IsPlaced r s call →
        refusal_of call l.endpoint ≡ None →
        Known s r air (after_call call l) air' l' (log ++ Asked r s call ∷ [])
    known_call call own may placed ok =
        let once = not_reopened l call ok in
        let same : refusal_of call (for_call call l).endpoint ≡ None =
        ap (λ (b : Bool). refusal_of call (if b then afresh l else l).endpoint) once ∙ ok in
        record {
          link = call_step k.link call own placed ok;
          out = sender_ages k.out (ages-call s r call l own may once None same k.out.fine);
          back = receiver_ages k.back (heard_call call l once None);
        }

module _ {s : Sapi} {r : Role} {air rest : List Frame} {l l' : LinkState} {f : Frame} {log : List LogLine}
    (k : Known s r air l (f ∷ rest) l' log)
  where
    pub known_lose : Known s r air l rest l' log
    known_lose = record { link = lose_step k.link; out = k.out; back = rest_heard k.back }

    pub known_take : is_on s f ≡ true → is_reopened_by_frame f l ≡ false →
        Known s r air (after_received f l) rest l' (log ++ map (Notified r s) (received_notices f l))
    known_take on once =
        let same = not_again k.back k.out.fine.sapi on in
        record {
          link = rw (received-is f l same, notices-are f l same) (reheard (heard_with f l) (take_step k.link on once));
          out = sender_ages k.out (ages-received s f l once same);
          back = taken_heard k.back k.out.fine.sapi on;
        }
