-- The steps of one link in a run, each as events of a session of `lapdm_link`.
use Rattle.{
  lapdm_datalink.{
    proofs.{
      Lemmas.{awaited-own, endpoint_with_frame, endpoint_with_frames},
      Answering.{IsSlot, sabm_first, idles, answering, repeating, expiring, is_slot},
    },
    specs.Links.{is_closed, is_opening_call, afresh, IsLinkCall, LinkState, SlotOutcome, is_opening, is_awaiting_kind, with_frame},
    specs.Links.{with_frames, with_outcome, first_frame, after_call, after_frame, frame_notices, received_outcome, is_reopened_by_call},
    specs.Links.{is_reopened_by_frame, ignores, refuses, after_slot, slot_outcome, ui_frame, as_taken, content_as_taken},
  },
  lapdm_link.{
    proofs.{
      Lemmas.{◌≡◌, refl, sym, ap, ◌∙◌, arith, subst, ◌++◌, Bool, true, false, List, [], ◌∷◌, ◌&&◌, ◌⊎◌},
      Lemmas.{inl, inr, ℕ, ◌+◌, map, nat_lt, append_assoc, append-nil, filter_map-append, if◌then◌else◌, Option, Some, None},
      Lemmas.{cons_option, drop, Frame, Content, Ui, Role, Mobile, Network, Sapi, EndpointState, Outcome, Call, Opens, OpensWithoutInfo},
      Lemmas.{Sends, SendsUi, Closes, T200Expires, Repeats, SendsFillFrame, call_outcome, refusal_of, frame_outcome, sends_frame},
      Lemmas.{awaited_frame, sapi_number, other, World, end_of, way, acted, without_oldest_item, AllOf, AllFrames, IsForSapi, is_on},
      Lemmas.{other_is, end_of-acted, end_of-acted_else, way-acted, way-acted_other, LogLine, Asked, Notified, Notice, HasWindowOfOne},
      Lemmas.{Says, is_called, taken-frame, IsPlaced, Idle, State, n200, Closed, Goes, remains, ends, closes, begins, opens, cause_of},
      Lemmas.{IsReplyTo, closes_and_reports, may_send_next_segment, with_queued_message, sends_segment, no_effect, is_idle-is, not_false},
      Lemmas.{passes, single_frame_refusal_checks},
    },
    specs.{Events.{BothSides, endpoint_at}, Worlds.{rej_replaced_by_rr, rr_for_rej, dm_for_any, with_nr, without_ack}},
  },
  std.{specs.Prelude.{IfSome, ◌||◌}, proofs.lemmas.Bool.Decides.nat_tests},
  lapdm_end.specs.lapdm_window.{
    Tables.{Reply, reply_to_frame, outcome_of_reply, Nothing, SendsDm, SendsUa, ReportsUiInformation, TakesIFrame, TakesRr, TakesRej},
    declared.State.TheVariants.{Closing, Open, Opening},
    Ends.{command_frame, response_frame, va},
    Rules.is_open,
    Calls.{sabm, t200_expiry},
  },
  lapdm_frame.specs.Content.{Dm, Disc},
  lapdm_delivery.proofs.{
    Claims.seen,
    Idle.{IsReadFor, ReadsOldest},
    Worlds.{Reaches, calls, takes, loses, silent},
    Queues.{IsCovered, StandsFor, all, append, dm_for_disc, dropped, empty, itself, kept, none},
    Queues.{on_air, pending, unsent-elsewhere, unsent-sent, IsNoOpening, elsewhere, answers, pending-outcome},
  },
}
use Rattle.lapdm_end.specs.lapdm_window.declared.Reason.TheVariants as R

-- what holds of each link: a frame that was not sent is due, the answer has the SAPI of the link, and a link in Idle owes none
pub record IsSound (s : Sapi) (l : LinkState) : Type 0 where
  pub clock : l.is_sent ≡ false → l.clock ≡ 0
  pub answer : IfSome l.answer (λ f. is_on s f ≡ true)
  pub idle : l.endpoint.state ≡ Idle → l.answer ≡ None

-- the link, with these frames of its SAPI on the air, is an endpoint of a session and its queue
pub record Fits (r : Role) (s : Sapi) (air : List Frame) (l : LinkState) (w : World) : Type 0 where
  pub endpoint : end_of r s w ≡ l.endpoint
  pub queue : IsCovered (air ++ pending l) (way r w)
  pub sound : IsSound s l

-- a session reaches a state that both ends of a link fit; layer 3 has seen `log`
pub record LinkAt (s : Sapi) (r : Role) (air : List Frame) (l : LinkState) (air' : List Frame) (l' : LinkState)
    (log : List LogLine) : Type 0 where
  pub world : World
  pub lines : List LogLine
  pub reaches : Reaches s world lines
  pub seen_lines : seen lines ≡ log
  pub here : Fits r s air l world
  pub there : Fits (other r) s air' l' world

-- ---- the frames of a step have the SAPI of the link

abbrev pub AllOn : Sapi → List Frame → Type 0
AllOn s fs = AllOf (λ f. is_on s f ≡ true) fs

pub on_own : (s : Sapi) (f : Frame) → f.sapi ≡ sapi_number s → is_on s f ≡ true
on_own s f e = grind arith

pub on_is : (s : Sapi) (f : Frame) → is_on s f ≡ true → f.sapi ≡ sapi_number s
on_is s f e = grind (arith, nat_tests)

module _ (call : Option Call) (x z : EndpointState) (s : Sapi) (not_ui : (info : List ℕ) → call ≡ Some (SendsUi info) → ⊥)
    (not_fill : call ≡ Some SendsFillFrame → ⊥)
  where
    frame-on : (f : Frame) → IsForSapi s f → Says call x z f.content → is_on s f ≡ true
    frame-on f (inl e) h = on_own s f e
    frame-on f (inr e) h = absurd (no_ui (rw e at h))
      where
        no_ui : Says call x z (Ui false []) → ⊥
        no_ui (inl g) = not_ui [] g
        no_ui (inr g) = not_fill g.0

    frames-on : (fs : List Frame) → AllFrames (Says call x z) s fs → AllOn s fs
    frames-on [] h = tt
    frames-on (f ∷ fs) h = (frame-on f h.0 h.1, frames-on fs h.2)

sound-frames : (s : Sapi) (fs : List Frame) (l : LinkState) → AllOn s fs → (l.endpoint.state ≡ Idle → fs ≡ []) → IsSound s l →
    IsSound s (with_frames fs l)
sound-frames s [] l g idle h = h
sound-frames s (f ∷ fs) l g idle h =
    sound-frames s fs (with_frame f l) g.1 (λ e. absurd (never (rw (endpoint_with_frame f l) at e))) (by_kind (is_awaiting_kind f.content))
  where
    never : l.endpoint.state ≡ Idle → ⊥
    never e = let none_sent : f ∷ fs ≡ [] = idle e in cc

    by_kind : (b : Bool) → IsSound s (if b then record l { is_sent = false; clock = 0 } else record l { answer = Some f })
    by_kind true = record { clock = λ e. refl; answer = h.answer; idle = h.idle }
    by_kind false = record { clock = h.clock; answer = g.0; idle = λ e. absurd (never e) }

-- ---- layer 3 sees every notice

notices-seen : (r : Role) (s : Sapi) (ns : List Notice) → seen (map (Notified r s) ns) ≡ map (Notified r s) ns
notices-seen r s [] = refl
notices-seen r s (n ∷ ns) = ap (λ ls. Notified r s n ∷ ls) (notices-seen r s ns)

seen-asked : (r : Role) (s : Sapi) (call : Call) {ns : List Notice} → IsLinkCall call → ns ≡ [] →
    seen (Asked r s call ∷ map (Notified r s) ns) ≡ Asked r s call ∷ []
seen-asked r s (Opens info) own e = rw e refl
seen-asked r s OpensWithoutInfo own e = rw e refl
seen-asked r s (Sends m) own e = rw e refl
seen-asked r s Closes own e = rw e refl
seen-asked r s call own e = absurd own

-- in this module, a session reaches a state that both ends of a link fit
module _ {s : Sapi} {r : Role} {air air' : List Frame} {l l' : LinkState} {log : List LogLine}
    (k : LinkAt s r air l air' l' log)
  where
    pub own_sapi : l.endpoint.sapi ≡ s
    own_sapi = ap (λ (e : EndpointState). e.sapi) (sym k.here.endpoint) ∙ (k.reaches.reached.reported r s).sapi

    window : HasWindowOfOne l.endpoint
    window = rw k.here.endpoint at (k.reaches.reached.reported r s).window_of_one

    -- nothing happens in the session
    pub stays : {air2 : List Frame} {l2 : LinkState} → l2.endpoint ≡ l.endpoint → IsCovered (air2 ++ pending l2) (way r k.world) →
        IsSound s l2 → LinkAt s r air2 l2 air' l' log
    stays e queue sound = record {
      world = k.world;
      lines = k.lines;
      reaches = k.reaches;
      seen_lines = k.seen_lines;
      here = record { endpoint = k.here.endpoint ∙ sym e; queue = queue; sound = sound };
      there = k.there;
    }

    -- the endpoint acts in a state in which the other end fits
    acts : {air2 there_air : List Frame} {l2 : LinkState} (v : World) (o : Outcome) (new seen_new : List LogLine) →
        Reaches s (acted r s o v) (k.lines ++ new) → seen new ≡ seen_new → Fits (other r) s there_air l' v →
        l2.endpoint ≡ o.new_state → IsCovered (air2 ++ pending l2) (way r v ++ o.frames) → IsSound s l2 →
        LinkAt s r air2 l2 there_air l' (log ++ seen_new)
    acts v o new seen_new reaches is there e queue sound = record {
      world = acted r s o v;
      lines = k.lines ++ new;
      reaches = reaches;
      seen_lines = filter_map-append _ k.lines new ∙ rw (k.seen_lines, is) refl;
      here = record { endpoint = end_of-acted r s o v ∙ sym e; queue = rw (way-acted r s o v) queue; sound = sound };
      there = record {
        endpoint = end_of-acted_else r s o v (other r) s (other_is r s) ∙ there.endpoint;
        queue = rw (way-acted_other r s o v) there.queue;
        sound = there.sound;
      };
    }

    -- the endpoint carries out a call
    calls_with : {air2 : List Frame} {l2 : LinkState} (call : Call) (seen_new : List LogLine) → IsPlaced r s call →
        refusal_of call l.endpoint ≡ None →
        seen (Asked r s call ∷ map (Notified r s) (call_outcome call l.endpoint).notices) ≡ seen_new →
        l2.endpoint ≡ (call_outcome call l.endpoint).new_state →
        IsCovered (air2 ++ pending l2) (way r k.world ++ (call_outcome call l.endpoint).frames) → IsSound s l2 →
        LinkAt s r air2 l2 air' l' (log ++ seen_new)
    calls_with call seen_new placed ok is e queue sound =
        acts k.world (call_outcome call l.endpoint) (Asked r s call ∷ map (Notified r s) (call_outcome call l.endpoint).notices) seen_new
        (rw k.here.endpoint at (calls k.reaches r call placed (rw k.here.endpoint ok))) is k.there e queue sound

    -- ---- a slot passes

    pub passes_slot : LinkAt s r air (after_slot l) air' l' log
    passes_slot = by_sent l.is_sent refl
      where
        by_sent : (b : Bool) → l.is_sent ≡ b → LinkAt s r air (after_slot l) air' l' log
        by_sent true e = stays refl
            (rw (unsent-sent (after_slot l) e) (rw (unsent-sent l e) at k.here.queue)) (record {
              clock = λ n. absurd cc;
              answer = k.here.sound.answer;
              idle = k.here.sound.idle;
            })
        by_sent false e = (let zero = k.here.sound.clock e in stays refl (rw zero (rw zero at k.here.queue)) (record {
          clock = λ n. rw zero refl;
          answer = k.here.sound.answer;
          idle = k.here.sound.idle;
        }))

    -- ---- a slot

    -- the endpoint repeats its frame, or T200 expires: what it returns is on the air, and nothing waits
    sends_now : (call : Call) {l2 : LinkState} (frames : List Frame) (seen_new : List LogLine) → IsPlaced r s call →
        refusal_of call l.endpoint ≡ None →
        seen (Asked r s call ∷ map (Notified r s) (call_outcome call l.endpoint).notices) ≡ seen_new →
        l2.endpoint ≡ (call_outcome call l.endpoint).new_state → l2.is_sent ≡ true → l2.answer ≡ None →
        IsCovered frames (call_outcome call l.endpoint).frames → LinkAt s r (air ++ frames) l2 air' l' (log ++ seen_new)
    sends_now call {l2} frames seen_new placed ok is e sent owes_none sub =
        calls_with call seen_new placed ok is e
        (rw (unsent-sent l2 sent, owes_none, append-nil) (append (on_air air (pending l) k.here.queue) sub))
        (record { clock = λ n. absurd cc; answer = rw owes_none tt; idle = λ n. owes_none })

module _ (l : LinkState) where
  -- a link that leaves a slot free has nothing that waits
  pub free-waits : (o : SlotOutcome) → IsSlot l o → o.frame ≡ None → pending o.link ≡ []
  free-waits o (sabm_first opening first due new) h = absurd cc
  free-waits o (idles first owes_none due) h = rw (first, owes_none) refl
  free-waits o (answering f first owes back) h = absurd cc
  free-waits o (repeating awaits due new) h = absurd cc
  free-waits o (expiring awaits sent due over) h = rw (unsent-sent o.link sent) refl

awaited-on : (s : Sapi) (l : LinkState) → l.endpoint.sapi ≡ s → (p : Bool) →
    is_on s (awaited_frame p l.endpoint.state l.endpoint) ≡ true
awaited-on s l same p =
    on_own s (awaited_frame p l.endpoint.state l.endpoint) (awaited-own p l.endpoint.state l.endpoint ∙ ap sapi_number same)

awaited-sabm : (p : Bool) (st : State) (e : EndpointState) → is_opening st ≡ true → awaited_frame p st e ≡ sabm e
awaited-sabm p Opening e h = refl
awaited-sabm p st e h = absurd cc

first-some : (fs : List Frame) → IsCovered (cons_option (first_frame fs) []) fs
first-some [] = empty
first-some (f ∷ fs) = kept (itself refl) (none fs)

-- the frame that a link sends in a slot has its SAPI
pub slot-on : (s : Sapi) (l : LinkState) (o : SlotOutcome) → l.endpoint.sapi ≡ s → IsSound s l → IsSlot l o →
    IfSome o.frame (λ f. is_on s f ≡ true)
slot-on s l o same h (sabm_first opening first due new) = awaited-on s l same false
slot-on s l o same h (idles first owes_none due) = tt
slot-on s l o same h (answering f first owes back) = rw owes at h.answer
slot-on s l o same h (repeating awaits due new) = awaited-on s l same false
slot-on s l o same h (expiring awaits sent due over) = by_count (nat_lt l.endpoint.retries (n200 l.endpoint.channel l.endpoint.state))
  where
    by_count : (b : Bool) → IfSome (first_frame (if b then sends_frame (awaited_frame true l.endpoint.state l.endpoint)
        (record l.endpoint { retries = l.endpoint.retries + 1 }) else closes_and_reports R.Failed l.endpoint).frames)
        (λ f. is_on s f ≡ true)
    by_count true = awaited-on s l same true
    by_count false = tt

module _ {s : Sapi} {r : Role} {air air' : List Frame} {l l' : LinkState} {log : List LogLine}
    (k : LinkAt s r air l air' l' log)
  where
    slot_of : (o : SlotOutcome) → IsSlot l o →
        LinkAt s r (air ++ cons_option o.frame []) o.link air' l' (log ++ map (Notified r s) o.notices)
    slot_of o (sabm_first opening first due new) = rw (append-nil log) (stays k refl
        (rw (awaited-sabm false l.endpoint.state l.endpoint opening, unsent-sent o.link refl, append_assoc)
        (rw first at k.here.queue))
        (record { clock = λ n. absurd cc; answer = k.here.sound.answer; idle = k.here.sound.idle }))
    slot_of o (idles first owes_none due) = rw (append-nil air, append-nil log) k
    slot_of o (answering f first owes back) = rw (append-nil log) (stays k refl
        (rw (first, append-nil) (rw (first, owes) at k.here.queue))
        (record { clock = k.here.sound.clock; answer = tt; idle = λ n. refl }))
    slot_of o (repeating awaits due new) =
        sends_now k Repeats (awaited_frame false l.endpoint.state l.endpoint ∷ []) [] tt (rw awaits refl) refl refl refl refl (all _)
    slot_of o (expiring awaits sent due over) =
        sends_now k T200Expires (cons_option (first_frame (t200_expiry l.endpoint).frames) [])
        (map (Notified r s) (t200_expiry l.endpoint).notices) tt
        (rw awaits refl) (notices-seen r s (t200_expiry l.endpoint).notices) refl sent refl (first-some (t200_expiry l.endpoint).frames)

    pub slot_step : LinkAt s r (air ++ cons_option (slot_outcome l).frame []) (slot_outcome l).link air' l'
        (log ++ map (Notified r s) (slot_outcome l).notices)
    slot_step = slot_of (slot_outcome l) (is_slot l)

    -- ---- a UI frame in a free slot

    pub unit_step : (m : List ℕ) → pending l ≡ [] → refusal_of (SendsUi m) l.endpoint ≡ None →
        LinkAt s r (air ++ ui_frame m l.endpoint ∷ []) l air' l' (log ++ Asked r s (SendsUi m) ∷ [])
    unit_step m waits ok =
        calls_with k (SendsUi m) (Asked r s (SendsUi m) ∷ []) tt ok refl refl
        (rw (waits, append-nil) (append (on_air air (pending l) k.here.queue) (all (ui_frame m l.endpoint ∷ [])))) k.here.sound

-- ---- calls of layer 3

module _ (l : LinkState) where
  pub not_reopened : (call : Call) → refusal_of call l.endpoint ≡ None → is_reopened_by_call call l ≡ false
  not_reopened call ok = by_state l.endpoint.state refl call ok
    where
      by_state : (st : State) → l.endpoint.state ≡ st → (call : Call) →
          refusal_of call (record l.endpoint { state = st }) ≡ None →
          ((is_closed st || is_open st) && is_opening_call call) ≡ false
      by_state Closed e OpensWithoutInfo ok = absurd cc
      by_state Open e OpensWithoutInfo ok = absurd cc
      by_state Closed e call ok = refl
      by_state Open e call ok = refl
      by_state st e call ok = refl

  call-silent : (call : Call) → IsLinkCall call → (call_outcome call l.endpoint).notices ≡ []
  call-silent (Opens info) own = refl
  call-silent OpensWithoutInfo own = refl
  call-silent (Sends m) own = by_may (may_send_next_segment (with_queued_message m l.endpoint))
    where
      by_may : (b : Bool) → (if b then sends_segment (with_queued_message m l.endpoint)
          else no_effect (with_queued_message m l.endpoint)).notices ≡ []
      by_may b = grind arith
  call-silent Closes own = refl
  call-silent call own = absurd own

  -- layer 3 sends a message or releases the link only in Open
  send-open : (call : Call) → IsLinkCall call → refusal_of call l.endpoint ≡ None →
      (is_opening (call_outcome call l.endpoint).new_state.state ≡ false) ⊎ (l.endpoint.state ≡ Idle)
  send-open (Opens info) own ok = inr (is_idle-is l.endpoint.state (not_false _ (passes _ _ (single_frame_refusal_checks info l.endpoint)
      ok).not_refused))
  send-open OpensWithoutInfo own ok = inr (is_idle-is l.endpoint.state (not_false _ (passes _ _ [] ok).not_refused))
  send-open (Sends m) own ok = inl (grind arith)
  send-open Closes own ok = inl refl
  send-open call own ok = absurd own

  layer3-no_ui : (call : Call) → IsLinkCall call → (info : List ℕ) → Some call ≡ Some (SendsUi info) → ⊥
  layer3-no_ui (SendsUi m) own info h = own
  layer3-no_ui call own info h = cc h

  layer3-no_fill : (call : Call) → IsLinkCall call → Some call ≡ Some SendsFillFrame → ⊥
  layer3-no_fill SendsFillFrame own h = own
  layer3-no_fill call own h = cc h

  layer3-no_idle : (call : Call) → IsLinkCall call → refusal_of call l.endpoint ≡ None →
      (call_outcome call l.endpoint).new_state.state ≡ Idle → ⊥
  layer3-no_idle (Sends m) own ok h = grind arith
  layer3-no_idle (Opens info) own ok h = cc h
  layer3-no_idle OpensWithoutInfo own ok h = cc h
  layer3-no_idle Closes own ok h = cc h
  layer3-no_idle call own ok h = own

  -- ---- received frames

  open-stays : (c : Content) (o : Outcome) → Goes None c l.endpoint o → l.endpoint.state ≡ Open →
      is_opening o.new_state.state ≡ false
  open-stays c o (remains same e n) is_now = rw (same, is_now) refl
  open-stays c o (ends over e n) is_now = rw over refl
  open-stays c o (closes now closing e n) is_now = rw closing refl
  open-stays c o (begins opening a n) is_now = absurd a
  open-stays c o (opens n now e by) is_now = rw now refl

  reply-no_opening : (c : Content) (rp : Reply) → IsReplyTo c l.endpoint rp →
      (l.endpoint.state ≡ Open → is_opening (outcome_of_reply rp l.endpoint).new_state.state ≡ false) →
      IsNoOpening l (outcome_of_reply rp l.endpoint)
  reply-no_opening c Nothing cause is_now = answers refl tt
  reply-no_opening c SendsDm cause is_now = answers refl (refl, tt)
  reply-no_opening c (SendsUa info) cause is_now = answers refl (refl, tt)
  reply-no_opening c (ReportsUiInformation info) cause is_now = answers refl tt
  reply-no_opening c (TakesIFrame ns nr p segment) cause is_now = elsewhere (is_now cause.1)
  reply-no_opening c (TakesRr nr poll) cause is_now = elsewhere (is_now cause.2)
  reply-no_opening c (TakesRej nr poll) cause is_now = elsewhere (is_now cause.2)
  reply-no_opening c rp cause is_now = elsewhere refl

  received-no_opening : HasWindowOfOne l.endpoint → (g : Frame) → IsNoOpening l (frame_outcome g l.endpoint)
  received-no_opening w g =
      reply-no_opening g.content (reply_to_frame g l.endpoint) (cause_of l.endpoint g)
      (open-stays g.content (frame_outcome g l.endpoint) (taken-frame l.endpoint w g).goes)

-- the frame that an endpoint takes for this one: an RR for a REJ, with V(A) in place of N(R) if it acknowledges nothing
pub data IsTakenFor (e : EndpointState) (f g : Frame) : Type 0 where
  but_for_rej : g ≡ record f { content = rej_replaced_by_rr f.content } → IsTakenFor e f g
  without_nr : g ≡ record f { content = with_nr (va e) (rej_replaced_by_rr f.content) } → IsTakenFor e f g

content_is_taken : (c : Content) (l : LinkState) → (content_as_taken c l ≡ rej_replaced_by_rr c)
    ⊎ (content_as_taken c l ≡ with_nr (va l.endpoint) (rej_replaced_by_rr c))
content_is_taken c l = grind arith

-- a frame with the SAPI of the endpoint is taken so
is_taken : (s : Sapi) (f : Frame) (l : LinkState) → l.endpoint.sapi ≡ s → is_on s f ≡ true →
    IsTakenFor l.endpoint f (as_taken f l)
is_taken s f l same on = elim (content_is_taken f.content l) [
  | inl e ↦ but_for_rej (λ i. record f { sapi = number i; content = e i })
  | inr e ↦ without_nr (λ i. record f { sapi = number i; content = e i })
]
  where
    number : sapi_number l.endpoint.sapi ≡ f.sapi
    number = ap sapi_number same ∙ sym (on_is s f on)

-- what is read of a frame on the air for the one in the queue for which it stands
reads : (s : Sapi) (r : Role) (sides : BothSides) (f first g : Frame) → IsTakenFor (endpoint_at r s sides) f g → is_on s f ≡ true →
    StandsFor f first → IsReadFor r sides g first
reads s r sides f first g (but_for_rej same) on (itself is) = rw (same, ← is) (record {
  may = rr_for_rej refl;
  fits = λ channel h. grind arith;
  early = λ q s h. grind arith;
  ui = λ h. grind arith;
})
reads s r sides f first g (without_nr same) on (itself is) = rw (same, ← is) (record {
  may = without_ack s (on_is s f on) refl;
  fits = λ channel h. grind arith;
  early = λ q s h. grind arith;
  ui = λ h. grind arith;
})
reads s r sides f first g (without_nr same) on (dm_for_disc p sapi dm disc) = rw (same, dm) (record {
  may = dm_for_any sapi refl;
  fits = λ channel h. grind (arith, sapi);
  early = λ q s h. absurd (grind (arith, disc));
  ui = λ h. absurd (grind (arith, disc));
})
reads s r sides f first g (but_for_rej same) on (dm_for_disc p sapi dm disc) = rw (same, dm) (record {
  may = dm_for_any sapi refl;
  fits = λ channel h. grind (arith, sapi);
  early = λ q s h. absurd (grind (arith, disc));
  ui = λ h. absurd (grind (arith, disc));
})

refused-closing : (f : Frame) (e : EndpointState) → refuses f e ≡ true → e.state ≡ Closing
refused-closing f e h = grind arith

closing_not_idle : Closing ≡ Idle → ⊥
closing_not_idle h = cc h

-- ---- the frames in front of the one that arrives are lost

way-lost : (q : Role) (w : World) → way q (without_oldest_item q w) ≡ drop 1 (way q w)
way-lost role w = grind arith

way-lost_other : (r : Role) (w : World) → way r (without_oldest_item (other r) w) ≡ way r w
way-lost_other Mobile w = refl
way-lost_other Network w = refl

-- the session goes on until the oldest frame in transit to side `r` is the one for which this frame stands
record IsInFront (s : Sapi) (r : Role) (w : World) (lines : List LogLine) (f : Frame) (xs : List Frame) : Type 0 where
  world : World
  left : List Frame
  reaches : Reaches s world lines
  first : Frame
  front : way (other r) world ≡ first ∷ left
  stands : StandsFor f first
  sub : IsCovered xs left
  ends : world.ends ≡ w.ends
  same_way : way r world ≡ way r w

in_front : {s : Sapi} (r : Role) (w : World) {lines : List LogLine} (f : Frame) (xs q : List Frame) →
    Reaches s w lines → way (other r) w ≡ q → IsCovered (f ∷ xs) q → IsInFront s r w lines f xs
in_front r w f xs [] h e g = elim g [ ]
in_front r w f xs (y ∷ ys) h e (kept t g) = record {
  world = w;
  left = ys;
  reaches = h;
  first = y;
  front = e;
  stands = t;
  sub = g;
  ends = refl;
  same_way = refl;
}
in_front r w f xs (y ∷ ys) h e (dropped g) =
    let z = without_oldest_item (other r) w in
    let t = in_front r z f xs ys (loses h (other r)) (way-lost (other r) w ∙ ap (λ fs. drop 1 fs) e) g in
    record {
      world = t.world;
      left = t.left;
      reaches = t.reaches;
      first = t.first;
      front = t.front;
      stands = t.stands;
      sub = t.sub;
      ends = t.ends;
      same_way = t.same_way ∙ way-lost_other r w;
    }

module _ (l : LinkState) (air : List Frame) where
  -- what the endpoint returns for a call waits
  waits-call : (q : List Frame) (call : Call) → IsLinkCall call → refusal_of call l.endpoint ≡ None →
      (l.endpoint.state ≡ Idle → l.answer ≡ None) → IsCovered (air ++ pending l) q →
      IsCovered (air ++ pending (with_outcome (call_outcome call l.endpoint) l)) (q ++ (call_outcome call l.endpoint).frames)
  waits-call q call own ok idle h = by_state call own (send-open l call own ok)
    where
      by_state : (call : Call) → IsLinkCall call →
          (is_opening (call_outcome call l.endpoint).new_state.state ≡ false) ⊎ (l.endpoint.state ≡ Idle) →
          IsCovered (air ++ pending (with_outcome (call_outcome call l.endpoint) l)) (q ++ (call_outcome call l.endpoint).frames)
      by_state call own (inl e) = pending-outcome air (call_outcome call l.endpoint) l q (elsewhere e) h
      by_state (Opens info) own (inr e) = rw (idle e) (append (on_air air (pending l) h) (all _))
      by_state OpensWithoutInfo own (inr e) = rw (idle e) (append (on_air air (pending l) h) (all _))
      by_state (Sends m) own (inr e) = pending-outcome air (call_outcome (Sends m) l.endpoint) l q (elsewhere (grind (arith, e))) h
      by_state Closes own (inr e) = pending-outcome air (call_outcome Closes l.endpoint) l q (elsewhere refl) h
      by_state call own (inr e) = absurd own

module _ {s : Sapi} {r : Role} {air air' : List Frame} {l l' : LinkState} {log : List LogLine}
    (k : LinkAt s r air l air' l' log)
  where
    call_with : (call : Call) → IsLinkCall call → IsPlaced r s call → refusal_of call l.endpoint ≡ None →
        LinkAt s r air (with_outcome (call_outcome call l.endpoint) l) air' l' (log ++ Asked r s call ∷ [])
    call_with call own placed ok =
        let o = call_outcome call l.endpoint in
        let on : AllOn s o.frames = frames-on (Some call) l.endpoint o.new_state s (layer3-no_ui l call own) (layer3-no_fill l call own)
        o.frames (subst (λ t. AllFrames (Says (Some call) l.endpoint o.new_state) t o.frames) (own_sapi k)
        (is_called l.endpoint (window k) call ok).frames) in
        calls_with k call (Asked r s call ∷ []) placed ok (seen-asked r s call own (call-silent l call own))
        (endpoint_with_frames o.frames (record l { endpoint = o.new_state }))
        (waits-call l air (way r k.world) call own ok k.here.sound.idle k.here.queue)
        (sound-frames s o.frames (record l { endpoint = o.new_state }) on (λ e. absurd (layer3-no_idle l call own ok e))
        (record { clock = k.here.sound.clock; answer = k.here.sound.answer; idle = λ e. absurd (layer3-no_idle l call own ok e) }))

    -- layer 3 calls the link
    pub call_step : (call : Call) → IsLinkCall call → IsPlaced r s call → refusal_of call l.endpoint ≡ None →
        LinkAt s r air (after_call call l) air' l' (log ++ Asked r s call ∷ [])
    call_step call own placed ok =
        let e : after_call call l ≡ with_outcome (call_outcome call l.endpoint) l =
        ap (λ (b : Bool). let m = if b then afresh l else l in with_outcome (call_outcome call m.endpoint) m) (not_reopened l call ok) in
        rw e (call_with call own placed ok)

module _ {s : Sapi} {r : Role} {air rest : List Frame} {l l' : LinkState} {f : Frame} {log : List LogLine}
    (k : LinkAt s r air l (f ∷ rest) l' log)
  where
    abbrev at_front : IsInFront s r k.world k.lines f (rest ++ pending l')
    at_front = in_front r k.world f (rest ++ pending l') (way (other r) k.world) k.reaches refl k.there.queue

    -- the other end once the frame has left the queue
    left_there : Fits (other r) s rest l' (without_oldest_item (other r) at_front.world)
    left_there = record {
      endpoint = rw at_front.ends k.there.endpoint;
      queue = rw (way-lost (other r) at_front.world, at_front.front) at_front.sub;
      sound = k.there.sound;
    }

    -- the frame is lost
    pub lose_step : LinkAt s r air l rest l' log
    lose_step = record {
      world = without_oldest_item (other r) at_front.world;
      lines = k.lines;
      reaches = loses at_front.reaches (other r);
      seen_lines = k.seen_lines;
      here = record {
        endpoint = rw at_front.ends k.here.endpoint;
        queue = rw (way-lost_other r at_front.world, at_front.same_way) k.here.queue;
        sound = k.here.sound;
      };
      there = left_there;
    }

    -- the endpoint takes the frame
    pass_with : is_on s f ≡ true →
        LinkAt s r air (with_outcome (frame_outcome (as_taken f l) l.endpoint) l) rest l'
        (log ++ map (Notified r s) (frame_outcome (as_taken f l) l.endpoint).notices)
    pass_with on =
        let g = as_taken f l in
        let on_taken : is_on s g ≡ true = on_own s g (ap sapi_number (own_sapi k)) in
        let o = frame_outcome g l.endpoint in
        let z = without_oldest_item (other r) at_front.world in
        let same : end_of r s at_front.world ≡ l.endpoint = rw at_front.ends k.here.endpoint in
        let all_on : AllOn s o.frames = frames-on None l.endpoint o.new_state s (λ info e. cc e) (λ e. cc e) o.frames
        (subst (λ t. AllFrames (Says None l.endpoint o.new_state) t o.frames) (own_sapi k)
        (taken-frame l.endpoint (window k) g).frames) in
        let oldest : ReadsOldest r at_front.world.ends g (way (other r) at_front.world) =
        rw at_front.front (reads s r at_front.world.ends f at_front.first g
        (subst (λ e. IsTakenFor e f g) (sym same) (is_taken s f l (own_sapi k) on)) on at_front.stands) in
        let quiet : o.new_state.state ≡ Idle → (l.endpoint.state ≡ Idle) × (o.frames ≡ []) =
        rw same at (silent at_front.reaches r g oldest) in
        acts k z o (map (Notified r s) o.notices) (map (Notified r s) o.notices)
        (rw same at (takes at_front.reaches r g on_taken oldest))
        (notices-seen r s o.notices) left_there
        (endpoint_with_frames o.frames (record l { endpoint = o.new_state }))
        (rw (way-lost_other r at_front.world, at_front.same_way)
        (pending-outcome air o l (way r k.world) (received-no_opening l (window k) g) k.here.queue))
        (sound-frames s o.frames (record l { endpoint = o.new_state }) all_on (λ e. (quiet e).1)
        (record { clock = k.here.sound.clock; answer = k.here.sound.answer; idle = λ e. k.here.sound.idle (quiet e).0 }))

    -- the link refuses the frame: the DM that it owes stands for a DISC that the endpoint repeats
    refuse_with : l.endpoint.state ≡ Closing →
        LinkAt s r air (with_outcome (outcome_of_reply SendsDm l.endpoint) l) rest l' (log ++ [])
    refuse_with closing =
        let dm : Frame = response_frame l.endpoint (Dm true) in
        let lost = lose_step in
        let on_air_still : IsCovered air (way r lost.world) = on_air air (pending l) lost.here.queue in
        let e : (call_outcome Repeats l.endpoint).frames ≡ command_frame l.endpoint (Disc true) ∷ [] = rw closing refl in
        calls_with lost Repeats [] tt (rw closing refl) refl refl
        (rw (unsent-elsewhere (record l { answer = Some dm }) (rw closing refl), e)
        (append on_air_still (kept (dm_for_disc true refl refl refl) empty)))
        (record {
          clock = k.here.sound.clock;
          answer = on_own s dm (ap sapi_number (own_sapi k));
          idle = λ idle. absurd (closing_not_idle (sym closing ∙ idle));
        })

    take_with : is_on s f ≡ true →
        LinkAt s r air (with_outcome (received_outcome f l) l) rest l'
        (log ++ map (Notified r s) (received_outcome f l).notices)
    take_with on = by_test (refuses f l.endpoint) refl
      where
        by_test : (b : Bool) → refuses f l.endpoint ≡ b →
            (let o = outcome_of_reply (if b then SendsDm else reply_to_frame (as_taken f l) l.endpoint) l.endpoint in
            LinkAt s r air (with_outcome o l) rest l' (log ++ map (Notified r s) o.notices))
        by_test true e = refuse_with (refused-closing f l.endpoint e)
        by_test false e = pass_with on

    -- the frame arrives at the link
    pub take_step : is_on s f ≡ true → is_reopened_by_frame f l ≡ false →
        LinkAt s r air (after_frame f l) rest l' (log ++ map (Notified r s) (frame_notices f l))
    take_step on same = by_tests (ignores f l) (is_reopened_by_frame f l) same
      where
        by_tests : (b c : Bool) → c ≡ false → (let m = if c then afresh l else l in
            LinkAt s r air (if b then l else with_outcome (received_outcome f m) m) rest l'
            (log ++ map (Notified r s) (if b then [] else (received_outcome f m).notices)))
        by_tests b true e = absurd cc
        by_tests true false e = rw append-nil lose_step
        by_tests false false e = take_with on
