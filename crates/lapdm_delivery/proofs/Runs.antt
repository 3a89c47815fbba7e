-- Each event of a run is, for each SAPI, a list of events of a session of `lapdm_link`, so the claims hold of the log of a run.
use Rattle.std.proofs.lemmas.Bool.{cases_Bool}
use Rattle.std.proofs.lemmas.List.{map-append}
use Rattle.lapdm_link.proofs.Lemmas.{◌≡◌, refl, sym, ap, ◌∙◌, arith, ◌++◌, Bool, true, false, List, [], ◌∷◌, ℕ, inl}
use Rattle.lapdm_link.proofs.Lemmas.{inr, map, append_assoc, append-nil, filter_map, filter_map-append, if◌then◌else◌, Option, Some}
use Rattle.lapdm_link.proofs.Lemmas.{None, cons_option, Frame, Message, Role, Mobile, Network, Sapi, Zero, Three, Call, SendsUi, other}
use Rattle.lapdm_link.proofs.Lemmas.{World, LogLine, Asked, Notified, Notice, is_same_sapi, is_on, each_way, Claims, AckedAtMostDelivered}
use Rattle.lapdm_link.proofs.Lemmas.{HasNoticesInOrder, delivery_by_link, counts_by_link, order_by_link, Channel, IsPlaced, nat_tests, drop}
use Rattle.lapdm_link.proofs.Lemmas.{sapi_number, claims_of as session_claims, counts_of as session_counts, order_of as session_order}
use Rattle.lapdm_link.proofs.Lemmas.{end_of, way, subst}
use Rattle.lapdm_link.specs.Claims.{log_lines_of_sapi, is_log_line_of_sapi}
use Rattle.lapdm_link.specs.Queues.{queue_of, without_oldest_item as without_oldest, IsOldestSentOrNone}
use Rattle.std.specs.Prelude.{IfSome}
use Rattle.lapdm_end.specs.lapdm_window.Calls.{IsCallAllowedFor}
use Rattle.lapdm_end.specs.lapdm_window.Ends.{initial_endpoint}
use Rattle.lapdm_datalink.specs.declared.data_links.Establishment.{Establishment}
use Rattle.lapdm_datalink.specs.declared.data_links.Establishment.TheVariants.{Contention}
use Rattle.lapdm_datalink.specs.Links.{LinkState, SlotOutcome, after_call, after_received, received_notices, after_slot, slot_outcome}
use Rattle.lapdm_datalink.specs.Links.{ui_frame, is_reopened_by_frame, link_with}
use Rattle.lapdm_datalink.specs.DataLinks.{DataLinkState, link_with_sapi, with_link, having_main, with_clocks_moved, with_sapi3}
use Rattle.lapdm_datalink.specs.DataLinks.{DataLinkOutcome, data_link_outcome, sapi_for_frame, after_arrival, taken_by, on_sapi0}
use Rattle.lapdm_datalink.specs.DataLinks.{unit_frame}
use Rattle.lapdm_delivery.specs.Runs.{RunState, RunEvent, Calls, Slot, UnitSlot, Arrives, HasMain, IsPossible, IsRun, run_log, initial_run}
use Rattle.lapdm_delivery.specs.Runs.{data_link_of, with_data_link, link_at, after_event, event_lines, slot_lines, arrival_lines}
use Rattle.lapdm_delivery.specs.Runs.{after_slot_of, taking_lines, OpensNoClosedLink, sapi_of_endpoint, told_of, log_of_link}
use Rattle.lapdm_datalink.proofs.Answering.{is_slot}
use Rattle.lapdm_datalink.proofs.Lemmas.{passed}
use Rattle.lapdm_delivery.proofs.Claims.{seen, claims-seen, counts-seen, order-seen}
use Rattle.lapdm_delivery.proofs.Worlds.{Reaches, at_start, start}
use Rattle.lapdm_delivery.proofs.Queues.{IsCovered, empty}
use Rattle.lapdm_delivery.proofs.Queues.{pending}
use Rattle.lapdm_delivery.proofs.Links.{Fits, slot-on, free-waits, own_sapi, on_own, on_is}
use Rattle.lapdm_delivery.proofs.Heard.{IsHeard, is_informed}
use Rattle.lapdm_delivery.proofs.RunsHeard.{Known, known_call, known_passes, known_slot, known_unit, known_lose, known_take}

-- ---- the frames and lines of one link: that of the SAPI `s`, whose endpoints have the SAPI `k`

-- the frame as an endpoint with this SAPI sends or takes it
abbrev pub addressed : Sapi → Frame → Frame
addressed k f = record f { sapi = sapi_number k }

abbrev pub own_frame : (s k : Sapi) → Frame → Option Frame
own_frame s k f = if is_on s f then Some (addressed k f) else None

abbrev pub on : (s k : Sapi) → List Frame → List Frame
on s k fs = filter_map (own_frame s k) fs

abbrev pub air_of : Role → (s k : Sapi) → RunState → List Frame
air_of r s k c = on s k (queue_of r c.air)

abbrev pub lines_of : (s k : Sapi) → List LogLine → List LogLine
lines_of s k log = map (told_of k) (log_lines_of_sapi s log)

-- what one side has heard of the other, and back
abbrev IsOut : (r : Role) (s k : Sapi) (c : RunState) → Type 0
IsOut r s k c = IsHeard k k (air_of r s k c) (link_at r s c) (link_at (other r) s c)

abbrev IsBack : (r : Role) (s k : Sapi) (c : RunState) → Type 0
IsBack r s k c = IsHeard k k (air_of (other r) s k c) (link_at (other r) s c) (link_at r s c)

-- for this link, a session reaches a state that both sides of the run fit
pub record At (s k : Sapi) (c : RunState) (log : List LogLine) : Type 0 where
  pub world : World
  pub lines : List LogLine
  pub reaches : Reaches k world lines
  pub seen_lines : seen lines ≡ lines_of s k log
  pub fits : (r : Role) → Fits r k (air_of r s k c) (link_at r s c) world
  pub heard : (r : Role) → IsOut r s k c

-- so it does for each
abbrev pub IsAt : Establishment → RunState → List LogLine → Type 0
IsAt e c log = (s : Sapi) → At s (sapi_of_endpoint e s) c log

back_of : (s k : Sapi) (c : RunState) (r : Role) → ((q : Role) → IsOut q s k c) → IsBack r s k c
back_of s k c Mobile h = h Network
back_of s k c Network h = h Mobile

both_ways : (s k : Sapi) (c : RunState) (r : Role) → IsOut r s k c → IsBack r s k c → (q : Role) → IsOut q s k c
both_ways s k c Mobile h g Mobile = h
both_ways s k c Mobile h g Network = g
both_ways s k c Network h g Mobile = g
both_ways s k c Network h g Network = h

-- the same seen from the link of one side
of_side : {s k : Sapi} {c : RunState} {log : List LogLine} (r : Role) → At s k c log →
    Known k r (air_of r s k c) (link_at r s c) (air_of (other r) s k c) (link_at (other r) s c) (lines_of s k log)
of_side {s} {k} {c} r a = record {
  link = record {
    world = a.world;
    lines = a.lines;
    reaches = a.reaches;
    seen_lines = a.seen_lines;
    here = a.fits r;
    there = a.fits (other r);
  };
  out = a.heard r;
  back = back_of s k c r a.heard;
}

-- and back, for the run after a step
of_link : {s k : Sapi} {air air' : List Frame} {l l' : LinkState} {lines : List LogLine} (r : Role) (c : RunState)
    (log : List LogLine) → Known k r air l air' l' lines → air ≡ air_of r s k c → l ≡ link_at r s c →
    air' ≡ air_of (other r) s k c → l' ≡ link_at (other r) s c → lines ≡ lines_of s k log → At s k c log
of_link {s = s} {k = k} r c log h e f e' f' g = record {
  world = h.link.world;
  lines = h.link.lines;
  reaches = h.link.reaches;
  seen_lines = h.link.seen_lines ∙ g;
  fits = each_way (λ q. Fits q k (air_of q s k c) (link_at q s c) h.link.world) r (rw (← e, ← f) h.link.here)
      (rw (← e', ← f') h.link.there);
  heard = both_ways s k c r (rw (← e, ← f, ← f') h.out) (rw (← e', ← f', ← f) h.back);
}

-- ---- a data link replaces that of one side

module _ (r : Role) (d : DataLinkState) (c : RunState) where
  pub replaced-own : data_link_of r (with_data_link r d c) ≡ d
  replaced-own = grind arith

  pub replaced-other : data_link_of (other r) (with_data_link r d c) ≡ data_link_of (other r) c
  replaced-other = grind arith

  pub replaced-air : (with_data_link r d c).air ≡ c.air
  replaced-air = grind arith

module _ (s t : Sapi) (l : LinkState) (d : DataLinkState) where
  link-else : is_same_sapi s t ≡ false → link_with_sapi s (with_link t l d) ≡ link_with_sapi s d
  link-else e = grind arith

link-own : (s : Sapi) (l : LinkState) (d : DataLinkState) → link_with_sapi s (with_link s l d) ≡ l
link-own s l d = grind arith

-- ---- log lines of one link

lines-append : (s k : Sapi) (ls ms : List LogLine) → lines_of s k (ls ++ ms) ≡ lines_of s k ls ++ lines_of s k ms
lines-append s k ls ms = ap (map (told_of k)) (filter_map-append _ ls ms) ∙ map-append (told_of k) (log_lines_of_sapi s ls) _

same_sapi : (s : Sapi) → is_same_sapi s s ≡ true
same_sapi s = grind arith

notified-own : (r : Role) (s k : Sapi) (ns : List Notice) → lines_of s k (map (Notified r s) ns) ≡ map (Notified r k) ns
notified-own r s k [] = refl
notified-own r s k (n ∷ ns) = rw (same_sapi s) (ap (λ ls. Notified r k n ∷ ls) (notified-own r s k ns))

notified-else : (r : Role) (s t k : Sapi) (ns : List Notice) → is_same_sapi s t ≡ false →
    lines_of s k (map (Notified r t) ns) ≡ []
notified-else r s t k [] e = refl
notified-else r s t k (n ∷ ns) e = rw e (notified-else r s t k ns e)

-- ---- an event that does nothing for this link

module _ {s k : Sapi} {c : RunState} {log : List LogLine} (a : At s k c log) where
  -- in this module, side `r` acts and the run is in state `z` after it
  module _ (r : Role) (z : RunState) (lines : List LogLine) where
    goes_to : {air air' : List Frame} {l l' : LinkState} (new : List LogLine) →
        Known k r air l air' l' (lines_of s k log ++ new) → air ≡ air_of r s k z → l ≡ link_at r s z →
        air' ≡ air_of (other r) s k z → l' ≡ link_at (other r) s z → lines_of s k lines ≡ new →
        At s k z (log ++ lines)
    goes_to new h e f e' f' g = of_link r z (log ++ lines) h e f e' f' (sym (lines-append s k log lines ∙ rw g refl))

    unchanged : air_of r s k c ≡ air_of r s k z → link_at r s c ≡ link_at r s z →
        air_of (other r) s k c ≡ air_of (other r) s k z → link_at (other r) s c ≡ link_at (other r) s z →
        lines_of s k lines ≡ [] → At s k z (log ++ lines)
    unchanged e f e' f' g = goes_to [] (rw append-nil (of_side r a)) e f e' f' g

-- ---- calls of layer 3

air-kept : (q r : Role) (s k : Sapi) (d : DataLinkState) (c : RunState) → air_of q s k c ≡ air_of q s k (with_data_link r d c)
air-kept q r s k d c = ap (λ ws. on s k (queue_of q ws)) (sym (replaced-air r d c))

peer-kept : (r : Role) (s : Sapi) (d : DataLinkState) (c : RunState) →
    link_at (other r) s c ≡ link_at (other r) s (with_data_link r d c)
peer-kept r s d c = ap (link_with_sapi s) (sym (replaced-other r d c))

placed : (r : Role) (s : Sapi) (call : Call) → IsCallAllowedFor r s call → IsPlaced r s call
placed r s call h = grind arith

module _ {c : RunState} {log : List LogLine} (r : Role) (call : Call) where
  call_own : (s k : Sapi) → At s k c log → IsPossible (Calls r s call) c →
      At s k (after_event (Calls r s call) c) (log ++ Asked r s call ∷ [])
  call_own s k a (own, allowed, ok) =
      let d = with_link s (after_call call (link_at r s c)) (data_link_of r c) in
      let side = of_side r a in
      let may : IsCallAllowedFor r k call = subst (λ x. IsCallAllowedFor r x call) (own_sapi side.link) allowed in
      goes_to a r (with_data_link r d c) (Asked r s call ∷ []) (Asked r k call ∷ [])
      (known_call side call own may (placed r k call may) ok) (air-kept r r s k d c)
      (sym (ap (link_with_sapi s) (replaced-own r d c) ∙ link-own s (after_call call (link_at r s c)) (data_link_of r c)))
      (air-kept (other r) r s k d c) (peer-kept r s d c) (rw (same_sapi s) refl)

  call_else : (s t k : Sapi) → is_same_sapi s t ≡ false → At s k c log →
      At s k (after_event (Calls r t call) c) (log ++ Asked r t call ∷ [])
  call_else s t k e a =
      let d = with_link t (after_call call (link_at r t c)) (data_link_of r c) in
      unchanged a r (with_data_link r d c) (Asked r t call ∷ []) (air-kept r r s k d c)
      (sym (ap (link_with_sapi s) (replaced-own r d c) ∙ link-else s t (after_call call (link_at r t c)) (data_link_of r c) e))
      (air-kept (other r) r s k d c) (peer-kept r s d c) (rw e refl)

  call_at : (e : Establishment) (t : Sapi) → IsAt e c log → IsPossible (Calls r t call) c →
      IsAt e (after_event (Calls r t call) c) (log ++ Asked r t call ∷ [])
  call_at e Zero all may Zero = call_own Zero (sapi_of_endpoint e Zero) (all Zero) may
  call_at e Three all may Three = call_own Three Three (all Three) may
  call_at e t all may s = call_else s t (sapi_of_endpoint e s) refl (all s)

-- ---- slots

on-append : (s k : Sapi) (fs gs : List Frame) → on s k (fs ++ gs) ≡ on s k fs ++ on s k gs
on-append s k fs gs = filter_map-append _ fs gs

-- the link of SAPI 3 sends and takes what its endpoint does, and that of SAPI 0 a frame of its endpoint with SAPI 0
addressed-own : (k : Sapi) (f : Frame) → is_on k f ≡ true → addressed k f ≡ f
addressed-own k f h = λ i. record f { sapi = sym (on_is k f h) i }

pub sent_on_zero : (k : Sapi) (f : Frame) → is_on k f ≡ true → (on_sapi0 k f).sapi ≡ 0
sent_on_zero Zero f h = on_is Zero f h
sent_on_zero Three f h = refl

zero-own : (k : Sapi) (f : Frame) → is_on k f ≡ true → on Zero k (on_sapi0 k f ∷ []) ≡ f ∷ []
zero-own Zero f h = rw (h, addressed-own Zero f h) refl
zero-own Three f h = rw (addressed-own Three f h) refl

three-own : (f : Frame) → is_on Three f ≡ true → on Three Three (f ∷ []) ≡ f ∷ []
three-own f h = rw (h, addressed-own Three f h) refl

three-else : (k t : Sapi) (f : Frame) → is_on k f ≡ true → on Three t (on_sapi0 k f ∷ []) ≡ []
three-else k t f h = rw (sent_on_zero k f h) refl

zero-else : (k : Sapi) (f : Frame) → is_on Three f ≡ true → on Zero k (f ∷ []) ≡ []
zero-else k f h = rw (on_is Three f h) refl

module _ {s : Sapi} {r : Role} {air air' : List Frame} {l l' : LinkState} {log : List LogLine}
    (k : Known s r air l air' l' log)
  where
    slot_frame-on : IfSome (slot_outcome l).frame (λ f. is_on s f ≡ true)
    slot_frame-on = slot-on s l (slot_outcome l) (own_sapi k.link) k.link.here.sound (is_slot l)

    clock_moved : (heard : Bool) → Known s r air (if heard then l else after_slot l) air' l' log
    clock_moved true = k
    clock_moved false = known_passes k

module _ (e : Establishment) {c : RunState} {log : List LogLine} (r : Role) (all : IsAt e c log) where
  -- the SAPI of the endpoints of the link of SAPI 0
  abbrev k : Sapi
  k = sapi_of_endpoint e Zero

  abbrev slot : DataLinkOutcome
  slot = data_link_outcome (data_link_of r c)

  abbrev moved : DataLinkState
  moved = with_clocks_moved (data_link_of r c)

  abbrev slot0 : SlotOutcome
  slot0 = slot_outcome moved.link0

  abbrev slot3 : SlotOutcome
  slot3 = slot_outcome moved.link3

  k0 : Known k r (air_of r Zero k c) moved.link0 (air_of (other r) Zero k c) (link_at (other r) Zero c) (lines_of Zero k log)
  k0 = known_passes (of_side r (all Zero))

  k3 : Known Three r (air_of r Three Three c) moved.link3 (air_of (other r) Three Three c) (link_at (other r) Three c)
      (lines_of Three Three log)
  k3 = clock_moved (of_side r (all Three)) (data_link_of r c).heard_sapi0

  abbrev notices_of : DataLinkOutcome → List LogLine
  notices_of o = map (Notified r Zero) o.notices0 ++ map (Notified r Three) o.notices3

  -- what the slot is for the link of a SAPI
  abbrev IsSlotOf : Sapi → DataLinkOutcome → Type 0
  IsSlotOf s o =
      let t = sapi_of_endpoint e s in
      Known t r (air_of r s t c ++ on s t (cons_option o.frame [])) (link_with_sapi s o.new_state)
      (air_of (other r) s t c) (link_at (other r) s c) (lines_of s t log ++ lines_of s t (notices_of o))

  own0 : moved.link0.endpoint.sapi ≡ k
  own0 = own_sapi k0.link

  slot_of : (a : Option Frame) → slot0.frame ≡ a → (s : Sapi) → IsSlotOf s (with_sapi3 slot0 a moved)
  slot_of (Some f) is Zero =
      let on_f : is_on k f ≡ true = rw is at (slot_frame-on k0) in
      rw (own0, zero-own k f on_f, append-nil (map (Notified r Zero) slot0.notices), notified-own r Zero k slot0.notices)
      (rw is at (known_slot k0))
  slot_of (Some f) is Three =
      let on_f : is_on k f ≡ true = rw is at (slot_frame-on k0) in
      rw (
        own0,
        three-else k Three f on_f,
        append-nil (map (Notified r Zero) slot0.notices),
        notified-else r Three Zero Three slot0.notices refl,
        append-nil (air_of r Three Three c),
        append-nil (lines_of Three Three log),
      ) k3
  slot_of None is Zero =
      rw (
        others slot3.frame (slot_frame-on k3),
        lines-append Zero k (map (Notified r Zero) slot0.notices) (map (Notified r Three) slot3.notices),
        notified-own r Zero k slot0.notices,
        notified-else r Zero Three k slot3.notices refl,
        append-nil (map (Notified r k) slot0.notices),
      ) (rw is at (known_slot k0))
    where
      others : (a : Option Frame) → IfSome a (λ f. is_on Three f ≡ true) → on Zero k (cons_option a []) ≡ []
      others None h = refl
      others (Some f) h = zero-else k f h
  slot_of None is Three =
      rw (
        its slot3.frame (slot_frame-on k3),
        lines-append Three Three (map (Notified r Zero) slot0.notices) (map (Notified r Three) slot3.notices),
        notified-own r Three Three slot3.notices,
        notified-else r Three Zero Three slot0.notices refl,
      ) (known_slot k3)
    where
      its : (a : Option Frame) → IfSome a (λ f. is_on Three f ≡ true) → on Three Three (cons_option a []) ≡ cons_option a []
      its None h = refl
      its (Some f) h = three-own f h

  slot_link : (s : Sapi) → IsSlotOf s slot
  slot_link s = slot_of slot0.frame refl s

  -- the run after the slot, in which these frames are sent
  sent_at : {s : Sapi} {air : List Frame} (fs : List Frame) (lines : List LogLine) → (let t = sapi_of_endpoint e s in
      Known t r air (link_with_sapi s slot.new_state)
      (air_of (other r) s t c) (link_at (other r) s c) (lines_of s t log ++ lines_of s t lines) →
      air ≡ air_of r s t c ++ on s t fs → At s t (after_slot_of r fs c) (log ++ lines))
  sent_at {s} fs lines h is =
      let t = sapi_of_endpoint e s in
      goes_to (all s) r (after_slot_of r fs c) lines (lines_of s t lines) h (is ∙ sym (sent-own r s t fs)) (sym (sent-link r s fs))
      (sym (sent-other r s t fs)) (sym (sent-peer r s fs)) refl
    where
      sent-own : (r : Role) (s t : Sapi) (fs : List Frame) → air_of r s t (after_slot_of r fs c) ≡ air_of r s t c ++ on s t fs
      sent-own Mobile s t fs = on-append s t c.air.up fs
      sent-own Network s t fs = on-append s t c.air.down fs

      sent-link : (r : Role) (s : Sapi) (fs : List Frame) →
          link_at r s (after_slot_of r fs c) ≡ link_with_sapi s (data_link_outcome (data_link_of r c)).new_state
      sent-link role s fs = grind arith

      sent-other : (r : Role) (s t : Sapi) (fs : List Frame) → air_of (other r) s t (after_slot_of r fs c) ≡ air_of (other r) s t c
      sent-other Mobile s t fs = refl
      sent-other Network s t fs = refl

      sent-peer : (r : Role) (s : Sapi) (fs : List Frame) → link_at (other r) s (after_slot_of r fs c) ≡ link_at (other r) s c
      sent-peer role s fs = grind arith

  slot_at : IsAt e (after_event (Slot r) c) (log ++ slot_lines r c)
  slot_at s = sent_at {s = s} (cons_option slot.frame []) (slot_lines r c) (slot_link s) refl

  -- ---- a UI frame in a free slot

  free_of : (a : Option Frame) → slot0.frame ≡ a → (with_sapi3 slot0 a moved).frame ≡ None → (t : Sapi) →
      pending (link_with_sapi t (with_sapi3 slot0 a moved).new_state) ≡ []
  free_of (Some f) is free t = absurd cc
  free_of None is free Zero = free-waits moved.link0 slot0 (is_slot moved.link0) is
  free_of None is free Three = free-waits moved.link3 slot3 (is_slot moved.link3) free

  module _ (t : Sapi) (m : Message) (may : IsPossible (UnitSlot r t m) c) where
    abbrev unit : Frame
    unit = unit_frame t m slot.new_state

    -- as the endpoint sends it
    abbrev own_unit : Frame
    own_unit = ui_frame m (link_with_sapi t slot.new_state).endpoint

    free_link : (s : Sapi) → (let u = sapi_of_endpoint e s in
        Known u r (air_of r s u c) (link_with_sapi s slot.new_state) (air_of (other r) s u c)
        (link_at (other r) s c) (lines_of s u log ++ lines_of s u (slot_lines r c)))
    free_link s = rw (may.0, append-nil) at (slot_link s)

    abbrev unit_lines : List LogLine
    unit_lines = slot_lines r c ++ Asked r t (SendsUi m) ∷ []

    own_unit-on : is_on (sapi_of_endpoint e t) own_unit ≡ true
    own_unit-on = on_own (sapi_of_endpoint e t) own_unit (ap sapi_number (own_sapi (slot_link t).link))

    unit_own : on t (sapi_of_endpoint e t) (unit ∷ []) ≡ own_unit ∷ [] →
        At t (sapi_of_endpoint e t) (after_slot_of r (unit ∷ []) c) (log ++ unit_lines)
    unit_own is =
        let u = sapi_of_endpoint e t in
        let h = known_unit (free_link t) m (free_of slot0.frame refl may.0 t) may.1 in
        sent_at {s = t} {air = air_of r t u c ++ own_unit ∷ []} (unit ∷ []) unit_lines
        (rw (
          lines-append t u (slot_lines r c) (Asked r t (SendsUi m) ∷ []),
          same_sapi t,
          ← append_assoc (lines_of t u log) (lines_of t u (slot_lines r c)) (Asked r u (SendsUi m) ∷ []),
        ) h)
        (rw is refl)

    unit_else : (s : Sapi) → is_same_sapi s t ≡ false → on s (sapi_of_endpoint e s) (unit ∷ []) ≡ [] →
        At s (sapi_of_endpoint e s) (after_slot_of r (unit ∷ []) c) (log ++ unit_lines)
    unit_else s n is =
        let u = sapi_of_endpoint e s in
        sent_at {s = s} {air = air_of r s u c} (unit ∷ []) unit_lines
        (rw (lines-append s u (slot_lines r c) (Asked r t (SendsUi m) ∷ []), n, append-nil (lines_of s u (slot_lines r c)))
        (free_link s))
        (rw (is, append-nil) refl)

  unit_at : (t : Sapi) (m : Message) → IsPossible (UnitSlot r t m) c →
      IsAt e (after_event (UnitSlot r t m) c) (log ++ (slot_lines r c ++ Asked r t (SendsUi m) ∷ []))
  unit_at Zero m may Zero =
      let f = own_unit Zero m may in
      unit_own Zero m may
      (ap (λ x. on Zero k (on_sapi0 x f ∷ [])) (own_sapi (slot_link Zero).link) ∙ zero-own k f (own_unit-on Zero m may))
  unit_at Zero m may Three =
      let f = own_unit Zero m may in
      unit_else Zero m may Three refl
      (ap (λ x. on Three Three (on_sapi0 x f ∷ [])) (own_sapi (slot_link Zero).link) ∙ three-else k Three f (own_unit-on Zero m may))
  unit_at Three m may Three = unit_own Three m may (three-own (own_unit Three m may) (own_unit-on Three m may))
  unit_at Three m may Zero = unit_else Three m may Zero refl (zero-else k (own_unit Three m may) (own_unit-on Three m may))

-- ---- arrivals

-- the frame has the SAPI of the link that takes it
pub taker-on : (f : Frame) (d : DataLinkState) (t : Sapi) → sapi_for_frame f d ≡ Some t → is_on t f ≡ true
taker-on f d t e = grind (arith, nat_tests)

-- the run after side `r` has this data link and the oldest frame of the other side has left the air
abbrev arrived_at : Role → DataLinkState → RunState → RunState
arrived_at r d c = record (with_data_link r d c) { air = without_oldest (other r) c.air }

module _ (r : Role) (d : DataLinkState) (c : RunState) where
  arrived-own : data_link_of r (arrived_at r d c) ≡ d
  arrived-own = grind arith

  arrived-peer : data_link_of (other r) (arrived_at r d c) ≡ data_link_of (other r) c
  arrived-peer = grind arith

  arrived-air : (s k : Sapi) → air_of r s k (arrived_at r d c) ≡ air_of r s k c
  arrived-air s k = grind arith

  arrived-front : (s k : Sapi) → air_of (other r) s k (arrived_at r d c) ≡ on s k (drop 1 (queue_of (other r) c.air))
  arrived-front s k = grind arith

on-here : (s k : Sapi) (f : Frame) (fs : List Frame) → is_on s f ≡ true → on s k (f ∷ fs) ≡ addressed k f ∷ on s k fs
on-here s k f fs e = rw e refl

on-there : (s k : Sapi) (f : Frame) (fs : List Frame) → is_on s f ≡ false → on s k (f ∷ fs) ≡ on s k fs
on-there s k f fs e = rw e refl

addressed-on : (k : Sapi) (f : Frame) → is_on k (addressed k f) ≡ true
addressed-on k f = grind arith

-- in this module, side `r` has the data link `d` after the arrival
module _ {c : RunState} (r : Role) where
  module _ (d : DataLinkState) {log : List LogLine} {s k : Sapi} (a : At s k c log) where
    left : (fs : List Frame) → drop 1 (queue_of (other r) c.air) ≡ fs → on s k fs ≡ air_of (other r) s k (arrived_at r d c)
    left fs e = sym (arrived-front r d c s k ∙ ap (on s k) e)

    -- the link does not change
    gone : link_with_sapi s (data_link_of r c) ≡ link_with_sapi s d → (fs : List Frame) → queue_of (other r) c.air ≡ fs →
        (lines : List LogLine) → lines_of s k lines ≡ [] → At s k (arrived_at r d c) (log ++ lines)
    gone same [] e lines silent =
        unchanged a r (arrived_at r d c) lines (sym (arrived-air r d c s k))
        (same ∙ sym (ap (link_with_sapi s) (arrived-own r d c)))
        (ap (on s k) e ∙ left [] (ap (λ xs. drop 1 xs) e)) (sym (ap (link_with_sapi s) (arrived-peer r d c))) silent
    gone same (f ∷ fs) e lines silent = elim (cases_Bool (is_on s f)) [
      | inl on_f ↦
          let h = of_side r a in
          let front : air_of (other r) s k c ≡ addressed k f ∷ on s k fs = ap (on s k) e ∙ on-here s k f fs on_f in
          goes_to a r (arrived_at r d c) lines [] (rw append-nil (known_lose (rw front at h))) (sym (arrived-air r d c s k))
          (same ∙ sym (ap (link_with_sapi s) (arrived-own r d c))) (left fs (ap (λ xs. drop 1 xs) e))
          (sym (ap (link_with_sapi s) (arrived-peer r d c))) silent
      | inr on_f ↦
          unchanged a r (arrived_at r d c) lines (sym (arrived-air r d c s k))
          (same ∙ sym (ap (link_with_sapi s) (arrived-own r d c)))
          (ap (on s k) e ∙ on-there s k f fs on_f ∙ left fs (ap (λ xs. drop 1 xs) e))
          (sym (ap (link_with_sapi s) (arrived-peer r d c))) silent
    ]

    -- the link takes the frame
    takes_own : (f : Frame) (fs : List Frame) → queue_of (other r) c.air ≡ f ∷ fs → is_on s f ≡ true →
        is_reopened_by_frame f (link_at r s c) ≡ false →
        after_received f (link_at r s c) ≡ link_with_sapi s d →
        At s k (arrived_at r d c) (log ++ map (Notified r s) (received_notices f (link_at r s c)))
    takes_own f fs e on_f once is =
        let ns = received_notices f (link_at r s c) in
        let front : air_of (other r) s k c ≡ addressed k f ∷ on s k fs = ap (on s k) e ∙ on-here s k f fs on_f in
        goes_to a r (arrived_at r d c) (map (Notified r s) ns) (map (Notified r k) ns)
        (known_take (rw front at (of_side r a)) (addressed-on k f) once)
        (sym (arrived-air r d c s k)) (is ∙ sym (ap (link_with_sapi s) (arrived-own r d c))) (left fs (ap (λ xs. drop 1 xs) e))
        (sym (ap (link_with_sapi s) (arrived-peer r d c))) (notified-own r s k ns)

module _ (e : Establishment) {c : RunState} {log : List LogLine} (r : Role) (all : IsAt e c log) where
  takes_at : (f : Frame) (fs : List Frame) → queue_of (other r) c.air ≡ f ∷ fs → (t s : Sapi) → is_on t f ≡ true →
      is_reopened_by_frame f (link_at r t c) ≡ false →
      At s (sapi_of_endpoint e s) (arrived_at r (taken_by (Some t) f (data_link_of r c)) c)
      (log ++ taking_lines r (Some t) f (data_link_of r c))
  takes_at f fs is Zero Zero on_f once = takes_own r _ (all Zero) f fs is on_f once refl
  takes_at f fs is Three Three on_f once = takes_own r _ (all Three) f fs is on_f once refl
  takes_at f fs is t s on_f once =
      gone r (taken_by (Some t) f (data_link_of r c)) (all s) refl (f ∷ fs) is _
      (notified-else r s t (sapi_of_endpoint e s) (received_notices f (link_at r t c)) refl)

  taker_at : (f : Frame) (fs : List Frame) → queue_of (other r) c.air ≡ f ∷ fs → (a : Option Sapi) →
      sapi_for_frame f (data_link_of r c) ≡ a →
      IfSome a (λ t. is_reopened_by_frame f (link_at r t c) ≡ false) → (s : Sapi) →
      At s (sapi_of_endpoint e s) (arrived_at r (taken_by a f (data_link_of r c)) c)
      (log ++ taking_lines r a f (data_link_of r c))
  taker_at f fs is None by once s =
      gone r (taken_by None f (data_link_of r c)) (all s) (passed s f (data_link_of r c)) (f ∷ fs) is [] refl
  taker_at f fs is (Some t) by once s = takes_at f fs is t s (taker-on f (data_link_of r c) t by) once

  frame_at : (f : Frame) (fs : List Frame) → queue_of (other r) c.air ≡ fs → IsOldestSentOrNone (Some f) fs →
      OpensNoClosedLink (Some f) (data_link_of r c) → (s : Sapi) →
      At s (sapi_of_endpoint e s) (arrived_at r (after_arrival f (data_link_of r c)) c)
      (log ++ arrival_lines r (Some f) (data_link_of r c))
  frame_at f [] is sent once s = absurd sent
  frame_at f (g ∷ gs) is sent once s =
      taker_at f gs (is ∙ ap (λ x. x ∷ gs) (sym sent)) (sapi_for_frame f (data_link_of r c)) refl once s

  nothing_at : (s : Sapi) → At s (sapi_of_endpoint e s) (arrived_at r (data_link_of r c) c) (log ++ [])
  nothing_at s = gone r (data_link_of r c) (all s) refl (queue_of (other r) c.air) refl [] refl

-- ---- a run

module _ (e : Establishment) {c : RunState} {log : List LogLine} (all : IsAt e c log) where
  main_at : (r : Role) (established : Bool) → IsAt e (after_event (HasMain r established) c) (log ++ [])
  main_at r established s =
      let d = having_main established (data_link_of r c) in
      let k = sapi_of_endpoint e s in
      unchanged (all s) r (with_data_link r d c) [] (air-kept r r s k d c)
      (main-link s ∙ sym (ap (link_with_sapi s) (replaced-own r d c)))
      (air-kept (other r) r s k d c) (peer-kept r s d c) refl
    where
      main-link : (s : Sapi) → link_at r s c ≡ link_with_sapi s (having_main established (data_link_of r c))
      main-link sapi = grind arith

  step_at : (event : RunEvent) → IsPossible event c → IsAt e (after_event event c) (log ++ event_lines event c)
  step_at (Calls r t call) may = call_at r call e t all may
  step_at (Slot r) may = slot_at e r all
  step_at (UnitSlot r t m) may = unit_at e r all t m may
  step_at (Arrives Mobile (Some f)) may = frame_at e Network all f c.air.up refl may.0 may.1
  step_at (Arrives Network (Some f)) may = frame_at e Mobile all f c.air.down refl may.0 may.1
  step_at (Arrives Mobile None) may = nothing_at e Network all
  step_at (Arrives Network None) may = nothing_at e Mobile all
  step_at (HasMain r established) may = main_at r established

-- the state after these events
abbrev pub after_events : List RunEvent → RunState → RunState
after_events [] c = c
after_events (event ∷ events) c = after_events events (after_event event c)

module _ (e : Establishment) where
  run_at : (events : List RunEvent) (c : RunState) (log : List LogLine) → IsAt e c log → IsRun events c →
      IsAt e (after_events events c) (log ++ run_log events c)
  run_at [] c log all run = rw append-nil all
  run_at (event ∷ events) c log all run =
      rw (← append_assoc) (run_at events (after_event event c) (log ++ event_lines event c) (step_at e all event run.0) run.1)

  module _ (channel : Channel) (t200 : Role → Sapi → ℕ) where
    abbrev first : RunState
    first = initial_run channel e t200

    first_link : (s : Sapi) (r : Role) → link_at r s first
        ≡ link_with (initial_endpoint r (sapi_of_endpoint e s) channel) (t200 r s)
    first_link Zero Mobile = refl
    first_link Zero Network = refl
    first_link Three Mobile = refl
    first_link Three Network = refl

    first_end : (k : Sapi) (r : Role) → end_of r k (start channel) ≡ initial_endpoint r k channel
    first_end k r = grind arith

    first_air : (s k : Sapi) (r : Role) → air_of r s k first ≡ []
    first_air s k Mobile = refl
    first_air s k Network = refl

    first_fits : (k : Sapi) (r : Role) (t : ℕ) → Fits r k [] (link_with (initial_endpoint r k channel) t) (start channel)
    first_fits k r t = record {
      endpoint = first_end k r;
      queue = none_sent r;
      sound = record { clock = λ n. refl; answer = tt; idle = λ n. refl };
    }
      where
        none_sent : (r : Role) → IsCovered [] (way r (start channel))
        none_sent Mobile = empty
        none_sent Network = empty

    first_heard : (k : Sapi) (r : Role) (t : ℕ) (l : LinkState) → l.heard ≡ false →
        IsHeard k k [] (link_with (initial_endpoint r k channel) t) l
    first_heard k r t l h = record {
      fine = record { sapi = refl; informed = by k; answer = tt };
      settled = tt;
      heard = λ e. absurd cc;
      full = λ z. tt;
    }
      where
        by : (k : Sapi) → is_informed (initial_endpoint r k channel) ≡ true
        by k = grind arith

    first_at : IsAt e first []
    first_at s = record {
      world = start channel;
      lines = [];
      reaches = at_start channel (sapi_of_endpoint e s);
      seen_lines = refl;
      fits = λ r. rw (first_air s (sapi_of_endpoint e s) r, first_link s r) (first_fits (sapi_of_endpoint e s) r (t200 r s));
      heard = λ r. rw (first_air s (sapi_of_endpoint e s) r, first_link s r)
          (first_heard (sapi_of_endpoint e s) r (t200 r s) (link_at (other r) s first) (rw (first_link s (other r)) refl));
    }

    module _ (events : List RunEvent) (run : IsRun events first) where
      abbrev log : List LogLine
      log = run_log events first

      ran : IsAt e (after_events events first) log
      ran = run_at events first [] first_at run

      -- no step changes the kind of establishment
      pub kind_stays : (r : Role) (s : Sapi) → (link_at r s (after_events events first)).endpoint.sapi ≡ sapi_of_endpoint e s
      kind_stays r s = own_sapi (of_side r (ran s)).link

      pub link_delivers : (s : Sapi) → Claims (log_of_link e s log)
      link_delivers s =
          let a = ran s in rw a.seen_lines at (claims-seen a.lines (session_claims (a.reaches.reached.session tt)))

      pub link_counts : (s : Sapi) → AckedAtMostDelivered (log_of_link e s log)
      link_counts s =
          let a = ran s in rw a.seen_lines at (counts-seen a.lines (session_counts (a.reaches.reached.session tt)))

      pub link_order : (s : Sapi) → HasNoticesInOrder (log_of_link e s log)
      link_order s =
          let a = ran s in
          rw a.seen_lines at (order-seen a.lines (session_order a.world a.lines a.reaches.reached.reported))

-- ---- with contention resolution the log of each link tells of it as it is

told-same : (s : Sapi) (l : LogLine) → is_log_line_of_sapi s l ≡ true → told_of (sapi_of_endpoint Contention s) l ≡ l
told-same s l e = grind (arith, e)

told_as_is : (s : Sapi) (ls : List LogLine) → log_of_link Contention s ls ≡ log_lines_of_sapi s ls
told_as_is s [] = refl
told_as_is s (l ∷ ls) = by (is_log_line_of_sapi s l) (told-same s l) (told_as_is s ls)
  where
    by : (b : Bool) → (b ≡ true → told_of (sapi_of_endpoint Contention s) l ≡ l) →
        log_of_link Contention s ls ≡ log_lines_of_sapi s ls →
        map (told_of (sapi_of_endpoint Contention s)) (cons_option (if b then Some l else None) (log_lines_of_sapi s ls))
        ≡ cons_option (if b then Some l else None) (log_lines_of_sapi s ls)
    by false same rest = rest
    by true same rest = λ i. same refl i ∷ rest i

-- the same of the whole log
module _ (log : List LogLine) where
  as_is : (P : List LogLine → Type 0) (s : Sapi) → P (log_of_link Contention s log) → P (log_lines_of_sapi s log)
  as_is P s h = subst P (told_as_is s log) h

  pub whole_delivers : ((s : Sapi) → Claims (log_of_link Contention s log)) → Claims log
  whole_delivers h = delivery_by_link log (as_is Claims Zero (h Zero)) (as_is Claims Three (h Three))

  pub whole_counts : ((s : Sapi) → AckedAtMostDelivered (log_of_link Contention s log)) → AckedAtMostDelivered log
  whole_counts h = counts_by_link log (as_is AckedAtMostDelivered Zero (h Zero)) (as_is AckedAtMostDelivered Three (h Three))

  pub whole_order : ((s : Sapi) → HasNoticesInOrder (log_of_link Contention s log)) → HasNoticesInOrder log
  whole_order h = order_by_link log (as_is HasNoticesInOrder Zero (h Zero)) (as_is HasNoticesInOrder Three (h Three))

module _ (channel : Channel) (t200 : Role → Sapi → ℕ) (events : List RunEvent)
    (run : IsRun events (initial_run channel Contention t200))
  where
    abbrev contention_log : List LogLine
    contention_log = run_log events (initial_run channel Contention t200)

    pub data_links_deliver : Claims contention_log
    data_links_deliver = whole_delivers contention_log (link_delivers Contention channel t200 events run)

    pub data_links_count : AckedAtMostDelivered contention_log
    data_links_count = whole_counts contention_log (link_counts Contention channel t200 events run)

    pub data_links_order : HasNoticesInOrder contention_log
    data_links_order = whole_order contention_log (link_order Contention channel t200 events run)
