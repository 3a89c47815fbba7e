-- Two whole data links in lockstep, up to a slot before which no link is opened again, are a run of specs/Runs, so they deliver.
use Rattle.std.specs.Prelude.{◌≡◌, ℕ, zero, suc, ◌<◌, Bool, true, false, if◌then◌else◌, List, [], ◌∷◌, ◌++◌}
use Rattle.std.specs.Prelude.{All, get_or, Option, Some, None}
use Rattle.std.specs.List.{cons_option}
use Rattle.std.proofs.Common.{arith, refl, sym, ap, ◌∙◌, subst, append-nil, append_assoc}
use Rattle.std.proofs.lemmas.List.Elements.{All-head, All-tail}
use Rattle.lapdm_frame.specs.Content.{Frame}
use Rattle.lapdm_end.specs.lapdm_window.segmenting.Segments.{Message}
use Rattle.lapdm_end.specs.lapdm_window.declared.Sapi.{Sapi}
use Rattle.lapdm_end.specs.lapdm_window.declared.Sapi.TheVariants.{Zero, Three}
use Rattle.lapdm_end.specs.lapdm_window.declared.Refused.{Refused}
use Rattle.lapdm_end.specs.lapdm_window.Ends.{Role, Mobile, Network, EndpointState}
use Rattle.lapdm_end.specs.lapdm_window.Calls.{Call, SendsUi, IsCallAllowedFor, refusal_of, call_outcome}
use Rattle.lapdm_link.specs.Events.{other}
use Rattle.lapdm_link.specs.Queues.{IsOldestSentOrNone}
use Rattle.lapdm_link.specs.Claims.{LogLine, Asked, Claims, AckedAtMostDelivered, HasNoticesInOrder}
use Rattle.lapdm_datalink.specs.declared.data_links.Establishment.{Establishment}
use Rattle.lapdm_datalink.specs.declared.data_links.Establishment.TheVariants.{Contention}
use Rattle.lapdm_datalink.specs.Links.{LinkState, for_call, afresh, after_call, is_reopened_by_call, with_outcome, IsLinkCall}
use Rattle.lapdm_datalink.specs.DataLinks.{DataLinkState, link_with_sapi, with_link, having_main, data_link_outcome, unit_frame}
use Rattle.lapdm_delivery.specs.Runs.{link_at, sapi_of_endpoint, log_of_link, RunState, RunEvent, Calls, Slot, UnitSlot, Arrives, HasMain}
use Rattle.lapdm_delivery.specs.Runs.{IsPossible, IsRun, run_log, after_event, event_lines, initial_run, arrival_lines}
use Rattle.lapdm_delivery.specs.Runs.{after_arrival_if_any, OpensNoClosedLink}
use Rattle.lapdm_datalink.proofs.Returned.{returns-call}
use Rattle.lapdm_datalink.proofs.Lemmas.{endpoint_with_frames}
use Rattle.lapdm_delivery.specs.Lockstep.{after_call_unless, carried, Run, refusal, after_call_if, after_call_of, after_calls}
use Rattle.lapdm_delivery.specs.Lockstep.{frame_or_unit, side_at, arriving_at, ready_at, outcome_at, IsCallOf, HasCalls, call_lines_unless}
use Rattle.lapdm_delivery.specs.Lockstep.{calls_lines, unit_lines, outcome_lines, before_at, taken_at, lines_at, log_before}
use Rattle.lapdm_delivery.specs.Lockstep.{CallsOpenNoLinkAgain, UnitIsAccepted, IsRegular}
use Rattle.lapdm_delivery.proofs.Runs.{after_events, kind_stays, link_delivers, link_counts, link_order, whole_delivers, whole_counts}
use Rattle.lapdm_delivery.proofs.Runs.{whole_order}
use Rattle.lapdm_delivery.proofs.LockstepHeard.{transit, transit-front, cons-append}

-- ---- runs one after the other

-- a run leads from this state to that with these log lines
record Goes (c z : RunState) (lines : List LogLine) : Type 0 where
  events : List RunEvent
  run : IsRun events c
  ends : after_events events c ≡ z
  log : run_log events c ≡ lines

goes-none : (c : RunState) → Goes c c []
goes-none c = record { events = []; run = tt; ends = refl; log = refl }

goes-one : (event : RunEvent) (c z : RunState) (lines : List LogLine) → IsPossible event c → after_event event c ≡ z →
    event_lines event c ≡ lines → Goes c z lines
goes-one event c z lines may ends log =
    record { events = event ∷ []; run = (may, tt); ends = ends; log = append-nil (event_lines event c) ∙ log }

module _ (fs : List RunEvent) where
  then-run : (es : List RunEvent) (c : RunState) → IsRun es c → IsRun fs (after_events es c) → IsRun (es ++ fs) c
  then-run [] c h g = g
  then-run (e ∷ es) c h g = (h.0, then-run es (after_event e c) h.1 g)

  then-end : (es : List RunEvent) (c : RunState) → after_events (es ++ fs) c ≡ after_events fs (after_events es c)
  then-end [] c = refl
  then-end (e ∷ es) c = then-end es (after_event e c)

  then-log : (es : List RunEvent) (c : RunState) → run_log (es ++ fs) c ≡ run_log es c ++ run_log fs (after_events es c)
  then-log [] c = refl
  then-log (e ∷ es) c =
      ap (λ ls. event_lines e c ++ ls) (then-log es (after_event e c))
      ∙ sym (append_assoc (event_lines e c) (run_log es (after_event e c)) (run_log fs (after_events es (after_event e c))))

goes-then : {c y z : RunState} {ls ms : List LogLine} → Goes c y ls → Goes y z ms → Goes c z (ls ++ ms)
goes-then {c} g h = record {
  events = g.events ++ h.events;
  run = then-run h.events g.events c g.run (rw g.ends h.run);
  ends = then-end h.events g.events c ∙ rw g.ends h.ends;
  log = then-log h.events g.events c ∙ rw (g.log, g.ends, h.log) refl;
}

-- ---- the kind of establishment

-- the endpoints of the data link have the SAPIs that the kind of establishment gives
abbrev IsOfKind : Establishment → DataLinkState → Type 0
IsOfKind e d = (s : Sapi) → (link_with_sapi s d).endpoint.sapi ≡ sapi_of_endpoint e s

pub not_afresh : (call : Call) (l : LinkState) → is_reopened_by_call call l ≡ false → for_call call l ≡ l
not_afresh call l h = ap (λ (b : Bool). if b then afresh l else l) h

called_sapi : (call : Call) (l : LinkState) → IsLinkCall call → is_reopened_by_call call l ≡ false → (x : Option Refused) →
    (after_call_unless x call l).endpoint.sapi ≡ l.endpoint.sapi
called_sapi call l is once (Some why) = refl
called_sapi call l is once None =
    let o = call_outcome call l.endpoint in
    ap (λ m. (with_outcome (call_outcome call m.endpoint) m).endpoint.sapi) (not_afresh call l once)
    ∙ ap (λ (e : EndpointState). e.sapi) (endpoint_with_frames o.frames (record l { endpoint = o.new_state }))
    ∙ (returns-call call l.endpoint is).sapi

kind_called : (e : Establishment) (t : Sapi) (call : Call) (d : DataLinkState) → IsLinkCall call →
    is_reopened_by_call call (link_with_sapi t d) ≡ false → (x : Option Refused) → IsOfKind e d →
    IsOfKind e (after_call_if x (t, call) d)
kind_called e t call d is once x kind s = by s t (kind s) (called_sapi call (link_with_sapi t d) is once x)
  where
    by : (s t : Sapi) → (link_with_sapi s d).endpoint.sapi ≡ sapi_of_endpoint e s →
        (after_call_unless x call (link_with_sapi t d)).endpoint.sapi ≡ (link_with_sapi t d).endpoint.sapi →
        (link_with_sapi s (after_call_if x (t, call) d)).endpoint.sapi ≡ sapi_of_endpoint e s
    by Zero Zero h g = g ∙ h
    by Three Three h g = g ∙ h
    by Zero Three h g = h
    by Three Zero h g = h

-- ---- one side's part of a slot

-- the state in which this side has the data link `own` and has sent `sent`, and the other side `peer` and `coming`
abbrev seen_by : Role → (own peer : DataLinkState) (sent coming : List Frame) → RunState
seen_by Mobile own peer sent coming = record { mobile = own; network = peer; air = record { up = sent; down = coming } }
seen_by Network own peer sent coming = record { mobile = peer; network = own; air = record { up = coming; down = sent } }

module _ (peer : DataLinkState) (sent coming : List Frame) where
  main-goes : (role : Role) (b : Bool) (d : DataLinkState) →
      Goes (seen_by role d peer sent coming) (seen_by role (having_main b d) peer sent coming) []
  main-goes Mobile b d = goes-one (HasMain Mobile b) _ _ _ tt refl refl
  main-goes Network b d = goes-one (HasMain Network b) _ _ _ tt refl refl

  -- what arrives of a frame that was sent, which may be lost
  oldest : (lost : Bool) (f : Frame) → IsOldestSentOrNone (carried lost (Some f)) (f ∷ coming)
  oldest true f = tt
  oldest false f = refl

  arrives-goes : (role : Role) (lost : Bool) (a : Option Frame) (d : DataLinkState) → OpensNoClosedLink (carried lost a) d →
      Goes (seen_by role d peer sent (cons_option a coming)) (seen_by role (after_arrival_if_any (carried lost a) d) peer sent coming)
      (arrival_lines role (carried lost a) d)
  arrives-goes role true None d h = goes-none (seen_by role d peer sent coming)
  arrives-goes role false None d h = goes-none (seen_by role d peer sent coming)
  arrives-goes Mobile lost (Some f) d h = goes-one (Arrives Network (carried lost (Some f))) _ _ _ (oldest lost f, h) refl refl
  arrives-goes Network lost (Some f) d h = goes-one (Arrives Mobile (carried lost (Some f))) _ _ _ (oldest lost f, h) refl refl

  same-link : (t : Sapi) (d : DataLinkState) → with_link t (link_with_sapi t d) d ≡ d
  same-link sapi d = grind arith

  call-goes : (role : Role) (t : Sapi) (call : Call) (d : DataLinkState) →
      IsCallAllowedFor role (link_with_sapi t d).endpoint.sapi call → IsLinkCall call →
      is_reopened_by_call call (link_with_sapi t d) ≡ false → (x : Option Refused) → refusal (t, call) d ≡ x →
      Goes (seen_by role d peer sent coming) (seen_by role (after_call_if x (t, call) d) peer sent coming)
      (call_lines_unless x role (t, call))
  call-goes role t call d may is once (Some why) e =
      subst (λ z. Goes (seen_by role d peer sent coming) (seen_by role z peer sent coming) []) (sym (same-link t d))
      (goes-none (seen_by role d peer sent coming))
  call-goes role t call d may is once None e = by role may
    where
      ok : refusal_of call (link_with_sapi t d).endpoint ≡ None
      ok = ap (λ (l : LinkState). refusal_of call l.endpoint) (sym (not_afresh call (link_with_sapi t d) once)) ∙ e

      by : (role : Role) → IsCallAllowedFor role (link_with_sapi t d).endpoint.sapi call → Goes (seen_by role d peer sent coming)
          (seen_by role (with_link t (after_call call (link_with_sapi t d)) d) peer sent coming) (Asked role t call ∷ [])
      by Mobile may = goes-one (Calls Mobile t call) _ _ _ (is, may, ok) refl refl
      by Network may = goes-one (Calls Network t call) _ _ _ (is, may, ok) refl refl

  calls-goes : (e : Establishment) (role : Role) (cs : List (Sapi × Call)) (d : DataLinkState) → IsOfKind e d →
      All (IsCallOf e role) cs → CallsOpenNoLinkAgain cs d →
      Goes (seen_by role d peer sent coming) (seen_by role (after_calls cs d) peer sent coming) (calls_lines role cs d)
  calls-goes e role [] d kind h once = goes-none (seen_by role d peer sent coming)
  calls-goes e role ((t, call) ∷ cs) d kind h once =
      let first = All-head (IsCallOf e role) (t, call) cs h in
      let may : IsCallAllowedFor role (link_with_sapi t d).endpoint.sapi call = rw (kind t) first.0 in
      goes-then (call-goes role t call d may first.1 once.0 (refusal (t, call) d) refl)
      (calls-goes e role cs (after_call_of (t, call) d) (kind_called e t call d first.1 once.0 (refusal (t, call) d) kind)
      (All-tail (IsCallOf e role) (t, call) cs h) once.1)

  slot-goes : (role : Role) (d : DataLinkState) → let o = data_link_outcome d in
      Goes (seen_by role d peer sent coming) (seen_by role o.new_state peer (sent ++ cons_option o.frame []) coming) (outcome_lines role o)
  slot-goes Mobile d = goes-one (Slot Mobile) _ _ _ tt refl refl
  slot-goes Network d = goes-one (Slot Network) _ _ _ tt refl refl

  unit-goes : (role : Role) (t : Sapi) (m : Message) (d : DataLinkState) → let o = data_link_outcome d in
      (o.frame ≡ None) → refusal_of (SendsUi m) (link_with_sapi t o.new_state).endpoint ≡ None →
      Goes (seen_by role d peer sent coming)
      (seen_by role o.new_state peer (sent ++ unit_frame t m o.new_state ∷ []) coming)
      (outcome_lines role o ++ Asked role t (SendsUi m) ∷ [])
  unit-goes Mobile t m d free ok = goes-one (UnitSlot Mobile t m) _ _ _ (free, ok) refl refl
  unit-goes Network t m d free ok = goes-one (UnitSlot Network t m) _ _ _ (free, ok) refl refl

  -- the slot, in which a UI frame goes out if it is free
  sends-goes : (role : Role) (unit : Option (Sapi × Message)) (d : DataLinkState) → let o = data_link_outcome d in
      UnitIsAccepted unit o.new_state →
      Goes (seen_by role d peer sent coming)
      (seen_by role o.new_state peer (sent ++ cons_option (frame_or_unit o.frame unit o.new_state) []) coming)
      (outcome_lines role o ++ unit_lines role o.frame unit)
  sends-goes role unit d ok = by (data_link_outcome d).frame refl unit ok
    where
      by : (a : Option Frame) → (data_link_outcome d).frame ≡ a → (unit : Option (Sapi × Message)) →
          UnitIsAccepted unit (data_link_outcome d).new_state →
          (let o = data_link_outcome d in Goes (seen_by role d peer sent coming)
          (seen_by role o.new_state peer (sent ++ cons_option (frame_or_unit a unit o.new_state) []) coming)
          (outcome_lines role o ++ unit_lines role a unit))
      by (Some f) e unit ok = rw (append-nil (outcome_lines role (data_link_outcome d))) (rw e at (slot-goes role d))
      by None e None ok = rw (append-nil (outcome_lines role (data_link_outcome d))) (rw e at (slot-goes role d))
      by None e (Some (t, m)) ok = unit-goes role t m d e ok

-- ---- the frames in transit

module _ (r : Run) where
  -- the frame that this side sends in the slot, and those of all slots before it
  abbrev aired_at : ℕ → Role → Option Frame
  aired_at n role = frame_or_unit (outcome_at r n role).frame (r.part n role).unit (outcome_at r n role).new_state

  abbrev aired : ℕ → Role → List (Option Frame)
  aired zero role = []
  aired (suc n) role = aired_at n role ∷ aired n role

  -- what arrives of a frame was sent, or it is lost
  arrives : (n k : ℕ) (role : Role) → (lost : Bool)
      × (get_or (side_at r n role).sent k None ≡ carried lost (get_or (aired n role) k None))
  arrives zero k role = (false, refl)
  arrives (suc n) zero role = ((r.part n role).is_lost, refl)
  arrives (suc n) (suc k) role = arrives n k role

  abbrev data_link : ℕ → Role → DataLinkState
  data_link n role = (side_at r n role).data_link

  abbrev t200_of : Role → Sapi → ℕ
  t200_of role Zero = r.t200
  t200_of role Three = r.t200_sapi3 role

  abbrev first : RunState
  first = initial_run r.channel r.establishment t200_of

  of_kind : (role : Role) (d peer : DataLinkState) (sent coming : List Frame) {lines : List LogLine} →
      Goes first (seen_by role d peer sent coming) lines → IsOfKind r.establishment d
  of_kind role d peer sent coming g s = by role (rw g.ends at (kind_stays r.establishment r.channel t200_of g.events g.run role s))
    where
      by : (role : Role) → (link_at role s (seen_by role d peer sent coming)).endpoint.sapi ≡ sapi_of_endpoint r.establishment s →
          (link_with_sapi s d).endpoint.sapi ≡ sapi_of_endpoint r.establishment s
      by Mobile h = h
      by Network h = h

  -- one side's part of the slot, in a run that leads to it
  part-goes : HasCalls r → (n : ℕ) (role : Role) → IsRegular r n role → (peer : DataLinkState) (sent rest : List Frame)
      {lines : List LogLine} →
      Goes first (seen_by role (data_link n role) peer sent (cons_option (get_or (aired n (other role)) r.delay None) rest)) lines →
      Goes (seen_by role (data_link n role) peer sent (cons_option (get_or (aired n (other role)) r.delay None) rest))
      (seen_by role (data_link (suc n) role) peer (sent ++ cons_option (aired_at n role) []) rest) (lines_at r n role)
  part-goes calls n role h peer sent rest whole =
      let a = arrives n r.delay (other role) in
      let taken = goes-then (main-goes peer sent (cons_option (get_or (aired n (other role)) r.delay None) rest) role
      (r.part n role).is_main_established (data_link n role)) (arrived a.0 a.1) in
      let own : IsOfKind r.establishment (taken_at r n role) = of_kind role _ peer sent rest (goes-then whole taken) in
      goes-then taken
      (goes-then (calls-goes peer sent rest r.establishment role (r.part n role).calls (taken_at r n role) own (calls n role) h.calls)
      (sends-goes peer sent rest role (r.part n role).unit (ready_at r n role) h.unit))
    where
      arrived : (lost : Bool) → arriving_at r n role ≡ carried lost (get_or (aired n (other role)) r.delay None) →
          Goes (seen_by role (before_at r n role) peer sent (cons_option (get_or (aired n (other role)) r.delay None) rest))
          (seen_by role (taken_at r n role) peer sent rest) (arrival_lines role (arriving_at r n role) (before_at r n role))
      arrived lost e = rw e (arrives-goes peer sent rest role lost (get_or (aired n (other role)) r.delay None) (before_at r n role)
          (rw e at h.arrival))

  -- the state before the slot
  abbrev state_at : ℕ → RunState
  state_at n = seen_by Mobile (data_link n Mobile) (data_link n Network) (transit (aired n Mobile) (suc r.delay))
      (transit (aired n Network) (suc r.delay))

  slot-step : HasCalls r → (n : ℕ) → ((role : Role) → IsRegular r n role) → {lines : List LogLine} →
      Goes first (state_at n) lines →
      Goes (state_at n) (state_at (suc n)) (lines_at r n Mobile ++ lines_at r n Network)
  slot-step calls n h whole = goes-then mobiles networks
    where
      middle : RunState
      middle = seen_by Mobile (data_link (suc n) Mobile) (data_link n Network)
          (transit (aired n Mobile) (suc r.delay) ++ cons_option (aired_at n Mobile) []) (transit (aired n Network) r.delay)

      mobiles : Goes (state_at n) middle (lines_at r n Mobile)
      mobiles = rw (transit-front (aired n Network) r.delay)
          (part-goes calls n Mobile (h Mobile) (data_link n Network) (transit (aired n Mobile) (suc r.delay))
          (transit (aired n Network) r.delay) (rw (transit-front (aired n Network) r.delay) at whole))

      networks : Goes middle (state_at (suc n)) (lines_at r n Network)
      networks = rw (transit-front (aired n Mobile) r.delay, cons-append)
          (part-goes calls n Network (h Network) (data_link (suc n) Mobile) (transit (aired n Network) r.delay)
          (transit (aired n Mobile) r.delay ++ cons_option (aired_at n Mobile) [])
          (rw (transit-front (aired n Mobile) r.delay, cons-append) at (goes-then whole mobiles)))

  run-goes : HasCalls r → (n : ℕ) → ((k : ℕ) → k < n → (role : Role) → IsRegular r k role) →
      Goes first (state_at n) (log_before r n)
  run-goes calls zero h = goes-none first
  run-goes calls (suc n) h =
      let whole = run-goes calls n (λ k few. h k (omega (arith, few))) in
      goes-then whole (slot-step calls n (h n (omega arith)) whole)

  module _ (calls : HasCalls r) (n : ℕ) (h : (k : ℕ) → k < n → (role : Role) → IsRegular r k role) where
    abbrev going : Goes first (state_at n) (log_before r n)
    going = run-goes calls n h

    pub links_deliver : (s : Sapi) → Claims (log_of_link r.establishment s (log_before r n))
    links_deliver s = rw going.log at (link_delivers r.establishment r.channel t200_of going.events going.run s)

    pub links_count : (s : Sapi) → AckedAtMostDelivered (log_of_link r.establishment s (log_before r n))
    links_count s = rw going.log at (link_counts r.establishment r.channel t200_of going.events going.run s)

    pub links_order : (s : Sapi) → HasNoticesInOrder (log_of_link r.establishment s (log_before r n))
    links_order s = rw going.log at (link_order r.establishment r.channel t200_of going.events going.run s)

module _ (r : Run) (kind : r.establishment ≡ Contention) (calls : HasCalls r) (n : ℕ)
    (h : (k : ℕ) → k < n → (role : Role) → IsRegular r k role)
  where
    with_contention : (P : List LogLine → Type 0) → ((s : Sapi) → P (log_of_link r.establishment s (log_before r n))) →
        (s : Sapi) → P (log_of_link Contention s (log_before r n))
    with_contention P g s = subst (λ e. P (log_of_link e s (log_before r n))) kind (g s)

    pub delivers : Claims (log_before r n)
    delivers = whole_delivers (log_before r n) (with_contention Claims (links_deliver r calls n h))

    pub counts : AckedAtMostDelivered (log_before r n)
    counts = whole_counts (log_before r n) (with_contention AckedAtMostDelivered (links_count r calls n h))

    pub in_order : HasNoticesInOrder (log_before r n)
    in_order = whole_order (log_before r n) (with_contention HasNoticesInOrder (links_order r calls n h))
