-- How each event changes the endpoints and queues of a session.
use Rattle.{
  lapdm_link.specs.{
    Claims.{Asked, LogLine, Notified, RivalSabm, answer_log_lines, calls_in_log, is_same_role, is_same_sapi, notice_log_lines},
    Claims.notices_in_log,
    Events.{AirFull, Ask, BySide, Deliver, EventRefusal, Event, Lose, OpenBare, Open, QueueCapacity, Request, Rival, SideStep},
    Events.{as_event_refusal, endpoint_at, endpoint_call_of, event_step, no_op_step, other, refusal_if, rival_refusal, rival_sabm},
    Events.{side_with_role, step_with_peer_unchanged, with_side_replaced},
    Queues.{queue_of, with_items_appended},
    Worlds.{World, answer_unless_refused, answer, initial_world, refusal, world_after_possible_refusal, world_after_step, world_after},
  },
  lapdm_window.{
    proofs.Lemmas.by_sapi,
    specs.{Calls.{Call, OpensWithoutInfo, Opens, call_outcome, refusal_of}, Ends.{EndpointState, Mobile, Network, Outcome, Role}},
    specs.{Ends.{initial_endpoint, sapi_number, ◌then◌}, Sides.{SideState, endpoint_with_sapi, with_sapi_endpoint_replaced}},
    specs.{Tables.frame_outcome, declared.{Notice.Notice, Refused.Refused, Sapi.{TheVariants.{Three, Zero}, Sapi}, State.TheVariants.Open}},
    specs.{lapdm_frame.{Content.{Content, Frame, I, Rej, Rr, Ui}, declared.Channel.Channel}, segmenting.Segments.Message},
  },
  std.proofs.Common.{Bool, List, None, Option, Some, [], arith, drop, false, if◌then◌else◌, map, nat_eq, refl, subst, sym, true},
  std.proofs.{Common.{zero, ◌&&◌, ◌++◌, ◌∙◌, ◌∷◌, ◌≡◌}, lemmas.List.{Elements.filter_map-append, append-nil}},
  std.specs.{List.{cons_option, filter_map}, Prelude.◌⊎◌},
}
use Rattle.lapdm_link.specs.Queues as W
use Rattle.lapdm_window.specs.Sides as S

-- ## Queues: Of the frames in transit, an endpoint takes those with its own SAPI. It ignores fill frames.

abbrev pub is_on : Sapi → Frame → Bool
is_on sapi f = nat_eq f.sapi (sapi_number sapi)

abbrev pub content_of_body : Content → Option Content
content_of_body (Ui p []) = None
content_of_body c = Some c

abbrev pub contents : List Frame → List Content
contents fs = filter_map (λ f. content_of_body f.content) fs

abbrev pub content_on : Sapi → Frame → Option Content
content_on s f = if is_on s f then content_of_body f.content else None

abbrev pub contents_on : Sapi → List Frame → List Content
contents_on s fs = filter_map (content_on s) fs

abbrev pub AllOf : {T : Type 0} → (T → Type 0) → List T → Type 0
AllOf P [] = Unit {0}
AllOf P (x ∷ xs) = P x × AllOf P xs

module _ {T : Type 0} (P : T → Type 0) where
  pub of-append : (xs ys : List T) → AllOf P xs → AllOf P ys → AllOf P (xs ++ ys)
  of-append [] ys h g = g
  of-append (x ∷ xs) ys h g = (h.0, of-append xs ys h.1 g)

  pub of-as : (Q : T → Type 0) → ((x : T) → P x → Q x) → (xs : List T) → AllOf P xs → AllOf Q xs
  of-as Q says [] h = tt
  of-as Q says (x ∷ xs) h = (says x h.0, of-as Q says xs h.1)

-- the content is not that of an I, RR or REJ frame, so an endpoint evaluates no sequence number in it
abbrev pub IsPlain : Content → Type 0
IsPlain (I ns nr p more info) = ⊥
IsPlain (Rr nr pf) = ⊥
IsPlain (Rej nr pf) = ⊥
IsPlain other = Unit {0}

abbrev pub IsForSapi : Sapi → Frame → Type 0
IsForSapi s f = (f.sapi ≡ sapi_number s) ⊎ (f.content ≡ Ui false [])

abbrev pub AllFrames : (Content → Type 0) → Sapi → List Frame → Type 0
AllFrames Says s [] = Unit {0}
AllFrames Says s (f ∷ fs) = IsForSapi s f × Says f.content × AllFrames Says s fs

pub frames-append : (Says : Content → Type 0) (s : Sapi) (fs gs : List Frame) → AllFrames Says s fs → AllFrames Says s gs →
    AllFrames Says s (fs ++ gs)
frames-append Says s [] gs h g = g
frames-append Says s (f ∷ fs) gs h g = (h.0, h.1, frames-append _ s fs gs h.2 g)

module _ (Says P : Content → Type 0) (says : (c : Content) → Says c → P c) (s : Sapi) where
  pub frames-as : (fs : List Frame) → AllFrames Says s fs → AllFrames P s fs
  frames-as [] h = tt
  frames-as (f ∷ fs) h = (h.0, says _ h.1, frames-as fs h.2)

  say-one : (c : Content) (cs : List Content) → P c → AllOf P cs → AllOf P (cons_option (content_of_body c) cs)
  say-one (Ui p []) cs g h = h
  say-one c cs g h = (g, h)

  pub frames-say : (fs : List Frame) → AllFrames Says s fs → AllOf P (contents fs)
  frames-say [] h = tt
  frames-say (f ∷ fs) h = say-one f.content _ (says _ h.1) (frames-say fs h.2)

pub frames-of_sapi : (Says : Content → Type 0) (s : Sapi) (fs : List Frame) → AllFrames Says s fs → AllOf (IsForSapi s) fs
frames-of_sapi Says s [] h = tt
frames-of_sapi Says s (f ∷ fs) h = (h.0, frames-of_sapi _ s fs h.2)

said-at : (t s : Sapi) (own : Bool) → is_same_sapi t s ≡ own → (f : Frame) → IsForSapi s f →
    content_on t f ≡ (if own then content_of_body f.content else None)
said-at t s own e f h = grind arith

pub own_sapi : (s : Sapi) → is_same_sapi s s ≡ true
own_sapi s = grind arith

pub contents-of_sapi : (s : Sapi) (fs : List Frame) → AllOf (IsForSapi s) fs → contents_on s fs ≡ contents fs
contents-of_sapi s [] h = refl
contents-of_sapi s (f ∷ fs) h = rw (said-at s s true (own_sapi s) f h.0, contents-of_sapi s fs h.1) refl

pub contents-other : (t s : Sapi) → is_same_sapi t s ≡ false → (fs : List Frame) → AllOf (IsForSapi s) fs →
    contents_on t fs ≡ []
contents-other t s e [] h = refl
contents-other t s e (f ∷ fs) h = rw (said-at t s _ e f h.0) (contents-other t s e fs h.1)

-- ## Views: How the endpoints, the queues and the log of a session change when one endpoint, one queue or the log changes.

-- ---- names for the parts of a session's state
-- a list without its first element
abbrev pub rest : {T : Type 0} → List T → List T
rest xs = drop 1 xs

abbrev pub end_of : Role → Sapi → World → EndpointState
end_of r s w = endpoint_at r s w.ends

abbrev pub way : Role → World → List Frame
way r w = W.queue_of r w.queues

abbrev pub without_oldest_item : Role → World → World
without_oldest_item r w = record w { queues = W.without_oldest_item r w.queues }

abbrev pub with_frames : Role → List Frame → World → World
with_frames r fs w = record w { queues = W.with_items_appended r fs w.queues }

abbrev pub acted : Role → Sapi → Outcome → World → World
acted r s o w =
    let side = with_sapi_endpoint_replaced s o.new_state (side_with_role r w.ends) in
    with_frames r o.frames (record w { ends = with_side_replaced r side w.ends })

abbrev pub is_end : Role → Sapi → Role → Sapi → Bool
is_end r s r' s' = is_same_role r r' && is_same_sapi s s'

abbrev pub said : Role → Sapi → List Call → List Notice → List LogLine
said r s cs ns = map (Asked r s) cs ++ map (Notified r s) ns

pub by_link : (P : Sapi → Type 0) (s : Sapi) → P s → ((s' : Sapi) → is_same_sapi s' s ≡ false → P s') → (s' : Sapi) → P s'
by_link P s h g s' = grind arith

pub each_way : (P : Role → Type 0) (r : Role) → P r → P (other r) → (r' : Role) → P r'
each_way P r h g r' = grind arith

pub each_start : (P : Role → Sapi → EndpointState → Type 0) (capacity : QueueCapacity) (channel : Channel) →
    ((r : Role) (s : Sapi) → P r s (initial_endpoint r s channel)) → (r : Role) (s : Sapi)
    → P r s (end_of r s (initial_world capacity channel))
each_start P capacity channel h r s = grind arith

side_does : (P : Sapi → EndpointState → Type 0) (s : Sapi) (e : EndpointState) (side : SideState) → P s e →
    ((s' : Sapi) → is_same_sapi s' s ≡ false → P s' (endpoint_with_sapi s' side)) → (s' : Sapi) →
    P s' (endpoint_with_sapi s' (with_sapi_endpoint_replaced s e side))
side_does P s e side s' h g = grind arith

pub ends_do : (P : Role → Sapi → EndpointState → Type 0) (r : Role) (s : Sapi) (o : Outcome) (w : World) → P r s o.new_state →
    ((r' : Role) (s' : Sapi) → is_end r' s' r s ≡ false → P r' s' (end_of r' s' w)) → (r' : Role) (s' : Sapi) →
    P r' s' (end_of r' s' (acted r s o w))
ends_do P Mobile s o w h g Mobile s' = side_does (P Mobile) s o.new_state w.ends.mobile h (g _) s'
ends_do P Mobile s o w h g Network s' = g _ s' refl
ends_do P Network s o w h g Mobile s' = g _ s' refl
ends_do P Network s o w h g Network s' = side_does (P Network) s o.new_state w.ends.network h (g _) s'

pub way-acted : (r : Role) (s : Sapi) (o : Outcome) (w : World) → way r (acted r s o w) ≡ way r w ++ o.frames
way-acted r s o w = grind arith

pub way-acted_other : (r : Role) (s : Sapi) (o : Outcome) (w : World) → way (other r) (acted r s o w) ≡ way (other r) w
way-acted_other r s o w = grind arith

pub each_lost : (P : Role → List Frame → Type 0) → ((r : Role) (fs : List Frame) → P r fs → P r (rest fs)) →
    (sender : Role) (w : World) → ((r : Role) → P r (way r w)) → (r : Role) → P r (way r (without_oldest_item sender w))
each_lost P gone sender w h r = grind arith

-- ---- log lines of one endpoint, and of the others
-- `is_end` is true if both roles and both SAPIs are the same
pub is_end-self : (r : Role) (s : Sapi) → is_end r s r s ≡ true
is_end-self r s = grind arith

pub other_is : (r : Role) (s : Sapi) → is_end (other r) s r s ≡ false
other_is r s = grind arith

pub end_of-acted : (r : Role) (s : Sapi) (o : Outcome) (w : World) → end_of r s (acted r s o w) ≡ o.new_state
end_of-acted r s o w = grind arith

pub end_of-acted_else : (r : Role) (s : Sapi) (o : Outcome) (w : World) (r' : Role) (s' : Sapi) → is_end r' s' r s ≡ false →
    end_of r' s' (acted r s o w) ≡ end_of r' s' w
end_of-acted_else r s o w = grind arith

pub link_else : (r' r : Role) (s' s : Sapi) → is_same_sapi s' s ≡ false → is_end r' s' r s ≡ false
link_else r' r s' s h = grind arith

-- the log lines of a step: first the SABM frames that other mobiles sent, then the calls and notices of one endpoint
abbrev pub lines_of_step : Role → Sapi → List Message → List Call → List Notice → List LogLine
lines_of_step r s is cs ns = map RivalSabm is ++ said r s cs ns

-- in the log lines of a step, all calls and notices belong to the endpoint that acts
module _ (r' : Role) (s' : Sapi) (r : Role) (s : Sapi) where
  calls_in_step : (is : List Message) (cs : List Call) (ns : List Notice) →
      calls_in_log r' s' (lines_of_step r s is cs ns) ≡ (if is_end r' s' r s then cs else [])
  calls_in_step (i ∷ is) cs ns = calls_in_step is cs ns
  calls_in_step [] (c ∷ cs) ns = grind (arith, calls_in_step [] cs ns)
  calls_in_step [] [] (n ∷ ns) = calls_in_step [] [] ns
  calls_in_step [] [] [] = grind arith

  notices_in_step : (is : List Message) (cs : List Call) (ns : List Notice) →
      notices_in_log r' s' (lines_of_step r s is cs ns) ≡ (if is_end r' s' r s then ns else [])
  notices_in_step (i ∷ is) cs ns = notices_in_step is cs ns
  notices_in_step [] (c ∷ cs) ns = notices_in_step [] cs ns
  notices_in_step [] [] (n ∷ ns) = grind (arith, notices_in_step [] [] ns)
  notices_in_step [] [] [] = grind arith

module _ (r : Role) (s : Sapi) (ls : List LogLine) (is : List Message) (cs : List Call) (ns : List Notice) where
  pub calls_in_log-own : calls_in_log r s (ls ++ lines_of_step r s is cs ns) ≡ calls_in_log r s ls ++ cs
  calls_in_log-own = filter_map-append _ ls _ ∙ rw (calls_in_step r s r s is cs ns, is_end-self r s) refl

  pub notices_in_log-own : notices_in_log r s (ls ++ lines_of_step r s is cs ns) ≡ notices_in_log r s ls ++ ns
  notices_in_log-own = filter_map-append _ ls _ ∙ rw (notices_in_step r s r s is cs ns, is_end-self r s) refl

  module _ (r' : Role) (s' : Sapi) (e : is_end r' s' r s ≡ false) where
    pub calls_in_log-else : calls_in_log r' s' (ls ++ lines_of_step r s is cs ns) ≡ calls_in_log r' s' ls
    calls_in_log-else = filter_map-append _ ls _ ∙ rw (calls_in_step r' s' r s is cs ns, e, append-nil) refl

    pub notices_in_log-else : notices_in_log r' s' (ls ++ lines_of_step r s is cs ns) ≡ notices_in_log r' s' ls
    notices_in_log-else = filter_map-append _ ls _ ∙ rw (notices_in_step r' s' r s is cs ns, e, append-nil) refl

pub notices_in_log-at : (r : Role) (s : Sapi) (before : List LogLine) (n : Notice) (more : List LogLine) →
    notices_in_log r s (before ++ Notified r s n ∷ more) ≡ notices_in_log r s before ++ n ∷ notices_in_log r s more
notices_in_log-at r s before n more = rw (filter_map-append, is_end-self r s) refl

-- ## ByKind: Case analysis of events: an event is refused, or it is a call, a received frame, an arrival of which nothing is read, a loss,
-- or a SABM of another mobile.

-- the call exists for the endpoint with this role and SAPI: `Opens` only for the mobile on SAPI 0, `OpensWithoutInfo` only on SAPI 3, every
-- other call for all endpoints
abbrev pub IsPlaced : Role → Sapi → Call → Type 0
IsPlaced r s (Opens info) = (r ≡ Mobile) × (s ≡ Zero)
IsPlaced r s OpensWithoutInfo = s ≡ Three
IsPlaced r s call = Unit {0}

placed-request : (r : Role) (s : Sapi) (request : Request) → IsPlaced r s (endpoint_call_of request)
placed-request r s request = grind arith

-- if the event is an arrival, `Known` holds for the frame that the receiver reads
abbrev pub Knows : (Role → Frame → Type 0) → Event → Type 0
Knows Known (Deliver sender (Some f)) = Known sender f
Knows Known event = Unit {0}

abbrev pub KnowsBy : Option EventRefusal → (Role → Frame → Type 0) → Event → Type 0
KnowsBy (Some why) Known event = Unit {0}
KnowsBy None Known event = Knows Known event

no_refusal : (b : Bool) (o : Option Refused) → refusal_if b AirFull (as_event_refusal o) ≡ None → o ≡ None
no_refusal b o h = grind arith

pub with_frames-none : (r : Role) (w : World) → with_frames r [] w ≡ w
with_frames-none Mobile w = rw append-nil refl
with_frames-none Network w = rw append-nil refl

module _ (w : World) (P : World → List LogLine → Type 0) (Known : Role → Frame → Type 0) (refused : P w [])
    (called : (r : Role) (s : Sapi) (call : Call) → IsPlaced r s call → refusal_of call (end_of r s w) ≡ None →
    P (acted r s (call_outcome call (end_of r s w)) w) (Asked r s call ∷ map (Notified r s) (call_outcome call (end_of r s w)).notices))
    (taken : (r : Role) (s : Sapi) (f : Frame) → nat_eq f.sapi (sapi_number s) ≡ true → Known (other r) f →
    P (acted r s (frame_outcome f (end_of r s (without_oldest_item (other r) w))) (without_oldest_item (other r) w))
    (map (Notified r s) (frame_outcome f (end_of r s (without_oldest_item (other r) w))).notices))
    (lost : (sender : Role) → P (without_oldest_item sender w) []) (rival : (info : Message) → rival_refusal w.channel info ≡ None →
    P (with_frames Mobile (rival_sabm info ∷ []) w) (RivalSabm info ∷ []))
  where
    abbrev Then : Option EventRefusal → Event → Type 0
    Then o event = P (world_after_possible_refusal o event w) (answer_log_lines event (answer_unless_refused o (event_step event w.ends)))

    pub either : (o : Option EventRefusal) (event : Event) → KnowsBy o Known event →
        (o ≡ None → Knows Known event → Then None event) → Then o event
    either o event known h = grind arith

    quietly : (sender r : Role) → P (with_frames r [] (without_oldest_item sender w)) []
    quietly sender r = subst (λ z. P z []) (sym (with_frames-none r _)) (lost sender)

    -- `P` holds after the oldest frame arrives at side r, which then takes step d
    abbrev Arrives : Role → S.SideStep → Type 0
    Arrives r d = P (world_after_step (step_with_peer_unchanged r d w.ends) (without_oldest_item (other r) w))
        (notice_log_lines (BySide r) d.sapi d.notices)

    none_taken : (r : Role) → Arrives r (S.no_op_step (side_with_role r w.ends))
    none_taken Mobile = quietly Network Mobile
    none_taken Network = quietly Mobile Network

    taken_by : (r : Role) (f : Frame) → Known (other r) f → Arrives r (S.step_for_frame f (side_with_role r w.ends))
    taken_by r f known = by_sapi f (side_with_role r w.ends) (Arrives r) (λ zero. taken r Zero f (rw zero refl) known)
        (λ three. taken r Three f (rw three refl) known) (λ e e'. none_taken r)

    pub by_event : (event : Event) → refusal event w ≡ None → Knows Known event → Then None event
    by_event (Open info) e known = called _ _ _ (refl, refl) (no_refusal _ _ e)
    by_event (OpenBare r) e known = called r _ _ refl (no_refusal _ _ e)
    by_event (Ask r s request) e known = called r s _ (placed-request r s _) (no_refusal _ _ e)
    by_event (Deliver Mobile (Some f)) e known = taken_by Network f known
    by_event (Deliver Network (Some f)) e known = taken_by Mobile f known
    by_event (Deliver Mobile None) e known = none_taken Network
    by_event (Deliver Network None) e known = none_taken Mobile
    by_event (Lose sender) e known = quietly sender Mobile
    by_event (Rival info) e known = rival info (no_refusal _ _ e)

    pub by_kind : (event : Event) → KnowsBy (refusal event w) Known event →
        P (world_after event w) (answer_log_lines event (answer event w))
    by_kind event known = either _ event known (by_event event)
