-- The claims about delivery hold in benign sessions, in which frames may be lost, but not damaged or reordered.
use Rattle.{
  lapdm_link.{
    proofs.{
      Acting.{is_called, opens, taken-frame},
      Directions.{initial-direction, number_as, number_before, number_gone, segment_as, segment_before},
      Events.{AllOf, IsForSapi, KnowsBy, acted, by_kind, by_link, calls_in_log-else, calls_in_log-own, content_of_body, contents-of_sapi},
      Events.{contents-other, contents_on, end_of-acted_else, end_of-acted, is_end, is_on, lines_of_step, link_else, notices_in_log-else},
      Events.{notices_in_log-own, other_is, rest, way-acted, way, without_oldest_item},
      Links.{HasUnits, IsStep, LinkInvariant, Side, Step, acked_most, acted_by, after, called, delivered_in_order, invariant-step, lines},
      Links.{no_oversize, none_oversize, other_after, own_frames, rival, sent, side, took, ui_in_order-claim, ui_in_order-here},
      Links.{ui_in_order-lost, ui_in_order-there},
      Openings.{HasOpenings, IsOpenedAfter, notified, of-rest, openings-here, openings-more, openings-there},
      Order.{AllOccur, AllReported, in_order-step, initial-reported, occur-append, order_of, stands},
      Subsequences.empty,
      Rules.{gone, known},
    },
    specs.Claims.{AckedAtMostDelivered, Asked, Claims, HasNoticesInOrder, LogLine, Notified, acked_message_numbers, answer_log_lines},
    specs.{Claims.{delivered_messages, is_same_sapi, session_log}, Events.{EventRefusal, Event, QueueCapacity, other}},
    specs.{Queues.IsOldestSentOrNone, Worlds.{IsBenignEventExceptReplaced, IsBenignEvent, IsBenignExceptReplaced, IsBenign}},
    specs.Worlds.{IsOldestSentOrReplaced, MayBeReadFor, as_sent, dm_for_any, rr_for_rej, with_nr, without_ack},
    specs.Worlds.{World, answers, answer, initial_world, refusal, rej_replaced_by_rr, world_after},
  },
  lapdm_window.specs.{
    Calls.Call,
    Ends.{Mobile, Network, Role, initial_endpoint, sapi_number, va},
    declared.{Notice.{TheVariants.Acked, Notice}, Sapi.{TheVariants.Zero, Sapi}},
    lapdm_frame.{Content.{Content, Dm, Frame, I, Rej, Rr}, declared.Channel.Channel},
    segmenting.Segments.Message,
  },
  std.proofs.Common.{Bool, List, Option, Some, [], append_assoc, ap, arith, false, inl, inr, length, refl, true, ℕ, ◌++◌, ◌+◌},
  std.proofs.{Common.{◌∙◌, ◌∷◌, ◌≡◌, ◌≤◌}, lemmas.List.{Elements.filter_map-append, append-nil, length-append}},
  std.proofs.lemmas.Bool.Decides.nat_tests,
  std.specs.List.cons_option,
}
use Rattle.lapdm_link.specs.Claims as C
use Rattle.lapdm_window.specs.declared.Notice.TheVariants as N

-- ## Sessions: The claims about delivery hold in every benign session. The invariant `IsSession` says for both links that messages and UI
-- frames arrive in order and that each establishment has a cause.

-- ---- the invariant of one link

-- the invariant of one link, stated for its two endpoints
pub data IsLink (r q : Role) (s : Sapi) (x y : Side) (ls : List LogLine) : Type 0 where
  link : LinkInvariant x y → HasUnits x y → HasUnits y x → HasOpenings r s x ls → HasOpenings q s y ls → IsLink r q s x y ls

carried_by_link : {r q : Role} {s : Sapi} {x y : Side} {ls : List LogLine} → IsLink r q s x y ls → LinkInvariant x y
carried_by_link (link c u v o p) = c

pub ui_in_order : {r q : Role} {s : Sapi} {x y : Side} {ls : List LogLine} → IsLink r q s x y ls → HasUnits x y
ui_in_order (link c u v o p) = u

IsLink-swapped : {r q : Role} {s : Sapi} {x y : Side} {ls : List LogLine} → IsLink r q s x y ls → IsLink q r s y x ls
IsLink-swapped h = grind arith

link-acts : {x y : Side} {a : Step} (ls : List LogLine) → IsStep x y a → x.endpoint.role ≡ a.role → x.endpoint.sapi ≡ a.sapi →
    IsLink a.role (other a.role) a.sapi x y ls →
    IsLink a.role (other a.role) a.sapi (after a x) (other_after a y) (ls ++ lines a) × AllOccur IsOpenedAfter ls (lines a)
link-acts ls i role same (link c u v o p) =
    let opens = openings-here ls i role same o p in
    (link (invariant-step i c) (ui_in_order-here i u) (ui_in_order-there i v) opens.0 (openings-there ls i p), opens.1)

more : {r q : Role} {s : Sapi} {x y : Side} {ls : List LogLine} (new : List LogLine) → IsLink r q s x y ls →
    IsLink r q s x y (ls ++ new)
more {r} {q} {s} {x} {y} {ls} new (link c u v o p) =
    link c u v (openings-more r s ls new x o) (openings-more q s ls new y p)

module _ {r q : Role} {s : Sapi} (x y : Side) {ls : List LogLine} where
  IsLink-first_gone : (o : Option Content) (cs : List Content) → IsLink r q s x (record y { outgoing = cons_option o cs }) ls →
      IsLink r q s x (record y { outgoing = cs }) ls
  IsLink-first_gone d cs (link c u v o p) =
      link (gone d c) (record { units_sent = u.units_sent }) (ui_in_order-lost y x d cs v) o (of-rest _ d cs p.0, p.1)

  IsLink-rest_gone : (fs : List Frame) → IsLink r q s x (record y { outgoing = contents_on s fs }) ls →
      IsLink r q s x (record y { outgoing = contents_on s (rest fs) }) ls
  IsLink-rest_gone [] h = h
  IsLink-rest_gone (f ∷ fs) h = IsLink-first_gone _ _ h

link-rr : {r q : Role} {s : Sapi} (x y : Side) {ls : List LogLine} (nr : ℕ) (pf : Bool) (cs : List Content) →
    IsLink r q s x (record y { outgoing = Rej nr pf ∷ cs }) ls → IsLink r q s x (record y { outgoing = Rr nr pf ∷ cs }) ls
link-rr x y nr pf cs (link c u v o p) =
    link (record { forward = number_as (λ k t. t) c.forward; backward = segment_as (λ k t. t) c.backward })
    (record { units_sent = u.units_sent }) (record { units_sent = v.units_sent }) o p

-- a DM with F = 1 says nothing of a number or a message, so it may arrive where nothing was sent
link-dm : {r q : Role} {s : Sapi} (x y : Side) {ls : List LogLine} (cs : List Content) →
    IsLink r q s x (record y { outgoing = cs }) ls → IsLink r q s x (record y { outgoing = Dm true ∷ cs }) ls
link-dm x y cs (link c u v o p) =
    link (record { forward = number_before tt c.forward; backward = segment_before tt c.backward })
    (record { units_sent = u.units_sent }) (record { units_sent = v.units_sent }) o ((tt, p.0), p.1)

first-rr : {r q : Role} {s : Sapi} (x y : Side) {ls : List LogLine} (c : Content) (cs : List Content) →
    IsLink r q s x (record y { outgoing = cons_option (content_of_body c) cs }) ls →
    IsLink r q s x (record y { outgoing = cons_option (content_of_body (rej_replaced_by_rr c)) cs }) ls
first-rr x y (Rej nr pf) cs h = link-rr x y nr pf cs h
first-rr x y c cs h = h

-- an N(R) that equals V(A) acknowledges nothing, so it may stand in place of any other
first-nr : {r q : Role} {s : Sapi} (x y : Side) {ls : List LogLine} (c : Content) (cs : List Content) →
    IsLink r q s x (record y { outgoing = cons_option (content_of_body c) cs }) ls →
    IsLink r q s x (record y { outgoing = cons_option (content_of_body (with_nr (va x.endpoint) c)) cs }) ls
first-nr x y (I ns nr p more info) cs (link c u v o h) =
    link (record { forward = number_before refl (number_gone c.forward); backward = segment_as (λ k t. t) c.backward })
    (record { units_sent = u.units_sent }) (record { units_sent = v.units_sent }) o h
first-nr x y (Rr nr pf) cs (link c u v o h) =
    link (record { forward = number_before refl (number_gone c.forward); backward = segment_as (λ k t. t) c.backward })
    (record { units_sent = u.units_sent }) (record { units_sent = v.units_sent }) o h
first-nr x y (Rej nr pf) cs (link c u v o h) =
    link (record { forward = number_before refl (number_gone c.forward); backward = segment_as (λ k t. t) c.backward })
    (record { units_sent = u.units_sent }) (record { units_sent = v.units_sent }) o h
first-nr x y c cs h = h

-- ---- the invariants of both links

abbrev pub Links : Role → Sapi → World → List LogLine → Type 0
Links r s w ls = IsLink r (other r) s (side r s w ls) (side (other r) s w ls) ls

abbrev pub AllLinks : World → List LogLine → Type 0
AllLinks w ls = (r : Role) (s : Sapi) → Links r s w ls

AllLinks-by_role : (r : Role) (w : World) (ls : List LogLine) → ((s : Sapi) → Links r s w ls) → AllLinks w ls
AllLinks-by_role Mobile w ls h Mobile s = h s
AllLinks-by_role Network w ls h Network s = h s
AllLinks-by_role Mobile w ls h r s = IsLink-swapped (h s)
AllLinks-by_role Network w ls h r s = IsLink-swapped (h s)

Links-first_lost : (r : Role) (s : Sapi) (w : World) (ls : List LogLine) → Links r s w ls →
    Links r s (without_oldest_item (other r) w) ls
Links-first_lost Mobile s w ls h = IsLink-rest_gone _ (side Network s w ls) _ h
Links-first_lost Network s w ls h = IsLink-rest_gone _ (side Mobile s w ls) _ h

Side-equal : {x y : Side} → x.endpoint ≡ y.endpoint → x.outgoing ≡ y.outgoing → x.calls ≡ y.calls →
    x.notified ≡ y.notified → x
    ≡ y
Side-equal h g k l = grind arith

-- a step of one endpoint changes the state of that endpoint only
module _ (v : World) (ls : List LogLine) (a : Step) (own : AllOf (IsForSapi a.sapi) a.endpoint_step.frames) where
  here : side a.role a.sapi (acted_by a v) (ls ++ lines a) ≡ after a (side a.role a.sapi v ls)
  here = Side-equal (end_of-acted _ _ a.endpoint_step v) (rw (way-acted _ _ _ v, filter_map-append, contents-of_sapi _ _ own) refl)
      (calls_in_log-own _ _ ls _ _ _) (notices_in_log-own _ _ ls _ _ _)

  out-else : (r' r : Role) (s : Sapi) → is_end r s r' a.sapi ≡ false →
      contents_on s (way r (acted r' a.sapi a.endpoint_step v)) ≡ contents_on s (way r v)
  out-else Mobile Mobile s n = rw (filter_map-append, contents-other s _ n _ own, append-nil) refl
  out-else Network Network s n = rw (filter_map-append, contents-other s _ n _ own, append-nil) refl
  out-else r' r s n = refl

  side-else : (r : Role) (s : Sapi) → is_end r s a.role a.sapi ≡ false → side r s (acted_by a v) (ls ++ lines a) ≡ side r s v ls
  side-else r s n = Side-equal (end_of-acted_else _ _ a.endpoint_step v r s n) (out-else _ r s n) (calls_in_log-else _ _ ls _ _ _ r s n)
      (notices_in_log-else _ _ ls _ _ _ r s n)

  links-act : {x y : Side} → side a.role a.sapi v ls ≡ x → side (other a.role) a.sapi v ls ≡ y →
      IsLink a.role (other a.role) a.sapi (after a x) y (ls ++ lines a) →
      ((s : Sapi) → is_same_sapi s a.sapi ≡ false → Links a.role s v ls) → AllLinks (acted_by a v) (ls ++ lines a)
  links-act e e' own others = AllLinks-by_role _ (acted_by a v) _ (by_link (λ s. Links a.role s (acted_by a v) (ls ++ lines a)) _
      (rw (here ∙ ap (after a) e, side-else _ a.sapi (other_is a.role a.sapi) ∙ e') own)
      (λ s n. rw (side-else _ s (link_else a.role a.role s a.sapi n), side-else (other a.role) s (link_else _ a.role s a.sapi n))
      (more (lines a) (others s n))))

-- ---- each message is delivered before it is reported as acknowledged

abbrev pub IsAfterDelivered : List LogLine → LogLine → Type 0
IsAfterDelivered before (Notified r s (N.Acked n)) = length (acked_message_numbers r s before) + 1 ≤ length
    (delivered_messages (other r) s before)
IsAfterDelivered before other = Unit {0}

notified-after : (r : Role) (s : Sapi) (is : List Message) (cs : List Call) (ns : List Notice) (ls : List LogLine) →
    (let zs = ls ++ lines_of_step r s is cs ns in length (acked_message_numbers r s zs) ≤ length (delivered_messages (other r) s zs)) →
    AllOccur IsAfterDelivered ls (lines_of_step r s is cs ns)
notified-after r s (i ∷ is) cs ns ls h = (tt, notified-after r s is cs ns _ (rw append_assoc h))
notified-after r s [] (c ∷ cs) ns ls h = (tt, notified-after r s [] cs ns (ls ++ Asked r s c ∷ []) (rw append_assoc h))
notified-after r s [] [] (N.Acked i ∷ ns) ls h =
    let g = rw (notices_in_log-own r s ls [] [] (N.Acked i ∷ ns), notices_in_log-else r s ls [] [] _ _ s (other_is r s)) at h in
    let later = notified-after r s [] [] ns (ls ++ Notified r s (N.Acked i) ∷ []) (rw append_assoc h) in
    (omega (arith, simp (filter_map-append, length-append) at g), later)
notified-after r s [] [] (n ∷ ns) ls h = (tt, notified-after r s [] [] ns (ls ++ Notified r s n ∷ []) (rw append_assoc h))
notified-after r s [] [] [] ls h = tt

-- ---- the invariant of a session

-- the invariant of a session: its log agrees with the endpoints, the invariant of each link holds, each acknowledgement follows the
-- delivery of its message, and each establishment follows its cause
pub record IsSession (w : World) (ls : List LogLine) : Type 0 where
  pub reported : AllReported w ls
  pub links : AllLinks w ls
  pub after_delivered : AllOccur IsAfterDelivered [] ls
  pub after_cause : AllOccur IsOpenedAfter [] ls

abbrev GoesInSession : List LogLine → World → List LogLine → Type 0
GoesInSession ls z new = AllReported z (ls ++ new) →
    AllLinks z (ls ++ new) × AllOccur IsAfterDelivered ls new × AllOccur IsOpenedAfter ls new

session-acts : (ls : List LogLine) (v : World) {x y : Side} {a : Step} → IsStep x y a → x.endpoint.role ≡ a.role → x.endpoint.sapi
    ≡ a.sapi →
    side a.role a.sapi v ls ≡ x → side (other a.role) a.sapi v ls ≡ other_after a y → IsLink a.role (other a.role) a.sapi x y ls →
    ((s : Sapi) → is_same_sapi s a.sapi ≡ false → Links a.role s v ls) → GoesInSession ls (acted_by a v) (lines a)
session-acts ls v {x} {y} {a} i role same e e' h others reported =
    let link = link-acts ls i role same h in
    let all = links-act v ls a (own_frames i same) e e' link.0 others in
    let most = acked_most (reported a.role a.sapi) (reported (other a.role) a.sapi) (carried_by_link (all _ _)) in
    (all, notified-after _ _ _ _ _ ls most, link.1)

comes-first : (s : Sapi) (f : Frame) (fs : List Frame) → is_on s f ≡ true → IsOldestSentOrNone (Some f) fs →
    contents_on s fs ≡ cons_option (content_of_body f.content) (contents_on s (rest fs))
comes-first s f fs on sent = grind arith

left-here : (r : Role) (s : Sapi) (w : World) (ls : List LogLine) → side r s (without_oldest_item (other r) w) ls ≡ side r s w ls
left-here r s w ls = grind arith

left-there : (r : Role) (s : Sapi) (w : World) (ls : List LogLine) → side (other r) s (without_oldest_item (other r) w) ls ≡
    record (side (other r) s w ls) { outgoing = contents_on s (rest (way (other r) w)) }
left-there r s w ls = grind arith

AllLinks-lost : (sender : Role) (w : World) (ls : List LogLine) → AllLinks w ls → AllLinks (without_oldest_item sender w) ls
AllLinks-lost Mobile w ls h = AllLinks-by_role Network (without_oldest_item Mobile w) ls (λ s. Links-first_lost _ s w ls (h _ s))
AllLinks-lost Network w ls h = AllLinks-by_role Mobile (without_oldest_item Network w) ls (λ s. Links-first_lost _ s w ls (h _ s))

one_sapi : (s t : Sapi) (f : Frame) → is_on s f ≡ true → f.sapi ≡ sapi_number t → t ≡ s
one_sapi s t f on h = grind (arith, nat_tests)

-- what is read for a frame that was sent keeps the invariant of its link
IsLink-read : (r : Role) (s : Sapi) (w : World) (ls : List LogLine) (f g : Frame) (gs : List Frame) → is_on s f ≡ true →
    MayBeReadFor r w.ends f g →
    (is_on s g ≡ true → IsLink r (other r) s (side r s w ls)
    (record (side (other r) s w ls) { outgoing = cons_option (content_of_body g.content) (contents_on s gs) }) ls) →
    IsLink r (other r) s (side r s w ls)
    (record (side (other r) s w ls) { outgoing = cons_option (content_of_body f.content) (contents_on s gs) }) ls
IsLink-read r s w ls f g gs on (as_sent same) h = rw same (h (rw same at on))
IsLink-read r s w ls f g gs on (rr_for_rej same) h =
    rw same (first-rr (side r s w ls) (side (other r) s w ls) g.content (contents_on s gs) (h (rw same at on)))
IsLink-read r s w ls f g gs on (dm_for_any sapi content) h =
    let lost = IsLink-first_gone _ (side (other r) s w ls) (content_of_body g.content) (contents_on s gs) (h (rw sapi at on)) in
    rw content (link-dm (side r s w ls) (side (other r) s w ls) (contents_on s gs) lost)
IsLink-read r s w ls f g gs on (without_ack t is same) h =
    let on_sent : is_on s g ≡ true = rw same at on in
    let rr = first-rr (side r s w ls) (side (other r) s w ls) g.content (contents_on s gs) (h on_sent) in
    rw (same, one_sapi s t g on_sent is)
    (first-nr (side r s w ls) (side (other r) s w ls) (rej_replaced_by_rr g.content) (contents_on s gs) rr)

IsLink-frame_arrived : (r : Role) (s : Sapi) (w : World) (ls : List LogLine) (f : Frame) (fs : List Frame) → way (other r) w ≡ fs →
    is_on s f ≡ true → IsOldestSentOrReplaced r w.ends (Some f) fs → Links r s w ls → IsLink r (other r) s (side r s w ls)
    (record (side (other r) s w ls) { outgoing = cons_option (content_of_body f.content) (contents_on s (rest fs)) }) ls
IsLink-frame_arrived r s w ls f (g ∷ gs) is on may h = IsLink-read r s w ls f g gs on may
    (λ on_sent. rw (ap (contents_on s) is ∙ comes-first s g (g ∷ gs) on_sent refl) at h)
IsLink-frame_arrived r s w ls f [] is on may h = absurd may

KnowsBy-oldest_sent_or_replaced : (o : Option EventRefusal) (event : Event) (w : World) → IsBenignEventExceptReplaced o event w →
    KnowsBy o (λ sender f. IsOldestSentOrReplaced (other sender) w.ends (Some f) (way sender w)) event
KnowsBy-oldest_sent_or_replaced o event w h = grind arith

twice : (r : Role) → other (other r) ≡ r
twice r = grind arith

GoesInSession-event : (w : World) (ls : List LogLine) (event : Event) → IsBenignEventExceptReplaced (refusal event w) event w →
    IsSession w ls →
    GoesInSession ls (world_after event w) (answer_log_lines event (answer event w))
GoesInSession-event w ls event benign h = by_kind w (GoesInSession ls)
    (λ sender f. IsOldestSentOrReplaced (other sender) w.ends (Some f) (way sender w))
    (λ g. (rw append-nil h.links, tt, tt)) (λ r s call placed ok. (let x = h.reported r s in
    session-acts ls w (called placed (is_called _ x.window_of_one _ ok)) x.role x.sapi refl refl (h.links r s) (λ t n. h.links r t)))
    (λ r s f on known. (let x = h.reported r s in
    session-acts ls (without_oldest_item (other r) w) (took refl (taken-frame _ x.window_of_one f)) x.role
    x.sapi (left-here r s w ls) (left-there r s w ls)
    (IsLink-frame_arrived r s w ls f (way (other r) w) refl on (rw (twice r) at known) (h.links r s))
    (λ t n. Links-first_lost r t w ls (h.links r t)))) (λ sender g. (rw append-nil (AllLinks-lost sender w ls h.links), tt, tt))
    (λ info ok. (let x = h.reported Mobile Zero in
    session-acts ls w rival x.role x.sapi refl refl (h.links _ _) (λ t n. h.links Mobile t)))
    _ (KnowsBy-oldest_sent_or_replaced _ _ w benign)

pub session-step : (w : World) (ls : List LogLine) (event : Event) → IsBenignEventExceptReplaced (refusal event w) event w →
    IsSession w ls →
    IsSession (world_after event w) (ls ++ answer_log_lines event (answer event w))
session-step w ls event benign h =
    let new : List LogLine = answer_log_lines event (answer event w) in
    let reported : AllReported (world_after event w) (ls ++ new) = in_order-step w ls event h.reported in
    let g = GoesInSession-event w ls event benign h reported in
    let after_delivered : AllOccur IsAfterDelivered [] (ls ++ new) = occur-append IsAfterDelivered [] ls new h.after_delivered g.1 in
    record { reported = reported; links = g.0; after_delivered = after_delivered; after_cause = occur-append _ [] ls new h.after_cause g.2 }

session-run : (events : List Event) (w : World) (ls : List LogLine) → IsBenignExceptReplaced events w → IsSession w ls →
    ((z : World) × IsSession z (ls ++ C.session_log events (answers events w)))
session-run [] w ls benign h = (w, rw append-nil h)
session-run (event ∷ events) w ls benign h =
    rw (← append_assoc) (session-run events (world_after event w) _ benign.1 (session-step w ls event benign.0 h))

pub benign_allows_replaced : (o : Option EventRefusal) (event : Event) (w : World) → IsBenignEvent o event w →
    IsBenignEventExceptReplaced o event w
benign_allows_replaced o event w h = grind arith

allows_replaced : (events : List Event) (w : World) → IsBenign events w → IsBenignExceptReplaced events w
allows_replaced [] w h = tt
allows_replaced (event ∷ events) w h = (benign_allows_replaced (refusal event w) event w h.0, allows_replaced events _ h.1)

-- ---- what the invariant of a session says of its log

module _ {w : World} {ls : List LogLine} (h : IsSession w ls) where
  pub counts_of : AckedAtMostDelivered ls
  counts_of r s = acked_most (h.reported r s) (h.reported (other r) s) (carried_by_link (h.links r s))

  pub claims_of : Claims ls
  claims_of =
      let in_order : HasNoticesInOrder ls = order_of w ls h.reported in
      record {
        in_order = λ r s. delivered_in_order (h.reported r s) (h.reported (other r) s) (carried_by_link (h.links r s));
        acked_in_order = λ r s n before place.
            ((in_order.acked_in_order r s n before place).0, stands IsAfterDelivered ls before _ h.after_delivered place);
        ui_in_order = λ r s. ui_in_order-claim (side r s w ls) (side (other r) s w ls) (ui_in_order (h.links r s));
        establishment_trigger = λ r s info before place. stands IsOpenedAfter ls before _ h.after_cause place;
        established_once = in_order.established_once;
        no_oversize = λ r s. none_oversize (h.reported (other r) s) (h.reported r s) (carried_by_link (IsLink-swapped (h.links r s)));
      }

module _ (capacity : QueueCapacity) (channel : Channel) where
  abbrev origin : World
  origin = initial_world capacity channel

  abbrev first_side : Role → Sapi → Side
  first_side r s = record { endpoint = initial_endpoint r s channel; outgoing = []; calls = []; notified = [] }

  initial-link : (r q : Role) (s : Sapi) → IsLink r q s (first_side r s) (first_side q s) []
  initial-link r q s =
      link (record { forward = initial-direction; backward = initial-direction }) (record { units_sent = empty })
      (record { units_sent = empty }) _ _

  initial-links : AllLinks origin []
  initial-links Mobile Zero = initial-link _ _ _
  initial-links Network Zero = initial-link _ _ _
  initial-links r s = initial-link _ _ _

  pub initial-session : IsSession origin []
  initial-session = record {
    reported = initial-reported capacity _;
    links = initial-links;
    after_delivered = tt;
    after_cause = tt;
  }

  module _ (events : List Event) where
    abbrev log : List LogLine
    log = C.session_log events (answers events origin)

    pub counts_with_replaced : IsBenignExceptReplaced events origin → AckedAtMostDelivered log
    counts_with_replaced benign = counts_of (session-run events origin [] benign initial-session).1

    pub claims_with_replaced : IsBenignExceptReplaced events origin → Claims log
    claims_with_replaced benign = claims_of (session-run events origin [] benign initial-session).1

    pub acked_at_most_delivered : IsBenign events origin → AckedAtMostDelivered log
    acked_at_most_delivered benign = counts_with_replaced (allows_replaced events origin benign)

    pub claims : IsBenign events origin → Claims log
    claims benign = claims_with_replaced (allows_replaced events origin benign)
