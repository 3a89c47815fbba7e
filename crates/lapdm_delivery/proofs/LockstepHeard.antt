-- Two whole data links in lockstep: what each side has heard of the other, for one SAPI. No SABM opens an open link again.
use Rattle.std.specs.Prelude.{◌≡◌, ℕ, zero, suc, Bool, true, false, ◌||◌, if◌then◌else◌, List, [], ◌∷◌}
use Rattle.std.specs.Prelude.{◌++◌, All, get_or, Option, Some, None, IfSome}
use Rattle.std.specs.List.{cons_option}
use Rattle.std.proofs.Common.{arith, refl, ap, ◌∙◌, subst}
use Rattle.std.proofs.lemmas.List.Elements.{All-head, All-tail}
use Rattle.std.proofs.{Math.Bool.and-false, lemmas.Bool.Decides.nat_tests}
use Rattle.lapdm_frame.specs.Content.{Content, Ui, Frame}
use Rattle.lapdm_end.specs.lapdm_window.declared.Sapi.{Sapi}
use Rattle.lapdm_end.specs.lapdm_window.declared.Sapi.TheVariants.{Zero, Three}
use Rattle.lapdm_end.specs.lapdm_window.segmenting.Segments.{Message}
use Rattle.lapdm_end.specs.lapdm_window.Ends.{Role, Mobile, Network, initial_endpoint}
use Rattle.lapdm_end.specs.lapdm_window.Rules.{is_open}
use Rattle.lapdm_end.specs.lapdm_window.Calls.{Call, OpensWithoutInfo, IsCallAllowedFor, refusal_of}
use Rattle.lapdm_link.specs.Events.{other}
use Rattle.lapdm_link.specs.Claims.{is_same_sapi}
use Rattle.lapdm_link.proofs.Lemmas.{is_on}
use Rattle.lapdm_datalink.specs.declared.data_links.Establishment.{Establishment}
use Rattle.lapdm_datalink.specs.Links.{LinkState, link_with, after_received, after_slot, slot_outcome, renewed_for, is_reopened_by_frame}
use Rattle.lapdm_datalink.specs.Links.{is_reopened_by_call, for_call, is_closed, is_opening_content, is_numbered}
use Rattle.lapdm_datalink.specs.DataLinks.{DataLinkState, link_with_sapi, taken_by, sapi_for_frame, having_main, with_clocks_moved}
use Rattle.lapdm_datalink.specs.DataLinks.{with_sapi3, on_sapi0, unit_frame, data_link_outcome}
use Rattle.lapdm_delivery.specs.Runs.{after_arrival_if_any, sapi_of_endpoint}
use Rattle.lapdm_delivery.specs.Lockstep.{CallsOpenOnce}
use Rattle.lapdm_delivery.specs.Lockstep.{after_call_unless, carried, Run, after_call_of, after_calls, frame_or_unit, side_at, arriving_at}
use Rattle.lapdm_delivery.specs.Lockstep.{ready_at, before_at, IsCallOf, taken_at, outcome_at}
use Rattle.lapdm_delivery.proofs.Heard.{IsHeard, Ages, ages-same, ages-then, ages-call, ages-received, shows-slot, heard_call, heard_slot}
use Rattle.lapdm_delivery.proofs.Heard.{IsElse, Silent, Settled, sender_ages, receiver_ages, sender_sends, rest_heard, not_again}
use Rattle.lapdm_delivery.proofs.Heard.{taken_heard, slot_is_silent, slot_is_settled, is_past, slot_is_full, else_is_silent}
use Rattle.lapdm_delivery.proofs.Heard.{else_is_settled, else_is_full, IsFine, Full, is_informed, is_sabm}
use Rattle.lapdm_delivery.proofs.RunsHeard.{ages-slot, unit_is_else}
use Rattle.lapdm_delivery.proofs.Runs.{sent_on_zero, taker-on}

pub main_same : (s : Sapi) (b : Bool) (d : DataLinkState) → link_with_sapi s (having_main b d) ≡ link_with_sapi s d
main_same s b d = grind arith

pub unit-content : (t : Sapi) (m : Message) (d : DataLinkState) → (unit_frame t m d).content ≡ Ui false m
unit-content Zero m d = by d.link0.endpoint.sapi _
  where
    by : (x : Sapi) (f : Frame) → (on_sapi0 x f).content ≡ f.content
    by x f = grind arith
unit-content Three m d = refl

-- ---- the frames in transit

-- the frames of the last slots, oldest first, given those of all slots, newest first
abbrev pub transit : (aired : List (Option Frame)) (slots : ℕ) → List Frame
transit [] k = []
transit (a ∷ aired) zero = []
transit (a ∷ aired) (suc k) = transit aired k ++ cons_option a []

transit-none : (aired : List (Option Frame)) → transit aired 0 ≡ []
transit-none [] = refl
transit-none (a ∷ aired) = refl

pub cons-append : (a : Option Frame) (fs gs : List Frame) → cons_option a fs ++ gs ≡ cons_option a (fs ++ gs)
cons-append x fs gs = grind arith

pub transit-front : (aired : List (Option Frame)) (k : ℕ) →
    transit aired (suc k) ≡ cons_option (get_or aired k None) (transit aired k)
transit-front [] k = refl
transit-front (a ∷ aired) zero = rw (transit-none aired) refl
transit-front (a ∷ aired) (suc k) =
    ap (λ fs. fs ++ cons_option a []) (transit-front aired k)
    ∙ cons-append (get_or aired k None) (transit aired k) (cons_option a [])

-- the frames that the two links of a data link would send in its slot have the SAPI of their endpoints
pub record SendOwn (d : DataLinkState) : Type 0 where
  pub sapi0 : IfSome (slot_outcome (after_slot d.link0)).frame (λ f. is_on d.link0.endpoint.sapi f ≡ true)
  pub sapi3 : IfSome (slot_outcome (with_clocks_moved d).link3).frame (λ f. is_on Three f ≡ true)

other_on : (s t : Sapi) (f : Frame) → is_same_sapi s t ≡ false → is_on t f ≡ true → is_on s f ≡ false
other_on s t f e h = grind (arith, nat_tests)

frame_is_else : (s : Sapi) (f : Frame) → is_on s f ≡ false → IsElse s (Some f)
frame_is_else s f e = (rw e refl, rw e refl)

else_of : (s t : Sapi) (a : Option Frame) → is_same_sapi s t ≡ false → IfSome a (λ f. is_on t f ≡ true) → IsElse s a
else_of s t None e h = tt
else_of s t (Some f) e h = frame_is_else s f (other_on s t f e h)

-- The endpoints of the link of the SAPI `s` have the SAPI `k`; the link `l` becomes `m` in its slot, and the block brings `a`.
module _ (s k : Sapi) where
  record Sent (l m : LinkState) (a : Option Frame) : Type 0 where
    ages : Ages k l m
    heard : m.heard ≡ l.heard
    silent : is_past l.endpoint.state ≡ true → Silent s (cons_option a [])
    settled : Settled s m.endpoint.state (cons_option a [])
    full : Full k s (cons_option a [])

  sends_else : (l m : LinkState) (a : Option Frame) → Ages k l m → m.heard ≡ l.heard → IsElse s a → Sent l m a
  sends_else l m a g e h = record {
    ages = g;
    heard = e;
    silent = λ p. else_is_silent s a h;
    settled = else_is_settled s m.endpoint.state a h;
    full = else_is_full s k a h;
  }

  -- the link sends the frame `a`, which goes out as `b`, with the same content
  sends_slot : (l m : LinkState) → Ages k l m → m.heard ≡ l.heard → IsFine k l → (b : Option Frame) →
      ((P : Content → Type 0) → IfSome (slot_outcome m).frame (λ f. P f.content) → IfSome b (λ f. P f.content)) →
      Sent l (slot_outcome m).link b
  sends_slot l m g e fine b same =
      let o = slot_outcome m in
      let h = shows-slot k m (g.fine fine) in
      record {
        ages = ages-then g h.ages;
        heard = heard_slot m ∙ e;
        silent = λ p. slot_is_silent s b (same (λ c. is_sabm c ≡ false) (h.quiet (g.past p)));
        settled = slot_is_settled s o.link.endpoint.state b
            (same (λ c. is_numbered true c ≡ true → is_past o.link.endpoint.state ≡ true) h.past_if_shown);
        full = slot_is_full s k b (λ z. same (λ c. is_opening_content c ≡ false) (h.full z));
      }

  -- a block that is lost brings nothing
  carries : (l m : LinkState) (a : Option Frame) (lost : Bool) → Sent l m a → Sent l m (carried lost a)
  carries l m a false h = h
  carries l m a true h = sends_else l m None h.ages h.heard tt

  -- a UI frame goes out if the link sends none
  with_unit : (l m : LinkState) (a : Option Frame) (unit : Option (Sapi × Message)) (d : DataLinkState) → Sent l m a →
      Sent l m (frame_or_unit a unit d)
  with_unit l m (Some f) unit d h = h
  with_unit l m None None d h = h
  with_unit l m None (Some (t, i)) d h = sends_else l m _ h.ages h.heard (unit_is_else s (unit_frame t i d) i (unit-content t i d))

content_sent : (P : Content → Type 0) (x : Sapi) (f : Frame) → P f.content → P (on_sapi0 x f).content
content_sent P Zero f h = h
content_sent P Three f h = h

slot_sends : (s k : Sapi) (d : DataLinkState) → SendOwn d → IsFine k (link_with_sapi s d) →
    Sent s k (link_with_sapi s d) (link_with_sapi s (data_link_outcome d).new_state) (data_link_outcome d).frame
slot_sends s k d own fine = by s (slot_outcome (after_slot d.link0)).frame refl fine
  where
    moves : (b : Bool) → Ages k d.link3 (if b then d.link3 else after_slot d.link3)
        × ((if b then d.link3 else after_slot d.link3).heard ≡ d.link3.heard)
    moves true = (ages-same k d.link3, refl)
    moves false = (ages-slot k d.link3, refl)

    by : (s : Sapi) (a : Option Frame) → (slot_outcome (after_slot d.link0)).frame ≡ a → IsFine k (link_with_sapi s d) →
        (let o = with_sapi3 (slot_outcome (after_slot d.link0)) a (with_clocks_moved d) in
        Sent s k (link_with_sapi s d) (link_with_sapi s o.new_state) o.frame)
    by Zero (Some f) e fine =
        let x = d.link0.endpoint.sapi in
        sends_slot Zero k d.link0 (after_slot d.link0) (ages-slot k d.link0) refl fine (Some (on_sapi0 x f))
        (λ P h. content_sent P x f (rw e at h))
    by Zero None e fine =
        let h = sends_slot Zero k d.link0 (after_slot d.link0) (ages-slot k d.link0) refl fine _ (λ P h. h) in
        sends_else Zero k d.link0 _ _ h.ages h.heard (else_of Zero Three _ refl own.sapi3)
    by Three (Some f) e fine =
        let g = moves d.heard_sapi0 in
        let x = d.link0.endpoint.sapi in
        let on : is_on x f ≡ true = rw e at own.sapi0 in
        sends_else Three k d.link3 _ (Some (on_sapi0 x f)) g.0 g.1 (frame_is_else Three (on_sapi0 x f) (rw (sent_on_zero x f on) refl))
    by Three None e fine =
        let g = moves d.heard_sapi0 in
        sends_slot Three k d.link3 _ g.0 g.1 fine _ (λ P h. h)

-- ---- what arrives

-- the link takes the frame, or stays as it is
data Takes (s : Sapi) (a : Option Frame) (l m : LinkState) : Type 0 where
  stays : m ≡ l → Takes s a l m
  takes : (f : Frame) → a ≡ Some f → is_on s f ≡ true → m ≡ after_received f l → Takes s a l m

takes_of : (s : Sapi) (a : Option Frame) (d : DataLinkState) →
    Takes s a (link_with_sapi s d) (link_with_sapi s (after_arrival_if_any a d))
takes_of s None d = stays refl
takes_of s (Some f) d = by s (sapi_for_frame f d) refl
  where
    by : (s : Sapi) (t : Option Sapi) → sapi_for_frame f d ≡ t →
        Takes s (Some f) (link_with_sapi s d) (link_with_sapi s (taken_by t f d))
    by Zero None e = stays refl
    by Zero (Some Zero) e = takes f refl (taker-on f d Zero e) refl
    by Zero (Some Three) e = stays refl
    by Three None e = stays refl
    by Three (Some Zero) e = stays refl
    by Three (Some Three) e = takes f refl (taker-on f d Three e) refl

module _ {s k : Sapi} (a : Option Frame) (q : List Frame) {l m : LinkState} (h : IsHeard s k (cons_option a q) l m)
    (same : m.endpoint.sapi ≡ k)
  where
    passes_by : IsHeard s k q l m
    passes_by = by a h
      where
        by : (a : Option Frame) → IsHeard s k (cons_option a q) l m → IsHeard s k q l m
        by None h = h
        by (Some f) h = rest_heard h

    -- what arrives opens no link again
    pub arrives_once : (f : Frame) → a ≡ Some f → is_on s f ≡ true → renewed_for f m ≡ m
    arrives_once f e on = not_again (rw e at h) same on

    receives : {m' : LinkState} → Takes s a m m' → IsHeard s k q l m'
    receives (stays e) = rw e passes_by
    receives (takes f e on is) = rw is (taken_heard (rw e at h) same on)

    grows : {m' : LinkState} → IfSome a (λ f. is_reopened_by_frame f m ≡ false) → Takes s a m m' → Ages k m m'
    grows once (stays e) = rw e (ages-same k m)
    grows once (takes f e on is) =
        let no : is_reopened_by_frame f m ≡ false = rw e at once in
        rw is (ages-received k f m no (arrives_once f e on))

-- ---- calls

-- no call that exists with contention resolution does
pub zero-regular : (role : Role) (c : Call) (l : LinkState) → IsCallAllowedFor role Zero c → is_reopened_by_call c l ≡ false
zero-regular role OpensWithoutInfo l h = absurd cc
zero-regular role c l h = and-false (is_closed l.endpoint.state || is_open l.endpoint.state)

record Called (k : Sapi) (l m : LinkState) : Type 0 where
  ages : IsFine k l → Ages k l m
  heard : m.heard ≡ l.heard

called : (e : Establishment) (s : Sapi) (role : Role) (cs : List (Sapi × Call)) (d : DataLinkState) → All (IsCallOf e role) cs →
    CallsOpenOnce s cs d → Called (sapi_of_endpoint e s) (link_with_sapi s d) (link_with_sapi s (after_calls cs d))
called e s role [] d h once = record { ages = λ f. ages-same _ _; heard = refl }
called e s role ((t, call) ∷ cs) d h once =
    let first = by s t (All-head (IsCallOf e role) (t, call) cs h) once.0 in
    let rest = called e s role cs (after_call_of (t, call) d) (All-tail (IsCallOf e role) (t, call) cs h) once.1 in
    record { ages = λ f. (let g = first.ages f in ages-then g (rest.ages (g.fine f))); heard = rest.heard ∙ first.heard }
  where
    own : (t : Sapi) (l : LinkState) → IsCallOf e role (t, call) → is_reopened_by_call call l ≡ false →
        Called (sapi_of_endpoint e t) l (after_call_unless (refusal_of call (for_call call l).endpoint) call l)
    own t l is same = record {
      ages = λ f. ages-call (sapi_of_endpoint e t) role call l is.1 is.0 same _ refl f;
      heard = heard_call call l same _;
    }

    by : (s t : Sapi) → IsCallOf e role (t, call) →
        (is_same_sapi s t ≡ true → is_reopened_by_call call (link_with_sapi t d) ≡ false) →
        Called (sapi_of_endpoint e s) (link_with_sapi s d) (link_with_sapi s (after_call_of (t, call) d))
    by Zero Zero is once = own Zero d.link0 is (once refl)
    by Three Three is once = own Three d.link3 is (once refl)
    by s t is once = record { ages = λ f. ages-same _ _; heard = refl }

-- ---- a slot of both sides

module _ (r : Run) (s : Sapi) where
  -- the SAPI of its endpoints
  abbrev k : Sapi
  k = sapi_of_endpoint r.establishment s

  abbrev pub link_of : ℕ → Role → LinkState
  link_of n role = link_with_sapi s (side_at r n role).data_link

  -- what the other side has heard of this one before the slot
  abbrev pub HeardAt : ℕ → Role → Type 0
  HeardAt n role = IsHeard s k (transit (side_at r n role).sent (suc r.delay)) (link_of n role) (link_of n (other role))

  new_heard : (role : Role) (t : ℕ) (m : LinkState) → m.heard ≡ false →
      IsHeard s k [] (link_with (initial_endpoint role k r.channel) t) m
  new_heard role t m h = record {
    fine = record { sapi = refl; informed = by k; answer = tt };
    settled = tt;
    heard = λ e. absurd cc;
    full = λ z. tt;
  }
    where
      by : (k : Sapi) → is_informed (initial_endpoint role k r.channel) ≡ true
      by k = grind arith

  pub first_of : (role : Role) →
      link_of 0 role ≡ link_with (initial_endpoint role k r.channel) (link_of 0 role).t200
  first_of role = by s
    where
      by : (s : Sapi) → (let l = link_with_sapi s (side_at r 0 role).data_link in
          l ≡ link_with (initial_endpoint role (sapi_of_endpoint r.establishment s) r.channel) l.t200)
      by Zero = refl
      by Three = refl

  pub heard_start : (role : Role) → HeardAt 0 role
  heard_start role =
      rw (first_of role, first_of (other role)) (new_heard role (link_of 0 role).t200 _ refl)

  -- what is asked of a slot of this side: it opens no closed link again, and sends its own
  pub record IsOnce (n : ℕ) (role : Role) : Type 0 where
    pub arrival : IfSome (arriving_at r n role) (λ f. is_reopened_by_frame f (link_of n role) ≡ false)
    pub calls : CallsOpenOnce s (r.part n role).calls (taken_at r n role)
    pub own : SendOwn (ready_at r n role)

  module _ (n : ℕ) (h : (role : Role) → HeardAt n role) where
    -- what arrives at this side
    coming : (role : Role) → IsHeard s k (cons_option (arriving_at r n role) (transit (side_at r n (other role)).sent r.delay))
        (link_of n (other role)) (link_of n role)
    coming role = rw (transit-front (side_at r n (other role)).sent r.delay) at (back role h)
      where
        back : (role : Role) → ((q : Role) → HeardAt n q) →
            IsHeard s k (transit (side_at r n (other role)).sent (suc r.delay)) (link_of n (other role)) (link_of n role)
        back Mobile h = h Network
        back Network h = h Mobile

    pub once_again : (role : Role) (f : Frame) → arriving_at r n role ≡ Some f → is_on s f ≡ true →
        renewed_for f (link_of n role) ≡ link_of n role
    once_again role = arrives_once _ _ (coming role) (h role).fine.sapi

    module _ (role : Role) (calls : All (IsCallOf r.establishment role) (r.part n role).calls) (once : IsOnce n role) where
      taken : Takes s (arriving_at r n role) (link_of n role) (link_with_sapi s (taken_at r n role))
      taken =
          let d = (side_at r n role).data_link in
          subst (λ l. Takes s (arriving_at r n role) l (link_with_sapi s (taken_at r n role)))
          (main_same s (r.part n role).is_main_established d) (takes_of s (arriving_at r n role) (before_at r n role))

      made : Called k (link_with_sapi s (taken_at r n role)) (link_with_sapi s (ready_at r n role))
      made = called r.establishment s role (r.part n role).calls (taken_at r n role) calls once.calls

      -- the sender up to its slot
      grown : Ages k (link_of n role) (link_with_sapi s (ready_at r n role))
      grown =
          let g = grows _ _ (coming role) (h role).fine.sapi once.arrival taken in
          ages-then g (made.ages (g.fine (h role).fine))

      -- its endpoint has its SAPI still
      pub ready_sapi : (link_with_sapi s (ready_at r n role)).endpoint.sapi ≡ k
      ready_sapi = (grown.fine (h role).fine).sapi

      sent : Sent s k (link_with_sapi s (ready_at r n role)) (link_of (suc n) role)
          (let o = outcome_at r n role in carried (r.part n role).is_lost (frame_or_unit o.frame (r.part n role).unit o.new_state))
      sent =
          carries s k _ _ _ (r.part n role).is_lost (with_unit s k _ _ (outcome_at r n role).frame (r.part n role).unit _
          (slot_sends s k (ready_at r n role) once.own (grown.fine (h role).fine)))

    module _ (calls : (role : Role) → All (IsCallOf r.establishment role) (r.part n role).calls)
        (once : (role : Role) → IsOnce n role)
      where
        -- what the other side has heard of this one when both have sent
        pub heard_step : (role : Role) → HeardAt (suc n) role
        heard_step role =
            let peer = other role in
            let x = sent role (calls role) (once role) in
            let taken_here : IsHeard s k (transit (side_at r n role).sent r.delay) (link_of n role)
            (link_with_sapi s (taken_at r n peer)) = front role in
            let grown_here = sender_ages taken_here (grown role (calls role) (once role)) in
            let ready_there = receiver_ages grown_here {m' = link_with_sapi s (ready_at r n peer)}
            (made peer (calls peer) (once peer)).heard in
            let sent_there = receiver_ages ready_there {m' = link_of (suc n) peer} (sent peer (calls peer) (once peer)).heard in
            sender_sends sent_there {l' = link_of (suc n) role} _ x.ages x.silent x.settled x.full
          where
            front : (role : Role) → IsHeard s k (transit (side_at r n role).sent r.delay) (link_of n role)
                (link_with_sapi s (taken_at r n (other role)))
            front Mobile = receives _ _ (coming Network) (h Network).fine.sapi (taken Network (calls Network) (once Network))
            front Network = receives _ _ (coming Mobile) (h Mobile).fine.sapi (taken Mobile (calls Mobile) (once Mobile))
