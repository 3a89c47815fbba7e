-- The two links of one SAPI of two whole data links are two links alone, while nothing opens them again and SAPI 0 does not hold SAPI 3 up.
use Rattle.lapdm_delivery.specs.Lockstep.{after_calls, Run, side_at, arriving_at, ready_at, outcome_at, before_at, taken_at, HasCalls}
use Rattle.lapdm_delivery.specs.Lockstep.{IsCallOf, after_call_unless, after_call_of, carried, frame_or_unit, CallsOpenOnce}
use Rattle.lapdm_datalink.specs.Links.{after_slot, LinkState, link_with, with_outcome, afresh, for_call, is_reopened_by_frame, ignores}
use Rattle.lapdm_datalink.specs.Links.{received_outcome, after_frame, is_closed, slot_outcome, SlotOutcome, sends_nothing}
use Rattle.lapdm_datalink.specs.Links.{unheard, renewed_for, after_received, is_reopened_by_call, is_awaiting_kind, with_frame, with_frames}
use Rattle.lapdm_datalink.specs.Links.{content_as_taken, refuses, is_due, sabm_goes_first, keeps_back, slot_outcome_owing}
use Rattle.lapdm_datalink.specs.Links.{sends_due_frame, sends_answer}
use Rattle.lapdm_datalink.specs.Links.{sends_awaited, expires as slot_expires}
use Rattle.lapdm_datalink.specs.Slots.{expires_in, answer_goes}
use Rattle.lapdm_link.proofs.Lemmas.{is_on}
use Rattle.lapdm_delivery.proofs.Heard.{received-is}
use Rattle.lapdm_delivery.proofs.LockstepHeard.{HeardAt, IsOnce, SendOwn, heard_start, heard_step, once_again, ready_sapi, zero-regular}
use Rattle.lapdm_delivery.proofs.{Lockstep.not_afresh, LockstepHeard.{main_same, unit-content}}
use Rattle.lapdm_delivery.proofs.Runs.{addressed}
use Rattle.std.specs.Prelude.{◌≡◌, ◌≤◌, ℕ, zero, suc, Bool, true, false, not, ◌&&◌, if◌then◌else◌, nat_eq, List, []}
use Rattle.std.specs.Prelude.{◌∷◌, map, All, get_or, Option, Some, None, IfSome}
use Rattle.std.proofs.Common.{arith, refl, sym, ap, ◌∙◌, subst}
use Rattle.std.proofs.lemmas.List.Elements.{All-head, All-tail}
use Rattle.lapdm_frame.specs.Content.{Content, Frame}
use Rattle.lapdm_end.specs.lapdm_window.declared.Sapi.{Sapi}
use Rattle.lapdm_end.specs.lapdm_window.declared.Sapi.TheVariants.{Zero, Three}
use Rattle.lapdm_end.specs.lapdm_window.declared.Refused.{Refused}
use Rattle.lapdm_end.specs.lapdm_window.segmenting.Segments.{Message}
use Rattle.lapdm_end.specs.lapdm_window.Ends.{Role, Mobile, Network, Outcome, initial_endpoint, awaits_answer, sapi_number}
use Rattle.lapdm_end.specs.lapdm_window.Calls.{Call, refusal_of, call_outcome}
use Rattle.lapdm_end.specs.lapdm_window.Tables.{SendsDm, outcome_of_reply, reply_to_frame}
use Rattle.lapdm_link.specs.Events.{other}
use Rattle.lapdm_datalink.specs.DataLinks.{DataLinkState, link_with_sapi, is_ui, takes_sapi3, after_arrival, taken_by, with_clocks_moved}
use Rattle.lapdm_datalink.specs.DataLinks.{with_sapi3, data_link_outcome, on_sapi0, unit_frame}
use Rattle.lapdm_datalink.specs.declared.data_links.Establishment.TheVariants.{Contention}
use Rattle.lapdm_delivery.specs.Runs.{sapi_of_endpoint, after_arrival_if_any}
use Rattle.std.specs.Option.{option_map}
use Rattle.lapdm_datalink.proofs.Kept.{ui-same}
use Rattle.lapdm_datalink.proofs.First.{sapi_0_goes_first}
use Rattle.lapdm_progress.specs.Channels.{Pair, place}
use Rattle.lapdm_progress.specs.Whole.{link_at, ready_link_at, frame_of, frame_at, t200_of, calls_to, has_to_send, is_held, alone, sapi_0}
use Rattle.lapdm_progress.specs.Whole.{OpensOnce}
use Rattle.lapdm_progress.proofs.Owning.{IsOf, Owns, owned_ready, own_moved, own_slot_of}
use Rattle.lapdm_progress.specs.Channels as C
use Rattle.lapdm_progress.specs.Progress as P

-- ---- what is needed of a link whose endpoints have SAPI 3, or of SAPI 3, alone

-- nothing opens the link again
abbrev pub Lives : (endpoint_sapi : Sapi) → LinkState → Type 0
Lives Zero l = Unit {0}
Lives Three l = is_closed l.endpoint.state ≡ false

-- what arrives is taken
abbrev pub Takes : (sapi : Sapi) (arrived : Option Frame) (data_link : DataLinkState) → Type 0
Takes Zero a d = Unit {0}
Takes Three a d = IfSome (frame_of Three a) (λ f. takes_sapi3 d ≡ true)

-- the clock counts while an answer is awaited
abbrev pub Counts : Sapi → DataLinkState → Type 0
Counts Zero d = Unit {0}
Counts Three d = awaits_answer (with_clocks_moved d).link3.endpoint ≡ true → d.heard_sapi0 ≡ false

-- the slot is the link's if it has something to send
abbrev pub HasSlot : Sapi → DataLinkState → Type 0
HasSlot Zero d = Unit {0}
HasSlot Three d = has_to_send (with_clocks_moved d).link3 ≡ true → (slot_outcome (after_slot d.link0)).frame ≡ None

pub record IsAlone (s : Sapi) (r : Run) (n : ℕ) (role : Role) : Type 0 where
  pub before : Lives (sapi_of_endpoint r.establishment s) (link_with_sapi s (before_at r n role))
  pub once : OpensOnce r s n role
  pub arrival : Takes s (arriving_at r n role) (before_at r n role)
  pub clock : Counts s (ready_at r n role)
  pub slot : HasSlot s (ready_at r n role)

-- ---- what a link has heard plays no part

un-if : (b : Bool) (l m : LinkState) → (if b then unheard l else unheard m) ≡ unheard (if b then l else m)
un-if true l m = refl
un-if false l m = refl

un-frames : (fs : List Frame) (l : LinkState) → with_frames fs (unheard l) ≡ unheard (with_frames fs l)
un-frames [] l = refl
un-frames (f ∷ fs) l =
    ap (with_frames fs) (un-if (is_awaiting_kind f.content) (record l { is_sent = false; clock = 0 }) (record l { answer = Some f }))
    ∙ un-frames fs (with_frame f l)

un-outcome : (o : Outcome) (l : LinkState) → with_outcome o (unheard l) ≡ unheard (with_outcome o l)
un-outcome o l = un-frames o.frames (record l { endpoint = o.new_state })

un-taken : (c : Content) (l : LinkState) → content_as_taken c (unheard l) ≡ content_as_taken c l
un-taken c l = grind arith

un-received : (f : Frame) (l : LinkState) → received_outcome f (unheard l) ≡ received_outcome f l
un-received f l = λ i. let taken : Frame = record f { sapi = sapi_number l.endpoint.sapi; content = un-taken f.content l i } in
    outcome_of_reply (if refuses f l.endpoint then SendsDm else reply_to_frame taken l.endpoint) l.endpoint

un-arriving : (a : Option Frame) (l : LinkState) → C.after_arriving a (unheard l) ≡ unheard (C.after_arriving a l)
un-arriving None l = refl
un-arriving (Some f) l = by (ignores f l)
  where
    by : (b : Bool) → (if b then unheard l else with_outcome (received_outcome f (unheard l)) (unheard l))
        ≡ unheard (if b then l else with_outcome (received_outcome f l) l)
    by true = refl
    by false = ap (λ o. with_outcome o (unheard l)) (un-received f l) ∙ un-outcome (received_outcome f l) l

un-call : (r : Option Refused) (call : Call) (l : LinkState) → C.after_call r call (unheard l) ≡ unheard (C.after_call r call l)
un-call (Some why) call l = refl
un-call None call l = un-outcome (call_outcome call l.endpoint) l

un-calls : (cs : List Call) (l : LinkState) → C.after_calls cs (unheard l) ≡ unheard (C.after_calls cs l)
un-calls [] l = refl
un-calls (c ∷ cs) l = ap (C.after_calls cs) (un-call (refusal_of c l.endpoint) c l)
    ∙ un-calls cs (C.after_call (refusal_of c l.endpoint) c l)

abbrev unheard_slot : SlotOutcome → SlotOutcome
unheard_slot o = record o { link = unheard o.link }

un-slot_if : (b : Bool) (o p : SlotOutcome) → (if b then unheard_slot o else unheard_slot p) ≡ unheard_slot (if b then o else p)
un-slot_if true o p = refl
un-slot_if false o p = refl

un-due : (l : LinkState) → sends_due_frame (unheard l) ≡ unheard_slot (sends_due_frame l)
un-due l = by (is_due l) (sabm_goes_first l) l.is_sent
  where
    by : (d g b : Bool) → (if d
        then (let m = if g then unheard l else record (unheard l) { answer = None } in if b then slot_expires m else sends_awaited m)
        else sends_nothing (unheard l))
        ≡ unheard_slot (if d then (let m = if g then l else record l { answer = None } in if b then slot_expires m else sends_awaited m)
        else sends_nothing l)
    by false g b = refl
    by true true true = refl
    by true true false = refl
    by true false true = refl
    by true false false = refl

pub un-slot : (l : LinkState) → slot_outcome (unheard l) ≡ unheard_slot (slot_outcome l)
un-slot l = by l.answer
  where
    by : (a : Option Frame) → slot_outcome_owing a (unheard l) ≡ unheard_slot (slot_outcome_owing a l)
    by None = un-due l
    by (Some f) = ap (λ o. if keeps_back f l then o else sends_answer f (unheard l)) (un-due l)
        ∙ un-slot_if (keeps_back f l) (sends_due_frame l) (sends_answer f l)

pub un-expires : (l : LinkState) → expires_in (unheard l) ≡ expires_in l
un-expires l = by l.answer
  where
    by : (a : Option Frame) →
        (is_due l && l.is_sent && not (answer_goes a (unheard l))) ≡ (is_due l && l.is_sent && not (answer_goes a l))
    by None = refl
    by (Some f) = refl

pub un-frames_of : (p : Role) (l : LinkState) → P.frames_of p l ≡ P.frames_of p (unheard l)
un-frames_of Mobile l = refl
un-frames_of Network l = refl

-- ---- what arrives

reopens_not : (k : Sapi) (f : Frame) (l : LinkState) → l.endpoint.sapi ≡ k → Lives k l → is_reopened_by_frame f l ≡ false
reopens_not Zero f l o h = rw o refl
reopens_not Three f l o h = rw (o, h) refl

once : (k : Sapi) (f : Frame) (l : LinkState) → l.endpoint.sapi ≡ k → Lives k l → after_frame f l ≡ C.after_arriving (Some f) l
once k f l o h = ap (λ b. if ignores f l then l else (let m = if b then afresh l else l in with_outcome (received_outcome f m) m))
    (reopens_not k f l o h)

zero-sapi : (n : ℕ) → nat_eq n 0 ≡ true → n ≡ 0
zero-sapi n h = grind (arith, h)

not-zero : (n : ℕ) → nat_eq n 0 ≡ false → n ≡ 0 → ⊥
not-zero n h e = grind (arith, h, e)

zero-not_three : (n : ℕ) → nat_eq n 0 ≡ true → nat_eq n 3 ≡ false
zero-not_three n h = grind (arith, h)

-- what arrives opens the open link not again
abbrev pub IsNoOpening : (sapi : Sapi) (arrived : Option Frame) (data_link : DataLinkState) → Type 0
IsNoOpening s a d = (f : Frame) → a ≡ Some f → is_on s f ≡ true → renewed_for f (link_with_sapi s d) ≡ link_with_sapi s d

-- the frame of the link of the SAPI `s`, whose endpoints have the SAPI `k`, as these send and take it
abbrev pub end_frame : (s k : Sapi) → Option Frame → Option Frame
end_frame s k a = option_map (addressed k) (frame_of s a)

-- the link takes a frame that is not UI
taken_is : (k : Sapi) (f : Frame) (l : LinkState) → l.endpoint.sapi ≡ k → Lives k l → renewed_for f l ≡ l →
    unheard (after_received f l) ≡ unheard (C.after_arriving (Some f) l)
taken_is k f l o h no_sabm = ap unheard (received-is f l no_sabm) ∙ ap unheard (once k f l o h)

pub arrives : (s k : Sapi) (a : Option Frame) (d : DataLinkState) → (link_with_sapi s d).endpoint.sapi ≡ k →
    Lives k (link_with_sapi s d) → Takes s a d → IsNoOpening s a d →
    unheard (link_with_sapi s (after_arrival_if_any a d)) ≡ unheard (C.after_arriving (end_frame s k a) (link_with_sapi s d))
arrives Zero k None d o l h no_sabm = refl
arrives Three k None d o l h no_sabm = refl
arrives Zero k (Some f) d o l h no_sabm = by (nat_eq f.sapi 0) (is_ui f.content) refl refl
  where
    by : (b u : Bool) → nat_eq f.sapi 0 ≡ b → is_ui f.content ≡ u → unheard (after_arrival f d).link0
        ≡ unheard (C.after_arriving (option_map (addressed k) (if b && not u then Some f else None)) d.link0)
    by true true e ui =
        ap unheard ((sapi_0_goes_first d).arrival f (zero-sapi f.sapi e) ∙ ui-same f.sapi f.cr f.content d.link0 ui)
    by true false e ui =
        ap unheard ((sapi_0_goes_first d).arrival f (zero-sapi f.sapi e)) ∙ taken_is k f d.link0 o l (no_sabm f refl e)
    by false u e ui = ap unheard ((sapi_0_goes_first d).other_arrival f (not-zero f.sapi e))
arrives Three k (Some f) d o l h no_sabm = by (nat_eq f.sapi 0) (nat_eq f.sapi 3) (is_ui f.content) (takes_sapi3 d) refl refl refl h
  where
    by : (z b u t : Bool) → nat_eq f.sapi 0 ≡ z → nat_eq f.sapi 3 ≡ b → is_ui f.content ≡ u →
        IfSome (if b && not u then Some f else None) (λ f. t ≡ true) →
        unheard (taken_by (if z then Some Zero else (if b && t then Some Three else None)) f d).link3
        ≡ unheard (C.after_arriving (option_map (addressed k) (if b && not u then Some f else None)) d.link3)
    by true true u t e k i h = absurd (grind (arith, sym e ∙ e, k, zero-not_three f.sapi e))
    by true false u t e k i h = refl
    by false true true true e k i h = ap unheard (ui-same f.sapi f.cr f.content d.link3 i)
    by false true true false e k i h = refl
    by false true false true e b i h = taken_is k f d.link3 o l (no_sabm f refl b)
    by false true false false e k i h = absurd cc
    by false false u t e k i h = refl

-- ---- calls

one_call : (call : Call) (l : LinkState) → for_call call l ≡ l →
    after_call_unless (refusal_of call (for_call call l).endpoint) call l ≡ C.after_call (refusal_of call l.endpoint) call l
one_call call l e = ap (λ m. after_call_unless (refusal_of call m.endpoint) call l) e ∙ by (refusal_of call l.endpoint)
  where
    by : (r : Option Refused) → after_call_unless r call l ≡ C.after_call r call l
    by None = ap (λ m. with_outcome (call_outcome call m.endpoint) m) e
    by (Some why) = refl

pub called_alone : (call : Call) (l : LinkState) → is_reopened_by_call call l ≡ false →
    after_call_unless (refusal_of call (for_call call l).endpoint) call l ≡ C.after_call (refusal_of call l.endpoint) call l
called_alone call l h = one_call call l (not_afresh call l h)

calls_alone : (s : Sapi) (cs : List (Sapi × Call)) (d : DataLinkState) → CallsOpenOnce s cs d →
    link_with_sapi s (after_calls cs d) ≡ C.after_calls (calls_to s cs) (link_with_sapi s d)
calls_alone s [] d h = refl
calls_alone Zero ((Three, call) ∷ cs) d h = calls_alone Zero cs (after_call_of (Three, call) d) h.1
calls_alone Three ((Zero, call) ∷ cs) d h = calls_alone Three cs (after_call_of (Zero, call) d) h.1
calls_alone Zero ((Zero, call) ∷ cs) d h =
    calls_alone Zero cs (after_call_of (Zero, call) d) h.1
    ∙ ap (C.after_calls (calls_to Zero cs)) (called_alone call d.link0 (h.0 refl))
calls_alone Three ((Three, call) ∷ cs) d h =
    calls_alone Three cs (after_call_of (Three, call) d) h.1
    ∙ ap (C.after_calls (calls_to Three cs)) (called_alone call d.link3 (h.0 refl))

-- with contention resolution no call opens the link again
pub opens_once : (role : Role) (cs : List (Sapi × Call)) (d : DataLinkState) → All (IsCallOf Contention role) cs →
    CallsOpenOnce Zero cs d
opens_once role [] d h = tt
opens_once role ((Zero, call) ∷ cs) d h = (
  λ e. zero-regular role call d.link0 (All-head (IsCallOf Contention role) (Zero, call) cs h).0,
  opens_once role cs (after_call_of (Zero, call) d) (All-tail (IsCallOf Contention role) (Zero, call) cs h),
)
opens_once role ((Three, call) ∷ cs) d h =
    (λ e. absurd cc, opens_once role cs (after_call_of (Three, call) d) (All-tail (IsCallOf Contention role) (Three, call) cs h))

-- ---- the slot

passes : (s : Sapi) (d : DataLinkState) → Counts s d →
    link_with_sapi s (with_clocks_moved d) ≡ C.after_slot (is_held s d) (link_with_sapi s d)
passes Zero d h = refl
passes Three d h = by d.heard_sapi0 (awaits_answer d.link3.endpoint) refl h
  where
    by : (b a : Bool) → awaits_answer d.link3.endpoint ≡ a →
        (awaits_answer (if b then d.link3 else after_slot d.link3).endpoint ≡ true → b ≡ false) →
        (if b then d.link3 else after_slot d.link3) ≡ C.after_slot b d.link3
    by false a e h = refl
    by true true e h = absurd (cc (h e))
    by true false e h = rw e refl

-- a frame of an endpoint, as it goes out, is that of its endpoint
addressed_is : (k : Sapi) (f : Frame) → f.sapi ≡ sapi_number k → addressed k f ≡ f
addressed_is k f e = λ i. record f { sapi = sym e i }

zero_holds : (k : Sapi) (f : Frame) → IsOf k f → end_frame Zero k (Some (on_sapi0 k f)) ≡ Some f
zero_holds Zero f h = rw (h.0, h.1) refl
zero_holds Three f h = rw h.1 (ap Some (addressed_is Three f h.0))

three_holds : (a : Option Frame) → IfSome a (IsOf Three) → end_frame Three Three a ≡ a
three_holds None h = refl
three_holds (Some f) h = rw (h.0, h.1) refl

lets_three : (k : Sapi) (a : Option Frame) → IfSome a (IsOf Three) → end_frame Zero k a ≡ None
lets_three k None h = refl
lets_three k (Some f) h = rw h.0 refl

lets_zero : (k : Sapi) (f : Frame) → IsOf k f → end_frame Three Three (Some (on_sapi0 k f)) ≡ None
lets_zero Zero f h = rw h.0 refl
lets_zero Three f h = refl

unit_lets : (s : Sapi) (a : Option Frame) (unit : Option (Sapi × Message)) (d : DataLinkState) →
    frame_of s (frame_or_unit a unit d) ≡ frame_of s a
unit_lets s (Some f) unit d = refl
unit_lets s None None d = refl
unit_lets s None (Some (t, m)) d = rw (unit-content t m d) (by (nat_eq (unit_frame t m d).sapi (sapi_number s)))
  where
    by : (b : Bool) → (if b && false then Some (unit_frame t m d) else None) ≡ None
    by b = grind arith

carries : (s k : Sapi) (lost : Bool) (a : Option Frame) → end_frame s k (carried lost a) ≡ carried lost (end_frame s k a)
carries s k true a = refl
carries s k false a = refl

rests : (l : LinkState) → has_to_send l ≡ false → slot_outcome l ≡ sends_nothing l
rests l h = by l.answer refl
  where
    by : (a : Option Frame) → l.answer ≡ a → slot_outcome l ≡ sends_nothing l
    by None e = grind (arith, h, e)
    by (Some f) e = grind (arith, h, e)

idle_if : (b : Bool) (a : Option Frame) (f : Frame) → a ≡ Some f → (b ≡ true → a ≡ None) → b ≡ false
idle_if false a f e h = refl
idle_if true a f e h = absurd (cc (h refl))

pub record IsSlotOf (s k : Sapi) (d : DataLinkState) : Type 0 where
  pub link : link_with_sapi s (data_link_outcome d).new_state ≡ (slot_outcome (link_with_sapi s (with_clocks_moved d))).link
  pub frame : end_frame s k (data_link_outcome d).frame ≡ (slot_outcome (link_with_sapi s (with_clocks_moved d))).frame

-- the same of SAPI 3, if SAPI 0 sends this
record IsSlotBeside (d : DataLinkState) (a : Option Frame) : Type 0 where
  link : (with_sapi3 (slot_outcome (after_slot d.link0)) a (with_clocks_moved d)).new_state.link3
      ≡ (slot_outcome (with_clocks_moved d).link3).link
  frame : end_frame Three Three (with_sapi3 (slot_outcome (after_slot d.link0)) a (with_clocks_moved d)).frame
      ≡ (slot_outcome (with_clocks_moved d).link3).frame

three_own : (d : DataLinkState) → ((s : Sapi) → Owns s (link_with_sapi s d)) →
    IfSome (slot_outcome (with_clocks_moved d).link3).frame (IsOf Three)
three_own d own = rw ((own_moved Three d own).sapi refl) at (own_slot_of Three d own).frame

slot_of : (s k : Sapi) (d : DataLinkState) → (link_with_sapi s d).endpoint.sapi ≡ k →
    ((s : Sapi) → Owns s (link_with_sapi s d)) → HasSlot s d → IsSlotOf s k d
slot_of Zero k d same own h = record { link = (sapi_0_goes_first d).slot; frame = by (slot_outcome (after_slot d.link0)).frame refl }
  where
    by : (a : Option Frame) → (slot_outcome (after_slot d.link0)).frame ≡ a →
        end_frame Zero k (with_sapi3 (slot_outcome (after_slot d.link0)) a (with_clocks_moved d)).frame ≡ a
    by (Some f) e =
        let x : IsOf d.link0.endpoint.sapi f = rw e at (own_slot_of Zero d own).frame in
        ap (λ y. end_frame Zero k (Some (on_sapi0 y f))) same ∙ zero_holds k f (subst (λ y. IsOf y f) same x)
    by None e = lets_three k (slot_outcome (with_clocks_moved d).link3).frame (three_own d own)
slot_of Three Zero d same own h = absurd (grind (arith, sym same ∙ (own Three).sapi refl))
slot_of Three Three d same own h =
    let x = it (slot_outcome (after_slot d.link0)).frame refl in record { link = x.link; frame = x.frame }
  where
    m : LinkState
    m = (with_clocks_moved d).link3

    it : (a : Option Frame) → (slot_outcome (after_slot d.link0)).frame ≡ a → IsSlotBeside d a
    it None e = record { link = refl; frame = three_holds (slot_outcome m).frame (three_own d own) }
    it (Some f) e =
        let x : IsOf d.link0.endpoint.sapi f = rw e at (own_slot_of Zero d own).frame in
        let n = rests m (idle_if (has_to_send m) (slot_outcome (after_slot d.link0)).frame f e h) in
        record {
          link = sym (ap (λ (o : SlotOutcome). o.link) n);
          frame = lets_zero d.link0.endpoint.sapi f x ∙ sym (ap (λ (o : SlotOutcome). o.frame) n);
        }

-- ---- a run

pub back : (o p : Role) → place o (place o p) ≡ p
back o p = grind arith

other_side : (o p : Role) → other (place o p) ≡ place o (other p)
other_side o p = grind arith

get_or_of : (s k : Sapi) (fs : List (Option Frame)) (n : ℕ) →
    end_frame s k (get_or fs n None) ≡ get_or (map (end_frame s k) fs) n None
get_or_of s k [] n = refl
get_or_of s k (a ∷ fs) zero = refl
get_or_of s k (a ∷ fs) (suc n) = get_or_of s k fs n

-- what the links of a data link would send has the SAPI of their endpoints
sends_on : (d : DataLinkState) → ((s : Sapi) → Owns s (link_with_sapi s d)) → SendOwn d
sends_on d own = record { sapi0 = by d.link0.endpoint.sapi _ (own_slot_of Zero d own).frame; sapi3 = by Three _ (three_own d own) }
  where
    by : (s : Sapi) (a : Option Frame) → IfSome a (IsOf s) → IfSome a (λ f. is_on s f ≡ true)
    by s None k = tt
    by s (Some f) k = (let own : f.sapi ≡ sapi_number s = k.0 in grind arith)

first_link : (s : Sapi) (r : Run) (role : Role) → link_at r s 0 role
    ≡ link_with (initial_endpoint role (sapi_of_endpoint r.establishment s) r.channel) (t200_of s r role)
first_link Zero r role = refl
first_link Three r role = refl

module _ (w : Pair) (r : Run) where
  abbrev pub side : Role → Role
  side p = place w.opener p

  -- the SAPI of the endpoints
  abbrev k : Sapi
  k = sapi_of_endpoint r.establishment w.sapi

  -- before the slot, the link of the side in this place is the one alone but for what it has heard, and what its blocks brought is the same
  pub record IsJoined (n : ℕ) (p : Role) : Type 0 where
    pub link : unheard (link_at r w.sapi n (side p)) ≡ P.link_at (alone w r) n p
    pub sent : map (end_frame w.sapi k) (side_at r n (side p)).sent ≡ (C.side_at (alone w r) n p).sent
    pub heard : HeardAt r w.sapi n (side p)

  module _ (calls : HasCalls r) (n : ℕ) (h : (p : Role) → IsJoined n p) (p : Role) where
    pub arriving_same : end_frame w.sapi k (arriving_at r n (side p)) ≡ P.arriving_at (alone w r) n p
    arriving_same = get_or_of w.sapi k (side_at r n (other (side p))).sent r.delay
        ∙ ap (λ q. get_or (map (end_frame w.sapi k) (side_at r n q).sent) r.delay None) (other_side w.opener p)
        ∙ ap (λ fs. get_or fs r.delay None) (h (other p)).sent

    -- what each side has heard of the other
    all_heard : (role : Role) → HeardAt r w.sapi n role
    all_heard role = subst (HeardAt r w.sapi n) (back w.opener role) (h (place w.opener role)).heard

    same_main : link_with_sapi w.sapi (before_at r n (side p)) ≡ link_at r w.sapi n (side p)
    same_main = main_same w.sapi (r.part n (side p)).is_main_established (side_at r n (side p)).data_link

    own_sapi : (link_with_sapi w.sapi (before_at r n (side p))).endpoint.sapi ≡ k
    own_sapi = ap (λ (l : LinkState). l.endpoint.sapi) same_main ∙ (h p).heard.fine.sapi

    no_opening : IsNoOpening w.sapi (arriving_at r n (side p)) (before_at r n (side p))
    no_opening f e on = subst (λ l. renewed_for f l ≡ l) (sym same_main) (once_again r w.sapi n all_heard (side p) f e on)

    pub taken_same : Lives k (link_with_sapi w.sapi (before_at r n (side p))) →
        Takes w.sapi (arriving_at r n (side p)) (before_at r n (side p)) →
        unheard (link_with_sapi w.sapi (taken_at r n (side p)))
        ≡ C.after_arriving (P.arriving_at (alone w r) n p) (P.link_at (alone w r) n p)
    taken_same l t =
        arrives w.sapi k (arriving_at r n (side p)) (before_at r n (side p)) own_sapi l t no_opening
        ∙ sym (un-arriving (end_frame w.sapi k (arriving_at r n (side p))) (link_with_sapi w.sapi (before_at r n (side p))))
        ∙ (λ i. C.after_arriving (arriving_same i) ((ap unheard same_main ∙ (h p).link) i))

    module _ (a : IsAlone w.sapi r n (side p)) where
      pub ready_same : unheard (ready_link_at r w.sapi n (side p)) ≡ P.ready_at (alone w r) n p
      ready_same = ap unheard (passes w.sapi (ready_at r n (side p)) a.clock)
          ∙ ap (C.after_slot (is_held w.sapi (ready_at r n (side p))))
          (ap unheard (calls_alone w.sapi (r.part n (side p)).calls (taken_at r n (side p)) a.once)
          ∙ sym (un-calls (calls_to w.sapi (r.part n (side p)).calls) (link_with_sapi w.sapi (taken_at r n (side p))))
          ∙ ap (C.after_calls (calls_to w.sapi (r.part n (side p)).calls)) (taken_same a.before a.arrival))

      -- nothing opens the link again in the slot
      once_only : IsOnce r w.sapi n (side p)
      once_only = record {
        arrival = by (arriving_at r n (side p));
        calls = a.once;
        own = sends_on (ready_at r n (side p)) (owned_ready r calls n (side p));
      }
        where
          lives : Lives k (link_at r w.sapi n (side p))
          lives = subst (Lives k) same_main a.before

          by : (x : Option Frame) → IfSome x (λ f. is_reopened_by_frame f (link_at r w.sapi n (side p)) ≡ false)
          by None = tt
          by (Some f) = reopens_not k f (link_at r w.sapi n (side p)) (h p).heard.fine.sapi lives

      slot_is : IsSlotOf w.sapi k (ready_at r n (side p))
      slot_is = slot_of w.sapi k (ready_at r n (side p)) (ready_sapi r w.sapi n all_heard (side p) (calls n (side p)) once_only)
          (owned_ready r calls n (side p)) a.slot

      pub frame_same : option_map (addressed k) (frame_at r w.sapi n (side p)) ≡ P.frame_at (alone w r) n p
      frame_same = slot_is.frame ∙ ap (λ (o : SlotOutcome). o.frame) (sym (un-slot (ready_link_at r w.sapi n (side p))))
          ∙ ap (λ l. (slot_outcome l).frame) ready_same

      joined_next : HeardAt r w.sapi (suc n) (side p) → IsJoined (suc n) p
      joined_next heard_after = let o = outcome_at r n (side p) in record {
        link = ap unheard slot_is.link ∙ ap (λ (o : SlotOutcome). o.link) (sym (un-slot (ready_link_at r w.sapi n (side p))))
            ∙ ap (λ l. (slot_outcome l).link) ready_same;
        heard = heard_after;
        sent = λ i. (carries w.sapi k (r.part n (side p)).is_lost (frame_or_unit o.frame (r.part n (side p)).unit o.new_state)
            ∙ ap (carried (r.part n (side p)).is_lost)
            (ap (option_map (addressed k)) (unit_lets w.sapi o.frame (r.part n (side p)).unit o.new_state) ∙ frame_same)) i
            ∷ (h p).sent i;
      }

  module _ (calls : HasCalls r) (t : (role : Role) → t200_of w.sapi r role ≡ t200_of w.sapi r Mobile) where
    joined_start : (p : Role) → IsJoined 0 p
    joined_start p = record {
      heard = heard_start r w.sapi (side p);
      link = ap unheard (first_link w.sapi r (side p)) ∙ ap (link_with (initial_endpoint (side p) k r.channel)) (t (side p));
      sent = refl;
    }

    pub joined : (n : ℕ) → ((j : ℕ) → suc j ≤ n → (role : Role) → IsAlone w.sapi r j role) → (p : Role) → IsJoined n p
    joined zero a p = joined_start p
    joined (suc n) a p =
        let before : (q : Role) → IsJoined n q = joined n (λ j h. a j (omega (arith, h))) in
        let heard_all : (role : Role) → HeardAt r w.sapi n role = all_heard calls n before p in
        let each_once : (role : Role) → IsOnce r w.sapi n role = λ role. subst (IsOnce r w.sapi n) (back w.opener role)
        (once_only calls n before (place w.opener role) (a n (omega arith) (side (place w.opener role)))) in
        joined_next calls n before p (a n (omega arith) (side p)) (heard_step r w.sapi n heard_all (calls n) each_once (side p))

-- ---- SAPI 0 with contention resolution

pub zero_alone : (r : Run) → r.establishment ≡ Contention → HasCalls r → (n : ℕ) (role : Role) → IsAlone Zero r n role
zero_alone r kind calls n role = record {
  before = by (link_with_sapi Zero (before_at r n role));
  once = opens_once role (r.part n role).calls (taken_at r n role)
      (subst (λ e. All (IsCallOf e role) (r.part n role).calls) kind (calls n role));
  arrival = tt;
  clock = tt;
  slot = tt;
}
  where
    by : (l : LinkState) → Lives (sapi_of_endpoint r.establishment Zero) l
    by l = subst (λ e. Lives (sapi_of_endpoint e Zero) l) (sym kind) tt

-- what arrives changes a link of SAPI 0 as it does alone
pub zero_taken : (r : Run) → r.establishment ≡ Contention → HasCalls r → (n : ℕ) (role : Role) →
    unheard (taken_at r n role).link0 ≡ unheard (C.after_arriving (frame_of Zero (arriving_at r n role)) (link_at r Zero n role))
zero_taken r kind calls n role =
    let k = sapi_of_endpoint r.establishment Zero in
    let h : (q : Role) → IsJoined sapi_0 r n q = joined sapi_0 r calls (λ q. refl) n (λ j b q. zero_alone r kind calls j q) in
    arrives Zero k (arriving_at r n role) (before_at r n role) (h role).heard.fine.sapi (zero_alone r kind calls n role).before tt
    (once_again r Zero n (λ q. (h q).heard) role)
    ∙ ap unheard (takes_same (frame_of Zero (arriving_at r n role)) (link_at r Zero n role))
  where
    takes_same : (a : Option Frame) (l : LinkState) →
        C.after_arriving (option_map (addressed (sapi_of_endpoint r.establishment Zero)) a) l ≡ C.after_arriving a l
    takes_same None l = refl
    takes_same (Some f) l = refl
