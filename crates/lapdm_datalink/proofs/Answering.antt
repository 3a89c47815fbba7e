-- What a link does in a slot: nothing is owed after it, and the slot after an I frame carries its answer.
use Rattle.std.proofs.lemmas.Bool.{cases_Bool}
use Rattle.std.specs.Prelude.{◌≡◌, ℕ, Bool, true, false, not, ◌&&◌, ◌||◌, ◌⊎◌, if◌then◌else◌, nat_eq}
use Rattle.std.specs.Prelude.{Option, Some, None}
use Rattle.std.proofs.Common.{inl, inr, arith, refl, sym}
use Rattle.lapdm_frame.specs.Content.{Frame}
use Rattle.lapdm_end.specs.lapdm_window.declared.State.TheVariants.{Open, Closed}
use Rattle.lapdm_end.specs.lapdm_window.segmenting.Segments.{Segment}
use Rattle.lapdm_end.specs.lapdm_window.Ends.{EndpointState, vr, awaits_answer}
use Rattle.lapdm_end.specs.lapdm_window.Calls.{t200_expiry}
use Rattle.lapdm_datalink.specs.Links.{LinkState, SlotOutcome, after_slot, slot_outcome, slot_outcome_owing, sabm_goes_first, is_due}
use Rattle.lapdm_datalink.specs.Links.{keeps_back, is_opening, sends_due_frame, sends_nothing, sends_answer, sends_awaited, expires}
use Rattle.lapdm_datalink.specs.Slots.{IsStepOfEndpoint, nr_in, nr_of, took, answer_goes, expires_in}

pub owes_nothing : (l : LinkState) → sabm_goes_first l ≡ false → (slot_outcome l).link.answer ≡ None
owes_nothing l h = by_answer l.answer refl
  where
    by_answer : (a : Option Frame) → l.answer ≡ a → (slot_outcome l).link.answer ≡ None
    by_answer None e = grind (arith, h, e)
    by_answer (Some f) e = grind (arith, h, e)

-- the link says N(R) = V(R): its answer has it, or its I frame is due for the first time
abbrev pub Says : LinkState → Type 0
Says m = ((f : Frame) × (m.answer ≡ Some f) × (nr_in f.content ≡ Some (vr m.endpoint)))
    ⊎ ((m.answer ≡ None) × (is_due m ≡ true) × (m.is_sent ≡ false))

-- the slot carries N(R) = V(R), or the link is given up in it
abbrev pub Carries : LinkState → Type 0
Carries m = (nr_of (slot_outcome m).frame ≡ Some (vr m.endpoint)) ⊎ ((slot_outcome m).link.endpoint.state ≡ Closed)

carries_answer : (m : LinkState) (f : Frame) → m.endpoint.state ≡ Open → m.answer ≡ Some f →
    nr_in f.content ≡ Some (vr m.endpoint) →
    Carries m
carries_answer m f h g k = grind arith

carries_first : (m : LinkState) → m.endpoint.state ≡ Open → m.answer ≡ None → is_due m ≡ true → m.is_sent ≡ false →
    Carries m
carries_first m h g k i = grind arith

pub carries : (m : LinkState) → m.endpoint.state ≡ Open → Says m → Carries m
carries m h (inl (f, a, b)) = carries_answer m f h a b
carries m h (inr (a, b, c)) = carries_first m h a b c

due_after_slot : (m : LinkState) → is_due m ≡ true → is_due (after_slot m) ≡ true
due_after_slot m h = grind arith

-- a slot that passes changes nothing of this
pub says_after_slot : (m : LinkState) → Says m → Says (after_slot m)
says_after_slot m (inl x) = inl x
says_after_slot m (inr (a, b, c)) = inr (a, due_after_slot m b, c)

module _ (l : LinkState) (h : l.endpoint.state ≡ Open) (g : l.answer ≡ None) where
  pub stays_open : (ns nr : ℕ) (p : Bool) (segment : Segment) → (took ns nr p segment l).endpoint.state ≡ Open
  stays_open ns nr p segment = grind arith

  says_accepted_poll : (ns nr : ℕ) (segment : Segment) → nat_eq ns (vr l.endpoint) ≡ true → Says (took ns nr true segment l)
  says_accepted_poll ns nr segment k = grind arith

  says_accepted : (ns nr : ℕ) (segment : Segment) → nat_eq ns (vr l.endpoint) ≡ true → Says (took ns nr false segment l)
  says_accepted ns nr segment k = grind arith

  says_rejected : (ns nr : ℕ) (segment : Segment) → nat_eq ns (vr l.endpoint) ≡ false → Says (took ns nr true segment l)
  says_rejected ns nr segment k = grind arith

  pub says_took : (ns nr : ℕ) (p : Bool) (segment : Segment) → (nat_eq ns (vr l.endpoint) || p) ≡ true →
      Says (took ns nr p segment l)
  says_took ns nr true segment k = elim (cases_Bool (nat_eq ns (vr l.endpoint))) [
    | inl e ↦ says_accepted_poll ns nr segment e
    | inr e ↦ says_rejected ns nr segment e
  ]
  says_took ns nr false segment k = says_accepted ns nr segment (grind (arith, k))

pub answers_i_frame : (l : LinkState) → l.endpoint.state ≡ Open → l.answer ≡ None →
    (ns nr : ℕ) (p : Bool) (segment : Segment) →
    (nat_eq ns (vr l.endpoint) || p) ≡ true →
    (nr_of (slot_outcome (after_slot (took ns nr p segment l))).frame ≡ Some (vr (took ns nr p segment l).endpoint))
    ⊎ ((slot_outcome (after_slot (took ns nr p segment l))).link.endpoint.state ≡ Closed)
answers_i_frame l h g ns nr p segment k =
    carries (after_slot (took ns nr p segment l)) (stays_open l h g ns nr p segment)
    (says_after_slot (took ns nr p segment l) (says_took l h g ns nr p segment k))

-- ---- the five things that a link may do in a slot

pub data IsSlot (l : LinkState) : SlotOutcome → Type 0 where
  sabm_first : is_opening l.endpoint.state ≡ true → sabm_goes_first l ≡ true → is_due l ≡ true → l.is_sent ≡ false →
      IsSlot l (sends_awaited l)
  idles : sabm_goes_first l ≡ false → l.answer ≡ None → is_due l ≡ false → IsSlot l (sends_nothing l)
  answering : (f : Frame) → sabm_goes_first l ≡ false → l.answer ≡ Some f → keeps_back f l ≡ false →
      IsSlot l (sends_answer f l)
  repeating : awaits_answer l.endpoint ≡ true → is_due l ≡ true → l.is_sent ≡ false →
      IsSlot l (sends_awaited (record l { answer = None }))
  expiring : awaits_answer l.endpoint ≡ true → l.is_sent ≡ true → is_due l ≡ true → expires_in l ≡ true →
      IsSlot l (expires (record l { answer = None }))

module _ (l : LinkState) where
  pub due-awaits : is_due l ≡ true → awaits_answer l.endpoint ≡ true
  due-awaits h = grind arith

  first-due : sabm_goes_first l ≡ true → is_due l ≡ true
  first-due h = grind arith

  first-unsent : sabm_goes_first l ≡ true → l.is_sent ≡ false
  first-unsent h = grind arith

  first-opening : sabm_goes_first l ≡ true → is_opening l.endpoint.state ≡ true
  first-opening h = grind arith

  kept-due : (f : Frame) → keeps_back f l ≡ true → is_due l ≡ true
  kept-due f h = grind arith

  first-keeps : (f : Frame) → sabm_goes_first l ≡ true → keeps_back f l ≡ true
  first-keeps f h = grind arith

  due_by : (due first sent : Bool) → is_due l ≡ due → sabm_goes_first l ≡ first → l.is_sent ≡ sent →
      answer_goes l.answer l ≡ false → (first ≡ false → due ≡ false → l.answer ≡ None) →
      IsSlot l (if due then (let m = if first then l else record l { answer = None } in if sent then expires m else sends_awaited m)
      else sends_nothing l)
  due_by true true true due first sent goes owes_none = let e = first-unsent first in absurd cc
  due_by true true false due first sent goes owes_none = sabm_first (first-opening first) first due sent
  due_by true false true due first sent goes owes_none = expiring (due-awaits due) sent due (λ i. due i && sent i && not (goes i))
  due_by true false false due first sent goes owes_none = repeating (due-awaits due) due sent
  due_by false true sent due first is goes owes_none = let e = first-due first in absurd cc
  due_by false false sent due first is goes owes_none = idles first (owes_none refl refl) due

  due_frame : answer_goes l.answer l ≡ false → (sabm_goes_first l ≡ false → is_due l ≡ false → l.answer ≡ None) →
      IsSlot l (sends_due_frame l)
  due_frame goes owes_none = due_by (is_due l) (sabm_goes_first l) l.is_sent refl refl refl goes owes_none

  slot_owing : (a : Option Frame) → l.answer ≡ a → IsSlot l (slot_outcome_owing a l)
  slot_owing None n = due_frame (rw n refl) (λ first due. n)
  slot_owing (Some f) n = by_kept (keeps_back f l) refl (sabm_goes_first l) refl
    where
      by_kept : (b : Bool) → keeps_back f l ≡ b → (first : Bool) → sabm_goes_first l ≡ first →
          IsSlot l (if b then sends_due_frame l else sends_answer f l)
      by_kept true back first e = due_frame (rw (n, back) refl) (λ none_first due. (let g = kept-due f back in absurd cc))
      by_kept false back true e = let g = first-keeps f e in absurd cc
      by_kept false back false e = answering f e n back

  pub is_slot : IsSlot l (slot_outcome l)
  is_slot = slot_owing l.answer refl

  -- the endpoint changes only if T200 expires
  pub slot_keeps : {A : Type 0} (f : EndpointState → A) → ((e : EndpointState) → f (t200_expiry e).new_state ≡ f e) →
      f (slot_outcome l).link.endpoint ≡ f l.endpoint
  slot_keeps f keeps = by (slot_outcome l) is_slot
    where
      by : (o : SlotOutcome) → IsSlot l o → f o.link.endpoint ≡ f l.endpoint
      by o (expiring awaits sent due over) = keeps l.endpoint
      by o other = refl

  step_by : (o : SlotOutcome) → IsSlot l o → IsStepOfEndpoint l o
  step_by o (sabm_first opening first due new) =
      inr (inl (record { awaits = due-awaits due; repeats = refl; frame = refl; notices = refl }))
  step_by o (idles first none due) = inl (record { endpoint = refl; frame = inl refl; notices = refl })
  step_by o (answering f first owes back) = inl (record { endpoint = refl; frame = inr (sym owes); notices = refl })
  step_by o (repeating awaits due new) = inr (inl (record { awaits = awaits; repeats = refl; frame = refl; notices = refl }))
  step_by o (expiring awaits sent due over) = inr (inr (record { awaits = awaits; expires = refl; frame = refl; notices = refl }))

  pub step_of_endpoint : IsStepOfEndpoint l (slot_outcome l)
  step_of_endpoint = step_by (slot_outcome l) is_slot
