-- A link of SAPI 0 whose I frame was sent and is not acknowledged: what of that stays from one slot to the next.
use Rattle.{
  lapdm_end.specs.lapdm_window.{
    Ends.{awaits_answer, Role, vr, vs, awaits_ack},
    declared.State.TheVariants.Open,
    segmenting.Segments.Segment,
    Tables.{Reply, TakesIFrame, TakesRr, TakesRej},
    Calls.{Call, awaited_frame, t200_expiry},
  },
  std.{
    proofs.{Common.{ap, inl, inr, arith, refl, sym, ◌∙◌}, lemmas.Bool.cases_Bool},
    specs.Prelude.{◌≡◌, ℕ, ◌-◌, ◌≤◌, Bool, true, false, ◌⊎◌, nat_eq, List, Option, Some, None, All},
  },
  lapdm_progress.{
    specs.{Channels.{Pair, Turn, after_slot, before_sending, after_calls, after_arriving, IsUse}, Progress.is_i_frame},
    proofs.{Steps.{acked, issued, Good, taken, is_rej, GoesOn, goes_on_i, goes_on_rr}, Link.{reply_with, over_arrival, over_calls}},
    proofs.Link.{not_rej, arrives},
  },
  lapdm_frame.specs.Content.Frame,
  lapdm_datalink.{
    specs.Links.{LinkState, SlotOutcome, slot_outcome, is_due, keeps_back, is_opening, first_frame},
    proofs.Answering.{IsSlot, sabm_first, idles, answering, repeating, expiring, is_slot},
  },
}

-- a link that waits after a step waited before it, for the same frame and with the same clock
abbrev pub WaitsFrom : (before after : LinkState) → Type 0
WaitsFrom l m = awaits_ack m.endpoint ≡ true → m.is_sent ≡ true →
    (awaits_ack l.endpoint ≡ true) × (l.is_sent ≡ true) × (acked m ≡ acked l) × (m.clock ≡ l.clock)

-- so before it sends, when its clock has counted the slot if it awaits an answer
abbrev pub WaitsReady : (before ready : LinkState) → Type 0
WaitsReady l m = awaits_ack m.endpoint ≡ true → m.is_sent ≡ true →
    (awaits_ack l.endpoint ≡ true) × (l.is_sent ≡ true) × (acked m ≡ acked l) × (awaits_answer m.endpoint ≡ true →
    m.clock ≡ l.clock - 1)

waits_same : (l : LinkState) → WaitsFrom l l
waits_same l a s = (a, s, refl, refl)

module _ (l : LinkState) (g : Good l) (none : l.answer ≡ None) where
  fresh_i : (ns nr : ℕ) (p : Bool) (s : Segment) → awaits_ack l.endpoint ≡ false →
      awaits_ack (taken (TakesIFrame ns nr p s) l).endpoint ≡ true → (taken (TakesIFrame ns nr p s) l).is_sent ≡ true → ⊥
  fresh_i ns nr p s w a b = grind (arith, w, a, b)

  next_i : (ns nr : ℕ) (p : Bool) (s : Segment) → awaits_ack l.endpoint ≡ true → nat_eq nr (vs l.endpoint) ≡ true →
      awaits_ack (taken (TakesIFrame ns nr p s) l).endpoint ≡ true → (taken (TakesIFrame ns nr p s) l).is_sent ≡ true → ⊥
  next_i ns nr p s w h a b = elim (cases_Bool (nat_eq ns (vr l.endpoint))) [
    | inl e ↦ grind (arith, w, h, a, b, e)
    | inr e ↦ grind (arith, w, h, a, b, e)
  ]

  fresh_rr : (nr : ℕ) (p : Bool) → awaits_ack l.endpoint ≡ false →
      awaits_ack (taken (TakesRr nr p) l).endpoint ≡ true → (taken (TakesRr nr p) l).is_sent ≡ true → ⊥
  fresh_rr nr p w a b = grind (arith, w, a, b)

  next_rr : (nr : ℕ) (p : Bool) → awaits_ack l.endpoint ≡ true → nat_eq nr (vs l.endpoint) ≡ true →
      awaits_ack (taken (TakesRr nr p) l).endpoint ≡ true → (taken (TakesRr nr p) l).is_sent ≡ true → ⊥
  next_rr nr p w h a b = grind (arith, w, h, a, b)

  on : (m : LinkState) → GoesOn l m → awaits_ack l.endpoint ≡ true → m.is_sent ≡ true →
      (awaits_ack l.endpoint ≡ true) × (l.is_sent ≡ true) × (acked m ≡ acked l) × (m.clock ≡ l.clock)
  on m x w b = (w, sym x.sent ∙ b, x.acked, x.clock)

  waits_for_i : (ns nr : ℕ) (p : Bool) (s : Segment) (w : Bool) → awaits_ack l.endpoint ≡ w → (k : Bool) →
      nat_eq nr (vs l.endpoint) ≡ k → WaitsFrom l (taken (TakesIFrame ns nr p s) l)
  waits_for_i ns nr p s false w k h a b = absurd (fresh_i ns nr p s w a b)
  waits_for_i ns nr p s true w true h a b = absurd (next_i ns nr p s w h a b)
  waits_for_i ns nr p s true w false h a b = on (taken (TakesIFrame ns nr p s) l) (goes_on_i l g none ns nr p s w h) w b

  waits_for_rr : (nr : ℕ) (p : Bool) (w : Bool) → awaits_ack l.endpoint ≡ w → (k : Bool) →
      nat_eq nr (vs l.endpoint) ≡ k → WaitsFrom l (taken (TakesRr nr p) l)
  waits_for_rr nr p false w k h a b = absurd (fresh_rr nr p w a b)
  waits_for_rr nr p true w true h a b = absurd (next_rr nr p w h a b)
  waits_for_rr nr p true w false h a b = on (taken (TakesRr nr p) l) (goes_on_rr l g none nr p w h) w b

  waits_reply : (r : Reply) → is_rej r ≡ false → WaitsFrom l (taken r l)
  waits_reply (TakesIFrame ns nr p s) h = waits_for_i ns nr p s _ refl _ refl
  waits_reply (TakesRr nr p) h = waits_for_rr nr p _ refl _ refl
  waits_reply (TakesRej nr p) h = absurd cc
  waits_reply other h = λ a b. (a, b, refl, refl)

  pub waits_arriving : (o : Option Frame) → WaitsFrom l (after_arriving o l)
  waits_arriving o = over_arrival o l (WaitsFrom l) (waits_same l)
      (λ f e. waits_reply (reply_with f.cr l f.content) (not_rej f.cr l f.content))

waits_then : (l m n : LinkState) → WaitsFrom l m → WaitsFrom m n → WaitsFrom l n
waits_then l m n f h a s =
    let x = h a s in
    let y = f x.0 x.1 in
    (y.0, y.1, x.2 ∙ y.2, x.3 ∙ y.3)

waits_calls : (w : Pair) (role : Role) (cs : List Call) (l : LinkState) → All (IsUse w role) cs → acked l ≤ issued l →
    WaitsFrom l (after_calls cs l) × (acked (after_calls cs l) ≤ issued (after_calls cs l))
waits_calls w role = over_calls w role (λ l m. acked l ≤ issued l → WaitsFrom l m × (acked m ≤ issued m))
    (λ l low. (waits_same l, low)) (λ l m k a b low. (let x = a low in let y = b x.1 in (waits_then l m k x.0 y.0, y.1)))
    (λ m l ok low. (λ a s. grind (arith, ok, a, s), grind arith))
    (λ info l q i may low. (λ a s. absurd (grind (arith, a, s)), grind arith))

counts_down : (held : Bool) (l : LinkState) → awaits_answer l.endpoint ≡ true → (after_slot held l).clock ≡ l.clock - 1
counts_down true l a = rw a refl
counts_down false l a = refl

pub waits_ready : (w : Pair) (role : Role) (o : Option Frame) (t : Turn) (l : LinkState) → Good l → l.answer ≡ None →
    All (IsUse w role) t.calls → WaitsReady l (before_sending o t l)
waits_ready w role o t l g none u a s =
    let m = after_arriving o l in
    let b = after_calls t.calls m in
    let x = waits_then l m b (waits_arriving l g none o) (waits_calls w role t.calls m u (arrives o l g none).moves.low).0 a s in
    (x.0, x.1, x.2, λ y. counts_down t.is_held b y ∙ ap (λ c. c - 1) x.3)

-- ---- the slot

-- an open link that waits after its slot sent an I frame in it and its clock starts, or waited before with the same clock
pub data WaitsOver (m : LinkState) (o : SlotOutcome) : Type 0 where
  starts : is_i_frame o.frame ≡ true → o.link.clock ≡ m.t200 → WaitsOver m o
  goes_on : m.is_sent ≡ true → o.link.clock ≡ m.clock → (o.frame ≡ None) ⊎ (o.frame ≡ m.answer) → WaitsOver m o

open_first : (l : LinkState) → l.endpoint.state ≡ Open → is_opening l.endpoint.state ≡ true → ⊥
open_first l o h = grind (arith, o, h)

first_i : (l : LinkState) → l.endpoint.state ≡ Open → is_i_frame (Some (awaited_frame false l.endpoint.state l.endpoint)) ≡ true
first_i l o = rw o refl

again_i : (l : LinkState) → l.endpoint.state ≡ Open → (t200_expiry l.endpoint).new_state.state ≡ Open →
    is_i_frame (first_frame (t200_expiry l.endpoint).frames) ≡ true
again_i l o h = grind (arith, o, h)

module _ (l : LinkState) (open_ : l.endpoint.state ≡ Open) where
  over : (o : SlotOutcome) → IsSlot l o → o.link.is_sent ≡ true → o.link.endpoint.state ≡ Open → WaitsOver l o
  over o (sabm_first opening first due new) sent h = absurd (open_first l open_ opening)
  over o (idles first none due) sent h = goes_on sent refl (inl refl)
  over o (answering f first owes back) sent h = goes_on sent refl (inr (sym owes))
  over o (repeating awaits due new) sent h = starts (first_i l open_) refl
  over o (expiring awaits before due expires) sent h = starts (again_i l open_ h) refl

  pub waits_over : (slot_outcome l).link.is_sent ≡ true → (slot_outcome l).link.endpoint.state ≡ Open → WaitsOver l (slot_outcome l)
  waits_over = over (slot_outcome l) (is_slot l)

-- ---- what an open link does in its slot

-- it sends its I frame; or it sends an answer though the frame is due; or it counts
pub data SlotWay (m : LinkState) (o : SlotOutcome) : Type 0 where
  sends : is_due m ≡ true → is_i_frame o.frame ≡ true → o.link.is_sent ≡ true → o.link.clock ≡ m.t200 → SlotWay m o
  blocked : (f : Frame) → m.answer ≡ Some f → keeps_back f m ≡ false → is_due m ≡ true → o.frame ≡ m.answer →
      o.link.is_sent ≡ m.is_sent → o.link.clock ≡ m.clock → SlotWay m o
  counts : is_due m ≡ false → o.link.is_sent ≡ m.is_sent → o.link.clock ≡ m.clock → SlotWay m o

module _ (l : LinkState) (open_ : l.endpoint.state ≡ Open) where
  way : (o : SlotOutcome) → IsSlot l o → o.link.endpoint.state ≡ Open → SlotWay l o
  way o (sabm_first opening first due new) h = absurd (open_first l open_ opening)
  way o (idles first none due) h = counts due refl refl
  way o (answering f first owes back) h = elim (cases_Bool (is_due l)) [
    | inl due ↦ blocked f owes back due (sym owes) refl refl
    | inr due ↦ counts due refl refl
  ]
  way o (repeating awaits due new) h = sends due (first_i l open_) refl refl
  way o (expiring awaits sent due expires) h = sends due (again_i l open_ h) sent refl

  pub slot_way : (slot_outcome l).link.endpoint.state ≡ Open → SlotWay l (slot_outcome l)
  slot_way = way (slot_outcome l) (is_slot l)
