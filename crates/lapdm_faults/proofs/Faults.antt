-- What a frame with a fault does at the link that takes it, and which N(R) are none.
use Rattle.{
  std.{
    specs.Prelude.{◌≡◌, ◌%◌, ◌↔◌, ◌⊎◌, ℕ, Bool, true, false, if◌then◌else◌, nat_eq, Some, None},
    proofs.{Common.{arith, refl, ap, sym, subst, ◌∙◌, inl, inr}, lemmas.Bool.{cases_Bool, Decides.nat_tests}},
  },
  lapdm_frame.specs.Content.{Content, I, Rr, Rej, Frame},
  lapdm_end.specs.lapdm_window.{
    declared.State.TheVariants.Open,
    segmenting.Segments.Segment,
    Ends.{EndpointState, HasWindowOfOne, va, vs},
    Rules.{nr_acknowledges_segment, takes_i_frame},
  },
  lapdm_datalink.{
    specs.Links.{LinkState, after_frame, for_frame, ignores, nr_as_taken, received_outcome, renewed_for, with_outcome},
    proofs.Lemmas.endpoint_with_frames,
  },
  lapdm_faults.specs.{declared.Fault.Fault, Faults.{CountsSegments, HasNoEffect, fault_of, nr_fault}},
}

-- ---- N(R)

one_of : (nr : ℕ) (e : EndpointState) → nr_fault nr e ≡ None → (nr ≡ va e) ⊎ (nr ≡ vs e)
one_of nr e h = by (nat_eq nr (va e)) (nat_eq nr (vs e)) refl refl h
  where
    by : (a s : Bool) → nat_eq nr (va e) ≡ a → nat_eq nr (vs e) ≡ s → nr_fault nr e ≡ None → (nr ≡ va e) ⊎ (nr ≡ vs e)
    by true s p q h = inl (grind (arith, nat_tests, p))
    by false true p q h = inr (grind (arith, nat_tests, q))
    by false false p q h = absurd (grind (arith, p, q, h))

none_of : (nr : ℕ) (e : EndpointState) → (nr ≡ va e) ⊎ (nr ≡ vs e) → nr_fault nr e ≡ None
none_of nr e (inl h) = grind (arith, nat_tests, h)
none_of nr e (inr h) = grind (arith, nat_tests, h)

counted : (nr : ℕ) (e : EndpointState) → HasWindowOfOne e → (nr ≡ va e) ⊎ (nr ≡ vs e) → CountsSegments nr e
counted nr e w (inl h) =
    record { count = e.acked_segments; number = h; not_fewer = omega arith; not_more = w.acked_at_most_sent }
counted nr e w (inr h) =
    record { count = e.sent_segments; number = h; not_fewer = w.acked_at_most_sent; not_more = omega arith }

which : (nr : ℕ) (e : EndpointState) → HasWindowOfOne e → CountsSegments nr e → (nr ≡ va e) ⊎ (nr ≡ vs e)
which nr e w h = elim (cases_Bool (nat_eq h.count e.acked_segments)) [
  | inl k ↦ inl (h.number ∙ ap (λ n. n % 8) (grind (arith, nat_tests, k)))
  | inr k ↦ inr (h.number ∙ ap (λ n. n % 8) (last (grind (arith, nat_tests, k))))
]
  where
    last : (h.count ≡ e.acked_segments → ⊥) → h.count ≡ e.sent_segments
    last k = omega (arith, k, h.not_fewer, h.not_more, w.window)

pub counts : (nr : ℕ) (e : EndpointState) → HasWindowOfOne e → (nr_fault nr e ≡ None) ↔ CountsSegments nr e
counts nr e w = (λ h. counted nr e w (one_of nr e h), λ h. none_of nr e (which nr e w h))

-- ---- what a frame with a fault does

outside_acks_nothing : (nr : ℕ) (l : LinkState) (fault : Fault) → nr_fault nr l.endpoint ≡ Some fault →
    nr_acknowledges_segment (nr_as_taken nr l) l.endpoint ≡ false
outside_acks_nothing nr l fault h = grind (arith, h)

-- an endpoint that takes an I frame whose N(R) acknowledges nothing
record Keeps (e x : EndpointState) : Type 0 where
  acked : x.acked_segments ≡ e.acked_segments
  state : x.state ≡ e.state

i_keeps : (ns n : ℕ) (p : Bool) (s : Segment) (e : EndpointState) → nr_acknowledges_segment n e ≡ false →
    Keeps e (takes_i_frame ns n p s e).new_state
i_keeps ns n p s e h = grind (arith, h)

module _ (f : Frame) (l : LinkState) (fault : Fault) (opened : l.endpoint.state ≡ Open)
  where
    abbrev with : Content → Frame
    with c = record f { content = c }

    keeps : (c : Content) → fault_of (with c) l.endpoint ≡ Some fault → ignores (with c) l ≡ false →
        Keeps l.endpoint (received_outcome (with c) l).new_state
    keeps (I ns nr p more info) h none =
        let out = outside_acks_nothing nr l fault (grind (arith, opened, h)) in
        grind (arith, opened, h, i_keeps ns (nr_as_taken nr l) p (info, more) l.endpoint out)
    keeps (Rr nr p) h none = grind (arith, opened, outside_acks_nothing nr l fault (grind (arith, opened, h)))
    keeps (Rej nr p) h none = grind (arith, opened, outside_acks_nothing nr l fault (grind (arith, opened, h)))
    keeps other h none = grind (arith, opened, h, none)

    renewed : (c : Content) → fault_of (with c) l.endpoint ≡ Some fault → renewed_for (with c) l ≡ l
    renewed c h = grind (arith, opened, h)

    found : (c : Content) → for_frame (with c) l ≡ l
    found c = grind (arith, opened)

is_now_open : (f : Frame) (e : EndpointState) (fault : Fault) → fault_of f e ≡ Some fault → e.state ≡ Open
is_now_open f e fault h = grind (arith, h)

module _ (f : Frame) (l : LinkState) (fault : Fault) (h : fault_of f l.endpoint ≡ Some fault) where
  opened : l.endpoint.state ≡ Open
  opened = is_now_open f l.endpoint fault h

  taken : (b : Bool) → ignores f l ≡ b →
      Keeps l.endpoint (if b then l else (let m = for_frame f l in with_outcome (received_outcome f m) m)).endpoint
  taken true e = record { acked = refl; state = refl }
  taken false e =
      subst (λ m. Keeps l.endpoint (with_outcome (received_outcome f m) m).endpoint) (sym (found f l fault opened f.content))
      (subst (Keeps l.endpoint) (sym (endpoint_with_frames (received_outcome f l).frames
      (record l { endpoint = (received_outcome f l).new_state }))) (keeps f l fault opened f.content h e))

  pub no_effect : HasNoEffect f l
  no_effect =
      let k : Keeps l.endpoint (after_frame f (renewed_for f l)).endpoint =
      subst (λ m. Keeps l.endpoint (after_frame f m).endpoint) (sym (renewed f l fault opened f.content h)) (taken (ignores f l) refl) in
      record { acked = k.acked; state = k.state }
