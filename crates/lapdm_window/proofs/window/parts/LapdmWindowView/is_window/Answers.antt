-- Some window has the state if and only if its values satisfy `AreConsistent`, and some joiner holds its reassembly.
use Rattle.{
  std.proofs.{
    Common.{◌≡◌, ◌≢◌, sym, ◌∙◌, ap, subst, arith, ℕ, ◌+◌, ◌%◌, ◌≤◌, ◌⊎◌, inl, inr},
    Common.{length, map},
    lemmas.Bool.false≢true,
  },
  segmenting.specs.{Parts.JoinerValues, Buffers.octets_in_buffer},
  lapdm_window.{
    specs.{declared.window.Window.Window, Parts.{WindowValues, values_of, values_of_parts, SomeWindowHasValues, AreConsistent}},
    proofs.Restoring.{is_consistent, represents_one},
  },
}
use Rattle.lapdm_window.proofs.window.parts.LapdmWindowView.is_window.Goals as goal

consistent : (x : WindowValues) → SomeWindowHasValues x → AreConsistent x
consistent x h = grind (arith, is_consistent h.1.window h.0 h.1.represents)

fits : (vs va : ℕ) (A : Type 0) → va ≤ 7 → (vs ≡ va) ⊎ ((vs ≡ (va + 1) % 8) × A) → vs ≤ 7
fits vs va A few (inl same) = omega (arith, few, same)
fits vs va A few (inr more) = let number : vs ≡ (va + 1) % 8 = more.0 in grind arith

some_held : (vs va : ℕ) (A : Type 0) → (vs ≡ va) ⊎ ((vs ≡ (va + 1) % 8) × A) → vs ≢ va → A
some_held vs va A h g = grind arith

pub returns-then-are_consistent : goal.returns-then-are_consistent
returns-then-are_consistent c =
    let p = c.args.self.now in
    let x = values_of_parts p in
    let h : AreConsistent x = c.are_consistent.ensures.consistent.0 c.if-are_consistent.true in (
      λ s. let j = c.can_hold.ensures.0 s in
          let w : Window = record {
            channel = p.channel;
            held = record { items = map octets_in_buffer p.held.now };
            segment_index = p.segment_index;
            vs = p.vs;
            va = p.va;
            vr = p.vr;
            acked_messages = p.acked_messages;
            rejecting = p.rejecting;
            retries = p.retries;
            joiner = j.0;
            at_most_8 = h.held.at_most_8;
            messages = h.held.messages;
            in_range = h.segment_index_in_range;
            waiting = some_held p.vs p.va (1 ≤ length (map octets_in_buffer p.held.now)) h.at_most_one_outstanding;
            vs_fits = fits p.vs p.va (1 ≤ length (map octets_in_buffer p.held.now)) h.va h.at_most_one_outstanding;
            va_fits = h.va;
            vr_fits = h.vr;
          } in
          let same : values_of w ≡ x = ap (λ (k : JoinerValues). let y : WindowValues = record x { joiner = k } in y) j.1 in
          let found = represents_one w (subst AreConsistent (sym same) h) c.are_consistent.ensures.counted in
          (found.0, record { window = w; values_match = same; represents = found.1 }),
      λ h. c.can_hold.ensures.1 (h.1.window.joiner, ap (λ (y : WindowValues). y.joiner) h.1.values_match),
    )

pub returns-else-are_consistent : goal.returns-else-are_consistent
returns-else-are_consistent c = (
  λ s. absurd (false≢true (sym c.if-are_consistent.false ∙ s)),
  λ h. c.are_consistent.ensures.consistent.1 (consistent (values_of_parts c.args.self.now) h),
)
