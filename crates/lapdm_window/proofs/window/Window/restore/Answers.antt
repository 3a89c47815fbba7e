-- `restore` succeeds if and only if the values satisfy `AreConsistent`: `is_consistent` proves one direction, `represents_one` the other.
use Rattle.{
  std.proofs.Common.{◌≡◌, ◌≢◌, refl, sym, ◌∙◌, ap, subst, arith, ℕ, ◌+◌, ◌%◌, ◌≤◌, ◌⊎◌, inl, inr},
  std.proofs.{Common.{length, map}, lemmas.Bool.false≢true},
  segmenting.specs.{Parts.JoinerValues, Buffers.octets_in_buffer},
  lapdm_window.{
    specs.{declared.window.Window.Window, Parts.{WindowValues, values_of, values_of_parts, SomeWindowHasValues, AreConsistent}},
    proofs.{Restoring.{is_consistent, represents_one}, window.Window.restore.Goals.then-not-are_consistent-via-then-not-are_consistent},
    proofs.window.Window.restore.Goals.then-not-are_consistent-via-else-not-are_consistent+then-not-restore,
  },
}
use Rattle.lapdm_window.proofs.window.Window.restore.Goals as goal

SomeWindowHasValues-consistent : (x : WindowValues) → SomeWindowHasValues x → AreConsistent x
SomeWindowHasValues-consistent x h = grind (arith, is_consistent h.1.window h.0 h.1.represents)

fits : (vs va : ℕ) (A : Type 0) → va ≤ 7 → (vs ≡ va) ⊎ ((vs ≡ (va + 1) % 8) × A) → vs ≤ 7
fits vs va A few (inl same) = omega (arith, few, same)
fits vs va A few (inr more) = let number : vs ≡ (va + 1) % 8 = more.0 in grind arith

some_held : (vs va : ℕ) (A : Type 0) → (vs ≡ va) ⊎ ((vs ≡ (va + 1) % 8) × A) → vs ≢ va → A
some_held vs va A h g = grind arith

pub returns-then-not-are_consistent-clause-valid : goal.returns-then-not-are_consistent-clause-valid
returns-then-not-are_consistent-clause-valid c = (
  λ s. absurd (false≢true s),
  λ h. elim c.then-not-are_consistent.branch [
    | then-not-are_consistent-via-then-not-are_consistent w ↦
        absurd (false≢true (sym w.if-not-are_consistent.true ∙ c.are_consistent.ensures.consistent.1 (SomeWindowHasValues-consistent
        (values_of_parts c.args.parts.now) h)))
    | then-not-are_consistent-via-else-not-are_consistent+then-not-restore w ↦
        absurd (false≢true (sym w.if-not-restore.true
        ∙ w.restore.ensures.valid.1 (h.1.window.joiner, ap (λ (x : WindowValues). x.joiner) h.1.values_match)))
  ],
)

pub returns-clause-valid : goal.returns-clause-valid
returns-clause-valid c =
    let p = c.args.parts.now in
    let x = values_of_parts p in
    let h : AreConsistent x = c.are_consistent.ensures.consistent.0 c.if-not-are_consistent.false in
    let w : Window = record {
      channel = p.channel;
      held = record { items = map octets_in_buffer p.held.now };
      segment_index = p.segment_index;
      vs = p.vs;
      va = p.va;
      vr = p.vr;
      acked_messages = p.acked_messages;
      rejecting = p.rejecting;
      retries = p.retries;
      joiner = c.restore.new.self;
      at_most_8 = h.held.at_most_8;
      messages = h.held.messages;
      in_range = h.segment_index_in_range;
      waiting = some_held p.vs p.va (1 ≤ length (map octets_in_buffer p.held.now)) h.at_most_one_outstanding;
      vs_fits = fits p.vs p.va (1 ≤ length (map octets_in_buffer p.held.now)) h.va h.at_most_one_outstanding;
      va_fits = h.va;
      vr_fits = h.vr;
    } in
    let same : values_of w ≡ x = ap (λ (j : JoinerValues). let y : WindowValues = record x { joiner = j } in y)
    (c.restore.ensures.same c.if-not-restore.false) in
    let found = represents_one w (subst AreConsistent (sym same) h) c.are_consistent.ensures.counted in
    (λ s. (found.0, record { window = w; values_match = same; represents = found.1 }), λ k. refl)
