use Rattle.{
  std.{
    proofs.Common.{◌≡◌, refl, sym, ◌∙◌, ap, Bool, true, false, List, ℕ, nat_eq, ◌-◌, Option, Some, None, not},
    specs.{Prelude.{if◌then◌else◌, ◌&&◌, ◌||◌}, Option.{is_none, option_map}},
  },
  lapdm_frame.specs.{Content.Frame, Frames.octets_of},
  lapdm_end.specs.lapdm_window.Ends.awaits_answer,
  lapdm_datalink.{
    specs.{Links.{LinkState, after_slot}, Parts.{LinkValues, values_of_parts, acts_in_slot}},
    proofs.Lemmas.endpoint_values,
  },
}
use Rattle.lapdm_datalink.proofs.parts.LinkView.acts_in_next_slot.Goals as goal

none_mapped : (f : Frame → List ℕ) (a : Option Frame) → is_none (option_map f a) ≡ is_none a
none_mapped f None = refl
none_mapped f (Some x) = refl

decided : (b : Bool) (l : LinkState) (owes awaits over : Bool) → owes ≡ not (is_none l.answer) →
    awaits ≡ awaits_answer l.endpoint → over ≡ (if b then nat_eq l.clock 0 else nat_eq (l.clock - 1) 0) →
    (owes || (awaits && over)) ≡ acts_in_slot (if b then l else after_slot l)
decided true l owes awaits over o a t = λ i. o i || (a i && t i)
decided false l owes awaits over o a t = λ i. o i || (a i && t i)

pub returns : goal.returns
returns c l h =
    let x = values_of_parts c.args.self.now in
    let answer = sym (ap (λ (y : LinkValues). y.answer) h.values_match) ∙ h.represents.answer in
    let clock = sym (ap (λ (y : LinkValues). y.clock) h.values_match) ∙ h.represents.clock in
    c.acts.ensures
    ∙ decided c.args.is_stopped l c.owes.result c.awaits_answer.result c.is_clock_over.result
    (c.owes.ensures ∙ ap (λ (a : Option (List ℕ)). not (is_none a)) answer
    ∙ ap not (none_mapped (octets_of l.endpoint.channel) l.answer)) (c.awaits_answer.ensures l.endpoint (endpoint_values x l h))
    (c.is_clock_over.ensures ∙ ap (λ (k : ℕ). if c.args.is_stopped then nat_eq k 0 else nat_eq (k - 1) 0) clock)
