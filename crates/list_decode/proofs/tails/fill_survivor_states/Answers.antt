use Rattle.{
  std.proofs.Common.{arith, ◌/◌, ◌^◌, ◌%◌, inl, inr, get_or, take, rules, ap, ap₂, sym, ◌∙◌},
  std.proofs.lemmas.{Grind.get_or-set_at, List.get_or-set_other, Nat.and_mask},
  trellis_decode.{specs.Trellis.{next_trellis_state, traceback}, proofs.Lemmas.length-traceback},
  weight_bound.proofs.conv_code.Lemmas.same_number,
  list_decode.{specs.DeviatingWords.state_after_bits, proofs.DeviatingWords.{chosen_bit, state_after-more}},
}
use Rattle.list_decode.proofs.tails.fill_survivor_states.Goals as goal

pub loop-k-preserved : goal.loop-k-preserved
loop-k-preserved c =
    let k = c.loop-k.k in
    let rows = c.args.rows.now in
    let old = c.loop-k.invariant in
    record {
      small = omega arith;
      state = ap₂ next_trellis_state old.state
          (and_mask (get_or rows k 0 / 2 ^ c.loop-k.state) 1 ∙ ap (λ s. get_or rows k 0 / 2 ^ s % 2) old.state
          ∙ sym (chosen_bit rows 0 k (omega arith)))
          ∙ sym (state_after-more (traceback rows 0) k 0 (omega (arith, length-traceback rows 0)));
      each = (λ j lt. elim (same_number j k) [
        | inl here ↦ get_or-set_at c.loop-k.states k j c.loop-k.state 0 here (search rules) ∙ old.state
            ∙ ap (λ j. state_after_bits 0 (take j (traceback rows 0))) (sym here)
        | inr other ↦ get_or-set_other c.loop-k.states k j c.loop-k.state 0 other ∙ old.each j (omega arith)
      ]);
    }
