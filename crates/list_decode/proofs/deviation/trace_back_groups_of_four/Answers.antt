use Rattle.{
  std.proofs.Common.{arith, rules, ◌≡◌, ℕ, ◌/◌, ◌%◌, ◌^◌, [], ℤ, pos, length, get_or, refl, sym, ◌∙◌, w16},
  std.proofs.{Common.{FitsSigned, List}, lemmas.{Int.to_z-of_z, Nat.and_mask}},
  trellis_decode.{proofs.Lemmas.length-traceback, specs.Trellis.traceback},
  list_decode.specs.{PartialTracebacks.IsPartialTraceback, declared.deviation.PartialTraceback.PartialTraceback},
  list_decode.proofs.DeviatingWords.chosen_bit,
}
use lib.Bits.{bit_and}
use Rattle.list_decode.proofs.deviation.trace_back_groups_of_four.Goals as goal

at_index : (rows : List ℕ) (losses : List (List ℤ)) (u : List ℕ) (k j : ℕ) (reading : PartialTraceback) →
    IsPartialTraceback rows losses u k reading → k ≡ j → IsPartialTraceback rows losses u j reading
at_index rows losses u k j reading is same = rw (← same) is

pub loop-group-init : goal.loop-group-init
loop-group-init c =
    let rows = c.args.rows.now in
    let losses = c.args.losses.now in
    let u = traceback rows 0 in
    let long : length u ≡ length c.args.u.now = length-traceback rows 0 ∙ c.requires.rows in
    let five = c.requires.at_least in
    let index = c.new.ensures.index in
    let fits : FitsSigned w16 (get_or (get_or losses 0 []) 0 (pos 0)) = search rules in
    let lost = c.new.ensures.loss in
    let first : get_or rows 0 0 % 2 ≡ get_or rows 0 0 / 2 ^ 0 % 2 = omega arith in
    let bit : bit_and (get_or rows 0 0) 1 ≡ get_or u 0 0 =
    and_mask (get_or rows 0 0) 1 ∙ first ∙ sym (chosen_bit rows 0 0 (let same = c.requires.rows in omega arith)) in
    record {
      reading = record {
        state_in_range = omega arith;
        state = refl;
        bits_traced = refl;
        best = record {
          index_at_most_limit = omega arith;
          in_range = omega arith;
          state = rw index c.new.ensures.state;
          least = rw index (record {
            value = lost ∙ to_z-of_z w16 _ fits;
            least = λ k lt. absurd (omega arith);
            tie_before = λ k lt equal. absurd (omega arith);
            tie_after = λ k late lt equal. absurd (omega arith);
          });
          loss_limit = rw (index, lost, ← bit) c.new.ensures.loss_limit;
        };
      };
    }

pub trace_back_bit-requires-in-loop-group-2-clause-reading : goal.trace_back_bit-requires-in-loop-group-2-clause-reading
trace_back_bit-requires-in-loop-group-2-clause-reading c =
    at_index _ _ _ _ _ _ c.trace_back_bit-in-loop-group.ensures.reading (omega arith)

pub trace_back_bit-reading-requires-clause-reading : goal.trace_back_bit-reading-requires-clause-reading
trace_back_bit-reading-requires-clause-reading c =
    at_index _ _ _ _ _ _ c.trace_back_bit-in-loop-group-2.ensures.reading (omega arith)

pub loop-group-preserved : goal.loop-group-preserved
loop-group-preserved c =
    record { reading = at_index _ _ _ _ _ _ c.trace_back_bit-reading.ensures.reading (omega arith) }

pub returns : goal.returns
returns c =
    record { reading = at_index _ _ _ _ _ _ c.loop-group.invariant.reading (omega arith) }
