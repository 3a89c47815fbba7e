use Rattle.{std.proofs.{Common.arith, lemmas.Int.ints}, training_seq.proofs.Lemmas.four_kept}
use Rattle.training_seq.proofs.choice.midamble_sum_at.Goals as goal

pub overflow_add-result-3 : goal.overflow_add-result-3
overflow_add-result-3 c = omega (arith, ints)

pub returns : goal.returns
returns c =
    let all = four_kept c.from.result c.from-2.result c.from-3.result c.from-4.result (omega (arith, ints)) (omega (arith, ints))
    (omega (arith, ints)) (omega (arith, ints)) in
    record { value = rw all (omega (arith, ints)); small = rw all (omega (arith, ints)) }
