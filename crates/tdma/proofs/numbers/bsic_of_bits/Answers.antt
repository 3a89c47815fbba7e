use Rattle.std.proofs.Common.{arith, get_or, sym, ◌≤◌, ◌<◌, ◌∙◌, ◌≡◌, length, List, ℕ}
use Rattle.tdma.proofs.Lemmas.{bits_of_six, list_of_six}
use Rattle.tdma.proofs.numbers.bsic_of_bits.Goals as goal

pub returns-clause-value : goal.returns-clause-value
returns-clause-value c =
    let l : List ℕ = c.as_slice-bits.result.now in
    let count : length l ≡ 6 = c.as_slice-bits.ensures.count in
    let bit = λ (k : ℕ) (lt : k < 6). let at : get_or l k 0 ≤ 1 = c.as_slice-bits.ensures.bits k 0 (omega arith) in at in
    bits_of_six _ _ _ _ _ _ (bit 0 (omega arith)) (bit 1 (omega arith)) (bit 2 (omega arith)) (bit 3 (omega arith)) (bit 4 (omega arith))
    (bit 5 (omega arith))
    ∙ sym (list_of_six l count) ∙ c.as_slice-bits.ensures.value
