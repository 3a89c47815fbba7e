use Rattle.{
  std.proofs.{Common.{arith, ◌*◌, length, sym, ◌∙◌}, lemmas.Grind.same_number_lists},
  trellis_decode.proofs.Viterbi.{length-to_binary, get_or-to_binary, IsEncoderInput-to_binary},
}
use Rattle.trellis_decode.proofs.exhaustive.write_bits_and_zero_tail.Goals as goal

pub returns-clause-list : goal.returns-clause-list
returns-clause-list c =
    let n = length c.args.u.now in
    let w = 16 * c.args.information_bits in
    same_number_lists _ _ (c.loop-k.auto.u ∙ sym (length-to_binary n w))
    (λ k lt.
    c.loop-k.invariant k (omega arith) ∙ sym (get_or-to_binary n w k _ (omega arith)))

pub returns-clause-information : goal.returns-clause-information
returns-clause-information c =
    rw (returns-clause-list c) (IsEncoderInput-to_binary (length _) c.args.information_bits c.requires.at_least)
