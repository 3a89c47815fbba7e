use Rattle.{std.proofs.Common.{arith, rules, ◌≡◌, length, sym, ◌∙◌}, list_decode.proofs.ReturnedWords.returned_words-first}
use Rattle.list_decode.proofs.words.RankedWords.write_word.Goals as goal

pub loop-k-init : goal.loop-k-init
loop-k-init c =
    let many : length c.args.self.now.deviations ≡ 63 = search rules in
    record {
      way = (
        0,
        c.copy_from_slice.ensures.after ∙ sym (returned_words-first c.args.self.now many (omega arith)),
        omega arith,
        c.chain_to_word-chain.ensures.chain,
      );
    }
