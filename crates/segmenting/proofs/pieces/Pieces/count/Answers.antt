use Rattle.{
  std.proofs.Common.{◌∙◌, sym, ap, ◌+◌, ◌-◌, ◌/◌, length},
  segmenting.proofs.Lemmas.{length-segments, few_segments},
}
use Rattle.segmenting.proofs.pieces.Pieces.count.Goals as goal

pub returns-clause-count : goal.returns-clause-count
returns-clause-count c =
    ap (λ n. (length (c.args.self.now).message.now - 1) / n + 1) c.n201.ensures ∙ sym (length-segments _ _)

pub returns-clause-most : goal.returns-clause-most
returns-clause-most c =
    few_segments _ _ _ c.n201.ensures (c.args.self.now).at_most
