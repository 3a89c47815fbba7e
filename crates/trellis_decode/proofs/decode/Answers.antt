use Rattle.conv_code.proofs.Lemmas.{IsMostLikely-only}
use Rattle.trellis_decode.proofs.decode.Goals as goal

pub returns-then-are_hard_bits-2-clause-only : goal.returns-then-are_hard_bits-2-clause-only
returns-then-are_hard_bits-2-clause-only c v h = IsMostLikely-only c.args.soft.now _ v c.decode_hard.ensures.best h

pub returns-clause-only : goal.returns-clause-only
returns-clause-only c v h = IsMostLikely-only c.args.soft.now _ v c.decode_soft.ensures.best h
