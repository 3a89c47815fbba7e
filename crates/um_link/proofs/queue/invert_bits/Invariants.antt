use Rattle.um_link.proofs.Lemmas.{AreFlipped}
use Rattle.um_link.proofs.queue.invert_bits.Given as goal

abbrev pub invariant-loop-place : goal.invariant-loop-place
invariant-loop-place l = AreFlipped l.places l.place-index l.initial.block l.block
