use Rattle.um_link.proofs.Lemmas.{AreFlipped-next}
use Rattle.um_link.proofs.queue.invert_bits.Goals as goal

pub loop-place-preserved : goal.loop-place-preserved
loop-place-preserved c =
    AreFlipped-next _ _ _ _ _ c.loop-place.invariant c.loop-place-test.true c.invert_bit_at.ensures.flipped c.invert_bit_at.ensures.bits
