use Rattle.fire_repair.proofs.{Syndromes.burst_at, RepairResults.{flipped_none, flipped_more, flipped_all}}
use Rattle.fire_repair.proofs.bursts.flip_error_burst.Goals as goal

pub loop-i-init : goal.loop-i-init
loop-i-init c =
    flipped_none c.args.w.now c.requires.count c.requires.bits (burst_at c.args.found c.requires.start c.requires.shape)

pub loop-i-preserved : goal.loop-i-preserved
loop-i-preserved c =
    rw (c.set.ensures, c.get.ensures.value)
    (flipped_more c.args.w.now c.requires.count c.requires.bits (burst_at c.args.found c.requires.start c.requires.shape)
    c.loop-i.word c.loop-i.i c.loop-i-test.true c.loop-i.invariant)

pub returns : goal.returns
returns c =
    flipped_all c.args.w.now c.requires.count c.requires.bits (burst_at c.args.found c.requires.start c.requires.shape)
    c.loop-i.word c.loop-i.i c.loop-i-test.false c.loop-i.invariant
