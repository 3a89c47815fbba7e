use Rattle.um_c.proofs.Calls.{buffers-written}
use Rattle.um_c.proofs.states.write_buffers.Goals as goal

pub loop-i-preserved : goal.loop-i-preserved
loop-i-preserved c =
    buffers-written c.args.messages.now c.loop-i.i c.loop-i.buffers c.write.new.self _ c.octets.result.now c.loop-i-test.true c.requires
    c.loop-i.invariant c.octets.ensures.value c.write.ensures
