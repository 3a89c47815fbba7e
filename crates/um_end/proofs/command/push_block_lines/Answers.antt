use Rattle.{std.proofs.Common.arith, um_end.proofs.EndSteps.{burst_lines-next, blocks-next}}
use Rattle.um_end.proofs.command.push_block_lines.Goals as goal

pub loop-octets-preserved : goal.loop-octets-preserved
loop-octets-preserved c = (
  burst_lines-next _ c.args.frames.now _ _ _ _ _ c.loop-octets-test.true c.loop-octets.invariant.0 c.bursts.ensures.value
      c.push_block.ensures.lines,
  omega (arith, c.loop-octets.invariant.1, c.push_block.ensures.length),
  blocks-next c.args.frames.now _ c.loop-octets-test.true c.loop-octets.invariant.2 c.bursts.ensures.sent.code.count,
)
