use Rattle.{
  lapdm_end.specs.Sides.channel_of,
  std.proofs.Common.{refl, Some},
  um_link.specs.um_air.Computed.frame_in_accepted,
  um_link.proofs.{um_air.Lemmas.ReadsFrame-frame_in_accepted, um_block.Lemmas.{accepted_count, received_block-only}},
  um_end.{specs.{Abstraction.role_of_terminal, Terminals.step_for_accepted}, proofs.EndSteps.terminal_step-is},
}
use Rattle.um_end.proofs.terminal.Terminal.receive_into.Goals as goal

pub returns-clause-refines : goal.returns-clause-refines
returns-clause-refines c a st =
    let report = c.receive_block-report.result in
    let received = c.receive_block-report.ensures.received in
    let channel = channel_of c.args.self.now.links in
    let reads = ReadsFrame-frame_in_accepted channel report.accepted (accepted_count c.args.bursts.now report received) in
    let done = rw c.args.self.now.channel at
    (c.take_block-sapi.ensures.refines (frame_in_accepted channel report.accepted) reads a st) in
    rw (← (received_block-only _ report received)) (
      done.represents,
      terminal_step-is _ _ (Some report) (step_for_accepted report.accepted a) _ _ _ _ c.set_side_and_sapi.ensures.step
          refl done,
    )
