use Rattle.{
  std.proofs.Common.{◌≡◌, None, Some},
  lapdm_frame.{specs.Content.frame_of_view, proofs.OneRead.one_read},
  lapdm_end.{specs.Sides.channel_of, proofs.Lemmas.refines_no_frame},
}
use Rattle.lapdm_end.proofs.sides.Side.take_block.Goals as goal

pub returns-in-Ok-clause-refines : goal.returns-in-Ok-clause-refines
returns-in-Ok-clause-refines c read reads =
    let coding = rw c.channel.ensures.channel at c.in-Ok.ensures.frame.frame in
    let is : read ≡ Some (frame_of_view c.in-Ok.frame) =
    one_read (channel_of c.args.self.now) c.args.accepted.now read _ reads (rw c.in-Some.is coding) in
    rw is c.take.ensures.refines

pub returns-in-Err-clause-refines : goal.returns-in-Err-clause-refines
returns-in-Err-clause-refines c read reads =
    let refused = rw c.channel.ensures.channel at c.in-Err.ensures.refusal.refused in
    let is : read ≡ None = one_read (channel_of c.args.self.now) c.args.accepted.now read None reads (rw c.in-Some.is (_, refused)) in
    refines_no_frame c.args.self.now c.clear.new.self read is c.clear.ensures.frames c.clear.ensures.notices

pub returns-in_default-clause-refines : goal.returns-in_default-clause-refines
returns-in_default-clause-refines c read reads =
    let is : read ≡ None = one_read (channel_of c.args.self.now) c.args.accepted.now read None reads (rw c.in_default.is tt) in
    refines_no_frame c.args.self.now c.clear.new.self read is c.clear.ensures.frames c.clear.ensures.notices
