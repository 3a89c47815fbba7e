use Rattle.{
  std.proofs.Common.refl,
  lapdm_frame.specs.Content.frame_of_view,
  lapdm_window.specs.{declared.Sapi.TheVariants.{Zero, Three}, Tables.frame_outcome},
  lapdm_end.proofs.Lemmas.{refines_at, refines_sapi0, refines_sapi3, refines_no_sapi},
}
use Rattle.lapdm_end.proofs.sides.Side.take.Goals as goal

pub returns-then-frame-eq0-clause-refines : goal.returns-then-frame-eq0-clause-refines
returns-then-frame-eq0-clause-refines c =
    let f = frame_of_view c.args.frame.now in
    refines_sapi0 f c.args.self.now _ c.take_frame_into.new.effects c.if-frame-eq0.true
    (refines_at Zero c.args.self.now _ c.take_frame_into.new.effects (frame_outcome f) c.take_frame_into.ensures.refines refl refl)

pub returns-then-frame-eq3-clause-refines : goal.returns-then-frame-eq3-clause-refines
returns-then-frame-eq3-clause-refines c =
    let f = frame_of_view c.args.frame.now in
    refines_sapi3 f c.args.self.now _ c.take_frame_into-then-frame-eq3.new.effects c.if-frame-eq3.true
    (refines_at Three c.args.self.now _ c.take_frame_into-then-frame-eq3.new.effects (frame_outcome f)
    c.take_frame_into-then-frame-eq3.ensures.refines
    c.args.self.now.one_channel refl)

pub returns-clause-refines : goal.returns-clause-refines
returns-clause-refines c =
    refines_no_sapi (frame_of_view c.args.frame.now) c.args.self.now c.clear.new.self c.if-frame-eq0.false c.if-frame-eq3.false
    c.clear.ensures.frames c.clear.ensures.notices
