use Rattle.{
  std.proofs.{Common.refl, lemmas.Result.on_ok_weaker},
  lapdm_window.specs.{declared.Sapi.TheVariants.{Zero, Three}, Calls.{endpoint_call_of, call_outcome}},
  lapdm_end.proofs.Lemmas.refines_at,
}
use Rattle.lapdm_end.proofs.sides.Side.call.Goals as goal

pub returns-in-Zero-clause-refines : goal.returns-in-Zero-clause-refines
returns-in-Zero-clause-refines c =
    let call = endpoint_call_of c.args.call.now in
    on_ok_weaker c.call.result
    (λ f. rw c.in-Zero.is
    (refines_at Zero c.args.self.now _ c.call.new.effects (call_outcome call) f refl refl))
    c.call.ensures.refines

pub returns-in-Three-clause-refines : goal.returns-in-Three-clause-refines
returns-in-Three-clause-refines c =
    let call = endpoint_call_of c.args.call.now in
    on_ok_weaker c.call-in-Three.result
    (λ f. rw c.in-Three.is
    (refines_at Three c.args.self.now _ c.call-in-Three.new.effects (call_outcome call) f c.args.self.now.one_channel refl))
    c.call-in-Three.ensures.refines
