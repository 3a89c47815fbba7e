use Rattle.{
  std.proofs.Common.{Ok, Result, refl},
  um_air.specs.lapdm_window.declared.Refused.Refused,
  um_c.proofs.Calls.{answered_by, is_read},
}
use Rattle.um_c.proofs.ends.um_end_idle.Goals as goal

pub returns : goal.returns
returns c =
    let r : Result (Unit {0}) Refused = Ok tt in
    let done = c.write_call_effects.ensures.done in
    answered_by (is_read c.read_endpoint.ensures.represents c.read_endpoint.ensures.valid c.if-not-read_endpoint.false)
    c.read_endpoint.new.end c.send_fill_frame_into.new.effects r (λ e h. tt) (λ e h. refl) c.send_fill_frame_into.ensures
    (done.0, c.read_endpoint.ensures.decoded c.if-not-read_endpoint.false, done.1) tt
