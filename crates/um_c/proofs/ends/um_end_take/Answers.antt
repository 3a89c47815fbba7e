use Rattle.{
  lapdm_frame.specs.Content.frame_of_view,
  lapdm_end.specs.Parts.values_of,
  um_c.proofs.Calls.{is_done, is_read, given_by, not_given},
}
use Rattle.um_c.proofs.ends.um_end_take.Goals as goal

pub returns-clause-answers_block : goal.returns-clause-answers_block
returns-clause-answers_block c =
    given_by (is_read c.read_endpoint.ensures.represents c.read_endpoint.ensures.valid c.if-not-read_endpoint.false)
    c.channel.ensures.represents (frame_of_view c.in-Ok.frame) c.take_frame_into.new.self c.take_frame_into.new.effects
    c.in-Ok.ensures.frame c.take_frame_into.ensures.refines (is_done c.take_frame_into.new.self c.take_frame_into.new.effects
    c.write_call_result.ensures.done)

pub returns-clause-c_struct : goal.returns-clause-c_struct
returns-clause-c_struct c = λ zero. (values_of c.take_frame_into.new.self, c.write_call_result.ensures.c_struct zero)

pub returns-in-Err-clause-answers_block : goal.returns-in-Err-clause-answers_block
returns-in-Err-clause-answers_block c =
    not_given (is_read c.read_endpoint.ensures.represents c.read_endpoint.ensures.valid c.if-not-read_endpoint.false)
    c.channel.ensures.represents c.in-Err.ensures.refusal
