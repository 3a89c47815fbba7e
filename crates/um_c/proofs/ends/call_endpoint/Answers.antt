use Rattle.{lapdm_end.specs.Parts.values_of, um_c.proofs.Calls.{answered_by, is_done, is_read, not_asked, OnOk-map}}
use Rattle.um_c.proofs.ends.call_endpoint.Goals as goal

pub returns-clause-answers_call : goal.returns-clause-answers_call
returns-clause-answers_call c =
    answered_by (is_read c.read_endpoint.ensures.represents c.read_endpoint.ensures.valid c.if-not-read_endpoint.false)
    c.call-answer.new.self c.call-answer.new.effects c.call-answer.result
    (λ e h. c.endpoint_supports_call.ensures.allowed c.if-not-endpoint_supports_call.false e
    (c.read_endpoint.ensures.represents c.if-not-read_endpoint.false e h))
    c.call-answer.ensures.refusal c.call-answer.ensures.refines
    (OnOk-map c.call-answer.result (is_done c.call-answer.new.self c.call-answer.new.effects)
    c.write_call_result.ensures.done) c.write_call_result.ensures.refused

pub returns-then-not-endpoint_supports_call-clause-answers_call : goal.returns-then-not-endpoint_supports_call-clause-answers_call
returns-then-not-endpoint_supports_call-clause-answers_call c =
    not_asked (is_read c.read_endpoint.ensures.represents c.read_endpoint.ensures.valid c.if-not-read_endpoint.false)
    (λ e h. c.endpoint_supports_call.ensures.never c.if-not-endpoint_supports_call.true e
    (c.read_endpoint.ensures.represents c.if-not-read_endpoint.false e h))

pub returns-clause-c_struct : goal.returns-clause-c_struct
returns-clause-c_struct c = λ zero. (values_of c.call-answer.new.self, c.write_call_result.ensures.c_struct zero)
