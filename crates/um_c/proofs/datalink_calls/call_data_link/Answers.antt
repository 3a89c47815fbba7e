use Rattle.um_c.proofs.DataLinkCalls.{answers_err, answers_ok, answers_unsupported, answers_by_7}
use Rattle.um_c.proofs.datalink_calls.call_data_link.Goals as goal

pub returns-then-not-link_supports_call : goal.returns-then-not-link_supports_call
returns-then-not-link_supports_call c =
    answers_unsupported c.args.sapi c.in-Some.sapi c.in-Some.ensures
    (c.read_data_link.ensures.read c.if-not-read_data_link.false) _ _ _
    (c.link_supports_call.ensures.never c.if-not-link_supports_call.true)

pub returns-in-Err : goal.returns-in-Err
returns-in-Err c =
    rw c.call_refusal_number.ensures (answers_err c.args.sapi c.in-Some.sapi c.in-Some.ensures
    (c.read_data_link.ensures.read c.if-not-read_data_link.false) _ _ _
    c.in-Err.refusal c.in-Err.ensures.refusal (c.link_supports_call.ensures.allowed c.if-not-link_supports_call.false))

pub returns-in-Ok : goal.returns-in-Ok
returns-in-Ok c =
    answers_ok c.args.sapi c.in-Some.sapi c.in-Some.ensures
    (c.read_data_link.ensures.read c.if-not-read_data_link.false) _ _ _
    c.call.new.self _ c.write_data_link.ensures c.in-Ok.ensures.refusal
    (c.link_supports_call.ensures.allowed c.if-not-link_supports_call.false) c.in-Ok.ensures.done

pub returns-then-not-read_data_link : goal.returns-then-not-read_data_link
returns-then-not-read_data_link c =
    answers_by_7 c.args.data_link.now (c.read_data_link.ensures.none c.if-not-read_data_link.true)
    c.args.sapi _ _ _
