use Rattle.um_c.proofs.DataLinkCalls.{answers_err, answers_ok, answers_no_sapi, answers_by_7}
use Rattle.um_c.proofs.datalink_calls.um_datalink_establish.Goals as goal

pub returns-then-not-read_data_link : goal.returns-then-not-read_data_link
returns-then-not-read_data_link c =
    answers_by_7 c.args.data_link.now (c.read_data_link.ensures.none c.if-not-read_data_link.true) c.args.sapi _ _ _

pub returns-in_default : goal.returns-in_default
returns-in_default c =
    answers_no_sapi c.args.sapi _ _ _ c.in_default.ensures (c.read_data_link.ensures.read c.if-not-read_data_link.false)

pub returns-in-Err : goal.returns-in-Err
returns-in-Err c =
    rw c.call_refusal_number.ensures (answers_err c.args.sapi c.in-Some.sapi c.in-Some.ensures
    (c.read_data_link.ensures.read c.if-not-read_data_link.false) _ _ _ c.in-Err.refusal c.in-Err.ensures.refusal (λ s h. tt))

pub returns-in-Ok : goal.returns-in-Ok
returns-in-Ok c =
    answers_ok c.args.sapi c.in-Some.sapi c.in-Some.ensures
    (c.read_data_link.ensures.read c.if-not-read_data_link.false) _ _ _ c.establish.new.self _ c.write_data_link.ensures
    c.in-Ok.ensures.refusal (λ s h. tt) c.in-Ok.ensures.done
