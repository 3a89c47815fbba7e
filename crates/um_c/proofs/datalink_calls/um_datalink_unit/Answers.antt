use Rattle.um_c.proofs.DataLinkCalls.{unit_refused, unit_written}
use Rattle.um_c.proofs.datalink_calls.um_datalink_unit.Goals as goal

pub returns-in-Err : goal.returns-in-Err
returns-in-Err c =
    rw (c.call_refusal_number.ensures, ← c.octets.ensures.value)
    (unit_refused c.args.sapi c.in-Some.sapi c.in-Some.ensures
    (c.read_data_link.ensures.read c.if-not-read_data_link.false)
    c.octets.result.now c.args.layer1.now c.args.block.now c.in-Err.refusal c.in-Err.ensures.refusal)

pub returns-in-Ok : goal.returns-in-Ok
returns-in-Ok c =
    rw (← c.octets.ensures.value)
    (unit_written c.args.sapi c.in-Some.sapi c.in-Some.ensures
    (c.read_data_link.ensures.read c.if-not-read_data_link.false)
    c.octets.result.now c.args.layer1.now c.args.block.now c.channel.result c.in-Ok.written c.with_layer1.result
    c.channel.ensures.channel c.with_layer1.ensures c.in-Ok.ensures.refusal
    c.in-Ok.ensures.block)
