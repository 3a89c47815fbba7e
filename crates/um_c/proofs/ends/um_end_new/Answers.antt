use Rattle.um_c.proofs.Calls.{new_endpoint}
use Rattle.um_c.proofs.ends.um_end_new.Goals as goal

pub returns-clause-new_endpoint : goal.returns-clause-new_endpoint
returns-clause-new_endpoint c =
    new_endpoint c.args.role c.args.sapi c.args.channel c.args.end.now c.new_on.result c.in-Some.ensures c.in-Some-sapi_of.ensures
    c.in-Some-channel_of.ensures c.write_endpoint.ensures
    c.new_on.ensures.represents
