use Rattle.um_c.proofs.Calls.{c_notices-written}
use Rattle.um_c.proofs.effects.write_notices.Goals as goal

pub returns : goal.returns
returns c =
    c_notices-written _ c.args.reported_notices.now _ _ _ c.told-notices c.requires c.write_notice.ensures c.write_notice-2.ensures
    c.write_notice-3.ensures
