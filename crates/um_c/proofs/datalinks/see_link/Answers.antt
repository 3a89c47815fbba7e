use Rattle.um_c.proofs.OneLink.{one_seen}
use Rattle.um_c.proofs.datalinks.see_link.Goals as goal

pub returns-in-Some : goal.returns-in-Some
returns-in-Some c = one_seen c.args.is_stopped c.args.c_struct.now _ c.outlook.result c.in-Some.ensures c.outlook.ensures
