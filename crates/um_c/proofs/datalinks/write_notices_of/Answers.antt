use Rattle.std.proofs.Common.{refl}
use Rattle.um_c.proofs.DataLinkCalls.{report_is}
use Rattle.um_c.proofs.datalinks.write_notices_of.Goals as goal

pub returns : goal.returns
returns c = report_is c.args.sapi c.args.notices.now _ c.requires c.write_notices.ensures c.sapis_of-report.ensures refl
