use Rattle.lapdm_datalink.specs.DataLinks.{having_main}
use Rattle.um_c.proofs.DataLinkCalls.{changes, changes_by_7}
use Rattle.um_c.proofs.datalink_calls.um_datalink_main.Goals as goal

pub returns : goal.returns
returns c =
    changes (c.read_data_link.ensures.read c.if-not-read_data_link.false)
    c.set_main_established.new.self _ (having_main c.args.established) c.write_data_link.ensures c.set_main_established.ensures.represents

pub returns-then-not-read_data_link : goal.returns-then-not-read_data_link
returns-then-not-read_data_link c =
    changes_by_7 c.args.data_link.now (c.read_data_link.ensures.none c.if-not-read_data_link.true) (having_main c.args.established)
