use Rattle.lapdm_datalink.specs.Links.{afresh}
use Rattle.um_c.proofs.DataLinkCalls.{changes_link, changes_link_by_7}
use Rattle.um_c.proofs.datalink_calls.um_datalink_close_local.Goals as goal

pub returns : goal.returns
returns c =
    changes_link c.args.sapi c.in-Some.sapi c.in-Some.ensures
    (c.read_data_link.ensures.read c.if-not-read_data_link.false)
    c.restart.new.self _ afresh c.write_data_link.ensures c.restart.ensures.represents

pub returns-then-not-read_data_link : goal.returns-then-not-read_data_link
returns-then-not-read_data_link c =
    changes_link_by_7 c.args.data_link.now (c.read_data_link.ensures.none c.if-not-read_data_link.true) c.args.sapi afresh
