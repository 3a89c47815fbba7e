use Rattle.lapdm_datalink.specs.DataLinks.{with_clocks_moved}
use Rattle.um_c.proofs.DataLinkCalls.{fills_slot_by_7}
use Rattle.um_c.proofs.OneLink.{fills_slot, clocks_counted}
use Rattle.um_c.proofs.datalinks.um_datalink_next.Goals as goal

pub returns : goal.returns
returns c =
    let before = c.args.data_link.now in
    let seen = c.in-Some.ensures in
    fills_slot seen c.args.layer1.now c.fill_slot-slot.result c.fill_slot-slot.new.data_link c.args.block.now c.with_layer1.result
    c.slot_block-written.result c.args.report.now c.write_given_up.new.report c.slot_answer.result
    (λ s h. rw (← c.count_slot.ensures) (c.fill_slot-slot.ensures s (rw c.count_slot.ensures (clocks_counted before s h))
    (seen.outlook s h)))
    c.slot_block-written.ensures c.with_layer1.ensures c.write_given_up.ensures c.slot_answer.ensures

pub returns-in_default : goal.returns-in_default
returns-in_default c =
    fills_slot_by_7 c.args.data_link.now c.in_default.ensures c.args.layer1.now c.args.block.now c.args.report.now
