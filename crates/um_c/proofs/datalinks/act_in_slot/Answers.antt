use Rattle.std.proofs.Common.{◌∙◌, ap}
use Rattle.um_c.specs.DataLinkCalls.{c_timed_end}
use Rattle.um_c.proofs.OneLink.{link_written, link_is_written}
use Rattle.um_c.proofs.datalinks.act_in_slot.Goals as goal

pub returns-then-not-read_link : goal.returns-then-not-read_link
returns-then-not-read_link c l h e = absurd (c.read_link.ensures.none c.if-not-read_link.true l h)

pub returns : goal.returns
returns c l h e =
    let m = (c.read_link.ensures.read c.if-not-read_link.false).represents l h in
    let wrote = c.write_link.ensures ∙ ap c_timed_end c.parts.ensures.values in
    record {
      represents = link_written c.slot-slot.new.self _ c.write_link.new.c_struct wrote (c.slot-slot.ensures.represents l m);
      written = rw e (link_is_written c.slot-slot.new.self c.write_link.new.c_struct wrote);
      block = c.slot-slot.ensures.block l m;
      gave_up = c.slot-slot.ensures.gave_up l m;
    }
