use Rattle.std.proofs.Common.{sym, ◌∙◌, ap, refl, subst}
use Rattle.lapdm_frame.specs.{declared.Channel.{Channel}, Content.{frame_of_view}, Frames.{FrameFits}}
use Rattle.lapdm_datalink.proofs.Kept.{ui-same}
use Rattle.um_c.specs.DataLinkCalls.{c_timed_end}
use Rattle.um_c.proofs.OneLink.{link_written, link_is_written}
use Rattle.um_c.proofs.datalinks.pass_frame_to.Goals as goal

pub receive-requires : goal.receive-requires
receive-requires c =
    let l = (c.read_link.ensures.read c.if-not-read_link.false).some.0 in
    let h = (c.read_link.ensures.read c.if-not-read_link.false).some.1 in
    subst (λ (ch : Channel). FrameFits ch (frame_of_view c.args.frame.now))
    (sym ((c.read_link.ensures.read c.if-not-read_link.false).represents l h).endpoint.address.channel) (c.requires l h)

pub returns-then-not-read_link : goal.returns-then-not-read_link
returns-then-not-read_link c l h = absurd (c.read_link.ensures.none c.if-not-read_link.true l h)

pub returns-then-is_ui : goal.returns-then-is_ui
returns-then-is_ui c l h =
    let f = frame_of_view c.args.frame.now in
    let ui = sym c.is_ui.ensures ∙ c.if-is_ui.true in
    record {
      represents = rw (ui-same f.sapi f.cr f.content l ui) h;
      written = rw ui refl;
      notices_are = c.receive.ensures.notices l ((c.read_link.ensures.read c.if-not-read_link.false).represents l h);
    }

pub returns : goal.returns
returns c l h =
    let m = (c.read_link.ensures.read c.if-not-read_link.false).represents l h in
    let wrote = c.write_link.ensures ∙ ap c_timed_end c.parts.ensures.values in
    record {
      represents = link_written c.receive.new.self _ c.write_link.new.c_struct wrote (c.receive.ensures.done l m);
      written = rw (sym c.is_ui.ensures ∙ c.if-is_ui.false)
          (link_is_written c.receive.new.self c.write_link.new.c_struct wrote);
      notices_are = c.receive.ensures.notices l m;
    }
