use Rattle.std.proofs.Common.{refl, sym, ◌∙◌, subst}
use Rattle.lapdm_frame.specs.{declared.Channel.{Channel}, Content.{frame_of_view}, Frames.{FrameFits}}
use Rattle.um_c.proofs.OneLink.{both, one_channel, passed_to0, passed_to3}
use Rattle.um_c.proofs.datalinks.pass_frame.Goals as goal

pub pass_frame_to-requires : goal.pass_frame_to-requires
pass_frame_to-requires c l h =
    let s = c.requires.some.0 in
    let g = both c.args.data_link.now s c.requires.some.1 in
    subst (λ (ch : Channel). FrameFits ch (frame_of_view c.args.frame.now)) (one_channel c.args.data_link.now.link0 s.link0 l g.link0 h)
    (c.requires.fits s c.requires.some.1)

pub pass_frame_to-requires-in-Some-Three : goal.pass_frame_to-requires-in-Some-Three
pass_frame_to-requires-in-Some-Three c l h =
    let s = c.requires.some.0 in
    let g = both c.args.data_link.now s c.requires.some.1 in
    subst (λ (ch : Channel). FrameFits ch (frame_of_view c.args.frame.now))
    (sym g.valid.channel ∙ one_channel c.args.data_link.now.link3 s.link3 l g.link3 h) (c.requires.fits s c.requires.some.1)

pub returns-in-Some-Zero : goal.returns-in-Some-Zero
returns-in-Some-Zero c s h =
    let before = c.args.data_link.now in
    rw (c.in-Some-Zero.is, rw c.in-Some-Zero.is at c.in-Some-Zero.field-0-is)
    (passed_to0 before _ (frame_of_view c.args.frame.now) s c.pass_frame_to.new.effects.notices h (c.requires.fits s h)
    c.pass_frame_to.new.c_struct refl (c.pass_frame_to.ensures s.link0 (both before s h).link0))

pub returns-in-Some-Three : goal.returns-in-Some-Three
returns-in-Some-Three c s h =
    let before = c.args.data_link.now in
    rw (c.in-Some-Three.is, rw c.in-Some-Three.is at c.in-Some-Three.field-0-is)
    (passed_to3 before _ (frame_of_view c.args.frame.now) s c.pass_frame_to-in-Some-Three.new.effects.notices h (c.requires.fits s h)
    c.pass_frame_to-in-Some-Three.new.c_struct refl (c.pass_frame_to-in-Some-Three.ensures s.link3 (both before s h).link3))
