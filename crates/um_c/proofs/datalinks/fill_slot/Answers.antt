use Rattle.std.proofs.Common.{refl, ◌∙◌}
use Rattle.lapdm_datalink.specs.DataLinks.{with_clocks_moved}
use Rattle.um_c.proofs.OneLink.{both, filled_by0, filled_by3}
use Rattle.um_c.proofs.datalinks.fill_slot.Goals as goal

pub returns-in-Some : goal.returns-in-Some
returns-in-Some c s h o =
    let moved = with_clocks_moved s in
    let used0 = c.use_slot-slot0.ensures moved.link0 (both _ moved h).link0 o.acts0 in
    filled_by0 moved _ _ h c.use_slot-slot0.result used0 refl refl _ c.in-Some.is refl _
    ((rw (o.channel, o.endpoint_sapi) at c.any_on_sapi0.ensures) _ used0.block)

pub returns : goal.returns
returns c s h o =
    let moved = with_clocks_moved s in
    let g = both _ moved h in
    filled_by3 moved _ _ h c.use_slot-slot0.result (c.use_slot-slot0.ensures moved.link0 g.link0 o.acts0) refl refl
    c.use_slot-slot3.result c.in_default.is (c.use_slot-slot3.ensures moved.link3 g.link3 o.acts3)
