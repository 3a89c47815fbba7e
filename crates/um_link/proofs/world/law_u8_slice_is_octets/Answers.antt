use Rattle.std.proofs.{Common.{◌<◌, get_or, arith}, lemmas.List.get_or_default}
use Rattle.um_link.proofs.world.law_u8_slice_is_octets.Goals as goal

pub returns : goal.returns
returns c k d h =
    let octets = c.args.octets.now in
    let fits : get_or octets k 0 < 256 = omega (arith, c.type_inv.octets k) in
    rw (get_or_default octets k 0 d h) at fits
