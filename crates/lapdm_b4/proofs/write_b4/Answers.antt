use Rattle.lapdm_b4.proofs.Lemmas.{written}
use Rattle.lapdm_b4.proofs.write_b4.Goals as goal

pub returns : goal.returns
returns c =
    rw (c.copy_from_slice.ensures.after, c.copy_from_slice-2.ensures.after)
    (written c.args.layer1.now c.args.info.now c.told-layer1 c.told-info)
