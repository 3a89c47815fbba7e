use Rattle.std.proofs.Common.{refl}
use Rattle.um_c.proofs.DataLinkCalls.{written, is_set}
use Rattle.um_c.proofs.datalinks.um_datalink_new_for.Goals as goal

pub returns : goal.returns
returns c =
    rw (
      ← c.in-Some.ensures,
      ← c.in-Some-channel_of.ensures,
      ← c.in-Some-establishment_of.ensures,
      is_set c.args.t200 c.if-t200-eq0.false,
      is_set c.args.t200_sapi3
          c.if-t200_sapi3-eq0.false,
    ) (
      refl,
      written c.new_on-held.result _ _ (c.new_on-held.ensures.represents c.if-t200-eq0.false c.if-t200_sapi3-eq0.false)
          c.write_data_link.ensures,
    )
