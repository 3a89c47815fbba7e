use Rattle.{
  std.proofs.Common.{refl, w16, arith},
  lanes.proofs.Lanes.{sign_bit, signs-fit},
  trellis_decode.proofs.AcsVectors.AbsFit16Bits-signed,
}
use Rattle.trellis_decode.proofs.acs_lanes.signs.Goals as goal

pub overflow_cast-result : goal.overflow_cast-result
overflow_cast-result c = record { fits = signs-fit w16 refl 16 (omega arith) c.args.a.lanes (AbsFit16Bits-signed _ c.requires) }

pub returns : goal.returns
returns c = sign_bit w16 refl 16 (omega arith) c.args.a.lanes (AbsFit16Bits-signed _ c.requires)
