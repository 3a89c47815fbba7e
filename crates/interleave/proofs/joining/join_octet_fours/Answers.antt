use Rattle.{
  std.proofs.Common.{◌^◌, [], ◌∷◌, refl, arith, w32},
  interleave.proofs.JoinedLanes.paired_lane,
  lanes.proofs.Lanes.each,
}
use Rattle.interleave.proofs.joining.join_octet_fours.Goals as goal

pub returns : goal.returns
returns c =
    let lane = paired_lane w32 (2 ^ 64) 2 4 c.args.x c.args.y refl c.requires.x c.fits-x.1 c.fits-y.1 in
    let first = lane (0 ∷ 4 ∷ 1 ∷ 5 ∷ []) in
    let last = lane (2 ∷ 6 ∷ 3 ∷ 7 ∷ []) in each _ 4 (
      (
        (
          (tt, first 0 0 refl (omega arith) (omega arith) (omega arith) refl refl),
          first 1 1 refl (omega arith) (omega arith) (omega arith) refl refl,
        ),
        last 0 2 refl (omega arith) (omega arith) (omega arith) refl refl,
      ),
      last 1 3 refl (omega arith) (omega arith) (omega arith) refl refl,
    )
