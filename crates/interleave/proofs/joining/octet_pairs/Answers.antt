use Rattle.{
  std.proofs.Common.{◌≡◌, suc, ◌+◌, ◌*◌, ◌<◌, get_or, ap, ◌∙◌, arith},
  interleave.proofs.JoinedLanes.octet_pairs-lane,
}
use Rattle.interleave.proofs.joining.octet_pairs.Goals as goal

pub returns-clause-even : goal.returns-clause-even
returns-clause-even c s h =
    let part = c.args.part.now in
    let from = c.args.from in
    let place : 2 * from + 2 * s ≡ 2 * (from + s) = omega arith in
    let small : get_or part (2 * from + 2 * s) 0 < 256 = omega (arith, c.type_inv.part (2 * from + 2 * s)) in
    let lane = octet_pairs-lane part (2 * from) s (omega arith) c.type_inv.part h in
    omega arith ∙ ap (λ k. get_or part k 0) place

pub returns-clause-odd : goal.returns-clause-odd
returns-clause-odd c s h =
    let part = c.args.part.now in
    let from = c.args.from in
    let place : 2 * from + suc (2 * s) ≡ 2 * (from + s) + 1 = omega arith in
    let small : get_or part (2 * from + 2 * s) 0 < 256 = omega (arith, c.type_inv.part (2 * from + 2 * s)) in
    let small' : get_or part (2 * from + suc (2 * s)) 0 < 256 = omega (arith, c.type_inv.part (2 * from + suc (2 * s))) in
    let lane = octet_pairs-lane part (2 * from) s (omega arith) c.type_inv.part h in
    omega arith ∙ ap (λ k. get_or part k 0) place
