use Rattle.{
  std.proofs.Common.{arith, ◌≡◌, ◌*◌, ◌+◌, ◌%◌, ◌<◌, ◌≤◌, ◌++◌, ◌∷◌, List, ℕ, [], suc, length},
  std.proofs.{Common.{take, drop, get_or, append_assoc, ap, ap₂, sym, ◌∙◌}, Math.Seq.drop-cons, lemmas.Slice.take-put_mid},
  trellis_decode.specs.{AcsLanes.lane_of_state, SurvivorPaths.survivor_traceback, Words.to_binary},
}
use Rattle.trellis_decode.proofs.survivors.trace_back_survivors.Goals as goal

pub loop-group-preserved : goal.loop-group-preserved
loop-group-preserved c =
    let survivors = c.args.survivors.now in
    let u = c.loop-group.u in
    let group = c.loop-group.group in
    let map : List ℕ = get_or _ group [] in
    let to : ℕ = get_or map c.from.result 0 in
    let small : to < 16 = c.requires.maps group c.from.result (omega arith) c.loop-group-test.true (omega arith) in
    let whole : to ≡ to % 16 = omega arith in
    let written = c.copy_from_slice.ensures.after ∙ c.bits_of_state_in_lane.ensures in
    let more : group + 1 ≡ suc group = omega arith in
    let headroom : 4 * group ≤ length u = omega (arith, c.loop-group.auto.u, c.requires.count) in
    let long : 4 * (group + 1) ≡ 4 * group + length c.copy_from_slice.new.self = omega (arith, ap length written) in
    record {
      at = omega arith;
      list =
          ap (λ front. front ++ survivor_traceback (drop (group + 1) survivors) to)
          (take-put_mid (4 * group) _ u c.copy_from_slice.new.self (4 * (group + 1)) long headroom)
          ∙ append_assoc (take (4 * group) u) c.copy_from_slice.new.self (survivor_traceback (drop (group + 1) survivors) to)
          ∙ ap (λ rest. take (4 * group) u ++ rest) (
          ap₂ (λ new rest. new ++ survivor_traceback rest to) written (ap (λ k. drop k survivors) more)
          ∙ ap (λ n. to_binary 4 (lane_of_state n) ++ survivor_traceback (drop (suc group) survivors) n) whole
          ∙ ap (λ at. survivor_traceback (map ∷ drop (suc group) survivors) at) c.from.ensures
          ∙ ap (λ survivors. survivor_traceback survivors c.loop-group.at) (sym (drop-cons survivors group [] c.loop-group-test.true)))
          ∙ c.loop-group.invariant.list;
    }
