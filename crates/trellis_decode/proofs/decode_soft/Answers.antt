-- The survivor maps of four positions give the survivors from position `length mod 4` on; one more map extends these to the front.
use Rattle.{
  std.proofs.{
    Common.{arith, rules, lit≤, ◌≡◌, ◌*◌, ◌-◌, ◌%◌, ◌++◌, ℕ, ℤ, List, length, take, drop, refl, ap₂, sym},
    Common.{◌∙◌, w32},
    lemmas.{Int.{ints, to_z-of_z}, List.{length-take, length-drop, take_all, take-take, take-append-drop, Elements.{All-take, All-drop}}},
  },
  conv_code.specs.Likelihood.AllSoftBits,
  trellis_decode.{
    specs.{Trellis.IsSurvivor, AcsLanes.path_metric, Words.to_binary, SignedOctets.{AreSignedOctets, IsSignedOctet}},
    proofs.{
      Viterbi.{IsMostLikely-best, likelihood-best, IsSurvivor-same},
      SurvivorLists.{traced_survivor, traced_survivor-bits, traced_survivor-state, last_state-bits},
      decode_soft.Goals.After-metric_of_state_0,
    },
  },
  lanes.specs.Lanes.lane,
}
use Rattle.trellis_decode.proofs.decode_soft.Goals as goal

octets : (soft : List ℤ) → AllSoftBits soft → AreSignedOctets soft
octets soft h k d lt = let is = h k d lt in (omega (arith, ints, is.0), is.1)

best : (c : After-metric_of_state_0) → IsSurvivor 0 (c.write_last_state_bits.new.u ++ c.trace_back_survivors.new.u) c.args.soft.now
    (lane (path_metric c.extend_survivors-walk.result.values) 0)
best c =
    let soft = c.args.soft.now in
    let n = length _ in
    let few = n % 4 in
    let front : List ℤ = take _ _ in
    let rest : List ℤ = take _ (drop (2 * few) soft) in
    let whole : front ++ rest ≡ soft =
    ap₂ (λ front rest. front ++ rest) (take-take (2 * few) 8 soft (omega arith))
    (take_all _ _ (omega (arith, length-drop (2 * few) soft))) ∙ take-append-drop (2 * few) soft in
    let after = path_metric c.fill_survivors-values.result in
    let values = path_metric c.extend_survivors-walk.result.values in
    let map = c.extend_survivors-walk.result.survivor_map in
    let survivors = c.fill_survivors-values.new.survivors in
    let walk = c.extend_survivors-walk.ensures.walk in
    let some = c.fill_survivors-values.ensures.at_least in
    let each = c.fill_survivors-values.ensures.best in
    let bits : List ℕ = walk.bits 0 in
    let count = walk.count 0 (lit≤ tt) in
    let length_front : length front ≡ 2 * few =
    omega (arith, length-take (2 * few) (take 8 soft), length-take 8 soft, c.requires.count, c.requires.at_least) in
    let counted : length bits ≡ few = omega (arith, count, length_front) in
    let state = traced_survivor-state survivors walk some each 0 (lit≤ tt) in
    let first : c.write_last_state_bits.new.u ≡ bits =
    c.write_last_state_bits.ensures
    ∙ ap₂ (λ k s. drop (4 - k) (to_binary 4 s)) (sym counted) state
    ∙ last_state-bits bits (omega arith) (traced_survivor-bits survivors walk some each 0 (lit≤ tt)) in
    IsSurvivor-same 0 (sym (ap₂ (λ u v. u ++ v) first c.trace_back_survivors.ensures)) whole refl
    (traced_survivor survivors walk some each 0 (lit≤ tt))

long : (c : After-metric_of_state_0) → length (c.write_last_state_bits.new.u ++ c.trace_back_survivors.new.u) ≡ length c.args.u.now
long c = omega (
  arith,
  c.write_last_state_bits.auto.u,
  c.trace_back_survivors.auto.u,
  c.split_at_mut-first.ensures.front_len,
  c.split_at_mut-first.ensures.back_len,
)

pub fill_survivors-values-requires-clause-octets : goal.fill_survivors-values-requires-clause-octets
fill_survivors-values-requires-clause-octets c =
    All-take IsSignedOctet _ _ (All-drop IsSignedOctet _ _ (octets _ c.requires.soft))

pub extend_survivors-walk-requires-clause-octets : goal.extend_survivors-walk-requires-clause-octets
extend_survivors-walk-requires-clause-octets c = All-take IsSignedOctet 8 _ (octets _ c.requires.soft)

pub returns-clause-best : goal.returns-clause-best
returns-clause-best c =
    IsMostLikely-best c.args.soft.now (c.write_last_state_bits.new.u ++ c.trace_back_survivors.new.u) _ (omega
    (arith, long, c.requires.at_least)) (omega (arith, long)) (best c)

pub returns-clause-value : goal.returns-clause-value
returns-clause-value c =
    to_z-of_z w32 _ (search rules) ∙ c.metric_of_state_0.ensures
    ∙ likelihood-best _ _ _ (best c)
