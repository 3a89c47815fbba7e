use Rattle.{
  std.proofs.{Common.{◌<◌, length, pos, ◌∙◌, arith, w8}, lemmas.List.{ext_get_or, get_or-map, length-map}},
  std.specs.Int.cast_signed,
}
use Rattle.interleave.proofs.gathering.soft_bits_as_octets.Goals as goal

pub returns-clause-value : goal.returns-clause-value
returns-clause-value c =
    let octets = c.loop-j.octets in
    let long = length-map octets (cast_signed w8) in
    ext_get_or (pos 0) _ _ (omega arith)
    (λ k h.
    let within : k < length octets = omega arith in
    get_or-map _ _ k 0 _ within ∙ c.loop-j.invariant.1 k (omega arith))
