use Rattle.{
  std.proofs.Common.{◌≡◌, ◌<◌, get_or, pos, ap, sym, ◌∙◌, arith, length, w8, to_z, of_z, ◌+◌, ◌*◌},
  std.proofs.lemmas.{Int.ints, List.length-set},
  interleave.{
    specs.Positions.{burst_of_bit, position_in_burst},
    proofs.{Bursts.{half-position, updated_bits-more, unchanged_bits-more}, Positions.coded_bit_number_in_burst-unique},
  },
}
use Rattle.interleave.proofs.gathering.deinterleave_half_burst.Goals as goal

pub loop-i-preserved : goal.loop-i-preserved
loop-i-preserved c =
    let b = c.args.b in
    let half = c.args.half in
    let soft = c.loop-i.soft in
    let old = c.args.soft.now in
    let values = c.args.values.now in
    let i = c.loop-i.i in
    let full : length soft ≡ 456 = c.loop-i.invariant.0 in
    let value : to_z w8 (of_z w8 (get_or values i (pos 0))) ≡ get_or values i (pos 0) = omega (arith, ints) in
    rw (c.from.ensures, c.coded_bit_numbers-k-items.ensures.value i c.loop-i-test.true) (
      simp length-set full,
      updated_bits-more b _ c.requires.burst c.requires.half _ old _ i _ c.loop-i-test.true full value c.loop-i.invariant.1,
      unchanged_bits-more b half c.requires.burst c.requires.half soft old values i _ c.loop-i-test.true full value c.loop-i.invariant.2,
    )

pub returns-clause-updated_bits : goal.returns-clause-updated_bits
returns-clause-updated_bits c k i hk burst hi place =
    rw (← (coded_bit_number_in_burst-unique k c.args.b (57 * c.args.half + i) hk burst place)) (c.loop-i.invariant.1 i (omega arith))

pub returns-clause-unchanged_bits : goal.returns-clause-unchanged_bits
returns-clause-unchanged_bits c k hk none =
    c.loop-i.invariant.2 k hk
    (λ j hj same.
    let here : j < 57 = omega arith in
    let stands = half-position c.args.b c.args.half c.requires.burst c.requires.half j here in
    none (sym (ap burst_of_bit same) ∙ stands.burst) j here (sym (ap position_in_burst same) ∙ stands.place))
