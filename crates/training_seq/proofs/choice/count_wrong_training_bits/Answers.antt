use Rattle.{
  std.proofs.{
    Common.{List, arith, get_or, length, of_z, pos, to_z, w16, ℕ, ℤ, ◌+◌, ◌<◌, ◌∙◌, ◌≡◌, ◌≤◌},
    lemmas.Int.ints,
  },
  training_seq.{
    specs.{Ranges.IsMagnitudeWithin, Sequences.midamble, Sums.{sign_of_bit, signs_of_bits, wrong_bits_at}},
    proofs.Lemmas.{wrong_more, length-midamble, sign_at, small_sign},
  },
}
use Rattle.training_seq.proofs.choice.count_wrong_training_bits.Goals as goal
use Rattle.training_seq.proofs.choice.count_wrong_training_bits.Invariants.{AreCounted}

sign_here : (signs : List ℤ) (tsc i : ℕ) → tsc ≤ 7 → i < 26 → signs ≡ signs_of_bits (midamble tsc) →
    IsMagnitudeWithin 1 (to_z w16 (of_z w16 (get_or signs i (pos 0))))
    × (to_z w16 (of_z w16 (get_or signs i (pos 0))) ≡ sign_of_bit (get_or (midamble tsc) i 0))
sign_here signs tsc i within lt is =
    let bits = midamble tsc in
    let there : i < length bits = omega (arith, length-midamble tsc within) in
    let near : IsMagnitudeWithin 1 (get_or signs i (pos 0)) = rw is (small_sign tsc i within lt) in
    let kept : to_z w16 (of_z w16 (get_or signs i (pos 0))) ≡ get_or signs i (pos 0) = omega (arith, ints) in
    let sign : get_or signs i (pos 0) ≡ sign_of_bit (get_or bits i 0) = rw is (sign_at bits i there) in
    (omega (arith, ints), kept ∙ sign)

counted_more : (values : List ℤ) (tsc i wrong more : ℕ) (sign : ℤ) → tsc ≤ 7 → i < 26 → length values ≡ 26 →
    AreCounted values (midamble tsc) i wrong → more ≡ wrong_bits_at values i sign →
    sign ≡ sign_of_bit (get_or (midamble tsc) i 0) →
    more ≤ 1 → AreCounted values (midamble tsc) (i + 1) (wrong + more)
counted_more values tsc i wrong more sign within lt count counted is same few =
    let there : i < length (midamble tsc) = omega (arith, length-midamble tsc within) in
    let four = rw same at is in
    let rest = wrong_more values (midamble tsc) i (omega arith) there in
    (omega (arith, counted.0, four, rest), omega (arith, counted.1))

pub wrong_bits_at-of_a-requires-clause-sign : goal.wrong_bits_at-of_a-requires-clause-sign
wrong_bits_at-of_a-requires-clause-sign c =
    (sign_here c.signs-signs.result.now c.args.tsc c.loop-i.i c.requires.tsc_in_range (omega arith) c.signs-signs.ensures).0

pub wrong_bits_at-of_b-requires-clause-sign : goal.wrong_bits_at-of_b-requires-clause-sign
wrong_bits_at-of_b-requires-clause-sign c =
    (sign_here c.signs-signs.result.now c.args.tsc c.loop-i.i c.requires.tsc_in_range (omega arith) c.signs-signs.ensures).0

pub wrong_bits_at-of_c-requires-clause-sign : goal.wrong_bits_at-of_c-requires-clause-sign
wrong_bits_at-of_c-requires-clause-sign c =
    (sign_here c.signs-signs.result.now c.args.tsc c.loop-i.i c.requires.tsc_in_range (omega arith) c.signs-signs.ensures).0

pub wrong_bits_at-of_d-requires-clause-sign : goal.wrong_bits_at-of_d-requires-clause-sign
wrong_bits_at-of_d-requires-clause-sign c =
    (sign_here c.signs-signs.result.now c.args.tsc c.loop-i.i c.requires.tsc_in_range (omega arith) c.signs-signs.ensures).0

pub loop-i-preserved : goal.loop-i-preserved
loop-i-preserved c =
    let tsc = c.args.tsc in
    let i = c.loop-i.i in
    let within = c.requires.tsc_in_range in
    let sign = (sign_here c.signs-signs.result.now tsc i within (omega arith) c.signs-signs.ensures).1 in
    let counted = c.loop-i.invariant in
    let a = c.wrong_bits_at-of_a.ensures in
    let b = c.wrong_bits_at-of_b.ensures in
    let e = c.wrong_bits_at-of_c.ensures in
    let d = c.wrong_bits_at-of_d.ensures in (
      counted_more c.args.a.now tsc i _ _ _ within (omega arith) c.requires.a counted.0 a.value sign a.bit,
      counted_more c.args.b.now tsc i _ _ _ within (omega arith) c.requires.b counted.1 b.value sign b.bit,
      counted_more c.args.c.now tsc i _ _ _ within (omega arith) c.requires.c counted.2 e.value sign e.bit,
      counted_more c.args.d.now tsc i _ _ _ within (omega arith) c.requires.d counted.3 d.value sign d.bit,
    )
