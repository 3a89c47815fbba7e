use Rattle.fire_code.proofs.Lemmas.{cut, syndrome_of}
use Rattle.fire_code.proofs.xcch.xcch_syndrome.Goals as goal

pub returns : goal.returns
returns c =
    let d = c.split_at.result.0.now in
    let parts = cut 184 _ _ d _ c.as_slice.ensures.value c.as_slice.ensures.bits c.split_at.ensures.front c.split_at.ensures.back in
    let syndrome = syndrome_of d c.remainder.result c.split_at.ensures.front_len parts.1 c.remainder.ensures.multiple
    c.register_from_bits.result c.remainder.ensures.within c.register_from_bits.ensures.within in
    assumption (
      rw (c.register_from_bits.ensures.value, ← parts.0) at syndrome,
      rw c.as_slice.ensures.value at c.as_slice.ensures.count,
      rw c.as_slice.ensures.value at c.as_slice.ensures.bits,
    )
