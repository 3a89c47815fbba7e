use Rattle.{std.proofs.{Common.bit_xor, lemmas.Bool.Decides.{Decides-like, Decides-eqb}}, fire_code.proofs.Lemmas.{cut, xcch_sum}}
use Rattle.fire_code.proofs.xcch.xcch_holds.Goals as goal

pub returns : goal.returns
returns c =
    let d = c.split_at.result.0.now in
    let register = c.remainder.result in
    let check = c.register_from_bits.result in
    let parts = cut 184 _ _ d _ c.as_slice.ensures.value c.as_slice.ensures.bits c.split_at.ensures.front c.split_at.ensures.back in
    let decides = xcch_sum d register c.split_at.ensures.front_len parts.1 c.remainder.ensures.multiple check
    c.remainder.ensures.within c.register_from_bits.ensures.within in
    rw (parts.0, ← c.register_from_bits.ensures.value)
    (Decides-like _ decides.0 decides.1 (Decides-eqb (bit_xor register check) 0xffffffffff))
