use Rattle.{
  std.proofs.{
    Common.{◌≡◌, ◌+◌, ◌++◌, ℤ, List, pos, length, length-append, replicate, ap, subst, sym, ◌∙◌, arith, refl, w8},
    lemmas.{Int.ints, List.{get_or_append_left, Elements.{All-append, All-replicate}}},
  },
  trellis_decode.specs.{Hard.sign_bit_of, SignedOctets.{AreSignedOctets, IsSignedOctet}},
  lanes.{proofs.Lanes.sign_bit, specs.Lanes.lane},
}
use Rattle.trellis_decode.proofs.hard.sign_bits_of_soft_bits.Goals as goal

pub returns : goal.returns
returns c k lt =
    let part = c.copy_from_slice.new.self in
    let copied = c.copy_from_slice.ensures.after in
    let long : length part ≡ 8 = ap length copied ∙ c.requires.count in
    let zeros : List ℤ = replicate 8 (pos 0) in
    let count : length (part ++ zeros) ≡ 16 = length-append part zeros ∙ ap (λ n. n + 8) long in
    let octets = All-append IsSignedOctet part zeros (subst AreSignedOctets (sym copied) c.requires.octets)
    (All-replicate IsSignedOctet 8 (pos 0) (omega (arith, ints), omega (arith, ints))) in
    sign_bit w8 refl 16 (omega arith) (part ++ zeros)
    (record { count = count; fits = λ j less. let octet = octets j (pos 0) (omega arith) in omega (arith, ints) }) k (omega arith)
    ∙ ap sign_bit_of (get_or_append_left part zeros (pos 0) k (omega arith) ∙ ap (λ s. lane s k) copied)
