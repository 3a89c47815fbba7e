use Rattle.{
  std.proofs.{Common.{◌<◌, ℕ, ◌∷◌, get_or, subst, ◌∙◌}, lemmas.List.append-nil},
  bit_blocks.specs.Octets.bits_of,
  conv_code.{specs.CodedPairs.HoldsFourCodedPairs, proofs.Lemmas.AreCodedBitsPacked-encode_four_bits_per_octet},
}
use Rattle.conv_code.proofs.packed.encode_packed.Goals as goal

pub returns : goal.returns
returns c =
    AreCodedBitsPacked-encode_four_bits_per_octet c.args.octets.now c.encode_four_bits_per_octet.result c.told-octets
    (subst (λ octets. (t : ℕ) → t < 64 → HoldsFourCodedPairs (bits_of (0 ∷ octets))
    (get_or c.encode_four_bits_per_octet.result t 0) t)
    (append-nil c.copy_from_slice.new.self ∙ c.copy_from_slice.ensures.after) c.encode_four_bits_per_octet.ensures)
