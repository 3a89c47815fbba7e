-- System information 6, whose L2 pseudo length is 11, and what is no frame of format B4, worked out by hand.
use Rattle.{
  lapdm_b4.{specs.Blocks.{IsB4Coding, b4_octets, format_b_information}, proofs.Lemmas.coding},
  std.proofs.Common.{List, [], refl, true, ℕ, ◌∷◌, ◌≡◌, arith, replicate},
}

abbrev si6 : List ℕ
si6 =
    0x2d ∷ 0x06 ∷ 0x1e ∷ 0x00 ∷ 0x01 ∷ 0x62 ∷ 0xf2 ∷ 0x10 ∷ 0x00 ∷ 0x01 ∷ 0x05 ∷ 0xff ∷ 0x8b
    ∷ 0x2b ∷ 0x2b ∷ 0x2b ∷ 0x2b ∷ 0x2b ∷ 0x2b ∷ []

si6_block : b4_octets (0x05 ∷ 0x03 ∷ []) si6 ≡ 0x05 ∷ 0x03 ∷ 0x03 ∷ 0x03 ∷ si6
si6_block = refl

si6_read : IsB4Coding si6 (0x05 ∷ 0x03 ∷ 0x03 ∷ 0x13 ∷ si6)
si6_read = coding true si6 _ refl refl refl refl

command_of_the_mobile : (info : List ℕ) → ¬ IsB4Coding info (0x05 ∷ 0x03 ∷ 0x01 ∷ 0x03 ∷ si6)
command_of_the_mobile info coded = absurd (omega (arith, coded.address_matches))

receive_ready : (info : List ℕ) → ¬ IsB4Coding info (0x05 ∷ 0x03 ∷ 0x03 ∷ 0x01 ∷ si6)
receive_ready info coded = grind arith

fill_of_format_b : format_b_information [] ≡ 0x01 ∷ replicate 18 0x2b
fill_of_format_b = refl
