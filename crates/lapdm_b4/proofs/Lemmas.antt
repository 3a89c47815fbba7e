-- Blocks of format B4.
use Rattle.{
  lapdm_frame.specs.{Content.Ui, Frames.control_octet},
  lapdm_b4.specs.Blocks.{IsB4Coding, b4_octets},
  std.proofs.{
    Common.{Bool, List, drop, slice_index, [], ap, length, refl, set, false, ℕ, ◌++◌, ◌∷◌, ◌≡◌, arith, replicate},
    lemmas.List.append-nil,
  },
}
use borrow.Rule.Slice.PartMut.{put_mid}

pub coding : (p : Bool) (info octets : List ℕ) → length octets ≡ 23 → slice_index octets 2 ≡ 3 →
    slice_index octets 3 ≡ control_octet (Ui p info) → drop 4 octets ≡ info → IsB4Coding info octets
coding p info octets count address control rest = record {
  count = count;
  address_matches = address;
  p = p;
  control_matches = control;
  information_matches = rest;
}

pub reads_back : (layer1 info : List ℕ) → length layer1 ≡ 2 → length info ≡ 19 → IsB4Coding info (b4_octets layer1 info)
reads_back (a ∷ b ∷ []) info _ size = record {
  count = omega (arith, size);
  address_matches = refl;
  p = false;
  control_matches = refl;
  information_matches = refl;
}
reads_back [] info two _ = absurd (omega (arith, two))
reads_back (a ∷ []) info two _ = absurd (omega (arith, two))
reads_back (a ∷ b ∷ c ∷ rest) info two _ = absurd (omega (arith, two))

pub written : (layer1 info : List ℕ) → length layer1 ≡ 2 → length info ≡ 19 →
    put_mid 4 19 (set (set (layer1 ++ replicate 21 0) 2 3) 3 3) info ≡ b4_octets layer1 info
written (a ∷ b ∷ []) info _ size = ap (λ xs. a ∷ b ∷ 3 ∷ 3 ∷ xs) (append-nil info)
written [] info two _ = absurd (omega (arith, two))
written (a ∷ []) info two _ = absurd (omega (arith, two))
written (a ∷ b ∷ c ∷ rest) info two _ = absurd (omega (arith, two))
