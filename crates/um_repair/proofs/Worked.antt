-- Worked inputs of `repair`: the prescribed response. It is computed where the search ends soon; where it does not, that a word is a
-- codeword is computed, and no other result is then correct.
use Rattle.{
  std.specs.{Prelude.{◌≡◌, ◌≢◌, ◌+◌, ◌++◌, ℕ, List, [], ◌∷◌, length}, Fmt.digits},
  std.specs.Prelude.{Option, Some, codes, replicate, slice_index, true},
  std.proofs.Common.{ap, arith, refl, subst, suc, sym, zero},
  fire_code.{proofs.Lemmas.{one_xcch_crc, xcch_crc_word}, specs.{Crcs.xcch_crc, Registers.low_bits, Words.IsXcchCodeword}},
  fire_repair.specs.{Repairs.{IsRepair, IsSpanOfChangedBits}, declared.repairs.RepairAnswer.TheVariants.{NoRepair, Repaired}},
  um_lines.specs.{Hex.encode_with, bit_blocks.Bits.AllBits},
  um_lines.proofs.bit_blocks.Lemmas.{AllBits-append, AllBits-bits_of},
  um_driver.specs.{Outputs.response, declared.status.Status.{Status, TheVariants.{Done, BadInput}}},
  um_repair.specs.{RepairLines.repair_line, RepairRules.{codeword_near, repair_command_rules}, Texts.answer_text},
  um_repair.proofs.Lemmas.repair_result-only,
}

abbrev answered : (text : List ℕ) → Option Status × List ℕ
answered text = (Some Done, text ++ [])

holds : response repair_command_rules tt (codes "word 0000000000000000000000000000000000000000000080 ffdfbeff6f\n") true ≡ (
  Some Done,
  codes "holds\n",
)
unfolding response repair_line digits xcch_crc low_bits
holds = refl

first_octet : response repair_command_rules tt (codes "word 8100000000000000000000000000000000000000000000 ffffffffff\n") true ≡ (
  Some Done,
  codes "repaired first 0 span 8 data 0000000000000000000000000000000000000000000000 check ffffffffff\n",
)
unfolding response repair_line digits encode_with xcch_crc low_bits codeword_near
first_octet = refl

-- a word with one wrong bit: the first of the CRC
abbrev zeros : List ℕ
zeros = replicate 184 0

abbrev ones : List ℕ
ones = replicate 39 1

right : IsXcchCodeword (zeros ++ 1 ∷ ones)
unfolding xcch_crc low_bits
right = subst IsXcchCodeword same (xcch_crc_word zeros refl (AllBits-bits_of (replicate 23 0)))
  where
    same : zeros ++ xcch_crc zeros ≡ zeros ++ 1 ∷ ones
    same = refl

differs_once : (front back : List ℕ) (a b k : ℕ) → slice_index (front ++ a ∷ back) k ≢ slice_index (front ++ b ∷ back) k →
    k ≡ length front
differs_once [] back a b zero differs = refl
differs_once [] back a b (suc k) differs = absurd (differs refl)
differs_once (x ∷ front) back a b zero differs = absurd (differs refl)
differs_once (x ∷ front) back a b (suc k) differs = ap suc (differs_once front back a b k differs)

differs_at_184 : (k : ℕ) → slice_index (zeros ++ 0 ∷ ones) k ≢ slice_index (zeros ++ 1 ∷ ones) k → k ≡ 184
differs_at_184 k differs = differs_once zeros ones 0 1 k differs

wrong_bits : AllBits (zeros ++ 0 ∷ ones)
wrong_bits = AllBits-append zeros (0 ∷ ones) (AllBits-bits_of (replicate 23 0)) (AllBits-bits_of (0xfe ∷ replicate 4 0xff))

repair : IsRepair (zeros ++ 0 ∷ ones) (zeros ++ 1 ∷ ones)
repair = record {
  count = refl;
  bits = wrong_bits;
  not_codeword = λ word. let same = one_xcch_crc zeros (0 ∷ ones) (1 ∷ ones) refl word right in absurd (cc same);
  codeword = right;
  start = 184;
  changes_within_twelve_bits = λ k differs. let is = differs_at_184 k differs in omega (arith, is);
}

span : IsSpanOfChangedBits (zeros ++ 0 ∷ ones) (zeros ++ 1 ∷ ones) 184 1
span = record {
  nonzero = omega arith;
  first_differs = λ same. absurd (cc same);
  last_differs = last;
  none_outside = λ k differs. let is = differs_at_184 k differs in omega (arith, is);
}
  where
    last : (k : ℕ) → k + 1 ≡ 184 + 1 → slice_index (zeros ++ 0 ∷ ones) k ≢ slice_index (zeros ++ 1 ∷ ones) k
    last k is same =
        let at : k ≡ 184 = omega (arith, is) in
        absurd (cc (subst (λ k. slice_index (zeros ++ 0 ∷ ones) k ≡ slice_index (zeros ++ 1 ∷ ones) k) at same))

repaired : response repair_command_rules tt (codes "word 0000000000000000000000000000000000000000000000 feffffffff\n") true ≡ (
  Some Done,
  codes "repaired first 184 span 1 data 0000000000000000000000000000000000000000000000 check ffffffffff\n",
)
unfolding response repair_line digits encode_with
repaired =
    let is = repair_result-only (zeros ++ 0 ∷ ones) (Repaired (zeros ++ 1 ∷ ones) 184 1) refl wrong_bits (repair, span) in
    ap (λ result. answered (answer_text result)) (sym is)

refused : response repair_command_rules tt (codes "word 00 ffdfbeff6f\n") true ≡ (Some BadInput, codes "refused 1 length\n")
unfolding response repair_line digits
refused = refl

none : answer_text NoRepair ≡ codes "none\n"
none = refl
