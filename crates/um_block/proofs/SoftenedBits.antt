-- Soft bits of bursts: the loops that make them from bits, sixteen at a time, and their range.
use Rattle.{
  bit_blocks.specs.SoftValues.{AllSoftBits, IsSoftBit},
  interleave.{proofs.Bursts.All-interleaved, specs.Bursts.IsInterleaved},
  std.proofs.Common.{map, ℤ, List, append_assoc, ap, arith, drop, length-append, length, sym, take, ℕ, ◌++◌, ◌+◌, ◌∙◌},
  std.proofs.{Common.{◌≡◌, ◌≤◌}, Math.Seq.take-add, lemmas.{Bool.Decides.nat_tests, Int.ints, List.{length-take, map-append}}},
  std.proofs.lemmas.List.{take-map, take-take, Elements.{All-append, All-drop, All-map, All-take}, length-drop, length-map, length-take-le},
  std.{proofs.lemmas.List.take_at, specs.{Prelude.slice_range, List.All}},
  um_block.specs.Received.{coded_soft_bits, soft_bit_of, soft_bits},
}
use borrow.Rule.Slice.PartMut.{put_mid}

pub AllSoftBits-softened : (bits : List ℕ) → AllSoftBits (soft_bits bits)
AllSoftBits-softened bits = All-map IsSoftBit _ bits (λ i d h. grind (arith, ints, nat_tests))

pub AllSoftBits-all : (block : List (List ℕ)) → All AllSoftBits (map soft_bits block)
AllSoftBits-all block = All-map AllSoftBits _ block (λ i d h. AllSoftBits-softened _)

pub softened-more : (bits : List ℕ) (at : ℕ) (old new : List ℤ) → at + 16 ≤ length bits → at + 16 ≤ length old →
    take at old ≡ soft_bits (take at bits) → new ≡ soft_bits (take 16 (drop at bits)) →
    (take (at + 16) (put_mid at 16 old new) ≡ soft_bits (take (at + 16) bits)) × (length (put_mid at 16 old new) ≡ length old)
softened-more bits at old new within room before more =
    let few : length new ≡ 16 = ap length more ∙ length-map _ _ ∙ length-take-le 16 _ (omega (arith, length-drop at bits)) in
    let front : length (take at old) ≡ at = length-take-le at old (omega arith) in
    let whole : length (take at old ++ new) ≡ at + 16 = omega (arith, length-append (take at old) new) in (
      ap (take (at + 16)) (sym (append_assoc (take at old) new (drop 16 (drop at old))))
          ∙ take_at (take at old ++ new) (drop 16 (drop at old)) (at + 16) whole
          ∙ cc (map-append soft_bit_of (take at bits) (take 16 (drop at bits)), take-add at 16 bits),
      simp (length-append, length-take, length-drop) (omega arith),
    )

-- if the first n bits are converted to soft bits, so are the first m, for m at most n
pub softened-before : (bits : List ℕ) (soft : List ℤ) (m n : ℕ) → m ≤ n → take n soft ≡ soft_bits (take n bits) →
    take m soft ≡ soft_bits (take m bits)
softened-before bits soft m n less is = sym (take-take m n _ less) ∙ rw (is, take-map, take-take)

pub AllSoftBits-range : (values : List ℤ) (i j : ℕ) → AllSoftBits values → AllSoftBits (slice_range values i j)
AllSoftBits-range values i j soft = All-take IsSoftBit _ _ (All-drop IsSoftBit i _ soft)

AllSoftBits-coded_soft_bits : (burst : List ℤ) → AllSoftBits burst → AllSoftBits (coded_soft_bits burst)
AllSoftBits-coded_soft_bits burst soft = All-append IsSoftBit _ _ (AllSoftBits-range burst 3 60 soft) (AllSoftBits-range burst 88 145 soft)

pub AllSoftBits-deinterleaved : (bursts : List (List ℤ)) (soft : List ℤ) → IsInterleaved soft (map coded_soft_bits bursts) →
    All AllSoftBits bursts → AllSoftBits soft
AllSoftBits-deinterleaved bursts soft deinterleaved all =
    All-interleaved IsSoftBit _ (map _ _) deinterleaved (All-map AllSoftBits _ _ (λ i d h. AllSoftBits-coded_soft_bits _ (all i d h)))
