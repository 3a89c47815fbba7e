use Rattle.{
  std.proofs.Common.{◌≡◌, ℕ, List, ◌++◌, length, get_or, take, drop, replicate, ap, ◌∙◌, arith},
  std.proofs.lemmas.List.{get_or-take, length-append, length-take, length-drop},
  interleave.proofs.{PackedColumns.half_burst-coded_bits, Bursts.IsInterleaved-half_burst},
}
use borrow.Rule.Slice.PartMut.{put_mid}
use Rattle.interleave.proofs.columns.Columns.write_half_burst.Goals as goal

length-two_writes : (front back : List ℕ) → length front ≡ 32 → length back ≡ 32 →
    length (put_mid 32 32 (front ++ replicate 32 0) back) ≡ 64
length-two_writes front back long long' =
    let full : length (front ++ replicate 32 0) ≡ 64 = omega (arith, length-append front (replicate 32 0)) in
    let all : List ℕ = front ++ replicate 32 0 in
    let rest : List ℕ = drop 32 (drop 32 all) in
    omega (
      arith,
      length-append (take 32 all) (back ++ rest),
      length-append back rest,
      length-take 32 all,
      length-drop 32 all,
      length-drop 32 (drop 32 all),
    )

pub slice_bounds-bits-end-3 : goal.slice_bounds-bits-end-3
slice_bounds-bits-end-3 c =
    let a = c.write_32_positions.auto.out in
    omega (arith, length-two_writes c.write_32_positions.new.out c.write_32_positions-2.new.out (omega arith) (omega arith))

taken : (front back : List ℕ) → length front ≡ 32 → length back ≡ 32 →
    length (take 57 (put_mid 32 32 (front ++ replicate 32 0) back)) ≡ 57
taken front back long long' =
    omega (arith, length-take 57 (put_mid 32 32 (front ++ replicate 32 0) back), length-two_writes front back long long')

pub slice_bounds-copy_from_slice-end : goal.slice_bounds-copy_from_slice-end
slice_bounds-copy_from_slice-end c = omega (
  arith,
  taken c.write_32_positions.new.out c.write_32_positions-2.new.out
      (omega (arith, c.write_32_positions.auto.out)) (omega (arith, c.write_32_positions-2.auto.out)),
)

pub copy_from_slice-requires : goal.copy_from_slice-requires
copy_from_slice-requires c = omega (
  arith,
  taken c.write_32_positions.new.out c.write_32_positions-2.new.out
      (omega (arith, c.write_32_positions.auto.out)) (omega (arith, c.write_32_positions-2.auto.out)),
)

pub returns : goal.returns
returns c coded bursts are whole =
    let front = c.write_32_positions.new.out in
    let back = c.write_32_positions-2.new.out in
    let a = c.write_32_positions.auto.out in
    let a' = c.write_32_positions-2.auto.out in
    let many : length front ≡ 32 = omega arith in
    let bits : List ℕ = put_mid 32 32 (front ++ replicate 32 0) back in
    IsInterleaved-half_burst c.args.burst_number c.args.half c.requires.burst c.requires.half coded bursts c.copy_from_slice.new.self whole
    (omega arith)
    (λ i hi. ap (λ xs. get_or xs i 0) c.copy_from_slice.ensures.after
    ∙ get_or-take 57 bits i 0 hi
    ∙ half_burst-coded_bits coded front (replicate 32 0) back c.args.burst_number c.args.half 32 i many (omega arith) hi
    (λ j. c.write_32_positions.ensures coded j are) (λ j. c.write_32_positions-2.ensures coded j are))
