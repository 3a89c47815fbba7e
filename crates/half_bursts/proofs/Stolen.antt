-- A block that is written into its halves of bursts is the block that these halves carry.
use Rattle.{
  half_bursts.proofs.Halves.{AreCarried-joined, IsBurst, same_block},
  half_bursts.specs.Halves.{AreCarried, coded_values, half_of_position, joined_block, other_half, partner, stolen, stolen_burst},
  half_bursts.specs.Halves.{value_with_half, with_half},
  interleave.specs.Bursts.IsInterleaved,
  std.proofs.Common.{List, [], ap, arith, get_or, length, map, subst, sym, ℕ, ◌%◌, ◌<◌},
  std.proofs.Common.{◌∙◌, ◌≡◌, ◌≢◌, ◌≤◌},
  std.proofs.lemmas.{List.FromFn.{get_or-map-range_with_len, length-map-range_with_len}},
  std.specs.List.All,
}

-- the positions of one parity are never of the other half
odd_is_own : (n b p : ℕ) → b < 4 → p % 2 ≡ 1 → half_of_position p ≢ other_half n b
odd_is_own n b p hb odd = grind arith

even_is_own : (n b p : ℕ) → n ≤ 8 → b < 4 → p % 2 ≡ 0 → half_of_position p ≢ other_half n (partner n b)
even_is_own n b p hn hb even = grind arith

partner-modulo : (n b : ℕ) → b < 4 → partner n b % 4 ≡ b
partner-modulo n b hb = grind arith

pub own_value : (half : ℕ) (burst old : List ℕ) (p : ℕ) → half_of_position p ≢ half →
    value_with_half 0 half burst old p ≡ get_or burst p 0
own_value half burst old p own = grind (arith, own)

pub length-with_half : (half : ℕ) (burst old : List ℕ) → length (with_half half burst old) ≡ 148
length-with_half half burst old = length-map-range_with_len (value_with_half 0 half burst old) 0 148

module _ (block bursts : List (List ℕ)) where
  abbrev count : ℕ
  count = length bursts

  pub length-stolen : length (stolen block bursts) ≡ count
  length-stolen = length-map-range_with_len (stolen_burst block bursts) 0 count

  stolen-at : (b : ℕ) (d : List ℕ) → b < count → get_or (stolen block bursts) b d ≡ stolen_burst block bursts b
  stolen-at b d hb = get_or-map-range_with_len (stolen_burst block bursts) 0 count b b d hb (omega arith)

  stolen-own : (b p : ℕ) → b < count → p < 148 → half_of_position p ≢ other_half count b →
      get_or (get_or (stolen block bursts) b []) p 0 ≡ get_or (get_or block (b % 4) []) p 0
  stolen-own b p hb hp own =
      let burst = get_or block (b % 4) [] in
      let old = get_or bursts b [] in
      ap (λ xs. get_or xs p 0) (stolen-at b [] hb)
      ∙ get_or-map-range_with_len (value_with_half 0 (other_half count b) burst old) 0 148 p p 0 hp (omega arith)
      ∙ own_value (other_half count b) burst old p own

  pub IsBurst-stolen : All IsBurst (stolen block bursts)
  IsBurst-stolen b d lt =
      let many = length-stolen in
      ap length (stolen-at b d (omega arith))
      ∙ length-with_half (other_half count b) (get_or block (b % 4) []) (get_or bursts b [])

  module _ (four : length block ≡ 4) (each : All IsBurst block) (some : 4 ≤ count) (few : count ≤ 8) where
    pub stolen-joined : joined_block 0 (stolen block bursts) ≡ block
    stolen-joined =
        let many = length-stolen in
        same_block 0 block (stolen block bursts) four each
        (λ b p hb hp odd. let is : b % 4 ≡ b = omega arith in
        stolen-own b p (omega arith) hp (odd_is_own count b p hb odd) ∙ ap (λ n. get_or (get_or block n []) p 0) is)
        (λ b p hb hp even. ap (λ n. get_or (get_or (stolen block bursts) (partner n b) []) p 0) many
        ∙ stolen-own (partner count b) p (grind arith) hp (even_is_own count b p few hb even)
        ∙ ap (λ n. get_or (get_or block n []) p 0) (partner-modulo count b hb))

    pub stolen-carried : (coded : List ℕ) → IsInterleaved coded (map coded_values block) → AreCarried coded (stolen block bursts)
    stolen-carried coded spread =
        let many = length-stolen in
        AreCarried-joined 0 (stolen block bursts) IsBurst-stolen (omega arith) coded
        (subst (λ block. IsInterleaved coded (map coded_values block)) (sym stolen-joined) spread)
