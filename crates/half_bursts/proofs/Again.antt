-- What is received as it was sent joins to the block that was sent.
use Rattle.{
  half_bursts.{
    proofs.{Halves.IsBurst, Mapped.joined_block-map, Stolen.{IsBurst-stolen, length-stolen, stolen-joined}},
    specs.Halves.{joined_block, stolen},
  },
  std.proofs.Common.{List, ap, arith, length, map, pos, ℕ, ℤ, ◌∙◌, ◌≡◌, ◌≤◌},
  std.specs.List.All,
}

pub joins_again : (block bursts : List (List ℕ)) (f : ℕ → ℤ) → length block ≡ 4 → All IsBurst block →
    4 ≤ length bursts →
    length bursts ≤ 8 → joined_block (pos 0) (map (map f) (stolen block bursts)) ≡ map (map f) block
joins_again block bursts f four each some few =
    joined_block-map f 0 (pos 0) (stolen block bursts) (IsBurst-stolen block bursts) (omega (arith, length-stolen block bursts))
    ∙ ap (map (map f)) (stolen-joined block bursts four each some few)
