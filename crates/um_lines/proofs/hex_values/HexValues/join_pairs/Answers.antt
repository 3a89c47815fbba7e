use Rattle.{
  std.proofs.Common.{List, ap₂, arith, get_or, map, refl, replicate, ℕ, ◌%◌, ◌*◌, ◌++◌, ◌+◌, ◌^◌, ◌∙◌},
  std.proofs.{Common.◌≡◌, lemmas.{List.FromFn.get_or-map-range_with_len, Simd.{get_or-replicate, get_or-zip2}}},
  std.specs.List.range_with_len,
}
use lib.Lanes.{zip2}
use Rattle.um_lines.proofs.hex_values.HexValues.join_pairs.Goals as goal

abbrev every_second : List ℕ → ℕ → List ℕ
every_second xs r = map (λ k. get_or xs (2 * k + r) 0) (range_with_len 0 16)

abbrev plus : ℕ → ℕ → ℕ
plus a b = (a + b) % 2 ^ 8

abbrev times : ℕ → ℕ → ℕ
times a b = a * b % 2 ^ 8

pub returns : goal.returns
returns c i h =
    let xs = c.args.self.lanes ++ c.args.second_half.lanes in
    let at : (r j : ℕ) → 2 * i + r ≡ j → get_or (every_second xs r) i 0 ≡ get_or xs j 0 =
    λ r j same. rw (← same) (get_or-map-range_with_len (λ k. get_or xs (2 * k + r) 0) 0 16 i i 0 h (omega arith)) in
    get_or-zip2 plus (zip2 times (every_second xs 0) (replicate 16 16)) (every_second xs 1) i 0 0 0 h h
    ∙ ap₂ plus (get_or-zip2 times (every_second xs 0) (replicate 16 16) i 0 0 0 h h
    ∙ ap₂ times (at 0 (2 * i) (omega arith)) (get_or-replicate 16 i 16 0 h)) (at 1 (2 * i + 1) refl)
    ∙ omega arith
