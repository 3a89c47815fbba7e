use Rattle.{
  std.proofs.{Common.{List, arith, drop, take, w8, ℕ, ◌+◌, ◌-◌, ◌≡◌}, lemmas.Simd.{chunk-fits, length-chunk}},
  um_lines.proofs.Texts.codes-values,
}
use lib.Lanes.{chunk}
use Rattle.um_lines.proofs.hex_values.HexValues.from_digits.Goals as goal

read : (xs : List ℕ) (from : ℕ) → chunk 0 16 (take (from + 16 - from) (drop from xs)) ≡ take 16 (drop from xs)
read xs _ = grind arith

pub returns-clause-count : goal.returns-clause-count
returns-clause-count c = grind arith

pub returns-clause-test : goal.returns-clause-test
returns-clause-test c =
    rw (read _ _)
    (codes-values 16 _ (length-chunk c.args.from 16 _ c.requires) (chunk-fits w8 c.args.from 16 _ c.type_inv.digits)).0

pub returns-clause-values : goal.returns-clause-values
returns-clause-values c all =
    rw (read _ _)
    ((codes-values 16 _ (length-chunk c.args.from 16 _ c.requires) (chunk-fits w8 c.args.from 16 _ c.type_inv.digits)).1 all)
