use Rattle.{
  std.proofs.{Common.{eqb, replicate, ap, sym, ◌∙◌, arith}, lemmas.{Simd.{mask_l-mod, length-zip2}, List.length-map}},
  um_lines.proofs.Texts.{below, none_above},
}
use lib.Lanes.{zip2, top}
use Rattle.um_lines.proofs.hex_values.HexValues.are_digits.Goals as goal

pub returns : goal.returns
returns c =
    ap (λ m. eqb m 0) (mask_l-mod _ 64 (omega (
      arith,
      length-map (zip2 below (replicate 16 15) c.args.self.lanes) (top 7),
      length-zip2 below (replicate 16 15) c.args.self.lanes (sym c.requires),
    ))) ∙ none_above 16 _ c.requires
