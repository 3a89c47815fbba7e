use Rattle.{
  std.proofs.Common.{◌≡◌, ap, arith, [], length, slice_index_or},
  segmenting.{specs.{lapdm_frame.Layout.n201, Segments.segments}, proofs.Lemmas.length-segments},
}
use Rattle.lapdm_window.proofs.window.Window.next.Goals as goal

pub piece-requires : goal.piece-requires
piece-requires c =
    let w = c.args.self.now in
    let n = n201 w.channel in
    let same : c.first.result.now ≡ slice_index_or w.held.items 0 [] = c.first.ensures in
    omega (
      arith,
      ap length c.new_on.ensures.pieces,
      ap (λ m. length (segments n m)) same,
      length-segments n (slice_index_or w.held.items 0 []),
      w.in_range,
    )

pub returns : goal.returns
returns c = grind arith
