use Rattle.{
  std.proofs.Common.{◌+◌, arith, sym, subst, slice_range},
  um_io.{specs.Lines.IsLine, proofs.LineFeeds.{IsLine-skipped, slice_range-rest}},
}
use Rattle.um_io.proofs.buffer.Buffer.skip.Goals as goal

pub invariant_of-self-clause-no_line_feed : goal.invariant_of-self-clause-no_line_feed
invariant_of-self-clause-no_line_feed c =
    let b = c.args.self.now in
    subst (λ m. IsLine (slice_range b.octets.items (b.start + c.args.count) m)) (sym c.max-self.ensures)
    (IsLine-skipped b.octets.items b.start b.scanned c.args.count b.no_line_feed)

pub returns-clause-rest : goal.returns-clause-rest
returns-clause-rest c =
    let b = c.args.self.now in
    sym (slice_range-rest b.octets.items b.start b.end c.args.count (omega (arith, c.requires, b.start_order, b.scan_order)))
