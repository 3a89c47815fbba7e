use Rattle.{
  std.proofs.Common.{◌≡◌, ◌++◌, ◌+◌, ℕ, List, take, length, sym, ap, subst, ◌∙◌, arith, slice_range},
  std.proofs.lemmas.List.Edits.length-between,
  um_io.{specs.{Lines.IsLine, declared.buffer.Buffer.Buffer}, proofs.LineFeeds.{slice_range-came, slice_range-kept}},
}
use Rattle.um_io.proofs.buffer.Buffer.read.Goals as goal

pub returns-clause-came : goal.returns-clause-came
returns-clause-came g c =
    let b = c.move_to_front.new.self in
    let known = c.in_ok-count.ensures in
    let new = c.read_into.new.octets in
    let n = c.in_ok-count.count in
    let came = slice_range new.items b.end (b.end + n) in
    let grown = slice_range-came b.octets.items new.items b.start b.end n (omega (arith, b.start_order, b.scan_order)) known.front in
    let size : length came ≡ n =
    omega (arith, length-between new.items b.end (b.end + n) (omega (arith, known.bound, known.len, new.ok.0))) in
    (came, grown ∙ ap (λ l. l ++ came) c.move_to_front.ensures.unchanged, size, known.came)

scanned_stays : (b : Buffer) (octets : List ℕ) → take b.end octets ≡ take b.end b.octets.items
    → IsLine (slice_range octets b.start b.scanned)
scanned_stays b octets same = subst IsLine (sym (slice_range-kept b.octets.items octets b.start b.scanned b.end b.scan_order same))
    b.no_line_feed

pub invariant_of-self : goal.invariant_of-self
invariant_of-self g c =
    let b = c.move_to_front.new.self in record {
      size = c.read_into.ensures.len ∙ b.size;
      start_order = b.start_order;
      scan_order = b.scan_order;
      in_range = b.in_range;
      no_line_feed = scanned_stays b c.read_into.new.octets.items c.read_into.ensures.front;
    }

pub invariant_of-self-2 : goal.invariant_of-self-2
invariant_of-self-2 g c =
    let b = c.move_to_front.new.self in
    let known = c.in_ok-count.ensures in record {
      size = known.len ∙ b.size;
      start_order = b.start_order;
      scan_order = omega arith;
      in_range = omega arith;
      no_line_feed = scanned_stays b c.read_into.new.octets.items known.front;
    }
