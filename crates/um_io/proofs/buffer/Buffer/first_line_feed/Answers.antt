use Rattle.{std.proofs.Common.arith, um_io.proofs.LineFeeds.{IsLine-join, IsLine-join_feed, IsFirstLineFeed-upto}}
use Rattle.um_io.proofs.buffer.Buffer.first_line_feed.Goals as goal

pub invariant_of-self-clause-no_line_feed : goal.invariant_of-self-clause-no_line_feed
invariant_of-self-clause-no_line_feed c =
    let b = c.args.self.now in
    IsLine-join_feed b.octets.items b.start b.scanned b.end c.in-Some.at b.start_order b.scan_order (omega arith) b.no_line_feed
    (rw c.deref.ensures.value at c.in-Some.ensures)

pub invariant_of-self-in-None-clause-no_line_feed : goal.invariant_of-self-in-None-clause-no_line_feed
invariant_of-self-in-None-clause-no_line_feed c =
    let b = c.args.self.now in
    IsLine-join b.octets.items b.start b.scanned b.end b.start_order b.scan_order b.no_line_feed
    (rw c.deref.ensures.value at c.in-None.ensures)

pub returns-in-Some-clause-found : goal.returns-in-Some-clause-found
returns-in-Some-clause-found c =
    let b = c.args.self.now in
    IsFirstLineFeed-upto b.octets.items b.start b.scanned b.end c.in-Some.at b.start_order b.scan_order (omega arith) b.no_line_feed
    (rw c.deref.ensures.value at c.in-Some.ensures)
