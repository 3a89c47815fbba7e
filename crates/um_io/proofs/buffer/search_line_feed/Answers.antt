use Rattle.{
  std.proofs.{
    Common.{Some, None, arith, drop, sym, subst, take, ◌≡◌},
    Math.Seq.take-add,
    lemmas.List.{length-drop, Elements.All-append},
  },
  um_io.{specs.Lines.{IsLine, IsNotLineFeed}, proofs.LineFeeds.{MatchOption-behind, MatchOption-feed, slice_range-end}},
}
use Rattle.um_io.proofs.buffer.search_line_feed.Goals as goal

pub returns-then-count-lt-VECTOR_SIZE : goal.returns-then-count-lt-VECTOR_SIZE
returns-then-count-lt-VECTOR_SIZE c =
    let octets = c.args.octets.now in
    let from = c.loop-from.from in
    let found = c.count_before_line_feed-count in
    MatchOption-behind octets from (Some found.result) c.loop-from.invariant.0 c.loop-from.invariant.1 (record {
      in_range = omega (arith, slice_range-end octets from, length-drop from octets, c.loop-from-test.true, c.if-count-lt-VECTOR_SIZE.true);
      no_line_feed = found.ensures.before;
      is_line_feed = found.ensures.found c.if-count-lt-VECTOR_SIZE.true;
    })

pub loop-from-preserved : goal.loop-from-preserved
loop-from-preserved c =
    let octets = c.args.octets.now in
    let from = c.loop-from.from in
    let found = c.count_before_line_feed-count in
    let all : found.result ≡ 64 = omega (arith, found.ensures.bound, c.if-count-lt-VECTOR_SIZE.false) in (
      omega (arith, c.loop-from-test.true),
      subst IsLine (sym (take-add from 64 octets))
          (All-append IsNotLineFeed (take from octets) (take 64 (drop from octets)) c.loop-from.invariant.1
          (rw (sym (slice_range-end octets from)) (rw all at found.ensures.before))),
    )

pub returns-in-Some : goal.returns-in-Some
returns-in-Some c =
    let octets = c.args.octets.now in
    let from = c.loop-from.from in
    MatchOption-behind octets from (Some c.in-Some.at) c.loop-from.invariant.0 c.loop-from.invariant.1
    (MatchOption-feed _ (Some c.in-Some.at) c.in-Some.ensures)

pub returns-in-None : goal.returns-in-None
returns-in-None c =
    let octets = c.args.octets.now in
    let from = c.loop-from.from in
    MatchOption-behind octets from None c.loop-from.invariant.0 c.loop-from.invariant.1
    (MatchOption-feed _ None c.in-None.ensures)
