-- The proof has one case for each `LineSearchResult` and one for a failure; each follows from `Reader`.
use Rattle.{
  std.proofs.Common.{ap, false, refl, rules, subst, sym, ◌∙◌, ◌≡◌},
  um_io.proofs.Reader.{IsNextLineCall-found, IsNextLineCall-stopped, IsValidReader-from, asked-none, counts-after, source_unchanged},
  um_io.specs.{Buffer.octets_of, Reading.{IsValidReader, ReaderState}, contracts.lines.Lines.{the_invariant, the_view}},
  um_io.specs.declared.lines.Lines.TheInside.Inside,
}
use Rattle.um_io.proofs.lines.Lines.next.Goals as goal

valid : (inside : Inside) → the_invariant inside → IsValidReader (the_view inside)
valid inside holds = IsValidReader-from inside.buffer inside.octet_count inside.number inside.ended inside.is_over holds.0 holds.1

goes_on : (r : ReaderState) (inside : Inside) → the_view inside ≡ r → inside.is_over ≡ false → r.is_over ≡ false
goes_on r inside view going = sym (ap (λ (s : ReaderState). s.is_over) view) ∙ going

pub invariant_of-self : goal.invariant_of-self
invariant_of-self g c =
    let inside = c.self-2.inside in
    let arm = c.in-Ok-Line in
    let found = rw (← c.self-2.view_is) at (rw arm.field-0-is at arm.ensures.found) in
    let counts = counts-after (octets_of inside.buffer) inside.octet_count inside.number arm.length arm.with_feed inside.ended
    inside.is_over
    c.self-2.invariant.0 c.self-2.invariant.1 found.outcome in
    (counts.0, counts.1, tt)

pub returns-in-Ok-Line : goal.returns-in-Ok-Line
returns-in-Ok-Line g c =
    let inside = c.self-2.inside in
    let arm = c.in-Ok-Line in
    let found = rw (← c.self-2.view_is) at (rw arm.field-0-is at arm.ensures.found) in
    let going = goes_on _ c.self.inside c.self.view_is c.if-self.false in
    let answers = IsNextLineCall-found c.args.self.now inside.buffer c.skip-from.new.self inside.octet_count inside.number arm.with_feed
    inside.ended inside.is_over _ _ found.octets_read going found.has_read found.read_if_needed c.self-2.invariant.0 c.self-2.invariant.1
    c.skip-from.ensures.rest c.skip-from.result arm.length c.slice.result c.skip-from.ensures.skipped c.slice.ensures found.outcome in (
      (refl, λ _. tt, answers),
      record {
        ends = tt;
        source_unchanged = source_unchanged _ _ _ going c.find_line.ensures.source_unchanged;
        asked = c.find_line.ensures.asked;
        failed = arm.ensures.counted;
      },
    )

pub returns-in-Ok-LineTooLong : goal.returns-in-Ok-LineTooLong
returns-in-Ok-LineTooLong g c =
    let found = rw (← c.self-2.view_is) at (rw c.in-Ok-LineTooLong.field-0-is at c.in-Ok-LineTooLong.ensures.found) in
    let going = goes_on _ c.self.inside c.self.view_is c.if-self.false in (
      (
        refl,
        λ _. tt,
        IsNextLineCall-stopped going (valid c.self-2.inside c.self-2.invariant) found found.outcome.0 (λ held. (held, found.outcome.1)),
      ),
      record {
        ends = tt;
        source_unchanged = source_unchanged _ _ _ going c.find_line.ensures.source_unchanged;
        asked = c.find_line.ensures.asked;
        failed = c.in-Ok-LineTooLong.ensures.counted;
      },
    )

pub returns-in-Ok-PastInputLimit : goal.returns-in-Ok-PastInputLimit
returns-in-Ok-PastInputLimit g c =
    let found = rw (← c.self-2.view_is) at (rw c.in-Ok-PastInputLimit.field-0-is at c.in-Ok-PastInputLimit.ensures.found) in
    let going = goes_on _ c.self.inside c.self.view_is c.if-self.false in (
      (
        refl,
        λ _. tt,
        IsNextLineCall-stopped going (valid c.self-2.inside c.self-2.invariant) found found.outcome.0
            (λ held. (held, found.outcome.1.0, found.outcome.1.1)),
      ),
      record {
        ends = tt;
        source_unchanged = source_unchanged _ _ _ going c.find_line.ensures.source_unchanged;
        asked = c.find_line.ensures.asked;
        failed = c.in-Ok-PastInputLimit.ensures.counted;
      },
    )

pub returns-in-Err : goal.returns-in-Err
returns-in-Err g c =
    let found = rw (← c.self-2.view_is) at c.in-Err.ensures.found in
    let going = goes_on _ c.self.inside c.self.view_is c.if-self.false in (
      (
        refl,
        λ _. tt,
        IsNextLineCall-stopped going (valid c.self-2.inside c.self-2.invariant) found found.outcome.no_line_feed (λ held. (
          held,
          record {
            no_line_feed = found.outcome.no_line_feed;
            in_limit = found.outcome.in_limit;
            excess = found.outcome.excess;
            ended = found.outcome.ended;
          },
        )),
      ),
      record {
        ends = tt;
        source_unchanged = source_unchanged _ _ _ going c.find_line.ensures.source_unchanged;
        asked = c.find_line.ensures.asked;
        failed = (c.in-Err.ensures.cause, c.in-Err.ensures.later);
      },
    )

pub returns-then-self : goal.returns-then-self
returns-then-self g c =
    let is_over = sym (ap (λ (s : ReaderState). s.is_over) c.self.view_is) ∙ c.if-self.true in
    let reading = subst IsValidReader c.self.view_is (valid c.self.inside c.self.invariant) in (
      (
        refl,
        λ _. tt,
        record {
          valid = reading;
          already_stopped = λ _. (refl, tt, search rules);
          not_stopped = λ going. cc (is_over, going);
        },
      ),
      record {
        ends = tt;
        source_unchanged = λ _. refl {a = c.args.source.now};
        asked = asked-none g.S.Source.is_call c.args.source.now;
        failed = refl {a = g.S.Source.faults c.args.source.now};
      },
    )
