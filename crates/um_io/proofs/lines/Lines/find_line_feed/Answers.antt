use Rattle.{
  std.proofs.{Common.◌-◌, lemmas.List.Elements.All-take},
  um_io.{specs.{Lines.IsNotLineFeed, Buffer.octets_of, Reading.input_limit}, proofs.LineFeeds.IsLine-before_feed},
}
use Rattle.um_io.proofs.lines.Lines.find_line_feed.Goals as goal

pub returns-in_default-clause-found : goal.returns-in_default-clause-found
returns-in_default-clause-found c =
    rw (← c.self.view_is) (IsLine-before_feed (octets_of c.self.inside.buffer) (input_limit - c.self.inside.octet_count) c.in-Some.at
    c.in-Some.ensures.found c.if-at-left.false)

pub returns-in_default-2-clause-found : goal.returns-in_default-2-clause-found
returns-in_default-2-clause-found c =
    rw (← c.self.view_is) (All-take IsNotLineFeed (input_limit - c.self.inside.octet_count) (octets_of c.self.inside.buffer)
    c.in_default.ensures.found)
