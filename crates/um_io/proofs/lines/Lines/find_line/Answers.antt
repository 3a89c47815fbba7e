use Rattle.{
  std.proofs.{Common.{rules, ◌≡◌, sym, ap, subst, arith, refl}, lemmas.Grind.common_steps},
  um_io.{specs.Reading.NeedsMoreOctets, proofs.Reader.{so_far-none, asked-once, reads_left, reads_left-read}},
}
use Rattle.um_io.proofs.lines.Lines.find_line.Goals as goal

pub loop-found-init : goal.loop-found-init
loop-found-init g c =
    (search rules, search rules, refl, so_far-none g.S.Source.is_call c.args.source.now c.args.self.now.ended)

pub loop-found-preserved : goal.loop-found-preserved
loop-found-preserved g c =
    let once = c.in_ok-read.ensures.asked in (
      grind (arith, common_steps),
      grind arith,
      search rules,
      asked-once g.S.Source.is_call c.args.source.now c.loop-found.source c.read.new.source c.loop-found.self.ended c.read.new.self.ended
          once.0 c.loop-found.invariant.3 c.in_default.ensures.found.ended once.1 once.2,
    )

pub loop-found-smaller : goal.loop-found-smaller
loop-found-smaller g c =
    let known = c.in_ok-read.ensures in
    let more = subst NeedsMoreOctets (sym c.find_in_held_octets.ensures.unchanged) c.in_default.ensures.found in
    let fewer =
    reads_left-read _ _ _ _ known.read.0 more known.read.1 known.read.2 known.valid in
    let same : reads_left c.find_in_held_octets.new.self ≡ reads_left c.loop-found.self = ap reads_left
    c.find_in_held_octets.ensures.unchanged in
    omega arith
