use Rattle.{
  std.proofs.Common.{◌≡◌, ◌⊎◌, ℕ, List},
  um_io.{specs.Reading.NeedsMoreOctets, proofs.Reader.{AskedSoFar, IsFinding, reads_left}},
}
use Rattle.um_io.proofs.lines.Lines.find_line.Given as goal

abbrev pub invariant-loop-found : goal.invariant-loop-found
invariant-loop-found g l =
    ((came : List ℕ) × IsFinding l.initial.self l.self (g.S.Source.left l.initial.source) (g.S.Source.left l.source) came)
    × (NeedsMoreOctets l.initial.self ⊎ ((l.self ≡ l.initial.self) × (l.source ≡ l.initial.source)))
    × (g.S.Source.faults l.source ≡ g.S.Source.faults l.initial.source)
    × AskedSoFar g.S.Source.is_call l.initial.source l.source l.self.ended

abbrev pub decreases-loop-found : goal.decreases-loop-found
decreases-loop-found g l = reads_left l.self
