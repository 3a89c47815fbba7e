use Rattle.{
  std.proofs.{Common.{ap, arith, false, length, List, refl, sym, true, ℕ, ◌++◌, ◌≡◌, ◌≤◌}, lemmas.List.length-append},
  segmenting.proofs.{
    Lemmas.{goes_on, completes, taken_oversize, drops, written, HoldsReassemblyOf-same},
    joiner.Joiner.take.Goals.{then-more, else-more},
  },
}
use Rattle.segmenting.specs.declared.joiner.ReassemblyState.TheVariants as P
use Rattle.segmenting.proofs.joiner.Joiner.take.Goals as goal

pub returns-in_default-clause-after : goal.returns-in_default-clause-after
returns-in_default-clause-after c taken h =
    let over = c.in_default.ensures.place taken h in
    elim c.if-more.branch [
      | then-more w ↦ HoldsReassemblyOf-same _ _ _ taken _ _ _ (sym w.self-is) (sym w.if-more.true) (taken_oversize taken _ over)
      | else-more w ↦ HoldsReassemblyOf-same _ _ _ taken _ _ _ (sym w.self-is) (sym w.if-more.false) (drops taken _ over)
    ]

pub returns-then-more-2-clause-after : goal.returns-then-more-2-clause-after
returns-then-more-2-clause-after c taken h =
    let held = written c.in-Some.start c.args.piece.now taken c.args.self.now.octets c.copy_from_slice.new.self
    (omega arith) c.in-Some.ensures.space c.copy_from_slice.ensures.after (c.in-Some.ensures.place taken h) in
    HoldsReassemblyOf-same _ P.Open _ taken _ true _ refl (sym c.if-more-2.true)
    (goes_on taken _ _ held.held_is held.fits)

some_held : (partial octets held : List ℕ) → held ≡ partial ++ octets → 1 ≤ length octets → 1 ≤ length held
some_held partial octets held is some = omega (arith, ap length is, length-append partial octets)

pub returns-clause-after : goal.returns-clause-after
returns-clause-after c taken h =
    let held = written c.in-Some.start c.args.piece.now taken c.args.self.now.octets c.copy_from_slice.new.self
    (omega arith) c.in-Some.ensures.space c.copy_from_slice.ensures.after (c.in-Some.ensures.place taken h) in
    HoldsReassemblyOf-same _ P.Whole _ taken _ false _ refl (sym c.if-more-2.false)
    (completes taken _ _ held.held_is (some_held _ _ _ held.held_is c.requires.some) held.fits)
