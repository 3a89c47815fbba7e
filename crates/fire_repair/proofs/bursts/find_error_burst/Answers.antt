use Rattle.{std.proofs.Common.{◌-◌, arith}, fire_repair.proofs.RepairResults.{searched_here, searched_more}}
use Rattle.fire_repair.proofs.bursts.find_error_burst.Goals as goal

pub loop-start-preserved : goal.loop-start-preserved
loop-start-preserved c = searched_more (c.loop-start.start - 1) c.loop-start.invariant (omega arith) c.if-register-eq0.false

pub returns-then-register-eq0 : goal.returns-then-register-eq0
returns-then-register-eq0 c =
    let says = searched_here (c.loop-start.start - 1) c.loop-start.invariant (omega arith) c.if-register-eq0.true in
    record { start = says.0; shape = says.1; leaves = says.2; none = λ same. cc }

pub returns-clause-none : goal.returns-clause-none
returns-clause-none c _ start shape room small = c.loop-start.invariant.none start shape (omega arith) room small
