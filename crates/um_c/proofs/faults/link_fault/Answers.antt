use Rattle.std.proofs.Common.{◌∙◌, ap, sym}
use Rattle.um_c.specs.FaultCalls.{fault_number}
use Rattle.um_c.proofs.OneLink.{view_represents}
use Rattle.um_c.proofs.faults.link_fault.Goals as goal

pub returns-in-None : goal.returns-in-None
returns-in-None c l h = absurd (cc (sym h.decoded ∙ c.in-None.ensures))

pub returns-in-Some : goal.returns-in-Some
returns-in-Some c l h =
    c.fault_number.ensures ∙ ap fault_number (c.fault_of.ensures l (view_represents c.args.c_struct.now _ l c.in-Some.ensures h))
