use Rattle.um_c.proofs.OneLink.{both}
use Rattle.um_c.proofs.faults.fault_at.Goals as goal

pub returns-in-Some-Zero : goal.returns-in-Some-Zero
returns-in-Some-Zero c s h =
    rw (c.in-Some-Zero.is, rw c.in-Some-Zero.is at c.in-Some-Zero.field-0-is)
    (c.link_fault.ensures s.link0 (both c.args.data_link.now s h).link0)

pub returns-in-Some-Three : goal.returns-in-Some-Three
returns-in-Some-Three c s h =
    rw (c.in-Some-Three.is, rw c.in-Some-Three.is at c.in-Some-Three.field-0-is)
    (c.link_fault-in-Some-Three.ensures s.link3 (both c.args.data_link.now s h).link3)
