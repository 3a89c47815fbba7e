use Rattle.{std.proofs.Common.{inl, refl}, um_driver.proofs.Runs.last_written}
use Rattle.um_driver.proofs.driver.write_final_output.Goals as goal

pub returns-in-Ok-clause-last_write : goal.returns-in-Ok-clause-last_write
returns-in-Ok-clause-last_write g c =
    last_written c.args.status _ _ _ _ c.in_default.not-ReadFault (inl (refl, rw c.octets.ensures.value at c.in-Ok.ensures.taken))
