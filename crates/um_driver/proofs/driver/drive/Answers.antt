use Rattle.um_driver.proofs.Runs.{without_memory, EndsAsPrescribed-from_run}
use Rattle.um_driver.proofs.driver.drive.Goals as goal

pub returns-in-Ok-clause-due : goal.returns-in-Ok-clause-due
returns-in-Ok-clause-due g c = EndsAsPrescribed-from_run _ c.answer_all_lines.ensures.table

pub returns-in-Err-clause-table : goal.returns-in-Err-clause-table
returns-in-Err-clause-table g c = without_memory _ _ _ _ _ c.requires
