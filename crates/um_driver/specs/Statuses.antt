-- The exit statuses of a run (this project's own rule).
use Rattle.std.specs.Prelude.{ℕ}
use Rattle.um_driver.specs.declared.status.Status.{Status}
use Rattle.um_driver.specs.declared.status.Status.TheVariants.{Done, BadWords, BadInput, ReadFault, WriteFault, NoMemory, TooLong}

-- the program's exit status as a number
abbrev pub status_number : Status → ℕ
status_number Done = 0
status_number BadWords = 2
status_number BadInput = 3
status_number ReadFault = 4
status_number WriteFault = 5
status_number NoMemory = 6
status_number TooLong = 7
