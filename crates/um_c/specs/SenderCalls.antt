-- What the calls of a sender of a traffic channel answer.
use Rattle.std.specs.Prelude.{ℕ}
use Rattle.um_traffic.specs.declared.senders.Sending.{Sending}
use Rattle.um_traffic.specs.declared.senders.Sending.TheVariants.{Burst, Silence, Unplaced, Invalid, NoFrame, Late}

-- the number in the C API for what a sender answers
abbrev pub sending_number : Sending → ℕ
sending_number Burst = 0
sending_number Silence = 1
sending_number Unplaced = 2
sending_number Invalid = 3
sending_number NoFrame = 4
sending_number Late = 5
