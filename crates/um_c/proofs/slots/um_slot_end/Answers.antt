use Rattle.std.proofs.Common.{Err, None, Ok, Some, refl}
use Rattle.um_c.specs.SlotCalls.{no_bursts}
use Rattle.um_c.proofs.slots.um_slot_end.Goals as goal

pub returns-in-Ok-Some : goal.returns-in-Ok-Some
returns-in-Ok-Some c = record {
  result = Ok (Some c.in-Ok-Some.finished);
  ends = rw c.in-Ok-Some.field-0-is at (c.in-Ok-Some.ensures.ends no_bursts);
  answers = (refl, c.write_block.ensures);
}

pub returns-in-Ok-None : goal.returns-in-Ok-None
returns-in-Ok-None c = record {
  result = Ok None;
  ends = rw c.in-Ok-None.field-0-is at (c.in-Ok-None.ensures.ends no_bursts);
  answers = (refl, refl);
}

pub returns-in-Err : goal.returns-in-Err
returns-in-Err c = record {
  result = Err c.in-Err.refusal;
  ends = c.in-Err.ensures.ends no_bursts;
  answers = (c.slot_refusal_number.ensures, refl);
}
