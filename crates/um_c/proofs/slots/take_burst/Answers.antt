use Rattle.{
  std.proofs.Common.{Err, None, Ok, Some, refl, sym, ◌∙◌},
  um_c.specs.SlotCalls.{no_bursts},
  um_slot.proofs.Taking.{took_ended, took_err, took_none},
  um_slot.specs.Slots.{frame_refusal, settings_of},
}
use Rattle.um_c.proofs.slots.take_burst.Goals as goal

pub returns-in-Err : goal.returns-in-Err
returns-in-Err c = record {
  result = Err c.in-Err.refusal;
  done = no_bursts;
  takes = took_err c.args.slot.now c.args.frame c.args.came c.args.burst.now no_bursts (settings_of c.args.slot.now)
      (frame_refusal c.args.slot.now c.args.frame) c.in-Err.refusal c.accept.new.self (c.in-Err.ensures.accepts no_bursts);
  answers = (c.slot_refusal_number.ensures, refl);
}

pub returns-in-Some : goal.returns-in-Some
returns-in-Some c = record {
  result = Ok c.put.result;
  done = c.accept.new.self.bursts;
  takes = took_ended c.args.slot.now c.args.frame c.args.came c.args.burst.now no_bursts c.in-Ok.accepted c.accept.new.self c.put.new.self
      c.put.result c.put.ensures.slot c.put.ensures.finished (settings_of c.args.slot.now) (frame_refusal c.args.slot.now c.args.frame)
      c.in-Some.finished c.in-Some.is (c.in-Ok.ensures.accepts no_bursts);
  answers = rw (c.put.ensures.ended (rw c.in-Some.is search) ∙ c.in-Some.is) (refl, c.write_block.ensures);
}

pub returns-in-Some-put : goal.returns-in-Some-put
returns-in-Some-put c = record {
  result = Ok (Some c.in-Some-put.finished);
  done = c.put-in-None.new.self.bursts;
  takes = took_none c.args.slot.now c.args.frame c.args.came c.args.burst.now no_bursts c.in-Ok.accepted c.accept.new.self
      c.put-in-None.new.self (Some c.in-Some-put.finished) c.in-Some-put.ensures.slot c.in-Some-put.ensures.finished
      (settings_of c.args.slot.now) (frame_refusal c.args.slot.now c.args.frame) c.put-in-None.new.self.bursts c.in-None.is
      (c.in-Ok.ensures.accepts no_bursts) (sym (c.in-Some-put.ensures.done c.in-None.is no_bursts));
  answers = (refl, c.write_block-in-Some-put.ensures);
}

pub returns-in-None-put : goal.returns-in-None-put
returns-in-None-put c = record {
  result = Ok None;
  done = no_bursts;
  takes = took_none c.args.slot.now c.args.frame c.args.came c.args.burst.now no_bursts c.in-Ok.accepted c.accept.new.self
      c.put-in-None.new.self None c.in-None-put.ensures.slot c.in-None-put.ensures.finished
      (settings_of c.args.slot.now) (frame_refusal c.args.slot.now c.args.frame) no_bursts c.in-None.is
      (c.in-Ok.ensures.accepts no_bursts) (sym (c.in-None-put.ensures.done c.in-None.is no_bursts));
  answers = (refl, refl);
}
