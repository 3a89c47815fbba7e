use Rattle.lapdm_datalink.proofs.Lemmas.{slot_owing_none, slot_keeping_back}
use Rattle.lapdm_datalink.proofs.links.Link.slot.Goals as goal

pub returns-in_default-clause-represents : goal.returns-in_default-clause-represents
returns-in_default-clause-represents c l h =
    rw (slot_owing_none c.args.self.now l h c.in_default.is) (c.send_due_frame.ensures.represents l h)

pub returns-then-keeps_back-clause-represents : goal.returns-then-keeps_back-clause-represents
returns-then-keeps_back-clause-represents c l h =
    rw (slot_keeping_back c.args.self.now l c.in-Some.block c.keeps_back.result h c.in-Some.is c.keeps_back.ensures c.if-keeps_back.true)
    (c.send_due_frame-then-keeps_back.ensures.represents l h)

pub returns-in_default-clause-block : goal.returns-in_default-clause-block
returns-in_default-clause-block c l h =
    rw (slot_owing_none c.args.self.now l h c.in_default.is) (c.send_due_frame.ensures.block l h)

pub returns-then-keeps_back-clause-block : goal.returns-then-keeps_back-clause-block
returns-then-keeps_back-clause-block c l h =
    rw (slot_keeping_back c.args.self.now l c.in-Some.block c.keeps_back.result h c.in-Some.is c.keeps_back.ensures c.if-keeps_back.true)
    (c.send_due_frame-then-keeps_back.ensures.block l h)

pub returns-in_default-clause-gave_up : goal.returns-in_default-clause-gave_up
returns-in_default-clause-gave_up c l h =
    rw (slot_owing_none c.args.self.now l h c.in_default.is) (c.send_due_frame.ensures.gave_up l h)

pub returns-then-keeps_back-clause-gave_up : goal.returns-then-keeps_back-clause-gave_up
returns-then-keeps_back-clause-gave_up c l h =
    rw (slot_keeping_back c.args.self.now l c.in-Some.block c.keeps_back.result h c.in-Some.is c.keeps_back.ensures c.if-keeps_back.true)
    (c.send_due_frame-then-keeps_back.ensures.gave_up l h)
