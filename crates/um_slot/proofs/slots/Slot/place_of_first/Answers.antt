use Rattle.std.proofs.Common.{ap, ◌∙◌}
use Rattle.um_slot.proofs.Firsts.{first_place}
use Rattle.um_slot.specs.Slots.{block_of_frame}
use Rattle.um_slot.proofs.slots.Slot.place_of_first.Goals as goal

pub returns : goal.returns
returns c =
    let its = rw c.in-Some.is at c.requires.place in
    first_place c.args.combination c.args.direction c.args.self.now.timeslot its.0 c.in-Some.place c.requires.timeslot its.1
    ∙ ap (block_of_frame c.args.combination c.args.direction c.args.self.now.timeslot) c.if-place-self.true
