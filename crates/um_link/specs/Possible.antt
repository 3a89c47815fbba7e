-- The events that a world can carry out: the indices of bits to invert must be in range.
use Rattle.um_link.specs.declared.events.Event.{Event}
use Rattle.um_link.specs.declared.events.Event.TheVariants as T
use Rattle.um_link.specs.declared.events.Air.{Air}
use Rattle.um_link.specs.declared.events.Air.TheVariants as V
use Rattle.um_link.specs.Queues.{AreBitIndices}

-- all bits to invert are bits of a block, 0 to 591
abbrev pub IsPossibleAirEvent : Air → Type 0
IsPossibleAirEvent (V.Flip places) = AreBitIndices places.now
IsPossibleAirEvent air = Unit {0}

-- if the event inverts bits, all of them are bits of a block, 0 to 591
abbrev pub IsPossibleEvent : Event → Type 0
IsPossibleEvent (T.Air way air) = IsPossibleAirEvent air
IsPossibleEvent event = Unit {0}
