-- The list of messages that a window holds.
use Rattle.std.specs.Prelude.{List}
use Rattle.segmenting.specs.Segments.{Message}

-- the messages that a window holds, in the order in which layer 3 sent them
pub record HeldMessages : Type 0 where
  pub items : List Message
