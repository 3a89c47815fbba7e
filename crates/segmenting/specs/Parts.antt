-- The state of a joiner as plain data.
use Rattle.std.specs.Prelude.{◌≡◌, ℕ, List, take}
use Rattle.segmenting.specs.declared.joiner.ReassemblyState.{ReassemblyState}
use Rattle.segmenting.specs.declared.joiner.Joiner.{Joiner}

-- the data that a joiner holds: octets, and the part of a message that they form
pub record JoinerValues : Type 0 where
  pub octets : List ℕ
  pub part : ReassemblyState

-- the octets that a joiner holds, and which part of a message they are
abbrev pub values_of : Joiner → JoinerValues
values_of j = record { octets = take j.len j.octets; part = j.part }

-- some joiner can hold the given octets, which form the given part of a message
abbrev pub SomeJoinerHasValues : JoinerValues → Type 0
SomeJoinerHasValues x = (j : Joiner) × (values_of j ≡ x)
