-- A message in a buffer of 255 octets.
use Rattle.std.specs.Prelude.{ℕ, ◌-◌, List, ◌++◌, length, take, replicate}
use Rattle.segmenting.specs.declared.buffers.MessageBuffer.{MessageBuffer}

-- the octets of the message in a buffer: the first `count` octets of the buffer
abbrev pub octets_in_buffer : MessageBuffer → List ℕ
octets_in_buffer m = take m.count m.octets

-- a buffer that holds the given octets, followed by zeros
abbrev pub message_buffer : (octets : List ℕ) → MessageBuffer
message_buffer octets = record { count = length octets; octets = octets ++ replicate (255 - length octets) 0 }
