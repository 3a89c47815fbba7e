-- What a side keeps of its last answer, to say it once more in the next slot that is free.
use Rattle.std.specs.Prelude.{ℕ, false, List, replicate}
use Rattle.lapdm_frame.specs.declared.Channel.{Channel}
use Rattle.lapdm_frame.specs.Content.{Content, Frame, Rr}
use Rattle.lapdm_frame.specs.Frames.{octets_of}
use Rattle.lapdm_repeats.specs.declared.said.Said.{Said}

-- nothing waits to be said once more
abbrev pub nothing_said : Said
nothing_said = record { waits = 0; block = replicate 23 0 }

-- what waits after a frame with this content was sent: an RR with F = 0; one with F = 1 answers a poll, and a second one answers none
abbrev pub said_with : (channel : Channel) (f : Frame) (content : Content) → Said
said_with channel f (Rr nr false) = record { waits = 1; block = octets_of channel (record f { content = Rr nr false }) }
said_with channel f other = nothing_said

abbrev pub said_after : (channel : Channel) (f : Frame) → Said
said_after channel f = said_with channel f f.content
