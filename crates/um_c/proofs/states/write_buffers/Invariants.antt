use Rattle.{
  std.proofs.Common.{◌≡◌, map, take},
  um_air.specs.segmenting.Buffers.octets_in_buffer,
  um_c.specs.States.buffers_of_messages,
}
use Rattle.um_c.proofs.states.write_buffers.Given as goal

abbrev pub invariant-loop-i : goal.invariant-loop-i
invariant-loop-i l = l.buffers ≡ buffers_of_messages 8 (map octets_in_buffer (take l.i l.messages))
