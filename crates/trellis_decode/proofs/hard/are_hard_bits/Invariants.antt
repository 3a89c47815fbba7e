use Rattle.{std.{proofs.Common.{take, IsTrue}, specs.List.All}, trellis_decode.specs.Hard.IsHardBit}
use Rattle.trellis_decode.proofs.hard.are_hard_bits.Given as goal

-- the soft bits read so far are hard, or `all` is false
abbrev pub invariant-loop-value : goal.invariant-loop-value
invariant-loop-value l = IsTrue l.all → All IsHardBit (take l.value-index l.soft)
