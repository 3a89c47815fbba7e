use Rattle.{std.proofs.Common.{length, take, ◌*◌, ◌++◌, ◌+◌, ◌≡◌}, um_formats.specs.BurstTexts.bursts_text}
use Rattle.um_formats.proofs.bursts.push_block.Given as goal

-- `out` contains the lines of the bursts before this one
abbrev pub invariant-loop-burst : goal.invariant-loop-burst
invariant-loop-burst l =
    (l.out ≡ l.initial.out ++ bursts_text (take l.burst-index l.bursts)) × (length l.out ≡ length l.initial.out + 151 * l.burst-index)
