use Rattle.{std.proofs.Common.{All, ◌≡◌, ◌+◌, ◌*◌, ◌++◌, length, take}, um_end.specs.EndRuns.burst_lines_of_frames}
use Rattle.um_end.proofs.command.push_block_lines.Given as goal

-- the text contains the burst lines of all frames before the current one, each of which has 23 octets
abbrev pub invariant-loop-octets : goal.invariant-loop-octets
invariant-loop-octets l =
    (l.out ≡ l.initial.out ++ burst_lines_of_frames l.terminal.tsc (take l.octets-index l.frames))
    × (length l.out ≡ length l.initial.out + 604 * l.octets-index)
    × All (λ octets. length octets ≡ 23) (take l.octets-index l.frames)
