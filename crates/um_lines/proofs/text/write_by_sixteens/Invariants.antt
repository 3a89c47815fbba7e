use Rattle.{std.proofs.Common.{length, ◌+◌, ◌-◌, ◌≡◌, ◌≤◌}, um_lines.proofs.Texts.AreWritten}
use Rattle.um_lines.proofs.text.write_by_sixteens.Given as goal

abbrev pub invariant-loop-at : goal.invariant-loop-at
invariant-loop-at l =
    AreWritten l.bits l.at l.digits × (l.at ≤ length l.bits) × (l.last + 16 ≡ length l.bits)

abbrev pub decreases-loop-at : goal.decreases-loop-at
decreases-loop-at l = l.last - l.at
