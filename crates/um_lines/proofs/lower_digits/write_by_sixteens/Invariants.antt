use Rattle.{std.proofs.Common.{length, ℕ, ◌+◌, ◌-◌, ◌<◌, ◌≡◌, ◌≤◌}, um_lines.specs.HexPlaces.HasDigitsOfOctet}
use Rattle.um_lines.proofs.lower_digits.write_by_sixteens.Given as goal

-- the digits of all octets before index `at` are written
abbrev pub invariant-loop-at : goal.invariant-loop-at
invariant-loop-at l = (length l.digits ≡ length l.initial.digits) × ((k : ℕ) → k < l.at → HasDigitsOfOctet l.octets l.digits k)
    × (l.at ≤ length l.octets) × (l.last + 16 ≡ length l.octets)

abbrev pub decreases-loop-at : goal.decreases-loop-at
decreases-loop-at l = l.last - l.at
