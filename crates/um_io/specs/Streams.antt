-- How sources and sinks count failures, and how many octets a sink takes (this project's own rules).
use Rattle.std.specs.Prelude.{ℕ, ◌≤◌, ◌<◌, ◌+◌, ◌-◌, ◌^◌, min, List, length, IfOk, Result}

-- a failure count plus one, at most the maximum of `u64`
abbrev pub next_failure_count : (failures : ℕ) → ℕ
next_failure_count n = min (n + 1) (2 ^ 64 - 1)

-- a failure count has risen, or was already at its maximum
abbrev pub FailureCountRose : (before now : ℕ) → Type 0
FailureCountRose before now = next_failure_count before ≤ now

-- a successful write takes at least one octet, unless the piece is empty
abbrev pub TakesAtLeastOneOctet : {E : Type 0} (result : Result ℕ E) (piece : List ℕ) → Type 0
TakesAtLeastOneOctet r piece = IfOk r (λ n. 0 < length piece → 0 < n)
