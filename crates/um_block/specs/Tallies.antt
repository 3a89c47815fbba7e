-- The counters of blocks that a radio has sent and received (this project's own rule).
use Rattle.std.specs.Prelude.{ℕ, zero, suc, ◌+◌, ◌-◌, ◌^◌, min}

-- a counter plus one; counters saturate at 2^64 - 1
abbrev pub counter_plus_one : (counter : ℕ) → ℕ
counter_plus_one n = min (n + 1) (2 ^ 64 - 1)

-- a counter after a given number of increments
abbrev pub counter_plus : (increment counter : ℕ) → ℕ
counter_plus zero n = n
counter_plus (suc k) n = counter_plus_one (counter_plus k n)
