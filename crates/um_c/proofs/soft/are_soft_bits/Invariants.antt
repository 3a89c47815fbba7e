use Rattle.std.{proofs.Common.{◌≡◌, ◌≤ℤ◌, All, take, fold, pos}, specs.Int.int_min}
use Rattle.um_c.proofs.soft.are_soft_bits.Given as goal

-- `least` is the minimum of 0 and the values read so far, none of which exceeds 127
abbrev pub invariant-loop-value : goal.invariant-loop-value
invariant-loop-value l =
    (l.least ≡ fold int_min (pos 0) (take l.value-index l.values)) × All (λ value. value ≤ℤ pos 127) (take l.value-index l.values)
