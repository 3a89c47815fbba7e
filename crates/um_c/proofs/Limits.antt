-- What is tried where a limit is set.
use Rattle.std.proofs.Common.{List, arith, ℕ, ◌≤◌}
use Rattle.um_c.specs.SlotCalls.{tried}

pub least_tried : (limit : ℕ) (wrong : List ℕ) (most : ℕ) → 1 ≤ most → 1 ≤ tried limit wrong most 1
least_tried limit wrong most least = grind arith
