use Rattle.std.{proofs.Common.{take, ◌≡◌, ◌≤◌}, specs.{List.count_by, Prelude.{◌==◌}}}
use Rattle.um_traffic.proofs.collecting.heard_bursts.Given as goal

abbrev pub invariant-loop-times : goal.invariant-loop-times
invariant-loop-times l =
    (l.heard ≡ count_by (λ times. times == 2) (take l.times-index l.came)) × (l.heard ≤ l.times-index)
