use Rattle.{std.proofs.Common.{◌≡◌, ◌-◌, ◌<◌}, um_erasing.specs.Erasing.index_of_greatest}
use Rattle.um_erasing.proofs.facch.index_of_greatest_below.Given as goal

abbrev pub invariant-loop-index : goal.invariant-loop-index
invariant-loop-index l = (l.greatest ≡ index_of_greatest (l.index - 1) l.numbers) × (l.greatest < l.index)
