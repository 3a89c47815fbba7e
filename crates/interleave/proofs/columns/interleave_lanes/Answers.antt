use Rattle.{std.proofs.Common.{◌+◌, ◌*◌, ◌/◌, ◌%◌, ◌++◌}, interleave.proofs.PackedColumns.get_or-picked}
use Rattle.interleave.proofs.columns.interleave_lanes.Goals as goal

pub returns-clause-each : goal.returns-clause-each
returns-clause-each c = get_or-picked (λ i. i / 2 + 16 * (i % 2)) 32 (c.args.first ++ c.args.second)
