use Rattle.um_end.proofs.EndLineLaws.{end_parsed}
use Rattle.um_end.proofs.lines.parse_end.Goals as goal

pub returns-then-begins_with_own_endpoint_name : goal.returns-then-begins_with_own_endpoint_name
returns-then-begins_with_own_endpoint_name c =
    let all = end_parsed _ _ c.args.line.now _ (rw c.if-branch.false at c.in_ok-skips_line.ensures.value) c.parse_call_line.ensures in
    record { means = all.0; refused = all.1; possible = all.2 }

pub returns-else-begins_with_own_endpoint_name : goal.returns-else-begins_with_own_endpoint_name
returns-else-begins_with_own_endpoint_name c =
    let all = end_parsed _ _ c.args.line.now _ (rw c.if-branch.false at c.in_ok-skips_line.ensures.value) c.parse_burst_line.ensures in
    record { means = all.0; refused = all.1; possible = all.2 }
