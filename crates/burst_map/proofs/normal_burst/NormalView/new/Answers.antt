use Rattle.{std.proofs.{Common.arith, lemmas.List.take_all}, burst_map.proofs.Lemmas.take-slice_range}
use Rattle.burst_map.proofs.normal_burst.NormalView.new.Goals as goal

pub returns-clause-whole : goal.returns-clause-whole
returns-clause-whole c =
    let burst = c.args.burst.now in
    let to_first = take-slice_range burst 3 60 (omega arith) in
    let to_lower = take-slice_range burst 60 61 (omega arith) in
    let to_training = take-slice_range burst 61 87 (omega arith) in
    let to_upper = take-slice_range burst 87 88 (omega arith) in
    let to_second = take-slice_range burst 88 145 (omega arith) in
    let to_tail = take-slice_range burst 145 148 (omega arith) in
    let all = take_all 148 burst (omega arith) in
    cc
