use Rattle.{std.proofs.{Common.arith, lemmas.List.take_all}, burst_map.proofs.Lemmas.take-slice_range}
use Rattle.burst_map.proofs.sync_burst.SyncView.new.Goals as goal

pub returns-clause-whole : goal.returns-clause-whole
returns-clause-whole c =
    let burst = c.args.burst.now in
    let to_first = take-slice_range burst 3 42 (omega arith) in
    let to_training = take-slice_range burst 42 106 (omega arith) in
    let to_second = take-slice_range burst 106 145 (omega arith) in
    let to_tail = take-slice_range burst 145 148 (omega arith) in
    let all = take_all 148 burst (omega arith) in
    cc
