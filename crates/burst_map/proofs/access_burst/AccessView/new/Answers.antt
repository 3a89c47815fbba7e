use Rattle.{std.proofs.{Common.arith, lemmas.List.take_all}, burst_map.proofs.Lemmas.take-slice_range}
use Rattle.burst_map.proofs.access_burst.AccessView.new.Goals as goal

pub returns-clause-whole : goal.returns-clause-whole
returns-clause-whole c =
    let burst = c.args.burst.now in
    let to_training = take-slice_range burst 8 49 (omega arith) in
    let to_body = take-slice_range burst 49 85 (omega arith) in
    let to_tail = take-slice_range burst 85 88 (omega arith) in
    let all = take_all 88 burst (omega arith) in
    cc
