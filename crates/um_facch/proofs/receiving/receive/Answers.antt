use Rattle.{
  half_bursts.proofs.Halves.{IsBurst, IsBurst-joined},
  std.{proofs.Common.{arith, pos, subst, sym}, specs.List.All},
  um_facch.proofs.{Lemmas.{clean, one_received, restored}, receiving.receive.Goals.After-receive_carried},
}
use Rattle.um_facch.proofs.receiving.receive.Goals as goal

rows : (c : After-receive_carried) → All IsBurst c.join.result
rows c = subst (All IsBurst) (sym c.join.ensures.value) (IsBurst-joined (pos 0) c.args.bursts.now)

pub returns-clause-only : goal.returns-clause-only
returns-clause-only c other is = one_received c.args.bursts.now other c.receive_carried.result is c.receive_carried.ensures.received

pub returns-clause-clean : goal.returns-clause-clean
returns-clause-clean c octets tsc old sent is same =
    let received = c.receive_carried.ensures.received in
    clean c.join.result c.args.bursts.now c.receive_carried.result (omega arith) (rows c) received
    (c.join.ensures.only received.soft received.carried) octets tsc old sent is c.requires.at_least c.requires.at_most same
    c.join.ensures.value

pub returns-clause-restores : goal.returns-clause-restores
returns-clause-restores c octets d soft code carried damage =
    let received = c.receive_carried.ensures.received in
    restored c.join.result c.args.bursts.now c.receive_carried.result (omega arith) (rows c) received
    (c.join.ensures.only received.soft received.carried) octets d soft code (c.join.ensures.only soft carried) damage
