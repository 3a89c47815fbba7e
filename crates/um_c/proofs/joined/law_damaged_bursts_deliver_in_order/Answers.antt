use Rattle.um_c.{proofs.Sessions.{claims_from, counts_from, heard}, specs.Joined.ReceivesOldestBlock}
use Rattle.um_c.proofs.joined.law_damaged_bursts_deliver_in_order.Goals as goal

pub returns-clause-delivery : goal.returns-clause-delivery
returns-clause-delivery c = λ channel a z turns h run.
    claims_from (Unit {0}) ReceivesOldestBlock channel (λ sound. heard channel) a z turns h run tt

pub returns-clause-counts : goal.returns-clause-counts
returns-clause-counts c = λ channel a z turns h run.
    counts_from (Unit {0}) ReceivesOldestBlock channel (λ sound. heard channel) a z turns h run tt
