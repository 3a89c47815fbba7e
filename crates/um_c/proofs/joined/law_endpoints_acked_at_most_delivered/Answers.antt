use Rattle.um_c.{proofs.Sessions.counts_from, specs.Joined.DeliversOldestBlock}
use Rattle.um_c.proofs.joined.law_endpoints_acked_at_most_delivered.Goals as goal

pub returns : goal.returns
returns c = λ channel a z turns h run.
    counts_from (Unit {0}) DeliversOldestBlock channel (λ sound a turn delivers. delivers) a z turns h run tt
