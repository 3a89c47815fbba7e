use Rattle.lapdm_link.proofs.Sessions.{acked_at_most_delivered}
use Rattle.lapdm_link.proofs.law_lapdm_acked_at_most_delivered.Goals as goal

pub returns : goal.returns
returns c = acked_at_most_delivered
