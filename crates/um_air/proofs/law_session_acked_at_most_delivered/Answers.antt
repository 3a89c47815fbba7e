use Rattle.um_air.proofs.Lemmas.{air_counts}
use Rattle.um_air.proofs.law_session_acked_at_most_delivered.Goals as goal

pub returns : goal.returns
returns c = air_counts
