use Rattle.lapdm_link.proofs.Sessions.{claims_with_replaced, counts_with_replaced}
use Rattle.lapdm_link.proofs.law_frames_may_be_replaced.Goals as goal

pub returns : goal.returns
returns c = record { delivery = claims_with_replaced; acked_at_most_delivered = counts_with_replaced }
