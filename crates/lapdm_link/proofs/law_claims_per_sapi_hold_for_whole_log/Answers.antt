use Rattle.lapdm_link.proofs.ByLink.{delivery_by_link, order_by_link, counts_by_link}
use Rattle.lapdm_link.proofs.law_claims_per_sapi_hold_for_whole_log.Goals as goal

pub returns : goal.returns
returns c = record { delivery = delivery_by_link; order = order_by_link; acked_at_most_delivered = counts_by_link }
