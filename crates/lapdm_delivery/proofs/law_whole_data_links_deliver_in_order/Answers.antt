use Rattle.lapdm_delivery.proofs.Lockstep.{delivers, counts, in_order}
use Rattle.lapdm_delivery.proofs.law_whole_data_links_deliver_in_order.Goals as goal

pub returns : goal.returns
returns c = record { delivery = delivers; acked_at_most_delivered = counts; order = in_order }
