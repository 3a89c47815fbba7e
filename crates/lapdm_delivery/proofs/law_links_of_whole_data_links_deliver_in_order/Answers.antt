use Rattle.lapdm_delivery.proofs.Lockstep.{links_deliver, links_count, links_order}
use Rattle.lapdm_delivery.proofs.law_links_of_whole_data_links_deliver_in_order.Goals as goal

pub returns : goal.returns
returns c = record { delivery = links_deliver; acked_at_most_delivered = links_count; order = links_order }
