use Rattle.lapdm_delivery.proofs.Runs.{link_delivers, link_counts, link_order}
use Rattle.lapdm_delivery.proofs.law_links_of_data_links_deliver_in_order.Goals as goal

pub returns : goal.returns
returns c = record { delivery = link_delivers; acked_at_most_delivered = link_counts; order = link_order }
