use Rattle.lapdm_delivery.proofs.Runs.{data_links_deliver, data_links_count, data_links_order}
use Rattle.lapdm_delivery.proofs.law_data_links_deliver_in_order.Goals as goal

pub returns : goal.returns
returns c = record { delivery = data_links_deliver; acked_at_most_delivered = data_links_count; order = data_links_order }
