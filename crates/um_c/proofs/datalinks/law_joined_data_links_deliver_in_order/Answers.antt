use Rattle.um_c.proofs.DataLinkRuns.{pair_delivers, pair_counts, pair_order, pair_links}
use Rattle.um_c.proofs.datalinks.law_joined_data_links_deliver_in_order.Goals as goal

pub returns : goal.returns
returns c = record { delivery = pair_delivers; acked_at_most_delivered = pair_counts; order = pair_order; links = pair_links }
