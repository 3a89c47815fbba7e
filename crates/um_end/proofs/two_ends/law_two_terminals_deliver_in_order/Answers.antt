use Rattle.um_end.proofs.TwoTerminals.{two_terminals-claims, two_terminals-counts, two_terminals-order}
use Rattle.um_end.proofs.two_ends.law_two_terminals_deliver_in_order.Goals as goal

pub returns : goal.returns
returns c = record { delivery = two_terminals-claims; acked_at_most_delivered = two_terminals-counts; order = two_terminals-order }
