use Rattle.um_traffic.proofs.Recordings.{each_reported_once}
use Rattle.um_traffic.proofs.laws.law_each_facch_is_reported_once.Goals as goal

pub returns : goal.returns
returns c = each_reported_once
