use Rattle.um_slot.proofs.Recordings.{each_reported_once}
use Rattle.um_slot.proofs.laws.law_each_block_is_reported_once.Goals as goal

pub returns : goal.returns
returns c = each_reported_once
