use Rattle.{
  um_block.proofs.{
    ComputedReports.block_computed,
    ReceivedBursts.{IsReceivedAccess-received_access, IsReceivedSync-received_sync, received_access-only, received_block-only},
    ReceivedBursts.received_sync-only,
  },
}
use Rattle.um_block.proofs.laws.law_computed_reports_are_those_of_reception.Goals as goal

pub returns : goal.returns
returns c = record {
  block = block_computed;
  only_block = received_block-only;
  access = IsReceivedAccess-received_access;
  only_access = received_access-only;
  sync = IsReceivedSync-received_sync;
  only_sync = received_sync-only;
}
