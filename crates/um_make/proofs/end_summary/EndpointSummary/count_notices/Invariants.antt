use Rattle.{std.proofs.Common.{◌*◌, take}, um_make.specs.Counting.{CountsNotices, EndpointCountersGrowAtMost}}
use Rattle.um_make.proofs.end_summary.EndpointSummary.count_notices.Given as goal

abbrev pub invariant-loop-notice : goal.invariant-loop-notice
invariant-loop-notice l = record {
  counts : CountsNotices (take l.notice-index l.notices) l.initial.self l.self;
  most : EndpointCountersGrowAtMost (64005 * l.notice-index) l.initial.self l.self;
}
