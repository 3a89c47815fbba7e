use Rattle.um_formats.{proofs.BurstLines.{access_burst, normal_burst, sync_burst}, specs.declared.burst_lines.BurstLine.TheVariants.Normal}
use Rattle.um_formats.proofs.held.parse_and_hold_burst.Goals as goal

pub add-requires : goal.add-requires
add-requires c = (normal_burst c.count.result c.args.line.now c.in-Normal.burst (rw c.in-Normal.is at c.in_ok-parse_burst.ensures.means)).1

pub returns-in-Normal-clause-means : goal.returns-in-Normal-clause-means
returns-in-Normal-clause-means c = (
  Normal c.in-Normal.burst,
  rw (c.in-Normal.is, c.count.ensures.count) at c.in_ok-parse_burst.ensures.means,
  (c.add.result, c.normal_burst_result.ensures, c.add.ensures),
)

pub returns-in-Access-clause-soft : goal.returns-in-Access-clause-soft
returns-in-Access-clause-soft c =
    (access_burst c.count.result c.args.line.now c.in-Access.bsic c.in-Access.soft
    (rw c.in-Access.is at c.in_ok-parse_burst.ensures.means)).4

pub returns-in-Sync-clause-soft : goal.returns-in-Sync-clause-soft
returns-in-Sync-clause-soft c =
    (sync_burst c.count.result c.args.line.now c.in-Sync.burst (rw c.in-Sync.is at c.in_ok-parse_burst.ensures.means)).2
