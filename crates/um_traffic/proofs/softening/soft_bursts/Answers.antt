use Rattle.std.proofs.Common.{arith, map}
use Rattle.um_slot.specs.Slots.{softened}
use Rattle.um_traffic.proofs.Lists.{map_eight}
use Rattle.um_traffic.proofs.softening.soft_bursts.Goals as goal

pub returns-clause-value : goal.returns-clause-value
returns-clause-value c =
    rw (
      c.softened_burst.ensures.value,
      c.softened_burst-2.ensures.value,
      c.softened_burst-3.ensures.value,
      c.softened_burst-4.ensures.value,
      c.softened_burst-5.ensures.value,
      c.softened_burst-6.ensures.value,
      c.softened_burst-7.ensures.value,
      c.softened_burst-8.ensures.value,
    ) (map_eight (map softened) c.args.bursts.now (omega arith))
