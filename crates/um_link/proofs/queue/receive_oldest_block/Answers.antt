use Rattle.std.proofs.Common.{refl}
use Rattle.um_link.proofs.queue.receive_oldest_block.Goals as goal

pub returns-clause-received : goal.returns-clause-received
returns-clause-received g c =
    let gone = c.drop_oldest_block.ensures.first in
    let softened = c.write_oldest_as_soft_values.ensures.value gone.0 c.drop_oldest_block.new.way.items gone.1 in (
      c.receive.result,
      refl,
      record { block = gone.0; queue_front = gone.1; received = rw softened at c.receive.ensures.received },
    )
