use Rattle.{std.proofs.Common.{ap, arith}, um_link.proofs.Lemmas.{oldest-split, only-split, IsValidQueue-rest}}
use Rattle.um_link.proofs.queue.drop_oldest_block.Goals as goal

pub returns-then-len-eq1-clause-first : goal.returns-then-len-eq1-clause-first
returns-then-len-eq1-clause-first c =
    only-split _ _ (omega arith) (ap (λ w. w.items) c.clear.ensures)

pub returns-else-len-eq1-clause-first : goal.returns-else-len-eq1-clause-first
returns-else-len-eq1-clause-first c = oldest-split _ _ c.requires.some (ap (λ w. w.items) c.pop_front.ensures.items)

pub returns-else-len-eq1-clause-way : goal.returns-else-len-eq1-clause-way
returns-else-len-eq1-clause-way c = IsValidQueue-rest _ _ c.requires.way c.pop_front.ensures.items
