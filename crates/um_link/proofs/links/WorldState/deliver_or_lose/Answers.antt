use Rattle.um_link.proofs.links.WorldState.deliver_or_lose.Goals as goal

pub returns-in-Deliver-clause-step : goal.returns-in-Deliver-clause-step
returns-in-Deliver-clause-step g c = rw c.in-Deliver.is c.deliver.ensures.step

pub returns-in-Lose-clause-step : goal.returns-in-Lose-clause-step
returns-in-Lose-clause-step g c = rw c.in-Lose.is c.lose.ensures.step

pub returns-in-Flip-clause-step : goal.returns-in-Flip-clause-step
returns-in-Flip-clause-step g c = rw c.in-Flip.is c.deliver-in-Flip.ensures.step
