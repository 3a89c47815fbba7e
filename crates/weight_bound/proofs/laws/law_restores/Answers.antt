use Rattle.weight_bound.proofs.Lemmas.{restores}
use Rattle.weight_bound.proofs.laws.law_restores.Goals as goal

pub returns-clause-best : goal.returns-clause-best
returns-clause-best c = (restores c.args.soft.now c.args.u.now c.requires.information c.requires.count c.requires.damage).0

pub returns-clause-others : goal.returns-clause-others
returns-clause-others c = (restores _ c.args.u.now c.requires.information c.requires.count c.requires.damage).1
