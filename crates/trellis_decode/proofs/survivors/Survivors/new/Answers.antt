use Rattle.trellis_decode.proofs.SurvivorLists.{AreSurvivors-none}
use Rattle.trellis_decode.proofs.survivors.Survivors.new.Goals as goal

pub returns-clause-walk : goal.returns-clause-walk
returns-clause-walk c = AreSurvivors-none _
