use Rattle.trellis_decode.proofs.SurvivorLists.{AreSurvivors-more, AreMetricsWithin-more}
use Rattle.trellis_decode.proofs.survivors.Survivors.step.Goals as goal

pub returns-clause-walk : goal.returns-clause-walk
returns-clause-walk c pair has after soft =
    AreSurvivors-more _ _ _ _ _ _ _ _ has.count (c.new-step.ensures.each pair has) c.extend_survivor_map.ensures.each

pub returns-clause-within : goal.returns-clause-within
returns-clause-within c pair has octets most =
    AreMetricsWithin-more _ _ _ _ _ has.count octets (c.new-step.ensures.each pair has)
