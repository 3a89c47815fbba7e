use Rattle.um_facch.proofs.training.detect_training.Goals as goal

pub returns-clause-tsc : goal.returns-clause-tsc
returns-clause-tsc c =
    rw (
      c.midamble_of.ensures,
      c.midamble_of-2.ensures,
      c.midamble_of-3.ensures,
      c.midamble_of-4.ensures,
      c.midamble_of-5.ensures,
      c.midamble_of-6.ensures,
      c.midamble_of-7.ensures,
      c.midamble_of-8.ensures,
    ) at c.best_of_eight.ensures.tsc
