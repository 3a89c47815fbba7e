use Rattle.lapdm_repeats.proofs.said.Said.after.Goals as goal

pub returns-clause-no_frame : goal.returns-clause-no_frame
returns-clause-no_frame c none = absurd (none _ c.in-Ok.ensures.frame.frame)
