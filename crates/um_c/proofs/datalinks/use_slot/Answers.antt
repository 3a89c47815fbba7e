use Rattle.std.proofs.Common.{sym, ◌∙◌}
use Rattle.um_c.proofs.OneLink.{uses_none}
use Rattle.um_c.proofs.datalinks.use_slot.Goals as goal

pub returns-then-not-acts : goal.returns-then-not-acts
returns-then-not-acts c l h e = uses_none l _ _ h (sym e ∙ c.if-not-acts.true) c.idle_slot.ensures

pub returns : goal.returns
returns c l h e = c.act_in_slot.ensures l h (sym e ∙ c.if-not-acts.false)
