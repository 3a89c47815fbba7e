use Rattle.{std.proofs.Common.{sym, ◌∙◌}, lapdm_frame.specs.Content.{frame_of_view}, lapdm_datalink.specs.Links.{for_frame}}
use Rattle.lapdm_datalink.proofs.links.Link.take.Goals as goal

pub returns-clause-done : goal.returns-clause-done
returns-clause-done c l h =
    rw (sym (c.ignores.ensures l h) ∙ c.if-ignores.false)
    (c.take_considered.ensures.done (for_frame (frame_of_view c.args.frame.now) l) (c.restart_if_reopened_by.ensures.represents l h))
