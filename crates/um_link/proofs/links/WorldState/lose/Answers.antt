use Rattle.{std.proofs.Common.{rules, sym, ◌∙◌}, um_link.{specs.Naming.spec_role_of, proofs.Lemmas.lose-oldest}}
use Rattle.um_link.proofs.links.WorldState.lose.Goals as goal

pub returns-clause-step : goal.returns-clause-step
returns-clause-step c =
    let refines = lose-oldest (spec_role_of c.args.sender) _ _ _ c.drop_oldest_block.ensures.loses
    (sym c.has_no_queued_block.ensures ∙ c.if-has_no_queued_block.false) c.clear.ensures.frames c.clear.ensures.notices in
    record { refines = refines; valid = c.drop_oldest_block.ensures.valid; refused = tt; fits_actor = search rules }
