use Rattle.{std.proofs.Common.subst, list_decode.{specs.Choices.IsFirstRankedBranch, proofs.Choices.{first_ranked-new, first_ranked-old}}}
use Rattle.list_decode.proofs.choice.higher_ranked.Goals as goal

pub returns-then-ranks_before-clause-first : goal.returns-then-ranks_before-clause-first
returns-then-ranks_before-clause-first c branches branch first best at =
    first_ranked-new c.args.words.now.pass _ branches branch c.in-Some.old
    (record { branch = c.args.branch_index; deviation = c.args.deviation.now })
    (subst (IsFirstRankedBranch c.args.words.now.pass _ branches) c.in-Some.is first) best at
    (c.ranks_before.ensures.before c.if-ranks_before.true)

pub returns-else-ranks_before-clause-first : goal.returns-else-ranks_before-clause-first
returns-else-ranks_before-clause-first c branches branch first best at =
    first_ranked-old c.args.words.now.pass _ _ _ _ (record { branch = c.args.branch_index; deviation = c.args.deviation.now })
    (subst (IsFirstRankedBranch c.args.words.now.pass _ branches) c.in-Some.is first) best
    (c.ranks_before.ensures.behind c.if-ranks_before.false)
