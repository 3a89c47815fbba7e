use Rattle.um_link_command.proofs.Lemmas.{IsLinkCommandRun-run, link-prescribed}
use Rattle.um_cli.proofs.link.run_link_session.Goals as goal

pub returns-clause-run : goal.returns-clause-run
returns-clause-run g c =
    IsLinkCommandRun-run _ _ _ _ _ (λ course represents. (represents.1, represents.2)) _ _ _ _ _ c.drive.ensures.table

pub returns-clause-due : goal.returns-clause-due
returns-clause-due g c = link-prescribed _ _ _ _ _ _ c.drive.ensures.due
