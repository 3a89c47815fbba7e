-- In each branch of `run`, the clauses follow from the clauses of the command that the branch runs (`Lemmas`).
use Rattle.{
  std.proofs.Common.refl,
  um_cli.{
    specs.declared.words.Invocation.TheVariants.{Code, Replay, Show, Margin, Repair, End},
    proofs.Lemmas.{run_of, due_of, most_likely_of, session_of},
  },
}
use Rattle.um_cli.proofs.top.run.Goals as goal

pub returns-in-Some-Replay-clause-run : goal.returns-in-Some-Replay-clause-run
returns-in-Some-Replay-clause-run g c =
    run_of _ _ Replay _ _ c.in-Some-Replay.ensures.command c.in-Some-Replay.field-0-is _ c.new.ensures _ _ _ _ _ _ _ (λ run. run) _
    c.drive-in-Some-Replay.ensures.table

pub returns-in-Some-Replay-clause-due : goal.returns-in-Some-Replay-clause-due
returns-in-Some-Replay-clause-due g c =
    due_of _ _ Replay _ _ c.in-Some-Replay.ensures.command c.in-Some-Replay.field-0-is _ c.new.ensures _ _ _ _ (λ due. due)
    c.drive-in-Some-Replay.ensures.due

pub returns-in-Some-Replay-clause-most_likely : goal.returns-in-Some-Replay-clause-most_likely
returns-in-Some-Replay-clause-most_likely g c =
    most_likely_of _ _ c.in-Some-Replay.ensures.command c.in-Some-Replay.ensures.fits

pub returns-in-Some-Link-clause-most_likely : goal.returns-in-Some-Link-clause-most_likely
returns-in-Some-Link-clause-most_likely g c = most_likely_of _ _ c.in-Some-Link.ensures.command c.in-Some-Link.ensures.fits

pub returns-in-Some-Link-clause-session : goal.returns-in-Some-Link-clause-session
returns-in-Some-Link-clause-session g c = session_of _ _ c.in-Some-Link.ensures.command c.in-Some-Link.ensures.fits

pub returns-in-Some-Margin-clause-run : goal.returns-in-Some-Margin-clause-run
returns-in-Some-Margin-clause-run g c =
    run_of _ _ Margin _ _ c.in-Some-Margin.ensures.command c.in-Some-Margin.field-0-is _ c.new-in-Some-Margin.ensures _ _ _ _ _ _ _
    (λ run. run) _ c.drive-in-Some-Margin.ensures.table

pub returns-in-Some-Margin-clause-due : goal.returns-in-Some-Margin-clause-due
returns-in-Some-Margin-clause-due g c =
    due_of _ _ Margin _ _ c.in-Some-Margin.ensures.command c.in-Some-Margin.field-0-is _ c.new-in-Some-Margin.ensures _ _ _ _ (λ due. due)
    c.drive-in-Some-Margin.ensures.due

pub returns-in-Some-End-clause-run : goal.returns-in-Some-End-clause-run
returns-in-Some-End-clause-run g c =
    run_of _ _ (End c.in-Some-End.side c.in-Some-End.tsc) _ _ c.in-Some-End.ensures.command c.in-Some-End.field-0-is _
    c.new-in-Some-End.ensures.start _ _ _ _ _ _ _ (λ run. run) _ c.drive-in-Some-End.ensures.table

pub returns-in-Some-End-clause-due : goal.returns-in-Some-End-clause-due
returns-in-Some-End-clause-due g c =
    due_of _ _ (End c.in-Some-End.side c.in-Some-End.tsc) _ _ c.in-Some-End.ensures.command c.in-Some-End.field-0-is _
    c.new-in-Some-End.ensures.start _ _ _ _ (λ due. due) c.drive-in-Some-End.ensures.due

pub returns-in-Some-End-clause-most_likely : goal.returns-in-Some-End-clause-most_likely
returns-in-Some-End-clause-most_likely g c = most_likely_of _ _ c.in-Some-End.ensures.command c.in-Some-End.ensures.fits
