use Rattle.um_script.proofs.ScriptLines.{read_line}
use Rattle.um_script.proofs.script.parse_script.Goals as goal

pub returns-in-Ok-clause-means : goal.returns-in-Ok-clause-means
returns-in-Ok-clause-means c =
    (read_line _ _ _ c.in-Ok.is (rw c.if-branch.false at c.in_ok-skips_line.ensures.value) c.parse_script_words.ensures.read).0

pub returns-in-Ok-clause-refused : goal.returns-in-Ok-clause-refused
returns-in-Ok-clause-refused c =
    (read_line _ _ _ c.in-Ok.is (rw c.if-branch.false at c.in_ok-skips_line.ensures.value) c.parse_script_words.ensures.read).1

pub returns-in-Err-clause-refused : goal.returns-in-Err-clause-refused
returns-in-Err-clause-refused c =
    (read_line _ _ _ c.in-Err.is (rw c.if-branch.false at c.in_ok-skips_line.ensures.value) c.parse_script_words.ensures.read).1
