use Rattle.std.proofs.{Common.rules, lemmas.List.append_assoc}
use Rattle.um_formats.proofs.frames.push_fields.Goals as goal

pub returns-in-NumberedInfo-clause-text : goal.returns-in-NumberedInfo-clause-text
returns-in-NumberedInfo-clause-text c = rw c.in-NumberedInfo.is (search (rules, append_assoc))
