use Rattle.um_lines.proofs.FormLaws.{parsed_fault, parsed_meaning, parsed_means}
use Rattle.um_lines.proofs.laws.law_parsed_line_is_its_meaning_or_fault.Goals as goal

pub returns-clause-value : goal.returns-clause-value
returns-clause-value g c = λ table misplaced make line made apart. (
  parsed_means table misplaced make line made,
  parsed_meaning table misplaced make line made apart,
)

pub returns-clause-fault : goal.returns-clause-fault
returns-clause-fault g c = λ table misplaced make line why. parsed_fault table misplaced make line why
