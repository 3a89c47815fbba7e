use Rattle.um_io.proofs.Division.{IsDividedIntoLines-lines_of_octets, lines_of_octets-only}
use Rattle.um_io.proofs.laws.law_division_into_lines_is_unique.Goals as goal

pub returns : goal.returns
returns c = record { divided = IsDividedIntoLines-lines_of_octets; only = lines_of_octets-only }
