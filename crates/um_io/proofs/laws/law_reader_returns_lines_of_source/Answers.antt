use Rattle.um_io.proofs.Reader.{ends_with}
use Rattle.um_io.proofs.laws.law_reader_returns_lines_of_source.Goals as goal

pub returns : goal.returns
returns c = ends_with
