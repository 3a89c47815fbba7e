use Rattle.um_formats.proofs.FrameLines.{octets_back, canonical_back, frame_again}
use Rattle.um_formats.proofs.show.law_written_frames_read_back.Goals as goal

pub returns-clause-octets : goal.returns-clause-octets
returns-clause-octets c = octets_back

pub returns-clause-canonical : goal.returns-clause-canonical
returns-clause-canonical c = canonical_back

pub returns-clause-again : goal.returns-clause-again
returns-clause-again c = frame_again
