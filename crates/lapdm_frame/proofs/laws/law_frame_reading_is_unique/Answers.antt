use Rattle.lapdm_frame.proofs.Lemmas.{IsOnlyReading-frame_reading, one_reading}
use Rattle.lapdm_frame.proofs.laws.law_frame_reading_is_unique.Goals as goal

pub returns : goal.returns
returns c = record { unique = one_reading; computed = IsOnlyReading-frame_reading }
