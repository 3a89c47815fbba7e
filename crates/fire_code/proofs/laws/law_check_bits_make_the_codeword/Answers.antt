use Rattle.fire_code.proofs.Lemmas.{is_xcch_crc, is_rach_crc, is_sch_crc}
use Rattle.fire_code.proofs.laws.law_check_bits_make_the_codeword.Goals as goal

pub returns-clause-xcch : goal.returns-clause-xcch
returns-clause-xcch c = is_xcch_crc

pub returns-clause-rach : goal.returns-clause-rach
returns-clause-rach c = is_rach_crc

pub returns-clause-sch : goal.returns-clause-sch
returns-clause-sch c = is_sch_crc
