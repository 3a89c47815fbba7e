use Rattle.um_script.proofs.AnswerLaws.{octets_of-bits_of}
use Rattle.um_script.proofs.answer.push_data_and_check_words.Goals as goal

pub returns-clause-octets : goal.returns-clause-octets
returns-clause-octets c = octets_of-bits_of c.args.octets.now c.type_inv.octets

pub returns-clause-check : goal.returns-clause-check
returns-clause-check c = octets_of-bits_of c.args.check.now c.type_inv.check
