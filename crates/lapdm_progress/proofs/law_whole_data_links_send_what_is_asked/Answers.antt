use Rattle.lapdm_progress.proofs.Asked.{sends_what_is_asked}
use Rattle.lapdm_progress.proofs.law_whole_data_links_send_what_is_asked.Goals as goal

pub returns : goal.returns
returns c = sends_what_is_asked
