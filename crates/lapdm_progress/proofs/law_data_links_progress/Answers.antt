use Rattle.lapdm_progress.proofs.Cut.{all_progress}
use Rattle.lapdm_progress.proofs.law_data_links_progress.Goals as goal

pub returns : goal.returns
returns c = all_progress
