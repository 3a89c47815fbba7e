use Rattle.lapdm_progress.proofs.Cut.{progress_from_start}
use Rattle.lapdm_progress.proofs.law_data_links_progress_from_the_start.Goals as goal

pub returns : goal.returns
returns c = progress_from_start
