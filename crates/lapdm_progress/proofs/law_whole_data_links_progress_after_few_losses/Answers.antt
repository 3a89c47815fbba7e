use Rattle.lapdm_progress.proofs.Bounds.{few_losses_progress}
use Rattle.lapdm_progress.proofs.law_whole_data_links_progress_after_few_losses.Goals as goal

pub returns : goal.returns
returns c = few_losses_progress
