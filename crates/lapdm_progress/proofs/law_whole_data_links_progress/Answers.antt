use Rattle.lapdm_progress.proofs.Bounds.{data_links_progress, data_links_keep}
use Rattle.lapdm_progress.proofs.law_whole_data_links_progress.Goals as goal

pub returns-clause-progress : goal.returns-clause-progress
returns-clause-progress c = data_links_progress

pub returns-clause-kept : goal.returns-clause-kept
returns-clause-kept c = data_links_keep
