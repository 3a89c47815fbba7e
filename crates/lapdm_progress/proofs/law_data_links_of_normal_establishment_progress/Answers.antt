use Rattle.lapdm_progress.proofs.Bounds.{normal_progresses, normal_is_kept}
use Rattle.lapdm_progress.proofs.law_data_links_of_normal_establishment_progress.Goals as goal

pub returns-clause-progress : goal.returns-clause-progress
returns-clause-progress c = normal_progresses

pub returns-clause-kept : goal.returns-clause-kept
returns-clause-kept c = normal_is_kept
