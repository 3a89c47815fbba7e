use Rattle.lapdm_progress.proofs.Bounds.{are_as_alone}
use Rattle.lapdm_progress.proofs.law_sapi_0_of_data_links_is_a_channel.Goals as goal

pub returns : goal.returns
returns c = are_as_alone
