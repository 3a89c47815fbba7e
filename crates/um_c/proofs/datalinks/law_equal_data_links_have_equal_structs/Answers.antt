use Rattle.um_c.proofs.DataLinkCalls.{one_struct}
use Rattle.um_c.proofs.OneLink.{links_of, kept, counts}
use Rattle.um_c.proofs.datalinks.law_equal_data_links_have_equal_structs.Goals as goal

pub returns : goal.returns
returns c = record { equal = one_struct; links = links_of; kept = kept; counts = counts }
