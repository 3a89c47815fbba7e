use Rattle.um_c.proofs.Calls.{one_struct}
use Rattle.um_c.proofs.states.law_equal_endpoints_have_equal_structs.Goals as goal

pub returns : goal.returns
returns c = one_struct
