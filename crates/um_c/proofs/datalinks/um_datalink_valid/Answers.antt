use Rattle.std.proofs.Common.{refl}
use Rattle.um_c.proofs.datalinks.um_datalink_valid.Goals as goal

pub returns-in-Some : goal.returns-in-Some
returns-in-Some c = (λ t. c.in-Some.ensures.some, λ h. refl)
