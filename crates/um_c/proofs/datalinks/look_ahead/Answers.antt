use Rattle.um_c.proofs.OneLink.{both, both_seen}
use Rattle.um_c.proofs.datalinks.look_ahead.Goals as goal

pub returns-in_err-link0 : goal.returns-in_err-link0
returns-in_err-link0 c =
    rw c.from_residual.ensures (λ h. c.in_err-link0.ensures h.0.link0 (both c.args.data_link.now h.0 h.1).link0)

pub returns-in_err-link3 : goal.returns-in_err-link3
returns-in_err-link3 c =
    rw c.from_residual-in_err-link3.ensures (λ h. c.in_err-link3.ensures h.0.link3 (both c.args.data_link.now h.0 h.1).link3)

pub returns : goal.returns
returns c =
    both_seen c.args.data_link.now c.in_ok-link0.link0 c.in_ok-link3.link3 c.of_links.result c.in_ok-link0.ensures c.in_ok-link3.ensures
    c.of_links.ensures
