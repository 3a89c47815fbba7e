use Rattle.lapdm_end.proofs.Lemmas.{Adds-open, Runs-open, kept_in_open, unrepeated_in_open}
use Rattle.lapdm_end.proofs.ends.Endpoint.carry_out_reply.Goals as goal

pub returns-in-I-clause-refines : goal.returns-in-I-clause-refines
returns-in-I-clause-refines c e h =
    let ready = rw c.in-I.is at c.requires.ready in
    rw c.in-I.is
    (Adds-open _ ready.0 h.sabm_info (kept_in_open ready.0 h) (unrepeated_in_open ready.0 h)
    (c.take_i_frame.ensures.refines e (Runs-open ready.0 h)))

pub returns-in-Rr-clause-refines : goal.returns-in-Rr-clause-refines
returns-in-Rr-clause-refines c e h =
    let ready = rw c.in-Rr.is at c.requires.ready in
    rw c.in-Rr.is
    (Adds-open _ ready.0 h.sabm_info (kept_in_open ready.0 h) (unrepeated_in_open ready.0 h)
    (c.take_rr.ensures.refines e (Runs-open ready.0 h)))

pub returns-in-Rej-clause-refines : goal.returns-in-Rej-clause-refines
returns-in-Rej-clause-refines c e h =
    let ready = rw c.in-Rej.is at c.requires.ready in
    rw c.in-Rej.is
    (Adds-open _ ready.0 h.sabm_info (kept_in_open ready.0 h) (unrepeated_in_open ready.0 h)
    (c.take_rej.ensures.refines e (Runs-open ready.0 h)))
