use Rattle.{std.proofs.Common.{ap, ◌≤◌, ◌+◌, length, arith}, um_link.proofs.Lemmas.AreSentSoFar-next}
use Rattle.um_link.proofs.queue.send_frames.Goals as goal

pub loop-octets-preserved : goal.loop-octets-preserved
loop-octets-preserved g c =
    let room : length c.args.way.now.items + length c.args.frames.now ≤ c.args.way.now.capacity =
    omega (arith, c.requires.space, c.requires.way.capacity) in
    AreSentSoFar-next _ _ _ _ c.loop-octets.way _ _ _ _ _ _ _ c.send.result c.loop-octets.invariant c.loop-octets-test.true
    c.send.ensures.sent
    c.send.ensures.bits room
    (ap (λ w. w.items) c.push_back.ensures.items) (ap (λ w. w.capacity) c.push_back.ensures.items) c.send.ensures.raised
    c.send.ensures.unchanged
