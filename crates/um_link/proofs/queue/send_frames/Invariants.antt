use Rattle.um_link.proofs.Lemmas.{AreSentSoFar}
use Rattle.um_link.proofs.queue.send_frames.Given as goal

abbrev pub invariant-loop-octets : goal.invariant-loop-octets
invariant-loop-octets g l = AreSentSoFar l.tsc l.frames l.octets-index l.initial.way l.way (g.R.Radio.sent l.initial.radio)
    (g.R.Radio.sent l.radio) (g.R.Radio.heard l.initial.radio) (g.R.Radio.heard l.radio)
