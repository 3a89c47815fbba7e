use Rattle.um_traffic.proofs.Carried.{given_carried, halves_kept}
use Rattle.um_traffic.proofs.laws.law_given_block_is_carried.Goals as goal

pub returns-clause-halves : goal.returns-clause-halves
returns-clause-halves c sender bursts b p h hb hp half =
    halves_kept sender h.settings h.first h.frames bursts h.set h.begins h.within h.not_begun h.waits h.frames_are h.all h.sends b p hb hp
    half

pub returns-clause-carried : goal.returns-clause-carried
returns-clause-carried c sender bursts coded h four each spread =
    given_carried sender h.settings h.first h.frames bursts h.set h.begins h.within h.not_begun h.waits h.frames_are h.all h.sends coded
    four each spread
