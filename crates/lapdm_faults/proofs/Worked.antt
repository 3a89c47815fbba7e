-- Which N(R) count segments, and which frames have no effect.
use Rattle.std.specs.Prelude.{Bool, true, false, [], ◌∷◌}
use Rattle.std.proofs.Common.{arith, refl}
use Rattle.lapdm_frame.specs.declared.Channel.TheVariants.{Sdcch}
use Rattle.lapdm_frame.specs.Content.{Content, Disc, Frame, Rr}
use Rattle.lapdm_end.specs.lapdm_window.declared.Sapi.TheVariants.{Three}
use Rattle.lapdm_end.specs.lapdm_window.declared.State.TheVariants.{Open}
use Rattle.lapdm_end.specs.lapdm_window.Ends.{EndpointState, Mobile, initial_endpoint}
use Rattle.lapdm_datalink.specs.Links.{LinkState, link_with}
use Rattle.lapdm_faults.specs.Faults.{CountsSegments, HasNoEffect}

-- the mobile's link after it has sent eight segments, of which seven are acknowledged
abbrev eight_sent : EndpointState
eight_sent = record (initial_endpoint Mobile Three Sdcch) {
  state = Open;
  messages = (5 ∷ []) ∷ (5 ∷ []) ∷ (5 ∷ []) ∷ (5 ∷ []) ∷ (5 ∷ []) ∷ (5 ∷ []) ∷ (5 ∷ []) ∷ (5 ∷ []) ∷ [];
  sent_segments = 8;
  acked_segments = 7;
}

abbrev waiting : LinkState
waiting = record (link_with eight_sent 2) { is_sent = true }

seven : CountsSegments 7 eight_sent
seven = record { count = 7; number = refl; not_fewer = omega arith; not_more = omega arith }

eight : CountsSegments 0 eight_sent
eight = record { count = 8; number = refl; not_fewer = omega arith; not_more = omega arith }

not_six : CountsSegments 6 eight_sent → ⊥
not_six h = omega (arith, h.number, h.not_fewer, h.not_more)

not_nine : CountsSegments 1 eight_sent → ⊥
not_nine h = omega (arith, h.number, h.not_fewer, h.not_more)

abbrev from : (cr : Bool) → Content → Frame
from cr content = record { sapi = 3; cr = cr; content = content }

out_of_window : HasNoEffect (from false (Rr 3 false)) waiting
out_of_window = record { acked = refl; state = refl }

acknowledges : HasNoEffect (from false (Rr 0 false)) waiting → ⊥
acknowledges h = cc h.acked

releases : HasNoEffect (from true (Disc true)) waiting → ⊥
releases h = cc h.state
