-- Which frames are an RR that is no poll, and which change nothing at a link that waits for an acknowledgement.
use Rattle.std.specs.Prelude.{◌≡◌, ◌&&◌, Bool, true, false, [], ◌∷◌}
use Rattle.std.proofs.Common.{ap, refl}
use Rattle.lapdm_frame.specs.declared.Channel.TheVariants.{Sdcch}
use Rattle.lapdm_frame.specs.Content.{Content, Frame, Rej, Rr, Ui}
use Rattle.lapdm_end.specs.lapdm_window.declared.Sapi.TheVariants.{Zero}
use Rattle.lapdm_end.specs.lapdm_window.declared.State.TheVariants.{Open}
use Rattle.lapdm_end.specs.lapdm_window.Ends.{Mobile, initial_endpoint}
use Rattle.lapdm_datalink.specs.Links.{LinkState, link_with}
use Rattle.lapdm_datalink.specs.Slots.{ChangesNothing}
use Rattle.lapdm_repeats.specs.Repeats.{IsPlainRr, IsRr, HasSentWhatItMay}

-- the mobile's link, whose only message, of one segment, was sent and is not acknowledged
abbrev waiting : LinkState
waiting = record (link_with (record (initial_endpoint Mobile Zero Sdcch) {
  state = Open;
  sabm_info = 1 ∷ [];
  messages = (5 ∷ []) ∷ [];
  sent_segments = 1;
}) 2) { is_sent = true }

abbrev from : (cr : Bool) → Content → Frame
from cr content = record { sapi = 0; cr = cr; content = content }

has_sent : HasSentWhatItMay waiting
has_sent = refl

-- ---- an RR, and no poll: a response with F = 1

is_rr : IsRr 1 (from false (Rr 1 true)) waiting
is_rr = record { pf = true; content = refl; no_poll = refl }

other_number : IsRr 2 (from false (Rr 1 true)) waiting → ⊥
other_number h = cc h.content

no_rr : IsRr 1 (from false (Rej 1 true)) waiting → ⊥
no_rr h = cc h.content

-- the command with P = 1
poll : IsRr 1 (from true (Rr 1 true)) waiting → ⊥
poll h = by_bit h.pf h.content h.no_poll
  where
    by_bit : (pf : Bool) → Rr 1 true ≡ Rr 1 pf → (true && pf) ≡ false → ⊥
    by_bit true content no_poll = cc no_poll
    by_bit false content no_poll = cc content

not_plain : IsPlainRr 1 (from false (Rr 1 true)) → ⊥
not_plain h = cc h

-- ---- what changes nothing: an RR that acknowledges nothing

acknowledges_nothing : ChangesNothing (from false (Rr 0 false)) waiting
acknowledges_nothing = record { link = refl; notices = refl }

acknowledges : ChangesNothing (from false (Rr 1 false)) waiting → ⊥
acknowledges h = cc (ap (λ (l : LinkState). l.endpoint.acked_segments) h.link)

-- a message of layer 3 in a UI frame changes no link, and is reported
reports : ChangesNothing (from true (Ui false (1 ∷ []))) waiting → ⊥
reports h = cc h.notices
