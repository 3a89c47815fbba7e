-- A SABM that arrives at a link that is open or being released: what is a repeat, a new opening, a refusal, and what is not.
use Rattle.std.specs.Prelude.{Bool, true, false, [], ◌∷◌, Option, Some, None}
use Rattle.std.proofs.Common.{ap, arith, refl}
use Rattle.lapdm_frame.specs.declared.Channel.TheVariants.{Sdcch}
use Rattle.lapdm_frame.specs.Content.{Content, Frame, Disc, Dm, Sabm, Ui}
use Rattle.lapdm_end.specs.lapdm_window.declared.Sapi.TheVariants.{Zero, Three}
use Rattle.lapdm_end.specs.lapdm_window.declared.State.{State}
use Rattle.lapdm_end.specs.lapdm_window.declared.State.TheVariants.{Idle, Open, Closing}
use Rattle.lapdm_end.specs.lapdm_window.Ends.{Network, initial_endpoint}
use Rattle.lapdm_datalink.specs.Links.{LinkState, link_with}
use Rattle.lapdm_datalink.specs.Slots.{IsSabmThatOpened, IsRepeat, IsNewOpening, IsSabmInClosing, IsRefused}

-- ---- in Open: a repeat where nothing was heard, and then a new opening

-- the network's link of SAPI 0, opened with one octet, after it has accepted one segment
abbrev accepted_one : Bool → LinkState
accepted_one heard = record (link_with (record (initial_endpoint Network Zero Sdcch) {
  state = Open;
  sabm_info = 1 ∷ [];
  accepted_segments = (5 ∷ [], false) ∷ [];
}) 2) { heard = heard }

abbrev again : Frame
again = record { sapi = 0; cr = false; content = Sabm true (1 ∷ []) }

is_sabm : (heard : Bool) → IsSabmThatOpened again (accepted_one heard)
is_sabm heard = record { state = refl; possible = omega arith; command = refl; content = refl; answered = refl }

no_new_opening : IsNewOpening again (accepted_one false) → ⊥
no_new_opening h = cc h.fresh.accepted

no_repeat : IsRepeat again (accepted_one true) → ⊥
no_repeat h = cc (ap (λ e. e.accepted_segments) h.endpoint)

-- ---- in Closing: a refusal

-- a link of the network in this state, and a frame for it
abbrev link : State → LinkState
link state = link_with (record (initial_endpoint Network Three Sdcch) { state = state }) 2

abbrev from : (cr : Bool) → Content → Frame
from cr content = record { sapi = 3; cr = cr; content = content }

in_closing : IsSabmInClosing (from false (Sabm true [])) (link Closing)
in_closing = record { state = refl; command = refl; info = []; content = refl }

not_in_open : IsSabmInClosing (from false (Sabm true [])) (link Open) → ⊥
not_in_open h = cc h.state

not_a_response : IsSabmInClosing (from true (Sabm true [])) (link Closing) → ⊥
not_a_response h = cc h.command

not_a_release : IsSabmInClosing (from false (Disc true)) (link Closing) → ⊥
not_a_release h = cc h.content

refused : IsRefused (from false (Sabm true [])) (link Closing)
refused = record { endpoint = refl; notices = refl; dm = refl }

-- what opens a link changes it, what is reported is taken, and a DISC is answered by a UA
opens : IsRefused (from false (Sabm true [])) (link Idle) → ⊥
opens h = cc (ap (λ e. e.state) h.endpoint)

reports : IsRefused (from false (Ui false (1 ∷ []))) (link Closing) → ⊥
reports h = cc h.notices

abbrev is_dm : Content → Bool
is_dm (Dm f) = true
is_dm other = false

abbrev sends_dm : Option Frame → Bool
sends_dm (Some f) = is_dm f.content
sends_dm None = false

answers_otherwise : IsRefused (from false (Disc true)) (link Closing) → ⊥
answers_otherwise h = cc (ap sends_dm h.dm)
