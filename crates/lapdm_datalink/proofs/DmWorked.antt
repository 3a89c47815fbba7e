-- A DM that arrives at an open link whose outstanding I frame was repeated, or not.
use Rattle.std.specs.Prelude.{ℕ, [], ◌∷◌}
use Rattle.std.proofs.Common.{ap, refl}
use Rattle.lapdm_frame.specs.declared.Channel.TheVariants.{Sdcch}
use Rattle.lapdm_frame.specs.Content.{Dm, Frame, Ui}
use Rattle.lapdm_end.specs.lapdm_window.declared.Sapi.TheVariants.{Three}
use Rattle.lapdm_end.specs.lapdm_window.declared.State.TheVariants.{Open}
use Rattle.lapdm_end.specs.lapdm_window.Ends.{Mobile, initial_endpoint}
use Rattle.std.specs.Prelude.{Bool, true, false}
use Rattle.lapdm_datalink.specs.Links.{LinkState, link_with}
use Rattle.lapdm_datalink.specs.Slots.{IsFinalDmInOpen, EndsAsFailed, ChangesNothing}

-- the mobile's link, after its I frame was sent, and then repeated as often
abbrev repeated : ℕ → LinkState
repeated n = record (link_with (record (initial_endpoint Mobile Three Sdcch) {
  state = Open;
  messages = (5 ∷ []) ∷ [];
  sent_segments = 1;
  retries = n;
}) 2) { is_sent = true }

abbrev dm : (cr final : Bool) → Frame
dm cr final = record { sapi = 3; cr = cr; content = Dm final }

is_final : IsFinalDmInOpen (dm false true) (repeated 0)
is_final = record { state = refl; response = refl; content = refl }

not_a_command : IsFinalDmInOpen (dm true true) (repeated 0) → ⊥
not_a_command h = cc h.response

not_with_f_0 : IsFinalDmInOpen (dm false false) (repeated 0) → ⊥
not_with_f_0 h = cc h.content

answers_the_repeat : EndsAsFailed (dm false true) (repeated 1)
answers_the_repeat = record { state = refl; notices = refl }

not_unasked : EndsAsFailed (dm false true) (repeated 0) → ⊥
not_unasked h = cc h.state

is_unasked : ChangesNothing (dm false true) (repeated 0)
is_unasked = record { link = refl; notices = refl }

with_f_0_it_ends_the_link : ChangesNothing (dm false false) (repeated 0) → ⊥
with_f_0_it_ends_the_link h = cc (ap (λ l. l.endpoint.state) h.link)

abbrev unit : Frame
unit = record { sapi = 3; cr = true; content = Ui false (1 ∷ []) }

unit_is_reported : ChangesNothing unit (repeated 0) → ⊥
unit_is_reported h = cc h.notices
