-- What acknowledges an I frame.
use Rattle.{
  std.{specs.Prelude.{◌≡◌, Bool, true, false, [], ◌∷◌}, proofs.Common.refl},
  lapdm_frame.specs.{declared.Channel.TheVariants.Sdcch, Content.{Rr, Frame}},
  lapdm_end.specs.lapdm_window.{
    declared.{Sapi.TheVariants.Three, State.TheVariants.Open},
    Ends.{Mobile, initial_endpoint},
  },
  lapdm_datalink.specs.{Links.{LinkState, link_with}, Unsent.{IsUnsent, AcknowledgesNothing}},
}

-- a link that sent one segment: the same RR acknowledges it, and not before it was sent

abbrev one_segment : Bool → LinkState
one_segment sent = record (link_with (record (initial_endpoint Mobile Three Sdcch) {
  state = Open;
  messages = (5 ∷ []) ∷ [];
  sent_segments = 1;
}) 2) { is_sent = sent }

abbrev rr : Frame
rr = record { sapi = 3; cr = true; content = Rr 1 false }

waits_for_its_slot : IsUnsent (one_segment false)
waits_for_its_slot = record { state = refl; outstanding = refl; unsent = refl }

sent_is_acknowledged : AcknowledgesNothing rr (one_segment true) → ⊥
sent_is_acknowledged h = cc h
