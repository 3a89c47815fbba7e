-- What no slot of a link does, and what it means that SAPI 0 goes first.
use Rattle.{
  std.{
    specs.Prelude.{◌≡◌, ℕ, false, true, [], ◌∷◌, Some, None},
    proofs.Common.{ap, inl, inr, refl},
  },
  lapdm_frame.specs.{declared.Channel.TheVariants.Sdcch, Content.{Frame, Sabm}},
  lapdm_end.specs.lapdm_window.{
    declared.{Sapi.{Sapi, TheVariants.{Zero, Three}}, State.{State, TheVariants.{Idle, Opening}}},
    declared.Notice.TheVariants.Opened,
    Ends.{Mobile, initial_endpoint},
  },
  lapdm_datalink.specs.{
    Links.{LinkState, link_with, after_received},
    DataLinks.{DataLinkState, data_link_outcome, after_arrival},
    Slots.{GoesFirst, IsStepOfEndpoint},
  },
}

-- a link of a mobile in this state that owes no answer
abbrev link : Sapi → State → LinkState
link sapi state = link_with (record (initial_endpoint Mobile sapi Sdcch) { state = state; sabm_info = 1 ∷ [] }) 2

abbrev sabm : ℕ → Frame
sabm sapi = record { sapi = sapi; cr = false; content = Sabm true (1 ∷ []) }

-- ---- a slot

idle_link_sends : IsStepOfEndpoint (link Zero Idle) (record { link = link Zero Idle; frame = Some (sabm 0); notices = [] }) → ⊥
idle_link_sends (inl h) = elim h.frame [
  | inl none ↦ absurd (cc none)
  | inr answer ↦ absurd (cc answer)
]
idle_link_sends (inr (inl h)) = cc h.awaits
idle_link_sends (inr (inr h)) = cc h.awaits

reports_of_itself : IsStepOfEndpoint (link Zero Idle) (record { link = link Zero Idle; frame = None; notices = Opened [] ∷ [] }) → ⊥
reports_of_itself (inl h) = cc h.notices
reports_of_itself (inr (inl h)) = cc h.notices
reports_of_itself (inr (inr h)) = cc h.awaits

changes_of_itself : IsStepOfEndpoint (link Zero Idle) (record { link = link Zero Opening; frame = None; notices = [] }) → ⊥
changes_of_itself (inl h) = cc (ap (λ e. e.state) h.endpoint)
changes_of_itself (inr (inl h)) = cc h.awaits
changes_of_itself (inr (inr h)) = cc h.awaits

-- ---- SAPI 0 goes first

-- a mobile whose links are in these states
abbrev mobile : (state0 state3 : State) → DataLinkState
mobile state0 state3 = record {
  link0 = link Zero state0;
  link3 = link Three state3;
  heard_sapi0 = false;
  is_main_established = false;
}

both_are_due : GoesFirst (mobile Opening Opening) →
    ((data_link_outcome (mobile Opening Opening)).frame ≡ Some (sabm 0))
    × ((data_link_outcome (mobile Opening Opening)).new_state.link0 ≡ record (link Zero Opening) { is_sent = true; clock = 2 })
    × ((data_link_outcome (mobile Opening Opening)).notices0 ≡ [])
both_are_due h = (h.frame (sabm 0) refl, h.slot, h.notices)

only_sapi_3_is_due : GoesFirst (mobile Idle Opening) → (data_link_outcome (mobile Idle Opening)).frame ≡ Some (sabm 3)
only_sapi_3_is_due h = h.none refl

frames_arrive : GoesFirst (mobile Opening Idle) →
    ((after_arrival (sabm 0) (mobile Opening Idle)).link0 ≡ after_received (sabm 0) (link Zero Opening))
    × ((after_arrival (sabm 3) (mobile Opening Idle)).link0 ≡ link Zero Opening)
frames_arrive h = (h.arrival (sabm 0) refl, h.other_arrival (sabm 3) (λ same. cc same))
