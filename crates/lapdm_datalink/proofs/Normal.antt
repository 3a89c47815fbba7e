-- Normal establishment: either side opens the link, a mobile returns to it, and layer 3 establishes it again.
use Rattle.{
  std.{
    specs.Prelude.{◌≡◌, ◌⊎◌, ◌||◌, ◌&&◌, Bool, true, false, if◌then◌else◌, List, [], ◌∷◌, Some, None},
    proofs.Common.{arith, refl, sym, ap, ◌∙◌, inl, inr},
  },
  lapdm_frame.specs.Content.{Frame, Sabm},
  lapdm_end.specs.lapdm_window.{
    declared.{Sapi.{Sapi, TheVariants.{Zero, Three}}, State.{State, TheVariants.{Idle, Opening, Open, Closing, Closed}}},
    Ends.{Network, IsPossibleSabmInfo},
    Rules.is_open,
  },
  lapdm_datalink.{
    specs.{
      Links.{LinkState, is_closed, afresh, as_normal, renewed_for, after_frame, after_received, received_notices, for_establishment},
      DataLinks.{DataLinkState, after_arrival},
      Slots.{CountsFromZero, IsBareSabm, IsNormalOpening, IsEstablishedAfresh},
    },
    proofs.First.sapi_0_goes_first,
  },
}

pub opened_by_either_side : (f : Frame) (s : DataLinkState) → IsBareSabm f s → s.link0.endpoint.sapi ≡ Three →
    s.link0.endpoint.state ≡ Idle → IsNormalOpening f s
opened_by_either_side f s h three idle = grind (arith, h.sapi, h.command, h.content, three, idle)

pub returns : (f : Frame) (s : DataLinkState) → IsBareSabm f s → s.link0.endpoint.role ≡ Network →
    s.link0.endpoint.state ≡ Open →
    IsPossibleSabmInfo Open s.link0.endpoint.sapi s.link0.endpoint.sabm_info →
    s.link0.endpoint.sapi ≡ Zero ⊎ s.link0.heard ≡ true → IsNormalOpening f s × CountsFromZero (after_arrival f s).link0
returns f s h network opened possible (inl zero) =
    grind (arith, h.sapi, h.command, h.content, network, opened, zero)
returns f s h network opened possible (inr heard) =
    grind (arith, h.sapi, h.command, h.content, network, opened, heard)

pub established_afresh : (l : LinkState) → (is_open l.endpoint.state || is_closed l.endpoint.state) ≡ true → IsEstablishedAfresh l
established_afresh l h = grind (arith, h)
