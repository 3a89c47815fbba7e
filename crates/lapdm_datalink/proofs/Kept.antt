-- What a data link keeps, its role and channel, and that the frame of a slot fits in a block.
use Rattle.std.specs.Prelude.{◌≡◌, ℕ, Bool, true, false, ◌||◌, if◌then◌else◌, List, [], ◌∷◌, All, Option, Some}
use Rattle.std.specs.Prelude.{None, IfSome}
use Rattle.std.proofs.Common.{arith, refl, ap, ◌∙◌, inl, inr}
use Rattle.std.proofs.lemmas.List.Elements.{All-head}
use Rattle.lapdm_frame.specs.Content.{Content, Frame, Ui, fill_frame}
use Rattle.lapdm_frame.specs.Frames.{FrameFits}
use Rattle.lapdm_frame.specs.declared.Channel.{Channel}
use Rattle.lapdm_end.specs.lapdm_window.declared.Sapi.{Sapi}
use Rattle.lapdm_end.specs.lapdm_window.declared.Sapi.TheVariants.{Zero, Three}
use Rattle.lapdm_end.specs.lapdm_window.segmenting.Segments.{Message}
use Rattle.lapdm_end.specs.lapdm_window.Ends.{Role, IsValidEndpoint}
use Rattle.lapdm_end.specs.lapdm_window.Calls.{Call, SendsUi, Repeats, T200Expires, refusal_of, call_outcome, IsCallAllowedForEndpoint}
use Rattle.lapdm_link.proofs.lapdm_window.Lemmas.{keeps-call}
use Rattle.lapdm_datalink.specs.Links.{received_notices, ui_frame, LinkState, first_frame, for_call, after_call, after_slot, slot_outcome}
use Rattle.lapdm_datalink.specs.Links.{after_received, is_opened_again, is_return, is_reopened_by_frame, renewed_for, for_frame}
use Rattle.lapdm_datalink.specs.Links.{with_outcome, received_outcome, heard_with}
use Rattle.lapdm_datalink.specs.DataLinks.{DataLinkState, IsDataLink, link_with_sapi, with_link, sapi_for_frame, taken_by, after_arrival}
use Rattle.lapdm_datalink.specs.DataLinks.{with_clocks_moved, with_sapi3, data_link_outcome, is_ui, on_sapi0, unit_frame}
use Rattle.lapdm_datalink.specs.Slots.{IsStepOfEndpoint}
use Rattle.lapdm_datalink.proofs.Lemmas.{IsSameLink, same_after_call, same_after_received, same_slot, t200_is_allowed}
use Rattle.lapdm_datalink.proofs.Answering.{step_of_endpoint}
use Rattle.lapdm_datalink.proofs.First.{sapi_0_goes_first}

-- the data link has this role and channel
pub record IsOn (role : Role) (channel : Channel) (s : DataLinkState) : Type 0 where
  pub has_role : s.link0.endpoint.role ≡ role
  pub has_channel : s.link0.endpoint.channel ≡ channel

-- its endpoints are valid, and the answers that they owe fit in a block
pub record IsFit (l : LinkState) : Type 0 where
  pub valid : IsValidEndpoint l.endpoint
  pub answer : IfSome l.answer (FrameFits l.endpoint.channel)

module _ {role : Role} {channel : Channel} {s : DataLinkState} (h : IsOn role channel s) where
  on_replaced : (p : Sapi) (l : LinkState) → IsSameLink (link_with_sapi p s) l → IsOn role channel (with_link p l s)
  on_replaced Zero l g = record { has_role = g.role ∙ h.has_role; has_channel = g.channel ∙ h.has_channel }
  on_replaced Three l g = record { has_role = h.has_role; has_channel = h.has_channel }

  pub on_call : (p : Sapi) (call : Call) → IsValidEndpoint (link_with_sapi p s).endpoint →
      IsCallAllowedForEndpoint (link_with_sapi p s).endpoint call →
      refusal_of call (for_call call (link_with_sapi p s)).endpoint ≡ None →
      IsOn role channel (with_link p (after_call call (link_with_sapi p s)) s)
  on_call p call valid allowed ok = on_replaced p _ (same_after_call call (link_with_sapi p s) valid allowed ok)

  pub on_arrival : (f : Frame) → IsDataLink s → ((p : Sapi) → IsValidEndpoint (link_with_sapi p s).endpoint) →
      FrameFits channel f → IsOn role channel (after_arrival f s)
  on_arrival f v valid fits = by (sapi_for_frame f s)
    where
      by : (a : Option Sapi) → IsOn role channel (taken_by a f s)
      by None = record { has_role = h.has_role; has_channel = h.has_channel }
      by (Some Zero) =
          let g = same_after_received f s.link0 (valid Zero) (rw h.has_channel fits) in
          record { has_role = g.role ∙ h.has_role; has_channel = g.channel ∙ h.has_channel }
      by (Some Three) = record { has_role = h.has_role; has_channel = h.has_channel }

  pub on_slot : IsOn role channel (data_link_outcome s).new_state
  on_slot =
      let g = same_slot (after_slot s.link0) in
      let e = (sapi_0_goes_first s).slot in
      record {
        has_role = ap (λ (l : LinkState). l.endpoint.role) e ∙ g.role ∙ h.has_role;
        has_channel = ap (λ (l : LinkState). l.endpoint.channel) e ∙ g.channel ∙ h.has_channel;
      }

-- ---- the frame of a slot fits

first-fits : (c : Channel) (fs : List Frame) → All (FrameFits c) fs → IfSome (first_frame fs) (FrameFits c)
first-fits c [] h = tt
first-fits c (f ∷ fs) h = All-head (FrameFits c) f fs h

-- a frame that fits does with SAPI 0
on_sapi0-fits : (sapi : Sapi) (c : Channel) (f : Frame) → FrameFits c f → FrameFits c (on_sapi0 sapi f)
on_sapi0-fits sapi c f h = grind arith

slot-fits : (l : LinkState) → IsFit l → IfSome (slot_outcome l).frame (FrameFits l.endpoint.channel)
slot-fits l h = by (step_of_endpoint l)
  where
    by : IsStepOfEndpoint l (slot_outcome l) → IfSome (slot_outcome l).frame (FrameFits l.endpoint.channel)
    by (inl k) = elim k.frame [
      | inl e ↦ rw e tt
      | inr e ↦ rw e h.answer
    ]
    by (inr (inl k)) = rw k.frame (first-fits l.endpoint.channel (call_outcome Repeats l.endpoint).frames
        (keeps-call Repeats l.endpoint h.valid tt (rw k.awaits refl)).frames)
    by (inr (inr k)) = rw k.frame (first-fits l.endpoint.channel (call_outcome T200Expires l.endpoint).frames
        (keeps-call T200Expires l.endpoint h.valid tt (t200_is_allowed l.endpoint k.awaits)).frames)

pub data_link_slot-fits : (s : DataLinkState) → IsDataLink s → ((p : Sapi) → IsFit (link_with_sapi p s)) →
    IfSome (data_link_outcome s).frame (FrameFits s.link0.endpoint.channel)
data_link_slot-fits s v h = by (slot_outcome (after_slot s.link0)).frame refl
  where
    passed-fit : (l : LinkState) → IsFit l → IsFit (after_slot l)
    passed-fit l g = record { valid = g.valid; answer = g.answer }

    by3 : (heard : Bool) → IfSome (slot_outcome (if heard then s.link3 else after_slot s.link3)).frame
        (FrameFits s.link3.endpoint.channel)
    by3 true = slot-fits s.link3 (h Three)
    by3 false = slot-fits (after_slot s.link3) (passed-fit s.link3 (h Three))

    by : (a : Option Frame) → (slot_outcome (after_slot s.link0)).frame ≡ a →
        IfSome (with_sapi3 (slot_outcome (after_slot s.link0)) a (with_clocks_moved s)).frame (FrameFits s.link0.endpoint.channel)
    by (Some f) e = on_sapi0-fits s.link0.endpoint.sapi _ f (rw e at (slot-fits (after_slot s.link0) (passed-fit s.link0 (h Zero))))
    by None e = rw (← v.channel) (by3 s.heard_sapi0)

-- the UI frame of an accepted message fits, and does with SAPI 0
pub unit-fits : (m : Message) (l : LinkState) → IsFit l → refusal_of (SendsUi m) l.endpoint ≡ None →
    FrameFits l.endpoint.channel (ui_frame m l.endpoint)
unit-fits m l h ok = All-head (FrameFits l.endpoint.channel) (ui_frame m l.endpoint) []
    (keeps-call (SendsUi m) l.endpoint h.valid tt ok).frames

pub unit_frame-fits : (p : Sapi) (m : Message) (s : DataLinkState) → IsFit (link_with_sapi p s) →
    refusal_of (SendsUi m) (link_with_sapi p s).endpoint ≡ None →
    FrameFits (link_with_sapi p s).endpoint.channel (unit_frame p m s)
unit_frame-fits Zero m s h ok = on_sapi0-fits s.link0.endpoint.sapi _ (ui_frame m s.link0.endpoint) (unit-fits m s.link0 h ok)
unit_frame-fits Three m s h ok = unit-fits m s.link3 h ok

-- ---- a UI frame changes nothing

module _ (n : ℕ) (cr p : Bool) (info : List ℕ) (l : LinkState) where
  abbrev unit : Frame
  unit = record { sapi = n; cr = cr; content = Ui p info }

  ui-not_again : is_opened_again unit l ≡ false
  ui-not_again = grind arith

  ui-no_return : is_return unit l ≡ false
  ui-no_return = grind arith

  ui-not_reopened : is_reopened_by_frame unit l ≡ false
  ui-not_reopened = grind arith

  ui-renews : renewed_for unit l ≡ l
  ui-renews = rw (ui-not_again, ui-no_return) refl

  ui-for : for_frame unit l ≡ l
  ui-for = rw ui-not_reopened refl

  ui-outcome : with_outcome (received_outcome unit l) l ≡ l
  ui-outcome = grind arith

  ui-heard : heard_with unit l ≡ l.heard
  ui-heard = grind (arith, ui-not_reopened)

pub ui-same : (n : ℕ) (cr : Bool) (c : Content) (l : LinkState) → is_ui c ≡ true →
    after_received (record { sapi = n; cr = cr; content = c }) l ≡ l
ui-same n cr (Ui p info) l h =
    rw (ui-renews n cr p info l, ui-for n cr p info l, ui-outcome n cr p info l, ui-heard n cr p info l) refl
ui-same n cr c l h = absurd cc

pub fill-same : (cr : Bool) (d : DataLinkState) → after_arrival (fill_frame cr) d ≡ d
fill-same cr d = λ i. record d { link0 = ui-same 0 cr (Ui false []) d.link0 refl i; heard_sapi0 = heard d.heard_sapi0 i }
  where
    heard : (b : Bool) → (b || false) ≡ b
    heard b = grind arith

pub fill-silent : (cr : Bool) (l : LinkState) → received_notices (fill_frame cr) l ≡ []
fill-silent cr l = grind arith
