-- Two links of one SAPI on a channel, slot by slot, of which one side alone opens the link, once. In each slot each side sends one block,
-- which arrives `delay` slots later, before the slot after that, or is lost. A side has the place of the mobile if it opens the link, as a
-- mobile does on SAPI 0, and else that of the network: here `Role` says the place.
use Rattle.std.specs.Prelude.{◌≡◌, ◌-◌, ℕ, zero, suc, Bool, true, false, not, ◌&&◌, if◌then◌else◌, List, []}
use Rattle.std.specs.Prelude.{◌∷◌}
use Rattle.std.specs.Prelude.{get_or, Option, Some, None}
use Rattle.lapdm_frame.specs.declared.Channel.{Channel}
use Rattle.lapdm_frame.specs.Content.{Frame}
use Rattle.lapdm_end.specs.lapdm_window.declared.Sapi.{Sapi}
use Rattle.lapdm_end.specs.lapdm_window.declared.Sapi.TheVariants.{Zero, Three}
use Rattle.lapdm_end.specs.lapdm_window.declared.Refused.{Refused}
use Rattle.lapdm_end.specs.lapdm_window.Ends.{Role, Mobile, Network, initial_endpoint, awaits_answer}
use Rattle.lapdm_end.specs.lapdm_window.Calls.{Call, Opens, OpensWithoutInfo, Sends, refusal_of, call_outcome}
use Rattle.lapdm_link.specs.Events.{other}
use Rattle.lapdm_datalink.specs.Links.{LinkState, link_with, with_outcome, ignores, received_outcome, slot_outcome}
use Rattle.lapdm_delivery.specs.Lockstep.{carried}

-- the SAPI of the two links, and the side that opens them
pub record Pair : Type 0 where
  pub sapi : Sapi
  pub opener : Role

-- the place of a side, and the side in a place: each is the other's inverse
abbrev pub place : (opener role : Role) → Role
place Mobile role = role
place Network role = other role

-- one side's part of a slot: the calls of layer 3 to its link, in order; whether its clock stands still if no answer is awaited, as that of
-- SAPI 3 does after a frame of SAPI 0; and whether its block is lost
pub record Turn : Type 0 where
  pub calls : List Call
  pub is_held : Bool
  pub is_lost : Bool

-- one side: its link, and what its blocks brought on the air so far, newest first; `None` for a block that was lost or has no frame of the
-- link
pub record Side : Type 0 where
  pub link : LinkState
  pub sent : List (Option Frame)

-- the link after what arrives, if anything
abbrev pub after_arriving : Option Frame → LinkState → LinkState
after_arriving None l = l
after_arriving (Some f) l = if ignores f l then l else with_outcome (received_outcome f l) l

-- the link after calls of layer 3; a refused call changes nothing
abbrev pub after_call : (refused : Option Refused) (call : Call) (link : LinkState) → LinkState
after_call None call l = with_outcome (call_outcome call l.endpoint) l
after_call (Some why) call l = l

abbrev pub after_calls : List Call → LinkState → LinkState
after_calls [] l = l
after_calls (call ∷ calls) l = after_calls calls (after_call (refusal_of call l.endpoint) call l)

-- the link after a slot has passed
abbrev pub after_slot : (is_held : Bool) → LinkState → LinkState
after_slot held l = record l { clock = if held && not (awaits_answer l.endpoint) then l.clock else l.clock - 1 }

-- the link in its slot before it sends, given what arrived
abbrev pub before_sending : (arrived : Option Frame) (turn : Turn) (link : LinkState) → LinkState
before_sending arrived turn l = after_slot turn.is_held (after_calls turn.calls (after_arriving arrived l))

-- a side after its slot
abbrev pub side_after : (turn : Turn) (arrived : Option Frame) (side : Side) → Side
side_after turn arrived s =
    let o = slot_outcome (before_sending arrived turn s.link) in
    record { link = o.link; sent = carried turn.is_lost o.frame ∷ s.sent }

-- the slots of a run, and how late the blocks arrive in it
pub record Run : Type 0 where
  pub delay : ℕ
  pub t200 : ℕ
  pub channel : Channel
  pub pair : Pair
  pub turn : (slot : ℕ) (place : Role) → Turn

-- the side in this place before the slot with this number, counted from 0
abbrev pub side_at : (run : Run) (slot : ℕ) (place : Role) → Side
side_at r zero p = record { link = link_with (initial_endpoint (place r.pair.opener p) r.pair.sapi r.channel) r.t200; sent = [] }
side_at r (suc n) p = side_after (r.turn n p) (get_or (side_at r n (other p)).sent r.delay None) (side_at r n p)

-- layer 3 may make this call to the link in this place if it releases nothing: the opener opens it, and both sides send messages
abbrev pub IsUse : (pair : Pair) (place : Role) (call : Call) → Type 0
IsUse w p (Opens info) = (p ≡ Mobile) × (w.sapi ≡ Zero) × (w.opener ≡ Mobile)
IsUse w p OpensWithoutInfo = (p ≡ Mobile) × (w.sapi ≡ Three)
IsUse w p (Sends m) = Unit {0}
IsUse w p other = ⊥
