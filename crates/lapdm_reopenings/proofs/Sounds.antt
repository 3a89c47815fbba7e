-- Each step of a run keeps what the links of both sides owe.
use Rattle.std.specs.Prelude.{Bool, true, false, if◌then◌else◌, ℕ, Option, Some, None}
use Rattle.lapdm_frame.specs.declared.Channel.{Channel}
use Rattle.lapdm_frame.specs.Content.{Frame}
use Rattle.lapdm_end.specs.lapdm_window.declared.Sapi.{Sapi}
use Rattle.lapdm_end.specs.lapdm_window.declared.Sapi.TheVariants.{Zero, Three}
use Rattle.lapdm_end.specs.lapdm_window.Ends.{Role, Mobile, Network, initial_endpoint}
use Rattle.lapdm_link.specs.Queues.{Queues}
use Rattle.lapdm_link.specs.Events.{other}
use Rattle.lapdm_datalink.specs.declared.data_links.Establishment.{Establishment}
use Rattle.lapdm_datalink.specs.Links.{LinkState, link_with, after_slot, slot_outcome, after_call, afresh}
use Rattle.lapdm_datalink.specs.DataLinks.{DataLinkState, link_with_sapi, with_link, having_main, with_clocks_moved, with_sapi3, taken_by}
use Rattle.lapdm_datalink.specs.DataLinks.{data_link_outcome, sapi_for_frame}
use Rattle.lapdm_delivery.specs.Runs.{RunState, Calls, Slot, UnitSlot, Arrives, HasMain, initial_run, data_link_of}
use Rattle.lapdm_delivery.specs.Runs.{with_data_link, link_at, after_arrival_if_any, sapi_of_endpoint}
use Rattle.lapdm_reopenings.specs.Reopenings.{Event, Does, Releases, after_event, IsPossible}
use Rattle.lapdm_reopenings.proofs.Own.{Own, own-afresh, own-call, own-received, own-slot}

-- both links of a data link
abbrev pub OwnBoth : Establishment → DataLinkState → Type 0
OwnBoth e d = (t : Sapi) → Own (sapi_of_endpoint e t) (link_with_sapi t d)

-- those of both sides
abbrev pub Sound : Establishment → RunState → Type 0
Sound e c = (role : Role) → OwnBoth e (data_link_of role c)

module _ (e : Establishment) where
  own-passed : {k : Sapi} (l : LinkState) → Own k l → Own k (after_slot l)
  own-passed l h = record { answer = h.answer; normal = h.normal }

  pub own-moved : (d : DataLinkState) → OwnBoth e d → OwnBoth e (with_clocks_moved d)
  own-moved d h Zero = own-passed d.link0 (h Zero)
  own-moved d h Three = by d.heard_sapi0
    where
      by : (b : Bool) → Own Three (if b then d.link3 else after_slot d.link3)
      by true = h Three
      by false = own-passed d.link3 (h Three)

  own-outcome : (d : DataLinkState) → OwnBoth e d → OwnBoth e (data_link_outcome d).new_state
  own-outcome d h = by (slot_outcome (with_clocks_moved d).link0).frame
    where
      m : DataLinkState
      m = with_clocks_moved d

      by : (a : Option Frame) → OwnBoth e (with_sapi3 (slot_outcome m.link0) a m).new_state
      by (Some f) Zero = own-slot (own-moved d h Zero)
      by (Some f) Three = own-moved d h Three
      by None Zero = own-slot (own-moved d h Zero)
      by None Three = own-slot (own-moved d h Three)

  own-replaced : (t : Sapi) (l : LinkState) (d : DataLinkState) → Own (sapi_of_endpoint e t) l → OwnBoth e d →
      OwnBoth e (with_link t l d)
  own-replaced Zero l d g h Zero = g
  own-replaced Zero l d g h Three = h Three
  own-replaced Three l d g h Zero = h Zero
  own-replaced Three l d g h Three = g

  own-taken : (a : Option Sapi) (f : Frame) (d : DataLinkState) → OwnBoth e d → OwnBoth e (taken_by a f d)
  own-taken None f d h Zero = h Zero
  own-taken None f d h Three = h Three
  own-taken (Some Zero) f d h Zero = own-received (h Zero) f
  own-taken (Some Zero) f d h Three = h Three
  own-taken (Some Three) f d h Zero = h Zero
  own-taken (Some Three) f d h Three = own-received (h Three) f

  own-arrived : (arrived : Option Frame) (d : DataLinkState) → OwnBoth e d → OwnBoth e (after_arrival_if_any arrived d)
  own-arrived None d h = h
  own-arrived (Some f) d h = own-taken (sapi_for_frame f d) f d h

  own-main : (b : Bool) (d : DataLinkState) → OwnBoth e d → OwnBoth e (having_main b d)
  own-main b d h Zero = h Zero
  own-main b d h Three = h Three

  sound-with : (r : Role) (d : DataLinkState) (air : Queues Frame) (c : RunState) → OwnBoth e d → Sound e c →
      Sound e (record (with_data_link r d c) { air = air })
  sound-with Mobile d air c g h Mobile = g
  sound-with Mobile d air c g h Network = h Network
  sound-with Network d air c g h Mobile = h Mobile
  sound-with Network d air c g h Network = g

  -- a data link replaces that of side `r`
  replaced : (r : Role) (d : DataLinkState) (c : RunState) → OwnBoth e d → Sound e c → Sound e (with_data_link r d c)
  replaced r d c g h = sound-with r d (with_data_link r d c).air c g h

  pub sound-after : (s : Sapi) (event : Event) (c : RunState) → IsPossible s event c → Sound e c → Sound e (after_event event c)
  sound-after s (Does (Calls r t call)) c may h =
      let d = data_link_of r c in
      replaced r (with_link t (after_call call (link_at r t c)) d) c
      (own-replaced t (after_call call (link_at r t c)) d (own-call (h r t) call may.0) (h r)) h
  sound-after s (Does (Slot r)) c may h = sound-with r _ _ c (own-outcome (data_link_of r c) (h r)) h
  sound-after s (Does (UnitSlot r t m)) c may h = sound-with r _ _ c (own-outcome (data_link_of r c) (h r)) h
  sound-after s (Does (Arrives sender arrived)) c may h =
      sound-with (other sender) _ _ c (own-arrived arrived (data_link_of (other sender) c) (h (other sender))) h
  sound-after s (Does (HasMain r b)) c may h =
      replaced r (having_main b (data_link_of r c)) c (own-main b (data_link_of r c) (h r)) h
  sound-after s (Releases r t) c may h =
      let d = data_link_of r c in
      replaced r (with_link t (afresh (link_at r t c)) d) c (own-replaced t (afresh (link_at r t c)) d (own-afresh (h r t)) (h r)) h

  own-first : (k : Sapi) (r : Role) (channel : Channel) (t : ℕ) → Own k (link_with (initial_endpoint r k channel) t)
  own-first k r channel t = record { answer = tt; normal = λ is. is }

  pub sound-first : (channel : Channel) (t200 : Role → Sapi → ℕ) → Sound e (initial_run channel e t200)
  sound-first channel t200 Mobile Zero = own-first (sapi_of_endpoint e Zero) Mobile channel (t200 Mobile Zero)
  sound-first channel t200 Mobile Three = own-first Three Mobile channel (t200 Mobile Three)
  sound-first channel t200 Network Zero = own-first (sapi_of_endpoint e Zero) Network channel (t200 Network Zero)
  sound-first channel t200 Network Three = own-first Three Network channel (t200 Network Three)
