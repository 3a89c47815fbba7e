-- The link of SAPI 0 of a data link does what it would do alone.
use Rattle.std.specs.Prelude.{◌≡◌, ◌≢◌, Bool, true, false, Option, Some, None}
use Rattle.std.specs.Option.{option_map}
use Rattle.std.proofs.Common.{arith, refl, ap}
use Rattle.lapdm_frame.specs.Content.{Frame}
use Rattle.lapdm_datalink.specs.Links.{SlotOutcome, slot_outcome, after_slot, after_received}
use Rattle.lapdm_datalink.specs.DataLinks.{DataLinkState, after_arrival, with_sapi3, with_clocks_moved, takes_sapi3, on_sapi0}
use Rattle.lapdm_datalink.specs.Slots.{GoesFirst}

link_first : (o : SlotOutcome) (x : Option Frame) (s : DataLinkState) → (with_sapi3 o x s).new_state.link0 ≡ o.link
link_first o x s = grind arith

frame_first : (o : SlotOutcome) (x : Option Frame) (s : DataLinkState) (f : Frame) → x ≡ Some f →
    (with_sapi3 o x s).frame ≡ Some (on_sapi0 s.link0.endpoint.sapi f)
frame_first o None s f e = absurd cc
frame_first o (Some g) s f e = ap (option_map (on_sapi0 s.link0.endpoint.sapi)) e

none_first : (o : SlotOutcome) (x : Option Frame) (s : DataLinkState) → x ≡ None →
    (with_sapi3 o x s).frame ≡ (slot_outcome s.link3).frame
none_first o None s e = refl
none_first o (Some g) s e = absurd cc

notices_first : (o : SlotOutcome) (x : Option Frame) (s : DataLinkState) → (with_sapi3 o x s).notices0 ≡ o.notices
notices_first o x s = grind arith

module _ (s : DataLinkState) (f : Frame) where
  arrives_first : f.sapi ≡ 0 → (after_arrival f s).link0 ≡ after_received f s.link0
  arrives_first e = grind (arith, e)

  arrives_else : (b : Bool) → takes_sapi3 s ≡ b → f.sapi ≢ 0 → (after_arrival f s).link0 ≡ s.link0
  arrives_else true t e = grind (arith, e, t)
  arrives_else false t e = grind (arith, e, t)

pub sapi_0_goes_first : (s : DataLinkState) → GoesFirst s
sapi_0_goes_first s = record {
  slot = link_first (slot_outcome (after_slot s.link0)) (slot_outcome (after_slot s.link0)).frame (with_clocks_moved s);
  frame = λ f e. frame_first (slot_outcome (after_slot s.link0)) (slot_outcome (after_slot s.link0)).frame (with_clocks_moved s) f e;
  none = λ e. none_first (slot_outcome (after_slot s.link0)) (slot_outcome (after_slot s.link0)).frame (with_clocks_moved s) e;
  notices = notices_first (slot_outcome (after_slot s.link0)) (slot_outcome (after_slot s.link0)).frame (with_clocks_moved s);
  arrival = λ f e. arrives_first s f e;
  other_arrival = λ f e. arrives_else s f _ refl e;
}
