-- A DM with F = 1 ends an open link only if a repeat with P = 1 awaits its answer.
use Rattle.std.specs.Prelude.{◌≡◌, true, false}
use Rattle.std.proofs.Common.{arith}
use Rattle.lapdm_frame.specs.Content.{Frame}
use Rattle.lapdm_end.specs.lapdm_window.declared.State.TheVariants.{Open}
use Rattle.lapdm_end.specs.lapdm_window.Ends.{EndpointState, awaits_answer}
use Rattle.lapdm_end.specs.lapdm_window.Calls.{t200_expiry}
use Rattle.lapdm_datalink.specs.Links.{LinkState, SlotOutcome, has_polled, slot_outcome}
use Rattle.lapdm_datalink.specs.Slots.{IsFinalDmInOpen, EndsAsFailed, ChangesNothing, expires_in}
use Rattle.lapdm_datalink.proofs.Answering.{IsSlot, sabm_first, idles, answering, repeating, expiring, is_slot}

pub ends : (f : Frame) (l : LinkState) → IsFinalDmInOpen f l → has_polled l.endpoint ≡ true → EndsAsFailed f l
ends f l h polled = grind (arith, h.state, h.response, h.content, polled)

pub is_ignored : (f : Frame) (l : LinkState) → IsFinalDmInOpen f l → has_polled l.endpoint ≡ false → ChangesNothing f l
is_ignored f l h unpolled = grind (arith, h.state, h.response, h.content, unpolled)

expiry_polls : (e : EndpointState) → awaits_answer e ≡ true → (t200_expiry e).new_state.state ≡ Open →
    has_polled (t200_expiry e).new_state ≡ true
expiry_polls e awaits still = grind (arith, awaits, still)

pub polls : (l : LinkState) → expires_in l ≡ true → (slot_outcome l).link.endpoint.state ≡ Open →
    has_polled (slot_outcome l).link.endpoint ≡ true
polls l h = by (slot_outcome l) (is_slot l)
  where
    by : (o : SlotOutcome) → IsSlot l o → o.link.endpoint.state ≡ Open → has_polled o.link.endpoint ≡ true
    by o (sabm_first opening first due new) still = absurd (grind (arith, h, new))
    by o (idles first owes_none due) still = absurd (grind (arith, h, due))
    by o (answering f first owes back) still = absurd (grind (arith, h, owes, back))
    by o (repeating awaits due new) still = absurd (grind (arith, h, new))
    by o (expiring awaits sent due over) still = expiry_polls l.endpoint awaits still
