-- States of a session of `lapdm_link` with one event after another, in queues of unlimited length.
use Rattle.{
  lapdm_link.{
    proofs.Lemmas.{◌≡◌, refl, ◌++◌, true, List, [], ◌∷◌, map, nat_eq, None, Some, Frame, Channel, Role},
    proofs.Lemmas.{Mobile, Network, Call, Sapi},
    proofs.Lemmas.{call_outcome, refusal_of, frame_outcome, sapi_number, other, LogLine, Asked, Notified, World, inl, inr, initial_world},
    proofs.Lemmas.{end_of, way, acted, without_oldest_item, IsPlaced, AllFit, All-head, FrameFits, arith},
    specs.{Events.{BothSides, unbounded_capacity}, Worlds.IsOldestSentOrReplaced},
  },
  lapdm_delivery.proofs.Idle.{IsFresh, ReadsOldest, fresh-start, fresh-calls, fresh-takes, fresh-loses, idle-silent},
}
use Rattle.lapdm_end.specs.lapdm_window.declared.State.TheVariants as S
use Rattle.lapdm_link.proofs.Carriers as L

abbrev pub start : Channel → World
start channel = initial_world unbounded_capacity channel

-- a session with events of this SAPI, in which frames arrive in order or are lost, reaches the state `w` with the log `ls`
pub record Reaches (s : Sapi) (w : World) (ls : List LogLine) : Type 0 where
  pub channel : Channel
  pub reached : L.IsReached (Unit {0}) channel w ls
  pub fresh : IsFresh s w

pub at_start : (channel : Channel) (s : Sapi) → Reaches s (start channel) []
at_start channel s = record {
  channel = channel;
  reached = L.reached-start (Unit {0}) channel;
  fresh = fresh-start unbounded_capacity channel s;
}

-- a frame that is read fits in a block, since those in transit do
oldest-fits : (channel : Channel) (r : Role) (ends : BothSides) (f : Frame) (fs : List Frame) → AllFit channel fs →
    ReadsOldest r ends f fs → FrameFits channel f
oldest-fits channel r ends f (g ∷ gs) fit read = read.fits channel (All-head (FrameFits channel) g gs fit)
oldest-fits channel r ends f [] fit read = absurd read

oldest-may : (r : Role) (ends : BothSides) (f : Frame) (fs : List Frame) → ReadsOldest r ends f fs →
    IsOldestSentOrReplaced (other (other r)) ends (Some f) fs
oldest-may Mobile ends f (g ∷ gs) read = read.may
oldest-may Network ends f (g ∷ gs) read = read.may
oldest-may r ends f [] read = absurd read

module _ {s : Sapi} {w : World} {ls : List LogLine} (h : Reaches s w ls) where
  -- the endpoint carries out a call
  pub calls : (r : Role) (call : Call) → IsPlaced r s call → refusal_of call (end_of r s w) ≡ None →
      Reaches s (acted r s (call_outcome call (end_of r s w)) w)
      (ls ++ Asked r s call ∷ map (Notified r s) (call_outcome call (end_of r s w)).notices)
  calls r call placed ok = record {
    channel = h.channel;
    reached = L.calls h.reached r s call placed ok;
    fresh = fresh-calls h.fresh r call placed ok;
  }

  -- what is read for the oldest frame in transit arrives at the endpoint
  pub takes : (r : Role) (f : Frame) → nat_eq f.sapi (sapi_number s) ≡ true → ReadsOldest r w.ends f (way (other r) w) →
      Reaches s (acted r s (frame_outcome f (end_of r s w)) (without_oldest_item (other r) w))
      (ls ++ map (Notified r s) (frame_outcome f (end_of r s w)).notices)
  takes r f on known =
      let x = h.reached.reported r s in
      record {
        channel = h.channel;
        reached = L.takes h.reached r s f on (
          oldest-fits h.channel r w.ends f (way (other r) w) (h.reached.fit.queues (other r)) known,
          λ sound. oldest-may r w.ends f (way (other r) w) known,
        );
        fresh = fresh-takes h.fresh r f (way (other r) w) refl known x.role x.sapi x.window_of_one;
      }

  -- an endpoint in Idle was there before, and returns nothing for what arrives
  pub silent : (r : Role) (f : Frame) → ReadsOldest r w.ends f (way (other r) w) →
      (frame_outcome f (end_of r s w)).new_state.state ≡ S.Idle →
      ((end_of r s w).state ≡ S.Idle) × ((frame_outcome f (end_of r s w)).frames ≡ [])
  silent r f known e =
      let x = h.reached.reported r s in idle-silent h.fresh r f (way (other r) w) refl known x.role x.sapi x.window_of_one e

  -- the oldest frame in transit is lost
  pub loses : (sender : Role) → Reaches s (without_oldest_item sender w) ls
  loses sender = record { channel = h.channel; reached = L.loses h.reached sender; fresh = fresh-loses h.fresh sender }
