-- While an endpoint is in Idle, the other end of its link sends it UI frames and SABMs alone. So an endpoint in Idle returns no answer.
use Rattle.{
  lapdm_link.{
    proofs.Lemmas.{◌≡◌, refl, sym, ◌∙◌, arith, Bool, true, false, List, [], ◌∷◌, drop, Some, None, Frame, Content, Sabm},
    proofs.Lemmas.{Ui, Role, Mobile, Network, Sapi, Zero, Three, EndpointState, State, Idle, Opening, Closed, Outcome, Call, Opens},
    proofs.Lemmas.{OpensWithoutInfo, Sends, SendsUi, Closes, T200Expires, Repeats, SendsFillFrame, call_outcome, refusal_of, frame_outcome},
    proofs.Lemmas.{other, World, end_of, way, acted, without_oldest_item, AllOf, of-append, IsPlaced, HasWindowOfOne, end_of-acted},
    proofs.Lemmas.{end_of-acted_else, way-acted, way-acted_other, other_is, taken-frame, Goes, remains, ends, closes, begins, opens},
    proofs.Lemmas.{initial_world, Channel, FrameFits, QueueCapacity},
    specs.{Events.BothSides, Worlds.MayBeReadFor},
  },
  lapdm_datalink.specs.DataLinks.is_ui,
}

-- whether the content may be in transit to an endpoint in Idle: UI, or a SABM that this end may receive
abbrev pub is_early : Role → Sapi → Content → Bool
is_early r s (Ui p info) = true
is_early Mobile Zero (Sabm p info) = false
is_early r s (Sabm p info) = true
is_early r s other = false

-- whether the other end of an endpoint in Idle may be in this state
abbrev pub is_early_state : Role → Sapi → State → Bool
is_early_state r s Idle = true
is_early_state r s Closed = true
is_early_state Mobile Zero Opening = false
is_early_state r s Opening = true
is_early_state r s state = false

abbrev pub AllUi : List Frame → Type 0
AllUi fs = AllOf (λ f. is_ui f.content ≡ true) fs

abbrev pub AllEarly : Role → Sapi → List Frame → Type 0
AllEarly r s fs = AllOf (λ f. is_early r s f.content ≡ true) fs

-- what holds of a link while its end at side `r` is in Idle; its other end is at side `q`
pub record IsEarly (r q : Role) (s : Sapi) (w : World) : Type 0 where
  pub sent : AllUi (way r w)
  pub state : is_early_state r s (end_of q s w).state ≡ true
  pub comes : AllEarly r s (way q w)

abbrev pub StaysEarly : (r q : Role) (s : Sapi) (w : World) → Type 0
StaysEarly r q s w = (end_of r s w).state ≡ Idle → IsEarly r q s w

-- so it is at both ends
pub record IsFresh (s : Sapi) (w : World) : Type 0 where
  pub mobile : StaysEarly Mobile Network s w
  pub network : StaysEarly Network Mobile s w

fresh_at : {s : Sapi} {w : World} (r : Role) → IsFresh s w → StaysEarly r (other r) s w × StaysEarly (other r) r s w
fresh_at Mobile h = (h.mobile, h.network)
fresh_at Network h = (h.network, h.mobile)

fresh_from : {s : Sapi} {w : World} (r : Role) → StaysEarly r (other r) s w → StaysEarly (other r) r s w → IsFresh s w
fresh_from Mobile h g = record { mobile = h; network = g }
fresh_from Network h g = record { mobile = g; network = h }

-- ---- the steps of an endpoint

module _ (x : EndpointState) where
  -- a call that leaves an endpoint in Idle finds it there, and sends a UI frame at most
  idle-call : (call : Call) → refusal_of call x ≡ None → (call_outcome call x).new_state.state ≡ Idle →
      (x.state ≡ Idle) × AllUi (call_outcome call x).frames
  idle-call (Opens info) ok h = absurd cc
  idle-call OpensWithoutInfo ok h = absurd cc
  idle-call (Sends m) ok h = absurd (grind arith)
  idle-call (SendsUi m) ok h = (h, (refl, tt))
  idle-call Closes ok h = absurd cc
  idle-call T200Expires ok h = absurd (grind arith)
  idle-call Repeats ok h = absurd (grind arith)
  idle-call SendsFillFrame ok h = (h, (refl, tt))

  -- what the end at side `q` does after a call while its other end is in Idle
  early-call : (q : Role) (s : Sapi) (call : Call) → IsPlaced q s call → refusal_of call x ≡ None →
      is_early_state (other q) s x.state ≡ true →
      (is_early_state (other q) s (call_outcome call x).new_state.state ≡ true) × AllEarly (other q) s (call_outcome call x).frames
  early-call q s (Sends m) placed ok h = absurd (grind arith)
  early-call q s Closes placed ok h = absurd (grind arith)
  early-call q s (SendsUi m) placed ok h = (h, (grind arith, tt))
  early-call q s SendsFillFrame placed ok h = (h, (grind arith, tt))
  early-call q s call placed ok h = grind arith

  -- a UI frame changes nothing
  ui-frame : (f : Frame) → is_ui f.content ≡ true → ((frame_outcome f x).new_state ≡ x) × ((frame_outcome f x).frames ≡ [])
  ui-frame f h = grind arith

  -- an endpoint that stays in Idle was there, and returns nothing
  idle-was : HasWindowOfOne x → (f : Frame) → (frame_outcome f x).new_state.state ≡ Idle → x.state ≡ Idle
  idle-was w f h = by_kind (taken-frame x w f).goes
    where
      by_kind : Goes None f.content x (frame_outcome f x) → x.state ≡ Idle
      by_kind (remains same e n) = sym same ∙ h
      by_kind (ends over e n) = absurd cc
      by_kind (closes now closing e n) = absurd cc
      by_kind (begins opening a n) = absurd a
      by_kind (opens n now e by) = absurd cc

  idle-frame : (r : Role) (s : Sapi) (f : Frame) → x.role ≡ r → x.sapi ≡ s → x.state ≡ Idle →
      is_early r s f.content ≡ true →
      (frame_outcome f x).new_state.state ≡ Idle → (frame_outcome f x).frames ≡ []
  idle-frame r s f role sapi idle early h = grind arith

-- ---- a step keeps this

rest-all : (P : Frame → Type 0) (fs : List Frame) → AllOf P fs → AllOf P (drop 1 fs)
rest-all P [] h = h
rest-all P (f ∷ fs) h = h.1

pub fresh-start : (capacity : QueueCapacity) (channel : Channel) (s : Sapi) → IsFresh s (initial_world capacity channel)
fresh-start capacity channel Zero = record {
  mobile = λ e. record { sent = tt; state = refl; comes = tt };
  network = λ e. record { sent = tt; state = refl; comes = tt };
}
fresh-start capacity channel Three = record {
  mobile = λ e. record { sent = tt; state = refl; comes = tt };
  network = λ e. record { sent = tt; state = refl; comes = tt };
}

module _ {s : Sapi} {w : World} (h : IsFresh s w) where
  pub fresh-loses : (sender : Role) → IsFresh s (without_oldest_item sender w)
  fresh-loses Mobile = record {
    mobile = λ e. (let g = h.mobile e in record { sent = rest-all _ w.queues.up g.sent; state = g.state; comes = g.comes });
    network = λ e. (let g = h.network e in record { sent = g.sent; state = g.state; comes = rest-all _ w.queues.up g.comes });
  }
  fresh-loses Network = record {
    mobile = λ e. (let g = h.mobile e in record { sent = g.sent; state = g.state; comes = rest-all _ w.queues.down g.comes });
    network = λ e. (let g = h.network e in record { sent = rest-all _ w.queues.down g.sent; state = g.state; comes = g.comes });
  }

-- the end at side `r` acts
fresh-acts : {s : Sapi} {w : World} (r : Role) (o : Outcome) →
    (o.new_state.state ≡ Idle → IsEarly r (other r) s w × AllUi o.frames) →
    ((end_of (other r) s w).state ≡ Idle →
    IsEarly (other r) r s w × (is_early_state (other r) s o.new_state.state ≡ true) × AllEarly (other r) s o.frames) →
    IsFresh s (acted r s o w)
fresh-acts {s} {w} r o own peer =
    let same : end_of (other r) s (acted r s o w) ≡ end_of (other r) s w = end_of-acted_else r s o w (other r) s (other_is r s) in
    fresh_from r (λ e. (let g = own (rw (end_of-acted r s o w) at e) in record {
      sent = rw (way-acted r s o w) (of-append _ (way r w) o.frames g.0.sent g.1);
      state = rw same g.0.state;
      comes = rw (way-acted_other r s o w) g.0.comes;
    })) (λ e. (let g = peer (rw same at e) in record {
      sent = rw (way-acted_other r s o w) g.0.sent;
      state = rw (end_of-acted r s o w) g.1;
      comes = rw (way-acted r s o w) (of-append _ (way r w) o.frames g.0.comes g.2);
    }))

-- what an end reads for a frame in transit: it fits if that frame does, and is a UI frame or an early one if that frame is
pub record IsReadFor (r : Role) (sides : BothSides) (g f : Frame) : Type 0 where
  pub may : MayBeReadFor r sides g f
  pub fits : (channel : Channel) → FrameFits channel f → FrameFits channel g
  pub early : (q : Role) (s : Sapi) → is_early q s f.content ≡ true → is_early q s g.content ≡ true
  pub ui : is_ui f.content ≡ true → is_ui g.content ≡ true

abbrev pub ReadsOldest : Role → BothSides → Frame → List Frame → Type 0
ReadsOldest r sides g [] = ⊥
ReadsOldest r sides g (f ∷ fs) = IsReadFor r sides g f

module _ {s : Sapi} {w : World} (h : IsFresh s w) (r : Role) where
  pub fresh-calls : (call : Call) → IsPlaced r s call → refusal_of call (end_of r s w) ≡ None →
      IsFresh s (acted r s (call_outcome call (end_of r s w)) w)
  fresh-calls call placed ok =
      fresh-acts r (call_outcome call (end_of r s w))
      (λ e. (let g = idle-call (end_of r s w) call ok e in ((fresh_at r h).0 g.0, g.1)))
      (λ e. (let g = (fresh_at r h).1 e in let t = early-call (end_of r s w) r s call placed ok g.state in (g, t.0, t.1)))

  pub fresh-takes : (g : Frame) (q : List Frame) → way (other r) w ≡ q → ReadsOldest r w.ends g q →
      (end_of r s w).role ≡ r → (end_of r s w).sapi ≡ s → HasWindowOfOne (end_of r s w) →
      IsFresh s (acted r s (frame_outcome g (end_of r s w)) (without_oldest_item (other r) w))
  fresh-takes g [] front read role sapi window = absurd read
  fresh-takes g (f ∷ fs) front read role sapi window =
      let x = end_of r s w in
      let v = fresh-loses h (other r) in
      fresh-acts r (frame_outcome g x) (λ e. (let idle = idle-was x window g e in
      let comes : AllEarly r s (f ∷ fs) = rw front at ((fresh_at r h).0 idle).comes in
      ((fresh_at r v).0 idle, rw (idle-frame x r s g role sapi idle (read.early r s comes.0) e) tt)))
      (λ e. (let sent : AllUi (f ∷ fs) = rw front at ((fresh_at r h).1 e).sent in
      let same = ui-frame x g (read.ui sent.0) in
      ((fresh_at r v).1 e, rw same.0 ((fresh_at r h).1 e).state, rw same.1 tt)))

  -- an endpoint in Idle returns nothing for what arrives
  pub idle-silent : (g : Frame) (q : List Frame) → way (other r) w ≡ q → ReadsOldest r w.ends g q →
      (end_of r s w).role ≡ r → (end_of r s w).sapi ≡ s → HasWindowOfOne (end_of r s w) →
      (frame_outcome g (end_of r s w)).new_state.state ≡ Idle →
      ((end_of r s w).state ≡ Idle) × ((frame_outcome g (end_of r s w)).frames ≡ [])
  idle-silent g [] front read role sapi window e = absurd read
  idle-silent g (f ∷ fs) front read role sapi window e =
      let x = end_of r s w in
      let idle = idle-was x window g e in
      let comes : AllEarly r s (f ∷ fs) = rw front at ((fresh_at r h).0 idle).comes in
      (idle, idle-frame x r s g role sapi idle (read.early r s comes.0) e)
