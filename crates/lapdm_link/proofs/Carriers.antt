-- Sessions over any carrier: what is in transit there encodes the frames in transit of a session of frames with the same log, so the
-- claims about sessions of frames hold for it.
use Rattle.{
  lapdm_link.{
    proofs.{
      Acting.ends,
      Events.{IsPlaced, Knows, acted, by_event, each_way, end_of, way, with_frames-none, with_frames, without_oldest_item},
      Fitting.{AllFit, IsFitting, fits-step, initial-fits, with_items_appended-all},
      Links.{Step, lines},
      Order.{AllReported, in_order-step, initial-reported, order_of},
      Rules.{Known, known},
      Sessions.{IsSession, initial-session, session-step},
    },
    specs.{
      Carriers.{IsRun, log_of_turns},
      Claims.{AckedAtMostDelivered, Asked, Claims, HasNoticesInOrder, LogLine, Notified, RivalSabm, answer_log_lines},
      Events.{Ask, Close, Deliver, Event, Idle, Lose, OpenBare, Open, Repeat, Rival, SendUi, Send, SessionEvent, T200Expiry, event_step},
      Events.{other, queues_after_removal, rival_refusal, rival_sabm, unbounded_capacity},
      Queues.{Queues, empty_queues, queue_of, with_items_appended},
      Worlds.{IsBenignEventExceptReplaced, IsOldestSentOrReplaced, World, answer_unless_refused, initial_world, refusal},
      Worlds.world_after_possible_refusal,
    },
  },
  lapdm_window.{
    proofs.{Lemmas.Keeps, lapdm_frame.Lemmas.octets_canonical},
    specs.{
      Calls.{Call, Closes, OpensWithoutInfo, Opens, Repeats, SendsFillFrame, SendsUi, Sends, T200Expires, call_outcome, refusal_of},
      Ends.{Mobile, Network, Outcome, Role, sapi_number},
      Tables.frame_outcome,
      declared.{Sapi.{TheVariants.{Three, Zero}, Sapi}, State.{TheVariants.{Idle, Open}, State}},
      lapdm_frame.{Content.Frame, Frames.{FrameFits, IsFrameCoding, octets_of}, declared.Channel.Channel},
      segmenting.Segments.Message,
    },
  },
  std.proofs.Common.{List, None, Option, Some, [], append_assoc, arith, drop, false, map, nat_eq, refl, true, ℕ, ◌++◌, ◌∷◌},
  std.{proofs.{Common.◌≡◌, lemmas.{Bool.Decides.nat_tests, List.{Elements.{All-head, All-tail}, append-nil}}}, specs.List.AllZip},
}
use Rattle.lapdm_link.specs.Queues as W

-- ## InTransit: Queues whose elements correspond one to one, and stay so when both lose their oldest element or gain corresponding ones.

module _ {X Y : Type 0} (R : X → Y → Type 0) where
  zip-rest : (xs : List X) (ys : List Y) → AllZip R xs ys → AllZip R (drop 1 xs) (drop 1 ys)
  zip-rest xs ys h = grind arith

  zip-append : (xs zs : List X) (ys ws : List Y) → AllZip R xs ys → AllZip R zs ws → AllZip R (xs ++ zs) (ys ++ ws)
  zip-append [] zs [] ws h g = g
  zip-append (x ∷ xs) zs (y ∷ ys) ws h g = (h.0, zip-append xs zs ys ws h.1 g)
  zip-append xs zs ys ws h g = absurd assumption

  abbrev pub AreAlike : Queues X → Queues Y → Type 0
  AreAlike xs ys = (r : Role) → AllZip R (queue_of r xs) (queue_of r ys)

  pub alike-more : (sender : Role) (x : List X) (y : List Y) (xs : Queues X) (ys : Queues Y) → AreAlike xs ys → AllZip R x y →
      AreAlike (with_items_appended sender x xs) (with_items_appended sender y ys)
  alike-more sender x y xs ys h g = grind (arith, zip-append)

  pub alike-taken : {A : Type 0} (event : SessionEvent A) (xs : Queues X) (ys : Queues Y) → AreAlike xs ys →
      AreAlike (queues_after_removal event xs) (queues_after_removal event ys)
  alike-taken event xs ys h = grind (arith, zip-rest)

-- the octets in transit encode these frames, in order and in each direction
abbrev pub AreCoded : Channel → Queues Frame → Queues (List ℕ) → Type 0
AreCoded channel fs os = AreAlike (IsFrameCoding channel) fs os

-- the canonical octets of frames that fit in blocks encode them
coded-canonical : (channel : Channel) (fs : List Frame) → AllFit channel fs →
    AllZip (IsFrameCoding channel) fs (map (octets_of channel) fs)
coded-canonical channel [] fit = tt
coded-canonical channel (f ∷ fs) fit = (
  (octets_canonical channel f (All-head (FrameFits channel) f fs fit)).frame,
  coded-canonical channel fs (All-tail (FrameFits channel) f fs fit),
)

module _ {channel : Channel} (fs : Queues Frame) {os : Queues (List ℕ)} (h : AreCoded channel fs os) where
  pub coded-rest : (sender : Role) → AreCoded channel (W.without_oldest_item sender fs) (W.without_oldest_item sender os)
  coded-rest sender = let event : Event = Lose sender in alike-taken (IsFrameCoding channel) event fs os h

  -- a side sends frames: their canonical octets join those in transit
  pub coded-sent : (r : Role) (sent : List Frame) → ((r' : Role) → AllFit channel (queue_of r' (with_items_appended r sent fs))) →
      AreCoded channel (with_items_appended r sent fs) (with_items_appended r (map (octets_of channel) sent) os)
  coded-sent r sent fit =
      alike-more (IsFrameCoding channel) r sent (map (octets_of channel) sent) fs os h
      (coded-canonical channel sent (with_items_appended-all (FrameFits channel) r sent fs fit))

pub with_items_appended-none : {T : Type 0} (r : Role) (ws : Queues T) → with_items_appended r [] ws ≡ ws
with_items_appended-none Mobile ws = rw append-nil refl
with_items_appended-none Network ws = rw append-nil refl

-- ## Reached: A session of frames that a carrier represents goes on with each event that is not refused.

-- A session on this channel, in queues of unlimited length, reaches the state `w` with the log `ls`. If `Sound`, each frame arrived in
-- order or was lost.
pub record IsReached (Sound : Type 0) (channel : Channel) (w : World) (ls : List LogLine) : Type 0 where
  pub capacity : w.capacity ≡ unbounded_capacity
  pub fit : IsFitting channel w
  pub reported : AllReported w ls
  pub session : Sound → IsSession w ls

pub reached-start : (Sound : Type 0) (channel : Channel) → IsReached Sound channel (initial_world unbounded_capacity channel) []
reached-start Sound channel = record {
  capacity = refl;
  fit = initial-fits unbounded_capacity channel;
  reported = initial-reported unbounded_capacity channel;
  session = λ sound. initial-session unbounded_capacity channel;
}

module _ {Sound : Type 0} {channel : Channel} {w : World} {ls : List LogLine} (h : IsReached Sound channel w ls) where
  -- a receiver may read this frame: it fits in a block, and if `Sound`, it is the oldest in transit, or what may replace it
  abbrev pub MayRead : Role → Frame → Type 0
  MayRead sender f = FrameFits channel f × (Sound → IsOldestSentOrReplaced (other sender) w.ends (Some f) (way sender w))

  pub read-fits : (event : Event) → Knows MayRead event → Knows (λ sender f. FrameFits channel f) event
  read-fits (Deliver sender (Some f)) known = known.0
  read-fits event known = tt

  read-benign : (event : Event) → Knows MayRead event → Sound → IsBenignEventExceptReplaced None event w
  read-benign (Deliver sender (Some f)) known sound = known.1 sound
  read-benign event known sound = tt

  pub happens : (event : Event) → refusal event w ≡ None → Knows MayRead event →
      IsReached Sound channel (world_after_possible_refusal None event w)
      (ls ++ answer_log_lines event (answer_unless_refused None (event_step event w.ends)))
  happens event none known = record {
    capacity = h.capacity;
    fit = rw none at (fits-step channel w event (rw none (read-fits event known)) h.fit);
    reported = rw none at (in_order-step w ls event h.reported);
    session = λ sound. rw none at (session-step w ls event (rw none (read-benign event known sound)) (h.session sound));
  }

  goes : (event : Event) {z : World} {new : List LogLine} → refusal event w ≡ None → Knows MayRead event →
      world_after_possible_refusal None event w ≡ z →
      answer_log_lines event (answer_unless_refused None (event_step event w.ends)) ≡ new → IsReached Sound channel z (ls ++ new)
  goes event none known e e' = rw (e, e') at (happens event none known)

  pub calls : (r : Role) (s : Sapi) (call : Call) → IsPlaced r s call → refusal_of call (end_of r s w) ≡ None →
      IsReached Sound channel (acted r s (call_outcome call (end_of r s w)) w)
      (ls ++ Asked r s call ∷ map (Notified r s) (call_outcome call (end_of r s w)).notices)
  calls Mobile Zero (Opens info) placed ok = goes (Open info) (rw (h.capacity, ok) refl) tt refl refl
  calls r s (Opens info) placed ok = absurd (grind arith)
  calls r Three OpensWithoutInfo placed ok = goes (OpenBare r) (rw (h.capacity, ok) refl) tt refl refl
  calls r Zero OpensWithoutInfo placed ok = absurd (grind arith)
  calls r s (Sends m) placed ok = goes (Ask r s (Send m)) (rw (h.capacity, ok) refl) tt refl refl
  calls r s (SendsUi m) placed ok = goes (Ask r s (SendUi m)) (rw (h.capacity, ok) refl) tt refl refl
  calls r s Closes placed ok = goes (Ask r s Close) (rw (h.capacity, ok) refl) tt refl refl
  calls r s T200Expires placed ok = goes (Ask r s T200Expiry) (rw (h.capacity, ok) refl) tt refl refl
  calls r s Repeats placed ok = goes (Ask r s Repeat) (rw (h.capacity, ok) refl) tt refl refl
  calls r s SendsFillFrame placed ok = goes (Ask r s Idle) (rw h.capacity refl) tt refl refl

  pub takes : (r : Role) (s : Sapi) (f : Frame) → nat_eq f.sapi (sapi_number s) ≡ true → MayRead (other r) f →
      IsReached Sound channel (acted r s (frame_outcome f (end_of r s w)) (without_oldest_item (other r) w))
      (ls ++ map (Notified r s) (frame_outcome f (end_of r s w)).notices)
  takes Mobile Zero f on known = goes (Deliver Network (Some f)) (rw h.capacity refl) known (rw on refl) (rw on refl)
  takes Network Zero f on known = goes (Deliver Mobile (Some f)) (rw h.capacity refl) known (rw on refl) (rw on refl)
  takes r s f on known =
      let no : nat_eq f.sapi 0 ≡ false = grind (arith, nat_tests) in
      goes (Deliver (other r) (Some f)) (rw h.capacity refl) known (rw (no, on) refl) (rw (no, on) refl)

  pub loses : (sender : Role) → IsReached Sound channel (without_oldest_item sender w) ls
  loses sender = rw append-nil
      at (goes (Lose sender) (rw h.capacity refl) tt (with_frames-none Mobile (without_oldest_item sender w)) refl)

  pub hears_rival : (info : Message) → rival_refusal w.channel info ≡ None →
      IsReached Sound channel (with_frames Mobile (rival_sabm info ∷ []) w) (ls ++ RivalSabm info ∷ [])
  hears_rival info ok = goes (Rival info) (rw (h.capacity, ok) refl) tt refl refl

-- ## Runs: A run of turns represents a session of frames if each turn keeps that.

module _ {State Turn : Type 0} (Step : State → Turn → State → Type 0) (May : State → Turn → Type 0)
    (lines : Turn → List LogLine) (Keeps : State → List LogLine → Type 0)
    (step : (a b : State) (turn : Turn) (ls : List LogLine) → Keeps a ls → May a turn → Step a turn b →
    Keeps b (ls ++ lines turn)) where
  pub run-keeps : (turns : List Turn) (a z : State) (ls : List LogLine) → Keeps a ls → IsRun Step May a turns z →
      Keeps z (ls ++ log_of_turns lines turns)
  run-keeps [] a z ls h run = rw (run, append-nil) h
  run-keeps (turn ∷ turns) a z ls h run =
      rw (← append_assoc) (run-keeps turns run.1 z (ls ++ lines turn) (step a run.1 turn ls h run.0 run.2) run.3)
