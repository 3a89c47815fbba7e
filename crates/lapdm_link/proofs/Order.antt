-- The claims about order hold in every session.
use Rattle.{
  lapdm_link.{
    proofs.{Acting.{is_called, taken-frame}, Events.{KnowsBy, acted, by_kind, end_of, ends_do, is_end-self, said, without_oldest_item}},
    proofs.Rules.{IsNotified, Known, MayNotify, Runs, at_place, goes-append, is_notified, known, none_beyond, nothing, notified, runs-else},
    proofs.Rules.runs-notified,
    specs.Claims.{Asked, HasNoticesInOrder, IsOpenEndpoint, LogLine, NeedsOpenLink, Notified, OccursAfter, acked_message_numbers},
    specs.{Claims.{answer_log_lines, sent_messages, session_log}, Events.{EventRefusal, Event, QueueCapacity, other}, Worlds.World},
    specs.Worlds.{answers, answer, initial_world, refusal, world_after},
  },
  lapdm_window.specs.{
    Calls.{Call, Closes, call_outcome},
    Ends.{EndpointState, HasWindowOfOne, Outcome, Role, capped_at_64_bits},
    Steps.IsSameEndpoint,
    Tables.frame_outcome,
    declared.{Notice.{TheVariants.Acked, Notice}, Sapi.Sapi, State.TheVariants.Closed},
    lapdm_frame.declared.Channel.Channel,
    segmenting.Joining.messages,
  },
  std.proofs.Common.{List, Option, Some, [], append_assoc, ap, arith, length, refl, ℕ, ◌++◌, ◌+◌, ◌∙◌, ◌∷◌},
  std.proofs.{Common.{◌≡◌, ◌≤◌}, lemmas.List.append-nil},
}
use Rattle.lapdm_window.specs.declared.Notice.TheVariants as N

-- ## Order: The claims about order hold whatever frames arrive, because every notice is possible after the log lines before it.

-- ---- properties of a log line that depend on the lines before it

-- each of the log lines, together with the lines before it, satisfies `May`
abbrev pub AllOccur : (List LogLine → LogLine → Type 0) → List LogLine → List LogLine → Type 0
AllOccur May before [] = Unit {0}
AllOccur May before (l ∷ ls) = May before l × AllOccur May (before ++ l ∷ []) ls

pub occur-append : (May : List LogLine → LogLine → Type 0) (before xs ys : List LogLine) → AllOccur May before xs →
    AllOccur May (before ++ xs) ys → AllOccur May before (xs ++ ys)
occur-append May before [] ys h g = rw append-nil at g
occur-append May before (x ∷ xs) ys h g = (h.0, occur-append May _ xs ys h.1 (rw append_assoc g))

stands-behind : (May : List LogLine → LogLine → Type 0) (past before : List LogLine) (l : LogLine) (more : List LogLine) →
    AllOccur May past (before ++ l ∷ more) → May (past ++ before) l
stands-behind May past [] l more h = rw append-nil h.0
stands-behind May past (b ∷ bs) l more h = rw append_assoc at (stands-behind May _ bs l _ h.1)

pub stands : (May : List LogLine → LogLine → Type 0) (ls before : List LogLine) (l : LogLine) → AllOccur May [] ls →
    OccursAfter before l ls → May before l
stands May ls before l h place = stands-behind May [] _ l place.0 (rw place.1 h)

-- what the log says about the endpoint e agrees with the state of e
pub record IsReported (r : Role) (s : Sapi) (e : EndpointState) (ls : List LogLine) : Type 0 where
  pub role : e.role ≡ r
  pub sapi : e.sapi ≡ s
  pub window_of_one : HasWindowOfOne e
  pub run : Runs r s nothing ls (known e)
  pub notified : IsNotified r s ls (known e)

abbrev pub AllReported : World → List LogLine → Type 0
AllReported w ls = (r : Role) (s : Sapi) → IsReported r s (end_of r s w) ls

module _ {r : Role} {s : Sapi} {e : EndpointState} {ls : List LogLine} (h : IsReported r s e ls) where
  goes_on : (z : EndpointState) (new : List LogLine) → IsSameEndpoint e z → HasWindowOfOne z → Runs r s (known e) new (known z) →
      IsReported r s z (ls ++ new)
  goes_on z new link end run =
      let whole = goes-append _ _ ls new _ _ _ h.run run in
      record {
        role = link.role ∙ h.role;
        sapi = link.sapi ∙ h.sapi;
        window_of_one = end;
        run = whole;
        notified = is_notified r s _ _ whole;
      }

  IsReported-unseen : (new : List LogLine) → Runs r s (known e) new (known e) → IsReported r s e (ls ++ new)
  IsReported-unseen new run = goes_on e new (record { role = refl; sapi = refl; channel = refl }) h.window_of_one run

  pub acknowledged : (n : ℕ) (before : List LogLine) → OccursAfter before (Notified r s (N.Acked n)) ls →
      (n ≡ capped_at_64_bits (length (acked_message_numbers r s before) + 1))
      × (length (acked_message_numbers r s before) + 1 ≤ length (sent_messages r s before))
  acknowledged n before place =
      let g = at_place r s ls (known e) h.run before (N.Acked n) place in
      let t = is_notified r s before g.0 g.1 in
      (rw t.acked g.2.1, omega (arith, t.acked, ap length t.messages, g.2.2))

  of_open : (m : Known) (n : Notice) → NeedsOpenLink n → MayNotify (Some n) m → m.stage ≡ 1
  of_open m n of may = grind arith

  pub only_while_open : (n : Notice) (before : List LogLine) → NeedsOpenLink n → OccursAfter before (Notified r s n) ls →
      IsOpenEndpoint r s before
  only_while_open n before of place =
      let g = at_place r s ls _ h.run before n place in
      let now = of_open g.0 n of g.2 in
      let past = none_beyond r s before g.0 g.1 now in
      record {
        opened_once = omega (arith, (is_notified r s before g.0 g.1).staged.2 now);
        not_closed = λ reason c. omega (arith, rw (is_end-self r s) at (past (Notified r s (N.Closed reason)) c).1);
        release_not_requested = λ c. omega (arith, rw (is_end-self r s) at (past (Asked r s Closes) c).1);
      }

AllReported-acts : (w : World) (ls : List LogLine) → AllReported w ls → (r : Role) (s : Sapi) (cs : List Call) (o : Outcome) →
    IsSameEndpoint (end_of r s w) o.new_state → HasWindowOfOne o.new_state →
    Runs r s (known (end_of r s w)) (said r s cs o.notices) (known o.new_state) →
    AllReported (acted r s o w) (ls ++ said r s cs o.notices)
AllReported-acts w ls h r s cs o link end run =
    let new = said r s cs o.notices in
    ends_do (λ r' s' e. IsReported r' s' e (ls ++ new)) r s o w (goes_on (h r s) _ new link end run)
    (λ r' s' n. IsReported-unseen (h r' s') new (runs-else r' s' r s n cs _ _))

KnowsBy-any_frame : (o : Option EventRefusal) (event : Event) → KnowsBy o (λ r f. Unit {0}) event
KnowsBy-any_frame o event = grind arith

pub in_order-step : (w : World) (ls : List LogLine) (event : Event) → AllReported w ls →
    AllReported (world_after event w) (ls ++ answer_log_lines event (answer event w))
in_order-step w ls event h = by_kind w (λ z new. AllReported z (ls ++ new)) (λ r f. Unit {0}) (rw append-nil h) (λ r s call placed ok.
    (let c = is_called (end_of r s w) (h r s).window_of_one call ok in
    AllReported-acts w ls h r s (call ∷ []) (call_outcome call (end_of r s w)) c.link c.window_of_one
    (rw (is_end-self r s) (tt, runs-notified r s _ _ _ c.notifies)))) (λ r s f on known.
    (let t = taken-frame (end_of r s w) (h r s).window_of_one f in
    AllReported-acts (without_oldest_item (other r) w) ls h r s [] (frame_outcome f (end_of r s w)) t.link t.window_of_one
    (runs-notified r s _ _ _ t.notifies)))
    (λ sender. rw append-nil h) (λ info ok r s. IsReported-unseen (h r s) _ (tt, refl)) event (KnowsBy-any_frame (refusal event w) event)

in_order-run : (events : List Event) (w : World) (ls : List LogLine) → AllReported w ls →
    ((z : World) × AllReported z (ls ++ session_log events (answers events w)))
in_order-run [] w ls h = (w, rw append-nil h)
in_order-run (event ∷ events) w ls h = rw (← append_assoc) (in_order-run events _ _ (in_order-step w ls _ h))

pub initial-reported : (capacity : QueueCapacity) (channel : Channel) → AllReported (initial_world capacity channel) []
initial-reported capacity channel = grind arith

pub order_of : (w : World) (ls : List LogLine) → AllReported w ls → HasNoticesInOrder ls
order_of w ls h = record {
  acked_in_order = λ r s n before place. acknowledged (h r s) n before place;
  established_once = λ r s. omega (arith, (h r s).notified.staged.0);
  closed_once = λ r s. omega (arith, (h r s).notified.staged.1);
  only_while_open = λ r s n before of place. only_while_open (h r s) n before of place;
}

pub order_claims : (capacity : QueueCapacity) (channel : Channel) (events : List Event) →
    HasNoticesInOrder (session_log events (answers events (initial_world capacity channel)))
order_claims capacity channel events =
    let run = in_order-run events (initial_world capacity channel) [] (initial-reported capacity channel) in order_of run.0 _ run.1
