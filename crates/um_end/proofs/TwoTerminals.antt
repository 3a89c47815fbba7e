-- The steps of two `um end` processes represent a session of frames, so the laws about sessions hold for them.
use Rattle.{
  um_link.{
    proofs.lapdm_link.Carriers.{IsReached, reached-start, MayRead, coded-rest, AreCoded, coded-sent, happens, loses, run-keeps},
    proofs.lapdm_link.{Carriers.with_items_appended-none, Lemmas.{claims_of, counts_of, order_of, Knows, without_oldest_item}},
    proofs.{um_air.Lemmas.{damaged_received, may_read}, um_block.Lemmas.accepted_octets},
    specs.{
      lapdm_link.{
        Events.{unbounded_capacity, Ask, BothSides, BySide, Deliver, EventRefusal, Lose, Open, OpenBare, Request, endpoint_call_of},
        Events.{event_step, other, side_with_role, with_side_replaced},
        Worlds.{initial_world, World, answer_unless_refused, refusal, world_after_possible_refusal},
        Queues.{with_items_appended, IsOldestSentOrNone, Queues, queue_of},
        Claims.{AckedAtMostDelivered, Claims, HasNoticesInOrder, LogLine, answer_log_lines, event_log_lines, notice_log_lines},
      },
      lapdm_frame.{Content.Frame, Frames.octets_of, declared.Channel.TheVariants.Sdcch},
      lapdm_window.{Calls.{Call, Opens, OpensWithoutInfo}, Ends.{Mobile, Network, Role}, declared.Sapi.{Sapi, TheVariants.{Three, Zero}}},
      um_air.Air.{Event, Octets, Step},
      um_block.{Received.IsReceivedBlock, declared.received.Received.Received},
    },
  },
  std.proofs.Common.{append-nil, List, None, Option, Some, [], arith, map, refl, ℤ, ◌++◌, ◌∷◌, ◌≡◌},
  um_end.specs.{
    EndRuns.frames_in_answer,
    Terminals.{IsCallOfRole, ReceivesBursts, SideState, answer_to_call, call_answer_unless, step_for_read_frame},
    TwoTerminals.{AreBurstsOfFirstBlock, AreStepsFrom, AnyStepAllowed, Calls, DeliversOldestBlock, IsTerminalStep, Loses, TakesBurst},
    TwoTerminals.{TerminalStep, TwoTerminals, idle_terminals, session_log, state_after_step, step_log_lines},
  },
}
use Rattle.um_link.specs.lapdm_window.Sides as S
use Rattle.um_link.specs.lapdm_link.Events as E
use Rattle.um_link.specs.lapdm_link.Queues as W

-- two terminals with the ends of the session of frames `w`, and these octets in transit
abbrev terminals : World → Queues Octets → TwoTerminals
terminals w octets = record { sides = w.ends; queues = octets }

-- the terminals in state `a` have the log `ls`, and represent a session of frames with this log
record AreTerminals (Sound : Type 0) (a : TwoTerminals) (ls : List LogLine) : Type 0 where
  world : World
  reached : IsReached Sound Sdcch world ls
  same : terminals world a.queues ≡ a
  coded : AreCoded Sdcch world.queues a.queues

with_side_replaced-same : (side : Role) (es : BothSides) → with_side_replaced side (side_with_role side es) es ≡ es
with_side_replaced-same Mobile es = refl
with_side_replaced-same Network es = refl

-- a block whose bursts are lightly damaged is accepted with the octets that were sent
IsOldestSent-received : (bursts : List (List ℤ)) (os : List Octets) (r : Received) → IsReceivedBlock bursts r →
    AreBurstsOfFirstBlock bursts os → IsOldestSentOrNone r.accepted os
IsOldestSent-received bursts (first ∷ others) r is damage = rw (damaged_received first bursts r damage is) refl
IsOldestSent-received bursts [] r is damage = absurd damage

own : (side r : Role) (sapi : Sapi) (request : Request) → IsCallOfRole side (Ask r sapi request) → r ≡ side
own side r sapi request h = grind arith

module _ {Sound : Type 0} {w : World} {octets : Queues Octets} {ls : List LogLine} (h : IsReached Sound Sdcch w ls)
    (in_transit : AreCoded Sdcch w.queues octets) where
  abbrev Then : TwoTerminals → List LogLine → Type 0
  Then b new = AreTerminals Sound b (ls ++ new)

  -- side `side` makes the step `d` in an event of the session of frames that is not refused; `left` is still in transit
  acts : (side : Role) (d : S.SideStep) (event : E.Event) (left : Queues Frame) (from : Queues Octets) (new : List LogLine) →
      refusal event w ≡ None → Knows (MayRead h) event → AreCoded Sdcch left from →
      world_after_possible_refusal None event w ≡ record w {
        ends = with_side_replaced side d.new_state w.ends;
        queues = with_items_appended side d.frames left;
      } → answer_log_lines event (answer_unless_refused None (event_step event w.ends)) ≡ new →
      Then (state_after_step side d.new_state (map (octets_of Sdcch) d.frames) from (terminals w octets)) new
  acts side d event left from new none known coded later lines =
      let z : World = record w {
        ends = with_side_replaced side d.new_state w.ends;
        queues = with_items_appended side d.frames left;
      } in
      let reached : IsReached Sound Sdcch z (ls ++ new) = rw (later, lines) at (happens h event none known) in
      record { world = z; reached = reached; same = refl; coded = coded-sent left coded side d.frames reached.fit.queues }

  -- a call to a side is an event of the session, or is refused
  asked_call : (side : Role) (sapi : Sapi) (call : Call) (event : Event) (e : E.Event) (refused : Option EventRefusal) →
      refusal e w ≡ refused → Knows (MayRead h) e →
      (let d : S.SideStep = S.layer3_call_step sapi call (side_with_role side w.ends) in
      let next = call_answer_unless refused side (side_with_role side w.ends) d in
      (world_after_possible_refusal None e w ≡ record w {
        ends = with_side_replaced side d.new_state w.ends;
        queues = with_items_appended side d.frames w.queues;
      })
      × (answer_log_lines e (answer_unless_refused None (event_step e w.ends)) ≡ event_log_lines event ++ notice_log_lines (BySide side)
      d.sapi d.notices) →
      Then (state_after_step side next.0 (frames_in_answer next.1) octets (terminals w octets)) (step_log_lines (Calls side event next.1)))
  asked_call side sapi call event e (Some why) is known done =
      rw (with_side_replaced-same side w.ends, with_items_appended-none side octets, append-nil)
      (record { world = w; reached = h; same = refl; coded = in_transit })
  asked_call side sapi call event e None is known done =
      acts side (S.layer3_call_step sapi call (side_with_role side w.ends)) e w.queues octets _ is known in_transit done.0 done.1

  asked : (side : Role) (event : Event) → IsCallOfRole side event →
      (let next = answer_to_call side (side_with_role side w.ends) event in
      Then (state_after_step side next.0 (frames_in_answer next.1) octets (terminals w octets)) (step_log_lines (Calls side event next.1)))
  asked Mobile (Open info) of = asked_call Mobile Zero (Opens info) (Open info) (Open info) _ (rw h.capacity refl) tt (refl, refl)
  asked Network (Open info) of = absurd (cc of)
  asked side (OpenBare r) of =
      rw of (asked_call side Three OpensWithoutInfo (OpenBare side) (OpenBare side) _ (rw h.capacity refl) tt (refl, refl))
  asked side (Ask r sapi request) of = rw (own side r sapi request of)
      (asked_call side sapi (endpoint_call_of request) (Ask side sapi request) (Ask side sapi request) _ (rw h.capacity refl) tt
      (refl, refl))
  asked side event of = absurd of

  -- in this module, a side receives four bursts
  module _ (side : Role) (bursts : List (List ℤ)) (step : Step) (links : SideState)
      (r : ReceivesBursts side (side_with_role side w.ends) bursts links step)
      (delivers : Sound → AreBurstsOfFirstBlock bursts (queue_of (other side) octets)) where
    abbrev event : E.Event
    event = Deliver (other side) r.frame

    abbrev d : S.SideStep
    d = step_for_read_frame r.frame (side_with_role side w.ends)

    abbrev left : Queues Frame
    left = W.without_oldest_item (other side) w.queues

    brings : world_after_possible_refusal None event w ≡ record w {
      ends = with_side_replaced side d.new_state w.ends;
      queues = with_items_appended side d.frames left;
    } → answer_log_lines event (answer_unless_refused None (event_step event w.ends)) ≡
        notice_log_lines (BySide side) d.sapi d.notices →
        Then (state_after_step side links step.frames (W.without_oldest_item (other side) octets) (terminals w octets))
        (step_log_lines (TakesBurst side bursts step))
    brings later lines =
        let known = may_read h octets in_transit (other side) r.report.accepted r.frame (accepted_octets bursts r.report r.received) r.reads
        (λ sound. IsOldestSent-received bursts (queue_of (other side) octets) r.report r.received (delivers sound)) in
        rw (r.new_state_is, r.step_is_terminal_step)
        (acts side d event left (W.without_oldest_item (other side) octets) _ (rw h.capacity refl) known.0
        (coded-rest w.queues in_transit (other side)) later lines)

  brought : (side : Role) (bursts : List (List ℤ)) (step : Step) (links : SideState) →
      ReceivesBursts side (side_with_role side w.ends) bursts links step →
      (Sound → AreBurstsOfFirstBlock bursts (queue_of (other side) octets)) →
      Then (state_after_step side links step.frames (W.without_oldest_item (other side) octets) (terminals w octets))
      (step_log_lines (TakesBurst side bursts step))
  brought Mobile bursts step links r delivers = brings Mobile bursts step links r delivers refl refl
  brought Network bursts step links r delivers = brings Network bursts step links r delivers refl refl

  turn-step : (turn : TerminalStep) (b : TwoTerminals) → IsTerminalStep (terminals w octets) turn b →
      (Sound → DeliversOldestBlock (terminals w octets) turn) → Then b (step_log_lines turn)
  turn-step (Calls side event answer) b t delivers = rw (t.2, t.1) (asked side event t.0)
  turn-step (TakesBurst side bursts step) b t delivers = rw t.2 (brought side bursts step t.0 t.1 delivers)
  turn-step (Loses sender) b t delivers = rw (t, append-nil) (record {
    world = without_oldest_item sender w;
    reached = loses h sender;
    same = refl;
    coded = coded-rest w.queues in_transit sender;
  })

-- ---- several steps of the two terminals

module _ (Sound : Type 0) (May : TwoTerminals → TerminalStep → Type 0)
    (delivers : Sound → (a : TwoTerminals) (turn : TerminalStep) → May a turn → DeliversOldestBlock a turn)
    (turns : List TerminalStep) (run : AreStepsFrom May idle_terminals turns) where
  joined : AreTerminals Sound run.0 (session_log turns)
  joined = run-keeps IsTerminalStep May step_log_lines (AreTerminals Sound) keeps turns idle_terminals run.0 [] (record {
    world = initial_world unbounded_capacity Sdcch;
    reached = reached-start Sound Sdcch;
    same = refl;
    coded = grind arith;
  }) run.1
    where
      keeps : (a b : TwoTerminals) (turn : TerminalStep) (ls : List LogLine) → AreTerminals Sound a ls → May a turn →
          IsTerminalStep a turn b → AreTerminals Sound b (ls ++ step_log_lines turn)
      keeps a b turn ls h may step =
          turn-step h.reached h.coded turn b (rw h.same step) (rw h.same (λ sound. delivers sound a turn may))

pub two_terminals-claims : (turns : List TerminalStep) → AreStepsFrom DeliversOldestBlock idle_terminals turns →
    Claims (session_log turns)
two_terminals-claims turns run =
    claims_of ((joined (Unit {0}) DeliversOldestBlock (λ sound a turn may. may) turns run).reached.session tt)

pub two_terminals-counts : (turns : List TerminalStep) → AreStepsFrom DeliversOldestBlock idle_terminals turns →
    AckedAtMostDelivered (session_log turns)
two_terminals-counts turns run =
    counts_of ((joined (Unit {0}) DeliversOldestBlock (λ sound a turn may. may) turns run).reached.session tt)

pub two_terminals-order : (turns : List TerminalStep) → AreStepsFrom AnyStepAllowed idle_terminals turns →
    HasNoticesInOrder (session_log turns)
two_terminals-order turns run =
    let x = joined ⊥ AnyStepAllowed (λ sound. absurd sound) turns run in order_of x.world _ x.reached.reported
