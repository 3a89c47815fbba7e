-- Lemmas about the abstract endpoint that an `Endpoint` represents, the abstract side that a `Side` represents, and the rules that their
-- calls implement.
use Rattle.{
  lapdm_end.specs.{
    Abstraction.{Represents, command_repeats, role_of, segment_repeats_in},
    Addresses.{IsAddressOf, spec_role_of},
    Parts.{AreConsistent, EndpointValues, HasNoRepeats, IsWindowInitialBeforeOpen, IsInitialWindow, values_of},
    Refinement.AppendsOutcome,
    Sides.{CarriesOutStep, Represents as SideRepresents, StepRefines, channel_of, endpoint_of, other},
    Windows.{AppendsOutcomeInOpen, RepresentsOpenEndpoint, answers_out_of_sequence_segment, sends_outstanding_segment, takes_segment},
    declared.{ends.Endpoint.Endpoint, link.Address.Address, sides.Side.Side},
  },
  lapdm_frame.specs.{Content.Frame, Frames.octets_of, Layout.n201},
  lapdm_window.{
    proofs.Lemmas.{HasSameStateVariables-values, by_sapi, counted, evaluates_nr-is, one_window},
    proofs.segmenting.Lemmas.{completed_message_after-last, message_if_fits-some},
    specs.{
      Abstraction.{HasSameStateVariables, HoldsUnackedMessages, Represents as WindowRepresents},
      Answers.{acknowledgement_by_nr, t200_result},
      Calls.{awaited_frame, t200_expiry},
      Ends.{EndpointState, HasWindowOfOne, IsBeforeOpen, IsPossibleSabmInfo, IsValidEndpoint, Outcome, Role, awaits_ack, n200, no_effect},
      Ends.{sends_frame, vr, ◌then◌},
      Rules.{accepts_segment, answers_segment, evaluates_nr, has_segment_to_send, reject_is_due, segment_notices, sends_next_segment},
      Rules.{sends_segment, takes_i_frame, with_reject_condition, with_segment_sent},
      Sides.{SideState, endpoint_with_sapi, endpoint_step, step_for_frame, step_for_read_frame},
      Steps.HasEffects,
      Tables.{closes_and_reports, frame_outcome},
      declared.{Notice.Notice, Sapi.{TheVariants.{Three, Zero}, Sapi}, State.{TheVariants.{Closed, Closing, Idle, Opening, Open}, State}},
      declared.{effects.Effects.Effects, window.Window.Window},
      segmenting.{Joining.{completed_message, partial_message, reassembly_result}, Segments.{Message, Segment, max_message_octets}},
      segmenting.declared.joiner.Joined.Joined,
    },
  },
  std.proofs.{
    Common.{Bool, List, None, Option, Some, [], append_assoc, ap, arith, false, if◌then◌else◌, length, map, nat_eq, nat_lt, refl},
    Common.{subst, sym, true, unwrap_or, ℕ, ◌++◌, ◌+◌, ◌<◌, ◌∙◌, ◌∷◌, ◌≡◌, ◌≢◌, ◌≤◌},
    lemmas.{Bool.Decides.nat_tests, List.{append-nil, map-append}},
  },
}
use Rattle.lapdm_window.specs.segmenting.declared.joiner.Joined.TheVariants as J
use Rattle.lapdm_window.specs.declared.Info.TheVariants as I
use Rattle.lapdm_window.specs.declared.Acked as A
use Rattle.lapdm_window.specs.declared.Acked.TheVariants as V
use Rattle.lapdm_window.specs.declared.Notice.TheVariants as N
use Rattle.lapdm_window.specs.declared.Reason.TheVariants as R
use Rattle.lapdm_window.specs.declared.Timer.TheVariants as T
use Rattle.lapdm_window.specs.Abstraction as W
use Rattle.lapdm_window.specs.Ends as E
use Rattle.lapdm_window.specs.Parts as P
use Rattle.lapdm_end.specs.Abstraction as L
use Rattle.lapdm_end.specs.declared.Role as Rust
use Rattle.lapdm_end.specs.declared.Role.TheVariants as V0
use Rattle.lapdm_end.specs.Refinement as F

-- ## Rules: The rules of the specification, split into the parts that the Rust functions carry out one after another.

pub takes_i_frame-is : (ns nr : ℕ) (p : Bool) (segment : Segment) (e : EndpointState) →
    takes_i_frame ns nr p segment e ≡ (evaluates_nr nr e then takes_segment ns p segment)
takes_i_frame-is ns nr p segment e = grind arith

pub Accepted-if : (same due : Bool) (joined answer : Joined) →
    I.Accepted joined ≡ (if same then I.Accepted answer else I.OutOfSequence due) → (same ≡ true) × (joined ≡ answer)
Accepted-if same due joined answer h = grind arith

pub refused-if : (same due reject : Bool) (answer : Joined) →
    I.OutOfSequence reject ≡ (if same then I.Accepted answer else I.OutOfSequence due) → (same ≡ false) × (reject ≡ due)
refused-if same due reject answer h = grind arith

pub takes_segment-same : (ns : ℕ) (p : Bool) (segment : Segment) (e : EndpointState) → nat_eq ns (vr e) ≡ true →
    takes_segment ns p segment e ≡ (accepts_segment segment e then answers_segment p)
takes_segment-same ns p segment e h = rw h

pub takes_segment-other : (ns : ℕ) (due p : Bool) (segment : Segment) (e : EndpointState) → nat_eq ns (vr e) ≡ false →
    due ≡ reject_is_due p e → takes_segment ns p segment e ≡ answers_out_of_sequence_segment due p (with_reject_condition e)
takes_segment-other ns due p segment e h is = grind arith

whole-completed_message : (ps : List Segment) (octets : List ℕ) → length (partial_message ps ++ octets) ≤ max_message_octets →
    completed_message (ps ++ (octets, false) ∷ []) ≡ partial_message ps ++ octets
whole-completed_message ps octets h = completed_message_after-last [] ps octets
    ∙ ap (λ o. unwrap_or o []) (message_if_fits-some (partial_message ps ++ octets) h)

abbrev answered : Bool → Bool → Joined
answered over more = if over then J.Oversize else (if more then J.More else J.Whole)

segment_notices-answered : (over : Bool) (ps : List Segment) (octets : List ℕ) (more : Bool) →
    over ≡ nat_lt max_message_octets (length (partial_message ps ++ octets)) →
    segment_notices (answered over more) more (completed_message (ps ++ (octets, more) ∷ []))
    ≡ segment_notices (answered over more) more (partial_message ps ++ octets)
segment_notices-answered over ps octets more h = grind (arith, nat_tests, whole-completed_message ps octets)

pub notices-completed_message : (ps : List Segment) (octets : List ℕ) (more : Bool) (joined : Joined) →
    joined ≡ reassembly_result ps (octets, more) →
    segment_notices joined more (completed_message (ps ++ (octets, more) ∷ [])) ≡ segment_notices (reassembly_result ps (octets, more))
    more
    (partial_message ps ++ octets)
notices-completed_message ps octets more joined h =
    rw h (segment_notices-answered (nat_lt max_message_octets (length (partial_message ps ++ octets))) ps octets more refl)

awaits_ack-next : (e : EndpointState) → has_segment_to_send e ≡ true → awaits_ack (with_segment_sent e) ≡ true
awaits_ack-next e h = grind arith

pub sends_next_segment-yes : (e : EndpointState) → e.state ≡ Open → has_segment_to_send e ≡ true
    → sends_next_segment e ≡ sends_segment e
sends_next_segment-yes e o h = rw (o, h)

pub sends_next_segment-no : (e : EndpointState) → has_segment_to_send e ≡ false → sends_next_segment e ≡ no_effect e
sends_next_segment-no e h = grind arith

sends_segment-is : (e : EndpointState) → has_segment_to_send e ≡ true →
    sends_segment e ≡ sends_outstanding_segment false (with_segment_sent e)
sends_segment-is e h = rw (awaits_ack-next e h)

pub answers-next : (e : EndpointState) → e.state ≡ Open → has_segment_to_send e ≡ true →
    answers_segment false e ≡ sends_segment e
answers-next e o h = rw (o, h)

-- ## RulesInSequence: If several calls each implement a rule of state Open, the calls made one after another implement the rules applied
-- one after another.

pub Gives-as : {l : Address} {w : Window} {a b : Effects} {e : EndpointState} {o p : Outcome} → p ≡ o →
    AppendsOutcomeInOpen l w a b e o → AppendsOutcomeInOpen l w a b e p
Gives-as same g = rw same g

pub Gives-then : {l : Address} {w v : Window} {a b d : Effects} {e : EndpointState} {o : Outcome} (rule : EndpointState → Outcome) →
    AppendsOutcomeInOpen l w a b e o →
    ((f : EndpointState) → RepresentsOpenEndpoint l w f → AppendsOutcomeInOpen l v b d f (rule f)) →
    AppendsOutcomeInOpen l v a d e (o then rule)
Gives-then {o} rule g obeys =
    let h = obeys o.new_state g.still_open in
    record {
      still_open = h.still_open;
      sabm_info = h.sabm_info ∙ g.sabm_info;
      frames = rw (h.frames, g.frames, map-append, append_assoc);
      notices = rw (h.notices, g.notices, append_assoc);
    }

abbrev pub notices_for : A.Acked → List Notice
notices_for (V.Message number) = N.Acked number ∷ []
notices_for other = []

by-answer : (l : Address) (v : Window) (a b : Effects) (e : EndpointState) (r : A.Acked) → IsAddressOf l e → e.state ≡ Open →
    WindowRepresents v (counted r e).new_state → b.frames ≡ a.frames → b.notices ≡ a.notices ++ notices_for r →
    AppendsOutcomeInOpen l v a b e (counted r e)
by-answer l v a b e r link open_now h fs ns = grind (arith, append-nil a.frames)

pub Gives-counted : {l : Address} {w v : Window} {a b : Effects} {e : EndpointState} (nr : ℕ) (r : A.Acked) →
    RepresentsOpenEndpoint l w e →
    r ≡ acknowledgement_by_nr nr e →
    WindowRepresents v (evaluates_nr nr e).new_state → b.frames ≡ a.frames → b.notices ≡ a.notices ++ notices_for r →
    AppendsOutcomeInOpen l v a b e (evaluates_nr nr e)
Gives-counted {l} {w} {v} {a} {b} {e} nr r h is represents fs ns =
    let same : evaluates_nr nr e ≡ counted r e = rw is (evaluates_nr-is nr e) in
    Gives-as same (by-answer l v a b e r h.address h.state (subst (λ (o : Outcome). WindowRepresents v o.new_state) same represents) fs ns)

pub Gives-from : {l : Address} {w : Window} {a b : Effects} {f : EndpointState} {o : Outcome} (e : EndpointState) →
    f.sabm_info ≡ e.sabm_info →
    AppendsOutcomeInOpen l w a b f o →
    AppendsOutcomeInOpen l w a b e o
Gives-from e same g = record { still_open = g.still_open; sabm_info = g.sabm_info ∙ same; frames = g.frames; notices = g.notices }

pub same_rules_in_open : {l : Address} {w v : Window} {e f : EndpointState} → RepresentsOpenEndpoint l w e →
    f.role ≡ e.role → f.sapi ≡ e.sapi →
    f.channel ≡ e.channel → f.state ≡ e.state → WindowRepresents v f → RepresentsOpenEndpoint l v f
same_rules_in_open h role sapi channel same window = grind arith

pub Gives-next : {l : Address} {w v : Window} {a b : Effects} (e : EndpointState) → RepresentsOpenEndpoint l w e →
    has_segment_to_send e ≡ true →
    WindowRepresents v (with_segment_sent e) →
    ((f : EndpointState) → RepresentsOpenEndpoint l v f → AppendsOutcomeInOpen l v a b f (sends_outstanding_segment false f)) →
    AppendsOutcomeInOpen l v a b e (sends_segment e)
Gives-next e h has represents obeys =
    Gives-as (sends_segment-is e has)
    (Gives-from e refl (obeys (with_segment_sent e) (same_rules_in_open h refl refl refl refl represents)))

-- ## Moves: If the link state, SABM information or retry count of an `Endpoint` changes, it represents the abstract endpoint with the same
-- change.

abbrev pub with_fields : Role → Sapi → State → Message → ℕ → EndpointState → EndpointState
with_fields role sapi s k r e = record e { role = role; sapi = sapi; state = s; sabm_info = k; retries = r }

abbrev pub moved : State → Message → ℕ → EndpointState → EndpointState
moved s k r e = with_fields e.role e.sapi s k r e

pub Holds-other : {role : Role} {sapi : Sapi} {s : State} {k : Message} {r place : ℕ} {e : EndpointState} {held : List Message} →
    HoldsUnackedMessages held place e → HoldsUnackedMessages held place (with_fields role sapi s k r e)
Holds-other h = grind arith

pub Represents-moved : {m : Endpoint} {s : State} {k : Message} {r : ℕ} {e : EndpointState} → IsValidEndpoint e →
    IsAddressOf m.address e → HasSameStateVariables m.window e →
    HoldsUnackedMessages m.window.held.items m.window.segment_index e → m.state ≡ s → m.sabm_info ≡ k →
    length k ≤ n201 e.channel → IsPossibleSabmInfo s e.sapi k → (s ≡ Opening → e.sapi ≡ Zero → e.role ≡ E.Mobile) →
    (IsBeforeOpen s → IsBeforeOpen e.state) →
    m.retries ≡ command_repeats s r → m.window.retries ≡ segment_repeats_in s (moved s k r e) → Represents m (moved s k r e)
Represents-moved {m} {s} {k} {r} {e} end link variables holds state kept fits possible opens back retries repeats = record {
  valid = grind arith;
  address = grind arith;
  state = state;
  sabm_info = kept;
  variables = grind arith;
  unacked_messages = Holds-other holds;
  retries = retries;
  segment_repeats = repeats;
}

pub possible_later : (s t : State) (sapi : Sapi) (info : Message) → s ≢ Idle → t ≢ Idle → IsPossibleSabmInfo s sapi info →
    IsPossibleSabmInfo t sapi info
possible_later s t sapi info begun later possible = grind arith

pub unopened : (e : EndpointState) → e.messages ≡ [] → HasWindowOfOne e → awaits_ack e ≡ false
unopened e taken window = grind arith

pub stopped : (w v : Window) {e : EndpointState} → P.values_of v ≡ record (P.values_of w) { retries = 0 } →
    HasSameStateVariables w e → HasSameStateVariables v e
stopped w v same h = grind arith

pub stopped_holds : (w v : Window) {e : EndpointState} → P.values_of v ≡ record (P.values_of w) { retries = 0 } →
    HoldsUnackedMessages w.held.items w.segment_index e → HoldsUnackedMessages v.held.items v.segment_index e
stopped_holds w v same h = grind arith

pub stopped_retries : (w v : Window) → P.values_of v ≡ record (P.values_of w) { retries = 0 } → v.retries ≡ 0
stopped_retries w v same = ap (λ (x : P.WindowValues). x.retries) same

pub kept_in_open : {m : Endpoint} {e : EndpointState} → m.state ≡ Open → Represents m e →
    IsPossibleSabmInfo Open m.address.sapi e.sabm_info
kept_in_open is_now h = grind arith

pub unrepeated_in_open : {m : Endpoint} {e : EndpointState} → m.state ≡ Open → Represents m e → m.retries ≡ 0
unrepeated_in_open {m} {e} is_now h = h.retries ∙ ap (λ s. command_repeats s e.retries) (sym h.state ∙ is_now)

pub both : {A B : Type 0} → A → (A → B) → A × B
both a f = (a, f a)

pub as_outcome : {m : Endpoint} {effects : Effects} (e : EndpointState) {o p : Outcome} → o ≡ p →
    Represents m p.new_state × HasEffects effects e.channel p → Represents m o.new_state × HasEffects effects e.channel o
as_outcome e same h = grind arith

-- so a rule that is proved for the window holds for the `Endpoint`
pub Runs-open : {m : Endpoint} {e : EndpointState} → m.state ≡ Open → Represents m e → RepresentsOpenEndpoint m.address m.window e
Runs-open {m} {e} is_now h =
    let open_now : e.state ≡ Open = sym h.state ∙ is_now in
    record {
      address = h.address;
      state = open_now;
      window = record {
        window_of_one = h.valid.window;
        variables = h.variables;
        unacked_messages = h.unacked_messages;
        retries = h.segment_repeats ∙ ap (λ s. segment_repeats_in s e) open_now;
      };
    }

represents_in_open : {m : Endpoint} {e : EndpointState} {info : Message} → m.state ≡ Open → m.sabm_info ≡ info →
    IsPossibleSabmInfo Open m.address.sapi info → m.retries ≡ 0 → e.sabm_info ≡ info →
    RepresentsOpenEndpoint m.address m.window e → Represents m e
represents_in_open {m} {e} is_now kept possible none same h = record {
  valid = grind arith;
  address = h.address;
  state = is_now ∙ sym h.state;
  sabm_info = kept ∙ sym same;
  variables = h.window.variables;
  unacked_messages = h.window.unacked_messages;
  retries = none ∙ ap (λ s. command_repeats s e.retries) (sym h.state);
  segment_repeats = h.window.retries ∙ ap (λ s. segment_repeats_in s e) (sym h.state);
}

pub Adds-open : {a b : Effects} {e : EndpointState} {o : Outcome} (m : Endpoint) → m.state ≡ Open → m.sabm_info ≡ e.sabm_info →
    IsPossibleSabmInfo Open m.address.sapi e.sabm_info → m.retries ≡ 0 → AppendsOutcomeInOpen m.address m.window a b e o →
    AppendsOutcome m a b o
Adds-open m is_now kept possible none g = record {
  represents = represents_in_open is_now kept possible none g.sabm_info g.still_open;
  frames = g.frames;
  notices = g.notices;
}

pub refines-open : {a b : Effects} {e : EndpointState} {o : Outcome} (m : Endpoint) → m.state ≡ Open → m.sabm_info ≡ e.sabm_info →
    IsPossibleSabmInfo Open m.address.sapi e.sabm_info → m.retries ≡ 0 → a.frames ≡ [] → a.notices ≡ [] →
    m.address.channel ≡ e.channel → AppendsOutcomeInOpen m.address m.window a b e o →
    Represents m o.new_state × HasEffects b e.channel o
refines-open m is_now kept possible none fs ns channel g =
    (represents_in_open is_now kept possible none g.sabm_info g.still_open, grind arith)

pub Adds-by : {m : Endpoint} {a b : Effects} {o : Outcome} →
    (Represents m o.new_state → b.frames ≡ a.frames ++ map (octets_of m.address.channel) o.frames)
    → b.notices ≡ a.notices ++ o.notices → Represents m o.new_state → AppendsOutcome m a b o
Adds-by frames notices represents = grind arith

pub t200_expiry-closes : (n : ℕ) (e : EndpointState) → n200 e.channel e.state ≡ n → n ≤ e.retries →
    t200_expiry e ≡ closes_and_reports R.Failed e
t200_expiry-closes n e h most = grind (arith, nat_tests)

pub t200_expiry-again : (n : ℕ) (e : EndpointState) (s : State) → e.state ≡ s → n ≡ n200 e.channel s → e.retries < n →
    t200_expiry e ≡ sends_frame (awaited_frame true s e) (record e { retries = e.retries + 1 })
t200_expiry-again n e s is h below = grind arith

pub t200_result-spent : (e : EndpointState) → T.Spent ≡ t200_result e → n200 e.channel Open ≤ e.retries
t200_result-spent e is = grind (arith, nat_tests)

pub t200_result-again : (e : EndpointState) → T.Again ≡ t200_result e → (awaits_ack e ≡ true) × (e.retries < n200 e.channel Open)
t200_result-again e is = grind arith

pub t200_expiry-open : (e : EndpointState) → e.state ≡ Open → awaits_ack e ≡ true → e.retries < n200 e.channel Open →
    t200_expiry e ≡ sends_outstanding_segment true (record e { retries = e.retries + 1 })
t200_expiry-open e is waiting below = grind arith

-- ## PartsOfEnds: Two `Endpoint`s with equal values represent the same endpoints, and values that represent an endpoint satisfy
-- `AreConsistent`.

pub Represents-same_values : (m n : Endpoint) (e : EndpointState) → values_of m ≡ values_of n → Represents m e → Represents n e
Represents-same_values m n e same h =
    let window : P.values_of m.window ≡ P.values_of n.window = ap (λ (x : EndpointValues). x.window) same in
    let state : m.state ≡ n.state = ap (λ (x : EndpointValues). x.state) same in
    record {
      valid = h.valid;
      address = grind (arith, n.one_channel);
      state = sym state ∙ h.state;
      sabm_info = grind arith;
      variables = HasSameStateVariables-values window h.variables;
      unacked_messages = grind arith;
      retries = sym (ap (λ (x : EndpointValues). x.retries) same) ∙ h.retries;
      segment_repeats = sym (ap (λ (x : EndpointValues). x.window.retries) same) ∙ h.segment_repeats;
    }

unused : (w : Window) (e : EndpointState) → e.messages ≡ [] → e.accepted_segments ≡ [] → HasWindowOfOne e →
    HasSameStateVariables w e → HoldsUnackedMessages w.held.items w.segment_index e → IsInitialWindow (P.values_of w)
unused w e taken accepted window variables holds = grind arith

initial_in : (s : State) (w : Window) (e : EndpointState) → (IsBeforeOpen s → IsInitialWindow (P.values_of w)) →
    IsWindowInitialBeforeOpen s (P.values_of w)
initial_in s w e h = grind arith

no_repeats_in : (s : State) (retries repeats : ℕ) (e : EndpointState) → retries ≡ command_repeats s e.retries →
    repeats ≡ segment_repeats_in s e → (IsBeforeOpen s → awaits_ack e ≡ false) → HasNoRepeats s retries repeats
no_repeats_in s retries repeats e h g before = grind arith

is_mobile : (r : Rust.Role) → spec_role_of r ≡ E.Mobile → r ≡ V0.Mobile
is_mobile r h = grind arith

pub is_consistent : (m : Endpoint) (e : EndpointState) → Represents m e → AreConsistent (values_of m)
is_consistent m e h = record {
  sabm_info_fits = grind arith;
  possible_sabm_info = grind arith;
  mobile_opens_sapi0 = grind (arith, is_mobile m.address.role);
  no_repeats = rw h.state (no_repeats_in e.state m.retries m.window.retries e h.retries h.segment_repeats
      (λ before. unopened e (h.valid.no_message_before_open before) h.valid.window));
  window_initial_before_open = rw h.state (initial_in e.state m.window e (λ before. unused m.window e
      (h.valid.no_message_before_open before) (h.valid.no_segment_before_open before) h.valid.window h.variables h.unacked_messages));
}

held_by_then : (w : Window) (e : EndpointState) → HasWindowOfOne e → W.HasSameStateVariables w e →
    W.HoldsUnackedMessages w.held.items w.segment_index e → w.retries ≡ (if awaits_ack e then w.retries else 0) →
    W.Represents w (moved e.state e.sabm_info w.retries e)
held_by_then w e window variables holds counted =
    record { window_of_one = grind arith; variables = grind arith; unacked_messages = Holds-other holds; retries = counted }

none_in : (s : State) (e : EndpointState) → segment_repeats_in s e ≡ (if awaits_ack e then segment_repeats_in s e else 0)
none_in s e = grind arith

pub window_of : (m : Endpoint) (e : EndpointState) → Represents m e → (f : EndpointState) × W.Represents m.window f
window_of m e h = (
  moved e.state e.sabm_info m.window.retries e,
  held_by_then m.window e h.valid.window h.variables h.unacked_messages
      (rw h.segment_repeats (none_in e.state e)),
)

-- ## Represented: If the values of an `Endpoint` satisfy `AreConsistent` and its window represents an endpoint, the `Endpoint` represents
-- one: before Open the initial endpoint, and from Open on the one that the window represents.

abbrev pub RepresentsOne : Endpoint → Type 0
RepresentsOne m = (e : EndpointState) × Represents m e

-- the endpoint state that an `Endpoint` in state Idle or Opening represents; it has no messages and no segments
abbrev before : Endpoint → State → EndpointState
before m s = record {
  role = role_of m;
  sapi = m.address.sapi;
  channel = m.address.channel;
  state = s;
  sabm_info = m.sabm_info;
  messages = [];
  acked_segments = 0;
  sent_segments = 0;
  accepted_segments = [];
  rejecting = m.window.rejecting;
  retries = m.retries;
}

unused_end : (m : Endpoint) (s : State) → IsInitialWindow (P.values_of m.window) → W.HasSameStateVariables m.window (before m s) ×
    W.HoldsUnackedMessages m.window.held.items m.window.segment_index (before m s)
unused_end m s h = grind arith

RepresentsOne-before_open : (m : Endpoint) (s : State) → m.state ≡ s → AreConsistent (values_of m) →
    IsInitialWindow (P.values_of m.window) → m.retries ≡ command_repeats s m.retries →
    m.window.retries ≡ segment_repeats_in s (before m s) → RepresentsOne m
RepresentsOne-before_open m s is h unused retries repeats =
    let now = unused_end m s unused in
    let same : m.sabm_info ≡ m.sabm_info = refl in (
      before m s,
      record {
        valid = grind arith;
        address = record { role = refl; sapi = refl; channel = refl };
        state = is;
        sabm_info = same;
        variables = now.0;
        unacked_messages = now.1;
        retries = retries;
        segment_repeats = repeats;
      },
    )

-- the endpoint state that an `Endpoint` in state Open, Closing or Closed represents: the state that its window represents, with the role,
-- SAPI, link state and SABM information of the `Endpoint`
abbrev since : Endpoint → State → ℕ → EndpointState → EndpointState
since m s retries e = with_fields (role_of m) m.address.sapi s m.sabm_info retries e

RepresentsOne-from_open : (m : Endpoint) (s : State) (retries : ℕ) (e : EndpointState) → m.state ≡ s → (IsBeforeOpen s → ⊥) →
    AreConsistent (values_of m) → W.Represents m.window e → m.retries ≡ command_repeats s retries →
    m.window.retries ≡ segment_repeats_in s (since m s retries e) → RepresentsOne m
RepresentsOne-from_open m s retries e is opened h window counted repeats = (
  since m s retries e,
  record {
    valid = grind arith;
    address = grind arith;
    state = is;
    sabm_info = refl;
    variables = grind arith;
    unacked_messages = Holds-other window.unacked_messages;
    retries = counted;
    segment_repeats = repeats;
  },
)

RepresentsOne-by_state : (m : Endpoint) (s : State) (e : EndpointState) → m.state ≡ s → AreConsistent (values_of m) →
    W.Represents m.window e → IsWindowInitialBeforeOpen s (P.values_of m.window) → HasNoRepeats s m.retries m.window.retries →
    RepresentsOne m
RepresentsOne-by_state m Idle e is h window now none = RepresentsOne-before_open m Idle is h now none.0 none.1
RepresentsOne-by_state m Opening e is h window now none = RepresentsOne-before_open m Opening is h now refl none
RepresentsOne-by_state m Open e is h window now none = RepresentsOne-from_open m Open e.retries e is (λ u. u) h window none window.retries
RepresentsOne-by_state m Closing e is h window now none = RepresentsOne-from_open m Closing m.retries e is (λ u. u) h window refl none
RepresentsOne-by_state m Closed e is h window now none = RepresentsOne-from_open m Closed m.retries e is (λ u. u) h window none.0 none.1

pub represents_one : (m : Endpoint) (e : EndpointState) → AreConsistent (values_of m) → W.Represents m.window e → RepresentsOne m
represents_one m e h window = RepresentsOne-by_state m m.state e refl h window h.window_initial_before_open h.no_repeats

-- ## OneState: An endpoint determines the values of each `Endpoint` that represents it.

one_role : (r q : Rust.Role) → spec_role_of r ≡ spec_role_of q → r ≡ q
one_role r q h = grind arith

pub one_values : (m n : Endpoint) (e : EndpointState) → Represents m e → Represents n e → values_of m ≡ values_of n
one_values m n e h g =
    let role = one_role m.address.role n.address.role (h.address.role ∙ sym g.address.role) in
    let window = one_window m.window n.window e h.variables g.variables h.unacked_messages g.unacked_messages
    (h.segment_repeats ∙ sym g.segment_repeats) in
    λ i. record {
      role = role i;
      sapi = (h.address.sapi ∙ sym g.address.sapi) i;
      state = (h.state ∙ sym g.state) i;
      sabm_info = (h.sabm_info ∙ sym g.sabm_info) i;
      retries = (h.retries ∙ sym g.retries) i;
      window = window i;
    }

-- ## SideSteps: A Rust `Side` carries out a step of the specification if its endpoint of one SAPI does so and its other endpoint is
-- unchanged.

pub represents_at : (sapi : Sapi) (m : Side) (a : SideState) → SideRepresents m a →
    L.Represents (endpoint_of sapi m) (endpoint_with_sapi sapi a)
represents_at sapi m a h = grind arith

pub refines_at : (sapi : Sapi) (old new : Side) (effects : Effects) (rule : EndpointState → Outcome) →
    F.StepRefines rule (endpoint_of sapi old) effects (endpoint_of sapi new) → L.channel_of (endpoint_of sapi old) ≡ channel_of old →
    endpoint_of (other sapi) new ≡ endpoint_of (other sapi) old →
    StepRefines (λ a. endpoint_step sapi (rule (endpoint_with_sapi sapi a)) a) old sapi effects new
refines_at sapi old new effects rule h g k l m = grind arith

pub refines_sapi0 : (f : Frame) (old new : Side) (effects : Effects) → f.sapi ≡ 0 →
    StepRefines (λ a. endpoint_step Zero (frame_outcome f a.link0) a) old Zero effects new
    → StepRefines (step_for_frame f) old Zero effects new
refines_sapi0 f old new effects z h a st = grind arith

pub refines_sapi3 : (f : Frame) (old new : Side) (effects : Effects) → f.sapi ≡ 3 →
    StepRefines (λ a. endpoint_step Three (frame_outcome f a.link3) a) old Three effects new →
    StepRefines (step_for_frame f) old Three effects new
refines_sapi3 f old new effects t h a st = grind arith

pub refines_no_sapi : (f : Frame) (old : Side) (effects : Effects) → f.sapi ≢ 0 → f.sapi ≢ 3 → effects.frames ≡ [] →
    effects.notices ≡ [] → StepRefines (step_for_frame f) old Zero effects old
refines_no_sapi f old effects z t frames notices a st =
    by_sapi f a (λ d. CarriesOutStep (channel_of old) d Zero effects old) (λ q. absurd (z q)) (λ q. absurd (t q))
    (λ q r. record { represents = st; sapi_matches = refl; frames = frames; notices = notices })

pub refines_no_frame : (old : Side) (effects : Effects) (read : Option Frame) → read ≡ None → effects.frames ≡ [] →
    effects.notices ≡ [] → StepRefines (step_for_read_frame read) old Zero effects old
refines_no_frame old effects None none frames notices a st =
    record { represents = st; sapi_matches = refl; frames = frames; notices = notices }
refines_no_frame old effects (Some f) none frames notices a st = absurd (grind arith)
