-- Programs that connect endpoints through C calls correspond to sessions of frames.
use Rattle.{
  lapdm_frame.{
    proofs.Lemmas.{one_reading, same_frame},
    specs.{Content.Frame, Frames.{IsFrameCoding, octets_of}, Readings.{HasUniqueReading, IsOnlyEncodedFrame, IsOnlyRefusalReason}},
    specs.declared.{Channel.{TheVariants.{Sacch, Sdcch}, Channel}, Refusal.Refusal},
  },
  std.{
    proofs.Common.{Bool, List, None, Option, Some, [], ap, arith, false, if◌then◌else◌, inl, inr, is_some, length, map, nat_eq, refl},
    proofs.Common.{subst, sym, true, ℕ, ◌&&◌, ◌++◌, ◌∙◌, ◌∷◌, ◌≡◌, ◌≢◌, ◌≤◌},
    proofs.lemmas.{Bool.Decides.nat_tests, List.{append-nil, length-map, take_at}},
    specs.{List.{AllZip, filter_map}, Prelude.◌⊎◌},
  },
  um_air.{
    proofs.{Lemmas.damaged_received, lapdm_link.Carriers.{AreCoded, IsReached, alike-more, calls, coded-rest, coded-sent, hears_rival}},
    proofs.lapdm_link.{Carriers.{loses, reached-start, run-keeps, takes, with_items_appended-none}, Lemmas.{IsPlaced, acted, claims_of}},
    proofs.lapdm_link.Lemmas.{counts_of, each_start, each_way, end_of, ends_do, is_end, order_of, with_frames, without_oldest_item},
    specs.{
      lapdm_link.{Carriers.FirstSatisfies, Claims.{AckedAtMostDelivered, Claims, HasNoticesInOrder, LogLine, is_same_role, is_same_sapi}},
      lapdm_link.{
        Events.{other, rival_sabm, unbounded_capacity},
        Queues.{Queues, with_items_appended},
        Worlds.{IsOldestSentOrReplaced, as_sent, rr_for_rej},
      },
      lapdm_link.Worlds.{World, answer, initial_world, rej_replaced_by_rr},
      lapdm_window.{
        Calls.{Call, IsCallAllowedForEndpoint, OpensWithoutInfo, Opens, call_outcome, refusal_of},
        Ends.{EndpointState, Mobile, Network, Outcome, Role, initial_endpoint, no_effect, sapi_number},
        Tables.frame_outcome,
        declared.{Notice.Notice, Refused.Refused, Sapi.{TheVariants.{Three, Zero}, Sapi}},
      },
    },
  },
  um_block.{proofs.Lemmas.some_received_block, specs.{Received.IsReceivedBlock, declared.received.Received.Received}},
  um_c.{
    proofs.Calls.{IsFlagged, octets-c_struct},
    specs.{Effects.c_notice, EndCalls.{EndpointAnswersCall, EndpointReceivesBlock, SucceedsWithOutcome, call_refusal_number}},
    specs.Joined.{AnyStepAllowed, Calls, ChangesOneEndpoint, DeliversOldestBlock, EncodeSameFrame, HasNoFrameOnSapi},
    specs.Joined.{IsDecodedFromSentBlock, IsNewEndpointOrNone, IsProgramRun, IsProgramStart, IsProgramStep, LosesOldestBlock, ProgramState},
    specs.Joined.{ProgramStep, ReceivesOldestBlock, RivalSabm, TakesOldestBlock, TakesOtherSapiBlock, blocks_sent, notice_from_c},
    specs.{Joined.{notices_from_c, session_log, step_log_lines}, Reports.{IsBlockReport, IsListDecodedReport}, States.StructRepresents},
    specs.declared.{effects.CEffects.CEffects, states.CEndpoint.CEndpoint},
  },
  um_list_receive.{proofs.Lemmas.block_first, specs.declared.reports.ListDecodedBlock.ListDecodedBlock},
}
use Rattle.um_air.specs.lapdm_link.Queues as W
use Rattle.um_air.specs.lapdm_window.declared.Notice.TheVariants as N
use Rattle.um_air.specs.lapdm_window.declared.Reason.TheVariants as Re

-- ## AsFrameSessions: The steps of a program that connects endpoints correspond to a session of frames, so the laws about sessions hold for
-- them. The proof is by induction over the steps: each C struct represents an endpoint of the session, and the blocks in transit encode the
-- frames in transit of the session.

-- ---- the notices and blocks in the effects of a call

pub notice-read : (n : Notice) → notice_from_c (c_notice n) ≡ Some n
notice-read (N.Opened m) = rw (octets-c_struct m)
notice-read (N.Got m) = rw (octets-c_struct m)
notice-read (N.Unit m) = rw (octets-c_struct m)
notice-read (N.Acked n) = refl
notice-read N.Oversize = refl
notice-read (N.Closed Re.Contention) = refl
notice-read (N.Closed r) = refl

all_notices-read : (ns : List Notice) → filter_map notice_from_c (map c_notice ns) ≡ ns
all_notices-read [] = refl
all_notices-read (n ∷ ns) = rw (notice-read n, all_notices-read ns) refl

-- in this module, the call succeeded; its effects contain the notices and the frames of its outcome
module _ {channel : Channel} {o : Outcome} {answer : ℕ} {s : CEndpoint} {output : CEffects}
    (h : SucceedsWithOutcome channel o answer s output) where
  output-notices : notices_from_c output ≡ o.notices
  output-notices =
      rw h.effects (ap (filter_map notice_from_c) (take_at (map c_notice o.notices) _ _ (length-map o.notices c_notice))
      ∙ all_notices-read o.notices)

  output-blocks : blocks_sent answer output ≡ map (octets_of channel) o.frames
  output-blocks = rw (h.answer_is_0, h.effects) (take_at (map (octets_of channel) o.frames) _ _ refl)

-- ---- a call that does not return 0 sends no block

refuses : (reason : Refused) → call_refusal_number reason ≢ 0
refuses reason = grind arith

blocks_sent-refused : {answer : ℕ} (output : CEffects) → answer ≢ 0 → blocks_sent answer output ≡ []
blocks_sent-refused _ h = grind arith

-- ---- the session that corresponds to the steps

-- the struct, if the program has one, represents the endpoint `e`
abbrev pub MayRepresent : Option CEndpoint → EndpointState → Type 0
MayRepresent None e = Unit {0}
MayRepresent (Some x) e = StructRepresents x e

-- the structs of the program represent the endpoints of the session state `w`
abbrev pub AreStates : ProgramState → World → Type 0
AreStates b w = (r : Role) (s : Sapi) → MayRepresent (b.state r s) (end_of r s w)

-- the program in state `a` has the log `ls`, and represents a session of frames with this log: its structs represent the endpoints, and
-- its blocks in transit encode the frames in transit
pub record IsProgram (Sound : Type 0) (channel : Channel) (a : ProgramState) (ls : List LogLine) : Type 0 where
  pub world : World
  pub reached : IsReached Sound channel world ls
  pub states : AreStates a world
  pub coded : AreCoded channel world.queues a.queues

each_state : (P : Role → Sapi → Type 0) (r : Role) (s : Sapi) → P r s →
    ((r' : Role) (s' : Sapi) → is_end r' s' r s ≡ false → P r' s') → (r' : Role) (s' : Sapi) → P r' s'
each_state P r s h g r' s' = grind arith

-- an endpoint with this role and SAPI either supports this call or does not support it
IsPlaced-or_not : (r : Role) (s : Sapi) (call : Call) → IsPlaced r s call ⊎ (IsPlaced r s call → ⊥)
IsPlaced-or_not Mobile Zero (Opens info) = inl (refl, refl)
IsPlaced-or_not r s (Opens info) = inr (λ h. grind arith)
IsPlaced-or_not r Three OpensWithoutInfo = inl refl
IsPlaced-or_not r Zero OpensWithoutInfo = inr (λ h. grind arith)
IsPlaced-or_not r s call = inl tt

module _ {r : Role} {s : Sapi} (e : EndpointState) (role : e.role ≡ r) (sapi : e.sapi ≡ s) where
  allowed : (call : Call) → IsPlaced r s call → IsCallAllowedForEndpoint e call
  allowed (Opens info) h = (sapi ∙ h.1, role ∙ h.0)
  allowed OpensWithoutInfo h = sapi ∙ h
  allowed call h = tt

  placed : (call : Call) → IsCallAllowedForEndpoint e call → IsPlaced r s call
  placed (Opens info) h = (sym role ∙ h.1, sym sapi ∙ h.0)
  placed OpensWithoutInfo h = sym sapi ∙ h
  placed call h = tt

-- ---- one step of the program

module _ {Sound : Type 0} {channel : Channel} {a : ProgramState} {ls : List LogLine} (h : IsProgram Sound channel a ls) where
  abbrev w : World
  w = h.world

  abbrev Then : ProgramState → ProgramStep → Type 0
  Then b turn = IsProgram Sound channel b (ls ++ step_log_lines turn)

  on_channel : (r : Role) (s : Sapi) → (end_of r s w).channel ≡ channel
  on_channel r s = (h.reached.fit.ends r s).on_channel

  module _ {b : ProgramState} {r : Role} {s : Sapi} {old new : CEndpoint} {out : List (List ℕ)} {left : Queues (List ℕ)}
      (l : ChangesOneEndpoint r s old new out left a b) where
    here : StructRepresents old (end_of r s w)
    here = rw l.old_state at (h.states r s)

    -- nothing happens in the session, or the oldest frame in transit is lost, if the new struct represents the same endpoint as before, and
    -- the call sends no block
    quiet : (turn : ProgramStep) (z : World) → AreStates a z → IsReached Sound channel z ls → AreCoded channel z.queues left →
        out ≡ [] → StructRepresents new (end_of r s z) → step_log_lines turn ≡ [] → Then b turn
    quiet turn z states reached coded none represents lines = rw (lines, append-nil) (record {
      world = z;
      reached = reached;
      states = each_state (λ r' s'. MayRepresent (b.state r' s') (end_of r' s' z)) r s (rw l.new_state represents)
          (λ r' s' n. rw (l.others_unchanged r' s' n) (states r' s'));
      coded = rw (l.queues, none, with_items_appended-none r left) coded;
    })

    -- if the call succeeds, the endpoint acts in the session
    acts : (turn : ProgramStep) {answer : ℕ} {output : CEffects} {new_lines : List LogLine} (o : Outcome) (z : World) →
        AreStates a z → AreCoded channel z.queues left → out ≡ blocks_sent answer output →
        SucceedsWithOutcome channel o answer new output →
        IsReached Sound channel (acted r s o z) (ls ++ new_lines) → step_log_lines turn ≡ new_lines → Then b turn
    acts turn o z states coded sent c reached lines = rw lines (record {
      world = acted r s o z;
      reached = reached;
      states = ends_do (λ r' s' e. MayRepresent (b.state r' s') e) r s o z (rw l.new_state c.represents)
          (λ r' s' n. rw (l.others_unchanged r' s' n) (states r' s'));
      coded = rw (l.queues, sent, output-blocks c) (coded-sent z.queues coded r o.frames reached.fit.queues);
    })

  module _ {b : ProgramState} {r : Role} {s : Sapi} {old new : CEndpoint} {call : Call} {answer : ℕ} {output output_old : CEffects}
      (answers_call : EndpointAnswersCall call answer old new output_old output)
      (l : ChangesOneEndpoint r s old new (blocks_sent answer output) a.queues a b) where
    not_called : answer ≢ 0 → Then b (Calls r s call answer output)
    not_called other =
        quiet l (Calls r s call answer output) w h.states h.reached h.coded (blocks_sent-refused output other)
        (rw (answers_call.unchanged other).0 (here l))
        (grind (arith, nat_tests))

    called : IsPlaced r s call → (o : Option Refused) → refusal_of call (end_of r s w) ≡ o → Then b (Calls r s call answer output)
    called is (Some reason) e =
        let asks = allowed (end_of r s w) (h.reached.reported r s).role (h.reached.reported r s).sapi call is in
        let refused = answers_call.refused _ (here l) asks reason e in
        not_called (λ zero. refuses reason cc)
    called is None e =
        let x : EndpointState = end_of r s w in
        let c : SucceedsWithOutcome channel (call_outcome call x) answer new output =
        subst (λ k. SucceedsWithOutcome k (call_outcome call x) answer new output) (on_channel r s)
        (answers_call.carried_out x (here l) (allowed x (h.reached.reported r s).role (h.reached.reported r s).sapi call is) e) in
        acts l (Calls r s call answer output) (call_outcome call x) w h.states h.coded refl c
        (calls h.reached r s call is e) (rw (c.answer_is_0, output-notices c) refl)

    answered : IsPlaced r s call ⊎ (IsPlaced r s call → ⊥) → Then b (Calls r s call answer output)
    answered (inl is) = called is (refusal_of call (end_of r s w)) refl
    answered (inr never) =
        let unsupported = answers_call.unsupported_call _ (here l)
        (λ asks. never (placed (end_of r s w) (h.reached.reported r s).role (h.reached.reported r s).sapi call asks)) in
        not_called (λ zero. omega arith)

  -- in this module, an endpoint receives a block
  module _ {b : ProgramState} {r : Role} {s : Sapi} {old new : CEndpoint} {block : List ℕ} {answer : ℕ} {output output_old : CEffects}
      (answers_block : EndpointReceivesBlock block answer old new output_old output) {left : Queues (List ℕ)}
      (l : ChangesOneEndpoint r s old new (blocks_sent answer output) left a b) where
    abbrev taken : ProgramStep
    taken = TakesOldestBlock r s block answer output

    -- in this module, `z` is the state of the session if the block has no effect
    module _ (z : World) (same : end_of r s z ≡ end_of r s w) (states : AreStates a z) (reached : IsReached Sound channel z ls)
        (coded : AreCoded channel z.queues left) where
      -- a block that encodes no frame has no effect
      no_frame : (reason : Refusal) → IsOnlyRefusalReason channel block reason → Then b taken
      no_frame reason only =
          let invalid = answers_block.invalid_frame _ (here l) reason (rw (on_channel r s) only) in
          let other : answer ≢ 0 = λ zero. omega arith in
          quiet l taken z states reached coded (blocks_sent-refused output other) (rw (same, (answers_block.unchanged other).0) (here l))
          (grind (arith, nat_tests))

      module _ (f : Frame) (only : IsOnlyEncodedFrame channel f block) where
        carried : SucceedsWithOutcome channel (frame_outcome f (end_of r s w)) answer new output
        carried =
            subst (λ k. SucceedsWithOutcome k (frame_outcome f (end_of r s w)) answer new output) (on_channel r s)
            (answers_block.carried_out _ (here l) f (rw (on_channel r s) only))

        -- a block that encodes a frame with another SAPI has no effect
        passes_by : nat_eq f.sapi (sapi_number s) ≡ false → Then b taken
        passes_by off =
            let x : EndpointState = end_of r s w in
            let no : nat_eq f.sapi (sapi_number x.sapi) ≡ false = rw (h.reached.reported r s).sapi off in
            let c : SucceedsWithOutcome channel (no_effect x) answer new output =
            subst (λ o. SucceedsWithOutcome channel o answer new output) (rw no refl) carried in
            quiet l taken z states reached coded (output-blocks c) (rw same c.represents) (rw (c.answer_is_0, output-notices c) refl)

      unheard : HasUniqueReading channel block → HasNoFrameOnSapi channel s block → Then b taken
      unheard (inl (f, only)) none =
          let no : f.sapi ≢ sapi_number s = none f only.frame in passes_by f only (grind (arith, nat_tests, no))
      unheard (inr (reason, only)) none = no_frame reason only

  -- the frame that a block encodes is the oldest frame in transit, or an RR in place of a REJ
  first : (r : Role) (f : Frame) (block : List ℕ) → IsFrameCoding channel f block → (fs : List Frame) (os : List (List ℕ)) →
      AllZip (IsFrameCoding channel) fs os → FirstSatisfies (λ sent. EncodeSameFrame channel sent block) os →
      IsOldestSentOrReplaced r w.ends (Some f) fs
  first r f block is (g ∷ gs) (o ∷ os) same sent = elim (sent g same.0) [
    | inl is_sent ↦ as_sent (same_frame channel block f g is is_sent)
    | inr rr ↦ rr_for_rej (same_frame channel block f (record g { content = rej_replaced_by_rr g.content }) is rr)
  ]
  first r f block is fs [] same sent = absurd sent
  first r f block is fs os same sent = absurd assumption

  -- in this module, the oldest block in transit to a side leaves its queue, and an endpoint receives a block
  module _ {b : ProgramState} {r : Role} {s : Sapi} {old new : CEndpoint} {block : List ℕ} {answer : ℕ} {output output_old : CEffects}
      (answers_block : EndpointReceivesBlock block answer old new output_old output)
      (l : ChangesOneEndpoint r s old new (blocks_sent answer output) (W.without_oldest_item (other r) a.queues) a b)
      (delivers : Sound → DeliversOldestBlock channel a (TakesOldestBlock r s block answer output)) where
    abbrev left : World
    left = without_oldest_item (other r) w

    fewer : AreCoded channel left.queues (W.without_oldest_item (other r) a.queues)
    fewer = coded-rest w.queues h.coded (other r)

    by_link : (f : Frame) → IsOnlyEncodedFrame channel f block → (on : Bool) → nat_eq f.sapi (sapi_number s) ≡ on →
        Then b (TakesOldestBlock r s block answer output)
    by_link f only true on =
        let o = frame_outcome f (end_of r s w) in
        let c = carried answers_block l left refl h.states (loses h.reached (other r)) fewer f only in
        let read : Sound → IsOldestSentOrReplaced (other (other r)) w.ends (Some f) (W.queue_of (other r) w.queues) =
        λ sound. first (other (other r)) f block only.frame (W.queue_of (other r) w.queues) (W.queue_of (other r) a.queues)
        (h.coded (other r)) (delivers sound) in
        acts l (TakesOldestBlock r s block answer output) o left h.states fewer refl c (takes h.reached r s f on (only.frame.fits, read))
        (rw (c.answer_is_0, output-notices c) refl)
    by_link f only false off = passes_by answers_block l left refl h.states (loses h.reached (other r)) fewer f only off

    given : HasUniqueReading channel block → Then b (TakesOldestBlock r s block answer output)
    given (inl (f, only)) = by_link f only (nat_eq f.sapi (sapi_number s)) refl
    given (inr (reason, only)) = no_frame answers_block l left refl h.states (loses h.reached (other r)) fewer reason only

  turn-step : (turn : ProgramStep) (b : ProgramState) → IsProgramStep channel a turn b →
      (Sound → DeliversOldestBlock channel a turn) → Then b turn
  turn-step (Calls r s call answer output) b t delivers = answered t.3 t.4 (IsPlaced-or_not r s call)
  turn-step (TakesOldestBlock r s block answer output) b t delivers = given t.3 t.4 delivers (one_reading channel block t.5)
  turn-step (TakesOtherSapiBlock r s block answer output) b t delivers =
      unheard t.3 t.4 w refl h.states h.reached h.coded (one_reading channel block t.5) t.6
  turn-step (LosesOldestBlock sender) b t delivers = rw (t, append-nil) (record {
    world = without_oldest_item sender w;
    reached = loses h.reached sender;
    states = h.states;
    coded = coded-rest w.queues h.coded sender;
  })
  turn-step (RivalSabm info block) b t delivers = rw t.0 (record {
    world = with_frames Mobile (rival_sabm info ∷ []) w;
    reached = hears_rival h.reached info (rw h.reached.fit.on_channel t.2);
    states = h.states;
    coded = alike-more (IsFrameCoding channel) Mobile (rival_sabm info ∷ []) (block ∷ []) w.queues a.queues h.coded (t.1, tt);
  })

-- ---- several steps of the program

begun-initial : (channel : Channel) (r : Role) (s : Sapi) (x : Option CEndpoint) → IsNewEndpointOrNone channel r s x →
    MayRepresent x (initial_endpoint r s channel)
begun-initial channel r s None h = tt
begun-initial Sdcch Mobile Zero _ h = h.1.1
begun-initial Sdcch Network Zero (Some new) h = h.1.1
begun-initial Sacch Mobile Zero (Some new) h = h.1.1
begun-initial Sacch Network Zero (Some new) h = h.1.1
begun-initial channel r s (Some new) h = h.1.1

-- in this module, `Sound` implies that each block that an endpoint receives is the oldest in transit to it
module _ (Sound : Type 0) (May : Channel → ProgramState → ProgramStep → Type 0) (channel : Channel)
    (delivers : Sound → (a : ProgramState) (turn : ProgramStep) → May channel a turn → DeliversOldestBlock channel a turn)
    (a z : ProgramState) (turns : List ProgramStep) (h : IsProgramStart channel a) (run : IsProgramRun channel May a turns z) where
  joined : IsProgram Sound channel z (session_log turns)
  joined =
      let start : IsProgram Sound channel a [] = record {
        world = initial_world unbounded_capacity channel;
        reached = reached-start Sound channel;
        states = each_start (λ r s e. MayRepresent (a.state r s) e) unbounded_capacity channel
            (λ r s. begun-initial channel r s (a.state r s) (h.new_endpoint r s));
        coded = rw h.queues (each_way _ Mobile tt tt);
      } in
      run-keeps (IsProgramStep channel) (May channel) step_log_lines (IsProgram Sound channel)
      (λ a b turn ls k may step. turn-step k turn b step (λ sound. delivers sound a turn may)) turns a z [] start run

  pub claims_from : Sound → Claims (session_log turns)
  claims_from sound = claims_of (joined.reached.session sound)

  pub counts_from : Sound → AckedAtMostDelivered (session_log turns)
  counts_from sound = counts_of (joined.reached.session sound)

  pub order_from : HasNoticesInOrder (session_log turns)
  order_from = order_of joined.world _ joined.reached.reported

pub joined_claims : (channel : Channel) (a z : ProgramState) (turns : List ProgramStep) → IsProgramStart channel a →
    IsProgramRun channel DeliversOldestBlock a turns z →
    Claims (session_log turns)
joined_claims channel a z turns h run = claims_from (Unit {0}) DeliversOldestBlock channel (λ sound a turn may. may) a z turns h run tt

pub joined_order : (channel : Channel) (a z : ProgramState) (turns : List ProgramStep) → IsProgramStart channel a →
    IsProgramRun channel AnyStepAllowed a turns z →
    HasNoticesInOrder (session_log turns)
joined_order channel = order_from ⊥ AnyStepAllowed channel (λ sound. absurd sound)

-- ---- blocks that are decoded from bursts

accepted-is : (accepted : Option (List ℕ)) (flag : ℕ) (output octets : List ℕ) → IsFlagged 23 accepted flag output →
    accepted ≡ Some octets →
    output ≡ octets
accepted-is (Some x) flag output octets h same = cc
accepted-is None flag output octets h same = absurd cc

module _ (sent block : List ℕ) (h : IsDecodedFromSentBlock sent block) where
  restored : (r : Received) → IsReceivedBlock h.bursts r → r.accepted ≡ Some sent
  restored r is = damaged_received sent h.bursts r h.damage is

  -- the report on lightly damaged bursts contains the block that was sent, with or without list decoding
  output-sent : IsBlockReport h.bursts h.report ⊎ ((most rank : ℕ) × (1 ≤ most)
      × IsListDecodedReport h.bursts most rank h.report) → h.report.octets ≡ sent
  output-sent (inl one) =
      accepted-is one.received.accepted _ _ sent one.reports_block.accepted (restored one.received one.is_received)
  output-sent (inr (most, rank, some, among)) =
      let alone = some_received_block h.bursts h.damage.four_bursts h.damage.whole_bursts in
      let accepted : alone.0.accepted ≡ Some sent = restored alone.0 alone.1 in
      let same : among.received ≡ record { report = alone.0; rank = 1 } =
      block_first h.bursts most among.received some among.is_received alone.0 alone.1 (ap is_some accepted) in
      accepted-is among.received.report.accepted _ _ sent among.reports_block.accepted
      (ap (λ (r : ListDecodedBlock). r.report.accepted) same ∙ accepted)

heard-first : (channel : Channel) (sent : List (List ℕ)) (block : List ℕ) →
    FirstSatisfies (λ first. IsDecodedFromSentBlock first block) sent →
    FirstSatisfies (λ first. EncodeSameFrame channel first block) sent
heard-first channel (first ∷ others) block h = λ f is. inl (rw (h.octets, output-sent first block h h.received) is)
heard-first channel [] block h = absurd h

pub heard : (channel : Channel) (a : ProgramState) (turn : ProgramStep) → ReceivesOldestBlock channel a turn →
    DeliversOldestBlock channel a turn
heard channel a (TakesOldestBlock r s block answer output) h = heard-first channel (W.queue_of (other r) a.queues) block h
heard channel a turn h = tt

-- ---- each call, whatever it returns, is a possible step of the program

abbrev pub with_state : Role → Sapi → CEndpoint → ProgramState → Role → Sapi → Option CEndpoint
with_state r s new a r' s' = if is_same_role r' r && is_same_sapi s' s then Some new else a.state r' s'

abbrev pub left_in : ProgramState → Role → Sapi → CEndpoint → List (List ℕ) → Queues (List ℕ) → ProgramState
left_in a r s new out left = record { state = with_state r s new a; queues = with_items_appended r out left }

pub endpoint-left : {a : ProgramState} {r : Role} {s : Sapi} {old : CEndpoint} (new : CEndpoint) (out : List (List ℕ))
    (left : Queues (List ℕ)) →
    a.state r s ≡ Some old → ChangesOneEndpoint r s old new out left a (left_in a r s new out left)
endpoint-left new out left before = grind arith

pub program_step-call : (channel : Channel) (a : ProgramState) (r : Role) (s : Sapi) (call : Call) (answer : ℕ) (old new : CEndpoint)
    (output_old output : CEffects) → a.state r s ≡ Some old → EndpointAnswersCall call answer old new output_old output →
    (b : ProgramState) × IsProgramStep channel a (Calls r s call answer output) b × (b.state r s ≡ Some new)
program_step-call channel a r s call answer old new output_old output before answers_call =
    let x = endpoint-left new (blocks_sent answer output) a.queues before in
    (_, (old, new, output_old, answers_call, x), x.new_state)

pub program_step-block : (channel : Channel) (a : ProgramState) (r : Role) (s : Sapi) (block : List ℕ) (answer : ℕ)
    (old new : CEndpoint)
    (output_old output : CEffects) → a.state r s ≡ Some old → length block ≡ 23 →
    EndpointReceivesBlock block answer old new output_old output →
    (b : ProgramState) × IsProgramStep channel a (TakesOldestBlock r s block answer output) b × (b.state r s ≡ Some new)
program_step-block channel a r s block answer old new output_old output before size answers_block =
    let x = endpoint-left new (blocks_sent answer output) (W.without_oldest_item (other r) a.queues) before in
    (_, (old, new, output_old, answers_block, x, size), x.new_state)

pub program_step-other_sapi : (channel : Channel) (a : ProgramState) (r : Role) (s : Sapi) (block : List ℕ) (answer : ℕ)
    (old new : CEndpoint)
    (output_old output : CEffects) → a.state r s ≡ Some old → length block ≡ 23 → HasNoFrameOnSapi channel s block →
    EndpointReceivesBlock block answer old new output_old output →
    (b : ProgramState) × IsProgramStep channel a (TakesOtherSapiBlock r s block answer output) b × (b.state r s ≡ Some new)
program_step-other_sapi channel a r s block answer old new output_old output before size none answers_block =
    let x = endpoint-left new (blocks_sent answer output) a.queues before in
    (_, (old, new, output_old, answers_block, x, size, none), x.new_state)
