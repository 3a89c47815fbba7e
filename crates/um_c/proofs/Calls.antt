-- What each C call returns and writes.
use Rattle.{
  fire_repair.{
    proofs.RepairResults.one_answer,
    specs.{Answers.IsRepairResult, declared.repairs.RepairAnswer.{TheVariants.{Holds, NoRepair, Repaired}, RepairAnswer}},
  },
  lapdm_end.{proofs.Lemmas.one_values, specs.{Abstraction.Represents, Parts.{EndpointValues, values_of}, Refinement.RefusesAsSpecified}},
  lapdm_end.specs.{Refinement.StepRefines, declared.{Role.Role, ends.Endpoint.Endpoint}},
  lapdm_frame.specs.{
    Content.Frame,
    Frames.bit_of_bool,
    Readings.{IsOnlyEncodedFrame, IsOnlyRefusalReason},
    declared.{Channel.Channel, Refusal.Refusal},
  },
  std.proofs.Common.{Bool, Err, false, IfErr, List, None, Ok, OnOk, Option, Result, Some, [], add-one, ap, arith, get_or, inl, inr, length},
  std.proofs.Common.{map, nat_le, refl, replicate, slice_index_or, slice_set, suc, sym, take, true, zero, ℕ, ℤ, ◌++◌, ◌+◌},
  std.proofs.{Common.{◌-◌, ◌<◌, ◌↔◌, ◌∙◌, ◌∷◌, ◌≡◌, ◌≤◌}, lemmas.Bool.{Decides.nat_tests, cases_lt}},
  std.{proofs.lemmas.List.take_at, specs.Prelude.{IsNone, IsSome, IsTrue, MatchOption}},
  um_air.specs.{
    lapdm_window.{Calls.{Call, IsCallAllowedForEndpoint, call_outcome}, Ends.{EndpointState, Outcome, initial_endpoint}, Steps.HasEffects},
    lapdm_window.{Tables.frame_outcome, declared.{Notice.Notice, Refused.Refused, Sapi.Sapi, State.State, effects.Effects.Effects}},
    segmenting.{Buffers.{message_buffer, octets_in_buffer}, Segments.Message, declared.buffers.MessageBuffer.MessageBuffer},
    segmenting.declared.joiner.ReassemblyState.ReassemblyState,
  },
  um_list_receive.proofs.list_decode.Lemmas.{both_unique, one_margin},
  um_block.proofs.{Lemmas.{one_received_access, one_received_block, one_received_sync}, interleave.Bursts.same_coded},
  um_block.specs.{Received.coded_soft_bits, declared.received.Received.Received, interleave.Bursts.IsInterleaved},
  um_c.specs.{
    Effects.{blank_notice, c_effects, c_notice},
    EndCalls.{EndpointReceivesBlock, EndpointAnswersCall, IsNewEndpointResult, SucceedsWithOutcome, call_refusal_number},
    MarginReports.IsMarginReport,
    Plain.{channel_of, is_nonzero},
    RepairReports.{IsRepairResultForBitWord, IsRepairCallResult},
    Reports.{IsAccessReport, IsBlockReport, IsSyncReport, ReportsBlock},
    States.{RepresentsSomeEndpoint, StructRepresents, buffers_of_messages, c_endpoint, channel_number, endpoint_values_from},
    States.{IsCanonicalStruct, endpoint_values_if_valid, window_values_from, window_values_if_valid, reassembly_from_number},
    States.{reassembly_number, role_number, role_of, sapi_number, sapi_of, state_number, state_of},
    declared.{blocks.BlockReport.BlockReport, bursts.{AccessReport.AccessReport, SyncReport.SyncReport}, effects.CEffects.CEffects},
    declared.{effects.CNotice.CNotice, margins.MarginReport.MarginReport, repairs.RepairReport.RepairReport, states.CEndpoint.CEndpoint},
  },
}
use Rattle.lapdm_end.specs.Addresses as L

-- ## Plain: Reading back the C struct of an endpoint gives the values that were written to it.

role-number : (r : Role) → role_of (role_number r) ≡ Some r
role-number r = grind arith

pub sapi-number : (s : Sapi) → sapi_of (sapi_number s) ≡ Some s
sapi-number s = grind arith

channel-number : (c : Channel) → channel_of (channel_number c) ≡ Some c
channel-number c = grind arith

state-number : (s : State) → state_of (state_number s) ≡ Some s
state-number s = grind arith

part-number : (p : ReassemblyState) → reassembly_from_number (reassembly_number p) ≡ Some p
part-number p = grind arith

pub is_nonzero-bit_of_bool : (b : Bool) → is_nonzero (bit_of_bool b) ≡ b
is_nonzero-bit_of_bool b = grind arith

pub octets-c_struct : (octets : List ℕ) → octets_in_buffer (message_buffer octets) ≡ octets
octets-c_struct octets = take_at octets _ _ refl

messages-c_struct : (k : ℕ) (held : List Message) → length held ≤ k →
    map octets_in_buffer (take (length held) (buffers_of_messages k held)) ≡ held
messages-c_struct k [] few = refl
messages-c_struct zero (m ∷ ms) few = absurd (omega arith)
messages-c_struct (suc k) (m ∷ ms) few = rw (octets-c_struct m, messages-c_struct k ms (omega arith)) refl

pub end-c_struct : (x : EndpointValues) → length x.window.held ≤ 8 → endpoint_values_from (c_endpoint x) ≡ Some x
end-c_struct x few =
    let few_held : nat_le (length x.window.held) 8 ≡ true = grind (arith, nat_tests) in
    rw (
      role-number x.role,
      sapi-number x.sapi,
      state-number x.state,
      channel-number x.window.channel,
      part-number x.window.joiner.part,
      few_held,
      messages-c_struct 8 x.window.held few,
      is_nonzero-bit_of_bool x.window.rejecting,
      octets-c_struct x.window.joiner.octets,
      octets-c_struct x.sabm_info,
    )

-- ---- two structs in canonical form that represent the same endpoint are equal

no_window : (s : CEndpoint) (channel : Option Channel) (part : Option ReassemblyState) →
    window_values_if_valid s channel part false ≡ None
no_window s channel part = grind arith

no_endpoint : (s : CEndpoint) (role : Option Role) (sapi : Option Sapi) (state : Option State) →
    endpoint_values_if_valid s role sapi state None ≡ None
no_endpoint s role sapi state = grind arith

few_held : (x y : EndpointValues) → endpoint_values_from (c_endpoint x) ≡ Some y → length x.window.held ≤ 8
few_held x y decoded =
    elim (cases_lt 8 (length x.window.held)) [
      | inr few ↦ few
      | inl many ↦
          let full : nat_le (length x.window.held) 8 ≡ false = grind (arith, nat_tests) in
          let none : window_values_from (c_endpoint x) ≡ None = rw full (no_window (c_endpoint x)
          (channel_of (channel_number x.window.channel)) (reassembly_from_number (reassembly_number x.window.joiner.part))) in
          let nothing : endpoint_values_from (c_endpoint x) ≡ None = rw none (no_endpoint (c_endpoint x)
          (role_of (role_number x.role)) (sapi_of (sapi_number x.sapi)) (state_of (state_number x.state))) in
          absurd (cc (sym nothing ∙ decoded))
    ]

canonical_values : (x y : EndpointValues) → endpoint_values_from (c_endpoint x) ≡ Some y → x ≡ y
canonical_values x y decoded =
    let same : Some x ≡ Some y = sym (end-c_struct x (few_held x y decoded)) ∙ decoded in
    cc same

pub one_struct : (a b : CEndpoint) (e : EndpointState) → StructRepresents a e → StructRepresents b e → IsCanonicalStruct a →
    IsCanonicalStruct b → a ≡ b
one_struct a b e h g (x, is) (y, is') =
    let first : x ≡ h.endpoint_values = canonical_values x _ (rw is at h.decoded) in
    let second : y ≡ g.endpoint_values = canonical_values y _ (rw is' at g.decoded) in
    let m = h.represents_values in
    let n = g.represents_values in
    let same : x ≡ y = first ∙ sym m.values_match ∙ one_values m.endpoint n.endpoint e m.represents n.represents ∙ n.values_match
    ∙ sym second in
    is ∙ ap c_endpoint same ∙ sym is'

-- ## Places: An array that is written one element at a time contains the notices or messages, followed by unused elements.

abbrev place : List Notice → ℕ → CNotice
place notices i = slice_index_or (map c_notice notices) i blank_notice

c_notices-three : (notices : List Notice) → length notices ≤ 3 →
    place notices 0 ∷ place notices 1 ∷ place notices 2 ∷ [] ≡ map c_notice notices ++ replicate (3 - length notices) blank_notice
c_notices-three [] h = refl
c_notices-three (a ∷ []) h = refl
c_notices-three (a ∷ b ∷ []) h = refl
c_notices-three (a ∷ b ∷ c ∷ []) h = refl
c_notices-three notices h = absurd (omega arith)

pub c_notices-written : (old : List CNotice) (notices : List Notice) (a b c : CNotice) → length old ≡ 3 → length notices ≤ 3 →
    a ≡ place notices 0 → b ≡ place notices 1 → c ≡ place notices 2 →
    slice_set (slice_set (slice_set old 0 a) 1 b) 2 c ≡ map c_notice notices ++ replicate (3 - length notices) blank_notice
c_notices-written (x ∷ y ∷ z ∷ []) notices a b c three few at at1 at2 = rw (at, at1, at2) (c_notices-three notices few)
c_notices-written old notices a b c three few at at1 at2 = absurd (omega arith)

-- if an array holds the first i messages, writing message i gives the array that holds the first i + 1 messages
buffers-next : (k i : ℕ) (held : List MessageBuffer) (other : MessageBuffer) → i < length held → i < k →
    slice_set (buffers_of_messages k (map octets_in_buffer (take i held))) i (message_buffer (octets_in_buffer (get_or held i other)))
    ≡ buffers_of_messages k (map octets_in_buffer (take (suc i) held))
buffers-next (suc k) zero (m ∷ ms) other at room = refl
buffers-next (suc k) (suc i) (m ∷ ms) other at room = rw (buffers-next k i ms other (omega arith) (omega arith))
buffers-next k i held other at room = absurd (omega arith)

pub buffers-written : (held : List MessageBuffer) (i : ℕ) (buffers : List MessageBuffer) (room other : MessageBuffer)
    (octets : List ℕ) →
    i < length held → length held ≤ 8 → buffers ≡ buffers_of_messages 8 (map octets_in_buffer (take i held)) →
    octets ≡ octets_in_buffer (get_or held i other) →
    room ≡ message_buffer octets → slice_set buffers i room ≡ buffers_of_messages 8 (map octets_in_buffer (take (i + 1) held))
buffers-written held i buffers room other octets at few so_far is written =
    rw (so_far, written, is, add-one) (buffers-next 8 i held other at (omega arith))

-- ## Accepting: The accepted octets determine the fields `accepted` and `octets` of a report.

abbrev pub IsFlagged : ℕ → Option (List ℕ) → ℕ → List ℕ → Type 0
IsFlagged n accepted flag output = MatchOption accepted ((flag ≡ 0) × (output ≡ replicate n 0)) (λ octets. (flag ≡ 1)
    × (output ≡ octets))

IsFlagged-unique : (n : ℕ) (accepted : Option (List ℕ)) {flag flag' : ℕ} {output output' : List ℕ} →
    IsFlagged n accepted flag output → IsFlagged n accepted flag' output' → (flag ≡ flag') × (output ≡ output')
IsFlagged-unique n None h g = (cc, cc)
IsFlagged-unique n _ h g = (cc, cc)

pub IsFlagged-some : (accepted : Option (List ℕ)) (flag : ℕ) (output : List ℕ) → IsFlagged 23 accepted flag output →
    flag ≡ 1 →
    IsSome accepted
IsFlagged-some None flag output h one = absurd (omega arith)
IsFlagged-some _ flag output h one = refl

pub IsFlagged-none : (accepted : Option (List ℕ)) (flag : ℕ) (output : List ℕ) → IsFlagged 23 accepted flag output →
    (flag ≡ 0) ↔ IsNone accepted
IsFlagged-none None flag output h = (λ zero. refl, λ none. h.0)
IsFlagged-none (Some octets) flag output h = (λ zero. absurd (omega arith), λ none. absurd cc)

-- ## Calls: A C call reads the caller's struct into a Rust endpoint (`lapdm_end`) and calls this endpoint. The contract of the Rust
-- endpoint determines what the C call returns and writes, because both represent the same abstract endpoint.

-- the Rust endpoint `m` was read from the struct `s`: `s` represents an endpoint, and `m` represents every endpoint that `s` represents
pub record IsRead (s : CEndpoint) (m : Endpoint) : Type 0 where
  pub represents : (e : EndpointState) → StructRepresents s e → Represents m e
  pub is_endpoint : RepresentsSomeEndpoint s

pub is_read : {s : CEndpoint} {m : Endpoint} {read : Bool} →
    (IsTrue read → (e : EndpointState) → StructRepresents s e → Represents m e) → (IsTrue read ↔ RepresentsSomeEndpoint s) →
    IsTrue read → IsRead s m
is_read represents known is = record { represents = represents is; is_endpoint = known.0 is }

-- the call succeeded: it returned 0, `after` holds the values of the endpoint `n`, and `output` holds these effects
abbrev pub IsDone : Effects → Endpoint → ℕ → CEndpoint → CEffects → Type 0
IsDone effects n answer after output =
    (answer ≡ 0) × (endpoint_values_from after ≡ Some (values_of n)) × (output ≡ c_effects effects.frames effects.notices)

pub is_done : (n : Endpoint) (effects : Effects) {answer : ℕ} {after : CEndpoint} {output : CEffects} →
    (answer ≡ 0) × (after ≡ c_endpoint (values_of n)) × (output ≡ c_effects effects.frames effects.notices) →
    IsDone effects n answer after output
is_done n effects is = (is.0, cc (is.1, end-c_struct (values_of n) n.window.at_most_8), is.2)

pub OnOk-map : {A P Q : Type 0} (r : Result A Refused) → (P → Q) → OnOk r P → OnOk r Q
OnOk-map (Ok x) f h = f h
OnOk-map _ f h = h

struct_represents : {s : CEndpoint} {m : Endpoint} {e : EndpointState} → endpoint_values_from s ≡ Some (values_of m) →
    Represents m e → StructRepresents s e
struct_represents {m} decoded h = record {
  endpoint_values = values_of m;
  decoded = decoded;
  represents_values = record { endpoint = m; values_match = refl; represents = h };
}

carried_out : {o : Outcome} {channel : Channel} {n : Endpoint} {effects : Effects} {answer : ℕ} {after : CEndpoint}
    {output : CEffects} → Represents n o.new_state × HasEffects effects channel o → IsDone effects n answer after output →
    SucceedsWithOutcome channel o answer after output
carried_out does is =
    record {
      answer_is_0 = is.0;
      represents = struct_represents is.1 does.0;
      effects = cc;
    }

module _ {before after : CEndpoint} {output_old output : CEffects} {m : Endpoint} {answer : ℕ} (read : IsRead before m) where
  pub answered_by : {A : Type 0} {call : Call} (n : Endpoint) (effects : Effects) (r : Result A Refused) →
      ((e : EndpointState) → StructRepresents before e → IsCallAllowedForEndpoint e call) → RefusesAsSpecified call m r →
      OnOk r (StepRefines (call_outcome call) m effects n) → OnOk r (IsDone effects n answer after output) →
      IfErr r (λ reason. (answer ≡ call_refusal_number reason) × (after ≡ before) × (output ≡ output_old)) →
      EndpointAnswersCall call answer before after output_old output
  answered_by n effects (Ok x) allowed refusal follows is refused =
      record {
        carried_out = λ e h asked none. carried_out (follows e (read.represents e h)) is;
        refused = λ e h asked reason refuses. cc (refusal e (read.represents e h));
        unsupported_call = λ e h not_one. absurd (not_one (allowed e h));
        invalid_struct = λ none. absurd (none _ read.is_endpoint.1);
        unchanged = λ other. absurd (other is.0);
      }
  answered_by n effects (Err reason) allowed refusal follows done is =
      record {
        carried_out = λ e h asked none. absurd (cc (refusal e (read.represents e h)));
        refused = λ e h asked other refuses. cc (refusal e (read.represents e h));
        unsupported_call = λ e h not_one. absurd (not_one (allowed e h));
        invalid_struct = λ none. absurd (none _ read.is_endpoint.1);
        unchanged = λ other. (is.1, is.2);
      }

  -- if the block encodes the frame `f`, an endpoint that receives `f` satisfies `EndpointReceivesBlock`
  pub given_by : {octets : List ℕ} {channel : Channel} → ((e : EndpointState) → Represents m e → channel ≡ e.channel) →
      (f : Frame) (n : Endpoint) (effects : Effects) → IsOnlyEncodedFrame channel f octets →
      StepRefines (frame_outcome f) m effects n →
      IsDone effects n answer after output → EndpointReceivesBlock octets answer before after output_old output
  given_by {octets} same f n effects frame follows is =
      let known : (e : EndpointState) → StructRepresents before e → IsOnlyEncodedFrame e.channel f octets =
      λ e h. rw (same e (read.represents e h)) at frame in
      record {
        carried_out = λ e h g only. rw ((known e h).unique g only.frame) (carried_out (follows e (read.represents e h)) is);
        invalid_frame = λ e h reason refusal. absurd (refusal.no_frame f (known e h).frame);
        invalid_struct = λ none. absurd (none _ read.is_endpoint.1);
        unchanged = λ other. absurd (other is.0);
      }

-- if the endpoint does not support the call, the C call must return 8 and write nothing
pub not_asked : {call : Call} {s : CEndpoint} {output : CEffects} {m : Endpoint} → IsRead s m →
    ((e : EndpointState) → StructRepresents s e → IsCallAllowedForEndpoint e call → ⊥) →
    EndpointAnswersCall call 8 s s output output
not_asked read never = record {
  carried_out = λ e h asked none. absurd (never e h asked);
  refused = λ e h asked reason refuses. absurd (never e h asked);
  unsupported_call = λ e h not_one. refl;
  invalid_struct = λ none. absurd (none _ read.is_endpoint.1);
  unchanged = λ other. (refl, refl);
}

-- if the block encodes no frame, the C call must return 9 and write nothing
pub not_given : {octets : List ℕ} {channel : Channel} {reason : Refusal} {s : CEndpoint} {output : CEffects} {m : Endpoint} →
    IsRead s m → ((e : EndpointState) → Represents m e → channel ≡ e.channel) → IsOnlyRefusalReason channel octets reason →
    EndpointReceivesBlock octets 9 s s output output
not_given read same refusal = record {
  carried_out = λ e h f only. absurd ((rw (same e (read.represents e h)) at refusal).no_frame f only.frame);
  invalid_frame = λ e h other refused. refl;
  invalid_struct = λ none. absurd (none _ read.is_endpoint.1);
  unchanged = λ other. (refl, refl);
}

-- if role, SAPI and channel are valid, writing an initial endpoint to `after` satisfies `IsNewEndpointResult`
pub new_endpoint : (role sapi channel : ℕ) (before : CEndpoint) {r : Role} {s : Sapi} {c : Channel} {after : CEndpoint} (m : Endpoint) →
    Some r ≡ role_of role → Some s ≡ sapi_of sapi → Some c ≡ channel_of channel → after ≡ c_endpoint (values_of m) →
    Represents m (initial_endpoint (L.spec_role_of r) s c) →
    IsNewEndpointResult role sapi channel true before after
new_endpoint role sapi channel before m of_role of_sapi of_channel is represents =
    rw (← of_role, ← of_sapi, ← of_channel) (
      refl,
      struct_represents (ap endpoint_values_from is ∙ end-c_struct (values_of m) m.window.at_most_8) represents,
    )

-- ## UniqueReports: The definitions allow only one report for each reception.

-- two reports on the same reception are equal
pub equal_reports : (bursts : List (List ℤ)) (soft : List ℤ) (a b : Received) (r r' : BlockReport) →
    IsInterleaved soft (map coded_soft_bits bursts) → a ≡ b → ReportsBlock bursts a r → ReportsBlock bursts b r' → r ≡ r'
equal_reports bursts soft a b r r' deinterleaved same h g =
    let flag = IsFlagged-unique 23 b.accepted (rw same at h.accepted) g.accepted in
    λ i. record {
      metric = (rw same at h.metric ∙ sym g.metric) i;
      wrong_training = (rw same at h.wrong_training ∙ sym g.wrong_training) i;
      wrong_coded = (rw same at (h.wrong_coded soft deinterleaved) ∙ sym (g.wrong_coded soft deinterleaved)) i;
      tsc = (rw same at h.tsc ∙ sym g.tsc) i;
      accepted = flag.0 i;
      octets = flag.1 i;
      word = (rw same at h.word ∙ sym g.word) i;
    }

pub IsBlockReport-unique : (bursts : List (List ℤ)) (r r' : BlockReport) → IsBlockReport bursts r → IsBlockReport bursts r' →
    r ≡ r'
IsBlockReport-unique bursts r r' h g =
    equal_reports bursts h.is_received.soft _ _ r r' h.is_received.deinterleaved (one_received_block bursts _ _ h.is_received g.is_received)
    h.reports_block g.reports_block

pub IsAccessReport-unique : (burst : List ℤ) (bsic : List ℕ) (r r' : AccessReport) →
    IsAccessReport burst bsic r → IsAccessReport burst bsic r' → r ≡ r'
IsAccessReport-unique burst bsic r r' h g =
    let same = one_received_access burst bsic h.received g.received h.is_received g.is_received in
    let flag = IsFlagged-unique 8 g.received.accepted (rw same at h.accepted) g.accepted in
    λ i. record {
      metric = (rw same at h.metric ∙ sym g.metric) i;
      wrong_training = (rw same at h.wrong_training ∙ sym g.wrong_training) i;
      wrong_coded = (rw same at h.wrong_coded ∙ sym g.wrong_coded) i;
      accepted = flag.0 i;
      info = flag.1 i;
      word = (rw same at h.word ∙ sym g.word) i;
    }

pub IsSyncReport-unique : (burst : List ℤ) (r r' : SyncReport) → IsSyncReport burst r → IsSyncReport burst r' → r ≡ r'
IsSyncReport-unique burst r r' h g =
    let same = one_received_sync burst h.received g.received h.is_received g.is_received in
    let flag = IsFlagged-unique 25 g.received.accepted (rw same at h.accepted) g.accepted in
    λ i. record {
      metric = (rw same at h.metric ∙ sym g.metric) i;
      wrong_training = (rw same at h.wrong_training ∙ sym g.wrong_training) i;
      wrong_coded = (rw same at h.wrong_coded ∙ sym g.wrong_coded) i;
      accepted = flag.0 i;
      info = flag.1 i;
      word = (rw same at h.word ∙ sym g.word) i;
    }

pub IsMarginReport-unique : (bursts : List (List ℤ)) (r r' : MarginReport) → IsMarginReport bursts r → IsMarginReport bursts r' →
    r ≡ r'
IsMarginReport-unique bursts r r' h g =
    let soft : h.soft ≡ g.soft = same_coded h.soft g.soft (map coded_soft_bits bursts) h.deinterleaved g.deinterleaved in
    let both = both_unique g.soft r'.word r'.next r.word r.next g.best g.next (rw soft at h.best) (rw soft at h.next) in
    let equal = one_margin g.soft r'.word r.margin r'.margin (rw (soft, both.0) at h.margin) g.margin in
    λ i. record { margin = equal i; word = both.0 i; next = both.1 i }

-- ## UniqueRepairs: The definitions allow only one return value and one report for each word.

abbrev number : RepairAnswer → ℕ
number Holds = 0
number (Repaired word first span) = 1
number NoRepair = 2

abbrev reported : RepairAnswer → RepairReport → RepairReport
reported Holds before = before
reported (Repaired word first span) before = record { first = first; span = span; word = word }
reported NoRepair before = before

-- the return value and the report encode a result of `repair` for the word `w`
describes_repair : (w : List ℕ) (answer : ℕ) (before after : RepairReport) → IsRepairResultForBitWord w answer before after →
    (repair : RepairAnswer) × IsRepairResult w repair × (answer ≡ number repair) × (after ≡ reported repair before)
describes_repair w answer before after (inl holds) = (Holds, holds.0, holds.1, holds.2)
describes_repair w answer before after (inr (inl right)) =
    (Repaired after.word after.first after.span, (right.0, right.1), right.2, refl)
describes_repair w answer before after (inr (inr none)) = (NoRepair, (none.0, none.1), none.2, none.3)

pub repair-unique : (w : List ℕ) (a b : ℕ) (before r r' : RepairReport) → IsRepairCallResult w a before r →
    IsRepairCallResult w b before r' → (a ≡ b) × (r ≡ r')
repair-unique w a b before r r' (inl bits) (inl bits') =
    let x = describes_repair w a before r bits.1 in
    let y = describes_repair w b before r' bits'.1 in
    let same = one_answer w x.0 y.0 x.1 y.1 in
    (x.2 ∙ ap number same ∙ sym y.2, cc)
repair-unique w a b before r r' (inr none) (inr none') = (cc, cc)
repair-unique w a b before r r' (inl bits) (inr none) = absurd (none.0 bits.0)
repair-unique w a b before r r' (inr none) (inl bits) = absurd (none.0 bits.0)
