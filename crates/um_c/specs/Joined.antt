-- A C program that connects endpoints: it keeps their states, calls them, and carries the blocks between them.
use Rattle.std.specs.Prelude.{ℕ, ℤ, ◌≡◌, ◌≤◌, ◌==◌, ◌&&◌, ◌≢◌, ◌⊎◌, if◌then◌else◌, true, false}
use Rattle.std.specs.Prelude.{List, [], ◌∷◌, length, take, map, Option, Some, None}
use Rattle.std.specs.List.{filter_map}
use Rattle.lapdm_frame.specs.declared.Channel.{Channel}
use Rattle.lapdm_frame.specs.Content.{Frame}
use Rattle.lapdm_frame.specs.Frames.{IsFrameCoding}
use Rattle.um_air.specs.segmenting.Segments.{Message}
use Rattle.um_air.specs.segmenting.Buffers.{octets_in_buffer}
use Rattle.um_air.specs.lapdm_window.declared.Sapi.{Sapi}
use Rattle.um_air.specs.lapdm_window.declared.Notice.{Notice}
use Rattle.um_air.specs.lapdm_window.declared.Notice.TheVariants as N
use Rattle.um_air.specs.lapdm_window.declared.Reason.{Reason}
use Rattle.um_air.specs.lapdm_window.declared.Reason.TheVariants as R
use Rattle.um_air.specs.lapdm_window.Ends.{Role, Mobile, Network, sapi_number}
use Rattle.um_air.specs.lapdm_window.Calls.{Call}
use Rattle.um_air.specs.lapdm_link.Queues.{Queues, empty_queues, queue_of, with_items_appended, without_oldest_item}
use Rattle.um_air.specs.lapdm_link.Events.{other, rival_sabm, rival_refusal}
use Rattle.um_air.specs.lapdm_link.Worlds.{rej_replaced_by_rr}
use Rattle.um_air.specs.lapdm_link.Claims.{LogLine, Asked, Notified, is_same_role, is_same_sapi}
use Rattle.um_air.specs.lapdm_link.Claims as C
use Rattle.um_air.specs.lapdm_link.Carriers.{IsRun, FirstSatisfies, log_of_turns}
use Rattle.um_air.specs.Damage.{AreCorrectableBursts}
use Rattle.um_c.specs.declared.states.CEndpoint.{CEndpoint}
use Rattle.um_c.specs.declared.blocks.BlockReport.{BlockReport}
use Rattle.um_c.specs.Reports.{IsBlockReport, IsListDecodedReport}
use Rattle.um_c.specs.declared.effects.CNotice.{CNotice}
use Rattle.um_c.specs.declared.effects.CEffects.{CEffects}
use Rattle.um_c.specs.States.{channel_number}
use Rattle.um_c.specs.EndCalls.{EndpointAnswersCall, EndpointReceivesBlock, IsNewEndpointResult}

-- ---- reading the effects of a call

-- the reason why a link was closed, given its number in the C API
abbrev pub close_reason_from_number : (number : ℕ) → Reason
close_reason_from_number number =
    if number == 0 then R.Contention else if number == 1 then R.Failed else if number == 2 then R.Refused else R.Released

-- the notice that a C struct represents, or `None` if its kind is not 1 to 6
abbrev pub notice_from_c : CNotice → Option Notice
notice_from_c n =
    if n.kind == 1 then Some (N.Opened (octets_in_buffer n.message))
    else if n.kind == 2 then Some (N.Got (octets_in_buffer n.message))
    else if n.kind == 3 then Some (N.Unit (octets_in_buffer n.message))
    else if n.kind == 4 then Some (N.Acked n.number)
    else if n.kind == 5 then Some N.Oversize
    else if n.kind == 6 then Some (N.Closed (close_reason_from_number n.reason))
    else None

-- all notices in the effects of a call, in order
abbrev pub notices_from_c : CEffects → List Notice
notices_from_c output = filter_map notice_from_c (take output.notice_count output.notices)

-- the blocks that a call sent, if it returned 0; otherwise none
abbrev pub blocks_sent : (answer : ℕ) (output : CEffects) → List (List ℕ)
blocks_sent answer output = if answer == 0 then take output.frame_count output.frames else []

-- ---- one step of the program

-- one step of the program: an endpoint is called; an endpoint receives the oldest block in transit to its side, or a block that encodes no
-- frame with its SAPI; the oldest block from a side is lost; or the SABM of another mobile is added to the uplink
pub data ProgramStep : Type 0 where
  Calls : (role : Role) (sapi : Sapi) (call : Call) (answer : ℕ) (output : CEffects) → ProgramStep
  TakesOldestBlock : (role : Role) (sapi : Sapi) (block : List ℕ) (answer : ℕ) (output : CEffects) → ProgramStep
  TakesOtherSapiBlock : (role : Role) (sapi : Sapi) (block : List ℕ) (answer : ℕ) (output : CEffects) → ProgramStep
  LosesOldestBlock : (sender : Role) → ProgramStep
  RivalSabm : (info : Message) (block : List ℕ) → ProgramStep

-- the state of the program: the structs of the endpoints that it has, and the blocks in transit in each direction, in order
pub record ProgramState : Type 0 where
  pub state : Role → Sapi → Option CEndpoint
  pub queues : Queues (List ℕ)

-- in a step of the program, the state of one endpoint changes from `old` to `new`, all other states stay the same, and the blocks
-- `sent_blocks` are added to those still in transit, `remaining_queues`
pub record ChangesOneEndpoint (role : Role) (sapi : Sapi) (old new : CEndpoint) (sent_blocks : List (List ℕ)) (remaining_queues : Queues
    (List ℕ))
    (before after : ProgramState) : Type 0 where
  pub old_state : before.state role sapi ≡ Some old
  pub new_state : after.state role sapi ≡ Some new
  pub others_unchanged : (r' : Role) (s' : Sapi) → is_same_role r' role && is_same_sapi s' sapi ≡ false → after.state r' s' ≡
      before.state r' s'
  pub queues : after.queues ≡ with_items_appended role sent_blocks remaining_queues

-- the block encodes no frame with this SAPI
abbrev pub HasNoFrameOnSapi : (channel : Channel) (sapi : Sapi) (block : List ℕ) → Type 0
HasNoFrameOnSapi channel s block = (f : Frame) → IsFrameCoding channel f block → f.sapi ≢ sapi_number s

-- `step` leads from `state` to `after`, and the endpoint meets the contract of the call
abbrev pub IsProgramStep : (channel : Channel) (state : ProgramState) (step : ProgramStep) (after : ProgramState) → Type 0
IsProgramStep channel a (Calls r s call answer output) b =
    (old new : CEndpoint) × (output_old : CEffects) × EndpointAnswersCall call answer old new output_old output
    × ChangesOneEndpoint r s old new (blocks_sent answer output) a.queues a b
IsProgramStep channel a (TakesOldestBlock r s block answer output) b =
    (old new : CEndpoint) × (output_old : CEffects) × EndpointReceivesBlock block answer old new output_old output
    × ChangesOneEndpoint r s old new (blocks_sent answer output) (without_oldest_item (other r) a.queues) a b × (length block ≡ 23)
IsProgramStep channel a (TakesOtherSapiBlock r s block answer output) b =
    (old new : CEndpoint) × (output_old : CEffects) × EndpointReceivesBlock block answer old new output_old output
    × ChangesOneEndpoint r s old new (blocks_sent answer output) a.queues a b × (length block ≡ 23) × HasNoFrameOnSapi channel s block
IsProgramStep channel a (LosesOldestBlock sender) b = b ≡ record a { queues = without_oldest_item sender a.queues }
IsProgramStep channel a (RivalSabm info block) b =
    (b ≡ record a { queues = with_items_appended Mobile (block ∷ []) a.queues }) × IsFrameCoding channel (rival_sabm info) block
    × (rival_refusal channel info ≡ None)

-- ---- several steps of the program

-- the number of a role in the C API
abbrev pub role_number : Role → ℕ
role_number Mobile = 0
role_number Network = 1

-- the program does not have this endpoint, or the endpoint is new
abbrev pub IsNewEndpointOrNone : (channel : Channel) (role : Role) (sapi : Sapi) (endpoint : Option CEndpoint) → Type 0
IsNewEndpointOrNone channel r s None = Unit {0}
IsNewEndpointOrNone channel r s (Some new) =
    (old : CEndpoint) × IsNewEndpointResult (role_number r) (sapi_number s) (channel_number channel) true old new

-- the program at its start: each endpoint is new, and no block is in transit
pub record IsProgramStart (channel : Channel) (program : ProgramState) : Type 0 where
  pub new_endpoint : (r : Role) (s : Sapi) → IsNewEndpointOrNone channel r s (program.state r s)
  pub queues : program.queues ≡ empty_queues

-- the steps `turns` lead from `before` to `after`, and each satisfies the condition `MayTake`
abbrev pub IsProgramRun : (channel : Channel) (MayTake : (Channel → ProgramState → ProgramStep → Type 0)) (before : ProgramState)
    (turns : List ProgramStep) (after : ProgramState) → Type 0
IsProgramRun channel May a turns z = IsRun (IsProgramStep channel) (May channel) a turns z

-- `block` encodes the same frame as `sent`, perhaps with other fill octets; if `sent` encodes a REJ, `block` may encode an RR with the same
-- N(R) instead
abbrev pub EncodeSameFrame : (channel : Channel) (sent block : List ℕ) → Type 0
EncodeSameFrame channel sent block = (f : Frame) → IsFrameCoding channel f sent →
    IsFrameCoding channel f block ⊎ IsFrameCoding channel (record f { content = rej_replaced_by_rr f.content }) block

-- an endpoint that takes the oldest block in transit receives the frame that was sent, perhaps with other fill octets, or an RR with the
-- same N(R) in place of a REJ
abbrev pub DeliversOldestBlock : (channel : Channel) (state : ProgramState) (turn : ProgramStep) → Type 0
DeliversOldestBlock channel a (TakesOldestBlock r s block answer output) =
    FirstSatisfies (λ first. EncodeSameFrame channel first block) (queue_of
    (other r) a.queues)
DeliversOldestBlock channel a turn = Unit {0}

-- a receiver decodes lightly damaged bursts of the block `sent` to `block`: to their most likely word, or to the first of the most likely
-- words whose CRC holds
pub record IsDecodedFromSentBlock (sent block : List ℕ) : Type 0 where
  pub bursts : List (List ℤ)
  pub damage : AreCorrectableBursts sent bursts
  pub report : BlockReport
  pub received : IsBlockReport bursts report ⊎ ((most rank : ℕ) × (1 ≤ most) × IsListDecodedReport bursts most rank report)
  pub octets : block ≡ report.octets

-- an endpoint that takes the oldest block in transit receives it as decoded from its bursts, which may be lightly damaged
abbrev pub ReceivesOldestBlock : (channel : Channel) (state : ProgramState) (turn : ProgramStep) → Type 0
ReceivesOldestBlock channel a (TakesOldestBlock r s block answer output) =
    FirstSatisfies (λ first. IsDecodedFromSentBlock first block) (queue_of
    (other r) a.queues)
ReceivesOldestBlock channel a turn = Unit {0}

-- any step is allowed: an endpoint may receive any block
abbrev pub AnyStepAllowed : (channel : Channel) (state : ProgramState) (turn : ProgramStep) → Type 0
AnyStepAllowed channel a turn = Unit {0}

-- the log lines of a step, computed from the returned number and effects alone: the call, if any, and the notices
abbrev pub step_log_lines : ProgramStep → List LogLine
step_log_lines (Calls r s call answer output) = if answer == 0 then Asked r s call ∷ map (Notified r s) (notices_from_c output) else []
step_log_lines (TakesOldestBlock r s block answer output) = if answer == 0 then map (Notified r s) (notices_from_c output) else []
step_log_lines (TakesOtherSapiBlock r s block answer output) = if answer == 0 then map (Notified r s) (notices_from_c output) else []
step_log_lines (LosesOldestBlock sender) = []
step_log_lines (RivalSabm info block) = C.RivalSabm info ∷ []

-- the log of these steps: the log lines of all steps, in order
abbrev pub session_log : (turns : List ProgramStep) → List LogLine
session_log turns = log_of_turns step_log_lines turns
