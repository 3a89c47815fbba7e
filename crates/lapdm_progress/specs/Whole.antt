-- The two links of one SAPI of two whole data links in lockstep (`Lockstep`), and their progress. These are this project's own statements;
-- the standard has none.
use Rattle.std.specs.Prelude.{◌≡◌, ◌≤◌, ◌+◌, ℕ, zero, suc, Bool, true, false, not, ◌&&◌, ◌||◌}
use Rattle.std.specs.Prelude.{if◌then◌else◌, nat_eq}
use Rattle.std.specs.Prelude.{List, [], ◌∷◌, All, Option, Some, None, IfSome}
use Rattle.std.specs.List.{filter_map}
use Rattle.lapdm_frame.specs.declared.Channel.{Channel}
use Rattle.lapdm_frame.specs.Content.{Frame}
use Rattle.lapdm_frame.specs.Layout.{n201}
use Rattle.lapdm_end.specs.lapdm_window.segmenting.Segments.{number_of_segments}
use Rattle.lapdm_end.specs.lapdm_window.declared.Sapi.{Sapi}
use Rattle.lapdm_end.specs.lapdm_window.declared.Sapi.TheVariants.{Zero, Three}
use Rattle.lapdm_end.specs.lapdm_window.declared.Refused.{Refused}
use Rattle.lapdm_end.specs.lapdm_window.Ends.{Role, Mobile, Network, awaits_answer, sapi_number}
use Rattle.lapdm_end.specs.lapdm_window.Calls.{Call, Opens, Sends}
use Rattle.lapdm_datalink.specs.Links.{LinkState, is_closed, is_due, after_slot, slot_outcome, unheard}
use Rattle.lapdm_datalink.specs.DataLinks.{DataLinkState, link_with_sapi, is_ui, takes_sapi3, with_clocks_moved}
use Rattle.lapdm_datalink.specs.Slots.{expires_in}
use Rattle.lapdm_delivery.specs.Lockstep.{Run, side_at, arriving_at, ready_at, outcome_at, before_at, taken_at, HasCalls, refusal}
use Rattle.lapdm_datalink.specs.declared.data_links.Establishment.TheVariants.{Contention, Normal}
use Rattle.lapdm_delivery.specs.Lockstep.{after_call_of, CallsOpenOnce}
use Rattle.lapdm_delivery.specs.Runs.{sapi_of_endpoint}
use Rattle.lapdm_progress.specs.Channels.{Pair, place, IsUse, Turn}
use Rattle.lapdm_progress.specs.Progress.{round_trip, is_loss, slots_with, frames_of, IsWithin, IsPaidFor, is_repetition, few_losses}
use Rattle.lapdm_progress.specs.Channels as C
use Rattle.lapdm_progress.specs.Progress as P

-- SAPI 0 with contention resolution, which a mobile opens, SAPI 0 with normal establishment, and SAPI 3, if this side opens it
abbrev pub sapi_0 : Pair
sapi_0 = record { sapi = Zero; opener = Mobile }

abbrev pub sapi_0_of : (opener : Role) → Pair
sapi_0_of opener = record { sapi = Zero; opener = opener }

abbrev pub sapi_3_of : (opener : Role) → Pair
sapi_3_of opener = record { sapi = Three; opener = opener }

-- the pair of the endpoints of these links: with normal establishment those of SAPI 0 have SAPI 3
abbrev pub endpoints : (run : Run) → Pair → Pair
endpoints r w = record { sapi = sapi_of_endpoint r.establishment w.sapi; opener = w.opener }

-- the link of this SAPI and side before the slot, and in the slot before it sends
abbrev pub link_at : (run : Run) (sapi : Sapi) (slot : ℕ) (role : Role) → LinkState
link_at r s n role = link_with_sapi s (side_at r n role).data_link

abbrev pub ready_link_at : (run : Run) (sapi : Sapi) (slot : ℕ) (role : Role) → LinkState
ready_link_at r s n role = link_with_sapi s (with_clocks_moved (ready_at r n role))

-- the frame, if a link of this SAPI sent it: no UI frame
abbrev pub frame_of : Sapi → Option Frame → Option Frame
frame_of s None = None
frame_of s (Some f) = if nat_eq f.sapi (sapi_number s) && not (is_ui f.content) then Some f else None

-- the frame that the link sends in the slot, if any
abbrev pub frame_at : (run : Run) (sapi : Sapi) (slot : ℕ) (role : Role) → Option Frame
frame_at r s n role = frame_of s (outcome_at r n role).frame

-- in the slot, the link awaits an answer, its T200 expires, or a frame of it is lost
abbrev pub awaits : (run : Run) (sapi : Sapi) (role : Role) (slot : ℕ) → Bool
awaits r s role n = awaits_answer (ready_link_at r s n role).endpoint

abbrev pub expires : (run : Run) (sapi : Sapi) (role : Role) (slot : ℕ) → Bool
expires r s role n = expires_in (ready_link_at r s n role)

abbrev pub is_loss_at : (run : Run) (sapi : Sapi) (slot : ℕ) (role : Role) → Bool
is_loss_at r s n role = is_loss (r.part n role).is_lost (frame_at r s n role)

abbrev pub is_lossy : (run : Run) (sapi : Sapi) (slot : ℕ) → Bool
is_lossy r s n = is_loss_at r s n Mobile || is_loss_at r s n Network

-- T200 of this SAPI
abbrev pub t200_of : (sapi : Sapi) (run : Run) (role : Role) → ℕ
t200_of Zero r role = r.t200
t200_of Three r role = r.t200_sapi3 role

-- the call, if it is to the link of this SAPI
abbrev pub call_of : Sapi → Sapi × Call → Option Call
call_of Zero (Zero, call) = Some call
call_of Three (Three, call) = Some call
call_of s other = None

abbrev pub calls_to : Sapi → List (Sapi × Call) → List Call
calls_to s = filter_map (call_of s)

-- neither side has given the link up before this slot
abbrev pub IsKept : (run : Run) (sapi : Sapi) (slot : ℕ) → Type 0
IsKept r s n = (role : Role) → is_closed (link_at r s n role).endpoint.state ≡ false

-- neither side has given it up up to this slot; a link that is closed may be opened afresh without information, so each earlier slot counts
abbrev pub IsKeptTo : (run : Run) (sapi : Sapi) (slot : ℕ) → Type 0
IsKeptTo r s k = (n : ℕ) → n ≤ k → IsKept r s n

-- how long the link of a side has waited, as `FromStart` of specs/Progress says
abbrev pub Progress : (run : Run) (pair : Pair) (slot : ℕ) (role : Role) → Type 0
Progress r w k role = IsWithin (slots_with (awaits r w.sapi role) 0 k) (slots_with (expires r w.sapi role) 0 (suc k)) r.delay
    (t200_of w.sapi r role) (frames_of (place w.opener role) (link_at r w.sapi k role)) (slots_with (is_lossy r w.sapi) 0 k)
    (place w.opener role)

-- before this slot, layer 3 opens the link at the opener alone and sends messages over it, but does not release it
abbrev pub IsWithoutRelease : (run : Run) (pair : Pair) (slot : ℕ) → Type 0
IsWithoutRelease r w m =
    (n : ℕ) → suc n ≤ m → (role : Role) →
    All (IsUse (endpoints r w) (place w.opener role)) (calls_to w.sapi (r.part n role).calls)

-- in the slot, this side does not open again the link of this SAPI
abbrev pub OpensOnce : (run : Run) (sapi : Sapi) (slot : ℕ) (role : Role) → Type 0
OpensOnce r s n role = CallsOpenOnce s (r.part n role).calls (taken_at r n role)

-- ---- SAPI 0 with contention resolution

abbrev pub Progresses : Run → Type 0
Progresses r = r.establishment ≡ Contention → HasCalls r → round_trip r.delay ≤ r.t200 → (k : ℕ) →
    IsWithoutRelease r sapi_0 (suc k) → IsKept r Zero k → (role : Role) → Progress r sapi_0 k role

abbrev pub KeepsLinks : Run → Type 0
KeepsLinks r = r.establishment ≡ Contention → HasCalls r → round_trip r.delay ≤ r.t200 → (k : ℕ) →
    IsWithoutRelease r sapi_0 k → slots_with (is_lossy r Zero) 0 k ≤ few_losses → IsKept r Zero k

-- with few losses, neither is given up, so the bounds hold
abbrev pub ProgressesAfterFewLosses : Run → Type 0
ProgressesAfterFewLosses r = r.establishment ≡ Contention → HasCalls r → round_trip r.delay ≤ r.t200 → (k : ℕ) →
    IsWithoutRelease r sapi_0 (suc k) → slots_with (is_lossy r Zero) 0 k ≤ few_losses → (role : Role) → Progress r sapi_0 k role

-- `IsPaid` and `PaysForExpiries` of specs/Progress
abbrev pub PaysForExpiries : Run → Type 0
PaysForExpiries r =
    r.establishment ≡ Contention → HasCalls r → round_trip r.delay ≤ r.t200 → (n : ℕ) → IsWithoutRelease r sapi_0 (suc n) →
    IsKept r Zero n →
    (role : Role) →
    is_repetition (frame_at r Zero n role) ≡ true →
    IsPaidFor r.delay r.t200 (frame_at r Zero) (is_loss_at r Zero) (link_at r Zero) n role

-- ---- SAPI 0 with normal establishment, if one side alone opens it, and once

-- before this slot, layer 3 uses it as `IsWithoutRelease` says, and does not open it again
pub record IsUsedOnceBefore (r : Run) (opener : Role) (slot : ℕ) : Type 0 where
  pub calls : IsWithoutRelease r (sapi_0_of opener) slot
  pub once : (n : ℕ) → suc n ≤ slot → (role : Role) → OpensOnce r Zero n role

abbrev pub NormalProgresses : Run → Type 0
NormalProgresses r = r.establishment ≡ Normal → HasCalls r → round_trip r.delay ≤ r.t200 → (opener : Role) (k : ℕ) →
    IsUsedOnceBefore r opener (suc k) → IsKeptTo r Zero k → (role : Role) → Progress r (sapi_0_of opener) k role

abbrev pub NormalKeepsLinks : Run → Type 0
NormalKeepsLinks r = r.establishment ≡ Normal → HasCalls r → round_trip r.delay ≤ r.t200 → (opener : Role) (k : ℕ) →
    IsUsedOnceBefore r opener k → slots_with (is_lossy r Zero) 0 k ≤ few_losses → IsKeptTo r Zero k

-- ---- SAPI 3

-- whether the link has something to send: an answer that it owes, or a frame that is due
abbrev pub owes : Option Frame → Bool
owes None = false
owes (Some f) = true

abbrev pub has_to_send : LinkState → Bool
has_to_send l = owes l.answer || is_due l

-- SAPI 0 does not hold up SAPI 3 on this side in the slot: it sends nothing if SAPI 3 has something to send; nothing of it was heard if
-- SAPI 3 awaits an answer, so the clock moves; and a frame of SAPI 3 that arrives is taken
pub record IsFree (r : Run) (n : ℕ) (role : Role) : Type 0 where
  pub slot : has_to_send (ready_link_at r Three n role) ≡ true → (slot_outcome (after_slot (ready_at r n role).link0)).frame ≡ None
  pub clock : awaits r Three role n ≡ true → (ready_at r n role).heard_sapi0 ≡ false
  pub arrival : IfSome (frame_of Three (arriving_at r n role)) (λ f. takes_sapi3 (before_at r n role) ≡ true)

-- before this slot, SAPI 0 does not hold it up, and layer 3 uses it as `IsWithoutRelease` says, and does not open it again
pub record IsUsedBefore (r : Run) (opener : Role) (slot : ℕ) : Type 0 where
  pub calls : IsWithoutRelease r (sapi_3_of opener) slot
  pub once : (n : ℕ) → suc n ≤ slot → (role : Role) → OpensOnce r Three n role
  pub free : (n : ℕ) → suc n ≤ slot → (role : Role) → IsFree r n role

-- both links have one T200 of at least the round trip
pub record HasT200 (r : Run) : Type 0 where
  pub same : r.t200_sapi3 Network ≡ r.t200_sapi3 Mobile
  pub long : round_trip r.delay ≤ r.t200_sapi3 Mobile

abbrev pub Sapi3Progresses : Run → Type 0
Sapi3Progresses r = HasCalls r → HasT200 r → (opener : Role) (k : ℕ) → IsUsedBefore r opener (suc k) → IsKeptTo r Three k →
    (role : Role) → Progress r (sapi_3_of opener) k role

abbrev pub Sapi3KeepsLinks : Run → Type 0
Sapi3KeepsLinks r = HasCalls r → HasT200 r → (opener : Role) (k : ℕ) → IsUsedBefore r opener k →
    slots_with (is_lossy r Three) 0 k ≤ few_losses → IsKeptTo r Three k

-- ---- such links are two links alone

-- whether the clock stands still in the slot
abbrev pub is_held : Sapi → DataLinkState → Bool
is_held Zero d = false
is_held Three d = d.heard_sapi0

abbrev pub turn_of : (run : Run) (sapi : Sapi) (slot : ℕ) (role : Role) → Turn
turn_of r s n role = record {
  calls = calls_to s (r.part n role).calls;
  is_held = is_held s (ready_at r n role);
  is_lost = (r.part n role).is_lost;
}

-- the run of the two links alone with the same calls to them and the same losses
abbrev pub alone : Pair → Run → C.Run
alone w r = record {
  delay = r.delay;
  t200 = t200_of w.sapi r Mobile;
  channel = r.channel;
  pair = endpoints r w;
  turn = λ n p. turn_of r w.sapi n (place w.opener p);
}

-- in the slot, the link of SAPI 0 of this side is what it is alone: before the slot, before it sends, in what it sends, and in what it
-- reports when it sends; what it has heard plays no part
pub record IsAsAlone (r : Run) (n : ℕ) (role : Role) : Type 0 where
  pub link : unheard (link_at r Zero n role) ≡ P.link_at (alone sapi_0 r) n role
  pub ready : unheard (ready_link_at r Zero n role) ≡ P.ready_at (alone sapi_0 r) n role
  pub frame : frame_at r Zero n role ≡ P.frame_at (alone sapi_0 r) n role
  pub notices : (outcome_at r n role).notices0 ≡ (slot_outcome (P.ready_at (alone sapi_0 r) n role)).notices

-- whatever happens on SAPI 3, the links of SAPI 0 are a run of the two alone
abbrev pub AreAsAlone : Run → Type 0
AreAsAlone r = r.establishment ≡ Contention → HasCalls r → (n : ℕ) (role : Role) → IsAsAlone r n role

-- ---- what layer 3 asks for

-- the frames that await answers which a call to SAPI 0 asks for if it is accepted: the SABM, or the segments of the message
abbrev pub frames_of_call : (refused : Option Refused) (channel : Channel) (call : Sapi × Call) → ℕ
frames_of_call None channel (Zero, Opens info) = 1
frames_of_call None channel (Zero, Sends m) = number_of_segments (n201 channel) m
frames_of_call refused channel call = 0

-- those that these calls ask for
abbrev pub frames_of_calls : Channel → List (Sapi × Call) → DataLinkState → ℕ
frames_of_calls channel [] s = 0
frames_of_calls channel (call ∷ calls) s =
    frames_of_call (refusal call s) channel call + frames_of_calls channel calls (after_call_of call s)

-- those that this side's calls before the slot ask for
abbrev pub asked_at : (run : Run) (slot : ℕ) (role : Role) → ℕ
asked_at r zero role = 0
asked_at r (suc n) role = asked_at r n role + frames_of_calls r.channel (r.part n role).calls (taken_at r n role)

-- a link of SAPI 0 sends no more frames that await answers than layer 3 has asked for
abbrev pub SendsWhatIsAsked : Run → Type 0
SendsWhatIsAsked r = r.establishment ≡ Contention → HasCalls r → (n : ℕ) (role : Role) →
    frames_of role (link_at r Zero n role) ≤ asked_at r n role
