-- Progress: how long a link waits for answers, and what each expiry of T200 costs the channel. These are this project's own statements; the
-- standard has none.
use Rattle.lapdm_datalink.specs.Slots.{expires_in}
use Rattle.std.specs.Prelude.{◌≡◌, ℕ, zero, suc, ◌+◌, ◌*◌, ◌≤◌, Bool, true, false, not, ◌||◌, ◌⊎◌, Option}
use Rattle.std.specs.Prelude.{Some, None, All, get_or}
use Rattle.lapdm_frame.specs.Content.{Content, I, Frame}
use Rattle.lapdm_end.specs.lapdm_window.declared.State.TheVariants.{Open}
use Rattle.lapdm_frame.specs.declared.Channel.TheVariants.{Sacch}
use Rattle.lapdm_end.specs.lapdm_window.Ends.{Role, Mobile, Network, awaits_answer, n200}
use Rattle.lapdm_link.specs.Events.{other}
use Rattle.lapdm_end.specs.lapdm_window.Rules.{is_open}
use Rattle.lapdm_end.specs.lapdm_window.Calls.{is_idle}
use Rattle.lapdm_datalink.specs.Links.{LinkState, is_closed, slot_outcome}
use Rattle.lapdm_progress.specs.Channels.{Run, Turn, side_at, before_sending, IsUse}

-- the round trip in slots: a frame, its answer, and the delay of each
abbrev pub round_trip : (delay : ℕ) → ℕ
round_trip d = 2 + 2 * d

-- the link in this place before the slot
abbrev pub link_at : (run : Run) (slot : ℕ) (role : Role) → LinkState
link_at r n role = (side_at r n role).link

-- its part of the slot, and what arrives there
abbrev pub turn_at : (run : Run) (slot : ℕ) (role : Role) → Turn
turn_at r n role = r.turn n role

abbrev pub arriving_at : (run : Run) (slot : ℕ) (role : Role) → Option Frame
arriving_at r n role = get_or (side_at r n (other role)).sent r.delay None

-- the link in the slot, before it sends
abbrev pub ready_at : (run : Run) (slot : ℕ) (role : Role) → LinkState
ready_at r n role = before_sending (arriving_at r n role) (turn_at r n role) (link_at r n role)

-- the frame that it sends, if any
abbrev pub frame_at : (run : Run) (slot : ℕ) (role : Role) → Option Frame
frame_at r n role = (slot_outcome (ready_at r n role)).frame

-- 1 for true, 0 for false
abbrev pub one_if : Bool → ℕ
one_if true = 1
one_if false = 0

-- in how many of these slots this is so
abbrev pub slots_with : (is_so : ℕ → Bool) (first slots : ℕ) → ℕ
slots_with is_so n zero = 0
slots_with is_so n (suc k) = slots_with is_so n k + one_if (is_so (n + k))

-- W: in how many of these slots this link awaits an answer
abbrev pub waiting_slots : (run : Run) (first slots : ℕ) (role : Role) → ℕ
waiting_slots r n k role = slots_with (λ m. awaits_answer (ready_at r m role).endpoint) n k

-- whether a frame is lost
abbrev pub is_loss : (is_lost : Bool) (frame : Option Frame) → Bool
is_loss lost None = false
is_loss lost (Some f) = lost

abbrev pub is_loss_at : (run : Run) (slot : ℕ) (role : Role) → Bool
is_loss_at r n role = is_loss (turn_at r n role).is_lost (frame_at r n role)

-- L: in how many of these slots a frame of the two links is lost
abbrev pub is_lossy : (run : Run) (slot : ℕ) → Bool
is_lossy r n = is_loss_at r n Mobile || is_loss_at r n Network

abbrev pub lossy_slots : (run : Run) (first slots : ℕ) → ℕ
lossy_slots r = slots_with (is_lossy r)

-- layer 3 releases no link in the slots before this one
abbrev pub IsWithoutRelease : (run : Run) (slot : ℕ) → Type 0
IsWithoutRelease r m = (n : ℕ) → suc n ≤ m → (role : Role) → All (IsUse r.pair role) (turn_at r n role).calls

-- neither side has given the link up before this slot: without a release, a link is closed only then, and stays so
abbrev pub NoneGaveUp : (run : Run) (slot : ℕ) → Type 0
NoneGaveUp r n = (role : Role) → is_closed (link_at r n role).endpoint.state ≡ false

-- whether the frame is an I frame, and whether it is one with P = 1, which repeats another because T200 has expired
abbrev pub is_i_content : Content → Bool
is_i_content (I ns nr p more info) = true
is_i_content other = false

abbrev pub is_i_frame : Option Frame → Bool
is_i_frame None = false
is_i_frame (Some f) = is_i_content f.content

abbrev pub is_repeated_content : Content → Bool
is_repeated_content (I ns nr p more info) = p
is_repeated_content other = false

abbrev pub is_repetition : Option Frame → Bool
is_repetition None = false
is_repetition (Some f) = is_repeated_content f.content

-- The repetition of an I frame in this slot is paid by a loss: the link sent the I frame T200 slots ago or earlier, and no I frame since;
-- and that frame was lost, or the block with its answer, which leaves the other side one delay later, was. A mobile that still opens
-- answers no I frame: then an older loss pays, of its SABM or of the UA (`FromStart`). One lost block may pay for one of each side.
-- `frame`, `is_lost` and `link`: the frame that a side sends in a slot, whether it is lost, and the side's link before the slot.
pub record IsPaidFor (delay t200 : ℕ) (frame : ℕ → Role → Option Frame) (is_lost : ℕ → Role → Bool)
    (link : ℕ → Role → LinkState) (n : ℕ) (role : Role) : Type 0 where
  pub slot : ℕ
  pub before : slot + t200 ≤ n
  pub sent : is_i_frame (frame slot role) ≡ true
  pub last : (k : ℕ) → suc slot ≤ k → suc k ≤ n → is_i_frame (frame k role) ≡ false
  pub lost : is_open (link (suc slot + delay) (other role)).endpoint.state ≡ true →
      (is_lost slot role ≡ true) ⊎ (is_lost (suc slot + delay) (other role) ≡ true)

abbrev pub IsPaid : (run : Run) (slot : ℕ) (role : Role) → Type 0
IsPaid r = IsPaidFor r.delay r.t200 (frame_at r) (is_loss_at r) (link_at r)

-- Each repetition of an I frame is paid by a loss of its own: between two of them the link sends the I frame again.
abbrev pub PaysForExpiries : Run → Type 0
PaysForExpiries r =
    round_trip r.delay ≤ r.t200 → (n : ℕ) → IsWithoutRelease r (suc n) → NoneGaveUp r n → (role : Role) →
    is_repetition (frame_at r n role) ≡ true → IsPaid r n role

-- ---- how long a link waits

-- in how many of these slots T200 of this link expires
abbrev pub expiries : (run : Run) (first slots : ℕ) (role : Role) → ℕ
expiries r n k role = slots_with (λ m. expires_in (ready_at r m role)) n k

-- both links are open before each of these slots and after the last
abbrev pub AreOpen : (run : Run) (first slots : ℕ) → Type 0
AreOpen r n k = (j : ℕ) → j ≤ k → (role : Role) → (link_at r (n + j) role).endpoint.state ≡ Open

-- the segments of this link that are acknowledged before the slot
abbrev pub acked_at : (run : Run) (slot : ℕ) (role : Role) → ℕ
acked_at r n role = (link_at r n role).endpoint.acked_segments

-- Progress. While both links are open, whatever is lost, a link waits at most one round trip for each of its segments that is acknowledged
-- and for one more, T200 and one slot for each slot with a loss and for what was lost before, and one delay and one slot more. T200 expires
-- at most once for each slot with a loss, and once more.
pub record Progress (r : Run) (n k : ℕ) (role : Role) : Type 0 where
  pub waits : waiting_slots r n k role + round_trip r.delay * acked_at r n role
      ≤ round_trip r.delay * (acked_at r (n + k) role + 1) + (r.t200 + 1) * (lossy_slots r n k + 1) + (r.delay + 1)
  pub expires : expiries r n k role ≤ lossy_slots r n k + 1

abbrev pub Progresses : Run → Type 0
Progresses r =
    round_trip r.delay ≤ r.t200 → (n k : ℕ) → IsWithoutRelease r (n + k) → AreOpen r n k → (role : Role) → Progress r n k role

-- ---- from the start

-- n: the frames of a link in this role that await answers: the SABM that layer 3 of the mobile asked for, and the segments issued so far
abbrev pub frames_of : (role : Role) (link : LinkState) → ℕ
frames_of Mobile l = one_if (not (is_idle l.endpoint.state)) + l.endpoint.sent_segments
frames_of Network l = l.endpoint.sent_segments

abbrev pub frames_at : (run : Run) (slot : ℕ) (role : Role) → ℕ
frames_at r n role = frames_of role (link_at r n role)

-- the network's first I frame may wait behind the UA
abbrev pub behind_ua : Role → ℕ
behind_ua Mobile = 0
behind_ua Network = 1

-- A link has waited at most one round trip for each of its frames, and T200 and one slot for each slot with a loss; the network one slot
-- more. T200 has expired at most once for each of these losses.
pub record IsWithin (waited expired delay t200 frames losses : ℕ) (role : Role) : Type 0 where
  pub waits : waited ≤ round_trip delay * frames + (t200 + 1) * losses + behind_ua role
  pub expires : expired ≤ losses

-- Progress from the start. Before a slot in which neither has given up, and without a release, whatever is lost, a link is within these
-- bounds, an expiry in the slot itself included, which may give the link up. That holds in each slot, so each expiry of a link has an
-- earlier lossy slot of its own; one lossy slot may pay for one of each side.
abbrev pub FromStart : (run : Run) (slot : ℕ) (role : Role) → Type 0
FromStart r k role = IsWithin (waiting_slots r 0 k role) (expiries r 0 (suc k) role) r.delay r.t200 (frames_at r k role)
    (lossy_slots r 0 k) role

abbrev pub ProgressesFromStart : Run → Type 0
ProgressesFromStart r =
    round_trip r.delay ≤ r.t200 → (k : ℕ) → IsWithoutRelease r (suc k) → NoneGaveUp r k → (role : Role) →
    FromStart r k role

-- the losses with which no link is given up: an expiry gives one up only after N200 others, at least this many, and each has a lossy slot
-- of its own
abbrev pub few_losses : ℕ
few_losses = n200 Sacch Open

-- With few slots with a loss so far, neither link has been given up.
abbrev pub KeepsLinks : Run → Type 0
KeepsLinks r =
    round_trip r.delay ≤ r.t200 → (k : ℕ) → IsWithoutRelease r k → lossy_slots r 0 k ≤ few_losses → NoneGaveUp r k
