-- Layer 3 of one side sends its messages over one dedicated channel after another: an assignment or a handover leads to the next, a failed
-- one back. On each channel it begins with the first message that was not acknowledged before. The message type of a message has N(SD), a
-- bit that alternates (GSM 04.07, section 11.2.3.2); by it the other side finds the message that comes twice.
use Rattle.std.specs.Prelude.{◌≡◌, ◌≤◌, ◌<◌, ◌+◌, ℕ, Bool, false, not, if◌then◌else◌, List, [], ◌∷◌}
use Rattle.std.specs.Prelude.{◌++◌, length, drop, Option, Some, None}
use Rattle.std.specs.Bool.{beq}
use Rattle.lapdm_end.specs.lapdm_window.segmenting.Segments.{Message}
use Rattle.lapdm_end.specs.lapdm_window.declared.Sapi.{Sapi}
use Rattle.lapdm_end.specs.lapdm_window.Ends.{Role}
use Rattle.lapdm_link.specs.Events.{other}
use Rattle.lapdm_link.specs.Claims.{IsPrefix, sent_messages, delivered_messages, acked_message_numbers}
use Rattle.lapdm_delivery.specs.Lockstep.{Run, HasCalls, IsRegular, log_before}

-- one direction of one channel: what layer 3 passed to the data link, what the other side's delivered, and how many messages were reported
-- as acknowledged
pub record Stay : Type 0 where
  pub sent : List Message
  pub delivered : List Message
  pub acked : ℕ

-- the data links deliver in order what they are to send, and at most one message more than they report as acknowledged
pub record Delivers (s : Stay) : Type 0 where
  pub in_order : IsPrefix s.delivered s.sent
  pub acked : s.acked ≤ length s.delivered
  pub ahead : length s.delivered ≤ s.acked + 1

-- on each channel, layer 3 sends of these messages, in order, from the first that was not acknowledged before
abbrev pub SendsFromUnacked : (messages : List Message) (stays : List Stay) → Type 0
SendsFromUnacked ms [] = Unit {0}
SendsFromUnacked ms (s ∷ ss) = IsPrefix s.sent ms × SendsFromUnacked (drop s.acked ms) ss

-- each message has another N(SD) than the one before
abbrev pub Alternates : (nsd : Message → Bool) (messages : List Message) → Type 0
Alternates nsd (m ∷ n ∷ ms) = (nsd n ≡ not (nsd m)) × Alternates nsd (n ∷ ms)
Alternates nsd other = Unit {0}

-- whether a message with this N(SD) is the last that was taken, given the N(SD) of that one, if any
abbrev pub is_duplicate : (last : Option Bool) (bit : Bool) → Bool
is_duplicate None bit = false
is_duplicate (Some last) bit = beq last bit

-- the messages that the receiver takes of these: not one with the N(SD) of the last that it took
abbrev pub taken_after : (nsd : Message → Bool) (last : Option Bool) (messages : List Message) → List Message
taken_after nsd last [] = []
taken_after nsd last (m ∷ ms) =
    if is_duplicate last (nsd m) then taken_after nsd last ms else m ∷ taken_after nsd (Some (nsd m)) ms

-- what the data links deliver on all channels, and how many messages they report as acknowledged
abbrev pub delivered_on : List Stay → List Message
delivered_on [] = []
delivered_on (s ∷ ss) = s.delivered ++ delivered_on ss

abbrev pub acked_on : List Stay → ℕ
acked_on [] = 0
acked_on (s ∷ ss) = s.acked + acked_on ss

-- the changes of channel: one less than the channels, if there are any
abbrev pub changes : List Stay → ℕ
changes [] = 0
changes (s ∷ ss) = length ss

-- The receiver takes each message once and in order, none before it was sent and each that is acknowledged; at most one message comes
-- twice for each change of channel.
pub record TakesEachOnce (nsd : Message → Bool) (messages : List Message) (stays : List Stay) : Type 0 where
  pub in_order : IsPrefix (taken_after nsd None (delivered_on stays)) messages
  pub acked : acked_on stays ≤ length (taken_after nsd None (delivered_on stays))
  pub ahead : length (taken_after nsd None (delivered_on stays)) ≤ acked_on stays + 1
  pub twice : length (delivered_on stays) ≤ length (taken_after nsd None (delivered_on stays)) + changes stays

-- ---- the data links of a channel

-- two new data links on a channel, in lockstep, and the slots after which they are left
pub record OnChannel : Type 0 where
  pub run : Run
  pub slots : ℕ

-- what becomes there of the messages of this side and SAPI
abbrev pub stay_on : (role : Role) (sapi : Sapi) → OnChannel → Stay
stay_on role sapi c =
    let log = log_before c.run c.slots in
    record {
      sent = sent_messages role sapi log;
      delivered = delivered_messages (other role) sapi log;
      acked = length (acked_message_numbers role sapi log);
    }

-- no link is opened again before they are left, and layer 3 of this side passes a message only when those before it are acknowledged
pub record IsOneByOne (role : Role) (sapi : Sapi) (c : OnChannel) : Type 0 where
  pub calls : HasCalls c.run
  pub regular : (n : ℕ) → n < c.slots → (side : Role) → IsRegular c.run n side
  pub one_by_one : length (stay_on role sapi c).sent ≤ (stay_on role sapi c).acked + 1
