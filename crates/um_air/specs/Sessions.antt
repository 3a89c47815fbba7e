-- Sessions that exchange blocks: their logs; benign sessions (each block is accepted with the octets that were sent, or not at all); and
-- sessions with at most three inverted bits in each block.
use Rattle.std.specs.Prelude.{◌<◌, ◌≤◌, ℕ, All, List, [], ◌∷◌, map, length, IfSome}
use Rattle.lapdm_link.specs.Queues.{Queues, empty_queues, queue_of, with_items_appended, IsOldestSentOrNone}
use Rattle.lapdm_link.specs.Events.{Open, Ask, Deliver, Rival, Send, SendUi, sending_role, queues_after_removal}
use Rattle.lapdm_link.specs.Events as E
use Rattle.lapdm_link.specs.Claims.{LogLine}
use Rattle.lapdm_link.specs.Claims as C
use Rattle.um_air.specs.Air.{Octets, Event, Answer, Refuses, Accepts}

-- an answer as in a session that exchanges frames: without the received block and the frames sent
abbrev pub answer_without_blocks : Answer → E.Answer
answer_without_blocks (Refuses why) = E.Refuses why
answer_without_blocks (Accepts step) = E.Accepts step.who step.sapi [] step.notices

-- the log of a session: the log lines of all its events and answers
abbrev pub session_log : (events : List Event) (answers : List Answer) → List LogLine
session_log events answers = C.session_log events (map answer_without_blocks answers)

-- the octets of the blocks in transit after an event with this answer, given the blocks in transit before it
abbrev pub queues_after_event : Event → Answer → Queues Octets → Queues Octets
queues_after_event event (Refuses why) ws = ws
queues_after_event event (Accepts step) ws = with_items_appended (sending_role step.who) step.frames (queues_after_removal event ws)

-- if a block arrives, it is accepted with the octets that were sent, or not at all
abbrev pub IsBenignStep : (event : Event) (answer : Answer) (queues : Queues Octets) → Type 0
IsBenignStep (Deliver sender places) (Accepts step) ws = IfSome step.received (λ report. IsOldestSentOrNone report.accepted
    (queue_of sender ws))
IsBenignStep event answer ws = Unit {0}

-- starting with these queues, each arriving block is accepted with the octets that were sent, or not at all
abbrev pub IsBenignFrom : (queues : Queues Octets) (events : List Event) (answers : List Answer) → Type 0
IsBenignFrom ws (event ∷ events) (answer ∷ answers) =
    IsBenignStep event answer ws × IsBenignFrom (queues_after_event event answer ws) events answers
IsBenignFrom ws events answers = Unit {0}

-- the session is benign: each block is accepted with the octets that were sent, or not at all
abbrev pub IsBenign : (events : List Event) (answers : List Answer) → Type 0
IsBenign events answers = IsBenignFrom empty_queues events answers

-- every element is an octet, 0 to 255
abbrev pub AreOctets : List ℕ → Type 0
AreOctets m = All (λ octet. octet < 256) m

-- if the event is an arrival, at most three bits of the block are inverted
abbrev pub EventInvertsFewBits : Event → Type 0
EventInvertsFewBits (Deliver sender places) = length places ≤ 3
EventInvertsFewBits event = Unit {0}

-- if the event carries a message, the message consists of octets, 0 to 255
abbrev pub EventMessageIsOctets : Event → Type 0
EventMessageIsOctets (Open info) = AreOctets info
EventMessageIsOctets (Ask role sapi (Send m)) = AreOctets m
EventMessageIsOctets (Ask role sapi (SendUi m)) = AreOctets m
EventMessageIsOctets (Rival info) = AreOctets info
EventMessageIsOctets event = Unit {0}

-- in every event, at most three bits of a block are inverted, and messages consist of octets
abbrev pub AllEventsInvertFewBits : List Event → Type 0
AllEventsInvertFewBits [] = Unit {0}
AllEventsInvertFewBits (event ∷ events) = EventInvertsFewBits event × EventMessageIsOctets event × AllEventsInvertFewBits events
