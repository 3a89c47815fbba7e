-- Reassembly of messages from segments. A message ends at each segment with M = 0 (GSM 04.06, section 3.7.2). A message of more than 251
-- octets is discarded (this project's own rule).
use Rattle.std.specs.Prelude.{ℕ, true, false, not, count_by, if◌then◌else◌, nat_lt, List, [], ◌∷◌, ◌++◌, length, Option}
use Rattle.std.specs.Prelude.{Some, None, unwrap_or}
use Rattle.std.specs.List.{filter_map}
use Rattle.segmenting.specs.declared.joiner.Joined.{Joined}
use Rattle.segmenting.specs.declared.joiner.Joined.TheVariants.{More, Whole, Oversize}
use Rattle.segmenting.specs.Segments.{Message, Segment, max_message_octets}

-- the octets of a message, or `None` if there are more than 251
abbrev pub message_if_fits : (octets : List ℕ) → Option Message
message_if_fits octets = if nat_lt max_message_octets (length octets) then None else Some octets

-- the messages that end in the given segments, one for each segment with M = 0; `None` is an oversize message. The first message begins
-- with `partial`, the octets of earlier segments
abbrev pub messages_ending_in_segments : (partial : List ℕ) (taken : List Segment) → List (Option Message)
messages_ending_in_segments partial [] = []
messages_ending_in_segments partial ((octets, true) ∷ ps) = messages_ending_in_segments (partial ++ octets) ps
messages_ending_in_segments partial ((octets, false) ∷ ps) = message_if_fits (partial ++ octets) ∷ messages_ending_in_segments [] ps

-- the messages that a list of segments completes, without oversize messages
abbrev pub messages : (taken : List Segment) → List Message
messages ps = filter_map (λ ending. ending) (messages_ending_in_segments [] ps)

-- the number of messages that a list of segments completes, oversize ones included: the number of segments with M = 0
abbrev pub message_count : (taken : List Segment) → ℕ
message_count ps = count_by (λ p. not p.1) ps

-- the octets of the message that is still incomplete after a list of segments. The first message begins with `partial`, the octets of
-- earlier segments
abbrev pub partial_message_after : (partial : List ℕ) (taken : List Segment) → List ℕ
partial_message_after partial [] = partial
partial_message_after partial ((octets, true) ∷ ps) = partial_message_after (partial ++ octets) ps
partial_message_after partial ((octets, false) ∷ ps) = partial_message_after [] ps

abbrev pub partial_message : (taken : List Segment) → List ℕ
partial_message ps = partial_message_after [] ps

-- the result of taking a segment after the given segments: `Oversize` if the message becomes too long, otherwise `More` if M = 1 and
-- `Whole` if M = 0
abbrev pub reassembly_result : (taken : List Segment) (segment : Segment) → Joined
reassembly_result ps p =
    if nat_lt max_message_octets (length (partial_message ps ++ p.0)) then Oversize else (if p.1 then More else Whole)

-- the message that a joiner delivers with a given result: the given message if the result is `Whole`, otherwise none
abbrev pub message_if_whole : Joined → Message → List Message
message_if_whole Whole m = m ∷ []
message_if_whole other m = []

-- the message, if any, that a segment completes when it follows the given segments
abbrev pub message_delivered_by_segment : (taken : List Segment) (segment : Segment) → List Message
message_delivered_by_segment ps p = message_if_whole (reassembly_result ps p) (partial_message ps ++ p.0)

-- the message that the last segment of a list completes, or no octets if it completes no message. The first message begins with `partial`,
-- the octets of earlier segments
abbrev pub completed_message_after : (partial : List ℕ) (taken : List Segment) → Message
completed_message_after partial [] = []
completed_message_after partial ((octets, true) ∷ ps) = completed_message_after (partial ++ octets) ps
completed_message_after partial ((octets, false) ∷ []) = unwrap_or (message_if_fits (partial ++ octets)) []
completed_message_after partial ((octets, false) ∷ p ∷ ps) = completed_message_after [] (p ∷ ps)

abbrev pub completed_message : (taken : List Segment) → Message
completed_message ps = completed_message_after [] ps
