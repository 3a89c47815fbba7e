-- The four lines that report on a generated session (this project's own rule).
use Rattle.std.specs.Prelude.{ℕ, List, ◌++◌, codes}
use Rattle.std.specs.Fmt.{decimal}
use Rattle.um_make.specs.declared.end_summary.EndpointSummary.{EndpointSummary}
use Rattle.um_make.specs.declared.summary.Summary.{Summary}

-- the line `make N T`, for `N` messages and training sequence code `T`
abbrev pub header_line : (message_count tsc : ℕ) → List ℕ
header_line n tsc = codes "make " ++ decimal n ++ codes " " ++ decimal tsc ++ codes "\n"

-- the line `steps A sends B takes C drops D lost E`, which counts the events and the blocks sent, received with a good CRC, received with a
-- bad CRC, and lost
abbrev pub steps_line : Summary → List ℕ
steps_line s =
    codes "steps " ++ decimal s.steps ++ codes " sends " ++ decimal s.sent_blocks ++ codes " takes " ++ decimal s.good_blocks
    ++ codes " drops " ++ decimal s.bad_blocks ++ codes " lost " ++ decimal s.lost_blocks ++ codes "\n"

-- the line `X got G octets O sum S acked K` of side `X`, `mob` or `net`: the messages delivered, the number and the sum of their octets,
-- and the messages acknowledged
abbrev pub endpoint_line : (name : List ℕ) (summary : EndpointSummary) → List ℕ
endpoint_line name e =
    name ++ codes " got " ++ decimal e.messages_got ++ codes " octets " ++ decimal e.octets
    ++ codes " sum " ++ decimal e.octet_sum ++ codes " acked " ++ decimal e.acked_messages ++ codes "\n"

-- the four lines that report on a generated session
abbrev pub summary_text : (message_count tsc : ℕ) (summary : Summary) → List ℕ
summary_text n tsc s = header_line n tsc ++ steps_line s ++ endpoint_line (codes "mob") s.mobile ++ endpoint_line (codes "net") s.network
