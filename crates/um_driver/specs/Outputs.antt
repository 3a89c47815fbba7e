-- What the rules of a command prescribe for the octets of an input, or for those read so far (this project's own rule).
use Rattle.std.specs.Prelude.{ℕ, ◌+◌, Bool, List, [], ◌∷◌, ◌++◌, length, take, Option, Some, None, Result, Ok, Err}
use Rattle.std.specs.Prelude.{nat_eq, nat_lt, if◌then◌else◌}
use Rattle.um_io.specs.Reading.{input_limit, line_limit}
use Rattle.um_lines.specs.declared.fault.LineFault.{LineFault}
use Rattle.um_lines.specs.Refusals.{refused_text}
use Rattle.um_driver.specs.Rules.{Rules, answer_to_line}
use Rattle.um_driver.specs.declared.status.Status.{Status}
use Rattle.um_driver.specs.declared.status.Status.TheVariants.{Done, BadInput, TooLong}

-- ---- the lines of an input

-- puts an octet in front of complete lines and the octets after the last line feed
abbrev pub push_octet : (octet : ℕ) (lines : List (List ℕ)) (last : List ℕ) → List (List ℕ) × List ℕ
push_octet octet [] last = ([], octet ∷ last)
push_octet octet (line ∷ lines) last = ((octet ∷ line) ∷ lines, last)

-- the complete lines, without their line feeds, and the octets after the last line feed
abbrev pub divided : (octets : List ℕ) → List (List ℕ) × List ℕ
divided [] = ([], [])
divided (octet ∷ octets) =
    if nat_eq octet 10 then ([] ∷ (divided octets).0, (divided octets).1)
    else push_octet octet (divided octets).0 (divided octets).1

-- what follows the octets within the input limit: nothing, since the input has ended; octets beyond the limit; or what was not read yet
pub data InputEnd : Type 0 where
  Ended : InputEnd
  Exceeded : InputEnd
  Open : InputEnd

abbrev pub input_end : (octets : List ℕ) (ended : Bool) → InputEnd
input_end octets ended = if nat_lt input_limit (length octets) then Exceeded else if ended then Ended else Open

-- the octets after the last line feed, if they are processed as a line: they end the input and are not empty, or exceed the line limit
abbrev pub last_line : (last : List ℕ) (end : InputEnd) → List (List ℕ)
last_line [] Ended = []
last_line (octet ∷ last) Ended = (octet ∷ last) ∷ []
last_line last end = if nat_lt line_limit (length last) then last ∷ [] else []

abbrev pub lines_to_process : (octets : List ℕ) (end : InputEnd) → List (List ℕ)
lines_to_process octets end = (divided octets).0 ++ last_line (divided octets).1 end

-- the lines that the response to these octets answers or refuses
unfoldable pub processed_lines : (octets : List ℕ) (ended : Bool) → List (List ℕ)
processed_lines x ended = lines_to_process (take input_limit x) (input_end x ended)

-- ---- the answers to the lines, and the status in which the run ends after them; `None`: it needs more octets

abbrev pub response_at_end : (number : ℕ) (fault : Option LineFault) (end : InputEnd) → Option Status × List ℕ
response_at_end n None Ended = (Some Done, [])
response_at_end n (Some fault) Ended = (Some BadInput, refused_text n fault)
response_at_end n fault Exceeded = (Some TooLong, [])
response_at_end n fault Open = (None, [])

-- the answer and what follows it, or the reason why line number `number` is refused
abbrev pub response_from_answer : {State : Type 0} (number : ℕ) (later : (State → Option Status × List ℕ))
    (answer : Result (List ℕ × State) LineFault) → Option Status × List ℕ
response_from_answer n later (Ok next) = ((later next.1).0, next.0 ++ (later next.1).1)
response_from_answer n later (Err fault) = (Some BadInput, refused_text n fault)

-- the response to `lines`, the first of which is line number `number` and is read in `state`
abbrev pub response_to_lines : {State : Type 0} (rules : Rules State) (state : State) (number : ℕ) (lines : List (List ℕ))
    (end : InputEnd) → Option Status × List ℕ
response_to_lines r a n [] end = response_at_end n (r.end_fault a) end
response_to_lines r a n (line ∷ lines) end =
    response_from_answer n (λ b. response_to_lines r b (n + 1) lines end) (answer_to_line r a line)

-- the response of a command that starts in `state` to the octets read so far; `ended` says whether they are the whole input
unfoldable pub response : {State : Type 0} (rules : Rules State) (state : State) (octets : List ℕ) (ended : Bool) →
    Option Status × List ℕ
response r a x ended = response_to_lines r a 1 (lines_to_process (take input_limit x) (input_end x ended)) (input_end x ended)
