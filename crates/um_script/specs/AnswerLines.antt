-- The output lines of `link` and `end` for one line of input (this project's own rule).
use Rattle.std.specs.Prelude.{ℕ, ℤ, nat_abs, ◌<◌, ◌^◌, List, [], ◌∷◌, ◌++◌, map, take, drop, codes, Option, Some}
use Rattle.std.specs.Prelude.{None}
use Rattle.std.specs.Fmt.{decimal, signed_decimal}
use Rattle.std.specs.List.{join_with_byte}
use Rattle.um_lines.specs.Hex.{encode_lower}
use Rattle.um_link.specs.bit_blocks.Octets.{octets_of}
use Rattle.um_link.specs.lapdm_window.declared.Sapi.{Sapi}
use Rattle.um_link.specs.lapdm_window.declared.Notice.{Notice}
use Rattle.um_link.specs.lapdm_window.declared.Notice.TheVariants as N
use Rattle.um_link.specs.lapdm_link.Events as E
use Rattle.um_link.specs.um_block.declared.received.Received.{Received}
use Rattle.um_link.specs.um_air.Air as A
use Rattle.um_link.specs.um_air.Sessions.{AreOctets}
use Rattle.um_lines.specs.LineTexts.{octets_word}
use Rattle.um_script.specs.AnswerWords.{actor_word, sapi_suffix, call_refusal_word, closing_reason_word}

-- the reception quality of a block, as a `takes` or `drops` line reports it
pub record ReceptionQuality : Type 0 where
  pub tsc : ℕ
  pub wrong_training : ℕ
  pub metric : ℤ

-- a line of an answer: `no` with the reason; `takes` for a block received with a correct CRC, `drops` for one with a wrong CRC; a notice to
-- layer 3; `sends` for a block that is sent; or the final `ok`
pub data AnswerLine : Type 0 where
  No : E.EventRefusal → AnswerLine
  Takes : E.Who → List ℕ → ReceptionQuality → AnswerLine
  Drops : E.Who → ReceptionQuality → List ℕ → List ℕ → AnswerLine
  Reports : E.Who → Sapi → Notice → AnswerLine
  Sends : E.Who → List ℕ → AnswerLine
  FinalOk : AnswerLine

abbrev pub reception_quality : Received → ReceptionQuality
reception_quality r = record { tsc = r.tsc; wrong_training = r.wrong_training; metric = r.metric }

abbrev pub received_block_line : (who : E.Who) (accepted_octets : Option (List ℕ)) (received : Received) → AnswerLine
received_block_line who (Some octets) r = Takes who octets (reception_quality r)
received_block_line who None r = Drops who (reception_quality r) (octets_of (take 184 r.u)) (octets_of (take 40 (drop 184 r.u)))

abbrev pub received_block_lines : (who : E.Who) (received : Option Received) → List AnswerLine
received_block_lines who None = []
received_block_lines who (Some r) = received_block_line who r.accepted r ∷ []

-- all lines of an answer, in order
abbrev pub answer_lines : A.Answer → List AnswerLine
answer_lines (A.Refuses why) = No why ∷ []
answer_lines (A.Accepts s) =
    received_block_lines s.who s.received ++ map (Reports s.who s.sapi) s.notices ++ map (Sends s.who) s.frames ++ FinalOk ∷ []

-- ---- how the lines of an answer are written as text

-- the text of the words, each with a space before it (used inside this crate)
abbrev pub spaced_words : (words : List (List ℕ)) → List ℕ
spaced_words [] = []
spaced_words (word ∷ words) = 32 ∷ word ++ spaced_words words

-- the words for the reception quality of a block
abbrev pub reception_words : ReceptionQuality → List (List ℕ)
reception_words h = codes "tsc" ∷ decimal h.tsc ∷ codes "train" ∷ decimal h.wrong_training ∷ codes "metric"
    ∷ signed_decimal h.metric ∷ []

-- the words for a notice to layer 3
abbrev pub notice_words : Notice → List (List ℕ)
notice_words (N.Opened m) = codes "opened" ∷ octets_word m ∷ []
notice_words (N.Got m) = codes "got" ∷ octets_word m ∷ []
notice_words (N.Unit m) = codes "unit" ∷ octets_word m ∷ []
notice_words (N.Acked n) = codes "acked" ∷ decimal n ∷ []
notice_words N.Oversize = codes "oversize" ∷ []
notice_words (N.Closed reason) = codes "closed" ∷ closing_reason_word reason ∷ []

-- the words that an answer line consists of
abbrev pub answer_words : AnswerLine → List (List ℕ)
answer_words (No why) = codes "no" ∷ call_refusal_word why ∷ []
answer_words (Takes who octets h) = actor_word who ∷ codes "takes" ∷ encode_lower octets ∷ reception_words h
answer_words (Drops who h octets check) =
    actor_word who ∷ codes "drops" ∷ reception_words h ++ (codes "data" ∷ encode_lower octets ∷ codes "check" ∷ encode_lower check
    ∷ [])
answer_words (Reports who sapi notice) = (actor_word who ++ sapi_suffix sapi) ∷ notice_words notice
answer_words (Sends who octets) = actor_word who ∷ codes "sends" ∷ encode_lower octets ∷ []
answer_words FinalOk = codes "ok" ∷ []

-- the text of a line of an answer: its words, separated by spaces, and a line feed
abbrev pub answer_line_text : AnswerLine → List ℕ
answer_line_text line = join_with_byte 32 (answer_words line) ++ codes "\n"

-- the text of the lines, in order
abbrev pub answer_lines_text : (lines : List AnswerLine) → List ℕ
answer_lines_text [] = []
answer_lines_text (line ∷ lines) = answer_line_text line ++ answer_lines_text lines

-- the text of an answer: either `no REASON`, or lines for the received block, the notices and the frames sent, and then `ok`
abbrev pub answer_text : A.Answer → List ℕ
answer_text answer = answer_lines_text (answer_lines answer)

-- ---- which octets and numbers are in range

-- the training sequence code and the number of wrong training bits are below 2^64, and the metric is between -2^63 and 2^63
pub record ReceptionIsInRange (quality : ReceptionQuality) : Type 0 where
  pub tsc : quality.tsc < 2 ^ 64
  pub wrong_training : quality.wrong_training < 2 ^ 64
  pub metric : nat_abs quality.metric < 2 ^ 63

-- the octets or the number in the notice, if any, are in range
abbrev pub NoticeIsInRange : Notice → Type 0
NoticeIsInRange (N.Opened m) = AreOctets m
NoticeIsInRange (N.Got m) = AreOctets m
NoticeIsInRange (N.Unit m) = AreOctets m
NoticeIsInRange (N.Acked n) = n < 2 ^ 64
NoticeIsInRange N.Oversize = Unit {0}
NoticeIsInRange (N.Closed reason) = Unit {0}

-- all octets and numbers in the line are in range
abbrev pub LineIsInRange : AnswerLine → Type 0
LineIsInRange (No why) = Unit {0}
LineIsInRange (Takes who octets h) = AreOctets octets × ReceptionIsInRange h
LineIsInRange (Drops who h octets check) = ReceptionIsInRange h × AreOctets octets × AreOctets check
LineIsInRange (Reports who sapi notice) = NoticeIsInRange notice
LineIsInRange (Sends who octets) = AreOctets octets
LineIsInRange FinalOk = Unit {0}

-- all octets and numbers in all lines are in range
abbrev pub LinesAreInRange : List AnswerLine → Type 0
LinesAreInRange [] = Unit {0}
LinesAreInRange (line ∷ lines) = LineIsInRange line × LinesAreInRange lines
