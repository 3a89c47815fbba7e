-- How reports on received blocks and bursts are written as lines (this project's own rule).
use Rattle.std.specs.Prelude.{ℕ, ◌≡◌, Bool, true, false, ℤ, List, []}
use Rattle.std.specs.Prelude.{◌++◌, Option, Some, None, take, drop, codes, MatchOption, is_some}
use Rattle.std.specs.Fmt.{decimal, signed_decimal}
use Rattle.um_lines.specs.Hex.{encode_lower}
use Rattle.um_block.specs.bit_blocks.Octets.{octets_of}
use Rattle.um_block.specs.declared.received.Received.{Received}
use Rattle.um_block.specs.declared.received.ReceivedAccess.{ReceivedAccess}
use Rattle.um_block.specs.declared.received.ReceivedSync.{ReceivedSync}
use Rattle.um_lines.specs.Fields.{bit_digits}
use Rattle.um_formats.specs.FrameTexts.{IsTextOfOctets, text_of_octets}

-- the word for the result of the CRC: `ok` or `bad`
abbrev pub crc_result_word : Bool → List ℕ
crc_result_word true = codes "ok"
crc_result_word false = codes "bad"

-- the words for reception quality: the number of wrong training bits, the metric, and whether the CRC is correct
abbrev pub quality_text : (wrong_bit_count : ℕ) (metric : ℤ) (crc_holds : Bool) → List ℕ
quality_text wrong metric holds =
    codes " train " ++ decimal wrong ++ codes " metric " ++ signed_decimal metric
    ++ codes " parity " ++ crc_result_word holds

-- the words for the received data and CRC, which end the report line
abbrev pub data_and_check_text : (data_word check : List ℕ) → List ℕ
data_and_check_text data_word check = codes " data " ++ data_word ++ codes " check " ++ check ++ codes "\n"

-- the report line of a block: `block tsc T train E metric M parity P data HEX46 check HEX10`
abbrev pub block_report_line : Received → List ℕ
block_report_line r =
    codes "block tsc " ++ decimal r.tsc ++ quality_text r.wrong_training r.metric (is_some r.accepted)
    ++ data_and_check_text (encode_lower (octets_of (take 184 r.u))) (encode_lower (octets_of (take 40 (drop 184 r.u))))

-- the report on a block: its report line and, if the CRC is correct, the line for the frame in it
abbrev pub IsBlockReportText : (received : Received) (text : List ℕ) → Type 0
IsBlockReportText r text =
    MatchOption r.accepted
    (text ≡ block_report_line r)
    (λ octets. (second : List ℕ) × IsTextOfOctets octets second × (text ≡ block_report_line r ++ second))

-- the text for accepted octets: that of the frame in them
abbrev pub text_of_accepted : Option (List ℕ) → List ℕ
text_of_accepted None = []
text_of_accepted (Some octets) = text_of_octets octets

-- the report on a block as a function
abbrev pub block_report_text : Received → List ℕ
block_report_text r = block_report_line r ++ text_of_accepted r.accepted

-- the report line of an access burst: `access BSIC6 train E metric M parity P data DIGITS8 check DIGITS6`
abbrev pub access_report_text : (bsic : List ℕ) (access : ReceivedAccess) → List ℕ
access_report_text bsic r =
    codes "access " ++ bit_digits bsic ++ quality_text r.wrong_training r.metric (is_some r.accepted)
    ++ data_and_check_text (bit_digits (take 8 r.u)) (bit_digits (take 6 (drop 8 r.u)))

-- the report line of a synchronisation burst: `sync train E metric M parity P data DIGITS25 check DIGITS10`
abbrev pub sync_report_text : ReceivedSync → List ℕ
sync_report_text r =
    codes "sync" ++ quality_text r.wrong_training r.metric (is_some r.accepted)
    ++ data_and_check_text (bit_digits (take 25 r.u)) (bit_digits (take 10 (drop 25 r.u)))
