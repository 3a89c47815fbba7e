-- The output lines of `margin` (this project's own rule).
use Rattle.std.specs.Prelude.{ℕ, ℤ, List, ◌++◌, take, drop, codes}
use Rattle.std.specs.Fmt.{signed_decimal}
use Rattle.um_replay.specs.um_lines.Hex.{encode_lower}
use Rattle.um_block.specs.bit_blocks.Octets.{octets_of}
use Rattle.um_replay.specs.um_lines.Fields.{bit_digits}
use Rattle.um_margin.specs.Compared.{TwoMostLikelyWords}

-- the part ` margin G metric M` of an output line, with the margin and the metric in decimal
abbrev pub margin_and_metric_text : (margin metric : ℤ) → List ℕ
margin_and_metric_text margin metric = codes " margin " ++ signed_decimal margin ++ codes " metric " ++ signed_decimal metric

-- the decoded word of a block in hexadecimal: its 184 data bits, a separator, and its 40 CRC bits
abbrev pub hex_word_text : (word separator : List ℕ) → List ℕ
hex_word_text u between = encode_lower (octets_of (take 184 u)) ++ between ++ encode_lower (octets_of (take 40 (drop 184 u)))

-- a word written in the digits `0` and `1`: the given number of data bits, a separator, then the given number of CRC bits
abbrev pub digit_word_text : (word : List ℕ) (data_bit_count crc_bit_count : ℕ) (separator : List ℕ) → List ℕ
digit_word_text u many checks between = bit_digits (take many u) ++ between ++ bit_digits (take checks (drop many u))

-- the line `block margin G metric M data HEX46 check HEX10 next HEX46 HEX10`
abbrev pub block_margin_text : TwoMostLikelyWords → List ℕ
block_margin_text c =
    codes "block" ++ margin_and_metric_text c.margin c.metric ++ codes " data " ++ hex_word_text c.best (codes " check ")
    ++ codes " next " ++ hex_word_text c.next (codes " ") ++ codes "\n"

-- the line `access BSIC6 margin G metric M data DIGITS8 check DIGITS6 next DIGITS8 DIGITS6`
abbrev pub access_margin_text : (bsic : List ℕ) (words : TwoMostLikelyWords) → List ℕ
access_margin_text bsic c =
    codes "access " ++ bit_digits bsic ++ margin_and_metric_text c.margin c.metric ++ codes " data " ++ digit_word_text c.best 8 6
    (codes " check ")
    ++ codes " next " ++ digit_word_text c.next 8 6 (codes " ") ++ codes "\n"

-- the line `sync margin G metric M data DIGITS25 check DIGITS10 next DIGITS25 DIGITS10`
abbrev pub sync_margin_text : TwoMostLikelyWords → List ℕ
sync_margin_text c =
    codes "sync" ++ margin_and_metric_text c.margin c.metric ++ codes " data " ++ digit_word_text c.best 25 10 (codes " check ")
    ++ codes " next " ++ digit_word_text c.next 25 10 (codes " ") ++ codes "\n"
