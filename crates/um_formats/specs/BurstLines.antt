-- The meaning of the input lines of the `replay` command (this project's own rule).
use Rattle.std.specs.Prelude.{ℕ, ℤ, pos, nat_le, Bool, List, [], ◌∷◌, ◌++◌, length, replicate, Option, Some, None, Result}
use Rattle.um_block.specs.Received.{soft_bits}
use Rattle.um_lines.specs.declared.fault.LineFault.{LineFault}
use Rattle.um_lines.specs.declared.fault.LineFault.TheVariants.{Order}
use Rattle.um_lines.specs.Fields.{Value, NumberList}
use Rattle.um_lines.specs.Forms.{line_fault}
use Rattle.um_lines.specs.Reading.{LineParsesTo, parsed_line, words_parse_result}
use Rattle.um_lines.specs.BurstForms.{BurstLineKind, Normal, NormalSoft, Lost, Access, AccessSoft, Sync, SyncSoft, burst_line_forms}
use Rattle.um_lines.specs.BurstForms.{is_burst_out_of_order}
use Rattle.um_formats.specs.declared.burst_lines.BurstLine.{BurstLine}
use Rattle.um_formats.specs.declared.burst_lines.BurstLine.TheVariants as B
use Rattle.um_formats.specs.SoftOctets.{signed_octets}

-- the burst in a line of this form with these values: the digit `0` is the soft value 127, the digit `1` is -127, two hexadecimal digits
-- are a signed soft value, and a lost burst has only soft values 0
abbrev pub burst_line_of_values : (name : BurstLineKind) (values : List Value) → BurstLine
burst_line_of_values Normal (NumberList bits ∷ []) = B.Normal (soft_bits bits)
burst_line_of_values NormalSoft (NumberList octets ∷ []) = B.Normal (signed_octets octets)
burst_line_of_values Lost [] = B.Normal (replicate 148 (pos 0))
burst_line_of_values Access (NumberList bsic ∷ NumberList bits ∷ []) = B.Access bsic (soft_bits bits)
burst_line_of_values AccessSoft (NumberList bsic ∷ NumberList octets ∷ []) = B.Access bsic (signed_octets octets)
burst_line_of_values Sync (NumberList bits ∷ []) = B.Sync (soft_bits bits)
burst_line_of_values SyncSoft (NumberList octets ∷ []) = B.Sync (signed_octets octets)
burst_line_of_values name values = B.Skip

abbrev pub burst_line_of_meaning : Option (BurstLineKind × List Value) → BurstLine
burst_line_of_meaning None = B.Skip
burst_line_of_meaning (Some meaning) = burst_line_of_values meaning.0 meaning.1

-- why a line of `replay` is refused after this number of bursts of an incomplete block: the first fault, or `None`
abbrev pub burst_line_fault : (held_burst_count : ℕ) (line : List ℕ) → Option LineFault
burst_line_fault held line = line_fault burst_line_forms (is_burst_out_of_order held) line

-- whether a burst completes the block of which these bursts are held: a block has four bursts
abbrev pub completes_block : (held_bursts : List (List ℤ)) (burst : List ℤ) → Bool
completes_block held burst = nat_le 4 (length (held ++ burst ∷ []))

-- why an input that ends with these bursts of an incomplete block is refused: `Order`, or `None` if there are no bursts
abbrev pub unfinished_block_fault : (held_bursts : List (List ℤ)) → Option LineFault
unfinished_block_fault [] = None
unfinished_block_fault (burst ∷ bursts) = Some Order

-- a line of the `replay` command has the given meaning after this number of bursts of an incomplete block
abbrev pub BurstLineMeans : (held_burst_count : ℕ) (line : List ℕ) (meaning : BurstLine) → Type 0
BurstLineMeans held line = LineParsesTo burst_line_forms (is_burst_out_of_order held) burst_line_of_meaning line

-- the result of parsing the words of a line of `replay` (used only inside the parser)
abbrev pub burst_parse_result : (held_burst_count : ℕ) (words : List (List ℕ)) → Result BurstLine LineFault
burst_parse_result held words = words_parse_result burst_line_forms (is_burst_out_of_order held) burst_line_of_meaning words

-- the meaning of a line of `replay` after this number of bursts of an incomplete block, or the reason why it is refused
unfoldable pub burst_line : (held_burst_count : ℕ) (line : List ℕ) → Result BurstLine LineFault
burst_line held line = parsed_line burst_line_forms (is_burst_out_of_order held) burst_line_of_meaning line
