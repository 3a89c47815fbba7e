-- Worked inputs of `end`: the prescribed response, computed. The bursts are libosmocoding's (vectors/code.out).
use Rattle.std.specs.Prelude.{◌≡◌, ◌++◌, List, [], Option, Some, true, codes}
use Rattle.std.proofs.Common.{refl}
use Rattle.std.specs.Fmt.{digits}
use Rattle.um_lines.specs.Hex.{encode_with}
use Rattle.um_link.specs.lapdm_window.Ends.{Mobile, Network}
use Rattle.um_link.specs.um_block.Computed.{sent_block}
use Rattle.um_link.specs.um_block.fire_code.Crcs.{xcch_crc}
use Rattle.um_link.specs.um_block.fire_code.Registers.{low_bits}
use Rattle.um_link.specs.um_block.interleave.Bursts.{interleaved}
use Rattle.um_link.specs.um_block.interleave.ColumnPositions.{coded_bit_number_in_burst, coded_bit_number_in_column}
use Rattle.um_driver.specs.Outputs.{response}
use Rattle.um_driver.specs.declared.status.Status.TheVariants.{Done, BadInput}
use Rattle.um_end.specs.EndLines.{end_command_line}
use Rattle.um_end.specs.EndRuns.{end_command_rules, initial_end_command_state}

fill_frame : response end_command_rules (initial_end_command_state Mobile 0) (codes "mob idle\n") true ≡ (
  Some Done,
  codes "mob sends 0103012b2b2b2b2b2b2b2b2b2b2b2b2b2b2b2b2b2b2b2b\nok\n"
      ++ codes "n 000100000010001110101010000001000100001000101011101010000000100100101110000100"
      ++ codes "0100101111010000000010101010100010000101000000100011111010100000000000\n"
      ++ codes "n 000101010111111011101010000001010101010111101110101000000100100100101110000100"
      ++ codes "0100101111010101111111111010000000010101010101011011101010100000000000\n"
      ++ codes "n 000000000011101010100010000100000000001011111010100000010100100100101110000100"
      ++ codes "0100101111001000001110101010001001000000000000111010101000100000010000\n"
      ++ codes "n 000000100000010101110111101110101000000000010111110111101010100100101110000100"
      ++ codes "0100101111101010010101010111011010101010101000000001011101101110101000\n",
)
unfolding response end_command_line encode_with digits sent_block xcch_crc low_bits interleaved coded_bit_number_in_burst
    coded_bit_number_in_column
fill_frame = refl

other_side : response end_command_rules (initial_end_command_state Mobile 0) (codes "net idle\n") true ≡ (
  Some BadInput,
  codes "refused 1 word\n",
)
unfolding response end_command_line digits
other_side = refl

call_in_block : response end_command_rules (initial_end_command_state Network 0) (codes "lost\nnet idle\n") true ≡ (
  Some BadInput,
  codes "refused 2 order\n",
)
unfolding response end_command_line digits
call_in_block = refl

unfinished : response end_command_rules (initial_end_command_state Network 0) (codes "lost\n") true ≡ (
  Some BadInput,
  codes "refused 2 order\n",
)
unfolding response end_command_line digits
unfinished = refl
