-- Worked inputs of `code`: the prescribed response, computed.
use Rattle.std.specs.Prelude.{◌≡◌, List, [], Option, Some, true, codes}
use Rattle.std.proofs.Common.{refl}
use Rattle.std.specs.Fmt.{digits}
use Rattle.um_driver.specs.Outputs.{response}
use Rattle.um_driver.specs.declared.status.Status.TheVariants.{Done, BadInput}
use Rattle.um_code.specs.Code.{code_command_rules}
use Rattle.um_formats.specs.CodeLines.{code_line}
use Rattle.um_block.specs.Computed.{sent_access, sent_sync}
use Rattle.um_block.specs.fire_code.Crcs.{rach_crc, sch_crc}
use Rattle.um_block.specs.fire_code.Registers.{low_bits}

skipped : response code_command_rules tt (codes "# hello\n\n") true ≡ (Some Done, [])
unfolding response code_line digits
skipped = refl

refused : response code_command_rules tt (codes "#\nrach 1\n") true ≡ (Some BadInput, codes "refused 2 word\n")
unfolding response code_line digits
refused = refl

access : response code_command_rules tt (codes "# x\nrach 10011010 110010\n") true ≡ (
  Some Done,
  codes "a 110010 0011101001001011011111111001100110101010001111000110100000101000111110010101000001100000\n",
)
unfolding response code_line sent_access rach_crc low_bits
access = refl
