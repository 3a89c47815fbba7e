-- How the `code` command answers a line (this project's own rule).
use Rattle.std.specs.Prelude.{ℕ, List, []}
use Rattle.um_block.specs.Computed.{sent_block, sent_access, sent_sync}
use Rattle.um_formats.specs.declared.code.CodeLine.{CodeLine}
use Rattle.um_formats.specs.declared.code.CodeLine.TheVariants.{Skip, Block, Rach, Sch}
use Rattle.um_formats.specs.CodeLines.{code_line}
use Rattle.um_formats.specs.BurstTexts.{bursts_text, access_burst_text, sync_burst_text}
use Rattle.um_driver.specs.Rules.{Rules, stateless, answer_to_meaning}

-- the answer to a line with this meaning: the text lines of the bursts that carry its information
abbrev pub code_answer : (line : CodeLine) → List ℕ
code_answer Skip = []
code_answer (Block tsc octets) = bursts_text (sent_block octets tsc)
code_answer (Rach info bsic) = access_burst_text bsic (sent_access info bsic)
code_answer (Sch info) = sync_burst_text (sent_sync info)

-- the rules of `code`, which keeps no state, so that its input may end after any line
abbrev pub code_command_rules : Rules (Unit {0})
code_command_rules = stateless (λ line. answer_to_meaning code_answer (code_line line))
