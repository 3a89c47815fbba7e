use Rattle.um_script.proofs.ScriptLines.{octet_event}
use Rattle.um_script.proofs.script.law_script_messages_are_octets.Goals as goal

pub returns : goal.returns
returns c = octet_event
