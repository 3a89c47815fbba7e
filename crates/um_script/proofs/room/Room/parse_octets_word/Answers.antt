use Rattle.{std.{proofs.Common.{ap, arith}, specs.Prelude.length}, um_script.proofs.ScriptLines.words-single}
use Rattle.um_script.proofs.room.Room.parse_octets_word.Goals as goal

pub decode_hex_octets-requires-clause-space : goal.decode_hex_octets-requires-clause-space
decode_hex_octets-requires-clause-space c =
    omega (arith, c.requires, ap length (words-single c.args.text.now c.in_ok-word.word.now c.in_ok-word.ensures))
