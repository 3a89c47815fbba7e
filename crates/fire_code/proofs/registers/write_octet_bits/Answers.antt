use Rattle.std.proofs.{Common.arith, lemmas.List.Edits.paste_more}
use Rattle.fire_code.proofs.registers.write_octet_bits.Goals as goal

pub loop-b-preserved : goal.loop-b-preserved
loop-b-preserved c =
    cc (
      c.set.ensures,
      c.loop-b.invariant,
      paste_more c.args.bits.now c.args.at c.args.octet.now c.loop-b.b 0 (omega arith) (omega arith),
    )
