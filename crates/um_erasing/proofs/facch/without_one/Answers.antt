use Rattle.std.proofs.Common.{pos, rules, subst, sym}
use Rattle.std.specs.List.{All}
use Rattle.std.proofs.lemmas.List.Elements.{All-replicate, All-set}
use Rattle.um_block.specs.bit_blocks.SoftValues.{AllSoftBits, IsSoftBit}
use Rattle.um_erasing.proofs.ErasingFacch.{erased_rows}
use Rattle.um_erasing.proofs.facch.without_one.Goals as goal

pub returns-clause-value : goal.returns-clause-value
returns-clause-value c =
    erased_rows c.args.bursts.now c.copy_from_slice.new.self _ c.args.index _ _ (search rules) (search rules) c.requires.index

pub returns-clause-soft : goal.returns-clause-soft
returns-clause-soft c =
    subst (All AllSoftBits) (sym (returns-clause-value c))
    (All-set AllSoftBits _ _ _ (All-replicate IsSoftBit 148 (pos 0) (search rules)) c.requires.soft)
