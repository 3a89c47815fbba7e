use Rattle.{
  std.proofs.Common.{rules, lit≤, ap, sym, subst, ◌∙◌},
  um_block.{specs.{bit_blocks.SoftValues.AllSoftBits, burst_map.AccessBurst.body}, proofs.Lemmas.AllSoftBits-range},
}
use Rattle.um_margin.proofs.command.compare_access_burst_words.Goals as goal

pub compare_words-requires : goal.compare_words-requires
compare_words-requires c = (
  lit≤ tt,
  (
    search rules,
    (
      lit≤ tt,
      (
        lit≤ tt,
        subst AllSoftBits (sym (c.body.ensures.value ∙ ap body c.new.ensures.value))
            (AllSoftBits-range c.args.burst.now 49 85 c.requires),
      ),
    ),
  ),
)
