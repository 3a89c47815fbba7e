use Rattle.{
  std.proofs.{Common.{rules, lit≤, sym, subst}, lemmas.List.Elements.All-append},
  um_block.{specs.bit_blocks.SoftValues.{IsSoftBit, AllSoftBits}, proofs.Lemmas.AllSoftBits-range},
}
use Rattle.um_margin.proofs.command.compare_sync_burst_words.Goals as goal

pub compare_words-requires : goal.compare_words-requires
compare_words-requires c = (
  lit≤ tt,
  (
    search rules,
    (
      lit≤ tt,
      (
        lit≤ tt,
        subst AllSoftBits
            (sym (cc (c.join_sync_halves.ensures, c.first.ensures.value, c.second.ensures.value, c.new-parts.ensures.value)))
            (All-append IsSoftBit _ _ (AllSoftBits-range c.args.burst.now 3 42 c.requires)
            (AllSoftBits-range c.args.burst.now 106 145 c.requires)),
      ),
    ),
  ),
)
