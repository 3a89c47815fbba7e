use Rattle.{std.proofs.Common.rules, burst_map.proofs.Lemmas.both_written}
use Rattle.um_tests.proofs.bursts.normal_from_parts.Goals as goal

pub returns : goal.returns
returns c =
    both_written _ _ _ _ _ _ _ c.requires.first c.requires.second c.requires.tsc_in_range c.new-parts.ensures.value
    c.copy_from_slice.ensures.after c.copy_from_slice-2.ensures.after (search rules)
