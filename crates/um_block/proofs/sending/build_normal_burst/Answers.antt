use Rattle.{
  std.proofs.{Common.{◌≡◌, [], length, get_or, drop, ◌∙◌, arith, rules}, lemmas.List.{length-drop, length-take, take_all}},
  burst_map.proofs.Lemmas.both_written,
}
use Rattle.um_block.proofs.sending.build_normal_burst.Goals as goal

pub returns : goal.returns
returns c coded parts are whole =
    let part = get_or _ c.args.b [] in
    let full : length part ≡ 114 = whole.burst_lengths _ [] (omega arith) in
    both_written _ _ _ _ _ (drop 57 part) _ (omega (arith, length-take 57 part)) (omega (arith, length-drop 57 part))
    c.requires.tsc_in_range c.new-parts.ensures.value (c.write_half_burst.ensures coded parts are whole)
    (c.write_half_burst-2.ensures coded parts are whole ∙ take_all 57 (drop 57 part) (omega (arith, length-drop 57 part))) (search rules)
