use Rattle.std.proofs.Common.{ap, ap₂, arith, drop, length, take, ◌&&◌, ◌+◌, ◌-◌, ◌∙◌, ◌≡◌}
use Rattle.std.{proofs.lemmas.List.{length-drop, take_all}, specs.List.list_all}
use Rattle.um_lines.proofs.Texts.{all_more, all_overlapping}
use Rattle.um_lines.proofs.octet_sets.all_in_set_in_steps.Goals as goal

pub loop-at-preserved : goal.loop-at-preserved
loop-at-preserved g c =
    let word = c.args.word.now in
    let at = c.loop-at.at in
    let has = g.S.OctetSet.has in
    let width : at + g.row.N - at ≡ g.row.N = omega arith in (
      rw (c.loop-at.invariant.0, c.all_in_set_one_by_one-all.ensures, width) (all_more has word at g.row.N),
      omega (arith, c.loop-at.invariant.2),
      c.loop-at.invariant.2,
    )

pub returns : goal.returns
returns g c =
    let word = c.args.word.now in
    let last = length word - g.row.N in
    let has = g.S.OctetSet.has in
    let rest : take (last + g.row.N - last) (drop last word) ≡ drop last word =
    take_all (last + g.row.N - last) (drop last word) (omega (arith, length-drop last word, c.loop-at.invariant.2)) in
    ap₂ ◌&&◌ c.loop-at.invariant.0 (c.all_in_set_one_by_one.ensures ∙ ap (list_all has) rest)
    ∙ all_overlapping has word last c.loop-at.at (omega arith)
