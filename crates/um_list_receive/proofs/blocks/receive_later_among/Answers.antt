use Rattle.{
  std.proofs.{Common.{rules, refl, sym, ◌∙◌, ap, subst, w32, FitsSigned}, lemmas.Int.to_z-of_z},
  um_block.specs.conv_code.{Code.encoding, Likelihood.{IsMostLikely, likelihood}},
  um_list_receive.{specs.ListDecoding.BlockCrcHolds, proofs.Lemmas.{never, octets_if_crc_holds, taken_none, taken_found}},
}
use Rattle.um_list_receive.proofs.blocks.receive_later_among.Goals as goal

pub first_crc_match-requires-clause-best : goal.first_crc_match-requires-clause-best
first_crc_match-requires-clause-best c =
    subst (IsMostLikely c.args.soft.now) (sym (c.copy_from_slice.ensures.after ∙ c.as_slice.ensures.value)) c.requires.best

pub first_crc_match-requires-clause-metric : goal.first_crc_match-requires-clause-metric
first_crc_match-requires-clause-metric c =
    let metric = c.args.first.now.metric in
    let fits : FitsSigned w32 metric = search rules in
    to_z-of_z w32 metric fits
    ∙ c.requires.metric
    ∙ ap (λ u. likelihood c.args.soft.now (encoding u)) (sym (c.copy_from_slice.ensures.after ∙ c.as_slice.ensures.value))

pub returns-in_default-clause-choice : goal.returns-in_default-clause-choice
returns-in_default-clause-choice c =
    taken_none BlockCrcHolds c.args.soft.now c.args.max_rank octets_if_crc_holds c.args.soft.now _ _ refl c.in_default.ensures
    c.requires.best (λ some. never (rw c.requires.refused at some))

pub returns-clause-choice : goal.returns-clause-choice
returns-clause-choice c =
    let same = c.from_array.ensures.value in
    taken_found BlockCrcHolds c.args.soft.now c.args.max_rank octets_if_crc_holds _ c.args.soft.now _ _
    c.octets_if_crc_holds.result refl same c.in-Some.ensures.0 c.octets_if_crc_holds.ensures

pub returns-clause-metric : goal.returns-clause-metric
returns-clause-metric c = let same = c.from_array.ensures.value in rw same (search rules)
