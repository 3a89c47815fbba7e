use Rattle.{
  std.proofs.Common.{arith, rules, ◌≡◌, ◌∷◌, [], List, ℤ, ap, length, refl, subst, sym, take, ◌∙◌, w32, FitsSigned},
  std.proofs.lemmas.Int.to_z-of_z,
  weight_bound.specs.conv_code.{Code.encoding, Likelihood.{IsMostLikely, likelihood}},
  list_decode.proofs.{ReturnedWords.{IsRankingSoFar-first, take-same_length}, words.RankedWords.first_word.Goals.After-pad_with_zeros},
}
use Rattle.list_decode.proofs.words.RankedWords.first_word.Goals as goal

reads : (c : After-pad_with_zeros) → take c.new.result.bits c.pad_with_zeros.result ≡ c.args.u.now
reads c =
    let bits : length c.args.u.now ≡ c.new.result.bits =
    omega (arith, ap length c.new.ensures.soft, c.new.ensures.has_soft_bits.soft_bit_count, c.requires.best.count) in
    take-same_length c.new.result.bits c.pad_with_zeros.result c.args.u.now c.pad_with_zeros.ensures bits

pub returns-clause-sound : goal.returns-clause-sound
returns-clause-sound c =
    let fits : FitsSigned w32 c.args.metric = search rules in
    let soft = sym c.new.ensures.soft in
    IsRankingSoFar-first _ c.args.u.now c.new.ensures.has_soft_bits refl
    (reads (goal.at.returns-clause-sound c).After-pad_with_zeros)
    (subst (λ (s : List ℤ). IsMostLikely s c.args.u.now) soft c.requires.best)
    (to_z-of_z w32 c.args.metric fits ∙ c.requires.metric ∙ ap (λ (s : List ℤ). likelihood s (encoding c.args.u.now)) soft)

pub returns-clause-returned : goal.returns-clause-returned
returns-clause-returned c = ap (λ u. u ∷ []) (reads (goal.at.returns-clause-returned c).After-pad_with_zeros)
