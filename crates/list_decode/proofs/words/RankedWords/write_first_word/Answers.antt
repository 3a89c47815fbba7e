use Rattle.{
  std.proofs.{Common.{rules, ◌≡◌, ◌∷◌, [], ap, refl, take, ◌∙◌, w32, FitsSigned}, lemmas.Int.to_z-of_z},
  list_decode.proofs.{
    ReturnedWords.{IsRankingSoFar-first, take-same_length},
    words.RankedWords.write_first_word.Goals.After-pad_with_zeros-self,
  },
}
use Rattle.list_decode.proofs.words.RankedWords.write_first_word.Goals as goal

reads : (c : After-pad_with_zeros-self) → take c.args.self.now.pass.bits c.pad_with_zeros-self.result ≡ c.decode-metric.new.u
reads c =
    take-same_length c.args.self.now.pass.bits c.pad_with_zeros-self.result c.decode-metric.new.u c.pad_with_zeros-self.ensures
    (c.decode-metric.auto.u ∙ c.requires.count)

pub returns-clause-sound : goal.returns-clause-sound
returns-clause-sound c =
    let fits : FitsSigned w32 c.decode-metric.result = search rules in
    IsRankingSoFar-first _ c.decode-metric.new.u c.requires.sound.has_soft_bits refl
    (reads (goal.at.returns-clause-sound c).After-pad_with_zeros-self) c.decode-metric.ensures.best
    (to_z-of_z w32 c.decode-metric.result fits ∙ c.decode-metric.ensures.value)

pub returns-clause-returned : goal.returns-clause-returned
returns-clause-returned c = ap (λ u. u ∷ []) (reads (goal.at.returns-clause-returned c).After-pad_with_zeros-self)
