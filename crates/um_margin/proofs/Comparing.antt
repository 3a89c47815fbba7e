-- The answers of `margin` compare the two most likely words for the bursts of the lines, and nothing else compares them.
use Rattle.{
  std.proofs.{
    Common.{List, [], ap, arith, length-append, length-drop, length, refl, sym, ℕ, ℤ, ◌++◌, ◌∙◌, ◌∷◌, ◌≡◌},
    lemmas.List.length-take,
  },
  um_block.specs.Received.{access_soft_bits, sync_soft_bits},
  um_margin.{
    proofs.Lemmas.{AreTwoMostLikelyBlockWords-compared_block_words, AreTwoMostLikelyWords-compared_words, compared_block_words-only},
    proofs.Lemmas.one_compared,
    specs.{Comparing.ComparesWords, Margins.margin_burst_answers, Texts.{access_margin_text, block_margin_text, sync_margin_text}},
  },
  um_replay.{
    proofs.Reporting.AreReports,
    specs.um_formats.declared.burst_lines.BurstLine.{TheVariants.{Access, Normal, Skip, Sync}, BurstLine},
  },
}

access_count : (soft : List ℤ) → length soft ≡ 88 → length (access_soft_bits soft) ≡ 36
access_count soft long = simp (length-take, length-drop) (omega arith)

sync_count : (soft : List ℤ) → length soft ≡ 148 → length (sync_soft_bits soft) ≡ 78
sync_count soft long = simp (length-append, length-take, length-drop) (omega arith)

pub margin_reports : AreReports margin_burst_answers ComparesWords
margin_reports = record {
  skips = λ held. refl;
  block = λ held soft four each. (_, AreTwoMostLikelyBlockWords-compared_block_words (held ++ soft ∷ []) four each, refl);
  access = λ held bsic soft count bits long.
      (_, AreTwoMostLikelyWords-compared_words (access_soft_bits soft) 18 (access_count soft long) (omega arith), refl);
  sync = λ held soft long. (_, AreTwoMostLikelyWords-compared_words (sync_soft_bits soft) 39 (sync_count soft long) (omega arith), refl);
}

-- two comparisons for the same bursts are the same text
pub one_comparison : (held : List (List ℤ)) (meaning : BurstLine) (x y : List ℕ) → ComparesWords held meaning x →
    ComparesWords held meaning y → x ≡ y
one_comparison held Skip x y h g = h ∙ sym g
one_comparison held (Normal soft) x y (c, two, text) (d, two', text') =
    let bursts = held ++ soft ∷ [] in
    text ∙ ap block_margin_text (compared_block_words-only bursts c two ∙ sym (compared_block_words-only bursts d two')) ∙ sym text'
one_comparison held (Access bsic soft) x y (c, two, text) (d, two', text') =
    text ∙ ap (access_margin_text bsic) (one_compared (access_soft_bits soft) c d two two') ∙ sym text'
one_comparison held (Sync soft) x y (c, two, text) (d, two', text') =
    text ∙ ap sync_margin_text (one_compared (sync_soft_bits soft) c d two two') ∙ sym text'
