use Rattle.{
  std.proofs.Common.{arith, rules, ◌<◌, length, get_or, refl, ap, sym, ◌∙◌, subst},
  list_decode.{
    specs.{Branches.{IsBranch, IsDeviationInSpan, word_of_deviation}, Words.{open_branches, returned_words}},
    proofs.{Choices.placeholder_branch, Chosen.{chosen, chosen_branch, is_next, within}, partitioning.find_next_word.Goals.In_ok-choice},
  },
}
use Rattle.list_decode.proofs.partitioning.find_next_word.Goals as goal

inside : (c : In_ok-choice) → c.in_ok-choice.choice.branch < length (open_branches c.args.words.now)
inside c =
    let words = c.args.words.now in
    let is = c.requires.ranking in
    within words.pass (returned_words words) (open_branches words) c.in_ok-choice.choice is.ranked.ranked_words_are_candidates
    is.all_branches c.in_ok-choice.ensures.first

pub offset_bounds-branches-choice : goal.offset_bounds-branches-choice
offset_bounds-branches-choice c = let i = inside (goal.at.offset_bounds-branches-choice c).In_ok-choice in search rules

pub bounds-branches-choice : goal.bounds-branches-choice
bounds-branches-choice c = inside (goal.at.bounds-branches-choice c).In_ok-choice

pub write_word-requires-clause-within : goal.write_word-requires-clause-within
write_word-requires-clause-within c =
    let words = c.args.words.now in
    let is = c.requires.ranking in
    let i = (chosen_branch words.pass (returned_words words) (open_branches words) c.in_ok-choice.choice
    is.ranked.ranked_words_are_candidates is.all_branches c.in_ok-choice.ensures.first).in_range in
    omega arith

pub partition-parts-requires-clause-inside : goal.partition-parts-requires-clause-inside
partition-parts-requires-clause-inside c =
    let words = c.args.words.now in
    let is = c.requires.ranking in
    let choice = c.in_ok-choice.choice in
    subst (λ u. IsDeviationInSpan words.pass u (get_or (open_branches words) choice.branch placeholder_branch).span choice.deviation)
    (sym c.write_word.ensures)
    (chosen words.pass (returned_words words) (open_branches words) choice is.ranked.ranked_words_are_candidates is.all_branches
    c.in_ok-choice.ensures.first)

pub returns : goal.returns
returns c =
    let words = c.args.words.now in
    let choice = c.in_ok-choice.choice in
    let is = c.requires.ranking in
    let p = c.partition-parts.ensures in
    let read = c.write_word.ensures in
    let written = p.written ∙ ap (λ u. word_of_deviation words.pass u choice.deviation) read in
    record {
      next = is_next words.pass (returned_words words) (open_branches words) choice is.pass is.all_branches c.in_ok-choice.ensures.first
          is.ranked is.partition _ refl refl
          (subst (λ u. IsBranch words.pass u c.partition-parts.result.branch_before) read p.before)
          (subst (λ v. IsBranch words.pass v c.partition-parts.result.branch_of_new_word) written p.new_word)
          (subst (λ u. IsBranch words.pass u c.partition-parts.result.branch_after) read p.after) p.before_span
          (p.new_word_span.0 ∙ sym is.count, p.new_word_span.1, p.new_word_span.2) p.after_span c.partition-parts.new.u written;
    }
