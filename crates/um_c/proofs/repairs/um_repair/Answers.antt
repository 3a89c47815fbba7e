use Rattle.{
  std.proofs.Common.{ℕ, List, inl, inr, refl, subst, rules},
  fire_repair.specs.{fire_code.Words.IsXcchCodeword, Repairs.IsRepair},
  um_c.proofs.Calls.repair-unique,
}
use Rattle.um_c.proofs.repairs.um_repair.Goals as goal

-- the CRC of the word is wrong, and the word has no repair
abbrev Lost : List ℕ → Type 0
Lost w = (IsXcchCodeword w → ⊥) × ((v : List ℕ) → IsRepair w v → ⊥)

pub returns-in_default-clause-answer : goal.returns-in_default-clause-answer
returns-in_default-clause-answer c = search rules

pub returns-in_default-clause-only : goal.returns-in_default-clause-only
returns-in_default-clause-only c = λ answer other h.
    repair-unique c.args.word.now answer _ _ other _ h (returns-in_default-clause-answer c)

pub returns-in-Holds-clause-answer : goal.returns-in-Holds-clause-answer
returns-in-Holds-clause-answer c = search rules

pub returns-in-Holds-clause-only : goal.returns-in-Holds-clause-only
returns-in-Holds-clause-only c = λ answer other h.
    repair-unique c.args.word.now answer _ _ other _ h (returns-in-Holds-clause-answer c)

pub returns-in-Repaired-clause-answer : goal.returns-in-Repaired-clause-answer
returns-in-Repaired-clause-answer c = search rules

pub returns-in-Repaired-clause-only : goal.returns-in-Repaired-clause-only
returns-in-Repaired-clause-only c = λ answer other h.
    repair-unique c.args.word.now answer _ _ other _ h (returns-in-Repaired-clause-answer c)

pub returns-in-NoRepair-clause-answer : goal.returns-in-NoRepair-clause-answer
returns-in-NoRepair-clause-answer c =
    let lost : Lost c.args.word.now = subst Lost c.in-Some.ensures.value c.in-NoRepair.ensures.answer in
    inl ((c.in-Some.ensures.found.0 refl).1, inr (inr (lost.0, lost.1, refl, refl)))

pub returns-in-NoRepair-clause-only : goal.returns-in-NoRepair-clause-only
returns-in-NoRepair-clause-only c = λ answer other h.
    repair-unique c.args.word.now answer _ _ other _ h (returns-in-NoRepair-clause-answer c)
