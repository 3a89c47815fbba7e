-- All values of joined rows have a property if and only if all values of each row have it.
use Rattle.std.{
  proofs.{
    Common.{List, [], ◌∷◌, ◌++◌, length, refl, subst},
    lemmas.List.{take_at, drop_at, Elements.{All-nil, All-cons, All-head, All-tail, All-append, All-take, All-drop}},
  },
  specs.{List.{All, flat_map}, Prelude.◌↔◌},
}

pub All-flat_map : {X : Type 0} (P : X → Type 0) (rows : List (List X)) → All P (flat_map (λ row. row) rows) ↔ All (All P) rows
All-flat_map P [] = (λ _. All-nil (All P), λ _. All-nil P)
All-flat_map P (row ∷ rows) =
    let rest = flat_map (λ row. row) rows in
    let both = All-flat_map P rows in (
      λ each. All-cons (All P) row rows
          (subst (All P) (take_at row rest (length row) refl) (All-take P (length row) (row ++ rest) each))
          (both.0 (subst (All P) (drop_at row rest (length row) refl) (All-drop P (length row) (row ++ rest) each))),
      λ all. All-append P row rest (All-head (All P) row rows all) (both.1 (All-tail (All P) row rows all)),
    )
