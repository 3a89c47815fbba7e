-- The last four of eight elements.
use Rattle.std.proofs.Common.{List, [], arith, drop, get_or, length, map, refl, ℕ, ℤ, ◌≡◌, ◌∷◌}

last_four : {A : Type 0} (d : A) (xs : List A) → length xs ≡ 8 →
    get_or xs 4 d ∷ get_or xs 5 d ∷ get_or xs 6 d ∷ get_or xs 7 d ∷ [] ≡ drop 4 xs
last_four d (a ∷ b ∷ c ∷ e ∷ f ∷ g ∷ h ∷ i ∷ []) long = refl
last_four d xs long = absurd (omega arith)

pub last_four_of_eight : (xs : List ℕ) → length xs ≡ 8 →
    get_or xs 4 0 ∷ get_or xs 5 0 ∷ get_or xs 6 0 ∷ get_or xs 7 0 ∷ [] ≡ drop 4 xs
last_four_of_eight xs long = last_four 0 xs long

pub last_four_bursts : (xs : List (List ℤ)) → length xs ≡ 8 →
    get_or xs 4 [] ∷ get_or xs 5 [] ∷ get_or xs 6 [] ∷ get_or xs 7 [] ∷ [] ≡ drop 4 xs
last_four_bursts xs long = last_four [] xs long

pub map_eight : (f : List ℤ → List ℤ) (xs : List (List ℤ)) → length xs ≡ 8 →
    f (get_or xs 0 []) ∷ f (get_or xs 1 []) ∷ f (get_or xs 2 []) ∷ f (get_or xs 3 []) ∷ f (get_or xs 4 []) ∷ f (get_or xs 5 [])
    ∷ f (get_or xs 6 []) ∷ f (get_or xs 7 []) ∷ [] ≡ map f xs
map_eight f (a ∷ b ∷ c ∷ e ∷ g ∷ h ∷ i ∷ j ∷ []) long = refl
map_eight f xs long = absurd (omega arith)
