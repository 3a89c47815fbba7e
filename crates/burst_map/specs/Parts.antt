-- Replacement and borrowing of a slice of a burst.
use Rattle.std.specs.Prelude.{◌≡◌, ℕ, ℤ, ◌+◌, List, ◌++◌, take, drop}
use Rattle.std.specs.Borrow.{Bor}

-- the list `places` with its elements from index `from` up to, but not including, `to` replaced by `part`
abbrev pub with_range_replaced : (places : List ℕ) (from to : ℕ) (part : List ℕ) → List ℕ
with_range_replaced places from to part = take from places ++ (part ++ drop to places)

-- the borrowed list `part` is a slice of the memory of `burst`, and starts at offset `place` in it
abbrev pub IsSliceAtOffset : (place : ℕ) (burst part : Bor (List ℤ)) → Type 0
IsSliceAtOffset place burst part = (part.ref_ptr.0 ≡ burst.ref_ptr.0) × (part.ref_ptr.1 ≡ burst.ref_ptr.1 + place)
