-- One list is a subsequence of another, as an inductive type.
use Rattle.{
  lapdm_link.specs.Claims.IsSubsequence,
  lapdm_window.specs.segmenting.Segments.Message,
  std.proofs.Common.{List, [], inl, inr, refl, ◌++◌, ◌∷◌},
}

pub data IsSub {A : Type 0} : List A → List A → Type 0 where
  empty : IsSub [] []
  kept : {x : A} {xs ys : List A} → IsSub xs ys → IsSub (x ∷ xs) (x ∷ ys)
  dropped : {x : A} {xs ys : List A} → IsSub xs ys → IsSub xs (x ∷ ys)

pub subsequence : {xs ys : List Message} → IsSub xs ys → IsSubsequence xs ys
subsequence empty = refl
subsequence (kept h) = inl (refl, subsequence h)
subsequence (dropped {xs = []} h) = tt
subsequence (dropped {xs = x ∷ xs} h) = inr (subsequence h)

module _ {A : Type 0} where
  pub none : (ys : List A) → IsSub [] ys
  none [] = empty
  none (y ∷ ys) = dropped (none ys)

  pub all : (xs : List A) → IsSub xs xs
  all [] = empty
  all (x ∷ xs) = kept (all xs)

  pub front : (xs ys : List A) → IsSub xs (xs ++ ys)
  front [] ys = none ys
  front (x ∷ xs) ys = kept (front xs ys)

  pub append : {xs ys us vs : List A} → IsSub xs ys → IsSub us vs → IsSub (xs ++ us) (ys ++ vs)
  append empty g = g
  append (kept h) g = kept (append h g)
  append (dropped h) g = dropped (append h g)

  pub trans : {xs ys zs : List A} → IsSub xs ys → IsSub ys zs → IsSub xs zs
  trans h empty = h
  trans {xs = x ∷ xs} (kept h) (kept g) = kept (trans {xs = xs} h g)
  trans (dropped h) (kept g) = dropped (trans h g)
  trans h (dropped g) = dropped (trans h g)
