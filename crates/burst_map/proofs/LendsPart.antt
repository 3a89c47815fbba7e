-- A slice of an array is borrowed mutably: the rest of the array is unchanged, and when the borrow ends, the array holds the final values
-- of the slice. This follows from the logic's rule for borrowing elements of a list (`lends_Elements`).
use mathlib.Core.{Path.{◌≡◌, refl, sym, ap, ◌∙◌}, List.{List, [], ◌∷◌, ◌++◌}}
use Prim.Native.Nat.{ℕ, ◌+◌, ◌-◌, ◌^◌, ◌<◌, ◌≤◌}
use native.Mathlib.Omega.{arith}
use lib.ListN.{length, take, drop as drop_list, take-append-drop, length-drop, length-append}
use seplogic.Ra.Ura.{Ura}
use mir.{Syntax.Lifetime, Val.Val}
use base.{Logic.{SProp, ent, sep, ex, guard}, Fml.{Lft, GName, Share, fsep, feq, flft}, Fraction.full_share}
use types.{Logic.{Logic, sem}, Kit.{Item, ‵, ◌⊛◌, raw, given, ◌$◌, ◌∵◌, !, qed, move, drop, fsplit3, updating, await}}
use types.Kit.{later, some, use1, use2, group, pick, now, show, done, rewrite, split, join, check, fsplit, fjoin, feq_l, feq_i}
use types.{SemTy.cells, Mut.open_ref}
use denote.{Builtin.u8, Memory.{mem, part_at}, ArrayMemory.{Array-apart, Array-whole}, Index.{row, whole_in, whole_out}, Ref.MutRef}
use denote.{Array.Array, Slice.{MutSlice, Room, slice_val}, Follow.follows, FollowSlice.{lends_Elements, Elements}}
use Rattle.std.proofs.lemmas.List.{drop-drop}
use borrow.Table.Elements.{at, at_mul, cut_app, join_app, length-take-le}

module _ {M : Type 1} {𝓤 : Ura M} (𝓛 : Logic 𝓤) (ℓ : Lifetime) (κ : Lft) (q : Share) (b o : ℕ) (γ : GName)
    (n from to : ℕ) (xs : List ℕ) (order : from ≤ to) (within : to ≤ n) (small : n < 2 ^ 63) where
  open 𝓛 use {H, A}

  abbrev mid : List ℕ
  mid = take (to - from) (drop_list from xs)

  abbrev around : List ℕ → List ℕ
  around ws = take from xs ++ (ws ++ drop_list to xs)

  abbrev s : ℕ
  s = (mem u8).size

  abbrev p : ℕ
  p = from + o

  -- what the borrow hands out: the slice with its own ghost name, the lifetime token, and the relation between the final values of the
  -- slice and of the array
  abbrev pub part_lent : GName → Item 𝓤
  part_lent δ =
      given (length mid ≡ to - from)
      (‵ ((MutSlice ℓ κ u8).own_val (record { ref_ptr = (b, p); ghost_name = δ; now = mid }) (slice_val (b, p) (length mid) ∷ []))
      ⊛ ‵ (flft κ q) ⊛ ‵ (follows (Array u8 n) (Array u8 0) γ δ around))

  abbrev pub PartLent : GName → SProp 𝓤
  PartLent δ =
      guard 𝓤 (length mid ≡ to - from)
      (sep 𝓤 (sem 𝓛 ((MutSlice ℓ κ u8).own_val (record { ref_ptr = (b, p); ghost_name = δ; now = mid })
      (slice_val (b, p) (length mid) ∷ [])))
      (sep 𝓤 (A.lft κ q) (sem 𝓛 (follows (Array u8 n) (Array u8 0) γ δ around))))

  abbrev Others : SProp 𝓤
  Others = sep 𝓤 (sem 𝓛 (cells (mem u8) (take from xs) b o)) (sem 𝓛 (cells (mem u8) (drop_list to xs) b (at p s (length mid))))

  put_back : length xs ≡ n → (ws : List ℕ) → length ws ≡ length mid
      → ent 𝓤 (sep 𝓤 (sem 𝓛 (cells (mem u8) ws b p)) Others) (sem 𝓛 ((mem (Array u8 n)).own_at (around ws) b o))
  put_back long ws same =
      let front = take from xs in
      let back = drop_list to xs in
      let lf : length front ≡ from = length-take-le from xs (omega arith) in
      let lb : length back ≡ length xs - to = length-drop to xs in
      let lm : length mid ≡ to - from = length-take-le (to - from) (drop_list from xs) (let l = length-drop from xs in omega arith) in
      let on : at o s (length front) ≡ p = at_mul o s (length front) ∙ omega arith in
      let outer : length (around ws) ≡ length front + length (ws ++ back) = length-append front (ws ++ back) in
      let inner : length (ws ++ back) ≡ length ws + length back = length-append ws back in
      qed 𝓛 (‵ (cells (mem u8) ws b p) ∷ ‵ (cells (mem u8) front b o) ∷ ‵ (cells (mem u8) back b (at p s (length mid))) ∷ [])
      ∵
      rewrite ! 2 (λ (k : ℕ). ‵ (cells (mem u8) back b (at p s k))) (sym same) refl $ move ! (0 ∷ 2 ∷ []) $
      use2 𝓛 (‵ (cells (mem u8) (ws ++ back) b p)) (join_app 𝓛 (mem u8) ws back b p) $
      rewrite ! 0 (λ (k : ℕ). ‵ (cells (mem u8) (ws ++ back) b k)) (sym on) refl $ move ! (1 ∷ 0 ∷ []) $
      use2 𝓛 (‵ (cells (mem u8) (around ws) b o)) (join_app 𝓛 (mem u8) front (ws ++ back) b o) $
      use1 𝓛 (‵ (row u8 full_share (around ws) b o)) (whole_out 𝓛 u8 (around ws) b o) $
      feq_i ! ℕ (length (around ws)) n (omega arith) $ fjoin ! $
      use1 𝓛 (‵ (part_at (Array u8 n) full_share (around ws) b o)) (Array-whole 𝓛 u8 full_share n (around ws) b o) $ done !

  pub lends_part : (vs : List Val)
      → ent 𝓤 (sep 𝓤 (sem 𝓛 ((MutRef ℓ κ (Array u8 n)).own_val (record { ref_ptr = (b, o); ghost_name = γ; now = xs }) vs))
      (A.lft κ q))
      (H.⇛ (ex 𝓤 PartLent))
  lends_part vs =
      let front = take from xs in
      let back = drop_list to xs in
      qed 𝓛 (‵ ((MutRef ℓ κ (Array u8 n)).own_val (record { ref_ptr = (b, o); ghost_name = γ; now = xs }) vs) ∷ ‵ (flft κ q)
      ∷ []) ∵ updating ! $ fsplit3 ! $ drop ! $
      open_ref ! tt (mem (Array u8 n)) {b = b} {o = o} $
      use1 𝓛 (‵ (fsep (feq ℕ (length xs) n) (row u8 full_share xs b o))) (Array-apart 𝓛 u8 full_share tt n xs b o) $
      fsplit ! $ feq_l ! (λ long. use1 𝓛 (‵ (cells (mem u8) xs b o)) (whole_in 𝓛 u8 xs b o) $
      let lf : length front ≡ from = length-take-le from xs (omega arith) in
      let lm : length mid ≡ to - from = length-take-le (to - from) (drop_list from xs) (let l = length-drop from xs in omega arith) in
      let on : at o s (length front) ≡ p = at_mul o s (length front) ∙ omega arith in
      let past : drop_list (to - from) (drop_list from xs) ≡ back = drop-drop (to - from) from xs
      ∙ ap (λ (k : ℕ). drop_list k xs) (omega arith) in
      let cut : xs ≡ front ++ (mid ++ back) =
      sym (take-append-drop from xs)
      ∙ ap (λ (l : List ℕ). front ++ l) (sym (take-append-drop (to - from) (drop_list from xs))
      ∙ ap (λ (l : List ℕ). mid ++ l) past) in
      let room : Room u8 (length mid) = (omega arith, omega arith) in
      let code = (Array u8 n).coded.code xs in
      rewrite ! 0 (λ (l : List ℕ). ‵ (cells (mem u8) l b o)) cut refl $
      use1 𝓛 (‵ (cells (mem u8) front b o) ⊛ ‵ (cells (mem u8) (mid ++ back) b (at o s (length front))))
      (cut_app 𝓛 (mem u8) front (mid ++ back) b o) $
      split ! $ move ! (1 ∷ []) $ rewrite ! 0 (λ (k : ℕ). ‵ (cells (mem u8) (mid ++ back) b k)) on refl $
      use1 𝓛 (‵ (cells (mem u8) mid b p) ⊛ ‵ (cells (mem u8) back b (at p s (length mid)))) (cut_app 𝓛 (mem u8) mid back b p) $
      split ! $ move ! (2 ∷ 1 ∷ []) $ join ! $ move ! (2 ∷ 3 ∷ 4 ∷ 1 ∷ 0 ∷ []) $ group ! 5 $
      use1 𝓛 (later (some (λ (δ : GName). raw (Elements 𝓛 (Array u8 n) u8 around ℓ κ q b o b p γ mid room Others (put_back long)
      δ))))
      (lends_Elements 𝓛 (Array u8 n) u8 around ℓ κ q b o b p γ mid room Others (put_back long) code code) $
      await ! tt $ pick ! (λ δ. now ! $ show ! PartLent δ $ check ! lm $ done !))
