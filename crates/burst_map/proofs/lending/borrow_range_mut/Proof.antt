-- `borrow_range_mut` creates the reference to the slice and borrows it by `lends_part`.
use mathlib.Core.{Path.refl, List.{List, [], ◌∷◌}}
use Prim.Native.Nat.{ℕ, ◌+◌, ◌-◌, ◌^◌, ◌<◌, ◌≤◌}
use native.Mathlib.Omega.{arith}
use lib.ListN.{take, drop as drop_list}
use seplogic.Ra.Ura.{Ura}
use mir.{Syntax.{Args, Fn, named, w64, a_number}, MapTy.inst_fn, Val.{Val, vptr, vint}}
use base.{Logic.{SProp, ent}, Fml.{Lft, GName, Share, ftrue, flft}}
use prog.{Memory.{Memory, size}, Routine.Routine, Wp.{Env, Calls, Loops, WpFn, Tables}}
use types.{Logic.Logic, Kit.{‵, ◌⊛◌, raw, given, some, later, ◌$◌, ◌∵◌, !, qed, by, move, keep, drop, split, split3}}
use types.{Kit.{join, learn, fsplit, fjoin, use2, await, pick, suffices, frame, done, rewrite}, Part.agg, Run.{stop, addr, bin, and_then}}
use types.{Run.{no_more, returns, enter}, ByLocal.{alloc_all, pass_all, free_all, look_at, get, through, sets, env}}
use contract.{BorrowLft.◌⊑◌, Lifetimes.AllOutlive, Monad.Fun, Running.{tables, tables_of}}
use sound.WpLaws.{WpFn-mono}
use denote.{Builtin.{u8, usize, RefMutOf}, Exit.{yes, no}, Param.{param, number, layout, layouts, ArrayAt}, Plain.{uint_vals, uint_Tells}}
use denote.{RattleType.{RattleType, owns}, Ref.{MutBor, MutRef, mut_vals, mut_Tells}, Signature.plain, Slice.{MutSlice, slice_val}}
use denote.{Steps.nothing, Triple.{Clauses.{Clauses, Ended, closing}, Entry.on_entry, Spec.{Meets, triple_of}, Table.entered, Walked.says}}
use denote.Triple.Walked.{Stays, stay_dropped, walk_of, ends_at, walked, Goes-spent_ref, Goes-dropped, walk_Meets}
use Rattle.burst_map.{proofs.LendsPart.{part_lent, lends_part}, specs.contracts.lending.borrow_range_mut.Key.name as #self}
use Rattle.burst_map.specs.contracts.lending.borrow_range_mut as F
use Rattle.burst_map.proofs.lending.borrow_range_mut.Statement as stated
use Rattle.burst_map.proofs.lending.borrow_range_mut.Code as code

module _ (n : ℕ) where
  abbrev args : Args
  args = layouts (a_number ∷ []) (number n, tt)

  abbrev function : Fn
  function = inst_fn args code.function

  abbrev S : RattleType
  S = ArrayAt u8 (param 0 (number n))

  abbrev ended : Ended
  ended = F.ended (number n)

  abbrev stayed : Stays ended.signature.params ended.kept
  stayed = (
    stay_dropped (RefMutOf (0 ∷ []) tt (plain (λ _. S)) (λ _. tt)) no,
    (stay_dropped (plain (λ _. usize)) yes, (stay_dropped (plain (λ _. usize)) yes, tt)),
  )

module _ (n : ℕ) {M : Type 1} {𝓤 : Ura M} (𝓛 : Logic 𝓤) (at_mem : Memory → SProp 𝓤) (run : Routine → Fun 𝓤) where
  open 𝓛 use {H}

  abbrev clauses : Clauses 𝓤 (ended n)
  clauses = F.clauses (number n) 𝓛 at_mem run

  module _ (C : Calls 𝓤 H) (Λ : Loops 𝓤 H) (κ κN : Lft) (q qN : Share)
      (bd : AllOutlive 2 (ended n).signature.outlives (κ, (κN, tt)))
      (b o : ℕ) (γ : GName) (xs : List ℕ) (from to : ℕ) where
    abbrev self : MutBor (List ℕ)
    self = record { ref_ptr = (b, o); ghost_name = γ; now = xs }

    abbrev bound : (walk_of 𝓛 (ended n) (stayed n) clauses).Ghost
    bound = (
      ((κ, (κN, tt)), (q, (qN, tt)), bd, (self, (from, (to, tt))), (mut_vals self, (vint w64 from ∷ [], (vint w64 to ∷ [], tt)))),
      tt,
    )

    abbrev Post : Val → SProp 𝓤
    Post = (walk_of 𝓛 (ended n) (stayed n) clauses).post bound

    walk : from < 2 ^ 64 → to < 2 ^ 64 → from ≤ to → to ≤ n → n < 2 ^ 63 →
        ent 𝓤 (on_entry 𝓛 (ended n).signature (κ, (κN, tt)) (q, (qN, tt)) (self, (from, (to, tt)))
        (mut_vals self, (vint w64 from ∷ [], (vint w64 to ∷ [], tt))))
        (WpFn 𝓤 H C Λ (function n) (vptr b o ∷ vint w64 from ∷ vint w64 to ∷ []) Post)
    walk ff ft order within small =
        let part : List ℕ = take (to - from) (drop_list from xs) in
        let fits : to - from < 2 ^ 64 = omega arith in
        qed 𝓛 ((‵ (flft κ q) ⊛ ‵ (flft κN qN) ⊛ ‵ ftrue) ∷ ‵
        (owns (MutRef (named 0) κ (S n) ∷ usize ∷ usize ∷ []) (self, (from, (to, tt)))
        (mut_vals self, (vint w64 from ∷ [], (vint w64 to ∷ [], tt)))) ∷ []) ∵ enter ! C Λ (function n)
        (vptr b o ∷ vint w64 from ∷ vint w64 to ∷ []) _ $
        alloc_all ! (λ l. pass_all ! refl ((tt, tt), ((tt, record { fits = ff }), ((tt, record { fits = ft }), tt))) $
        let En : Env 𝓤 H = env (function n).locals l in
        sets ! (addr ! (through ! refl (stop !))) refl (tt, tt) $
        sets ! (bin ! (get ! refl) (get ! refl) tt) refl (tt, tt) $
        sets ! (bin ! (get ! refl) (get ! refl) order) refl (tt, record { fits = fits }) $
        sets ! (addr ! (through ! refl (stop !))) refl (tt, tt) $
        sets ! (agg ! (and_then ! (get ! refl) (and_then ! (get ! refl) (no_more !)))) refl (tt, (tt, (record { fits = fits }, tt))) $
        split ! $ move ! (2 ∷ []) $ fsplit ! $ move ! (0 ∷ 2 ∷ []) $
        use2 𝓛 (later (some (part_lent 𝓛 (named 0) κ q b o γ n from to xs order within small)))
        (lends_part 𝓛 (named 0) κ q b o γ n from to xs order within small (vptr b o ∷ [])) $ await ! tt $
        pick ! (λ δ. learn ! (λ long.
        returns ! (look_at ! 0 refl) $ free_all ! refl $ keep ! (0 ∷ 2 ∷ []) $ split3 ! $
        let borrowed : MutBor (List ℕ) = record { ref_ptr = (b, from + o); ghost_name = δ; now = part } in
        rewrite ! 0 (λ (k : ℕ). ‵ ((MutSlice (named 0) κ u8).own_val borrowed (slice_val (b, from + o) k ∷ []))) long refl $
        suffices ! _ (ends_at 𝓛 (ended n) (stayed n) clauses bound (slice_val (b, from + o) (to - from)) borrowed (tt, (tt, (tt, tt)))
        (tt, (tt, (tt, tt)))) $
        nothing ! $ nothing ! $ fjoin ! $ nothing ! $ fjoin ! $ nothing ! $ fjoin ! $ join ! $ move !
        (1 ∷ 3 ∷ []) $ join ! $ join ! $ frame ! $ says ! (refl, long) $ done !)))

  meets : (𝓣 : Tables 𝓤 H) → Meets 𝓛 (ended n).signature (WpFn 𝓤 H 𝓣.C 𝓣.Λ (function n))
      (closing 𝓛 (ended n) clauses)
  meets 𝓣 =
      walk_Meets 𝓛 (ended n) (stayed n) (
        Goes-spent_ref 𝓛 2 (0 ∷ []) tt (plain (λ _. S n)),
        (
          Goes-dropped 𝓛 2 (plain (λ _. usize)) yes (λ κs x f. refl),
          (Goes-dropped 𝓛 2 (plain (λ _. usize)) yes (λ κs x f. refl), tt),
        ),
      )
      clauses (WpFn 𝓤 H 𝓣.C 𝓣.Λ (function n)) (WpFn-mono 𝓤 H 𝓛.laws 𝓣 (function n))
      (walked 𝓛 (ended n) (stayed n) clauses (WpFn 𝓤 H 𝓣.C 𝓣.Λ (function n))
      (λ κs. (mut_vals, (uint_vals w64, (uint_vals w64, tt))))
      (λ κs. (mut_Tells (named 0) κs.0 (S n), (uint_Tells w64, (uint_Tells w64, tt))))
      (λ κs qs bounds a g are.
      qed 𝓛 (raw (on_entry 𝓛 (ended n).signature κs qs a (mut_vals a.0, (vint w64 a.1.0 ∷ [], (vint w64 a.1.1.0 ∷ [], tt))))
      ∷ (given (κs.1.0 ⊑ (number n).lives) (‵ ftrue) ⊛ given (size (layout (S n)) < 2 ^ 63) (‵ ftrue) ⊛ given
      (a.1.0 ≤ a.1.1.0)
      (‵ ftrue) ⊛ given (a.1.1.0 ≤ n) (‵ ftrue)) ∷ []) ∵
      move ! (1 ∷ []) $ split3 ! $ drop ! $ learn ! (λ small. drop ! $ split ! $ learn ! (λ order. drop ! $ learn ! (λ within. drop ! $
      by ! (walk 𝓣.C 𝓣.Λ κs.0 κs.1.0 qs.0 qs.1.0 bounds a.0.ref_ptr.0 a.0.ref_ptr.1 a.0.ghost_name a.0.now a.1.0 a.1.1.0 are.1.0.1
      are.1.1.0.1 order within (omega arith)))))))

pub borrow_range_mut_spec : {M : Type 1} → stated.statement M
unfolding tables_of
borrow_range_mut_spec 𝓤 𝓛 𝓜 𝓡 wired n fits =
    let A = 𝓛.A in
    let 𝓣 : Tables 𝓤 𝓛.H = tables_of 𝓤 𝓛.H 𝓜 (tables 𝓤 𝓛.H 𝓜 𝓡 𝓡.env) in
    entered 𝓤 𝓛.H (triple_of 𝓛 (ended n).signature (F.spec (number n) 𝓛 𝓜.mem 𝓡.returns)) 𝓣.C 𝓣.Λ (#self (args n))
    (function n)
    (code.unfolded 𝓤 𝓛.H 𝓜 𝓡 wired (number n, tt))
    (meets n 𝓛 𝓜.mem 𝓡.returns 𝓣)
