use Rattle.{
  std.proofs.{
    Common.{ap, arith, drop, get_or, subst, sym, take, ◌*◌, ◌/◌, ◌^◌, ◌+◌, ◌++◌, ◌∙◌, ◌≡◌, ℕ},
    lemmas.{List.{drop-drop, drop-set-lt, get_or-drop, take-append-drop}, Nat.and_mask},
  },
  trellis_decode.specs.Trellis.traceback,
  list_decode.proofs.DeviatingWords.{traceback-after_four, traceback-more},
}
use Rattle.list_decode.proofs.deviation.replace_until_merged.Goals as goal

pub loop-i-preserved : goal.loop-i-preserved
loop-i-preserved c =
    let rows = c.args.rows.now in
    let u = c.loop-i.u in
    let n = 4 * c.loop-group.group + c.loop-i.i in
    let next : n + 1 ≡ 4 * c.loop-group.group + (c.loop-i.i + 1) = omega arith in
    record {
      small = omega arith;
      list = traceback-more rows u n _ c.loop-i.state _ next (omega arith) (omega arith)
          (and_mask (get_or rows n 0 / 2 ^ c.loop-i.state) 1)
          ∙ c.loop-i.invariant.list;
      rest = drop-set-lt _ u n _ (omega arith) ∙ ap (λ k. drop k u) (sym next) ∙ sym (drop-drop 1 n u)
          ∙ ap (drop 1) c.loop-i.invariant.rest ∙ drop-drop 1 n c.args.u.now ∙ ap (λ k. drop k c.args.u.now) next;
    }

pub returns-then-state-old_state : goal.returns-then-state-old_state
returns-then-state-old_state c =
    let rows = c.args.rows.now in
    let u = c.args.u.now in
    let front = 4 * c.loop-group.group in
    let end : front + c.loop-i.i ≡ front + 4 = let test = c.loop-i-test.false in let i = c.loop-i.auto.i-end in omega arith in
    let old = c.requires.chosen in
    let as_before : (j : ℕ) → get_or c.loop-group.u (front + j) 0 ≡ get_or u (front + j) 0 =
    λ j. sym (get_or-drop front c.loop-group.u j 0) ∙ ap (λ rest. get_or rest j 0) c.loop-group.invariant.rest
    ∙ get_or-drop front u j 0 in
    let zeroth : get_or c.loop-group.u front 0 ≡ get_or u front 0 =
    subst (λ k. get_or c.loop-group.u k 0 ≡ get_or u k 0) (omega arith) (as_before 0) in
    let first = as_before 1 in
    let second = as_before 2 in
    let third = as_before 3 in
    let same = c.if-state-old_state.true in
    let merged : drop (front + c.loop-i.i) c.loop-i.u ≡ traceback (drop (front + c.loop-i.i) rows) c.loop-i.state =
    c.loop-i.invariant.rest
    ∙ traceback-after_four rows u old.0 front (front + c.loop-i.i) c.loop-i.state old.1 (sym end) (omega arith) (omega arith) in
    sym (take-append-drop (front + c.loop-i.i) c.loop-i.u)
    ∙ ap (λ rest. take (front + c.loop-i.i) c.loop-i.u ++ rest) merged
    ∙ c.loop-i.invariant.list
