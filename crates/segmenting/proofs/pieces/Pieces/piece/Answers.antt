use Rattle.{std.proofs.Common.arith, segmenting.proofs.Lemmas.{begins_at, slice_get-n201}}
use Rattle.segmenting.proofs.pieces.Pieces.piece.Goals as goal

pub overflow_mul-start : goal.overflow_mul-start
overflow_mul-start c =
    let p = c.args.self.now in
    omega (arith, begins_at _ _ _ _ c.n201-most.ensures p.nonempty c.requires, p.at_most)

pub overflow_sub-left : goal.overflow_sub-left
overflow_sub-left c =
    omega (arith, begins_at _ _ _ _ c.n201-most.ensures (c.args.self.now).nonempty c.requires)

pub overflow_add-result : goal.overflow_add-result
overflow_add-result c =
    let p = c.args.self.now in
    omega (arith, begins_at _ _ _ _ c.n201-most.ensures p.nonempty c.requires, p.at_most)

pub slice_bounds-result-end : goal.slice_bounds-result-end
slice_bounds-result-end c =
    omega (arith, begins_at _ _ _ _ c.n201-most.ensures (c.args.self.now).nonempty c.requires)

pub returns-clause-value : goal.returns-clause-value
returns-clause-value c =
    let p = c.args.self.now in
    slice_get-n201 _ _ _ _ _ c.n201-most.ensures c.min.ensures (omega arith) c.requires
