use Rattle.{
  std.proofs.{Common.{arith, length-drop, length-take, sym, take-append-drop, ◌∙◌}, KnownBytes.Appends-kept},
  std.{proofs.lemmas.Result.MatchResult-from_err, specs.Io.KnownBytes.Appends},
  um_driver.specs.Table.SinkTakesPrefix,
  um_io.proofs.Reader.Appends-front,
}
use Rattle.um_driver.proofs.writing.put_all.Goals as goal

pub returns-in_err-written-clause-taken : goal.returns-in_err-written-clause-taken
returns-in_err-written-clause-taken g c =
    MatchResult-from_err c.from_residual.result
    (λ _. Appends (g.K.Sink.taken c.args.output.now) (g.K.Sink.taken c.put.new.self) c.args.piece.now)
    (λ _. SinkTakesPrefix (g.K.Sink.taken c.args.output.now) (g.K.Sink.taken c.put.new.self) c.args.piece.now)
    c.from_residual.ensures.0
    (λ _. (
      _,
      (_, sym (take-append-drop c.loop-written.written c.args.piece.now)),
      Appends-kept _ _ _ _ c.loop-written.invariant.front c.in_err-written.ensures.octets,
    ))

pub loop-written-preserved : goal.loop-written-preserved
loop-written-preserved g c = record {
  bound = omega (arith, simp (length-take, length-drop) at c.in_ok-written.ensures.bound);
  front = Appends-front _ _ _ _ _ _ c.loop-written.invariant.front c.in_ok-written.ensures.octets;
  kept = c.in_ok-written.ensures.unchanged ∙ c.loop-written.invariant.kept;
}
