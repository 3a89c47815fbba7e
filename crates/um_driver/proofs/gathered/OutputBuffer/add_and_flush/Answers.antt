use Rattle.{
  std.proofs.{Common.{Err, List, Ok, Option, Result, append_assoc, ℕ, ◌++◌}, KnownBytes.Appends-trans},
  um_driver.specs.Writing.{BuffersUnwrittenText, SinkTakesTextIfOk},
}
use Rattle.um_driver.proofs.gathered.OutputBuffer.add_and_flush.Goals as goal

-- if a prefix of the text was written first and then the rest, all of the text was written
prefix_then_rest : {T E : Type 0} (text rest : List ℕ) (taken mid taken' : Option (List ℕ)) (result : Result T E) →
    BuffersUnwrittenText text rest taken mid → SinkTakesTextIfOk mid taken' result rest → SinkTakesTextIfOk taken taken' result text
prefix_then_rest text rest taken mid taken' (Ok _) (w, text_is, written) then = rw text_is
    (Appends-trans taken mid taken' w rest written then)
prefix_then_rest text rest taken mid taken' (Err _) (w, text_is, written) (v, (more, rest_is), then) = (
  w ++ v,
  (more, rw (text_is, rest_is, append_assoc)),
  Appends-trans taken mid taken' w v written then,
)

pub returns-clause-taken : goal.returns-clause-taken
returns-clause-taken g c = prefix_then_rest _ _ _ _ _ _ c.in_ok-add.ensures.gathers c.flush.ensures.taken
