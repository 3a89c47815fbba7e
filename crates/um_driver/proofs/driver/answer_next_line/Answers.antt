use Rattle.um_driver.proofs.Runs.{line_answered, line_refused, end_good, end_refused, long_refused, ends_too_long, ends_failed}
use Rattle.um_driver.proofs.driver.answer_next_line.Goals as goal

pub returns-in-Ok-clause-comes : goal.returns-in-Ok-clause-comes
returns-in-Ok-clause-comes g c = λ _ _ _ _ _ before ready.
    line_answered before ready (rw c.in-Line.is at c.next.follows.holds-at-none) c.in-Ok.ensures.answered

pub returns-in-Err-clause-comes : goal.returns-in-Err-clause-comes
returns-in-Err-clause-comes g c = λ _ _ _ _ _ before ready. rw c.write_refusal.ensures.status
    (line_refused before ready (rw c.in-Line.is at c.next.follows.holds-at-none) c.number.ensures c.write_refusal.ensures.text
    c.in-Err.ensures.answered)

pub returns-in-None-clause-comes : goal.returns-in-None-clause-comes
returns-in-None-clause-comes g c = λ _ _ _ _ _ before ready.
    end_good before ready (rw c.in-End.is at c.next.follows.holds-at-none) c.in-None.is c.requires c.finish.ensures

pub returns-in-Some-clause-comes : goal.returns-in-Some-clause-comes
returns-in-Some-clause-comes g c = λ _ _ _ _ _ before ready. rw c.write_refusal-in-Some.ensures.status
    (end_refused before ready (rw c.in-End.is at c.next.follows.holds-at-none) c.number-in-Some.ensures c.write_refusal-in-Some.ensures.text
    c.in-Some.is c.finish.ensures)

pub returns-in-Long-clause-comes : goal.returns-in-Long-clause-comes
returns-in-Long-clause-comes g c = λ _ _ _ _ _ before ready. rw c.write_refusal-in-Long.ensures.status
    (long_refused before ready (rw c.in-Long.is at c.next.follows.holds-at-none) c.number-in-Long.ensures
    c.write_refusal-in-Long.ensures.text)

pub returns-in-TooMany-clause-comes : goal.returns-in-TooMany-clause-comes
returns-in-TooMany-clause-comes g c = λ _ _ _ _ _ before ready.
    ends_too_long before ready (rw c.in-TooMany.is at c.next.follows.holds-at-none) c.requires

pub returns-in-Failed-clause-comes : goal.returns-in-Failed-clause-comes
returns-in-Failed-clause-comes g c = λ _ _ _ _ _ before ready.
    ends_failed before ready (rw c.in-Failed.is at c.next.follows.holds-at-none)
