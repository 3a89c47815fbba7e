use Rattle.{
  std.proofs.{Common.{ap, arith, length, nat_eq, sym, true, ℕ, ◌≡◌, ◌∙◌}, lemmas.Bool.{Decides.nat_tests, false≢true}},
  um_air.specs.segmenting.Buffers.octets_in_buffer,
  um_c.proofs.Establishing.{opening-IsProgramRun, was-asked, asked-one, was-answered, answered-one, was-opened, allowed-exchange},
  um_c.proofs.Establishing.both-open,
}
use Rattle.um_c.proofs.opening.open_link.Goals as goal

is_zero : (n : ℕ) → nat_eq n 0 ≡ true → n ≡ 0
is_zero n h = grind (arith, nat_tests)

-- `open_link` returns early only if a call does not return 0 or does not send exactly one block
pub returns-then-um_end_open-ne0-clause-succeeds_from_idle : goal.returns-then-um_end_open-ne0-clause-succeeds_from_idle
returns-then-um_end_open-ne0-clause-succeeds_from_idle c = λ e f mobile network allowed.
    absurd (c.if-um_end_open-ne0.true (was-asked mobile network allowed c.um_end_open.ensures.answers_call).answer_is_0)

pub returns-then-um_end_open-ne0-clause-opens : goal.returns-then-um_end_open-ne0-clause-opens
returns-then-um_end_open-ne0-clause-opens c = λ e f mobile network idle.
    absurd (false≢true (returns-then-um_end_open-ne0-clause-succeeds_from_idle c e f mobile network (allowed-exchange idle)))

pub returns-then-asked-ne1-clause-succeeds_from_idle : goal.returns-then-asked-ne1-clause-succeeds_from_idle
returns-then-asked-ne1-clause-succeeds_from_idle c = λ e f mobile network allowed.
    absurd (c.if-asked-ne1.true (asked-one mobile network allowed c.um_end_open.ensures.answers_call))

pub returns-then-asked-ne1-clause-opens : goal.returns-then-asked-ne1-clause-opens
returns-then-asked-ne1-clause-opens c = λ e f mobile network idle.
    absurd (false≢true (returns-then-asked-ne1-clause-succeeds_from_idle c e f mobile network (allowed-exchange idle)))

pub returns-then-um_end_take-ne0-clause-succeeds_from_idle : goal.returns-then-um_end_take-ne0-clause-succeeds_from_idle
returns-then-um_end_take-ne0-clause-succeeds_from_idle c = λ e f mobile network allowed.
    absurd (c.if-um_end_take-ne0.true (was-answered mobile network allowed c.um_end_open.ensures.answers_call c.first_block.ensures.value
    c.um_end_take.ensures.answers_block).answer_is_0)

pub returns-then-um_end_take-ne0-clause-opens : goal.returns-then-um_end_take-ne0-clause-opens
returns-then-um_end_take-ne0-clause-opens c = λ e f mobile network idle.
    absurd (false≢true (returns-then-um_end_take-ne0-clause-succeeds_from_idle c e f mobile network (allowed-exchange idle)))

pub returns-then-answered-ne1-clause-succeeds_from_idle : goal.returns-then-answered-ne1-clause-succeeds_from_idle
returns-then-answered-ne1-clause-succeeds_from_idle c = λ e f mobile network allowed.
    absurd (c.if-answered-ne1.true (answered-one mobile network allowed c.um_end_open.ensures.answers_call c.first_block.ensures.value
    c.um_end_take.ensures.answers_block))

pub returns-then-answered-ne1-clause-opens : goal.returns-then-answered-ne1-clause-opens
returns-then-answered-ne1-clause-opens c = λ e f mobile network idle.
    absurd (false≢true (returns-then-answered-ne1-clause-succeeds_from_idle c e f mobile network (allowed-exchange idle)))

pub returns-clause-succeeds_from_idle : goal.returns-clause-succeeds_from_idle
returns-clause-succeeds_from_idle c = λ e f mobile network allowed.
    let done = was-opened mobile network allowed c.um_end_open.ensures.answers_call c.first_block.ensures.value
    c.um_end_take.ensures.answers_block
    c.first_block-2.ensures.value c.um_end_take-2.ensures.answers_block in
    ap (λ n. nat_eq n 0) done.answer_is_0

pub returns-clause-opens : goal.returns-clause-opens
returns-clause-opens c = λ e f mobile network idle.
    both-open idle mobile network c.um_end_open.ensures.answers_call c.first_block.ensures.value c.um_end_take.ensures.answers_block
    c.first_block-2.ensures.value c.um_end_take-2.ensures.answers_block

pub returns-clause-run : goal.returns-clause-run
returns-clause-run c =
    let asked = c.first_block.ensures in
    let answered = c.first_block-2.ensures in
    λ ok channel.
    opening-IsProgramRun channel (octets_in_buffer c.args.info.now)
    (record {
      answer_is_0 = c.if-um_end_open-ne0.false;
      count = c.if-asked-ne1.false;
      capacity = asked.space;
      size = ap length (sym asked.value) ∙ asked.size;
    })
    (record {
      answer_is_0 = c.if-um_end_take-ne0.false;
      count = c.if-answered-ne1.false;
      capacity = answered.space;
      size = ap length (sym answered.value) ∙ answered.size;
    })
    (is_zero c.um_end_take-2.result ok) c.um_end_open.ensures.answers_call (rw asked.value at c.um_end_take.ensures.answers_block)
    (rw answered.value at c.um_end_take-2.ensures.answers_block)
