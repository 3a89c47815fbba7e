use Rattle.{
  std.proofs.Common.{◌≡◌, ◌++◌, ◌∷◌, arith, sym, ap, subst, ◌∙◌, ℕ, List, []},
  um_link.specs.{Naming.{spec_role_of, spec_event_of, spec_answer_of, result_with_step}, um_air.Air.Answer},
  um_end.{
    specs.{Abstraction.{Represents, role_of_terminal}, EndLines.{TakesBurst, Calls, Nothing}, EndRuns.{answer_to_burst, end_answer_text}},
    specs.Terminals.{SideState, answer_to_call},
    proofs.{AnswerSizes.{IsShort, call_short}, EndSteps.{line_answered, line_refused}},
  },
}
use Rattle.um_end.proofs.command.EndCommandCommand.answer.Goals as goal

pub returns-in-Skip-clause-answered : goal.returns-in-Skip-clause-answered
returns-in-Skip-clause-answered c s st = (
  s,
  line_answered c.args.self.now s c.count.result c.args.line.now _ Nothing s st c.count.ensures.count
      (rw c.in-Skip.is at c.in-Ok.ensures.means) (ap (λ (text : List ℕ). (text, s)) c.requires.empty),
  record { role = st.role; tsc = st.tsc; links = st.links; held_bursts = st.held_bursts },
)

pub returns-in-Burst-clause-answered : goal.returns-in-Burst-clause-answered
returns-in-Burst-clause-answered c s st =
    let next = answer_to_burst s c.in-Burst.burst in
    let f = c.add_burst_to_block.ensures.answers s
    (record { role = st.role; tsc = st.tsc; links = st.links; held_bursts = st.held_bursts }) in (
      next.1,
      line_answered c.args.self.now s c.count.result c.args.line.now _ (TakesBurst c.in-Burst.burst) next.1 st c.count.ensures.count
          (rw c.in-Burst.is at c.in-Ok.ensures.means) (ap (λ (text : List ℕ). (text, next.1)) f.0),
      f.1,
    )

pub returns-in-Ask-clause-answered : goal.returns-in-Ask-clause-answered
returns-in-Ask-clause-answered c s st =
    let event = spec_event_of c.in-Ask.event in
    let answer : Answer = spec_answer_of (result_with_step c.ask_into-done.result c.ask_into-done.new.step) in
    let next = answer_to_call s.role s.links event in
    let f : Represents c.ask_into-done.new.self next.0 × (answer ≡ next.1) =
    subst (λ (next : SideState × Answer). Represents c.ask_into-done.new.self next.0 × (answer ≡ next.1))
    (ap (λ role. answer_to_call role s.links event) (sym st.role)) (c.ask_into-done.ensures.refines s.links st.links) in
    let tsc : c.ask_into-done.new.self.tsc ≡ s.tsc = c.ask_into-done.ensures.same.tsc ∙ sym st.tsc in (
      record s { links = next.0 },
      line_answered c.args.self.now s c.count.result c.args.line.now _ (Calls event) (record s { links = next.0 }) st
          c.count.ensures.count (rw c.in-Ask.is at c.in-Ok.ensures.means)
          (ap (λ (text : List ℕ). (text, record s { links = next.0 }))
          (c.write_answer.ensures.text ∙ ap (λ t. end_answer_text t answer) tsc ∙ ap (λ a. end_answer_text s.tsc a) f.1)),
      record {
        role = st.role ∙ ap spec_role_of (sym c.ask_into-done.ensures.same.side);
        tsc = sym tsc;
        links = f.0;
        held_bursts = st.held_bursts;
      },
    )

pub returns-in-Ask-clause-size : goal.returns-in-Ask-clause-size
returns-in-Ask-clause-size c s st =
    let f = c.ask_into-done.ensures.refines s.links st.links in
    let short = subst IsShort (sym f.1) (call_short (role_of_terminal c.args.self.now.terminal) s.links (spec_event_of c.in-Ask.event)
    (rw f.1 at c.write_answer.ensures.whole) (rw f.1 at c.write_answer.ensures.lines)) in
    omega (arith, short, c.write_answer.ensures.length)

pub returns-in-Err-clause-answered : goal.returns-in-Err-clause-answered
returns-in-Err-clause-answered c s st = (
  line_refused c.args.self.now s c.count.result c.args.line.now c.in-Err.fault st c.count.ensures.count c.in-Err.ensures.refused,
  c.requires.empty,
  record { role = st.role; tsc = st.tsc; links = st.links; held_bursts = st.held_bursts },
)
