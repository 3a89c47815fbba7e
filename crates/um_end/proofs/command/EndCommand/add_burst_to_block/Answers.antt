use Rattle.{
  std.proofs.Common.{All, ◌≡◌, ◌<◌, ℤ, List, [], ◌∷◌, ◌++◌, length, sym, ap, subst, ◌∙◌, rules, arith},
  std.proofs.lemmas.Bool.{le-leb, lt-leb},
  um_link.specs.{Naming.{spec_role_of, spec_step_of}, um_air.Air.{Accepts, Step}, um_block.Computed.received_block},
  um_end.specs.{Abstraction.{Represents, role_of_terminal}, EndRuns.end_answer_text, Terminals.{SideState, answer_to_block}},
  um_end.proofs.{AnswerSizes.{IsBlock, IsShort, block_short}, EndSteps.ReceivesBursts-received},
  um_script.specs.AnswerLines.answer_text,
}
use Rattle.um_end.proofs.command.EndCommand.add_burst_to_block.Goals as goal

pub returns-then-add : goal.returns-then-add
returns-then-add c = record {
  answers = λ s st.
      let bursts : List (List ℤ) = s.held_bursts ++ c.args.burst ∷ [] in
      let holds = rw c.if-add.true at c.add.ensures in
      let whole : c.block.result.now ≡ bursts = c.block.ensures.bursts ∙ holds.0
      ∙ ap (λ held. held ++ c.args.burst ∷ []) (sym st.held_bursts) in
      let four : length bursts ≡ 4 = ap length (sym whole) ∙ search rules in
      let next = answer_to_block s.role s.links bursts in
      let same : answer_to_block (role_of_terminal c.args.self.now.terminal) s.links c.block.result.now ≡ next =
      ap (λ held. answer_to_block (role_of_terminal c.args.self.now.terminal) s.links held) whole
      ∙ ap (λ role. answer_to_block role s.links bursts) (sym st.role) in
      let f : Represents c.receive_into.new.self next.0 × (spec_step_of c.receive_into.new.step ≡ next.1) =
      subst (λ (next : SideState × Step). Represents c.receive_into.new.self next.0
      × (spec_step_of c.receive_into.new.step ≡ next.1)) same (c.receive_into.ensures.refines s.links st.links) in
      let tsc : c.receive_into.new.self.tsc ≡ s.tsc = c.receive_into.ensures.same.tsc ∙ sym st.tsc in
      rw (le-leb 4 (length bursts) (omega (arith, four))) (
        c.write_answer.ensures.text ∙ ap (λ t. end_answer_text t (Accepts (spec_step_of c.receive_into.new.step))) tsc
            ∙ ap (λ (step : Step). end_answer_text s.tsc (Accepts step)) f.1,
        record {
          role = st.role ∙ ap spec_role_of (sym c.receive_into.ensures.same.side);
          tsc = sym tsc;
          links = f.0;
          held_bursts = sym holds.2;
        },
      );
  size = λ s st.
      let f = c.receive_into.ensures.refines s.links st.links in
      let r = received_block c.block.result.now in
      let heard = c.receive_into.ensures.reception r (ap (λ (step : Step). step.received) f.1) in
      let short = subst (λ (step : Step). IsShort (Accepts step)) (sym f.1)
      (block_short _ s.links c.block.result.now _ _ (ReceivesBursts-received _ s.links c.block.result.now r heard)
      (λ r is. c.receive_into.ensures.numbers r (ap (λ (step : Step). step.received) f.1 ∙ is))
      (subst (λ (step : Step). All IsBlock step.frames) f.1 c.write_answer.ensures.whole)
      (subst (λ (step : Step). length (answer_text (Accepts step)) < 2000) f.1 c.write_answer.ensures.lines)) in
      omega (arith, short, c.write_answer.ensures.length);
}

pub returns-else-add : goal.returns-else-add
returns-else-add c = record {
  answers = λ s st.
      let bursts : List (List ℤ) = s.held_bursts ++ c.args.burst ∷ [] in
      let holds = rw c.if-add.false at c.add.ensures in
      let held : c.add.new.self.held ≡ bursts = holds.0 ∙ ap (λ held. held ++ c.args.burst ∷ []) (sym st.held_bursts) in
      rw (lt-leb 4 (length bursts) (rw held at holds.1)) (
        c.requires.empty,
        record { role = st.role; tsc = st.tsc; links = st.links; held_bursts = sym held },
      );
  size = λ s st. let none = ap length c.requires.empty in omega (arith, none);
}
