use Rattle.{std.proofs.{Common.{refl, sym, ◌∙◌, arith, inl, inr}, lemmas.List.append-nil}, lapdm_end.proofs.Lemmas.Gives-counted}
use Rattle.lapdm_window.specs.declared.Acked.TheVariants as V
use Rattle.lapdm_end.proofs.link.Address.evaluate_nr.Goals as goal

pub returns-in-Nothing : goal.returns-in-Nothing
returns-in-Nothing c = record {
  channel = c.on_ack.ensures.channel;
  frames = refl;
  most = omega arith;
  refines = λ e h. elim c.in-Nothing.is [
    | inl is ↦ Gives-counted c.args.nr V.Nothing h (sym is ∙ c.on_ack.ensures.answer e h.window) (c.on_ack.ensures.counted e h.window)
        refl
        (sym (append-nil c.args.effects.now.notices))
    | inr is ↦ Gives-counted c.args.nr V.Piece h (sym is ∙ c.on_ack.ensures.answer e h.window) (c.on_ack.ensures.counted e h.window)
        refl
        (sym (append-nil c.args.effects.now.notices))
  ];
}

pub returns-in-Message-clause-refines : goal.returns-in-Message-clause-refines
returns-in-Message-clause-refines c e h =
    Gives-counted c.args.nr (V.Message c.in-Message.number) h (c.in-Message.ensures.answer e h.window)
    (c.in-Message.ensures.counted e h.window) refl c.push.ensures
