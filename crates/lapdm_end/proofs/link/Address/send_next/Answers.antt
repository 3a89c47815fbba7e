use Rattle.{
  std.proofs.{Common.{◌≡◌, false, refl, sym, true}, lemmas.List.append-nil},
  lapdm_window.specs.Rules.has_segment_to_send,
  lapdm_end.proofs.Lemmas.{sends_next_segment-no, sends_next_segment-yes, same_rules_in_open, Gives-as, Gives-next},
}
use Rattle.lapdm_end.proofs.link.Address.send_next.Goals as goal

pub returns-then-not-send_next-clause-refines : goal.returns-then-not-send_next-clause-refines
returns-then-not-send_next-clause-refines c e h =
    let no : has_segment_to_send e ≡ false = sym (c.if-not-send_next.ensures.answer e h.window) in
    Gives-as (sends_next_segment-no e no) (record {
      still_open = same_rules_in_open h refl refl refl refl (c.if-not-send_next.ensures.sent e h.window);
      sabm_info = refl;
      frames = sym (append-nil c.args.effects.now.frames);
      notices = sym (append-nil c.args.effects.now.notices);
    })

pub returns-clause-refines : goal.returns-clause-refines
returns-clause-refines c e h =
    let yes : has_segment_to_send e ≡ true = sym (c.if-not-send_next.ensures.answer e h.window) in
    Gives-as (sends_next_segment-yes e h.state yes) (Gives-next e h yes
    (c.if-not-send_next.ensures.sent e h.window) c.send_outstanding_segment.ensures.refines)
