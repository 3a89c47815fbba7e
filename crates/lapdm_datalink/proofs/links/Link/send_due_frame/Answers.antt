use Rattle.std.proofs.Common.{◌≡◌, refl, sym, ◌∙◌, subst, true}
use Rattle.std.specs.Option.{option_map}
use Rattle.lapdm_frame.specs.{declared.Channel.{Channel}, Frames.{octets_of}}
use Rattle.lapdm_datalink.specs.Links.{is_due, without_needless_answer, expires}
use Rattle.lapdm_datalink.proofs.Lemmas.{channel_needless, sent_needless, awaits_needless, due_again, due_first}
use Rattle.lapdm_datalink.proofs.links.Link.send_due_frame.Goals as goal

pub returns-then-self-clause-represents : goal.returns-then-self-clause-represents
returns-then-self-clause-represents c l h =
    let due : is_due l ≡ true = sym (c.is_due.ensures l h) ∙ c.if-not-is_due.false in
    let g = c.drop_needless_answer.ensures.represents l h in
    rw (due_again l due (sym (sent_needless l) ∙ sym g.is_sent ∙ c.if-self.true))
    (c.expire.ensures.represents (without_needless_answer l) (awaits_needless l due) g)

pub returns-then-self-clause-block : goal.returns-then-self-clause-block
returns-then-self-clause-block c l h =
    let due : is_due l ≡ true = sym (c.is_due.ensures l h) ∙ c.if-not-is_due.false in
    let g = c.drop_needless_answer.ensures.represents l h in
    let m = without_needless_answer l in
    rw (due_again l due (sym (sent_needless l) ∙ sym g.is_sent ∙ c.if-self.true))
    (subst (λ (ch : Channel). c.expire.result.block ≡ option_map (octets_of ch) (expires m).frame) (channel_needless l)
    (c.expire.ensures.block m (awaits_needless l due) g))

pub returns-then-self-clause-gave_up : goal.returns-then-self-clause-gave_up
returns-then-self-clause-gave_up c l h =
    let due : is_due l ≡ true = sym (c.is_due.ensures l h) ∙ c.if-not-is_due.false in
    let g = c.drop_needless_answer.ensures.represents l h in
    rw (due_again l due (sym (sent_needless l) ∙ sym g.is_sent ∙ c.if-self.true))
    (c.expire.ensures.gave_up (without_needless_answer l) (awaits_needless l due) g)

pub returns-clause-represents : goal.returns-clause-represents
returns-clause-represents c l h =
    let due : is_due l ≡ true = sym (c.is_due.ensures l h) ∙ c.if-not-is_due.false in
    let g = c.drop_needless_answer.ensures.represents l h in
    rw (due_first l due (sym (sent_needless l) ∙ sym g.is_sent ∙ c.if-self.false))
    (record {
      endpoint = g.endpoint;
      t200 = g.t200;
      answer = g.answer;
      is_answer = g.is_answer;
      is_sent = refl;
      clock = g.t200;
      heard = g.heard;
    })
