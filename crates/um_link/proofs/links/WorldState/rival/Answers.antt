use Rattle.{
  std.proofs.{Common.{rules, ◌≡◌, refl, sym, ◌∙◌, arith, false, nat_lt, length}, lemmas.Bool.Decides.nat_tests},
  lapdm_frame.specs.Layout.n201,
  um_link.proofs.Lemmas.{carries_out_call, rival-not_refused},
}
use Rattle.um_air.specs.lapdm_window.declared.Sapi.TheVariants as S
use Rattle.um_air.specs.lapdm_window.Ends as R
use Rattle.um_air.specs.lapdm_link.Events as E
use Rattle.um_link.proofs.links.WorldState.rival.Goals as goal

pub returns-clause-step : goal.returns-clause-step
returns-clause-step g c =
    let w = c.args.self.now in
    let short : nat_lt (n201 w.channel) (length c.args.info.now) ≡ false =
    grind (arith, nat_tests, c.if-info-n201.false, c.n201.ensures) in
    let refines = carries_out_call (E.Rival c.args.info.now) R.Mobile w _ w.ends _ E.OtherMobile S.Zero _ refl
    (λ es st. (st, record { frames = c.write_rival_sabm.ensures.frames; notices = c.write_rival_sabm.ensures.notices }))
    (rival-not_refused c.args.info.now w (sym c.is_queue_full.ensures ∙ c.if-is_queue_full.false) (sym c.is_empty.ensures
    ∙ c.if-is_empty.false) short) (λ a. (tt, refl)) refl (λ es. refl) (λ es. refl) c.send.ensures.sends in
    record { refines = refines; valid = c.send.ensures.valid; refused = tt; fits_actor = search rules }
