use Rattle.std.proofs.Common.{◌≡◌, ◌≤◌, ◌∙◌, sym, arith, true, false, drop, inl, inr, length}
use Rattle.std.proofs.lemmas.List.{take_all, length-drop}
use Rattle.lapdm_b4.proofs.Lemmas.{coding}
use Rattle.lapdm_b4.proofs.read_b4.Goals as goal

pub returns-clause-frame : goal.returns-clause-frame
returns-clause-frame c =
    let octets = c.args.octets.now in
    let few : length (drop 4 octets) ≤ 19 = simp length-drop (omega (arith, c.told-octets)) in
    let rest : drop 4 octets ≡ c.copy_from_slice.new.self = sym (c.copy_from_slice.ensures.after ∙ take_all 19 (drop 4 octets) few) in
    elim c.else-control-ne-CONTROL.either [
      | inl with_p ↦ coding true _ _ c.told-octets c.if-octets-ne-ADDRESS.false with_p.1 rest
      | inr without ↦ coding false _ _ c.told-octets c.if-octets-ne-ADDRESS.false without rest
    ]
