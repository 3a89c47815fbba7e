use Rattle.{
  std.proofs.{Common.{◌≡◌, ◌∙◌, sym, ap, subst, ℕ, List, arith, replicate}, lemmas.List.length-take},
  lapdm_frame.{
    specs.{Content.{frame_of_view, information}, Frames.{address_octet, control_octet, length_octet}, Readings.IsOnlyCanonicalCoding},
    proofs.Lemmas.{written, only_canonical},
  },
}
use Rattle.lapdm_frame.proofs.writer.write_on.Goals as goal

pub returns-clause-octets : goal.returns-clause-octets
returns-clause-octets c =
    let zeros : c.fill.new.self ≡ replicate c.layer1_octet_count-start.result 0 = c.fill.ensures.after (λ y e. e) ∙ ap
    (λ n. replicate n 0) (simp length-take (omega arith)) in
    let f = frame_of_view c.args.f.now in
    let whole = written c.args.channel (address_octet f) (control_octet f.content) (length_octet f.content) (information f.content) in
    cc

pub returns-clause-canonical : goal.returns-clause-canonical
returns-clause-canonical c =
    let f = frame_of_view c.args.f.now in
    subst (λ (octets : List ℕ). IsOnlyCanonicalCoding c.args.channel f octets) (sym (returns-clause-octets c))
    (only_canonical c.args.channel f c.requires)
