use Rattle.{
  std.proofs.{Common.{◌≡◌, ◌≤◌, refl, ap, arith, ◌++◌, [], length}, lemmas.List.take_at},
  segmenting.{specs.declared.joiner.{ReassemblyState.TheVariants.{Discarding, Whole}, Joiner.Joiner}, proofs.Lemmas.HasHistory-buffer},
}
use Rattle.segmenting.proofs.joiner.Joiner.restore.Goals as goal

none_over : (c : goal.After-self-1) → c.args.part ≡ Discarding → length c.args.octets.now ≡ 0
none_over c over = grind arith

some_whole : (c : goal.After-self-1) → c.args.part ≡ Whole → 1 ≤ length c.args.octets.now
some_whole c whole = grind arith

pub returns-clause-valid : goal.returns-clause-valid
returns-clause-valid c =
    let octets = c.args.octets.now in
    let part = c.args.part in
    let same_octets = take_at octets [] _ refl in
    let j : Joiner = record {
      octets = octets ++ [];
      len = length octets;
      part = part;
      in_range = c.if-octets-gt-LONGEST_MESSAGE.false;
      empty_if_discarding = none_over c;
      some_if_whole = λ whole. rw same_octets (some_whole c whole);
    } in
    let same = ap
    (λ o. (record { octets = o; part = part })) same_octets in
    (λ s. (j, same), λ h. refl)

pub returns-clause-taken : goal.returns-clause-taken
returns-clause-taken c =
    let past = HasHistory-buffer _ _ _ 0 c.if-octets-gt-LONGEST_MESSAGE.false (none_over c)
    (λ whole. grind (arith, some_whole c whole)) (omega arith) in
    λ s. (past.taken, past.reassembly)
