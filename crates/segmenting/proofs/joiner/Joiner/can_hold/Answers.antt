use Rattle.{
  std.proofs.{Common.{◌≡◌, ◌≤◌, refl, arith, ap, subst, ℕ, List, take, ◌++◌, [], length}, lemmas.List.take_at},
  segmenting.specs.{
    declared.joiner.{ReassemblyState.{ReassemblyState, TheVariants.{Open, Discarding, Whole}}, Joiner.Joiner},
    Joiners.IsPossiblePart,
    Parts.JoinerValues,
  },
}
use Rattle.segmenting.proofs.joiner.Joiner.can_hold.Goals as goal

none_over : (part : ReassemblyState) (octets : List ℕ) → IsPossiblePart part octets → part ≡ Discarding → length octets ≡ 0
none_over part octets h over = grind arith

some_whole : (part : ReassemblyState) (octets : List ℕ) → IsPossiblePart part octets → part ≡ Whole → 1 ≤ length octets
some_whole part octets h whole = grind arith

possible : (part : ReassemblyState) (n : ℕ) (octets : List ℕ) → (part ≡ Discarding → n ≡ 0) →
    (part ≡ Whole → 1 ≤ length (take n octets)) → IsPossiblePart part (take n octets)
possible Open n octets none some = tt
possible Whole n octets none some = some refl
possible Discarding n octets none some = rw (none refl) refl

pub returns-then-octets-le-LONGEST_MESSAGE : goal.returns-then-octets-le-LONGEST_MESSAGE
returns-then-octets-le-LONGEST_MESSAGE c =
    let octets = c.args.octets.now in
    let part = c.args.part in
    let same_octets = take_at octets [] _ refl in (
      λ s. let h : IsPossiblePart part octets = c.is_possible_part.ensures.0 s in
          let j : Joiner = record {
            octets = octets ++ [];
            len = length octets;
            part = part;
            in_range = c.if-octets-le-LONGEST_MESSAGE.true;
            empty_if_discarding = none_over part octets h;
            some_if_whole = λ whole. rw same_octets (some_whole part octets h whole);
          } in
          (j, ap (λ o. (record { octets = o; part = part })) same_octets),
      λ h. c.is_possible_part.ensures.1 (subst (λ (x : JoinerValues). IsPossiblePart x.part x.octets) h.1
          (possible h.0.part h.0.len h.0.octets h.0.empty_if_discarding h.0.some_if_whole)),
    )
