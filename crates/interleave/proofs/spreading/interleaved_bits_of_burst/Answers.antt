use Rattle.{
  std.proofs.Common.{◌≡◌, length, get_or, ap, refl, ◌∙◌, arith},
  interleave.{specs.Positions.position_in_burst, proofs.Bursts.{halves-at, put_mid-behind}},
}
use Rattle.interleave.proofs.spreading.interleaved_bits_of_burst.Goals as goal

pub returns : goal.returns
returns c = record {
  places = λ k hk burst.
      let first = c.spread_burst.new.out in
      let second = c.spread_burst-2.new.out in
      let long : length first ≡ 57 = omega arith in
      ap (λ xs. get_or xs (position_in_burst k) 0) (put_mid-behind 57 57 _ _ _ long refl)
      ∙ halves-at first second k 0 (get_or c.args.coded.now k 0) long (λ i hi place. c.spread_burst.ensures.places k i hk burst hi place)
      (λ i hi place. c.spread_burst-2.ensures.places k i hk burst hi place);
}
