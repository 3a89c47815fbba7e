use Rattle.std.proofs.Common.{ap, refl}
use Rattle.um_erasing.proofs.{ErasingFacch.{facch_at_once, one_erasing_facch}, Lemmas.{accepted_at_once, one_erasing}}
use Rattle.um_erasing.proofs.laws.law_accepted_first_word_is_taken.Goals as goal

pub returns : goal.returns
returns c = record {
  block = λ bursts most erasures r octets decoded some received accepted is.
      let same =
      one_erasing bursts most erasures decoded _ is (accepted_at_once bursts most erasures r _ octets some received refl accepted) in
      (ap (λ d. d.block) same, ap (λ d. d.erased) same, ap (λ d. d.wrong_training) same);
  facch = λ bursts most erasures r octets decoded some received accepted is.
      let same =
      one_erasing_facch bursts most erasures decoded _ is (facch_at_once bursts most erasures r _ octets some received refl accepted) in
      (ap (λ d. d.block) same, ap (λ d. d.erased) same, ap (λ d. d.wrong_training) same);
}
