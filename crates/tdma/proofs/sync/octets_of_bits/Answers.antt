use Rattle.std.proofs.Common.{arith, ap, ap₂, List, get_or, length, sym, take, ◌++◌, ◌∙◌, ◌∷◌, [], ◌≡◌, ℕ}
use Rattle.bit_blocks.specs.Octets.{bits_of}
use Rattle.tdma.proofs.Lemmas.{front_and_last, list_of_three}
use Rattle.tdma.proofs.sync.octets_of_bits.Goals as goal

pub returns-clause-same : goal.returns-clause-same
returns-clause-same c =
    let bits : List ℕ = c.args.bits.now in
    let slice : List ℕ = c.as_slice.result.now in
    let octets : List ℕ = c.to_octets.new.out in
    let same : slice ≡ bits = c.as_slice.ensures.value in
    let count : length slice ≡ 25 = c.as_slice.ensures.count in
    let three : octets ≡ get_or octets 0 0 ∷ get_or octets 1 0 ∷ get_or octets 2 0 ∷ [] = list_of_three octets (omega arith) in
    let front : bits_of octets ≡ take 24 slice = c.to_octets.ensures.round_trip in
    let last : c.get.result ≡ get_or bits 24 0 = c.get.ensures.value in
    let whole : slice ≡ take 24 slice ++ (get_or slice 24 0 ∷ []) = front_and_last slice 24 count in
    sym same ∙ whole
    ∙ ap₂ (λ (f : List ℕ) (x : ℕ). f ++ (x ∷ [])) (sym front ∙ ap bits_of three)
    (ap (λ (l : List ℕ). get_or l 24 0) same ∙ sym last)
