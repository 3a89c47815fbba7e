-- The last 40 bits are the Fire code bits if and only if the octets into which they are packed are those of the Fire code.
use Rattle.{
  std.proofs.{
    Common.{◌≡◌, ℕ, ◌++◌, List, take, drop, get_or, Fits, w8, ap₂, sym, ◌∙◌, arith, rules},
    lemmas.{Bool.Decides.Decides-eqb, List.{drop-take, take-take, take-append-drop, Elements.{All-from_get_or, All-take, All-drop}}},
    lemmas.Slice.Eq.slice_eq-Decides,
  },
  bit_blocks.{specs.{Bits.IsBit, Octets.{IsOctet, AllOctets, bits_of}}, proofs.Lemmas.{octets_of-bits_of, AllOctets-octets_of}},
}
use Rattle.um_block.proofs.receiving.octets_if_crc_holds.Goals as goal

whole : (u octets check : List ℕ) → bits_of octets ≡ take 184 u → bits_of check ≡ take 40 (drop 184 u) →
    bits_of octets ++ bits_of check ≡ take 224 u
whole u octets check front back =
    ap₂ (λ xs ys. xs ++ ys) (front ∙ sym (take-take 184 224 u (omega arith))) (back ∙ sym (drop-take 184 40 u))
    ∙ take-append-drop 184 (take 224 u)

pub returns-then-eq : goal.returns-then-eq
returns-then-eq c =
    let octets = c.pack_information_bits.new.octets in
    let same = (slice_eq-Decides Decides-eqb c.to_octets.new.out c.xcch_parity_of_octets.result _ c.eq.ensures).0 c.if-eq.true in
    let is = whole c.args.u.now octets _ c.pack_information_bits.ensures.round_trip c.to_octets.ensures.round_trip in (
      rw (← same, is) at c.xcch_parity_of_octets.ensures.word,
      c.pack_information_bits.ensures.value,
    )

pub returns-else-eq : goal.returns-else-eq
returns-else-eq c = λ word.
    let check = c.to_octets.new.out in
    let parity = c.xcch_parity_of_octets.result in
    let is = whole c.args.u.now _ check c.pack_information_bits.ensures.round_trip c.to_octets.ensures.round_trip in
    let bits = c.xcch_parity_of_octets.ensures.only (bits_of check) (rw is word) in
    let back = All-take IsBit 40 (drop 184 c.args.u.now) (All-drop IsBit 184 c.args.u.now c.requires) in
    let small : AllOctets check = rw c.to_octets.ensures.value (AllOctets-octets_of _ back) in
    let fits : (k : ℕ) → Fits w8 (get_or parity k 0) = λ k. search rules in
    let small' = All-from_get_or IsOctet parity 0 (λ k h. let fit = fits k in fit.fits) in
    let same : check ≡ parity = cc (octets_of-bits_of check small, octets_of-bits_of parity small') in
    let equal = (slice_eq-Decides Decides-eqb check parity _ c.eq.ensures).1 same in
    absurd (cc (equal, c.if-eq.false))
