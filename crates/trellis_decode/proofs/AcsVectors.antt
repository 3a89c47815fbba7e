-- What the operations of a step in 16-bit lanes do in each lane, beyond those that `lanes` states for any width.
use Rattle.{
  std.proofs.Common.{◌≡◌, ℕ, ◌+◌, ◌-◌, ◌%◌, ◌<◌, Bool, true, false, if◌then◌else◌, ℤ, pos, negsuc},
  std.proofs.{Common.{◌-ℤ◌, ◌≤ℤ◌, List, map, replicate, refl, ap₂, arith, int_lt, w8, w16, FitsSigned}, lemmas.Int.ints},
  std.{proofs.lemmas.Int.to_z-of_z, specs.Int.{cast_signed, cast_unsigned}},
  lanes.{specs.Lanes.{AreSigned, IsLanewise, lane}, proofs.Lanes.{AreSigned-between, IsLanewise-by_lane, compared, if_either, if_map}},
  lanes.proofs.Lanes.{lanewise-at, length-lanewise, top-compared, bits_of, wrapped_difference},
  trellis_decode.specs.AcsLanes.{AreDecisionLanes, AbsFit16Bits, AreInt16},
}
use lib.Lanes.{zip2, sel_l, top}

abbrev bits : List ℤ → List ℕ
bits = bits_of w16

-- ---- lemmas about decisions

-- the result of comparing two vectors of 16-bit lanes, in 8-bit lanes: -1 where a is less than b, else 0
abbrev decision_lanes : ℕ → List ℤ → List ℤ → List ℤ
decision_lanes n a b =
    map (cast_signed w8) (sel_l (map (top 7) (map (λ x. cast_unsigned w8 (cast_signed w16 x))
    (zip2 (compared w16) (zip2 (compared w16) (bits a) (bits b)) (replicate n 0)))) (replicate n 255) (replicate n 0))

abbrev decision_lane : Bool → ℤ
decision_lane t = cast_signed w8 (if top 7 (cast_unsigned w8 (cast_signed w16 (compared w16 (if t then 65535 else 0) 0))) then 255 else 0)

decision_lane-value : (t : Bool) → decision_lane t ≡ (if t then negsuc 0 else pos 0)
decision_lane-value true = refl
decision_lane-value false = refl

module _ (a b : List ℤ) (sa : AreInt16 a) (sb : AreInt16 b) where
  pub decision_lanes-at : (k : ℕ) → k < 8 →
      lane (decision_lanes 8 a b) k ≡ (if int_lt (lane a k) (lane b k) then negsuc 0 else pos 0)
  decision_lanes-at k lt =
      cc (
        lanewise-at decision_lanes _ refl (λ n x y xs ys. refl) 8 a b sa.count sb.count k lt (pos 0) (pos 0) (pos 0),
        ap₂ int_lt (to_z-of_z w16 _ (sa.fits k lt)) (to_z-of_z w16 _ (sb.fits k lt)),
        decision_lane-value _,
      )

  pub AreDecisionLanes-compared : AreDecisionLanes (decision_lanes 8 a b)
  AreDecisionLanes-compared = record {
    count = length-lanewise decision_lanes _ refl (λ n x y xs ys. refl) 8 a b sa.count sb.count;
    lower_bound = λ k lt. rw (decision_lanes-at k lt)
        (if_either (λ x. negsuc 0 ≤ℤ x) (int_lt (lane a k) (lane b k)) (omega (arith, ints)) (omega (arith, ints)));
    upper_bound = λ k lt. rw (decision_lanes-at k lt)
        (if_either (λ x. x ≤ℤ pos 0) (int_lt (lane a k) (lane b k)) (omega (arith, ints)) (omega (arith, ints)));
  }

-- ---- lemmas about absolute values

pub AbsFit16Bits-signed : (a : List ℤ) → AbsFit16Bits a → AreSigned w16 16 a
AbsFit16Bits-signed a = AreSigned-between w16 (omega (arith, ints)) (omega (arith, ints))

abbrev pub absolute_lanes : ℕ → List ℤ → List ℤ → List ℤ
absolute_lanes n a b =
    map (cast_signed w16)
    (sel_l (map (top 15) (zip2 (compared w16) (bits a) (zip2 (λ x y. (x + (65536 - y)) % 65536) (replicate n 0) (bits a))))
    (zip2 (λ x y. (x + (65536 - y)) % 65536) (replicate n 0) (bits a)) (bits a))

absolute_lane-value : (x y : ℤ) → FitsSigned w16 x → FitsSigned w16 y
    → FitsSigned w16 (if int_lt x (pos 0 -ℤ x) then pos 0 -ℤ x else x) →
    cast_signed w16 (if top 15 (compared w16 (cast_unsigned w16 x) ((0 + (65536 - cast_unsigned w16 x)) % 65536))
    then (0 + (65536 - cast_unsigned w16 x)) % 65536 else cast_unsigned w16 x) ≡ (if int_lt x (pos 0 -ℤ x) then pos 0 -ℤ x else x)
absolute_lane-value x y fits _ fit =
    let small : FitsSigned w16 (pos 0 -ℤ x) = grind (arith, ints) in
    let negative = wrapped_difference w16 (pos 0) x (omega (arith, ints)) fits small in
    cc (
      top-compared w16 (cast_unsigned w16 x) ((0 + (65536 - cast_unsigned w16 x)) % 65536),
      ap₂ int_lt (to_z-of_z w16 x fits)
          negative,
      if_map (cast_signed w16) (int_lt x (pos 0 -ℤ x)) negative (to_z-of_z w16 x fits),
    )

pub absolute_values : (a : List ℤ) → AbsFit16Bits a →
    IsLanewise w16 16 (λ x y. if int_lt x (pos 0 -ℤ x) then pos 0 -ℤ x else x) a a (absolute_lanes 16 a a)
absolute_values a h =
    let signed = AbsFit16Bits-signed a h in
    IsLanewise-by_lane w16 16 absolute_lanes _ (λ x y. if int_lt x (pos 0 -ℤ x) then pos 0 -ℤ x else x) refl (λ n x y xs ys. refl)
    absolute_lane-value a a signed signed (λ s lt. let low = h.lower_bound s lt in let fit = signed.fits s lt in
    if_either (FitsSigned w16) (int_lt (lane a s) _) {x = pos 0 -ℤ lane a s} (omega (arith, ints)) fit)

pub AbsFit16Bits-absolute_values : (a : List ℤ) → AbsFit16Bits a → AbsFit16Bits (absolute_lanes 16 a a)
AbsFit16Bits-absolute_values a h =
    let is = absolute_values a h in record {
      count = is.lanes.count;
      lower_bound = λ s lt. rw (is.each s lt) (let high = h.upper_bound s lt in
          if_either (λ x. negsuc 32766 ≤ℤ x) (int_lt (lane a s) (pos 0 -ℤ lane a s)) (omega (arith, ints)) (h.lower_bound s lt));
      upper_bound = λ s lt. omega (arith, ints, is.lanes.fits s lt);
    }
