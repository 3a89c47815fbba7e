use Rattle.{
  std.{
    proofs.{
      Common.{Bool, List, arith, false, get_or, length, refl, subst, sym, take, true, ℕ, ◌&&◌, ◌+◌, ◌<◌, ◌≡◌},
      Common.{◌≤◌},
      Math.Dec.ltb,
      lemmas.{Bool.Decides.Decides-ltb, List.{Elements.{All-from_get_or, All-more}, get_or-take, length-take-le, take_all}},
    },
    specs.Prelude.{IsTrue, ◌↔◌},
  },
  um_block.specs.bit_blocks.Bits.{AllBits, IsBit},
}
use Rattle.um_c.proofs.soft.are_bits.Goals as goal

both : (a b : Bool) → IsTrue (a && b) ↔ (IsTrue a × IsTrue b)
both true b = (λ h. (refl, h), λ h. h.1)
both false b = (λ h. absurd (let apart : false ≡ true = h in cc), λ h. absurd (let apart : false ≡ true = h.0 in cc))

-- all bits of the first `i + 1` values are all of the first `i` and the next
more : (values : List ℕ) (i : ℕ) → i < length values → AllBits (take (i + 1) values) →
    AllBits (take i values) × IsBit (get_or values i 0)
more values i lt all =
    let value : (k : ℕ) → k < i + 1 → IsBit (get_or values k 0) =
    λ k below. subst IsBit (get_or-take (i + 1) values k 0 below)
    (all k 0 (omega (arith, length-take-le (i + 1) values (omega arith)))) in (
      All-from_get_or IsBit (take i values) 0 (λ k below.
          let few : k < i = omega (arith, length-take-le i values (omega arith)) in
          subst IsBit (sym (get_or-take i values k 0 few)) (value k (omega arith))),
      value i (omega arith),
    )

pub loop-value-preserved : goal.loop-value-preserved
loop-value-preserved c =
    let values = c.args.values.now in
    let i = c.loop-value.value-index in
    let test = ltb (get_or values i 0) 2 in
    let before = c.loop-value.invariant in
    let decides = Decides-ltb (get_or values i 0) 2 in (
      λ yes.
          let each = (both c.loop-value.are test).0 yes in
          All-more IsBit values i 0 c.loop-value-test.true (before.0 each.0) (omega (arith, decides.0 each.1)),
      λ all.
          let each = more values i c.loop-value-test.true all in
          (both c.loop-value.are test).1 (before.1 each.0, decides.1 (omega (arith, each.1))),
    )

pub returns : goal.returns
returns c =
    let values = c.args.values.now in
    let whole = take_all c.loop-value.value-index values (omega arith) in (
      λ yes. subst AllBits whole (c.loop-value.invariant.0 yes),
      λ all. c.loop-value.invariant.1 (subst AllBits (sym whole) all),
    )
