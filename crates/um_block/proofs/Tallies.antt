-- Counters that saturate.
use Rattle.{
  std.proofs.Common.{ap, arith, suc, zero, ℕ, ◌+◌, ◌∙◌, refl, ◌≡◌},
  um_block.specs.Tallies.{counter_plus_one, counter_plus},
}

-- a counter that rises by `b` and then by `a` has risen by their sum
pub raised_by-more : (a b n m : ℕ) → m ≡ b + a → counter_plus a (counter_plus b n) ≡ counter_plus m n
raised_by-more zero b n m e = ap (λ k. counter_plus k n) (let f : b ≡ m = omega arith in f)
raised_by-more (suc a) b n m e = ap counter_plus_one (raised_by-more a b n (b + a) refl)
    ∙ ap (λ k. counter_plus k n) (let f : suc (b + a) ≡ m = omega arith in f)
