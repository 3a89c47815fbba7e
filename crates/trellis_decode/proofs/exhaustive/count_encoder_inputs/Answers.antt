use Rattle.std.proofs.{Common.{arith, ◌≡◌, ◌-◌, ◌*◌, ◌^◌, ◌<◌, ap, ◌∙◌}, lemmas.Nat.{pow-add, pow_below}}
use Rattle.trellis_decode.proofs.exhaustive.count_encoder_inputs.Goals as goal

pub returns : goal.returns
returns c =
    let m = c.args.bit_count - 4 in
    let few : m < 32 = omega arith in
    let below : 2 ^ m < 2 ^ 32 = pow_below m 32 few in
    let all : 2 ^ c.args.bit_count ≡ 16 * 2 ^ m = ap (λ n. 2 ^ n) (omega arith) ∙ pow-add 2 4 m in
    omega arith
