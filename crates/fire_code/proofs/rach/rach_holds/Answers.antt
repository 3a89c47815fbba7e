use Rattle.{
  std.proofs.{Common.arith, lemmas.{Bool.Decides.{Decides-like, Decides-eqb}, Slice.Eq.slice_eq-Decides}},
  fire_code.proofs.Lemmas.{cut, rach_code},
}
use Rattle.fire_code.proofs.rach.rach_holds.Goals as goal

pub returns : goal.returns
returns c =
    let d = c.split_at.result.0.now in
    let x = c.split_at.result.1.now in
    let parts = cut 8 _ _ d x c.as_slice.ensures.value c.as_slice.ensures.bits c.split_at.ensures.front c.split_at.ensures.back in
    let bsic = c.as_slice-3.ensures in
    let decides = rach_code d c.crc.result x _ c.split_at.ensures.front_len parts.1 (assumption) (omega arith) parts.2
    (rw bsic.value at bsic.count) (rw bsic.value at bsic.bits) in
    let sum = rw c.unwrap-sum.ensures at c.from_slice.ensures.value in
    rw parts.0 (Decides-like _ decides.0 decides.1
    (rw (c.as_slice-2.ensures.value, c.xor-code.ensures.value, sum, bsic.value) at
    (slice_eq-Decides Decides-eqb c.as_slice-2.result.now c.as_slice-3.result.now _ c.eq.ensures)))
