use Rattle.{
  std.proofs.lemmas.{Bool.Decides.{Decides-like, Decides-eqb}, Slice.Eq.slice_eq-Decides},
  fire_code.proofs.Lemmas.{cut, one_sch_crc, sch_word},
}
use Rattle.fire_code.proofs.sch.sch_holds.Goals as goal

pub returns : goal.returns
returns c =
    let d = c.split_at.result.0.now in
    let check = c.split_at.result.1.now in
    let parts = cut 25 _ _ d check c.as_slice.ensures.value c.as_slice.ensures.bits c.split_at.ensures.front c.split_at.ensures.back in
    let word = sch_word d c.crc.result c.split_at.ensures.front_len parts.1 (assumption) in
    rw parts.0 (Decides-like _ (λ same. rw same at word) (one_sch_crc d _ check c.split_at.ensures.front_len word)
    (rw c.as_slice-2.ensures.value at (slice_eq-Decides Decides-eqb c.as_slice-2.result.now check _ c.eq.ensures)))
