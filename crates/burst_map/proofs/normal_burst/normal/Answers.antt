use Rattle.{
  std.proofs.Common.{[], ◌∷◌, replicate, refl, arith},
  burst_map.{specs.Tails.tail_bits, proofs.Lemmas.{IsFilled, filled_more, AllBits-filled}},
  training_seq.proofs.bit_blocks.Lemmas.AllBits-table,
}
use Rattle.burst_map.proofs.normal_burst.normal.Goals as goal

pub returns : goal.returns
returns c =
    let one = AllBits-table (1 ∷ []) refl in
    let start : IsFilled (replicate 148 0) tail_bits 3 145 =
    record { content = refl; right_length = refl; bits = AllBits-table tail_bits refl } in
    let step_1 = filled_more c.place.new.burst c.args.first.now 60 88 start c.requires.first_bits (omega arith)
    (omega arith) c.place.ensures in
    let step_2 = filled_more c.place-2.new.burst (1 ∷ []) 61 87 step_1 one refl refl c.place-2.ensures in
    let step_3 = filled_more c.place-3.new.burst c.sequence.result 87 61 step_2 c.sequence.ensures.bits (omega arith)
    (omega arith) c.place-3.ensures in
    let step_4 = filled_more c.place-4.new.burst (1 ∷ []) 88 60 step_3 one refl refl c.place-4.ensures in
    let step_5 = filled_more c.place-5.new.burst c.args.second.now 145 3 step_4 c.requires.second_bits (omega arith)
    (omega arith) c.place-5.ensures in
    record { value = rw (← c.sequence.ensures.value) step_5.content; bits = AllBits-filled step_5 }
