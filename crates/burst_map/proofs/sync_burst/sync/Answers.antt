use Rattle.{
  std.proofs.Common.{replicate, refl, arith},
  burst_map.{specs.{Tails.tail_bits, SyncBurst.sync_sequence}, proofs.Lemmas.{IsFilled, filled_more, AllBits-filled}},
  training_seq.proofs.bit_blocks.Lemmas.AllBits-table,
}
use Rattle.burst_map.proofs.sync_burst.sync.Goals as goal

pub returns : goal.returns
returns c =
    let start : IsFilled (replicate 148 0) tail_bits 3 145 =
    record { content = refl; right_length = refl; bits = AllBits-table tail_bits refl } in
    let step_1 = filled_more c.place.new.burst c.args.first.now 42 106 start c.requires.first_bits (omega arith)
    (omega arith) c.place.ensures in
    let step_2 = filled_more c.place-2.new.burst sync_sequence 106 42 step_1
    (AllBits-table sync_sequence refl) refl refl c.place-2.ensures in
    let step_3 = filled_more c.place-3.new.burst c.args.second.now 145 3 step_2 c.requires.second_bits (omega arith)
    (omega arith) c.place-3.ensures in
    record { value = step_3.content; bits = AllBits-filled step_3 }
