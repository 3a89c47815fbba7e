use Rattle.{
  std.proofs.Common.{[], replicate, refl, arith},
  burst_map.{specs.AccessBurst.{extended_tail_bits, access_sequence}, proofs.Lemmas.{IsFilled, filled_more, AllBits-filled}},
  training_seq.proofs.bit_blocks.Lemmas.AllBits-table,
}
use Rattle.burst_map.proofs.access_burst.access.Goals as goal

pub returns-clause-bits : goal.returns-clause-bits
returns-clause-bits c =
    let start : IsFilled (replicate 88 0) [] 0 88 = record { content = refl; right_length = refl; bits = AllBits-table [] refl } in
    let step_1 = filled_more c.place.new.burst extended_tail_bits 8 80 start
    (AllBits-table extended_tail_bits refl) refl refl c.place.ensures in
    let step_2 = filled_more c.place-2.new.burst access_sequence 49 39 step_1
    (AllBits-table access_sequence refl) refl refl c.place-2.ensures in
    let step_3 = filled_more c.place-3.new.burst c.args.body.now 85 3 step_2 c.requires.bits (omega arith)
    (omega arith) c.place-3.ensures in
    AllBits-filled step_3
