use Rattle.{
  std.proofs.{Common.{[], map, get_or, arith}, lemmas.List.FromFn.get_or-map-range_with_len},
  training_seq.specs.{Sums.sign_of_bit, Sequences.training_sequences},
}
use Rattle.training_seq.proofs.sequences.all_tsc_signs_at.Goals as goal

pub returns : goal.returns
returns c =
    get_or-map-range_with_len (λ i. map (λ bits. sign_of_bit (get_or bits i 0)) training_sequences) 0 26 c.args.bit_index
    c.args.bit_index [] c.requires
    (omega arith)
