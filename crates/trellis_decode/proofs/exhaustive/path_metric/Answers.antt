use Rattle.conv_code.proofs.Lemmas.{AllBits-coded}
use Rattle.trellis_decode.proofs.exhaustive.path_metric.Goals as goal

pub sum_of_bit_metrics-requires-clause-bits : goal.sum_of_bit_metrics-requires-clause-bits
sum_of_bit_metrics-requires-clause-bits c = rw (c.encode.ensures) (AllBits-coded c.args.input.now)
