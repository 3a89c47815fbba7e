use Rattle.{std.{proofs.Common.{◌≡◌, ◌*◌, length, take}, specs.List.{flat_map, range_with_len}}, conv_code.specs.Code.coded_pair}
use Rattle.conv_code.proofs.encode_from_fifth_bit.Given as goal

abbrev pub invariant-loop-k : goal.invariant-loop-k
invariant-loop-k l =
    (length l.out ≡ 2 * length l.u) × (take (2 * l.k) l.out ≡ flat_map (coded_pair l.u) (range_with_len 0 l.k))
