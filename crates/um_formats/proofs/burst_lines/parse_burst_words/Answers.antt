use Rattle.{
  std.proofs.Common.{◌≢◌, length, sym, arith},
  um_formats.proofs.{
    BurstLines.other_kind,
    burst_lines.parse_burst_words.Goals.{in_default-kind-via-then-kind-lt1, in_default-kind-via-else-kind-lt1+else-kind-lt2},
  },
}
use Rattle.um_formats.proofs.burst_lines.parse_burst_words.Goals as goal

pub returns-in_default-kind : goal.returns-in_default-kind
returns-in_default-kind c =
    let many : length c.in-Some.kind.now ≢ 1 =
    λ one. elim c.in_default-kind.branch [
      | in_default-kind-via-then-kind-lt1 w ↦ grind arith
      | in_default-kind-via-else-kind-lt1+else-kind-lt2 w ↦ grind arith
    ] in
    rw c.in-Some.ensures.parts (sym (other_kind c.args.held_bursts c.in-Some.kind.now c.in-Some.rest.now many))
