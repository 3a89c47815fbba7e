use Rattle.{std.proofs.Common.{length, map, ◌-◌}, um_block.specs.Received.soft_bits, um_formats.proofs.BurstLines.hard_line}
use Rattle.um_formats.proofs.held.hold_normal_burst.Goals as goal

pub returns-in-Some : goal.returns-in-Some
returns-in-Some c =
    let digits = c.in-Some.digits.now in
    let read = hard_line (length c.args.held.now.held) c.args.line.now digits c.in-Some.ensures in
    record {
      soft = soft_bits (map (λ octet. octet - 48) digits);
      means = read.0;
      no_fault = read.1;
      adds_burst =
          c.add_hard_burst.ensures;
    }
