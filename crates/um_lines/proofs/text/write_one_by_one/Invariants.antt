use Rattle.{std.proofs.Common.{take, ◌≡◌}, um_lines.specs.Fields.bit_digits}
use Rattle.um_lines.proofs.text.write_one_by_one.Given as goal

-- the digits written so far are those of the bits read so far
abbrev pub invariant-loop-i : goal.invariant-loop-i
invariant-loop-i l = take l.i l.digits ≡ bit_digits (take l.i l.bits)
