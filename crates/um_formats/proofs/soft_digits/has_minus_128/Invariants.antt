use Rattle.std.{proofs.Common.{◌≡◌, ◌==◌, take}, specs.List.list_any}
use Rattle.um_formats.proofs.soft_digits.has_minus_128.Given as goal

-- `found` says whether one of the octets before this one is 0x80, which stands for -128
abbrev pub invariant-loop-octet : goal.invariant-loop-octet
invariant-loop-octet l = l.found ≡ list_any (λ octet. octet == 128) (take l.octet-index l.octets)
