use Rattle.std.{proofs.Common.{◌≡◌, ◌&&◌, drop}, specs.Str.all_ascii_digits}
use Rattle.um_script.proofs.places.are_digits.Given as goal

-- `all` says whether all octets before this one are digits
abbrev pub invariant-loop-octet : goal.invariant-loop-octet
invariant-loop-octet l = (l.all && all_ascii_digits (drop l.octet-index l.word)) ≡ all_ascii_digits l.word
