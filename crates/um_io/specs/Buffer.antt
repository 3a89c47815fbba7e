-- The octets that the buffer of a line reader holds (used inside this crate).
use Rattle.std.specs.Prelude.{ℕ, List, slice_range}
use Rattle.um_io.specs.declared.buffer.Buffer.{Buffer}

-- the octets held in the buffer, in order of arrival
abbrev pub octets_of : Buffer → List ℕ
octets_of b = slice_range b.octets.items b.start b.end
