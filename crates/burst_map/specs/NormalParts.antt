-- A normal burst whose two halves are borrowed mutably (GSM 05.02 section 5.2.3).
use Rattle.std.specs.Prelude.{ℕ, List, []}
use Rattle.std.specs.Borrow.{Lends, MutBor, Fml, GName, Array, u8}
use mir.Syntax.{named}
use Rattle.burst_map.specs.declared.normal_parts.NormalParts.{NormalParts}
use Rattle.burst_map.specs.contracts.normal_parts.NormalParts.{the_row}
use Rattle.burst_map.specs.Parts.{with_range_replaced}

-- the current bits of the burst that a `NormalParts` borrows
abbrev pub borrowed_burst_bits : NormalParts → List ℕ
borrowed_burst_bits parts = parts.burst.now

-- the name that identifies the mutable reference to the burst in proofs
abbrev pub proof_id_of_burst_reference : NormalParts → GName
proof_id_of_burst_reference parts = parts.burst.ghost_name

-- a `NormalParts` with the same reference to the burst, but with other bits in the burst
abbrev pub parts_with_burst_replaced : (parts : NormalParts) (burst : List ℕ) → NormalParts
parts_with_burst_replaced parts burst = record parts { burst = record parts.burst { now = burst } }

-- a range of bits of the burst is borrowed mutably; when the borrow ends, the burst holds their final values in this range and is unchanged
-- elsewhere
abbrev pub BurstRangeIsBorrowed : (parts : MutBor NormalParts) (from to : ℕ) (half : MutBor (List ℕ)) → Fml
BurstRangeIsBorrowed parts from to half =
    Lends (the_row (record { mir = named 1; lft = [] })) (Array u8 0) parts half
    (λ bits. parts_with_burst_replaced parts.now (with_range_replaced (borrowed_burst_bits parts.now) from to bits))
