use Rattle.{std.proofs.Common.arith, interleave.proofs.{Positions.table_entry, Bursts.half-position}}
use Rattle.interleave.proofs.table.coded_bit_numbers.Goals as goal

pub returns-clause-value : goal.returns-clause-value
returns-clause-value c i h = table_entry _ _ i c.requires.burst c.requires.half h

pub returns-clause-within : goal.returns-clause-within
returns-clause-within c i h =
    omega (arith, table_entry _ _ i c.requires.burst c.requires.half h, (half-position _ _ c.requires.burst c.requires.half i h).in_range)
