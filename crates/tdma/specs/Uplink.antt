-- The uplink of a time slot by its downlink (not in the standard's words: its tables have both, fifteen frames apart).
use Rattle.std.specs.Prelude.{Bool, if◌then◌else◌, Option, Some, None}
use Rattle.tdma.specs.declared.channels.Channel.{Channel}
use Rattle.tdma.specs.declared.channels.Channel.TheVariants.{Sdcch, Sacch, Rach}
use Rattle.tdma.specs.declared.schedule.Position.{Position}

-- RACH, if the time slot has it
abbrev pub random_access : (has_rach : Bool) → Option Position
random_access has_rach = if has_rach then Some (record { channel = Rach; subchannel = 0; burst = 0 }) else None

-- the same burst if its channel, given again as `channel`, is dedicated; otherwise RACH
abbrev pub dedicated_or_rach : (has_rach : Bool) (position : Position) (channel : Channel) → Option Position
dedicated_or_rach has_rach p Sdcch = Some p
dedicated_or_rach has_rach p Sacch = Some p
dedicated_or_rach has_rach p _ = random_access has_rach

-- what the uplink carries fifteen frames after a burst of the downlink
abbrev pub uplink_after : (has_rach : Bool) (downlink : Option Position) → Option Position
uplink_after has_rach None = random_access has_rach
uplink_after has_rach (Some p) = dedicated_or_rach has_rach p p.channel
