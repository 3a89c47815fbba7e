-- The numbers that stand for combinations, directions and channels in plain data (this project's own).
use Rattle.std.specs.Prelude.{ℕ, ◌==◌, if◌then◌else◌, Bool, true, false, Option, Some, None}
use Rattle.tdma.specs.declared.channels.Combination.{Combination}
use Rattle.tdma.specs.declared.channels.Combination.TheVariants.{BcchCcch, BcchCcchSdcch4, Sdcch8, TchF, TchH}
use Rattle.tdma.specs.declared.channels.Direction.{Direction}
use Rattle.tdma.specs.declared.channels.Direction.TheVariants.{Downlink, Uplink}
use Rattle.tdma.specs.declared.traffic.TrafficChannel.{TrafficChannel}
use Rattle.tdma.specs.declared.traffic.TrafficChannel.TheVariants.{FullRate, HalfRate0, HalfRate1}
use Rattle.tdma.specs.declared.channels.Channel.{Channel}
use Rattle.tdma.specs.declared.channels.Channel.TheVariants.{Sdcch, Sacch, Bcch, Ccch, Fcch, Sch, Rach}

-- the combination with this number
abbrev pub combination_of : (number : ℕ) → Option Combination
combination_of number =
    if number == 0 then Some BcchCcch
    else if number == 1 then Some BcchCcchSdcch4
    else if number == 2 then Some Sdcch8
    else if number == 3 then Some TchF
    else if number == 4 then Some TchH
    else None

-- the same, if the blocks of its time slot come one after another: the bursts of those of two half rate channels alternate
abbrev pub slot_combination_of : (number : ℕ) → Option Combination
slot_combination_of number = if number == 4 then None else combination_of number

-- the direction with this number
abbrev pub direction_of : (number : ℕ) → Option Direction
direction_of number = if number == 0 then Some Downlink else if number == 1 then Some Uplink else None

-- the traffic channel with this number
abbrev pub traffic_channel_of : (number : ℕ) → Option TrafficChannel
traffic_channel_of number =
    if number == 0 then Some FullRate
    else if number == 1 then Some HalfRate0
    else if number == 2 then Some HalfRate1
    else None

-- the channel with this number
abbrev pub channel_of : (number : ℕ) → Option Channel
channel_of number =
    if number == 0 then Some Sdcch
    else if number == 1 then Some Sacch
    else if number == 2 then Some Bcch
    else if number == 3 then Some Ccch
    else if number == 4 then Some Fcch
    else if number == 5 then Some Sch
    else if number == 6 then Some Rach
    else None

-- the number of a channel
abbrev pub channel_number : Channel → ℕ
channel_number Sdcch = 0
channel_number Sacch = 1
channel_number Bcch = 2
channel_number Ccch = 3
channel_number Fcch = 4
channel_number Sch = 5
channel_number Rach = 6

-- whether the channel has blocks of four bursts
abbrev pub is_channel_of_blocks : Channel → Bool
is_channel_of_blocks Sdcch = true
is_channel_of_blocks Sacch = true
is_channel_of_blocks Bcch = true
is_channel_of_blocks Ccch = true
is_channel_of_blocks _ = false
