-- The SACCH of a half rate channel comes where that of full rate does in the time slot `sacch_timeslot`: in each of its 104 frames, of each
-- time slot, they have the same burst.
use Rattle.{
  std.proofs.Common.{List, None, Option, Some, refl, true, ℕ, ◌≡◌},
  std.specs.List.{list_all, range_with_len},
  std.specs.Prelude.{Bool, if◌then◌else◌, suc, ◌==◌},
  tdma.specs.Channels.position_of,
  tdma.specs.Traffic.subchannel_of,
  tdma.specs.declared.channels.{Combination.TheVariants.{TchF, TchH}, Direction.TheVariants.Downlink},
  tdma.specs.declared.schedule.Position.Position,
  tdma.specs.declared.traffic.TrafficChannel.{TheVariants.{HalfRate0, HalfRate1}, TrafficChannel},
  um_traffic.specs.Receivers.sacch_timeslot,
}

-- one more than the number of the burst, 0 if the frame has none of this subchannel
abbrev burst_of : (subchannel : ℕ) (position : Option Position) → ℕ
burst_of s None = 0
burst_of s (Some p) = if p.subchannel == s then suc p.burst else 0

abbrev is_same : (channel : TrafficChannel) (timeslot frame : ℕ) → Bool
is_same c t f =
    burst_of (subchannel_of c) (position_of TchH Downlink t f) == burst_of 0 (position_of TchF Downlink (sacch_timeslot c t) f)

abbrev are_same : TrafficChannel → Bool
are_same c = list_all (λ t. list_all (λ f. is_same c t f) (range_with_len 0 104)) (range_with_len 0 8)

first_half : are_same HalfRate0 ≡ true
first_half = refl

second_half : are_same HalfRate1 ≡ true
second_half = refl
