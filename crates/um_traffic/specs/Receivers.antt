-- A receiver of a traffic channel (this project's own): the bursts that carry each block of FACCH are collected by their frame numbers. A
-- traffic burst carries halves of two blocks, so the bursts of a block that the next one shares stay when it is finished.
use Rattle.std.specs.Prelude.{ℕ, ◌≡◌, ◌+◌, ◌-◌, ◌*◌, ◌/◌, ◌%◌, ◌==◌, nat_lt, nat_le}
use Rattle.std.specs.Prelude.{if◌then◌else◌, Bool, ◌&&◌, ◌||◌}
use Rattle.std.specs.Prelude.{ℤ, pos, List, ◌++◌, drop, replicate, slice_index, slice_set, Option, Some, None, Result, Ok, Err}
use Rattle.std.specs.List.{count_by, list_all}
use Rattle.um_slot.specs.tdma.declared.TheConstants.{HYPERFRAME}
use Rattle.um_slot.specs.tdma.declared.channels.Direction.{Direction}
use Rattle.um_slot.specs.tdma.declared.traffic.TrafficChannel.{TrafficChannel}
use Rattle.um_slot.specs.tdma.declared.traffic.TrafficPlace.{TrafficPlace}
use Rattle.um_slot.specs.tdma.Traffic.{channels_in_slot, facch_bursts, first_facch_burst, subchannel_of, traffic_frames}
use Rattle.um_slot.specs.tdma.Traffic.{traffic_place_of}
use Rattle.um_slot.specs.Numbers.{traffic_channel_of}
use Rattle.um_slot.specs.Slots.{frame_refusal, settings_of}
use Rattle.um_slot.specs.declared.settings.Settings.{Settings}
use Rattle.um_slot.specs.declared.slots.Slot.{Slot}
use Rattle.um_slot.specs.declared.slots.Refusal.{Refusal}
use Rattle.um_slot.specs.declared.slots.Refusal.TheVariants.{Invalid}
use Rattle.um_traffic.specs.declared.receivers.Traffic.{Traffic}
use Rattle.um_traffic.specs.declared.receivers.FinishedFacch.{FinishedFacch}
use Rattle.um_traffic.specs.declared.receivers.Heard.{Heard}
use Rattle.um_traffic.specs.declared.receivers.Heard.TheVariants.{Taken, Finished, Earlier}
use Rattle.um_traffic.specs.declared.settings.TrafficSettings.{TrafficSettings}

-- ## Numbers of traffic bursts, counted through the hyperframe

-- how many traffic bursts of a channel a 26-multiframe has
abbrev pub bursts_in_multiframe : TrafficChannel → ℕ
bursts_in_multiframe c = 24 / channels_in_slot c

-- how many the hyperframe has
abbrev pub bursts_in_hyperframe : TrafficChannel → ℕ
bursts_in_hyperframe c = 104448 * bursts_in_multiframe c

-- the number of a traffic burst, by its frame and its number in the multiframe
abbrev pub burst_number : (channel : TrafficChannel) (frame burst : ℕ) → ℕ
burst_number c frame burst = frame / 26 * bursts_in_multiframe c + burst

-- how many traffic bursts one is after another, modulo a hyperframe
abbrev pub bursts_after : (channel : TrafficChannel) (first number : ℕ) → ℕ
bursts_after c first number = (number + bursts_in_hyperframe c - first) % bursts_in_hyperframe c

-- the frame of a traffic burst
abbrev pub frame_of_burst : (channel : TrafficChannel) (number : ℕ) → ℕ
frame_of_burst c number =
    number / bursts_in_multiframe c * 26 + slice_index (traffic_frames c) (number % bursts_in_multiframe c)

-- which burst a burst is of the oldest block that it carries a half of; each fourth burst begins a block
abbrev pub index_in_oldest : (channel : TrafficChannel) (direction : Direction) (number : ℕ) → ℕ
index_in_oldest c d number =
    let since = (number + 4 - first_facch_burst c d) % 4 in if nat_lt (since + 4) (facch_bursts c) then since + 4 else since

-- ## Validity

-- whether the numbers of a receiver are in range: its SACCH is that of a full rate channel, in the time slot whose SACCH comes where that
-- of this channel does, and a block begins with the burst number `first`
abbrev pub is_in_range : (channel : TrafficChannel) (direction : Direction) (traffic : Traffic) → Bool
is_in_range c d x =
    x.sacch.combination == 3
    && (x.sacch.timeslot % channels_in_slot c == subchannel_of c
    && (x.first == HYPERFRAME || (nat_lt x.first (bursts_in_hyperframe c) && x.first % 4 == first_facch_burst c d)))

-- the settings, if the receiver of SACCH is valid and the numbers are in range
abbrev pub settings_if_valid : (traffic : Traffic) (sacch : Option Settings) (channel : Option TrafficChannel) → Option TrafficSettings
settings_if_valid x (Some s) (Some c) =
    if is_in_range c s.direction x then Some (record { channel = c; direction = s.direction }) else None
settings_if_valid x s c = None

-- what a receiver is set to; nothing if its state is not valid
abbrev pub traffic_settings_of : Traffic → Option TrafficSettings
traffic_settings_of x = settings_if_valid x (settings_of x.sacch) (traffic_channel_of x.channel)

-- the time slot in which the SACCH of a full rate channel comes where that of this channel does
abbrev pub sacch_timeslot : (channel : TrafficChannel) (timeslot : ℕ) → ℕ
sacch_timeslot c timeslot = timeslot / channels_in_slot c * channels_in_slot c + subchannel_of c

-- a receiver that has taken no frame
abbrev pub new_traffic : (sacch : Slot) (channel : ℕ) → Traffic
new_traffic sacch channel = record {
  sacch = sacch;
  first = HYPERFRAME;
  channel = channel;
  ended = 0;
  came = replicate 8 0;
  bursts = replicate 8 (replicate 148 (pos 0));
}

-- ## Steps

-- whether no frame of some was taken or missed
abbrev pub none_came : List ℕ → Bool
none_came came = list_all (λ times. times == 0) came

-- the next block: the bursts that it shares with the one before are its first
abbrev pub moved : (channel : TrafficChannel) (traffic : Traffic) → Traffic
moved c x = record x {
  first = if none_came (drop 4 x.came) then HYPERFRAME else (x.first + 4) % bursts_in_hyperframe c;
  ended = 0;
  came = drop 4 x.came ++ replicate 4 0;
  bursts = drop 4 x.bursts ++ replicate 4 (replicate 148 (pos 0));
}

-- after a block that was finished comes the next one
abbrev pub collecting : (channel : TrafficChannel) (traffic : Traffic) → Traffic
collecting c x = if x.ended == 0 then x else moved c x

-- the oldest block that a burst carries a half of begins, if none is being collected
abbrev pub begun : (channel : TrafficChannel) (direction : Direction) (number : ℕ) (traffic : Traffic) → Traffic
begun c d number x =
    if x.first == HYPERFRAME
    then record x { first = (number + bursts_in_hyperframe c - index_in_oldest c d number) % bursts_in_hyperframe c }
    else x

-- a burst is put into the block: 1 says that it was missed, 2 that it came
abbrev pub with_burst : (index came : ℕ) (burst : List ℤ) (traffic : Traffic) → Traffic
with_burst index came burst x =
    record x { came = slice_set x.came index (came + 1); bursts = slice_set x.bursts index burst }

-- how many bursts of a block came
abbrev pub heard_bursts : List ℕ → ℕ
heard_bursts came = count_by (λ times. times == 2) came

-- the block that is finished
abbrev pub finished_facch : (channel : TrafficChannel) (traffic : Traffic) → FinishedFacch
finished_facch c x = record { channel = c; first = frame_of_burst c x.first; heard = heard_bursts x.came }

-- a receiver, and what it has heard
pub record Step : Type 0 where
  pub traffic : Traffic
  pub heard : Heard

-- the block is finished
abbrev pub ended_with : (heard : FinishedFacch → Heard) (channel : TrafficChannel) (traffic : Traffic) → Step
ended_with heard c x = record { traffic = record x { ended = 1 }; heard = heard (finished_facch c x) }

-- a burst, with its index in the block that is being collected: past it, the block is finished and the burst not taken; with its last burst
-- it is finished too
abbrev pub put_burst : (channel : TrafficChannel) (index frame came : ℕ) (burst : List ℤ) (traffic : Traffic) → Step
put_burst c index frame came burst x =
    if nat_le (facch_bursts c) index then ended_with Earlier c x
    else
    (let y = with_burst index came burst (record x { sacch = record x.sacch { last = frame } }) in
    if index + 1 == facch_bursts c then ended_with Finished c y else record { traffic = y; heard = Taken })

-- the burst of a traffic frame is taken
abbrev pub take_burst : (channel : TrafficChannel) (direction : Direction) (number frame came : ℕ) (burst : List ℤ)
    (traffic : Traffic) → Step
take_burst c d number frame came burst x =
    let y = begun c d number (collecting c x) in put_burst c (bursts_after c y.first number) frame came burst y

-- ## Calls

-- a call that takes a frame at a place of the traffic channel gives `answer`, and changes the receiver; a frame without one, which is the
-- SACCH's, changes nothing
abbrev pub TakesAt : (settings : TrafficSettings) (place : Option TrafficPlace) (old : Traffic) (frame came : ℕ) (burst : List ℤ)
    (answer : Result (Option Heard) Refusal) (new : Traffic) → Type 0
TakesAt settings None old frame came burst answer new = (answer ≡ Ok None) × (new ≡ old)
TakesAt settings (Some place) old frame came burst answer new =
    let step = take_burst settings.channel settings.direction (burst_number settings.channel frame place.burst) frame came burst old in
    (answer ≡ Ok (Some step.heard)) × (new ≡ step.traffic)

-- a call that takes a frame gives `answer`, and changes the receiver; a refusal changes nothing
abbrev pub TakesWith : (settings : Option TrafficSettings) (refusal : Option Refusal) (old : Traffic) (frame came : ℕ)
    (burst : List ℤ) (answer : Result (Option Heard) Refusal) (new : Traffic) → Type 0
TakesWith None refusal old frame came burst answer new = (answer ≡ Err Invalid) × (new ≡ old)
TakesWith (Some settings) (Some refusal) old frame came burst answer new = (answer ≡ Err refusal) × (new ≡ old)
TakesWith (Some settings) None old frame came burst answer new =
    TakesAt settings (traffic_place_of settings.channel settings.direction frame) old frame came burst answer new

-- what a call that takes a frame gives and changes
abbrev pub Takes : (old : Traffic) (frame came : ℕ) (burst : List ℤ) (answer : Result (Option Heard) Refusal) (new : Traffic) → Type 0
Takes old frame came burst answer new =
    TakesWith (traffic_settings_of old) (frame_refusal old.sacch frame) old frame came burst answer new

-- the block that is being collected is finished, if there is one
abbrev pub end_block : (channel : TrafficChannel) (traffic : Traffic) → Step
end_block c x = if x.first == HYPERFRAME then record { traffic = x; heard = Taken } else ended_with Earlier c x

-- what a call that ends a block gives and changes
abbrev pub EndsWith : (settings : Option TrafficSettings) (old : Traffic) (answer : Result Heard Refusal) (new : Traffic) → Type 0
EndsWith None old answer new = (answer ≡ Err Invalid) × (new ≡ old)
EndsWith (Some settings) old answer new =
    let step = end_block settings.channel (collecting settings.channel old) in (answer ≡ Ok step.heard) × (new ≡ step.traffic)
