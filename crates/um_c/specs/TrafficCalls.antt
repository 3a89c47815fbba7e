-- The C structs of a receiver of a traffic channel, and what the calls answer.
use Rattle.std.specs.Prelude.{ℕ, ◌≡◌, ◌<◌, ◌↔◌, ◌==◌, if◌then◌else◌, Bool, true, false, IsTrue, ℤ, pos}
use Rattle.std.specs.Prelude.{negsuc, int_le, List, map, replicate, take}
use Rattle.std.specs.Prelude.{Option, Some, None, IsSome, Result, Ok, Err}
use Rattle.half_bursts.specs.Halves.{joined_block, stealing_sum}
use Rattle.um_slot.specs.tdma.Traffic.{facch_bursts}
use Rattle.um_slot.specs.tdma.declared.traffic.TrafficChannel.{TrafficChannel}
use Rattle.um_slot.specs.Slots.{new_slot, restarted, settings_of, softened}
use Rattle.um_slot.specs.declared.slots.Refusal.{Refusal}
use Rattle.um_slot.specs.declared.slots.Refusal.TheVariants.{Invalid, NoFrame, Doubled, Late}
use Rattle.um_traffic.specs.Receivers.{EndsWith, Takes, new_traffic, sacch_timeslot, traffic_settings_of}
use Rattle.um_traffic.specs.declared.receivers.Traffic.{Traffic}
use Rattle.um_traffic.specs.declared.receivers.FinishedFacch.{FinishedFacch}
use Rattle.um_traffic.specs.declared.receivers.Heard.{Heard}
use Rattle.um_traffic.specs.declared.receivers.Heard.TheVariants.{Taken, Finished, Earlier}
use Rattle.um_c.specs.FacchReports.{IsLimitedFacchReport}
use Rattle.um_c.specs.SlotCalls.{SlotTakes}
use Rattle.um_c.specs.declared.erasing.Erasure.{Erasure}
use Rattle.um_c.specs.declared.traffic.TrafficBlock.{TrafficBlock}

-- whether the stealing flags of a block, by their sum, rather say that it is FACCH
abbrev pub is_stolen : (flags : ℤ) → Bool
is_stolen flags = int_le flags (negsuc 0)

-- the number of the kind of a block: 1 FACCH, 2 stolen but not accepted, 3 other traffic
abbrev pub facch_kind : (accepted : ℕ) (stolen : Bool) → ℕ
facch_kind accepted stolen = if accepted == 0 then (if stolen then 2 else 3) else 1

-- the bursts that carry a block of FACCH, as soft bits
abbrev pub carriers : (bursts : List (List ℤ)) (finished : FinishedFacch) → List (List ℤ)
carriers bursts f = take (facch_bursts f.channel) (map (map softened) bursts)

-- no joined burst is erased
abbrev pub no_erasure : Erasure
no_erasure = record { erased = 4; wrong_training = replicate 4 0 }

-- `block` is the report on a block of FACCH that these bursts carry: more than one word, and erasures, are tried only if its flags rather
-- say that it is FACCH
pub record IsFacchBlock (words erasures limit : ℕ) (carried_by : List (List ℤ)) (finished : FinishedFacch) (block : TrafficBlock) : Type
    0 where
  pub joined : block.bursts ≡ joined_block (pos 0) carried_by
  pub flags : block.flags ≡ stealing_sum block.bursts
  pub reported : IsLimitedFacchReport carried_by (if is_stolen block.flags then words else 1)
      (if is_stolen block.flags then erasures else 0) limit block.block.rank block.block.report block.erasure
  pub none : block.block.erasure ≡ no_erasure
  pub first : block.block.first ≡ finished.first
  pub channel : block.block.channel ≡ 7
  pub subchannel : block.block.subchannel ≡ 0
  pub heard : block.block.heard ≡ finished.heard
  pub kind : block.kind ≡ facch_kind block.block.report.accepted (is_stolen block.flags)

-- the number in the C API for the reason why a frame was not taken
abbrev pub traffic_refusal_number : Refusal → ℕ
traffic_refusal_number Invalid = 4
traffic_refusal_number NoFrame = 5
traffic_refusal_number Doubled = 6
traffic_refusal_number Late = 7

-- the call returns 0; or 1 and writes the block that the frame completes; or 2 and writes the block that ended before it
abbrev pub HearsFacch : (words erasures limit : ℕ) (bursts : List (List ℤ)) (heard : Heard) (before : TrafficBlock) (answer : ℕ)
    (after : TrafficBlock) → Type 0
HearsFacch words erasures limit bursts Taken before answer after = (answer ≡ 0) × (after ≡ before)
HearsFacch words erasures limit bursts (Finished f) before answer after =
    (answer ≡ 1) × IsFacchBlock words erasures limit (carriers bursts f) f after
HearsFacch words erasures limit bursts (Earlier f) before answer after =
    (answer ≡ 2) × IsFacchBlock words erasures limit (carriers bursts f) f after

-- a frame that is none of the traffic channel is taken by the receiver of its SACCH
pub record SacchTakes (old : Traffic) (frame came : ℕ) (burst : List ℤ) (before : TrafficBlock) (answer : ℕ) (new : Traffic)
    (after : TrafficBlock) : Type 0 where
  pub taken : SlotTakes old.sacch frame came burst before.block answer new.sacch after.block
  pub traffic : new ≡ record old { sacch = new.sacch }
  pub rest : after ≡ record before { block = after.block; kind = if answer == 1 then 0 else before.kind }

-- what the call answers and writes, by what the receiver gives
abbrev pub TrafficAnswers : (given : Result (Option Heard) Refusal) (old mid : Traffic) (frame came : ℕ) (burst : List ℤ)
    (before : TrafficBlock) (answer : ℕ) (new : Traffic) (after : TrafficBlock) → Type 0
TrafficAnswers (Ok (Some heard)) old mid frame came burst before answer new after =
    (new ≡ mid) × HearsFacch old.sacch.words old.sacch.erasures old.sacch.limit mid.bursts heard before answer after
TrafficAnswers (Ok None) old mid frame came burst before answer new after = SacchTakes mid frame came burst before answer new after
TrafficAnswers (Err refusal) old mid frame came burst before answer new after =
    (answer ≡ traffic_refusal_number refusal) × (new ≡ mid) × (after ≡ before)

-- what a call that takes a frame answers and writes
pub record TrafficTakes (old : Traffic) (frame came : ℕ) (burst : List ℤ) (before : TrafficBlock) (answer : ℕ) (new : Traffic)
    (after : TrafficBlock) : Type 0 where
  pub given : Result (Option Heard) Refusal
  pub mid : Traffic
  pub takes : Takes old frame came burst given mid
  pub answers : TrafficAnswers given old mid frame came burst before answer new after

-- what the call answers and writes, by what the receiver gives
abbrev pub EndAnswers : (given : Result Heard Refusal) (old new : Traffic) (before : TrafficBlock) (answer : ℕ) (after : TrafficBlock) →
    Type 0
EndAnswers (Ok heard) old new before answer after =
    HearsFacch old.sacch.words old.sacch.erasures old.sacch.limit new.bursts heard before answer after
EndAnswers (Err refusal) old new before answer after = (answer ≡ traffic_refusal_number refusal) × (after ≡ before)

-- what a call that ends a block answers and writes
pub record TrafficEnds (old : Traffic) (before : TrafficBlock) (answer : ℕ) (new : Traffic) (after : TrafficBlock) : Type 0 where
  pub given : Result Heard Refusal
  pub ends : EndsWith (traffic_settings_of old) old given new
  pub answers : EndAnswers given old new before answer after

-- the call returns true and writes a receiver that has taken no frame, or false if a number is out of range
abbrev pub IsNewTraffic : (known : Option TrafficChannel) (channel direction timeslot words erasures : ℕ) (old : Traffic)
    (answer : Bool) (new : Traffic) → Type 0
IsNewTraffic None channel direction timeslot words erasures old answer new = (answer ≡ false) × (new ≡ old)
IsNewTraffic (Some c) channel direction timeslot words erasures old answer new =
    let sacch = new_slot 3 direction (sacch_timeslot c timeslot) words erasures in
    (IsTrue answer ↔ ((timeslot < 8) × IsSome (settings_of sacch))) × (IsTrue answer → new ≡ new_traffic sacch channel)
    × (answer ≡ false → new ≡ old)

-- the call returns true and sets the receiver back, or false if a setting is out of range, and writes nothing
abbrev pub TrafficRestarts : (old : Traffic) (answer : Bool) (new : Traffic) → Type 0
TrafficRestarts old true new =
    IsSome (traffic_settings_of (new_traffic (restarted old.sacch) old.channel))
    × (new ≡ new_traffic (restarted old.sacch) old.channel)
TrafficRestarts old false new =
    (traffic_settings_of (new_traffic (restarted old.sacch) old.channel) ≡ None) × (new ≡ old)
