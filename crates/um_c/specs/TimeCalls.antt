-- The C structs of frame numbers, synchronisation bursts and places, and what the calls answer.
use Rattle.std.specs.Prelude.{ℕ, ◌≡◌, ◌<◌, ◌/◌, ◌%◌, nat_lt, ◌&&◌, Bool, true, false, List, Option, Some}
use Rattle.std.specs.Prelude.{MatchOption}
use Rattle.um_slot.specs.tdma.Sync.{HasSch, sch_bits}
use Rattle.um_slot.specs.tdma.Channels.{IsNextBlock, BeginsBlock, place_of}
use Rattle.um_slot.specs.tdma.declared.TheConstants.{HYPERFRAME}
use Rattle.um_slot.specs.tdma.declared.channels.Combination.{Combination}
use Rattle.um_slot.specs.tdma.declared.channels.Direction.{Direction}
use Rattle.um_slot.specs.tdma.declared.channels.Channel.{Channel}
use Rattle.um_slot.specs.tdma.declared.places.Place.{Place}
use Rattle.um_slot.specs.tdma.declared.sync.SchInfo.{SchInfo}
use Rattle.um_slot.specs.Numbers.{channel_number}
use Rattle.um_c.specs.declared.times.CSch.{CSch}
use Rattle.um_c.specs.declared.places.CPlace.{CPlace}

-- what a synchronisation burst says, without the colour codes
abbrev pub sch_info : CSch → SchInfo
sch_info s = record { bsic = s.bsic; frame = s.frame }

-- the struct says what the 25 bits of a synchronisation burst say, with the colour codes of the BSIC (3GPP TS 23.003, section 4.3.2)
pub record ReportsSch (bits : List ℕ) (sch : CSch) : Type 0 where
  pub has_sch : HasSch (sch_info sch)
  pub same_bits : sch_bits (sch_info sch) ≡ bits
  pub ncc : sch.ncc ≡ sch.bsic / 8
  pub bcc : sch.bcc ≡ sch.bsic % 8

-- the struct of a place
abbrev pub c_place : Place → CPlace
c_place p = record {
  first = p.first;
  channel = channel_number p.position.channel;
  subchannel = p.position.subchannel;
  burst = p.position.burst;
}

-- whether there are such a time slot and frame number
abbrev pub are_in_hyperframe : (timeslot frame : ℕ) → Bool
are_in_hyperframe timeslot frame = nat_lt timeslot 8 && nat_lt frame HYPERFRAME

-- the call returns 0 and writes the place of the frame, or 1 if it has none, or 2 if there is no such combination, direction, time slot or
-- frame number
abbrev pub IsPlaceResult : (combination : Option Combination) (direction : Option Direction) (valid : Bool) (timeslot frame answer : ℕ)
    (before after : CPlace) → Type 0
IsPlaceResult (Some c) (Some d) true timeslot frame answer before after =
    MatchOption (place_of c d timeslot frame) ((answer ≡ 1) × (after ≡ before)) (λ p. (answer ≡ 0) × (after ≡ c_place p))
IsPlaceResult c d valid timeslot frame answer before after = (answer ≡ 2) × (after ≡ before)

-- the call returns true and writes the first frame number from `frame` on in which a block of the channel and subchannel begins; or false
-- if there is none, or an argument is out of range
abbrev pub IsNextResult : (combination : Option Combination) (direction : Option Direction) (channel : Option Channel) (valid : Bool)
    (timeslot subchannel frame : ℕ) (answer : Bool) (before after : ℕ) → Type 0
IsNextResult (Some c) (Some d) (Some channel) true timeslot subchannel frame true before after =
    IsNextBlock c d timeslot channel subchannel frame after
IsNextResult (Some c) (Some d) (Some channel) true timeslot subchannel frame false before after =
    ((f : ℕ) → f < HYPERFRAME → ¬ BeginsBlock c d timeslot channel subchannel f) × (after ≡ before)
IsNextResult c d channel valid timeslot subchannel frame answer before after = (answer ≡ false) × (after ≡ before)
