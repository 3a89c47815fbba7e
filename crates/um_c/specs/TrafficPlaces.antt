-- The C struct of a frame of a traffic channel, and what the calls answer.
use Rattle.std.specs.Prelude.{ℕ, ◌≡◌, Bool, true, false, Option, Some, None, MatchOption}
use Rattle.um_slot.specs.tdma.Traffic.{IsNextFacch, traffic_place_of}
use Rattle.um_slot.specs.tdma.declared.channels.Direction.{Direction}
use Rattle.um_slot.specs.tdma.declared.traffic.TrafficChannel.{TrafficChannel}
use Rattle.um_slot.specs.tdma.declared.traffic.TrafficPlace.{TrafficPlace}
use Rattle.um_c.specs.declared.traffic_places.CTrafficPlace.{CTrafficPlace}

-- the number of a block, or 255 for none
abbrev pub number_or_none : Option ℕ → ℕ
number_or_none (Some n) = n
number_or_none None = 255

-- the struct of a place
abbrev pub c_traffic_place : TrafficPlace → CTrafficPlace
c_traffic_place p = record { burst = p.burst; begins = number_or_none p.begins; ends = number_or_none p.ends }

-- the call returns 0 and writes the place of the frame, or 1 if it has none, or 2 if there is no such channel, direction or frame number
abbrev pub IsTrafficPlaceResult : (channel : Option TrafficChannel) (direction : Option Direction) (valid : Bool) (frame answer : ℕ)
    (before after : CTrafficPlace) → Type 0
IsTrafficPlaceResult (Some c) (Some d) true frame answer before after =
    MatchOption (traffic_place_of c d frame) ((answer ≡ 1) × (after ≡ before)) (λ p. (answer ≡ 0) × (after ≡ c_traffic_place p))
IsTrafficPlaceResult c d valid frame answer before after = (answer ≡ 2) × (after ≡ before)

-- the call returns true and writes the first frame number from `frame` on in which a block of FACCH begins; or false, and writes nothing,
-- if there is no such channel, direction or frame number
abbrev pub IsNextFacchResult : (channel : Option TrafficChannel) (direction : Option Direction) (valid : Bool) (frame : ℕ)
    (answer : Bool) (before after : ℕ) → Type 0
IsNextFacchResult (Some c) (Some d) true frame answer before after = (answer ≡ true) × IsNextFacch c d frame after
IsNextFacchResult c d valid frame answer before after = (answer ≡ false) × (after ≡ before)
