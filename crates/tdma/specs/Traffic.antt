-- The frames of a traffic channel and the blocks of FACCH in them (GSM 05.02, today 3GPP TS 45.002, section 7, table 1).
use Rattle.std.specs.Prelude.{ℕ, suc, ◌+◌, ◌-◌, ◌%◌, ◌==◌, ◌≡◌, ◌<◌, if◌then◌else◌}
use Rattle.std.specs.Prelude.{List, [], ◌∷◌, ◌++◌, map, length, slice_index, Option, Some, None, IsSome}
use Rattle.tdma.specs.declared.TheConstants.{HYPERFRAME}
use Rattle.tdma.specs.declared.channels.Direction.{Direction}
use Rattle.tdma.specs.declared.channels.Direction.TheVariants.{Downlink, Uplink}
use Rattle.tdma.specs.declared.traffic.TrafficChannel.{TrafficChannel}
use Rattle.tdma.specs.declared.traffic.TrafficChannel.TheVariants.{FullRate, HalfRate0, HalfRate1}
use Rattle.tdma.specs.declared.traffic.TrafficPlace.{TrafficPlace}
use Rattle.tdma.specs.Channels.{frames_from}

-- the frames of a 26-multiframe that carry the first of two half rate channels, in order; the second has the frames after these
abbrev pub half_rate_frames : List ℕ
half_rate_frames = 0 ∷ 2 ∷ 4 ∷ 6 ∷ 8 ∷ 10 ∷ 13 ∷ 15 ∷ 17 ∷ 19 ∷ 21 ∷ 23 ∷ []

-- the frames of a 26-multiframe that carry traffic, in order
abbrev pub traffic_frames : TrafficChannel → List ℕ
traffic_frames FullRate = frames_from 0 12 ++ frames_from 13 12
traffic_frames HalfRate0 = half_rate_frames
traffic_frames HalfRate1 = map suc half_rate_frames

-- the blocks of FACCH of the first of two half rate channels, each by its frames modulo 26
abbrev pub half_rate_blocks : Direction → List (List ℕ)
half_rate_blocks Uplink =
    (0 ∷ 2 ∷ 4 ∷ 6 ∷ 8 ∷ 10 ∷ []) ∷ (8 ∷ 10 ∷ 13 ∷ 15 ∷ 17 ∷ 19 ∷ [])
    ∷ (17 ∷ 19 ∷ 21 ∷ 23 ∷ 0 ∷ 2 ∷ []) ∷ []
half_rate_blocks Downlink =
    (4 ∷ 6 ∷ 8 ∷ 10 ∷ 13 ∷ 15 ∷ []) ∷ (13 ∷ 15 ∷ 17 ∷ 19 ∷ 21 ∷ 23 ∷ [])
    ∷ (21 ∷ 23 ∷ 0 ∷ 2 ∷ 4 ∷ 6 ∷ []) ∷ []

-- the blocks of FACCH, each by its frames modulo 26
abbrev pub facch_blocks : TrafficChannel → Direction → List (List ℕ)
facch_blocks FullRate direction =
    frames_from 0 8 ∷ frames_from 4 8 ∷ (frames_from 8 4 ++ frames_from 13 4) ∷ frames_from 13 8 ∷ frames_from 17 8
    ∷ (frames_from 21 4 ++ frames_from 0 4) ∷ []
facch_blocks HalfRate0 direction = half_rate_blocks direction
facch_blocks HalfRate1 direction = map (map suc) (half_rate_blocks direction)

-- where a frame stands first in a list whose elements are numbered from `n` on
abbrev pub number_from : (n frame : ℕ) (frames : List ℕ) → Option ℕ
number_from n frame [] = None
number_from n frame (f ∷ fs) = if f == frame then Some n else number_from (suc n) frame fs

-- the number of the traffic burst that a frame carries
abbrev pub traffic_burst : (channel : TrafficChannel) (frame : ℕ) → Option ℕ
traffic_burst c frame = number_from 0 (frame % 26) (traffic_frames c)

-- the number of the block of FACCH that begins in a frame
abbrev pub facch_that_begins : (channel : TrafficChannel) (direction : Direction) (frame : ℕ) → Option ℕ
facch_that_begins c d frame = number_from 0 (frame % 26) (map (λ block. slice_index block 0) (facch_blocks c d))

-- the number of the block of FACCH that ends in a frame
abbrev pub facch_that_ends : (channel : TrafficChannel) (direction : Direction) (frame : ℕ) → Option ℕ
facch_that_ends c d frame = number_from 0 (frame % 26) (map (λ block. slice_index block (length block - 1)) (facch_blocks c d))

-- a traffic burst, with the blocks of FACCH that begin and end with it
abbrev pub traffic_place_at : (begins ends burst : Option ℕ) → Option TrafficPlace
traffic_place_at begins ends None = None
traffic_place_at begins ends (Some burst) = Some (record { burst = burst; begins = begins; ends = ends })

-- the place of a frame in a traffic channel
abbrev pub traffic_place_of : (channel : TrafficChannel) (direction : Direction) (frame : ℕ) → Option TrafficPlace
traffic_place_of c d frame = traffic_place_at (facch_that_begins c d frame) (facch_that_ends c d frame) (traffic_burst c frame)

-- `next` is the first frame number, from `frame` on, in which a block of FACCH begins
pub record IsNextFacch (channel : TrafficChannel) (direction : Direction) (frame next : ℕ) : Type 0 where
  pub ahead : ℕ
  pub next_is : next ≡ (frame + ahead) % HYPERFRAME
  pub begins : IsSome (facch_that_begins channel direction next)
  pub none_before : (d : ℕ) → d < ahead → facch_that_begins channel direction ((frame + d) % HYPERFRAME) ≡ None

-- ## In numbers of traffic bursts: the tables again, by the rule that they follow

-- how many traffic channels share the traffic frames of a time slot, burst by burst
abbrev pub channels_in_slot : TrafficChannel → ℕ
channels_in_slot FullRate = 1
channels_in_slot _ = 2

-- the number of a traffic channel among these
abbrev pub subchannel_of : TrafficChannel → ℕ
subchannel_of HalfRate1 = 1
subchannel_of _ = 0

-- how many bursts carry a block of FACCH
abbrev pub facch_bursts : TrafficChannel → ℕ
facch_bursts FullRate = 8
facch_bursts _ = 6

-- the number of the first traffic burst in a multiframe with which a block of FACCH begins; each fourth burst from there on begins one
abbrev pub first_facch_burst : TrafficChannel → Direction → ℕ
first_facch_burst FullRate direction = 0
first_facch_burst c Uplink = 0
first_facch_burst c Downlink = 2
