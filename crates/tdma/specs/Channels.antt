-- The channels of a time slot (GSM 05.02, today 3GPP TS 45.002, section 7, tables 1, 3 and 4): where the bursts of each block come.
use Rattle.std.specs.Prelude.{ℕ, zero, suc, ◌+◌, ◌-◌, ◌*◌, ◌/◌, ◌%◌, ◌==◌, nat_lt, ◌&&◌, if◌then◌else◌}
use Rattle.std.specs.Prelude.{List, [], ◌∷◌, ◌++◌, ◌≡◌, ◌<◌, Bool, true, false, Option, Some, None}
use Rattle.tdma.specs.declared.TheConstants.{HYPERFRAME}
use Rattle.tdma.specs.declared.channels.Combination.{Combination}
use Rattle.tdma.specs.declared.channels.Combination.TheVariants.{BcchCcch, BcchCcchSdcch4, Sdcch8, TchF, TchH}
use Rattle.tdma.specs.declared.channels.Direction.{Direction}
use Rattle.tdma.specs.declared.channels.Direction.TheVariants.{Downlink, Uplink}
use Rattle.tdma.specs.declared.channels.Channel.{Channel}
use Rattle.tdma.specs.declared.channels.Channel.TheVariants.{Sdcch, Sacch, Bcch, Ccch, Fcch, Sch, Rach}
use Rattle.tdma.specs.declared.schedule.Position.{Position}
use Rattle.tdma.specs.declared.places.Place.{Place}

-- a row of the tables: the block (or single burst) of a channel and subchannel begins in frame `first` of each `repeat_length` frames
pub record Mapping : Type 0 where
  pub channel : Channel
  pub subchannel : ℕ
  pub bursts : ℕ
  pub repeat_length : ℕ
  pub first : ℕ

-- rows with four bursts each, for subchannels (of CCCH: blocks) numbered upwards
abbrev pub blocks : (channel : Channel) (subchannel repeat_length : ℕ) (firsts : List ℕ) → List Mapping
blocks channel n length [] = []
blocks channel n length (f ∷ fs) =
    record { channel = channel; subchannel = n; bursts = 4; repeat_length = length; first = f } ∷ blocks channel (suc n) length fs

-- rows with one burst each, in every 51-multiframe
abbrev pub singles : (channel : Channel) (frames : List ℕ) → List Mapping
singles channel [] = []
singles channel (f ∷ fs) =
    record { channel = channel; subchannel = 0; bursts = 1; repeat_length = 51; first = f } ∷ singles channel fs

-- `count` frames in a row
abbrev pub frames_from : (first count : ℕ) → List ℕ
frames_from f zero = []
frames_from f (suc n) = f ∷ frames_from (suc f) n

-- frequency correction and synchronisation bursts, and BCCH
abbrev pub broadcast : List Mapping
broadcast =
    singles Fcch (0 ∷ 10 ∷ 20 ∷ 30 ∷ 40 ∷ []) ++ singles Sch (1 ∷ 11 ∷ 21 ∷ 31 ∷ 41 ∷ []) ++ blocks Bcch 0 51 (2 ∷ [])

-- the rows of a combination in a direction; only those of a traffic channel depend on the time slot
abbrev pub mappings : (combination : Combination) (direction : Direction) (timeslot : ℕ) → List Mapping
mappings BcchCcch Downlink timeslot =
    broadcast ++ blocks Ccch 0 51 (6 ∷ 12 ∷ 16 ∷ 22 ∷ 26 ∷ 32 ∷ 36 ∷ 42 ∷ 46 ∷ [])
mappings BcchCcch Uplink timeslot = singles Rach (frames_from 0 51)
mappings BcchCcchSdcch4 Downlink timeslot =
    broadcast ++ blocks Ccch 0 51 (6 ∷ 12 ∷ 16 ∷ []) ++ blocks Sdcch 0 51 (22 ∷ 26 ∷ 32 ∷ 36 ∷ [])
    ++ blocks Sacch 0 102 (42 ∷ 46 ∷ 93 ∷ 97 ∷ [])
mappings BcchCcchSdcch4 Uplink timeslot =
    blocks Sdcch 0 51 (37 ∷ 41 ∷ 47 ∷ 0 ∷ []) ++ blocks Sacch 0 102 (57 ∷ 61 ∷ 6 ∷ 10 ∷ [])
    ++ singles Rach (4 ∷ 5 ∷ frames_from 14 23 ++ 45 ∷ 46 ∷ [])
mappings Sdcch8 Downlink timeslot =
    blocks Sdcch 0 51 (0 ∷ 4 ∷ 8 ∷ 12 ∷ 16 ∷ 20 ∷ 24 ∷ 28 ∷ [])
    ++ blocks Sacch 0 102 (32 ∷ 36 ∷ 40 ∷ 44 ∷ 83 ∷ 87 ∷ 91 ∷ 95 ∷ [])
mappings Sdcch8 Uplink timeslot =
    blocks Sdcch 0 51 (15 ∷ 19 ∷ 23 ∷ 27 ∷ 31 ∷ 35 ∷ 39 ∷ 43 ∷ [])
    ++ blocks Sacch 0 102 (47 ∷ 51 ∷ 55 ∷ 59 ∷ 98 ∷ 0 ∷ 4 ∷ 8 ∷ [])
mappings TchF direction timeslot = blocks Sacch 0 104 ((12 + 13 * timeslot) ∷ [])
mappings TchH direction timeslot = blocks Sacch 0 104 ((12 + 26 * (timeslot / 2)) ∷ (25 + 26 * (timeslot / 2)) ∷ [])

-- whether the time slot has a traffic channel
abbrev pub is_traffic : Combination → Bool
is_traffic TchF = true
is_traffic TchH = true
is_traffic _ = false

-- how many frames after one burst of a block the next one comes
abbrev pub burst_spacing : Combination → ℕ
burst_spacing c = if is_traffic c then 26 else 1

-- how many frames a frame is after the last first burst of a row
abbrev pub frames_since : (mapping : Mapping) (frame : ℕ) → ℕ
frames_since m frame = (frame % m.repeat_length + m.repeat_length - m.first) % m.repeat_length

-- whether a frame carries a burst of a row
abbrev pub carries : (spacing : ℕ) (mapping : Mapping) (frame : ℕ) → Bool
carries spacing m frame = (frames_since m frame % spacing == 0) && nat_lt (frames_since m frame / spacing) m.bursts

-- the first of the rows of which a frame carries a burst, and which burst of its block
abbrev pub position_among : (spacing : ℕ) (rows : List Mapping) (frame : ℕ) → Option Position
position_among spacing [] frame = None
position_among spacing (m ∷ ms) frame =
    if carries spacing m frame
    then Some (record { channel = m.channel; subchannel = m.subchannel; burst = frames_since m frame / spacing })
    else position_among spacing ms frame

-- the channel and the burst that a frame carries
abbrev pub position_of : (combination : Combination) (direction : Direction) (timeslot frame : ℕ) → Option Position
position_of c direction timeslot frame = position_among (burst_spacing c) (mappings c direction timeslot) frame

-- a burst, with the frame number of the first burst of its block
abbrev pub place_at : (spacing frame : ℕ) (position : Option Position) → Option Place
place_at spacing frame None = None
place_at spacing frame (Some p) = Some (record { first = (frame + HYPERFRAME - spacing * p.burst) % HYPERFRAME; position = p })

-- the place of a frame
abbrev pub place_of : (combination : Combination) (direction : Direction) (timeslot frame : ℕ) → Option Place
place_of c direction timeslot frame = place_at (burst_spacing c) frame (position_of c direction timeslot frame)

-- a block (or single burst) of the channel and subchannel begins in a frame
abbrev pub BeginsBlock : (combination : Combination) (direction : Direction) (timeslot : ℕ) (channel : Channel)
    (subchannel frame : ℕ) →
    Type 0
BeginsBlock c direction timeslot channel subchannel frame =
    position_of c direction timeslot frame ≡ Some (record { channel = channel; subchannel = subchannel; burst = 0 })

-- `next` is the first frame number, from `frame` on, in which a block of the channel and subchannel begins; frame 0 follows the last frame
-- of the hyperframe
pub record IsNextBlock (combination : Combination) (direction : Direction) (timeslot : ℕ) (channel : Channel)
    (subchannel frame next : ℕ) :
    Type 0 where
  pub ahead : ℕ
  pub next_is : next ≡ (frame + ahead) % HYPERFRAME
  pub begins : BeginsBlock combination direction timeslot channel subchannel next
  pub none_before : (d : ℕ) → d < ahead → ¬ BeginsBlock combination direction timeslot channel subchannel ((frame + d) % HYPERFRAME)
