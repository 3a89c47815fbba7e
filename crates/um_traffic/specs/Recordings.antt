-- What a receiver of a traffic channel reports of a recording (this project's own rule): each block of FACCH of which a burst came or was
-- missed, once, in order, with the bursts that came.
use Rattle.std.specs.Prelude.{ℕ, ◌≡◌, ◌≢◌, ◌<◌, ◌≤◌, ◌+◌, ◌/◌, ◌%◌, ◌==◌}
use Rattle.std.specs.Prelude.{nat_lt, if◌then◌else◌, ℤ, pos}
use Rattle.std.specs.Prelude.{List, [], ◌∷◌, ◌++◌, map, replicate, Option, Some, None, Ok}
use Rattle.std.specs.List.{range_with_len}
use Rattle.um_slot.specs.tdma.declared.TheConstants.{HYPERFRAME}
use Rattle.um_slot.specs.tdma.declared.traffic.TrafficChannel.{TrafficChannel}
use Rattle.um_slot.specs.tdma.Traffic.{facch_bursts, first_facch_burst, traffic_burst}
use Rattle.um_slot.specs.Recordings.{Frame}
use Rattle.um_slot.specs.declared.slots.Slot.{Slot}
use Rattle.um_traffic.specs.Receivers.{EndsWith, Takes, burst_number, bursts_in_hyperframe, frame_of_burst, heard_bursts}
use Rattle.um_traffic.specs.Receivers.{traffic_settings_of}
use Rattle.um_traffic.specs.declared.receivers.Traffic.{Traffic}
use Rattle.um_traffic.specs.declared.receivers.FinishedFacch.{FinishedFacch}
use Rattle.um_traffic.specs.declared.receivers.Heard.{Heard}
use Rattle.um_traffic.specs.declared.receivers.Heard.TheVariants.{Taken, Finished, Earlier}
use Rattle.um_traffic.specs.declared.settings.TrafficSettings.{TrafficSettings}

-- ## Traffic bursts

-- the burst of a traffic frame: its number, counted on from one hyperframe to the next; 1 if it came and 0 if not; and its soft bits,
-- zeros if it did not come
pub record Numbered : Type 0 where
  pub number : ℕ
  pub came : ℕ
  pub burst : List ℤ

abbrev pub numbered_at : (channel : TrafficChannel) (burst_in_multiframe : Option ℕ) (frame : Frame) (later : List Numbered) →
    List Numbered
numbered_at c None f later = later
numbered_at c (Some b) f later =
    record { number = burst_number c f.time b; came = f.came; burst = f.burst } ∷ later

-- the bursts of those frames that carry traffic
abbrev pub numbered : (channel : TrafficChannel) (frames : List Frame) → List Numbered
numbered c [] = []
numbered c (f ∷ fs) = numbered_at c (traffic_burst c (f.time % HYPERFRAME)) f (numbered c fs)

-- they come in order, each at most half a hyperframe after the one before
abbrev pub Follow : (channel : TrafficChannel) (last : ℕ) (bursts : List Numbered) → Type 0
Follow c last [] = Unit {0}
Follow c last (b ∷ bs) = (last < b.number) × (b.number ≤ last + bursts_in_hyperframe c / 2) × Follow c b.number bs

-- ## Blocks

-- the value of burst number `number`, `none` if it is not among these
abbrev pub value_at : {X : Type 0} (none : X) (value : Numbered → X) (bursts : List Numbered) (number : ℕ) → X
value_at none value [] n = none
value_at none value (b ∷ bs) n = if b.number == n then value b else value_at none value bs n

-- the same of burst number `index` of the block that begins with burst number `first`, and `none` after its last burst
abbrev pub row_of : {X : Type 0} (none : X) (value : Numbered → X) (channel : TrafficChannel) (bursts : List Numbered)
    (first index : ℕ) → X
row_of none value c bs first i = if nat_lt i (facch_bursts c) then value_at none value bs (first + i) else none

-- of at most eight bursts of the block
abbrev pub rows_of : {X : Type 0} (none : X) (value : Numbered → X) (channel : TrafficChannel) (bursts : List Numbered)
    (first : ℕ) → List X
rows_of none value c bs first = map (row_of none value c bs first) (range_with_len 0 8)

-- the mark of a burst: 1 if it was missed, and 2 if it came
abbrev pub mark : Numbered → ℕ
mark b = b.came + 1

abbrev pub marks_of : (channel : TrafficChannel) (bursts : List Numbered) (first : ℕ) → List ℕ
marks_of c bs first = rows_of 0 mark c bs first

abbrev pub soft_bits : Numbered → List ℤ
soft_bits b = b.burst

abbrev pub bursts_of : (channel : TrafficChannel) (bursts : List Numbered) (first : ℕ) → List (List ℤ)
bursts_of c bs first = rows_of (replicate 148 (pos 0)) soft_bits c bs first

-- a burst that carries a half of the block came or was missed
abbrev pub IsCarried : (channel : TrafficChannel) (bursts : List Numbered) (first : ℕ) → Type 0
IsCarried c bs first = (i : ℕ) × (i < facch_bursts c) × (value_at 0 mark bs (first + i) ≢ 0)

-- a block of FACCH begins with burst number `first`
abbrev pub Begins : (settings : TrafficSettings) (first : ℕ) → Type 0
Begins st first = first % 4 ≡ first_facch_burst st.channel st.direction

-- `next` is the next block after `last` of which a burst came or was missed
pub record IsNextBlock (settings : TrafficSettings) (bursts : List Numbered) (last next : ℕ) : Type 0 where
  pub after : last < next
  pub begins : Begins settings next
  pub carried : IsCarried settings.channel bursts next
  pub none_between : (n : ℕ) → last < n → n < next → Begins settings n → ¬ (IsCarried settings.channel bursts n)

-- ## Reports

-- what a receiver reports: a block, and the eight bursts of its state
pub record Report : Type 0 where
  pub finished : FinishedFacch
  pub bursts : List (List ℤ)

-- the report has the frame of the block's first burst, the number of its bursts that came, and the bursts, with zeros where none came
pub record IsReportOf (settings : TrafficSettings) (bursts : List Numbered) (first : ℕ) (report : Report) : Type 0 where
  pub channel : report.finished.channel ≡ settings.channel
  pub first_frame : report.finished.first ≡ frame_of_burst settings.channel (first % bursts_in_hyperframe settings.channel)
  pub heard : report.finished.heard ≡ heard_bursts (marks_of settings.channel bursts first)
  pub soft : report.bursts ≡ bursts_of settings.channel bursts first

-- the reports are those of all blocks after `last` of which a burst came or was missed: one each, in order
abbrev pub AreReportsOf : (settings : TrafficSettings) (bursts : List Numbered) (last : ℕ) (reports : List Report) → Type 0
AreReportsOf st bs last [] = (n : ℕ) → last < n → Begins st n → ¬ (IsCarried st.channel bs n)
AreReportsOf st bs last (r ∷ rs) = (n : ℕ) × IsNextBlock st bs last n × IsReportOf st bs n r × AreReportsOf st bs n rs

-- ## Runs

-- what an answer reports
abbrev pub reports_of : (answer : Option Heard) (bursts : List (List ℤ)) → List Report
reports_of None bursts = []
reports_of (Some Taken) bursts = []
reports_of (Some (Finished b)) bursts = record { finished = b; bursts = bursts } ∷ []
reports_of (Some (Earlier b)) bursts = record { finished = b; bursts = bursts } ∷ []

-- the frames that are still to be given: one that ended an earlier block is given again
abbrev pub frames_left : (answer : Option Heard) (frame : Frame) (later : List Frame) → List Frame
frames_left None f later = later
frames_left (Some Taken) f later = later
frames_left (Some (Finished b)) f later = later
frames_left (Some (Earlier b)) f later = f ∷ later

-- before a call the receiver of the SACCH may have changed, but for its direction
abbrev pub CanPrecede : (old : Traffic) (sacch : Slot) → Type 0
CanPrecede old sacch = sacch.direction ≡ old.sacch.direction

-- a call takes a frame, with this answer
pub record HearsOne (old : Traffic) (frame : Frame) (answer : Option Heard) (new : Traffic) : Type 0 where
  pub sacch : Slot
  pub same : CanPrecede old sacch
  pub takes : Takes (record old { sacch = sacch }) (frame.time % HYPERFRAME) frame.came frame.burst (Ok answer) new

-- calls with these answers take some frames one after another, with these reports
abbrev pub Hears : (old : Traffic) (answers : List (Option Heard)) (frames : List Frame) (reports : List Report)
    (new : Traffic) → Type 0
Hears old [] frames reports new = (frames ≡ []) × (reports ≡ []) × (new ≡ old)
Hears old (a ∷ more) frames reports new =
    (f : Frame) × (fs : List Frame) × (mid : Traffic) × (later : List Report) × (frames ≡ f ∷ fs) × HearsOne old f a mid
    × (reports ≡ reports_of a mid.bursts ++ later) × Hears mid more (frames_left a f fs) later new

-- a call ends a block, with this answer
pub record HearsEnd (old : Traffic) (answer : Heard) (new : Traffic) : Type 0 where
  pub sacch : Slot
  pub same : CanPrecede old sacch
  pub ends :
      let now : Traffic = record old { sacch = sacch } in EndsWith (traffic_settings_of now) now (Ok answer) new

-- calls end one block after another, with these reports, until there is none
abbrev pub HearsEnds : (old : Traffic) (reports : List Report) (new : Traffic) → Type 0
HearsEnds old [] new = HearsEnd old Taken new
HearsEnds old (r ∷ rs) new =
    (mid : Traffic) × HearsEnd old (Earlier r.finished) mid × (r.bursts ≡ mid.bursts) × HearsEnds mid rs new
