-- What a receiver of a time slot reports of a recording (this project's own rule): each block of which a frame was taken or missed, once,
-- in order, with the bursts that came.
use Rattle.std.specs.Prelude.{ℕ, ◌≡◌, ◌≢◌, ◌<◌, ◌≤◌, ◌+◌, ◌*◌, ◌%◌, min, ℤ, pos, List, []}
use Rattle.std.specs.Prelude.{◌∷◌, ◌++◌, replicate, slice_set}
use Rattle.std.specs.Prelude.{Option, Some, None, Ok}
use Rattle.std.specs.List.{All}
use Rattle.tdma.specs.declared.TheConstants.{HYPERFRAME}
use Rattle.tdma.specs.declared.places.Place.{Place}
use Rattle.tdma.specs.Channels.{burst_spacing}
use Rattle.um_slot.specs.Slots.{EndsWith, Takes, block_of_frame, settings_of}
use Rattle.um_slot.specs.declared.settings.Settings.{Settings}
use Rattle.um_slot.specs.declared.slots.FinishedBlock.{FinishedBlock}
use Rattle.um_slot.specs.declared.slots.Slot.{Slot}

-- ## Frames and their blocks

-- a frame that a receiver is given: its number, counted on from one hyperframe to the next; 1 if its burst came and 0 if not; and the
-- burst, which is zeros if it did not come
pub record Frame : Type 0 where
  pub time : ℕ
  pub came : ℕ
  pub burst : List ℤ

-- a frame that carries a burst of a block
pub record Placed : Type 0 where
  pub place : Place
  pub frame : Frame

-- the frames that carry a burst of a block
abbrev pub placed_at : (place : Option Place) (frame : Frame) (later : List Placed) → List Placed
placed_at None frame later = later
placed_at (Some place) frame later = record { place = place; frame = frame } ∷ later

abbrev pub placed : (settings : Settings) (timeslot : ℕ) (frames : List Frame) → List Placed
placed settings timeslot [] = []
placed settings timeslot (f ∷ fs) =
    placed_at (block_of_frame settings.combination settings.direction timeslot (f.time % HYPERFRAME)) f (placed settings timeslot fs)

-- they come in order, each at most half a hyperframe after the one before
abbrev pub Follow : (last : ℕ) (frames : List Placed) → Type 0
Follow last [] = Unit {0}
Follow last (f ∷ fs) = (last < f.frame.time) × (f.frame.time ≤ last + 1357824) × Follow f.frame.time fs

-- a block of a recording: the number of its first frame, counted on as those of the frames are, and its frames
pub record Block : Type 0 where
  pub first : ℕ
  pub frames : List Placed

-- the frame is of the block that begins in frame number `first`
abbrev pub IsOf : (spacing first : ℕ) (frame : Placed) → Type 0
IsOf spacing first f = f.frame.time ≡ first + spacing * f.place.position.burst

-- the frames of some blocks, in order
abbrev pub frames_of : List Block → List Placed
frames_of [] = []
frames_of (b ∷ bs) = b.frames ++ frames_of bs

-- each block has at least one frame, and only frames that are of it
abbrev pub AreBlocks : (spacing : ℕ) (blocks : List Block) → Type 0
AreBlocks spacing [] = Unit {0}
AreBlocks spacing (b ∷ bs) = (b.frames ≢ []) × All (IsOf spacing b.first) b.frames × AreBlocks spacing bs

-- each block begins after the one before
abbrev pub Ascend : (last : ℕ) (blocks : List Block) → Type 0
Ascend last [] = Unit {0}
Ascend last (b ∷ bs) = (last < b.first) × Ascend b.first bs

-- ## Reports

-- what a receiver reports: a block, and its four bursts
pub record Report : Type 0 where
  pub finished : FinishedBlock
  pub bursts : List (List ℤ)

-- how many bursts of some frames came
abbrev pub count_came : List Placed → ℕ
count_came [] = 0
count_came (f ∷ fs) = f.frame.came + count_came fs

-- the bursts of a block with those of some frames
abbrev pub with_frames : (bursts : List (List ℤ)) (frames : List Placed) → List (List ℤ)
with_frames bursts [] = bursts
with_frames bursts (f ∷ fs) = with_frames (slice_set bursts f.place.position.burst f.frame.burst) fs

-- the report has the block's place, the number of its bursts that came, and the bursts, with zeros where none came
pub record IsReportOf (block : Block) (report : Report) : Type 0 where
  pub first : report.finished.place.first ≡ block.first % HYPERFRAME
  pub heard : report.finished.heard ≡ min (count_came block.frames) 4
  pub bursts : report.bursts ≡ with_frames (replicate 4 (replicate 148 (pos 0))) block.frames

-- the reports are those of the blocks, one each, in order
abbrev pub AreReportsOf : (blocks : List Block) (reports : List Report) → Type 0
AreReportsOf [] [] = Unit {0}
AreReportsOf (b ∷ bs) (r ∷ rs) = IsReportOf b r × AreReportsOf bs rs
AreReportsOf bs rs = ⊥

-- ## Runs

-- what a call gives, as reports
abbrev pub given : (finished : Option FinishedBlock) (bursts : List (List ℤ)) → List Report
given None bursts = []
given (Some f) bursts = record { finished = f; bursts = bursts } ∷ []

-- a call takes a frame, with these reports
pub record HearsOne (old : Slot) (frame : Frame) (reports : List Report) (new : Slot) : Type 0 where
  pub finished : Option FinishedBlock
  pub before : List (List ℤ)
  pub done : List (List ℤ)
  pub takes : Takes old (frame.time % HYPERFRAME) frame.came frame.burst before (Ok finished) new done
  pub gives : reports ≡ given finished done

-- calls take some frames one after another, with these reports
abbrev pub Hears : (old : Slot) (frames : List Frame) (reports : List Report) (new : Slot) → Type 0
Hears old [] reports new = (reports ≡ []) × (new ≡ old)
Hears old (f ∷ fs) reports new =
    (mid : Slot) × (first later : List Report) × HearsOne old f first mid × (reports ≡ first ++ later) × Hears mid fs later new

-- a call ends the recording, with these reports
pub record HearsEnd (old : Slot) (reports : List Report) (new : Slot) : Type 0 where
  pub finished : Option FinishedBlock
  pub before : List (List ℤ)
  pub ends : EndsWith (settings_of old) old before (Ok finished) new
  pub gives : reports ≡ given finished new.bursts

-- the reports are those of all blocks of which there are frames: each block once, in order, with all of its frames
pub record AreOfRecording (settings : Settings) (timeslot last : ℕ) (frames : List Frame) (reports : List Report) : Type 0 where
  pub blocks : List Block
  pub frames_are : frames_of blocks ≡ placed settings timeslot frames
  pub are_blocks : AreBlocks (burst_spacing settings.combination) blocks
  pub ascend : Ascend last blocks
  pub reported : AreReportsOf blocks reports
