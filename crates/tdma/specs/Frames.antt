-- TDMA frame numbers (GSM 05.02, today 3GPP TS 45.002, sections 3.3.2.2 and 4.3.3): a hyperframe has 2048 superframes of 26 * 51 frames.
use Rattle.std.specs.Prelude.{ℕ, ◌≡◌, ◌<◌, ◌/◌, ◌%◌}
use Rattle.tdma.specs.declared.TheConstants.{HYPERFRAME}
use Rattle.tdma.specs.declared.frames.FrameTime.{FrameTime}

-- T1, T2 and T3 of a frame number
abbrev pub time_of : (frame : ℕ) → FrameTime
time_of frame = record { t1 = frame / 1326; t2 = frame % 26; t3 = frame % 51 }

-- the frame number has this T1, T2 and T3
abbrev pub IsFrameAt : (time : FrameTime) (frame : ℕ) → Type 0
IsFrameAt time frame = (frame < HYPERFRAME) × (time_of frame ≡ time)
