-- A worked recording: of SDCCH/8 in the downlink the frames 0, 1, 2 and 7 come, counted from a hyperframe on. The last one is the fourth of
-- the block that begins in frame 4, and shows that the fourth burst of the block before never came. And what is no report of a recording.
use Rattle.{
  std.proofs.Common.{List, None, Some, [], arith, pos, refl, replicate, set, ℕ, ℤ, ◌+◌, ◌∷◌, ◌≡◌},
  tdma.specs.declared.{channels.{Channel.TheVariants.Sdcch, Combination.TheVariants.Sdcch8, Direction.TheVariants.Downlink}},
  um_slot.specs.Recordings.{AreOfRecording, AreReportsOf, Block, Follow, Frame, Hears, HearsEnd, Placed, Report, placed},
  um_slot.specs.{Slots.{new_slot}, declared.{settings.Settings.Settings, slots.Slot.Slot}},
}

abbrev sdcch8 : Settings
sdcch8 = record { combination = Sdcch8; direction = Downlink; collecting = None }

abbrev fresh : Slot
fresh = new_slot 2 0 0 1 0

abbrev frame : (number : ℕ) (burst : List ℤ) → Frame
frame n x = record { time = 2715648 + n; came = 1; burst = x }

abbrev zeros : List (List ℤ)
zeros = replicate 4 (replicate 148 (pos 0))

-- a block of which so many bursts came
abbrev report : (first subchannel heard : ℕ) (bursts : List (List ℤ)) → Report
report first n heard bursts = record {
  finished = record {
    place = record { first = first; position = record { channel = Sdcch; subchannel = n; burst = 0 } };
    heard = heard;
  };
  bursts = bursts;
}

module _ (a b c d : List ℤ) where
  abbrev frames : List Frame
  frames = frame 0 a ∷ frame 1 b ∷ frame 2 c ∷ frame 7 d ∷ []

  abbrev three : List (List ℤ)
  three = set (set (set zeros 0 a) 1 b) 2 c

  abbrev after : Slot
  after = record fresh { last = 7; first = 4; heard = 1; bursts = set zeros 3 d }

  worked : Hears fresh frames (report 0 0 3 three ∷ []) after
  worked = (
    record fresh { last = 0; first = 0; heard = 1; bursts = set zeros 0 a },
    [],
    report 0 0 3 three ∷ [],
    record { finished = None; before = []; done = []; takes = (refl, refl, refl); gives = refl },
    refl,
    (
      record fresh { last = 1; first = 0; heard = 2; bursts = set (set zeros 0 a) 1 b },
      [],
      report 0 0 3 three ∷ [],
      record { finished = None; before = []; done = []; takes = (refl, refl, refl); gives = refl },
      refl,
      (
        record fresh { last = 2; first = 0; heard = 3; bursts = three },
        [],
        report 0 0 3 three ∷ [],
        record { finished = None; before = []; done = []; takes = (refl, refl, refl); gives = refl },
        refl,
        (
          after,
          report 0 0 3 three ∷ [],
          [],
          record {
            finished = Some (report 0 0 3 three).finished;
            before = [];
            done = three;
            takes = (refl, refl, refl);
            gives = refl;
          },
          refl,
          (refl, refl),
        ),
      ),
    ),
  )

  worked_end : HearsEnd after (report 4 1 1 (set zeros 3 d) ∷ []) (record after { first = 2715648 })
  worked_end = record { finished = Some (report 4 1 1 zeros).finished; before = []; ends = (refl, refl, refl); gives = refl }

  worked_order : Follow 2715647 (placed sdcch8 0 frames)
  worked_order = (
    omega arith,
    omega arith,
    (omega arith, omega arith, (omega arith, omega arith, (omega arith, omega arith, tt {0}))),
  )

-- a frame that is doubled follows none
doubled : (x y : List ℤ) → ¬ Follow 2715647 (placed sdcch8 0 (frame 0 x ∷ frame 0 y ∷ []))
doubled x y h = omega (arith, h.2)

none_reported : (blocks : List Block) → AreReportsOf blocks [] → blocks ≡ []
none_reported [] h = refl
none_reported (b ∷ bs) h = absurd h

-- a frame of a block of which nothing is reported is no recording
nothing_reported : (x : List ℤ) → ¬ AreOfRecording sdcch8 0 0 (frame 0 x ∷ []) []
nothing_reported x h =
    let none : h.blocks ≡ [] = none_reported h.blocks h.reported in
    let frames : (let nothing : List Placed = [] in nothing) ≡ placed sdcch8 0 (frame 0 x ∷ []) =
    rw none at h.frames_are in absurd cc
