-- A worked recording: of a full rate channel traffic bursts 0 and 12 come, counted from a hyperframe on. Each carries halves of two blocks,
-- and burst 12 is given three times, since it shows that two blocks have ended. And what are no reports of a recording.
use Rattle.{
  std.proofs.Common.{List, Some, [], arith, pos, refl, replicate, set, ℕ, ℤ, ◌+◌, ◌∷◌},
  tdma.specs.declared.channels.Direction.TheVariants.Downlink,
  tdma.specs.declared.traffic.TrafficChannel.TheVariants.FullRate,
  um_slot.specs.Recordings.Frame,
  um_slot.specs.Slots.new_slot,
  um_traffic.specs.Receivers.new_traffic,
  um_traffic.specs.Recordings.{AreReportsOf, Follow, Hears, HearsEnds, IsNextBlock, IsReportOf, Report, numbered},
  um_traffic.specs.declared.receivers.Heard.TheVariants.{Earlier, Taken},
  um_traffic.specs.declared.receivers.Traffic.Traffic,
  um_traffic.specs.declared.settings.TrafficSettings.TrafficSettings,
}

abbrev full_rate : TrafficSettings
full_rate = record { channel = FullRate; direction = Downlink }

abbrev fresh : Traffic
fresh = new_traffic (new_slot 3 0 0 1 0) 0

abbrev frame : (number : ℕ) (burst : List ℤ) → Frame
frame n x = record { time = 2715648 + n; came = 1; burst = x }

abbrev zeros : List (List ℤ)
zeros = replicate 8 (replicate 148 (pos 0))

abbrev marks : List ℕ
marks = replicate 8 0

-- a block of which one burst came
abbrev report : (first : ℕ) (bursts : List (List ℤ)) → Report
report first bursts = record { finished = record { channel = FullRate; first = first; heard = 1 }; bursts = bursts }

-- the receiver with a burst of the block that begins with burst number `first`
abbrev with_one : (last first ended index : ℕ) (burst : List ℤ) → Traffic
with_one last first ended i x = record fresh {
  sacch = record fresh.sacch { last = last };
  first = first;
  ended = ended;
  came = set marks i 2;
  bursts = set zeros i x;
}

module _ (a b : List ℤ) where
  abbrev frames : List Frame
  frames = frame 0 a ∷ frame 13 b ∷ []

  worked : Hears fresh
      (Some Taken ∷ Some (Earlier (report 2715643 []).finished) ∷ Some (Earlier (report 0 []).finished) ∷ Some Taken ∷ []) frames
      (report 2715643 (set zeros 4 a) ∷ report 0 (set zeros 0 a) ∷ []) (with_one 13 8 0 4 b)
  worked = (
    frame 0 a,
    frame 13 b ∷ [],
    with_one 0 2506748 0 4 a,
    report 2715643 (set zeros 4 a) ∷ report 0 (set zeros 0 a) ∷ [],
    refl,
    record { sacch = fresh.sacch; same = refl; takes = (refl, refl) },
    refl,
    (
      frame 13 b,
      [],
      with_one 0 2506748 1 4 a,
      report 0 (set zeros 0 a) ∷ [],
      refl,
      record { sacch = (with_one 0 0 0 0 a).sacch; same = refl; takes = (refl, refl) },
      refl,
      (
        frame 13 b,
        [],
        with_one 0 0 1 0 a,
        [],
        refl,
        record { sacch = (with_one 0 0 0 0 a).sacch; same = refl; takes = (refl, refl) },
        refl,
        (
          frame 13 b,
          [],
          with_one 13 8 0 4 b,
          [],
          refl,
          record { sacch = (with_one 0 0 0 0 a).sacch; same = refl; takes = (refl, refl) },
          refl,
          (refl, refl, refl),
        ),
      ),
    ),
  )

  abbrev nothing : Traffic
  nothing = record fresh { sacch = (with_one 13 0 0 0 b).sacch }

  worked_end : HearsEnds (with_one 13 8 0 4 b) (report 8 (set zeros 4 b) ∷ report 13 (set zeros 0 b) ∷ []) nothing
  worked_end = (
    with_one 13 8 1 4 b,
    record { sacch = nothing.sacch; same = refl; ends = (refl, refl) },
    refl,
    (
      with_one 13 12 1 0 b,
      record { sacch = nothing.sacch; same = refl; ends = (refl, refl) },
      refl,
      record { sacch = nothing.sacch; same = refl; ends = (refl, refl) },
    ),
  )

  worked_order : Follow FullRate 2506751 (numbered FullRate frames)
  worked_order = (omega arith, omega arith, (omega arith, omega arith, tt {0}))

-- a frame that is doubled follows none
doubled : (x y : List ℤ) → ¬ Follow FullRate 2506751 (numbered FullRate (frame 0 x ∷ frame 0 y ∷ []))
doubled x y h = omega (arith, h.2)

-- of a block of which a burst came something is reported
nothing_reported : (x : List ℤ) → ¬ AreReportsOf full_rate (numbered FullRate (frame 0 x ∷ [])) 0 []
nothing_reported x h = h 2506752 (omega arith) refl (0, omega arith, λ e. omega (arith, e))

-- and not the later of its two blocks alone
first_left_out : (x : List ℤ) (r : Report) → ¬ IsNextBlock full_rate (numbered FullRate (frame 0 x ∷ [])) 0 2506752
first_left_out x r h = h.none_between 2506748 (omega arith) (omega arith) refl (4, omega arith, λ e. omega (arith, e))

-- nor that none of its bursts came
none_heard : (x : List ℤ) (bursts : List (List ℤ)) →
    ¬ IsReportOf full_rate (numbered FullRate (frame 0 x ∷ [])) 2506752
    (record { finished = record { channel = FullRate; first = 0; heard = 0 }; bursts = bursts })
none_heard x bursts h = let e = h.heard in omega (arith, e)
