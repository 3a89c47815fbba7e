-- The answer to the bursts that a line makes ready to decode is the answer to the line.
use Rattle.{
  std.proofs.Common.{Bool, List, Ok, Err, Some, [], ap, arith, false, length, refl, sym},
  std.proofs.Common.{true, ℕ, ℤ, ◌++◌, ◌<◌, ◌∙◌, ◌∷◌, ◌≡◌},
  std.proofs.lemmas.Bool.{le-leb, lt-leb},
  um_driver.specs.um_lines.declared.fault.LineFault.LineFault,
  um_replay.specs.BurstRules.{BurstAnswers, answer_to_burst, answer_to_bursts, burst_rules},
  um_formats.{
    proofs.BurstLines.{burst_line_meaning, burst_line_refused},
    specs.{
      BurstLines.{BurstLineMeans, burst_line_fault},
      Held.{AddsNormalBurst, BurstBuffer, GivesBurstsToDecode, normal_burst_result},
      declared.{burst_lines.BurstLine.{TheVariants.{Access, Normal, Skip, Sync}, BurstLine}, held.BurstsToDecode.BurstsToDecode},
    },
  },
}

module _ (a : BurstAnswers) (old new : BurstBuffer) where
  normal_answered : (soft : List ℤ) (whole : Bool) → AddsNormalBurst old soft whole new →
      answer_to_burst a old.held (Normal soft) ≡ (answer_to_bursts a (normal_burst_result whole) new.slots, new.held)
  normal_answered soft false (held, few) = rw (← held, lt-leb 4 (length new.held) few) refl
  normal_answered soft true (slots, four, none) =
      let many : length (old.held ++ soft ∷ []) ≡ 4 = sym (ap length slots) ∙ four in
      rw (le-leb 4 (length (old.held ++ soft ∷ [])) (omega arith), slots, none) refl

  answered : (meaning : BurstLine) (next : BurstsToDecode) → GivesBurstsToDecode old meaning next new →
      answer_to_burst a old.held meaning ≡ (answer_to_bursts a next new.slots, new.held)
  answered Skip next (next_is, same) = rw (next_is, same) refl
  answered (Normal soft) next (whole, next_is, adds) = rw next_is (normal_answered soft whole adds)
  answered (Access bsic soft) next (next_is, same) = rw (next_is, same) refl
  answered (Sync soft) next (next_is, same) = rw (next_is, same) refl

  pub line_answered : (line text : List ℕ) (meaning : BurstLine) (next : BurstsToDecode) →
      BurstLineMeans (length old.held) line meaning →
      GivesBurstsToDecode old meaning next new → text ≡ answer_to_bursts a next new.slots →
      (burst_rules a).step old.held line ≡ Ok (text, new.held)
  line_answered line text meaning next means gives wrote =
      rw (burst_line_meaning (length old.held) line meaning means, answered meaning next gives, wrote) refl

pub line_refused : (a : BurstAnswers) (old : BurstBuffer) (line : List ℕ) (fault : LineFault) →
    burst_line_fault (length old.held) line ≡ Some fault → (burst_rules a).step old.held line ≡ Err fault
line_refused a old line fault bad = rw (burst_line_refused (length old.held) line fault bad) refl
