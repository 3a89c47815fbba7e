-- Codewords of the Fire code (GSM 05.03 section 4.1.2) that differ from 224 received bits only by a short error burst (this project's
-- own rule).
use Rattle.std.specs.Prelude.{ℕ, ◌≡◌, ◌≢◌, ◌+◌, ◌<◌, ◌≤◌, List, length, slice_index}
use Rattle.fire_code.specs.bit_blocks.Bits.{AllBits}
use Rattle.fire_code.specs.Words.{IsXcchCodeword}

-- `repaired` is a repair of `received`: `received` is not a codeword, `repaired` is one, and they differ only within twelve consecutive
-- bits
pub record IsRepair (received repaired : List ℕ) : Type 0 where
  pub count : length received ≡ 224
  pub bits : AllBits received
  pub not_codeword : IsXcchCodeword received → ⊥
  pub codeword : IsXcchCodeword repaired
  pub start : ℕ
  pub changes_within_twelve_bits : (k : ℕ) → slice_index received k ≢ slice_index repaired k → (start ≤ k) × (k < start + 12)

-- `received` and `repaired` differ at bit `first` and at the last of the `span` bits that begin there, and nowhere outside these bits
pub record IsSpanOfChangedBits (received repaired : List ℕ) (first span : ℕ) : Type 0 where
  pub nonzero : 1 ≤ span
  pub first_differs : slice_index received first ≢ slice_index repaired first
  pub last_differs : (last : ℕ) → last + 1 ≡ first + span → slice_index received last ≢ slice_index repaired last
  pub none_outside : (k : ℕ) → slice_index received k ≢ slice_index repaired k → (first ≤ k) × (k < first + span)

-- 224 received bits have at most one repair
abbrev pub EachWordHasAtMostOneRepair : Type 0
EachWordHasAtMostOneRepair = (w v v' : List ℕ) → IsRepair w v → IsRepair w v' → v ≡ v'
