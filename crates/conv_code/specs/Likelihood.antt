-- The most likely encoder input for given soft bits (this project's own rule; GSM 05.03 leaves decoding open).
use Rattle.std.specs.Prelude.{ℕ, ◌≡◌, ◌≢◌, ◌<◌, ◌*◌, ◌⊎◌, ℤ, ◌<ℤ◌, List, length, slice_index}
use Rattle.conv_code.specs.Code.{encoding, IsEncoderInput}
pub use Rattle.bit_blocks.specs.SoftValues.{AllSoftBits, bit_metric, likelihood}

-- `first` precedes `second` in lexicographic order: at the first index where they differ, `first` has 0
pub record IsLexicographicallyBefore (first second : List ℕ) : Type 0 where
  pub place : ℕ
  pub in_range : place < length first
  pub equal_before : (j : ℕ) → j < place → slice_index first j ≡ slice_index second j
  pub zero : slice_index first place ≡ 0
  pub differs : slice_index second place ≢ 0

-- `later` ranks after `earlier` for given soft bits: its path metric is smaller, or the metrics are equal and it comes later in
-- lexicographic order
abbrev pub RanksAfter : (soft : List ℤ) (later earlier : List ℕ) → Type 0
RanksAfter s v u =
    (likelihood s (encoding v) <ℤ likelihood s (encoding u)) ⊎
    ((likelihood s (encoding v) ≡ likelihood s (encoding u)) × IsLexicographicallyBefore u v)

-- `word` is the most likely encoder input for the soft bits `soft`: it has the greatest path metric of all encoder inputs of its length;
-- among inputs with equal metrics, it comes first in lexicographic order
pub record IsMostLikely (soft : List ℤ) (word : List ℕ) : Type 0 where
  pub information : IsEncoderInput word
  pub count : length soft ≡ 2 * length word
  pub others : (v : List ℕ) → IsEncoderInput v → length v ≡ length word → v ≢ word → RanksAfter soft v word
