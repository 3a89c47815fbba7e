-- The bursts that are sent: information bits, their CRC and four tail bits are convolutionally coded and placed in bursts.
use Rattle.std.specs.Prelude.{ℕ, ◌≡◌, ◌≤◌, List, ◌++◌, length, map, take, drop, replicate}
use Rattle.bit_blocks.specs.Octets.{AllOctets, bits_of}
use Rattle.fire_code.specs.Words.{IsXcchCodeword, IsRachCodeword, IsSchCodeword}
use Rattle.conv_code.specs.Code.{encoding}
use Rattle.interleave.specs.Bursts.{IsInterleaved}
use Rattle.burst_map.specs.NormalBurst.{normal_burst}
use Rattle.burst_map.specs.AccessBurst.{access_burst}
use Rattle.burst_map.specs.SyncBurst.{sync_burst}

-- a word followed by the four zero tail bits, which return the encoder to state 0 (GSM 05.03 section 4.1.3)
abbrev pub with_tail : (word : List ℕ) → List ℕ
with_tail word = word ++ replicate 4 0

-- the encoder input `encoder_input` consists of the information bits `info`, check bits that extend them to a codeword of the channel
-- (`IsWord`), and the tail
pub record CarriesDataAndCrc (IsWord : List ℕ → Type 0) (encoder_input info : List ℕ) : Type 0 where
  pub crc : List ℕ
  pub word : IsWord (info ++ crc)
  pub has_tail_bits_appended : encoder_input ≡ with_tail (info ++ crc)

-- `coded` consists of the 456 coded bits of a block of 23 octets (GSM 05.03 section 4.1)
pub record IsCodedBlock (octets coded : List ℕ) : Type 0 where
  pub u : List ℕ
  pub count : length octets ≡ 23
  pub all_octets : AllOctets octets
  pub information : CarriesDataAndCrc IsXcchCodeword u (bits_of octets)
  pub code : coded ≡ encoding u

-- `coded` consists of the 36 coded bits of the eight information bits `info` for the BSIC `bsic` (GSM 05.03 section 4.6)
pub record IsCodedAccess (info bsic coded : List ℕ) : Type 0 where
  pub u : List ℕ
  pub count : length info ≡ 8
  pub information : CarriesDataAndCrc (λ w. IsRachCodeword w bsic) u info
  pub code : coded ≡ encoding u

-- `coded` consists of the 78 coded bits of the 25 information bits `info` (GSM 05.03 section 4.7)
pub record IsCodedSync (info coded : List ℕ) : Type 0 where
  pub u : List ℕ
  pub count : length info ≡ 25
  pub information : CarriesDataAndCrc IsSchCodeword u info
  pub code : coded ≡ encoding u

-- `bursts` are the four normal bursts of a block of 23 octets with training sequence code `tsc`: the coded bits are interleaved over the
-- bursts, and each burst has half of its coded bits before the training sequence and half after it (GSM 05.03 section 4.1, GSM 05.02
-- section 5.2.3)
pub record IsSentBlock (octets : List ℕ) (tsc : ℕ) (bursts : List (List ℕ)) : Type 0 where
  pub coded_bits : List ℕ
  pub interleaved_bits : List (List ℕ)
  pub valid_tsc : tsc ≤ 7
  pub code : IsCodedBlock octets coded_bits
  pub interleaved : IsInterleaved coded_bits interleaved_bits
  pub layout : bursts ≡ map (λ part. normal_burst (take 57 part) (drop 57 part) tsc) interleaved_bits

-- `sent` is the access burst of the eight information bits `info` for the BSIC `bsic` (GSM 05.03 section 4.6, GSM 05.02 section 5.2.7)
pub record IsSentAccess (info bsic sent : List ℕ) : Type 0 where
  pub coded_bits : List ℕ
  pub code : IsCodedAccess info bsic coded_bits
  pub burst : sent ≡ access_burst coded_bits

-- `sent` is the synchronisation burst that carries the 25 information bits `info` (GSM 05.03 section 4.7, GSM 05.02 section 5.2.5)
pub record IsSentSync (info sent : List ℕ) : Type 0 where
  pub coded_bits : List ℕ
  pub code : IsCodedSync info coded_bits
  pub burst : sent ≡ sync_burst (take 39 coded_bits) (drop 39 coded_bits)
