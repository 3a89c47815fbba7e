-- Reports of received bursts: the most likely encoder input, the training sequence, and the information if the CRC is correct (GSM 05.03
-- sections 4.1, 4.6 and 4.7; decoding to the most likely encoder input is this project's own rule).
use Rattle.std.specs.Prelude.{ℕ, ◌≡◌, ◌==◌, if◌then◌else◌, ℤ, pos, negsuc, List, [], ◌++◌, map, take}
use Rattle.std.specs.Prelude.{slice_index_or, MatchOption}
use Rattle.std.specs.List.{flat_map}
use Rattle.bit_blocks.specs.Octets.{octets_of}
use Rattle.bit_blocks.specs.SoftValues.{likelihood, count_wrong_bits}
use Rattle.fire_code.specs.Words.{IsXcchCodeword, IsRachCodeword, IsSchCodeword}
use Rattle.conv_code.specs.Code.{encoding}
use Rattle.conv_code.specs.Likelihood.{IsMostLikely}
use Rattle.interleave.specs.Bursts.{IsInterleaved}
use Rattle.training_seq.specs.Choice.{IsBestCorrelatedTsc, wrong_midamble_bits}
use Rattle.burst_map.specs.NormalBurst as normal
use Rattle.burst_map.specs.AccessBurst as access
use Rattle.burst_map.specs.SyncBurst as sync
use Rattle.um_block.specs.declared.received.Received.{Received}
use Rattle.um_block.specs.declared.received.ReceivedAccess.{ReceivedAccess}
use Rattle.um_block.specs.declared.received.ReceivedSync.{ReceivedSync}

-- the soft bit of a bit at full confidence: 127 for 0, -127 for 1
abbrev pub soft_bit_of : (bit : ℕ) → ℤ
soft_bit_of bit = if bit == 0 then pos 127 else negsuc 126

-- the soft bits of a list of bits at full confidence
abbrev pub soft_bits : (bits : List ℕ) → List ℤ
soft_bits bits = map soft_bit_of bits

-- the bursts joined into one list; with four bursts of 148 bits, the positions are 0 to 591
abbrev pub joined_bursts : {X : Type 0} (bursts : List (List X)) → List X
joined_bursts bursts = flat_map (λ burst. burst) bursts

-- the 114 coded soft bits of a normal burst
abbrev pub coded_soft_bits : (burst : List ℤ) → List ℤ
coded_soft_bits burst = normal.first_coded_half burst ++ normal.second_coded_half burst

-- the 36 coded soft bits of an access burst
abbrev pub access_soft_bits : (burst : List ℤ) → List ℤ
access_soft_bits burst = access.body burst

-- the 78 coded soft bits of a synchronisation burst
abbrev pub sync_soft_bits : (burst : List ℤ) → List ℤ
sync_soft_bits burst = sync.first_coded_half burst ++ sync.second_coded_half burst

-- the 26 soft bits in the midamble of burst number `index`
abbrev pub midamble_of_burst : (bursts : List (List ℤ)) (index : ℕ) → List ℤ
midamble_of_burst bursts b = normal.training (slice_index_or bursts b [])

-- the training sequence code has the greatest total correlation with the midambles of four bursts
abbrev pub IsReceivedTsc : (bursts : List (List ℤ)) (tsc : ℕ) → Type 0
IsReceivedTsc bursts tsc =
    IsBestCorrelatedTsc (midamble_of_burst bursts 0) (midamble_of_burst bursts 1) (midamble_of_burst bursts 2)
    (midamble_of_burst bursts 3) tsc

-- how many of the 104 soft bits in the midambles of four bursts disagree with the training sequence of a given code
abbrev pub wrong_training_bits : (bursts : List (List ℤ)) (tsc : ℕ) → ℕ
wrong_training_bits bursts tsc =
    wrong_midamble_bits (midamble_of_burst bursts 0) (midamble_of_burst bursts 1) (midamble_of_burst bursts 2)
    (midamble_of_burst bursts 3) tsc

-- `report` is the report of a block received in four normal bursts of 148 soft bits each. Its `accepted` holds the 23 octets if the Fire
-- code bits match, and is `None` otherwise
pub record IsReceivedBlock (bursts : List (List ℤ)) (report : Received) : Type 0 where
  pub soft : List ℤ
  pub deinterleaved : IsInterleaved soft (map coded_soft_bits bursts)
  pub best : IsMostLikely soft report.u
  pub metric : report.metric ≡ likelihood soft (encoding report.u)
  pub tsc : IsReceivedTsc bursts report.tsc
  pub wrong_training : report.wrong_training ≡ wrong_training_bits bursts report.tsc
  pub accepted : MatchOption report.accepted
      (¬ IsXcchCodeword (take 224 report.u))
      (λ octets. IsXcchCodeword (take 224 report.u) × (octets ≡ octets_of (take 184 report.u)))

-- `report` is the report of an access burst of 88 soft bits, checked with the BSIC `bsic`. Its `accepted` holds the eight information bits
-- if the CRC is correct, and is `None` otherwise
pub record IsReceivedAccess (burst : List ℤ) (bsic : List ℕ) (report : ReceivedAccess) : Type 0 where
  pub best : IsMostLikely (access_soft_bits burst) report.u
  pub metric : report.metric ≡ likelihood (access_soft_bits burst) (encoding report.u)
  pub wrong_training : report.wrong_training ≡ count_wrong_bits (access.training burst) access.access_sequence
  pub accepted : MatchOption report.accepted
      (¬ IsRachCodeword (take 14 report.u) bsic)
      (λ info. IsRachCodeword (take 14 report.u) bsic × (info ≡ take 8 report.u))

-- `report` is the report of a synchronisation burst of 148 soft bits. Its `accepted` holds the 25 information bits if the CRC is correct,
-- and is `None` otherwise
pub record IsReceivedSync (burst : List ℤ) (report : ReceivedSync) : Type 0 where
  pub best : IsMostLikely (sync_soft_bits burst) report.u
  pub metric : report.metric ≡ likelihood (sync_soft_bits burst) (encoding report.u)
  pub wrong_training : report.wrong_training ≡ count_wrong_bits (sync.training burst) sync.sync_sequence
  pub accepted : MatchOption report.accepted
      (¬ IsSchCodeword (take 35 report.u))
      (λ info. IsSchCodeword (take 35 report.u) × (info ≡ take 25 report.u))
