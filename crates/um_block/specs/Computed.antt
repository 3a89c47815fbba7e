-- What is sent, and the reports of what is received, as functions; `IsSentBlock`, `IsReceivedBlock` and the like are their laws.
use Rattle.std.specs.Prelude.{ℕ, ◌-◌, ℤ, pos, Bool, List, ◌++◌, Option, Some, None, map, take, drop, if◌then◌else◌}
use Rattle.std.specs.Str.{bytes_eq}
use Rattle.bit_blocks.specs.Greatest.{first_greatest}
use Rattle.bit_blocks.specs.Octets.{bits_of, octets_of}
use Rattle.bit_blocks.specs.SoftValues.{likelihood, count_wrong_bits}
use Rattle.fire_code.specs.Crcs.{xcch_crc, rach_crc, sch_crc}
use Rattle.conv_code.specs.Code.{encoding}
use Rattle.trellis_decode.specs.MostLikely.{most_likely}
use Rattle.interleave.specs.Bursts.{interleaved, deinterleaved}
use Rattle.training_seq.specs.Choice.{total_correlation}
use Rattle.burst_map.specs.NormalBurst.{normal_burst}
use Rattle.burst_map.specs.AccessBurst as access
use Rattle.burst_map.specs.AccessBurst.{access_burst}
use Rattle.burst_map.specs.SyncBurst as sync
use Rattle.burst_map.specs.SyncBurst.{sync_burst}
use Rattle.um_block.specs.Sent.{with_tail}
use Rattle.um_block.specs.Received.{coded_soft_bits, access_soft_bits, sync_soft_bits, midamble_of_burst, wrong_training_bits}
use Rattle.um_block.specs.declared.received.Received.{Received}
use Rattle.um_block.specs.declared.received.ReceivedAccess.{ReceivedAccess}
use Rattle.um_block.specs.declared.received.ReceivedSync.{ReceivedSync}

-- ---- sending

-- the coded bits of information bits and their check bits
abbrev pub coded_word : (info crc : List ℕ) → List ℕ
coded_word info crc = encoding (with_tail (info ++ crc))

-- the four bursts of 23 octets
unfoldable pub sent_block : (octets : List ℕ) (tsc : ℕ) → List (List ℕ)
sent_block octets tsc =
    map (λ part. normal_burst (take 57 part) (drop 57 part) tsc)
    (interleaved (coded_word (bits_of octets) (xcch_crc (bits_of octets))))

unfoldable pub sent_access : (info bsic : List ℕ) → List ℕ
sent_access info bsic = access_burst (coded_word info (rach_crc info bsic))

unfoldable pub sent_sync : (info : List ℕ) → List ℕ
sent_sync info =
    let coded = coded_word info (sch_crc info) in
    sync_burst (take 39 coded) (drop 39 coded)

-- ---- receiving

-- the value, if the check bits are those that the information bits have
abbrev pub if_same : {X : Type 0} (crc check : List ℕ) (value : X) → Option X
if_same crc check value = if bytes_eq check crc then Some value else None

-- the training sequence code with the greatest correlation, or the first of several
abbrev pub best_tsc : (bursts : List (List ℤ)) → ℕ
best_tsc bursts =
    first_greatest (total_correlation (midamble_of_burst bursts 0) (midamble_of_burst bursts 1) (midamble_of_burst bursts 2)
    (midamble_of_burst bursts 3)) 7

abbrev pub block_report_of : (bursts : List (List ℤ)) (soft : List ℤ) (u : List ℕ) (tsc : ℕ) → Received
block_report_of bursts soft u tsc = record {
  u = u;
  metric = likelihood soft (encoding u);
  tsc = tsc;
  wrong_training = wrong_training_bits bursts tsc;
  accepted = if_same (xcch_crc (take 184 u)) (drop 184 (take 224 u)) (octets_of (take 184 u));
}

-- the report on four bursts
unfoldable pub received_block : (bursts : List (List ℤ)) → Received
received_block bursts =
    let soft = deinterleaved (pos 0) (map coded_soft_bits bursts) in
    block_report_of bursts soft (most_likely soft) (best_tsc bursts)

abbrev pub access_report_of : (burst : List ℤ) (bsic u : List ℕ) → ReceivedAccess
access_report_of burst bsic u = record {
  u = u;
  metric = likelihood (access_soft_bits burst) (encoding u);
  wrong_training = count_wrong_bits (access.training burst) access.access_sequence;
  accepted = if_same (rach_crc (take 8 u) bsic) (drop 8 (take 14 u)) (take 8 u);
}

unfoldable pub received_access : (burst : List ℤ) (bsic : List ℕ) → ReceivedAccess
received_access burst bsic = access_report_of burst bsic (most_likely (access_soft_bits burst))

abbrev pub sync_report_of : (burst : List ℤ) (u : List ℕ) → ReceivedSync
sync_report_of burst u = record {
  u = u;
  metric = likelihood (sync_soft_bits burst) (encoding u);
  wrong_training = count_wrong_bits (sync.training burst) sync.sync_sequence;
  accepted = if_same (sch_crc (take 25 u)) (drop 25 (take 35 u)) (take 25 u);
}

unfoldable pub received_sync : (burst : List ℤ) → ReceivedSync
received_sync burst = sync_report_of burst (most_likely (sync_soft_bits burst))
