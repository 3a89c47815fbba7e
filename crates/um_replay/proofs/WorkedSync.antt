-- A worked synchronisation burst of `replay`: the burst is libosmocoding's, the check bits were divided by hand.
use Rattle.{
  std.{
    proofs.Common.{List, Some, [], ap, arith, codes, lit<, lit≤, pos, refl, replicate, true, ℕ, ◌++◌, ◌∙◌, ◌≡◌},
    specs.Fmt.digits,
  },
  um_block.{
    proofs.{
      Lemmas.IsReceivedSync-received_sync,
      bit_blocks.Lemmas.AllBits-table,
      conv_code.Lemmas.IsEncoderInput-tail,
      weight_bound.Lemmas.{IsCorrectable-equal, restored},
    },
    specs.{
      Computed.{received_sync, sync_report_of},
      Received.{soft_bits, sync_soft_bits},
      conv_code.Code.encoding,
      declared.received.ReceivedSync.ReceivedSync,
      fire_code.{Crcs.sch_crc, Registers.low_bits},
      trellis_decode.MostLikely.most_likely,
    },
  },
  um_driver.specs.{Outputs.response, declared.status.Status.TheVariants.Done},
  um_formats.specs.{BurstLines.burst_line, Reports.sync_report_text},
  um_replay.{proofs.Worked.{answered, bits, strong}, specs.Replay.replay_rules},
}

abbrev info : List ℕ
info = bits (codes "1111000100111111101100001")

abbrev check : List ℕ
check = bits (codes "0110110010")

abbrev first : List ℕ
first = bits (codes "111010010100000001000001100110101001111")

abbrev second : List ℕ
second = bits (codes "010110011110111011000101011111000111100")

abbrev burst : List ℕ
burst = bits (codes "000") ++ first ++ bits (codes "1011100101100010000001000000111100101101010001010111011000011011") ++ second
    ++ bits (codes "000")

abbrev report : ReceivedSync
report = record { u = (info ++ check) ++ replicate 4 0; metric = pos 9906; wrong_training = 0; accepted = Some info }

word_is : most_likely (sync_soft_bits (soft_bits burst)) ≡ report.u
unfolding received_sync
word_is =
    let received = IsReceivedSync-received_sync (soft_bits burst) refl in
    let soft = sync_soft_bits (soft_bits burst) in
    restored soft report.u (most_likely soft) (IsEncoderInput-tail (info ++ check) (lit< tt) (AllBits-table (info ++ check) refl)) refl
    (IsCorrectable-equal soft (encoding report.u) 127 (lit< tt) (lit< tt) (strong (first ++ second)) (lit≤ tt)) received.best

report_is : received_sync (soft_bits burst) ≡ report
unfolding received_sync sch_crc low_bits
report_is = ap (sync_report_of (soft_bits burst)) word_is ∙ same
  where
    same : sync_report_of (soft_bits burst) report.u ≡ report
    same = refl

sync : response replay_rules []
    (codes "s 0001110100101000000010000011001101010011111011100101100010000001000000111100101101010001010111011000011011"
    ++ codes "010110011110111011000101011111000111100000\n") true ≡ (
      Some Done,
      codes "sync train 0 metric 9906 parity ok data 1111000100111111101100001 check 0110110010\n",
    )
unfolding response burst_line digits
sync = ap (λ r. answered (sync_report_text r)) report_is
