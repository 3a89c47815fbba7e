-- Worked inputs of `replay`: the prescribed response. The most likely word of an undamaged burst is the word sent, by the free distance,
-- and the rest of the report is computed from it.
use Rattle.{
  std.{
    proofs.Common.{List, Option, Some, [], ap, arith, codes, lit<, lit≤, pos, refl, replicate, true, ℕ, ℤ, ◌++◌, ◌-◌},
    proofs.Common.{◌∙◌, ◌∷◌, ◌≡◌},
    proofs.lemmas.List.Elements.{All-cons, All-nil},
    specs.{Fmt.digits, List.All, Prelude.unsigned_abs},
  },
  um_block.{
    proofs.{
      Lemmas.IsReceivedAccess-received_access,
      bit_blocks.Lemmas.AllBits-table,
      conv_code.Lemmas.IsEncoderInput-tail,
      weight_bound.Lemmas.{IsCorrectable-equal, restored},
    },
    specs.{
      Computed.{access_report_of, received_access},
      Received.{access_soft_bits, soft_bit_of, soft_bits},
      conv_code.Code.encoding,
      declared.received.ReceivedAccess.ReceivedAccess,
      fire_code.{Crcs.rach_crc, Registers.low_bits},
      trellis_decode.MostLikely.most_likely,
    },
  },
  um_driver.specs.{Outputs.response, declared.status.Status.{TheVariants.Done, Status}},
  um_formats.specs.{BurstLines.burst_line, Reports.access_report_text},
  um_replay.specs.Replay.replay_rules,
}

pub strong : (bits : List ℕ) → All (λ value. unsigned_abs value ≡ 127) (soft_bits bits)
strong [] = All-nil (λ value. unsigned_abs value ≡ 127)
strong (bit ∷ bits) = All-cons (λ value. unsigned_abs value ≡ 127) (soft_bit_of bit) (soft_bits bits) (grind arith) (strong bits)

-- the bits that these digits write
abbrev pub bits : List ℕ → List ℕ
bits [] = []
bits (digit ∷ digits) = (digit - 48) ∷ bits digits

-- RA 10011010 for the cell with BSIC 110010: the check bits were divided by hand, the burst is libosmocoding's
abbrev info : List ℕ
info = bits (codes "10011010")

abbrev check : List ℕ
check = bits (codes "001110")

abbrev bsic : List ℕ
bsic = bits (codes "110010")

abbrev coded : List ℕ
coded = bits (codes "110100000101000111110010101000001100")

abbrev burst : List ℕ
burst = bits (codes "0011101001001011011111111001100110101010001111000") ++ coded ++ replicate 3 0

abbrev report : ReceivedAccess
report = record { u = (info ++ check) ++ replicate 4 0; metric = pos 4572; wrong_training = 0; accepted = Some info }

word_is : most_likely (access_soft_bits (soft_bits burst)) ≡ report.u
unfolding received_access
word_is =
    let received = IsReceivedAccess-received_access (soft_bits burst) bsic refl refl (AllBits-table bsic refl) in
    let soft = access_soft_bits (soft_bits burst) in
    restored soft report.u (most_likely soft) (IsEncoderInput-tail (info ++ check) (lit< tt) (AllBits-table (info ++ check) refl)) refl
    (IsCorrectable-equal soft (encoding report.u) 127 (lit< tt) (lit< tt) (strong coded) (lit≤ tt)) received.best

report_is : received_access (soft_bits burst) bsic ≡ report
unfolding received_access rach_crc low_bits
report_is = ap (access_report_of (soft_bits burst) bsic) word_is ∙ same
  where
    same : access_report_of (soft_bits burst) bsic report.u ≡ report
    same = refl

abbrev pub answered : List ℕ → Option Status × List ℕ
answered text = (Some Done, text ++ [])

access : response replay_rules []
    (codes "a 110010 0011101001001011011111111001100110101010001111000110100000101000111110010101000001100000\n") true ≡ (
      Some Done,
      codes "access 110010 train 0 metric 4572 parity ok data 10011010 check 001110\n",
    )
unfolding response burst_line digits
access = ap (λ r. answered (access_report_text bsic r)) report_is
