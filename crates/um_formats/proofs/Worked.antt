-- Worked report lines: each number and each word is in its place. The first two are those of README.md.
use Rattle.std.specs.Prelude.{◌≡◌, ◌++◌, ◌∷◌, [], None, Some, pos, negsuc, replicate, codes}
use Rattle.std.proofs.Common.{refl}
use Rattle.std.specs.Fmt.{digits}
use Rattle.um_lines.specs.Hex.{encode_with}
use Rattle.um_formats.specs.Reports.{access_report_text, block_report_line, sync_report_text}

block : block_report_line (record {
  u = replicate 184 0 ++ replicate 40 1 ++ replicate 4 0;
  metric = pos 43434;
  tsc = 0;
  wrong_training = 26;
  accepted = Some (replicate 23 0);
}) ≡ codes "block tsc 0 train 26 metric 43434 parity ok data 0000000000000000000000000000000000000000000000 check ffffffffff\n"
unfolding digits encode_with
block = refl

access : access_report_text (replicate 6 1) (record {
  u = replicate 18 0;
  metric = pos 117;
  wrong_training = 41;
  accepted = Some (replicate 8 0);
}) ≡ codes "access 111111 train 41 metric 117 parity ok data 00000000 check 000000\n"
unfolding digits
access = refl

-- a block of another training sequence whose CRC fails, with a negative metric
refused_block : block_report_line (record {
  u = 1 ∷ replicate 183 0 ++ 0 ∷ 1 ∷ replicate 42 0;
  metric = negsuc 6;
  tsc = 5;
  wrong_training = 3;
  accepted = None;
}) ≡ codes "block tsc 5 train 3 metric -7 parity bad data 0100000000000000000000000000000000000000000000 check 0200000000\n"
unfolding digits encode_with
refused_block = refl

sync : sync_report_text (record {
  u = 1 ∷ replicate 24 0 ++ replicate 9 0 ++ 1 ∷ replicate 4 0;
  metric = pos 9;
  wrong_training = 12;
  accepted = None;
}) ≡ codes "sync train 12 metric 9 parity bad data 1000000000000000000000000 check 0000000001\n"
unfolding digits
sync = refl
