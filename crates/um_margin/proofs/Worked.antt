-- Worked output lines of `margin`: the most likely word follows `data`, and the second one `next`.
use Rattle.std.specs.Prelude.{◌≡◌, ◌++◌, ◌∷◌, [], pos, replicate, Some, true, codes}
use Rattle.std.proofs.Common.{refl}
use Rattle.std.specs.Fmt.{digits}
use Rattle.um_replay.specs.um_lines.Hex.{encode_with}
use Rattle.um_replay.specs.um_driver.Outputs.{response}
use Rattle.um_replay.specs.um_driver.declared.status.Status.TheVariants.{BadInput}
use Rattle.um_replay.specs.um_formats.BurstLines.{burst_line}
use Rattle.um_margin.specs.Compared.{TwoMostLikelyWords}
use Rattle.um_margin.specs.Margins.{margin_command_rules}
use Rattle.um_margin.specs.Texts.{access_margin_text, block_margin_text, sync_margin_text}

-- four lost bursts: all words are equally likely; the first in lexicographic order has no ones, and the second a one before the four tail
-- bits
lost : TwoMostLikelyWords
lost = record { best = replicate 228 0; next = replicate 223 0 ++ 1 ∷ replicate 4 0; margin = pos 0; metric = pos 0 }

lost_block : block_margin_text lost ≡ codes "block margin 0 metric 0 data 0000000000000000000000000000000000000000000000 check 0000000000"
    ++ codes " next 0000000000000000000000000000000000000000000000 0000000080\n"
unfolding lost digits encode_with
lost_block = refl

access : access_margin_text (replicate 6 1) (record {
  best = 1 ∷ replicate 17 0;
  next = 1 ∷ 1 ∷ 1 ∷ replicate 15 0;
  margin = pos 0;
  metric = pos 30;
}) ≡ codes "access 111111 margin 0 metric 30 data 10000000 check 000000 next 11100000 000000\n"
unfolding digits
access = refl

sync : sync_margin_text (record {
  best = replicate 24 0 ++ 1 ∷ replicate 14 0;
  next = replicate 34 0 ++ 1 ∷ replicate 4 0;
  margin = pos 1778;
  metric = pos 9906;
}) ≡ codes "sync margin 1778 metric 9906 data 0000000000000000000000001 check 0000000000"
    ++ codes " next 0000000000000000000000000 0000000001\n"
unfolding digits
sync = refl

-- an input that ends inside a block
unfinished : response margin_command_rules [] (codes "lost\n") true ≡ (Some BadInput, codes "refused 2 order\n")
unfolding response burst_line digits
unfinished = refl
