-- How the `margin` command answers a line (this project's own rule). It reads the same lines as `replay`.
use Rattle.std.specs.Prelude.{ℤ, List}
use Rattle.um_block.specs.Received.{access_soft_bits, sync_soft_bits}
use Rattle.um_replay.specs.um_driver.Rules.{Rules}
use Rattle.um_replay.specs.BurstRules.{BurstAnswers, burst_rules}
use Rattle.um_margin.specs.Compared.{compared_words, compared_block_words}
use Rattle.um_margin.specs.Texts.{block_margin_text, access_margin_text, sync_margin_text}

-- the answer of `margin` to bursts is a line that compares their two most likely words
abbrev pub margin_burst_answers : BurstAnswers
margin_burst_answers = record {
  block = λ bursts. block_margin_text (compared_block_words bursts);
  access = λ bsic burst. access_margin_text bsic (compared_words (access_soft_bits burst));
  sync = λ burst. sync_margin_text (compared_words (sync_soft_bits burst));
}

abbrev pub margin_command_rules : Rules (List (List ℤ))
margin_command_rules = burst_rules margin_burst_answers
