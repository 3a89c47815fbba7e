use Rattle.{um_block.specs.Received.{access_soft_bits, sync_soft_bits}, um_margin.proofs.Lemmas.{same_block_word, same_word}}
use Rattle.um_margin.proofs.laws.law_replay_reports_most_likely_word.Goals as goal

pub returns : goal.returns
returns c = record {
  block = same_block_word;
  access = λ burst bsic r d received. same_word (access_soft_bits burst) r.u r.metric d received.best received.metric;
  sync = λ burst r d received. same_word (sync_soft_bits burst) r.u r.metric d received.best received.metric;
}
