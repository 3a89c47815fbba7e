use Rattle.{
  std.proofs.Common.{[], List, ℕ, map, take, drop, ap},
  interleave.{proofs.Bursts.IsInterleaved-interleaved, specs.Bursts.interleaved},
  burst_map.specs.NormalBurst.normal_burst,
  um_block.proofs.SentBursts.{sent_block-only, one_sent_block, sent_block_bits, four, coded_block_bits},
}
use Rattle.um_block.proofs.sending.send_block.Goals as goal

pub returns-clause-sent : goal.returns-clause-sent
returns-clause-sent c =
    let block = c.encode_block-columns.ensures in
    let coded = block.0 in
    let burst : List ℕ → List ℕ = λ part. normal_burst (take 57 part) (drop 57 part) c.args.tsc in
    let interleaved_bits = interleaved coded in
    let spread = IsInterleaved-interleaved coded (coded_block_bits _ _ block.1).right_length in
    record {
      coded_bits = coded;
      interleaved_bits = interleaved_bits;
      valid_tsc = c.requires;
      code = block.1;
      interleaved = spread;
      layout = cc (
        ap (map burst) (four interleaved_bits [] spread.burst_count),
        c.build_normal_burst.ensures coded interleaved_bits block.2 spread,
        c.build_normal_burst-2.ensures coded interleaved_bits block.2 spread,
        c.build_normal_burst-3.ensures coded interleaved_bits block.2 spread,
        c.build_normal_burst-4.ensures coded interleaved_bits block.2 spread,
      );
    }

pub returns-clause-only : goal.returns-clause-only
returns-clause-only c other h = one_sent_block c.args.octets.now c.args.tsc other _ h (returns-clause-sent c)

pub returns-clause-bits : goal.returns-clause-bits
returns-clause-bits c b d h = ((sent_block_bits c.args.octets.now c.args.tsc _ (returns-clause-sent c)).1 b d h).each

pub returns-clause-value : goal.returns-clause-value
returns-clause-value c = sent_block-only c.args.octets.now c.args.tsc _ (returns-clause-sent c)
