use Rattle.{
  um_list_receive.{
    specs.ListDecoding.BlockCrcHolds,
    proofs.Lemmas.{one_block_among, block_best, block_none, block_information, block_first, taken_first, taken_of_one, octets_if_crc_holds},
  },
}
use Rattle.um_list_receive.proofs.blocks.receive_block_among.Goals as goal

pub returns : goal.returns
returns c =
    let is = c.receive_deinterleaved_among.ensures in
    let r = c.receive_deinterleaved_among.result in
    record {
      received = is;
      only = λ other h. one_block_among c.args.bursts.now c.args.max_rank other _ h is;
      best = block_best c.args.bursts.now c.args.max_rank _ is;
      none = block_none c.args.bursts.now c.args.max_rank _ is;
      information = block_information c.args.bursts.now c.args.max_rank _ is;
      first = block_first c.args.bursts.now c.args.max_rank _ c.requires.at_least is;
      -- if the word taken has rank 1, the report is the one that decoding only the most likely word gives
      alone = λ first.
          let taken = taken_first BlockCrcHolds is.soft c.args.max_rank octets_if_crc_holds r.rank r.report.u r.report.accepted
          c.requires.at_least first is.choice in
          record {
            soft = is.soft;
            deinterleaved = is.deinterleaved;
            best = taken.0;
            metric = is.metric;
            tsc = is.tsc;
            wrong_training = is.wrong_training;
            accepted = taken.1;
          };
      one = λ one. taken_of_one BlockCrcHolds is.soft _ octets_if_crc_holds _ r.report.u r.report.accepted one is.choice;
    }
