use Rattle.{
  std.proofs.{Common.arith, lemmas.List.Elements.{All-take, All-drop}},
  bit_blocks.specs.Bits.{IsBit, AllBits},
  conv_code.proofs.Lemmas.AllBits-coded,
  um_block.proofs.SentBursts.{sent_sync-only, one_sync_burst, IsEncoderInput-joined},
}
use Rattle.um_block.proofs.sending.send_sync.Goals as goal

pub encode-requires-clause-information : goal.encode-requires-clause-information
encode-requires-clause-information c =
    IsEncoderInput-joined _ _ _ c.write_crc_and_tail.ensures (omega arith) c.as_slice.ensures.bits c.as_slice-2.ensures.bits

pub sync-requires : goal.sync-requires
sync-requires c =
    let bits : AllBits c.encode.new.out = rw c.encode.ensures (AllBits-coded c.write_crc_and_tail.new.word) in
    record {
      first = omega (arith, c.split_at.ensures.front_len);
      first_bits = rw c.split_at.ensures.front (All-take IsBit 39 c.encode.new.out bits);
      second = omega (arith, c.split_at.ensures.back_len);
      second_bits = rw c.split_at.ensures.back (All-drop IsBit 39 c.encode.new.out bits);
    }

pub returns-clause-sent : goal.returns-clause-sent
returns-clause-sent c = record {
  coded_bits = c.encode.new.out;
  code = record {
    u = c.write_crc_and_tail.new.word;
    count = rw c.as_slice.ensures.value at c.as_slice.ensures.count;
    information = record {
      crc = c.sch_parity.result;
      word = c.sch_parity.ensures.word;
      has_tail_bits_appended = cc (c.write_crc_and_tail.ensures, c.as_slice.ensures.value, c.as_slice-2.ensures.value);
    };
    code = c.encode.ensures;
  };
  burst = cc (c.sync.ensures.value, c.split_at.ensures.front, c.split_at.ensures.back);
}

pub returns-clause-only : goal.returns-clause-only
returns-clause-only c other h = one_sync_burst c.args.info.now other _ h (returns-clause-sent c)

pub returns-clause-value : goal.returns-clause-value
returns-clause-value c = sent_sync-only c.args.info.now _ (returns-clause-sent c)
