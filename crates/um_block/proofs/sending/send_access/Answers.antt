use Rattle.{
  std.proofs.Common.arith,
  conv_code.proofs.Lemmas.AllBits-coded,
  um_block.proofs.SentBursts.{sent_access-only, one_access_burst, IsEncoderInput-joined},
}
use Rattle.um_block.proofs.sending.send_access.Goals as goal

pub access-requires-clause-bits : goal.access-requires-clause-bits
access-requires-clause-bits c = rw c.encode.ensures (AllBits-coded c.write_crc_and_tail.new.word)

pub encode-requires-clause-information : goal.encode-requires-clause-information
encode-requires-clause-information c =
    IsEncoderInput-joined _ _ _ c.write_crc_and_tail.ensures (omega arith) c.as_slice.ensures.bits c.as_slice-2.ensures.bits

pub returns-clause-sent : goal.returns-clause-sent
returns-clause-sent c =
    let b = c.args.bsic.now in
    let under = c.rach_parity.ensures.with_bsic b c.xor-crc.ensures.counts.1 c.xor-crc.ensures.operands.1 in
    record {
      coded_bits = c.encode.new.out;
      code = record {
        u = c.write_crc_and_tail.new.word;
        count = rw c.as_slice.ensures.value at c.as_slice.ensures.count;
        information = record {
          crc = c.xor-crc.result;
          word = rw c.xor-crc.ensures.value under;
          has_tail_bits_appended = cc (c.write_crc_and_tail.ensures, c.as_slice.ensures.value, c.as_slice-2.ensures.value);
        };
        code = c.encode.ensures;
      };
      burst = c.access.ensures.value;
    }

pub returns-clause-only : goal.returns-clause-only
returns-clause-only c other h = one_access_burst c.args.info.now c.args.bsic.now other _ h (returns-clause-sent c)

pub returns-clause-value : goal.returns-clause-value
returns-clause-value c = sent_access-only c.args.info.now c.args.bsic.now _ (returns-clause-sent c)
