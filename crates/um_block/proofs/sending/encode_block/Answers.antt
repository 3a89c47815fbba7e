use Rattle.{
  std.proofs.{Common.{refl, arith}, lemmas.List.Elements.All-from_get_or},
  bit_blocks.specs.Octets.{IsOctet, bits_of},
  conv_code.specs.Code.encoding,
  fire_code.specs.Words.IsXcchCodeword,
  um_block.{specs.Sent.with_tail, proofs.SentBursts.{AreCodedBitsPacked-block, carries}},
}
use Rattle.um_block.proofs.sending.encode_block.Goals as goal

pub returns : goal.returns
returns c =
    let octets = c.args.octets.now in
    let crc = c.octets_with_crc.ensures.0 in
    let u = with_tail _ in (
      encoding u,
      record {
        u = u;
        count = c.told-octets;
        all_octets = All-from_get_or IsOctet octets 0 (λ k h. omega (arith, c.fits-octets k));
        information = carries IsXcchCodeword (bits_of octets) (bits_of crc) c.octets_with_crc.ensures.1;
        code = refl;
      },
      c.new.ensures (encoding u)
          (AreCodedBitsPacked-block octets crc c.octets_with_crc.result c.octets_with_crc.ensures.2 c.encode_packed.result
          c.octets_with_crc.ensures.1 c.encode_packed.ensures),
    )
