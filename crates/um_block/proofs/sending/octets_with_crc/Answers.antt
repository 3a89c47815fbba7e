use Rattle.um_block.proofs.SentBursts.{behind_octets}
use Rattle.um_block.proofs.sending.octets_with_crc.Goals as goal

pub returns : goal.returns
returns c =
    let crc = c.xcch_parity_of_octets.result in (
      crc,
      c.xcch_parity_of_octets.ensures.word,
      behind_octets _ crc _ _ c.told-octets c.copy_from_slice.ensures.after c.copy_from_slice-2.ensures.after,
    )
