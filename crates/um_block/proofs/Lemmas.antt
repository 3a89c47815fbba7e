-- What other crates cite of the lemmas of this crate.
pub use Rattle.um_block.proofs.ReceivedBursts.{IsReceivedAccess-received_access, IsReceivedSync-received_sync, accepted_count}
pub use Rattle.um_block.proofs.ReceivedBursts.{accepted_octets, one_received_access, one_received_block, one_received_sync}
pub use Rattle.um_block.proofs.ReceivedBursts.{received_access-only, received_block-only, received_sync-only, some_received_block}
pub use Rattle.um_block.proofs.Restoring.{clean_access, clean_block, clean_gathered, clean_sync, restored_block}
pub use Rattle.um_block.proofs.Restoring.{parts_of_bursts}
pub use Rattle.um_block.proofs.SentBursts.{AreBits, IsSentAccess-sent_access, IsSentBlock-sent_block, IsSentSync-sent_sync}
pub use Rattle.um_block.proofs.SentBursts.{coded_block_bits, sent_access_bits, sent_block-only, sent_block_bits, sent_sync_bits}
pub use Rattle.um_block.proofs.SentBursts.{one_coded_block, some_sent_block}
pub use Rattle.um_block.proofs.SoftenedBits.{AllSoftBits-range, AllSoftBits-softened}
pub use Rattle.um_block.proofs.WrongBits.{few_listed_positions, received_place}
unfoldable pub use Rattle.um_block.proofs.WrongBits.{listed}
