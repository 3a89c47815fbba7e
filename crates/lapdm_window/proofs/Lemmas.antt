-- The lemmas that other crates cite.
pub use Rattle.lapdm_window.proofs.Steps.{HasBegun, MayOpen, IsReplyTo, cause_of, AtMost, bound-frame, bound-call}
pub use Rattle.lapdm_window.proofs.Steps.{IsValidEndpoint-initial, awaited_fits, plain_fits, Keeps, keeps-frame, keeps-call, three_bits}
pub use Rattle.lapdm_window.proofs.Steps.{waits_within, by_sapi, passes, not_false, is_open-is, is_valid_message, is_idle-is}
pub use Rattle.lapdm_window.proofs.Windows.{acked_message_count-more, acked_message_count-last, acked_message_count-most}
pub use Rattle.lapdm_window.proofs.Windows.{acked_message_count-push, segments_of_all_messages-push, counted, evaluates_nr-is}
pub use Rattle.lapdm_window.proofs.Windows.{within_all, HasWindowOfOne-acked, HasWindowOfOne-push, within_held}
pub use Rattle.lapdm_window.proofs.Restoring.{HasSameStateVariables-values, Represents-values, one_window, RepresentsOne, represents_one}
pub use Rattle.lapdm_window.proofs.Restoring.{IsHistory, HasHistory, history_of, message_of, is_message_of, segments-message_of}
pub use Rattle.lapdm_window.proofs.Windows.{awaits_ack-one}
