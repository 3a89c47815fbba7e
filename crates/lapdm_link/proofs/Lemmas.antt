-- What other crates cite of the lemmas of this crate.
pub use Rattle.lapdm_link.proofs.Acting.{Goes, Says, begins, closes, ends, is_called, opens, remains, taken-frame}
pub use Rattle.lapdm_link.proofs.ByLink.{counts_by_link, delivery_by_link, order_by_link}
pub use Rattle.lapdm_link.proofs.Events.{AllFrames, AllOf, IsForSapi, IsPlaced, Knows, acted, each_start, each_way, end_of, end_of-acted}
pub use Rattle.lapdm_link.proofs.Events.{end_of-acted_else, ends_do, is_end, is_on, of-append, other_is, way, way-acted, way-acted_other}
pub use Rattle.lapdm_link.proofs.Events.{with_frames, without_oldest_item}
pub use Rattle.lapdm_link.proofs.Fitting.{AllFit, IsFitting, event_step-fits, event_step-holds, initial-fits}
pub use Rattle.lapdm_link.proofs.Octets.{AllSay, AreOctets, CallOctets, EndOctets, LineOctets, OutcomeOctets, SaysOctets, WorldOctets}
pub use Rattle.lapdm_link.proofs.Octets.{call-octets, frame-octets, initial-octets, octets-step}
pub use Rattle.lapdm_link.proofs.Order.{AllReported, initial-reported, order_of}
pub use Rattle.lapdm_link.proofs.Sessions.{claims_of, counts_of}
pub use Rattle.lapdm_link.specs.Claims.{AckedAtMostDelivered, Asked, Claims, HasEstablishmentTrigger, HasNoticesInOrder, IsOpenEndpoint}
pub use Rattle.lapdm_link.specs.Claims.{LogLine, Notified, OccursAfter, calls_in_log, is_same_role, is_same_sapi, message_sent_by_call}
pub use Rattle.lapdm_link.specs.Claims.{notices_in_log, ui_message_of_call}
pub use Rattle.lapdm_link.specs.Events.{QueueCapacity, other}
pub use Rattle.lapdm_link.specs.Worlds.{World, initial_world}
pub use Rattle.lapdm_window.proofs.Lemmas.{IsReplyTo, cause_of, is_idle-is, not_false, passes}
pub use Rattle.lapdm_window.specs.Calls.{Call, Closes, Opens, OpensWithoutInfo, Repeats, Sends, SendsFillFrame, SendsUi, T200Expires}
pub use Rattle.lapdm_window.specs.Calls.{awaited_frame, call_outcome, refusal_of, single_frame_refusal_checks, with_queued_message}
pub use Rattle.lapdm_window.specs.Ends.{EndpointState, HasWindowOfOne, Mobile, Network, Outcome, Role, n200, no_effect, sapi_number}
pub use Rattle.lapdm_window.specs.Ends.{sends_frame}
pub use Rattle.lapdm_window.specs.Rules.{may_send_next_segment, sends_segment}
pub use Rattle.lapdm_window.specs.Tables.{closes_and_reports, frame_outcome}
pub use Rattle.lapdm_window.specs.declared.Notice.{Notice}
pub use Rattle.lapdm_window.specs.declared.Sapi.{Sapi}
pub use Rattle.lapdm_window.specs.declared.Sapi.TheVariants.{Three, Zero}
pub use Rattle.lapdm_window.specs.declared.State.{State}
pub use Rattle.lapdm_window.specs.declared.State.TheVariants.{Closed, Idle, Opening}
pub use Rattle.lapdm_window.specs.lapdm_frame.Content.{Content, Frame, Sabm, Ui}
pub use Rattle.lapdm_window.specs.lapdm_frame.Frames.{FrameFits}
pub use Rattle.lapdm_window.specs.lapdm_frame.declared.Channel.{Channel}
pub use Rattle.lapdm_window.specs.segmenting.Segments.{Message}
pub use Rattle.std.proofs.Common.{All, Bool, List, None, Option, Some, [], ap, append_assoc, arith, drop, false, if◌then◌else◌}
pub use Rattle.std.proofs.Common.{inl, inr}
pub use Rattle.std.proofs.Common.{map, nat_eq, nat_lt, refl, subst, suc, sym, true, zero, ℕ, ◌&&◌}
pub use Rattle.std.proofs.Common.{◌++◌, ◌+◌, ◌∙◌, ◌∷◌, ◌≡◌}
pub use Rattle.std.proofs.lemmas.Bool.Decides.{nat_tests}
pub use Rattle.std.proofs.lemmas.List.{append-nil}
pub use Rattle.std.proofs.lemmas.List.Elements.{All-head, filter_map-append}
pub use Rattle.std.specs.List.{cons_option, filter_map}
pub use Rattle.std.specs.Prelude.{Contains, ◌⊎◌}
