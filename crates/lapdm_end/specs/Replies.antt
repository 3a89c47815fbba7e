-- The replies of an `Endpoint` to a received frame. Only the contracts inside this crate use these definitions.
use Rattle.std.specs.Prelude.{◌≡◌, ◌≢◌, ◌≤◌, length}
use Rattle.lapdm_frame.specs.Layout.{n201, largest_n201}
use Rattle.lapdm_window.specs.segmenting.Segments.{Message}
use Rattle.lapdm_window.specs.declared.State.TheVariants as S
use Rattle.lapdm_window.specs.Ends.{IsPossibleSabmInfo}
use Rattle.lapdm_window.specs.Tables as T
use Rattle.lapdm_end.specs.declared.ends.Endpoint.{Endpoint}
use Rattle.lapdm_end.specs.Abstraction.{channel_of, sapi_of, state_of}
use Rattle.lapdm_end.specs.declared.replies.Reply.{Reply}
use Rattle.lapdm_end.specs.declared.replies.Reply.TheVariants as C

-- the `Reply` of the specification that corresponds to a Rust `Reply`
abbrev pub spec_reply_of : Reply → T.Reply
spec_reply_of C.Nothing = T.Nothing
spec_reply_of C.Dm = T.SendsDm
spec_reply_of (C.Ua info) = T.SendsUa info.now
spec_reply_of (C.AcceptSabm info) = T.AcceptsSabm info.now
spec_reply_of (C.Opened info) = T.ConfirmsEstablishment info.now
spec_reply_of (C.Closed reason) = T.ClosesLink reason
spec_reply_of C.Released = T.AcceptsDisc
spec_reply_of (C.Unit info) = T.ReportsUiInformation info.now
spec_reply_of (C.I ns nr p more info) = T.TakesIFrame ns nr p (info.now, more)
spec_reply_of (C.Rr nr poll) = T.TakesRr nr poll
spec_reply_of (C.Rej nr poll) = T.TakesRej nr poll

-- endpoint `m` is in Idle, and a SABM with this information can establish its link
pub record MayAcceptSabmWith (m : Endpoint) (info : Message) : Type 0 where
  pub idle : state_of m ≡ S.Idle
  pub fits : length info ≤ n201 (channel_of m)
  pub possible : IsPossibleSabmInfo S.Open (sapi_of m) info

-- the endpoint can choose this reply in its state, and the sequence numbers and information in the reply are in range
abbrev pub IsPossibleReply : (endpoint : Endpoint) (reply : Reply) → Type 0
IsPossibleReply m (C.Ua info) = length info.now ≤ n201 (channel_of m)
IsPossibleReply m (C.AcceptSabm info) = MayAcceptSabmWith m info.now
IsPossibleReply m (C.Opened info) = (state_of m ≡ S.Opening) × (length info.now ≤ n201 (channel_of m))
IsPossibleReply m (C.Closed reason) = state_of m ≢ S.Idle
IsPossibleReply m C.Released = state_of m ≡ S.Open
IsPossibleReply m (C.Unit info) = length info.now ≤ largest_n201
IsPossibleReply m (C.I ns nr p more info) =
    (state_of m ≡ S.Open) × (ns ≤ 7) × (nr ≤ 7) × (1 ≤ length info.now) × (length info.now ≤ n201 (channel_of m))
IsPossibleReply m (C.Rr nr poll) = (state_of m ≡ S.Open) × (nr ≤ 7)
IsPossibleReply m (C.Rej nr poll) = (state_of m ≡ S.Open) × (nr ≤ 7)
IsPossibleReply m other = Unit {0}
