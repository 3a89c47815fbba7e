-- The two links of one SAPI, a mobile's and a network's, that layer 3 of either side opens, releases and opens again. Either side opens
-- them without information: they are of SAPI 3, or of SAPI 0 with normal establishment. Frames arrive in order, as late as they like, or
-- are lost. A slot may come at any time, so nothing depends on the value of T200. UI frames, which change no link, are left out.
use Rattle.std.specs.Prelude.{◌≡◌, ℕ, Bool, true, false, All, List, [], ◌∷◌, Option, Some, None, IfSome}
use Rattle.std.specs.List.{cons_option}
use Rattle.lapdm_frame.specs.declared.Channel.{Channel}
use Rattle.lapdm_frame.specs.Content.{Content, Sabm, Disc, Ua, Frame}
use Rattle.lapdm_end.specs.lapdm_window.declared.Sapi.TheVariants.{Three}
use Rattle.lapdm_end.specs.lapdm_window.declared.State.TheVariants.{Opening}
use Rattle.lapdm_end.specs.lapdm_window.Ends.{Role, Mobile, Network, initial_endpoint}
use Rattle.lapdm_end.specs.lapdm_window.Calls.{Call, IsCallAllowedFor, refusal_of}
use Rattle.lapdm_link.specs.Queues.{Queues, empty_queues, queue_of, with_items_appended, without_oldest_item, IsOldestSentOrNone}
use Rattle.lapdm_link.specs.Events.{other}
use Rattle.lapdm_datalink.specs.Links.{LinkState, link_with, afresh, IsLinkCall, for_call, after_call, is_reopened_by_call}
use Rattle.lapdm_datalink.specs.Links.{is_reopened_by_frame, is_opening, after_received, after_slot, slot_outcome}

-- the links of both sides, and the frames in transit between them
pub record Pair : Type 0 where
  pub mobile : LinkState
  pub network : LinkState
  pub air : Queues Frame

-- the links at the start of a run, with T200 of each in slots
abbrev pub initial_pair : (channel : Channel) (t200 : Role → ℕ) → Pair
initial_pair channel t200 = record {
  mobile = link_with (initial_endpoint Mobile Three channel) (t200 Mobile);
  network = link_with (initial_endpoint Network Three channel) (t200 Network);
  air = empty_queues;
}

-- the link of this side
abbrev pub link_of : Role → Pair → LinkState
link_of Mobile p = p.mobile
link_of Network p = p.network

-- the pair after this link replaces that of this side
abbrev pub with_link_of : Role → LinkState → Pair → Pair
with_link_of Mobile l p = record p { mobile = l }
with_link_of Network l p = record p { network = l }

-- an event of a run
pub data PairEvent : Type 0 where
  -- layer 3 of this side calls its link
  Calls : Role → Call → PairEvent
  -- layer 3 of this side releases its link locally: the link starts afresh, and nothing is sent
  Releases : Role → PairEvent
  -- a slot passes, and T200 of this side runs on
  Passes : Role → PairEvent
  -- the link of this side has a slot
  Slot : Role → PairEvent
  -- the oldest frame in transit from this side arrives at the other side, or is lost if `arrived` is `None`
  Arrives : (sender : Role) → (arrived : Option Frame) → PairEvent

-- ---- when a link may start afresh

-- whether a frame with this content opens or ends a link, or confirms that
abbrev pub is_link_change : Content → Bool
is_link_change (Sabm p info) = true
is_link_change (Disc p) = true
is_link_change (Ua f info) = true
is_link_change other = false

-- the frame is no such frame
abbrev pub IsNoLinkChange : Frame → Type 0
IsNoLinkChange f = is_link_change f.content ≡ false

-- whether a frame with this content opens a link, or says that the other side opened it
abbrev pub is_opener : Content → Bool
is_opener (Sabm p info) = true
is_opener (Ua f info) = true
is_opener other = false

-- the frame is none of these
abbrev pub IsNoOpener : Frame → Type 0
IsNoOpener f = is_opener f.content ≡ false

-- No SABM, DISC or UA of this side is in transit; and unless the link of the other side is being opened too, that has no SABM or UA in
-- transit, and owes none. Other frames of earlier openings may be in transit.
pub record IsQuiet (role : Role) (p : Pair) : Type 0 where
  pub own : All IsNoLinkChange (queue_of role p.air)
  pub others : is_opening (link_of (other role) p).endpoint.state ≡ false →
      All IsNoOpener (queue_of (other role) p.air) × IfSome (link_of (other role) p).answer IsNoOpener

-- A SABM finds the link of this side closed: the link that sent it is still being opened, and no SABM or UA of this side is in transit.
pub record IsFirst (role : Role) (p : Pair) : Type 0 where
  pub sender : (link_of (other role) p).endpoint.state ≡ Opening
  pub answers : All IsNoOpener (queue_of role p.air)

-- ---- runs

-- The event is possible in this state. A call is one of layer 3 that the link does not refuse. Layer 3 opens a link again, or releases it
-- locally, only when the last exchange of its side is over. A SABM opens a closed link again only if it is no remnant of an earlier
-- opening.
abbrev pub IsPossible : PairEvent → Pair → Type 0
IsPossible (Calls role call) p =
    let l = link_of role p in
    IsLinkCall call × IsCallAllowedFor role Three call × (refusal_of call (for_call call l).endpoint ≡ None)
    × (is_reopened_by_call call l ≡ true → IsQuiet role p)
IsPossible (Releases role) p = IsQuiet role p
IsPossible (Passes role) p = Unit {0}
IsPossible (Slot role) p = Unit {0}
IsPossible (Arrives sender arrived) p = IsOldestSentOrNone arrived (queue_of sender p.air)
    × IfSome arrived (λ f. is_reopened_by_frame f (link_of (other sender) p) ≡ true → IsFirst (other sender) p)

-- the link after this frame, if any, arrives at it
abbrev pub after_arrived : Option Frame → LinkState → LinkState
after_arrived None l = l
after_arrived (Some f) l = after_received f l

-- the pair after an event
abbrev pub after_event : PairEvent → Pair → Pair
after_event (Calls role call) p = with_link_of role (after_call call (link_of role p)) p
after_event (Releases role) p = with_link_of role (afresh (link_of role p)) p
after_event (Passes role) p = with_link_of role (after_slot (link_of role p)) p
after_event (Slot role) p =
    let o = slot_outcome (link_of role p) in
    record (with_link_of role o.link p) { air = with_items_appended role (cons_option o.frame []) p.air }
after_event (Arrives sender arrived) p =
    let l = after_arrived arrived (link_of (other sender) p) in
    record (with_link_of (other sender) l p) { air = without_oldest_item sender p.air }

-- each event is possible when it happens
abbrev pub IsRun : (events : List PairEvent) (pair : Pair) → Type 0
IsRun [] p = Unit {0}
IsRun (event ∷ events) p = IsPossible event p × IsRun events (after_event event p)
