-- How a `Link` and a `DataLink` represent their states.
use Rattle.std.specs.Prelude.{◌≡◌, Bool, true, false, not, List, [], ◌∷◌, IfSome}
use Rattle.std.specs.Option.{option_map}
use Rattle.lapdm_frame.specs.declared.Channel.{Channel}
use Rattle.lapdm_frame.specs.Content.{Content, Rr, Rej, Dm, Ua, Frame}
use Rattle.lapdm_frame.specs.Frames.{FrameFits, octets_of}
use Rattle.lapdm_end.specs.lapdm_window.declared.Sapi.{Sapi}
use Rattle.lapdm_end.specs.lapdm_window.declared.Notice.{Notice}
use Rattle.lapdm_end.specs.lapdm_window.declared.Notice.TheVariants.{Closed}
use Rattle.lapdm_end.specs.lapdm_window.declared.Reason.TheVariants.{Failed}
use Rattle.lapdm_end.specs.lapdm_window.Ends.{Role, EndpointState, command_cr, sapi_number}
use Rattle.lapdm_end.specs.Abstraction as E
use Rattle.lapdm_datalink.specs.declared.links.Link.{Link}
use Rattle.lapdm_datalink.specs.Links.{LinkState, is_awaiting_kind}

-- the channel, the role and the SAPI of a link
abbrev pub channel_of : Link → Channel
channel_of m = E.channel_of m.endpoint

abbrev pub role_of : Link → Role
role_of m = E.role_of m.endpoint

abbrev pub sapi_of : Link → Sapi
sapi_of m = E.sapi_of m.endpoint

-- whether a frame with this content is an answer: a UA, DM, RR or REJ
abbrev pub is_answer_kind : Content → Bool
is_answer_kind (Ua f info) = true
is_answer_kind (Dm f) = true
is_answer_kind (Rr nr pf) = true
is_answer_kind (Rej nr pf) = true
is_answer_kind other = false

-- the frame is an answer of a link with this role and SAPI: a response
pub record IsAnswer (role : Role) (sapi : Sapi) (f : Frame) : Type 0 where
  pub kind : is_answer_kind f.content ≡ true
  pub sapi_is : f.sapi ≡ sapi_number sapi
  pub response : f.cr ≡ not (command_cr role)

-- so it may wait for a slot on this channel, since it fits in a block
abbrev pub MayWait : (role : Role) (sapi : Sapi) (channel : Channel) (frame : Frame) → Type 0
MayWait role sapi channel f = FrameFits channel f × IsAnswer role sapi f

-- the endpoint may return this frame to its link: it fits in a block, and it awaits an answer or is one
abbrev pub MayBeReturned : (endpoint : EndpointState) (frame : Frame) → Type 0
MayBeReturned e f = FrameFits e.channel f × (is_awaiting_kind f.content ≡ false → IsAnswer e.role e.sapi f)

-- the Rust link `m` represents the link `l`; it holds the octets of the answer that `l` owes
pub record Represents (m : Link) (l : LinkState) : Type 0 where
  pub endpoint : E.Represents m.endpoint l.endpoint
  pub t200 : m.t200 ≡ l.t200
  pub answer : m.answer ≡ option_map (octets_of l.endpoint.channel) l.answer
  pub is_answer : IfSome l.answer (MayWait l.endpoint.role l.endpoint.sapi l.endpoint.channel)
  pub is_sent : m.is_sent ≡ l.is_sent
  pub clock : m.clock ≡ l.clock
  pub heard : m.heard ≡ l.heard

-- the notices of a link in a slot, in which it may be given up
abbrev pub notices_if : (gave_up : Bool) → List Notice
notices_if false = []
notices_if true = Closed Failed ∷ []
