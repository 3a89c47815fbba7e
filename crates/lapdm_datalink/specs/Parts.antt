-- The state of a link as plain data.
use Rattle.std.specs.Prelude.{◌≡◌, ◌≢◌, ◌≤◌, ◌<◌, ◌||◌, not, ℕ, Bool, List, length, Option, IfSome}
use Rattle.std.specs.Option.{is_none}
use Rattle.lapdm_frame.specs.Layout.{largest_n201}
use Rattle.lapdm_end.specs.lapdm_window.segmenting.Segments.{max_message_octets, max_segments_per_message}
use Rattle.lapdm_frame.specs.declared.Channel.{Channel}
use Rattle.lapdm_frame.specs.Content.{Frame}
use Rattle.lapdm_frame.specs.Frames.{octets_of}
use Rattle.lapdm_end.specs.Parts.{EndpointValues}
use Rattle.lapdm_end.specs.Parts as E
use Rattle.lapdm_end.specs.lapdm_window.declared.Sapi.{Sapi}
use Rattle.lapdm_end.specs.lapdm_window.declared.Sapi.TheVariants.{Three}
use Rattle.lapdm_end.specs.lapdm_window.Ends.{Role}
use Rattle.lapdm_datalink.specs.declared.links.Link.{Link}
use Rattle.lapdm_datalink.specs.declared.parts.LinkView.{LinkView}
use Rattle.lapdm_datalink.specs.declared.data_links.DataLink.{DataLink}
use Rattle.lapdm_datalink.specs.declared.parts.DataLinkView.{DataLinkView}
use Rattle.lapdm_datalink.specs.Links.{LinkState, is_due}
use Rattle.lapdm_datalink.specs.DataLinks.{DataLinkState, IsDataLink}
use Rattle.lapdm_datalink.specs.Abstraction.{Represents, MayWait, role_of, sapi_of, channel_of}
use Rattle.lapdm_end.specs.Addresses.{spec_role_of}

-- the state of a link as plain data; the answer is a block of 23 octets
pub record LinkValues : Type 0 where
  pub endpoint : EndpointValues
  pub t200 : ℕ
  pub answer : Option (List ℕ)
  pub is_sent : Bool
  pub clock : ℕ
  pub heard : Bool

-- the state of a Rust link as plain data
abbrev pub values_of : Link → LinkValues
values_of m = record {
  endpoint = E.values_of m.endpoint;
  t200 = m.t200;
  answer = m.answer;
  is_sent = m.is_sent;
  clock = m.clock;
  heard = m.heard;
}

-- the link state in a Rust `LinkView`
abbrev pub values_of_parts : LinkView → LinkValues
values_of_parts p = record {
  endpoint = E.values_of_parts p.endpoint;
  t200 = p.t200;
  answer = p.answer;
  is_sent = p.is_sent;
  clock = p.clock;
  heard = p.heard;
}

-- some Rust link has the values `x` and represents the link `l`
pub record ValuesRepresent (x : LinkValues) (l : LinkState) : Type 0 where
  pub link : Link
  pub values_match : values_of link ≡ x
  pub represents : Represents link l

-- some Rust link has these values and represents some link
abbrev pub SomeLinkHasValues : LinkValues → Type 0
SomeLinkHasValues x = (l : LinkState) × ValuesRepresent x l

-- the values have the role, the SAPI and the channel of this Rust link
pub record IsAtSameAddress (m : Link) (x : LinkValues) : Type 0 where
  pub role : spec_role_of x.endpoint.role ≡ role_of m
  pub sapi : x.endpoint.sapi ≡ sapi_of m
  pub channel : x.endpoint.window.channel ≡ channel_of m

-- some link of the SAPI and the channel of this Rust link has these values
abbrev pub CanBeRestored : (m : Link) (x : LinkValues) → Type 0
CanBeRestored m x = IsAtSameAddress m x × SomeLinkHasValues x

-- T200 is not 0, and the clock is not longer
abbrev pub IsTimed : (t200 clock : ℕ) → Type 0
IsTimed t200 clock = (t200 ≢ 0) × (clock ≤ t200)

-- what a view is borrowed from has room in the arrays of an endpoint
pub record IsWritable (p : LinkView) : Type 0 where
  pub sabm_info : length p.endpoint.sabm_info.now ≤ largest_n201
  pub held : length p.endpoint.window.held.now ≤ 8
  pub place : p.endpoint.window.segment_index < max_segments_per_message p.endpoint.window.channel
  pub reassembly : length p.endpoint.window.reassembly.now ≤ max_message_octets

-- the state of a data link as plain data
pub record DataLinkValues : Type 0 where
  pub link0 : LinkValues
  pub link3 : LinkValues
  pub heard_sapi0 : Bool
  pub is_main_established : Bool

-- the state of a Rust data link as plain data
abbrev pub data_link_values_of : DataLink → DataLinkValues
data_link_values_of m = record {
  link0 = values_of m.link0;
  link3 = values_of m.link3;
  heard_sapi0 = m.heard_sapi0;
  is_main_established = m.is_main_established;
}

-- the data link state in a Rust `DataLinkView`
abbrev pub data_link_values_of_parts : DataLinkView → DataLinkValues
data_link_values_of_parts p = record {
  link0 = values_of_parts p.link0;
  link3 = values_of_parts p.link3;
  heard_sapi0 = p.heard_sapi0;
  is_main_established = p.is_main_established;
}

-- the values represent the data link `s`
pub record RepresentDataLink (x : DataLinkValues) (s : DataLinkState) : Type 0 where
  pub valid : IsDataLink s
  pub link0 : ValuesRepresent x.link0 s.link0
  pub link3 : ValuesRepresent x.link3 s.link3
  pub heard_sapi0 : x.heard_sapi0 ≡ s.heard_sapi0
  pub is_main_established : x.is_main_established ≡ s.is_main_established

-- the values represent some data link
abbrev pub RepresentSomeDataLink : DataLinkValues → Type 0
RepresentSomeDataLink x = (s : DataLinkState) × RepresentDataLink x s

-- the block is the coding of an answer of a link with this role, SAPI and channel
abbrev pub IsAnswerBlock : (role : Role) (sapi : Sapi) (channel : Channel) (block : List ℕ) → Type 0
IsAnswerBlock role sapi channel block = (f : Frame) × MayWait role sapi channel f × (block ≡ octets_of channel f)

-- so is the answer in these values, if there is one
abbrev pub HasAnswerBlockIfAny : LinkValues → Type 0
HasAnswerBlockIfAny x = IfSome x.answer (IsAnswerBlock (spec_role_of x.endpoint.role) x.endpoint.sapi x.endpoint.window.channel)

-- whether the link sends a frame or is given up in a slot that it may use: it owes an answer, or its frame is due
abbrev pub acts_in_slot : LinkState → Bool
acts_in_slot l = not (is_none l.answer) || is_due l
