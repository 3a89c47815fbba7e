-- What the data link calls of the C library return and write.
use Rattle.std.specs.Prelude.{ℕ, ◌≡◌, ◌≢◌, ◌==◌, ◌-◌, Bool, true, false, not, if◌then◌else◌, ◌&&◌, List, []}
use Rattle.std.specs.Prelude.{◌++◌}
use Rattle.std.specs.Prelude.{map, length, drop, replicate, slice_get, Option, Some, None}
use Rattle.std.specs.Option.{is_none, option_map}
use Rattle.lapdm_frame.specs.declared.Channel.{Channel}
use Rattle.lapdm_frame.specs.declared.Channel.TheVariants.{Sdcch, Sacch}
use Rattle.lapdm_frame.specs.declared.Refusal.{Refusal}
use Rattle.lapdm_frame.specs.Content.{Content, Ui, Frame, fill_frame}
use Rattle.lapdm_frame.specs.Frames.{octets_of, bit_of_bool}
use Rattle.lapdm_frame.specs.Readings.{IsOnlyEncodedFrame, IsOnlyRefusalReason}
use Rattle.um_air.specs.segmenting.Segments.{Message}
use Rattle.um_air.specs.lapdm_window.declared.Sapi.{Sapi}
use Rattle.um_air.specs.lapdm_window.declared.Sapi.TheVariants.{Zero, Three}
use Rattle.um_air.specs.lapdm_window.declared.Notice.{Notice}
use Rattle.um_air.specs.lapdm_window.declared.Refused.{Refused}
use Rattle.um_air.specs.lapdm_window.Ends.{Role, EndpointState, command_cr}
use Rattle.um_air.specs.segmenting.declared.buffers.MessageBuffer.{MessageBuffer}
use Rattle.um_air.specs.segmenting.Buffers.{message_buffer}
use Rattle.um_air.specs.lapdm_window.Calls.{Call, OpensWithoutInfo, SendsUi, IsCallAllowedForEndpoint, refusal_of}
use Rattle.lapdm_end.specs.declared.Role.{Role as Side}
use Rattle.lapdm_end.specs.Parts.{EndpointValues}
use Rattle.lapdm_datalink.specs.declared.links.Link.{Link}
use Rattle.lapdm_datalink.specs.declared.links.LinkSlot.{LinkSlot}
use Rattle.lapdm_datalink.specs.declared.data_links.DataLink.{DataLink}
use Rattle.lapdm_datalink.specs.declared.outlook.LinkOutlook.{LinkOutlook}
use Rattle.lapdm_datalink.specs.declared.outlook.Outlook.{Outlook}
use Rattle.lapdm_datalink.specs.Outlooks.{IsOutlook, IsLinkOutlook}
use Rattle.lapdm_datalink.specs.declared.data_links.Slot.{Slot}
use Rattle.lapdm_datalink.specs.Abstraction.{notices_if}
use Rattle.lapdm_datalink.specs.Links.{LinkState, for_call, after_call, after_received, received_notices, slot_outcome}
use Rattle.lapdm_datalink.specs.Links.{for_establishment, after_establishment, unacked_messages}
use Rattle.lapdm_datalink.specs.declared.data_links.Establishment.{Establishment}
use Rattle.lapdm_datalink.specs.declared.data_links.Establishment.TheVariants.{Contention, Normal}
use Rattle.lapdm_datalink.specs.DataLinks.{DataLinkState, initial_data_link, link_with_sapi, with_link, sapi_for_frame, after_arrival}
use Rattle.lapdm_datalink.specs.DataLinks.{arrival_notices, data_link_outcome, with_clocks_moved, DataLinkOutcome, with_sapi3}
use Rattle.lapdm_datalink.specs.DataLinks.{notices_of_taking, is_ui, unit_frame}
use Rattle.lapdm_datalink.specs.Parts.{LinkValues, ValuesRepresent, DataLinkValues, RepresentDataLink, acts_in_slot}
use Rattle.um_c.specs.declared.datalinks.CTimedEnd.{CTimedEnd}
use Rattle.um_c.specs.declared.datalinks.CDataLink.{CDataLink}
use Rattle.um_c.specs.declared.datalinks.CReport.{CReport}
use Rattle.um_c.specs.Plain.{is_nonzero}
use Rattle.um_c.specs.Effects.{c_notice, blank_notice}
use Rattle.um_c.specs.States.{sapi_of, sapi_number, endpoint_values_from, c_endpoint}
use Rattle.um_c.specs.EndCalls.{call_refusal_number}
use Rattle.lapdm_end.specs.Addresses as A
use Rattle.lapdm_datalink.specs.Abstraction as L
use Rattle.lapdm_datalink.specs.Sides as D

-- ---- the structs

-- the answer in the struct, or `None` if none is owed
abbrev pub answer_from : (owed : ℕ) (answer : List ℕ) → Option (List ℕ)
answer_from owed answer = if is_nonzero owed then Some answer else None

-- the values of the link in the struct, if those of its endpoint are in range; otherwise `None`
abbrev pub link_values_if_valid : (c : CTimedEnd) (endpoint : Option EndpointValues) → Option LinkValues
link_values_if_valid c None = None
link_values_if_valid c (Some x) = Some (record {
  endpoint = x;
  t200 = c.t200;
  answer = answer_from c.owed c.answer;
  is_sent = is_nonzero c.sent;
  clock = c.clock;
  heard = is_nonzero c.heard;
})

abbrev pub link_values_from : CTimedEnd → Option LinkValues
link_values_from c = link_values_if_valid c (endpoint_values_from c.end)

-- the values of the data link in the struct, if those of both links are valid; otherwise `None`
abbrev pub data_link_values_if_valid : (c : CDataLink) (link0 link3 : Option LinkValues) → Option DataLinkValues
data_link_values_if_valid c (Some x) (Some y) = Some (record {
  link0 = x;
  link3 = y;
  heard_sapi0 = is_nonzero c.heard0;
  is_main_established = is_nonzero c.main;
})
data_link_values_if_valid c x y = None

abbrev pub data_link_values_from : CDataLink → Option DataLinkValues
data_link_values_from c = data_link_values_if_valid c (link_values_from c.link0) (link_values_from c.link3)

-- the struct represents the link `l`
pub record RepresentsLink (c : CTimedEnd) (l : LinkState) : Type 0 where
  pub values : LinkValues
  pub decoded : link_values_from c ≡ Some values
  pub represents : ValuesRepresent values l

-- the struct represents the data link `s`
pub record RepresentsDataLink (c : CDataLink) (s : DataLinkState) : Type 0 where
  pub values : DataLinkValues
  pub decoded : data_link_values_from c ≡ Some values
  pub represents : RepresentDataLink values s

-- the struct represents some data link
abbrev pub RepresentsSomeDataLink : CDataLink → Type 0
RepresentsSomeDataLink c = (s : DataLinkState) × RepresentsDataLink c s

-- the octets of an answer as they are written
abbrev pub owed_number : Option (List ℕ) → ℕ
owed_number None = 0
owed_number (Some block) = 1

abbrev pub answer_octets : Option (List ℕ) → List ℕ
answer_octets None = replicate 23 0
answer_octets (Some block) = block

-- the struct written for these values, with zeros in all unused octets
abbrev pub c_timed_end : LinkValues → CTimedEnd
c_timed_end x = record {
  end = c_endpoint x.endpoint;
  t200 = x.t200;
  sent = bit_of_bool x.is_sent;
  clock = x.clock;
  owed = owed_number x.answer;
  answer = answer_octets x.answer;
  heard = bit_of_bool x.heard;
}

-- the struct written for these values
abbrev pub c_data_link : DataLinkValues → CDataLink
c_data_link x = record {
  link0 = c_timed_end x.link0;
  link3 = c_timed_end x.link3;
  heard0 = bit_of_bool x.heard_sapi0;
  main = bit_of_bool x.is_main_established;
}

-- the struct was written for the data link `s`: it represents `s`, with zeros in all unused octets
pub record IsWrittenFor (s : DataLinkState) (after : CDataLink) : Type 0 where
  pub represents : RepresentsDataLink after s
  pub canonical : after ≡ c_data_link represents.values

-- the struct of a link is in canonical form, the form that the calls write
abbrev pub IsCanonicalLink : CTimedEnd → Type 0
IsCanonicalLink c = (x : LinkValues) × (link_values_from c ≡ Some x) × (c ≡ c_timed_end x)

-- the struct of a link after a call: in canonical form if the link acted, else as it was
abbrev pub IsLinkWritten : (acts : Bool) (before after : CTimedEnd) → Type 0
IsLinkWritten true before after = IsCanonicalLink after
IsLinkWritten false before after = after ≡ before

-- the struct was written over `before` for the data link `s`: the links that acted in canonical form, and the two bits
pub record IsWrittenOver (before : CDataLink) (acts : Sapi → Bool) (s : DataLinkState) (after : CDataLink) : Type 0 where
  pub represents : RepresentsDataLink after s
  pub link0 : IsLinkWritten (acts Zero) before.link0 after.link0
  pub link3 : IsLinkWritten (acts Three) before.link3 after.link3
  pub heard0 : after.heard0 ≡ bit_of_bool s.heard_sapi0
  pub main : after.main ≡ bit_of_bool s.is_main_established

-- the struct of a link once a slot has been counted, unless its clock is stopped
abbrev pub counted : (is_stopped : Bool) → CTimedEnd → CTimedEnd
counted is_stopped c = record c { clock = if is_stopped then c.clock else c.clock - 1 }

-- the struct of a data link whose links have counted a slot: that of SAPI 3 unless a frame of SAPI 0 took the place of its answer
abbrev pub with_clocks_counted : CDataLink → CDataLink
with_clocks_counted c = record c { link0 = counted false c.link0; link3 = counted (is_nonzero c.heard0) c.link3 }

-- the link that takes a frame, if any
abbrev pub is_taker : Option Sapi → Sapi → Bool
is_taker (Some Zero) Zero = true
is_taker (Some Three) Three = true
is_taker taker sapi = false

-- the links that act when this frame arrives: that which takes it, if any; a UI frame changes no link
abbrev pub acts_on_frame : (taker : Option Sapi) (frame : Frame) → Sapi → Bool
acts_on_frame taker f sapi = is_taker taker sapi && not (is_ui f.content)

-- the links that act in a slot of this data link, whose clocks were moved: SAPI 3 only if SAPI 0 sends nothing
abbrev pub acts_in_slot_of : DataLinkState → Sapi → Bool
acts_in_slot_of s Zero = acts_in_slot s.link0
acts_in_slot_of s Three = is_none (slot_outcome s.link0).frame && acts_in_slot s.link3

-- what a data link does in a slot, once its clocks were moved
abbrev pub slot_of : DataLinkState → DataLinkOutcome
slot_of s = let o = slot_outcome s.link0 in with_sapi3 o o.frame s

-- the Rust data link `m` was read from the struct `c`
pub record IsRead (c : CDataLink) (m : DataLink) : Type 0 where
  pub some : RepresentsSomeDataLink c
  pub represents : (s : DataLinkState) → RepresentsDataLink c s → D.Represents m s

-- the Rust link `m` was read from the struct `c`
pub record IsLinkRead (c : CTimedEnd) (m : Link) : Type 0 where
  pub some : (l : LinkState) × RepresentsLink c l
  pub represents : (l : LinkState) → RepresentsLink c l → L.Represents m l

-- the struct represents a link, and this is the outlook of what it represents
pub record IsLinkSeen (is_stopped : Bool) (c : CTimedEnd) (o : LinkOutlook) : Type 0 where
  pub some : (l : LinkState) × RepresentsLink c l
  pub outlook : (l : LinkState) → RepresentsLink c l → IsLinkOutlook is_stopped o l

-- the struct represents a data link, and this is the outlook of what it represents
pub record IsSeen (c : CDataLink) (o : Outlook) : Type 0 where
  pub some : RepresentsSomeDataLink c
  pub outlook : (s : DataLinkState) → RepresentsDataLink c s → IsOutlook o s

-- the link `l` took a frame and reported these notices; a UI frame changes no link
pub record LinkTakesFrame (f : Frame) (l : LinkState) (before after : CTimedEnd) (notices : List Notice) : Type 0 where
  pub represents : RepresentsLink after (after_received f l)
  pub written : IsLinkWritten (not (is_ui f.content)) before after
  pub notices_are : notices ≡ received_notices f l

-- the link `l` did this in a slot
pub record LinkUsesSlot (l : LinkState) (slot : LinkSlot) (before after : CTimedEnd) : Type 0 where
  pub represents : RepresentsLink after (slot_outcome l).link
  pub written : IsLinkWritten (acts_in_slot l) before after
  pub block : slot.block ≡ option_map (octets_of l.endpoint.channel) (slot_outcome l).frame
  pub gave_up : notices_if slot.gave_up ≡ (slot_outcome l).notices

-- whether this is the content of a UI frame without information, such as the fill frame: no link reports it
abbrev pub is_empty_ui : Content → Bool
is_empty_ui (Ui p []) = true
is_empty_ui other = false

-- ---- reports

-- the struct of these notices, each with its SAPI, in order, with zeros in the unused array elements
abbrev pub c_report : (reports : List (Sapi × Notice)) → CReport
c_report rs = record {
  notices = map (λ r. c_notice r.1) rs ++ replicate (3 - length rs) blank_notice;
  sapis = map (λ r. sapi_number r.0) rs ++ replicate (3 - length rs) 0;
  notice_count = length rs;
}

-- the notices of a link with this SAPI
abbrev pub reports_of : Sapi → List Notice → List (Sapi × Notice)
reports_of sapi ns = map (λ n. (sapi, n)) ns

abbrev pub reports_if_taken : Option Sapi → List Notice → List (Sapi × Notice)
reports_if_taken None ns = []
reports_if_taken (Some sapi) ns = reports_of sapi ns

-- ---- the calls

-- the call succeeds, and `after` is written for this data link
pub record Succeeds (s : DataLinkState) (answer : ℕ) (after : CDataLink) : Type 0 where
  pub answer_is_0 : answer ≡ 0
  pub written : IsWrittenFor s after

-- the call succeeds, and `after` is written over `before` for this data link
pub record SucceedsOver (before : CDataLink) (acts : Sapi → Bool) (s : DataLinkState) (answer : ℕ) (after : CDataLink) : Type 0 where
  pub answer_is_0 : answer ≡ 0
  pub written : IsWrittenOver before acts s after

-- the kind of establishment with this number: 0 is with contention resolution, 1 is normal, any other number is invalid
abbrev pub establishment_of : (number : ℕ) → Option Establishment
establishment_of number = if number == 0 then Some Contention else if number == 1 then Some Normal else None

-- if role, channel, kind of establishment and both T200 are valid, the call returns true, and `after` is written for a new data link;
-- otherwise it returns false and writes nothing
abbrev pub WritesDataLinkIfValid : (role : Option Side) (channel : Option Channel) (establishment : Option Establishment)
    (t200 t200_sapi3 : ℕ) (are_set : Bool) (answer : Bool) (before after : CDataLink) → Type 0
WritesDataLinkIfValid (Some role) (Some channel) (Some establishment) t t3 true answer before after =
    (answer ≡ true) × IsWrittenFor (initial_data_link (A.spec_role_of role) channel establishment t t3) after
WritesDataLinkIfValid role channel establishment t t3 are_set answer before after = (answer ≡ false) × (after ≡ before)

-- a request of layer 3 to the link of this SAPI is carried out as a change, or refused; the call returns 8 if no link has this SAPI or the
-- link does not support the request, and 7 if `before` represents no data link; unless it returns 0, it writes nothing
pub record DataLinkAnswers (sapi : ℕ) (Supports : EndpointState → Type 0) (refusal : LinkState → Option Refused)
    (change : LinkState → LinkState) (answer : ℕ) (before after : CDataLink) : Type 0
  where
    pub carried_out : (s : DataLinkState) → RepresentsDataLink before s → (p : Sapi) → Some p ≡ sapi_of sapi →
        Supports (link_with_sapi p s).endpoint → refusal (link_with_sapi p s) ≡ None →
        Succeeds (with_link p (change (link_with_sapi p s)) s) answer after
    pub refused : (s : DataLinkState) → RepresentsDataLink before s → (p : Sapi) → Some p ≡ sapi_of sapi →
        Supports (link_with_sapi p s).endpoint → (reason : Refused) → refusal (link_with_sapi p s) ≡ Some reason →
        answer ≡ call_refusal_number reason
    pub unsupported_call : (s : DataLinkState) → RepresentsDataLink before s → (p : Sapi) → Some p ≡ sapi_of sapi →
        (Supports (link_with_sapi p s).endpoint → ⊥) → answer ≡ 8
    pub no_such_sapi : RepresentsSomeDataLink before → None ≡ sapi_of sapi → answer ≡ 8
    pub invalid_struct : (RepresentsSomeDataLink before → ⊥) → answer ≡ 7
    pub unchanged : answer ≢ 0 → after ≡ before

-- so is a call of layer 3
abbrev pub DataLinkAnswersCall : (sapi : ℕ) (call : Call) (answer : ℕ) (before after : CDataLink) → Type 0
DataLinkAnswersCall sapi call = DataLinkAnswers sapi (λ e. IsCallAllowedForEndpoint e call)
    (λ l. refusal_of call (for_call call l).endpoint) (after_call call)

-- and so the establishment of a link without information, which every link supports
abbrev pub DataLinkEstablishes : (sapi : ℕ) (answer : ℕ) (before after : CDataLink) → Type 0
DataLinkEstablishes sapi = DataLinkAnswers sapi (λ e. Unit {0}) (λ l. refusal_of OpensWithoutInfo (for_establishment l).endpoint)
    after_establishment

-- a change of the link of this SAPI that is never refused
pub record DataLinkChangesLink (sapi : ℕ) (change : LinkState → LinkState) (answer : ℕ) (before after : CDataLink) : Type 0 where
  pub carried_out : (s : DataLinkState) → RepresentsDataLink before s → (p : Sapi) → Some p ≡ sapi_of sapi →
      Succeeds (with_link p (change (link_with_sapi p s)) s) answer after
  pub no_such_sapi : RepresentsSomeDataLink before → None ≡ sapi_of sapi → answer ≡ 8
  pub invalid_struct : (RepresentsSomeDataLink before → ⊥) → answer ≡ 7
  pub unchanged : answer ≢ 0 → after ≡ before

-- a change of the data link that is never refused
pub record DataLinkChanges (change : DataLinkState → DataLinkState) (answer : ℕ) (before after : CDataLink) : Type 0 where
  pub carried_out : (s : DataLinkState) → RepresentsDataLink before s → Succeeds (change s) answer after
  pub invalid_struct : (RepresentsSomeDataLink before → ⊥) → answer ≡ 7
  pub unchanged : answer ≢ 0 → after ≡ before

-- the data link receives the frame that the block encodes; the call returns 9 if the block encodes no frame, and 7 if `before` represents
-- no data link; unless it returns 0, it writes nothing
pub record DataLinkReceivesBlock (octets : List ℕ) (answer : ℕ) (before after : CDataLink) (report_old report : CReport) : Type 0 where
  pub carried_out : (s : DataLinkState) → RepresentsDataLink before s → (f : Frame) →
      IsOnlyEncodedFrame s.link0.endpoint.channel f octets →
      SucceedsOver before (acts_on_frame (sapi_for_frame f s) f) (after_arrival f s) answer after
  pub reported : (s : DataLinkState) → RepresentsDataLink before s → (f : Frame) →
      IsOnlyEncodedFrame s.link0.endpoint.channel f octets →
      report ≡ c_report (reports_if_taken (sapi_for_frame f s) (arrival_notices f s))
  pub invalid_frame : (s : DataLinkState) → RepresentsDataLink before s → (reason : Refusal) →
      IsOnlyRefusalReason s.link0.endpoint.channel octets reason → answer ≡ 9
  pub invalid_struct : (RepresentsSomeDataLink before → ⊥) → answer ≡ 7
  pub unchanged : answer ≢ 0 → (after ≡ before) × (report ≡ report_old)

-- the block with these layer 1 octets, which a block of SACCH alone has
abbrev pub with_layer1 : (channel : Channel) (layer1 block : List ℕ) → List ℕ
with_layer1 Sdcch layer1 block = block
with_layer1 Sacch layer1 block = layer1 ++ drop 2 block

-- the call returns 0 for a frame, and 10 for the fill frame
abbrev pub slot_answer : Option Frame → ℕ
slot_answer None = 10
slot_answer (Some f) = 0

-- the frame of a slot in which the data link of this role sends `sent`
abbrev pub slot_frame : (role : Role) (sent : Option Frame) → Frame
slot_frame role None = fill_frame (command_cr role)
slot_frame role (Some f) = f

-- the data link fills its slot; the call returns 7 and writes nothing if `before` represents no data link
pub record DataLinkFillsSlot (layer1 : List ℕ) (answer : ℕ) (before after : CDataLink) (block_old block : List ℕ)
    (report_old report : CReport) : Type 0
  where
    pub written : (s : DataLinkState) → RepresentsDataLink before s →
        IsWrittenOver (with_clocks_counted before) (acts_in_slot_of (with_clocks_moved s)) (data_link_outcome s).new_state after
    pub answer_is : (s : DataLinkState) → RepresentsDataLink before s → answer ≡ slot_answer (data_link_outcome s).frame
    pub block_is : (s : DataLinkState) → RepresentsDataLink before s → block ≡ with_layer1 s.link0.endpoint.channel layer1
        (octets_of s.link0.endpoint.channel (slot_frame s.link0.endpoint.role (data_link_outcome s).frame))
    pub reported : (s : DataLinkState) → RepresentsDataLink before s → let o = data_link_outcome s in
        report ≡ c_report (reports_of Zero o.notices0 ++ reports_of Three o.notices3)
    pub invalid_struct : (RepresentsSomeDataLink before → ⊥) → answer ≡ 7
    pub unchanged : answer ≡ 7 → (after ≡ before) × (block ≡ block_old) × (report ≡ report_old)

-- the data link `s`, whose clocks were moved, did this in a slot
pub record SlotIsFilled (s : DataLinkState) (slot : Slot) (before after : CDataLink) : Type 0 where
  pub represents : RepresentsDataLink after (slot_of s).new_state
  pub link0 : IsLinkWritten (acts_in_slot_of s Zero) before.link0 after.link0
  pub link3 : IsLinkWritten (acts_in_slot_of s Three) before.link3 after.link3
  pub heard0 : after.heard0 ≡ before.heard0
  pub main : after.main ≡ before.main
  pub block : slot.block ≡ option_map (octets_of s.link0.endpoint.channel) (slot_of s).frame
  pub gave_up0 : notices_if slot.gave_up0 ≡ (slot_of s).notices0
  pub gave_up3 : notices_if slot.gave_up3 ≡ (slot_of s).notices3

-- the data link after the link of this SAPI, if any, takes a frame
abbrev pub passed_to : Option Sapi → Frame → DataLinkState → DataLinkState
passed_to None f s = s
passed_to (Some sapi) f s = with_link sapi (after_received f (link_with_sapi sapi s)) s

-- so it did, and these are its notices
pub record FrameIsPassed (sapi : Option Sapi) (f : Frame) (s : DataLinkState) (before after : CDataLink) (notices : List Notice) : Type 0
  where
    pub represents : RepresentsDataLink after (passed_to sapi f s)
    pub link0 : IsLinkWritten (acts_on_frame sapi f Zero) before.link0 after.link0
    pub link3 : IsLinkWritten (acts_on_frame sapi f Three) before.link3 after.link3
    pub reports : reports_if_taken sapi notices ≡ reports_if_taken sapi (notices_of_taking sapi f s)

-- the UI frame with this message is written; the call returns the number of a refusal, 8 if no link has this SAPI, and 7 if the struct
-- represents no data link; unless it returns 0, it writes nothing
pub record DataLinkEncodesUnit (sapi : ℕ) (m : Message) (layer1 : List ℕ) (answer : ℕ) (c : CDataLink)
    (block_old block : List ℕ) : Type 0
  where
    pub carried_out : (s : DataLinkState) → RepresentsDataLink c s → (p : Sapi) → Some p ≡ sapi_of sapi →
        refusal_of (SendsUi m) (link_with_sapi p s).endpoint ≡ None →
        (answer ≡ 0) × (block ≡ with_layer1 s.link0.endpoint.channel layer1
        (octets_of s.link0.endpoint.channel (unit_frame p m s)))
    pub refused : (s : DataLinkState) → RepresentsDataLink c s → (p : Sapi) → Some p ≡ sapi_of sapi → (reason : Refused) →
        refusal_of (SendsUi m) (link_with_sapi p s).endpoint ≡ Some reason → answer ≡ call_refusal_number reason
    pub no_such_sapi : RepresentsSomeDataLink c → None ≡ sapi_of sapi → answer ≡ 8
    pub invalid_struct : (RepresentsSomeDataLink c → ⊥) → answer ≡ 7
    pub unchanged : answer ≢ 0 → block ≡ block_old

-- the message with this index, of those that the link of this SAPI was asked to send and that are not acknowledged whole, is written; the
-- call returns 4 if there is none, 8 if no link has this SAPI, and 7 if the struct represents no data link; unless it returns 0, it writes
-- nothing
pub record DataLinkHasUnacked (sapi index answer : ℕ) (c : CDataLink) (before after : MessageBuffer) : Type 0 where
  pub written : (s : DataLinkState) → RepresentsDataLink c s → (p : Sapi) → Some p ≡ sapi_of sapi → (m : Message) →
      slice_get (unacked_messages (link_with_sapi p s).endpoint) index ≡ Some m → (answer ≡ 0) × (after ≡ message_buffer m)
  pub no_more : (s : DataLinkState) → RepresentsDataLink c s → (p : Sapi) → Some p ≡ sapi_of sapi →
      slice_get (unacked_messages (link_with_sapi p s).endpoint) index ≡ None → answer ≡ 4
  pub no_such_sapi : RepresentsSomeDataLink c → None ≡ sapi_of sapi → answer ≡ 8
  pub invalid_struct : (RepresentsSomeDataLink c → ⊥) → answer ≡ 7
  pub unchanged : answer ≢ 0 → after ≡ before
