-- A worked run of a C program with two data links on SDCCH: SAPI 0 is established and carries a message, whose first I frame is lost. The
-- octets of the blocks are worked out by hand from GSM 04.06, sections 2 and 3. The run is that of any library whose calls meet their
-- contracts.
use Rattle.std.proofs.Common.{◌≡◌, refl, sym, ap, ◌∙◌, subst, ℕ, Bool, true, false, List, [], ◌∷◌, ◌++◌, replicate}
use Rattle.std.proofs.Common.{Option, Some, None, arith}
use Rattle.std.specs.Prelude.{◌&&◌, ◌||◌}
use Rattle.lapdm_frame.specs.declared.Channel.TheVariants.{Sdcch}
use Rattle.lapdm_frame.specs.Content.{Content, Frame, Sabm, Ua, I, Rr}
use Rattle.lapdm_frame.specs.Frames.{IsFrameCoding, FrameFits, octets_of}
use Rattle.lapdm_frame.proofs.Lemmas.{octets_canonical, same_frame}
use Rattle.um_air.specs.lapdm_window.declared.Sapi.TheVariants.{Zero, Three}
use Rattle.um_air.specs.lapdm_window.declared.Notice.{Notice}
use Rattle.um_air.specs.lapdm_window.declared.Notice.TheVariants as N
use Rattle.um_air.specs.lapdm_window.declared.State.{State}
use Rattle.um_air.specs.lapdm_window.declared.State.TheVariants.{Opening, Open}
use Rattle.um_air.specs.segmenting.Segments.{Message, Segment}
use Rattle.um_air.specs.lapdm_window.Ends.{Role, Mobile, Network, initial_endpoint}
use Rattle.um_air.specs.lapdm_window.Calls.{Call, Opens, Sends, IsCallAllowedForEndpoint, refusal_of}
use Rattle.um_air.specs.lapdm_link.Queues.{Queues, empty_queues, queue_of, with_items_appended, without_oldest_item}
use Rattle.um_air.specs.lapdm_link.Events.{other}
use Rattle.um_air.specs.lapdm_link.Claims.{Asked, Notified}
use Rattle.um_air.specs.lapdm_link.Carriers.{FirstSatisfies}
use Rattle.um_air.proofs.lapdm_link.Lemmas.{each_way}
use Rattle.lapdm_datalink.specs.Links.{link_with, IsLinkCall, for_call, after_call, is_closed, is_opening_call}
use Rattle.lapdm_datalink.specs.DataLinks.{DataLinkState, initial_data_link, with_link, sapi_for_frame, after_arrival, arrival_notices}
use Rattle.lapdm_datalink.specs.DataLinks.{data_link_outcome}
use Rattle.lapdm_delivery.specs.Runs.{OpensNoClosedLink}
use Rattle.um_c.specs.declared.datalinks.CDataLink.{CDataLink}
use Rattle.um_c.specs.declared.datalinks.CReport.{CReport}
use Rattle.um_c.specs.DataLinkCalls.{RepresentsDataLink, IsWrittenFor, DataLinkAnswersCall, DataLinkFillsSlot, DataLinkReceivesBlock}
use Rattle.um_c.specs.DataLinkCalls.{c_report, reports_of, reports_if_taken, with_layer1, slot_answer, slot_frame}
use Rattle.lapdm_datalink.specs.declared.data_links.Establishment.TheVariants.{Contention}
use Rattle.um_air.specs.lapdm_window.Rules.{is_open}
use Rattle.um_c.specs.DataLinkRuns.{PairState, PairStep, Calls, Fills, Takes, Loses, IsPairStart, IsPairRun, pair_log}
use Rattle.um_c.proofs.DataLinkCalls.{decoded}
use Rattle.lapdm_frame.proofs.Lemmas.{only_frame}
use Rattle.std.proofs.Math.Bool.{and-false}

-- what a slot, and a block that arrives, do to these structs; the layer 1 octets are 00
abbrev HasSlot : (answer : ℕ) (before after : CDataLink) (block : List ℕ) (report : CReport) → Type 0
HasSlot n x y block report = DataLinkFillsSlot (0 ∷ 0 ∷ []) n x y (replicate 23 0) block (c_report []) report

abbrev HasBlock : (answer : ℕ) (before after : CDataLink) (block : List ℕ) (report : CReport) → Type 0
HasBlock n x y block report = DataLinkReceivesBlock block n x y (c_report []) report

-- what the calls of a library return and write, as their contracts say; T200 is one slot
record Library : Type 0 where
  new : (role : Role) → (after : CDataLink) × IsWrittenFor (initial_data_link role Sdcch Contention 1 1) after
  call : (call : Call) (before : CDataLink) → (answer : ℕ) × (after : CDataLink) × DataLinkAnswersCall 0 call answer before after
  next : (before : CDataLink) →
      (answer : ℕ) × (after : CDataLink) × (block : List ℕ) × (report : CReport) × HasSlot answer before after block report
  take : (block : List ℕ) (before : CDataLink) →
      (answer : ℕ) × (after : CDataLink) × (report : CReport) × HasBlock answer before after block report

-- the structs once this one replaces that of this side
abbrev with_struct : Role → CDataLink → (Role → CDataLink) → Role → CDataLink
with_struct Mobile x s Mobile = x
with_struct Mobile x s Network = s Network
with_struct Network x s Mobile = s Mobile
with_struct Network x s Network = x

struct-own : (r : Role) (x : CDataLink) (s : Role → CDataLink) → with_struct r x s r ≡ x
struct-own Mobile x s = refl
struct-own Network x s = refl

struct-peer : (r : Role) (x : CDataLink) (s : Role → CDataLink) → with_struct r x s (other r) ≡ s (other r)
struct-peer Mobile x s = refl
struct-peer Network x s = refl

-- the data links of both sides
record Sides : Type 0 where
  mobile : DataLinkState
  network : DataLinkState

abbrev side : Role → Sides → DataLinkState
side Mobile s = s.mobile
side Network s = s.network

abbrev with_side : Role → DataLinkState → Sides → Sides
with_side Mobile d s = record s { mobile = d }
with_side Network d s = record s { network = d }

side-own : (r : Role) (d : DataLinkState) (s : Sides) → side r (with_side r d s) ≡ d
side-own Mobile d s = refl
side-own Network d s = refl

side-peer : (r : Role) (d : DataLinkState) (s : Sides) → side (other r) (with_side r d s) ≡ side (other r) s
side-peer Mobile d s = refl
side-peer Network d s = refl

-- the structs of the program represent these data links, and these blocks are in transit
record Shows (s : Sides) (ws : Queues (List ℕ)) (a : PairState) : Type 0 where
  represents : (r : Role) → RepresentsDataLink (a.struct_of r) (side r s)
  blocks : a.blocks ≡ ws

-- these steps lead on from here
record Goes (s : Sides) (ws : Queues (List ℕ)) (steps : List PairStep) : Type 0 where
  leads : (a : PairState) → Shows s ws a → (z : PairState) × IsPairRun a steps z

ends : {s : Sides} {ws : Queues (List ℕ)} → Goes s ws []
ends = record { leads = λ a h. (a, refl) }

abbrev changed : Role → CDataLink → Queues (List ℕ) → PairState → PairState
changed r x ws a = record { struct_of = with_struct r x a.struct_of; blocks = ws }

shows-changed : {s : Sides} {ws : Queues (List ℕ)} {a : PairState} (r : Role) (x : CDataLink) (d : DataLinkState)
    (vs : Queues (List ℕ)) → Shows s ws a → RepresentsDataLink x d → Shows (with_side r d s) vs (changed r x vs a)
shows-changed {s} {ws} {a} r x d vs h g = record {
  represents = each_way (λ q. RepresentsDataLink (with_struct r x a.struct_of q) (side q (with_side r d s))) r
      (rw (struct-own r x a.struct_of, side-own r d s) g)
      (rw (struct-peer r x a.struct_of, side-peer r d s) (h.represents (other r)));
  blocks = refl;
}

-- data links that one struct represents are on one channel
module _ {c : CDataLink} where
  has_channel : (d : DataLinkState) (h : RepresentsDataLink c d) → h.values.link0.endpoint.window.channel ≡ d.link0.endpoint.channel
  has_channel d h = let g = h.represents.link0 in sym (ap (λ x. x.endpoint.window.channel) g.values_match)
      ∙ g.represents.endpoint.variables.channel

  -- the second with the values of the first
  abbrev as_read : (d e : DataLinkState) → RepresentsDataLink c d → RepresentsDataLink c e → RepresentsDataLink c e
  as_read d e h g = record { values = h.values; decoded = h.decoded; represents = decoded c h.values e h.decoded g }

  one_channel : (d e : DataLinkState) → RepresentsDataLink c d → RepresentsDataLink c e →
      e.link0.endpoint.channel ≡ d.link0.endpoint.channel
  one_channel d e h g = sym (has_channel e (as_read d e h g)) ∙ has_channel d h

  -- and their endpoints of SAPI 0 have one SAPI
  has_sapi : (d : DataLinkState) (h : RepresentsDataLink c d) → h.values.link0.endpoint.sapi ≡ d.link0.endpoint.sapi
  has_sapi d h = let g = h.represents.link0 in sym (ap (λ x. x.endpoint.sapi) g.values_match) ∙ g.represents.endpoint.address.sapi

  one_sapi : (d e : DataLinkState) → RepresentsDataLink c d → RepresentsDataLink c e →
      e.link0.endpoint.sapi ≡ d.link0.endpoint.sapi
  one_sapi d e h g = sym (has_sapi e (as_read d e h g)) ∙ has_sapi d h

module _ (lib : Library) where
  module _ {s : Sides} {ws : Queues (List ℕ)} {steps : List PairStep} (r : Role) where
    calls : (call : Call) → is_opening_call call ≡ false → IsLinkCall call →
        IsCallAllowedForEndpoint (side r s).link0.endpoint call →
        refusal_of call (for_call call (side r s).link0).endpoint ≡ None →
        Goes (with_side r (with_link Zero (after_call call (side r s).link0) (side r s)) s) ws steps →
        Goes s ws (Calls r Zero call 0 ∷ steps)
    calls call first own may ok rest = record { leads = leads }
      where
        leads : (a : PairState) → Shows s ws a → (z : PairState) × IsPairRun a (Calls r Zero call 0 ∷ steps) z
        leads a h =
            let (answer, after, k) = lib.call call (a.struct_of r) in
            let done = k.carried_out (side r s) (h.represents r) Zero refl may ok in
            let more = rest.leads (changed r after ws a) (shows-changed r after _ ws h done.written.represents) in
            let succeeds = subst (λ n. DataLinkAnswersCall 0 call n (a.struct_of r) after) done.answer_is_0 k in (
              more.0,
              (
                (λ d g. ap (λ x. (is_closed d.link0.endpoint.state || is_open d.link0.endpoint.state) && x) first ∙ and-false _),
                changed r after ws a,
                (
                  own,
                  rw (struct-own r after a.struct_of) succeeds,
                  record { peer = struct-peer r after a.struct_of; in_transit = sym h.blocks },
                ),
                more.1,
              ),
            )

    fills : (block : List ℕ) → slot_answer (data_link_outcome (side r s)).frame ≡ 0 →
        with_layer1 (side r s).link0.endpoint.channel (0 ∷ 0 ∷ []) (octets_of (side r s).link0.endpoint.channel
        (slot_frame (side r s).link0.endpoint.role (data_link_outcome (side r s)).frame)) ≡ block →
        (let o = data_link_outcome (side r s) in c_report (reports_of Zero o.notices0 ++ reports_of Three o.notices3) ≡ c_report []) →
        Goes (with_side r (data_link_outcome (side r s)).new_state s) (with_items_appended r (block ∷ []) ws) steps →
        Goes s ws (Fills r (0 ∷ 0 ∷ []) block 0 (c_report []) ∷ steps)
    fills block ok coded silent rest = record { leads = leads }
      where
        vs : Queues (List ℕ)
        vs = with_items_appended r (block ∷ []) ws

        leads : (a : PairState) → Shows s ws a →
            (z : PairState) × IsPairRun a (Fills r (0 ∷ 0 ∷ []) block 0 (c_report []) ∷ steps) z
        leads a h =
            let (answer, after, written, report, k) = lib.next (a.struct_of r) in
            let g = h.represents r in
            let d = side r s in
            let more = rest.leads (changed r after vs a) (shows-changed r after _ vs h (k.written d g).represents) in
            let answered = subst (λ n. HasSlot n (a.struct_of r) after written report)
            (k.answer_is d g ∙ ok) k in
            let filled = subst (λ x. HasSlot 0 (a.struct_of r) after x report)
            (k.block_is d g ∙ coded) answered in
            let reported = subst (λ x. HasSlot 0 (a.struct_of r) after block x)
            (k.reported d g ∙ silent) filled in (
              more.0,
              (
                tt,
                changed r after vs a,
                (
                  replicate 23 0,
                  c_report [],
                  refl,
                  rw (struct-own r after a.struct_of) reported,
                  record { peer = struct-peer r after a.struct_of; in_transit = rw h.blocks refl },
                ),
                more.1,
              ),
            )

    takes : (block : List ℕ) (f : Frame) (report : CReport) → IsFrameCoding (side r s).link0.endpoint.channel f block →
        f.sapi ≡ 0 → (side r s).link0.endpoint.sapi ≡ Zero → FirstSatisfies (λ first. block ≡ first) (queue_of (other r) ws) →
        c_report (reports_if_taken (sapi_for_frame f (side r s)) (arrival_notices f (side r s))) ≡ report →
        Goes (with_side r (after_arrival f (side r s)) s) (without_oldest_item (other r) ws) steps →
        Goes s ws (Takes r block 0 report ∷ steps)
    takes block f report coded zero contention oldest is rest = record { leads = leads }
      where
        vs : Queues (List ℕ)
        vs = without_oldest_item (other r) ws

        once : (a : PairState) → Shows s ws a → (e : DataLinkState) → RepresentsDataLink (a.struct_of r) e → (g : Frame) →
            IsFrameCoding e.link0.endpoint.channel g block → OpensNoClosedLink (Some g) e
        once a h e k g is_g =
            let same : g ≡ f = same_frame (side r s).link0.endpoint.channel block g f
            (rw (one_channel (side r s) e (h.represents r) k) at is_g) coded in
            rw (same, zero, one_sapi (side r s) e (h.represents r) k ∙ contention) refl

        leads : (a : PairState) → Shows s ws a → (z : PairState) × IsPairRun a (Takes r block 0 report ∷ steps) z
        leads a h =
            let (answer, after, written, k) = lib.take block (a.struct_of r) in
            let g = h.represents r in
            let d = side r s in
            let only = only_frame d.link0.endpoint.channel f block coded in
            let done = k.carried_out d g f only in
            let more = rest.leads (changed r after vs a) (shows-changed r after _ vs h done.written.represents) in
            let taken = subst (λ n. HasBlock n (a.struct_of r) after block written) done.answer_is_0 k in
            let reported = subst (λ x. HasBlock 0 (a.struct_of r) after block x)
            (k.reported d g f only ∙ is) taken in (
              more.0,
              (
                once a h,
                changed r after vs a,
                (
                  c_report [],
                  rw (struct-own r after a.struct_of) reported,
                  rw h.blocks oldest,
                  record { peer = struct-peer r after a.struct_of; in_transit = rw h.blocks refl },
                ),
                more.1,
              ),
            )

    loses : Goes s (without_oldest_item r ws) steps → Goes s ws (Loses r ∷ steps)
    loses rest = record { leads = leads }
      where
        leads : (a : PairState) → Shows s ws a → (z : PairState) × IsPairRun a (Loses r ∷ steps) z
        leads a h =
            let b : PairState = record a { blocks = without_oldest_item r a.blocks } in
            let more = rest.leads b (record { represents = h.represents; blocks = rw h.blocks refl }) in
            (more.0, (tt, b, refl, more.1))

-- ---- the run

-- a block on SDCCH: the address, control and length octets, the information, and fill octets 2b
abbrev block_of : (control length : ℕ) (info : List ℕ) (fill : ℕ) → List ℕ
block_of control length info fill = 1 ∷ control ∷ length ∷ info ++ replicate fill 43

-- the SABM with P = 1 is 3f, the UA with F = 1 is 73; the I frame is 00, and 10 with P = 1; the RR with N(R) = 1 and F = 1 is 31
abbrev sabm : List ℕ
sabm = block_of 63 5 (1 ∷ []) 19

abbrev ua : List ℕ
ua = block_of 115 5 (1 ∷ []) 19

abbrev i_frame : List ℕ
i_frame = block_of 0 5 (5 ∷ []) 19

abbrev repeated : List ℕ
repeated = block_of 16 5 (5 ∷ []) 19

abbrev rr : List ℕ
rr = block_of 49 1 [] 20

abbrev frame_of : Content → Frame
frame_of c = record { sapi = 0; cr = false; content = c }

-- a data link whose link of SAPI 3 is idle, with T200 of one slot
abbrev data_link : Role → State → (info : Message) (messages : List Message) (acked sent : ℕ) (accepted : List Segment)
    (retries : ℕ) (answer : Option Frame) (is_sent : Bool) (clock : ℕ) (link_heard heard : Bool) → DataLinkState
data_link role state info messages acked sent accepted retries answer is_sent clock link_heard heard = record {
  link0 = record {
    endpoint = record {
      role = role;
      sapi = Zero;
      channel = Sdcch;
      state = state;
      sabm_info = info;
      messages = messages;
      acked_segments = acked;
      sent_segments = sent;
      accepted_segments = accepted;
      rejecting = false;
      retries = retries;
    };
    t200 = 1;
    answer = answer;
    is_sent = is_sent;
    clock = clock;
    heard = link_heard;
  };
  link3 = link_with (initial_endpoint role Three Sdcch) 1;
  heard_sapi0 = heard;
  is_main_established = false;
}

abbrev both : (mobile network : DataLinkState) → Sides
both m n = record { mobile = m; network = n }

-- the mobile at the start, called, having sent its SABM, open, with a message, having sent it, having repeated it, and at the end
abbrev m0 : DataLinkState
m0 = initial_data_link Mobile Sdcch Contention 1 1

abbrev m1 : DataLinkState
m1 = data_link Mobile Opening (1 ∷ []) [] 0 0 [] 0 None false 0 false false

abbrev m2 : DataLinkState
m2 = data_link Mobile Opening (1 ∷ []) [] 0 0 [] 0 None true 1 false false

abbrev m3 : DataLinkState
m3 = data_link Mobile Open (1 ∷ []) [] 0 0 [] 0 None true 1 false true

abbrev m4 : DataLinkState
m4 = data_link Mobile Open (1 ∷ []) ((5 ∷ []) ∷ []) 0 1 [] 0 None false 0 false true

abbrev m5 : DataLinkState
m5 = data_link Mobile Open (1 ∷ []) ((5 ∷ []) ∷ []) 0 1 [] 0 None true 1 false false

abbrev m6 : DataLinkState
m6 = data_link Mobile Open (1 ∷ []) ((5 ∷ []) ∷ []) 0 1 [] 1 None true 1 false false

abbrev m7 : DataLinkState
m7 = data_link Mobile Open (1 ∷ []) ((5 ∷ []) ∷ []) 1 1 [] 0 None true 1 true true

-- the network at the start, owing the UA, open, owing the RR, and at the end
abbrev n0 : DataLinkState
n0 = initial_data_link Network Sdcch Contention 1 1

abbrev n1 : DataLinkState
n1 = data_link Network Open (1 ∷ []) [] 0 0 [] 0 (Some (frame_of (Ua true (1 ∷ [])))) false 0 false true

abbrev n2 : DataLinkState
n2 = data_link Network Open (1 ∷ []) [] 0 0 [] 0 None false 0 false false

abbrev n3 : DataLinkState
n3 = data_link Network Open (1 ∷ []) [] 0 0 ((5 ∷ [], false) ∷ []) 0 (Some (frame_of (Rr 1 true))) false 0 true true

abbrev n4 : DataLinkState
n4 = data_link Network Open (1 ∷ []) [] 0 0 ((5 ∷ [], false) ∷ []) 0 None false 0 true false

coding : (c : Content) → FrameFits Sdcch (frame_of c) → IsFrameCoding Sdcch (frame_of c) (octets_of Sdcch (frame_of c))
coding c fits = (octets_canonical Sdcch (frame_of c) fits).frame

coded_sabm : IsFrameCoding Sdcch (frame_of (Sabm true (1 ∷ []))) sabm
coded_sabm = coding (Sabm true (1 ∷ [])) (grind arith)

coded_ua : IsFrameCoding Sdcch (frame_of (Ua true (1 ∷ []))) ua
coded_ua = coding (Ua true (1 ∷ [])) (grind arith)

coded_repeated : IsFrameCoding Sdcch (frame_of (I 0 0 true false (5 ∷ []))) repeated
coded_repeated = coding (I 0 0 true false (5 ∷ [])) (grind arith)

coded_rr : IsFrameCoding Sdcch (frame_of (Rr 1 true)) rr
coded_rr = coding (Rr 1 true) (grind arith)

abbrev one_notice : Notice → CReport
one_notice n = c_report ((Zero, n) ∷ [])

-- the blocks in transit: one to the network, or one to the mobile
abbrev up : List ℕ → Queues (List ℕ)
up block = record { up = block ∷ []; down = [] }

abbrev down : List ℕ → Queues (List ℕ)
down block = record { up = []; down = block ∷ [] }

-- the run from its end to its start
abbrev acknowledging : List PairStep
acknowledging = Fills Network (0 ∷ 0 ∷ []) rr 0 (c_report []) ∷ Takes Mobile rr 0 (one_notice (N.Acked 1)) ∷ []

abbrev repeating : List PairStep
repeating = Fills Mobile (0 ∷ 0 ∷ []) repeated 0 (c_report [])
    ∷ Takes Network repeated 0 (one_notice (N.Got (5 ∷ []))) ∷ acknowledging

abbrev sending : List PairStep
sending = Calls Mobile Zero (Sends (5 ∷ [])) 0 ∷ Fills Mobile (0 ∷ 0 ∷ []) i_frame 0 (c_report []) ∷ Loses Mobile ∷ repeating

abbrev answering : List PairStep
answering = Fills Network (0 ∷ 0 ∷ []) ua 0 (c_report []) ∷ Takes Mobile ua 0 (one_notice (N.Opened (1 ∷ []))) ∷ sending

abbrev run : List PairStep
run = Calls Mobile Zero (Opens (1 ∷ [])) 0 ∷ Fills Mobile (0 ∷ 0 ∷ []) sabm 0 (c_report [])
    ∷ Takes Network sabm 0 (one_notice (N.Opened (1 ∷ []))) ∷ answering

log : pair_log run ≡ Asked Mobile Zero (Opens (1 ∷ [])) ∷ Notified Network Zero (N.Opened (1 ∷ []))
    ∷ Notified Mobile Zero (N.Opened (1 ∷ [])) ∷ Asked Mobile Zero (Sends (5 ∷ [])) ∷ Notified Network Zero (N.Got (5 ∷ []))
    ∷ Notified Mobile Zero (N.Acked 1) ∷ []
log = refl

module _ (lib : Library) where
  at_end : Goes (both m7 n4) empty_queues []
  at_end = ends

  acked : Goes (both m6 n4) (down rr) (Takes Mobile rr 0 (one_notice (N.Acked 1)) ∷ [])
  acked = takes lib Mobile rr (frame_of (Rr 1 true)) (one_notice (N.Acked 1)) coded_rr refl refl refl refl at_end

  acknowledges : Goes (both m6 n3) empty_queues acknowledging
  acknowledges = fills lib Network rr refl refl refl acked

  got : Goes (both m6 n2) (up repeated) (Takes Network repeated 0 (one_notice (N.Got (5 ∷ []))) ∷ acknowledging)
  got = takes lib Network repeated (frame_of (I 0 0 true false (5 ∷ []))) (one_notice (N.Got (5 ∷ []))) coded_repeated
      refl refl refl refl
      acknowledges

  repeats : Goes (both m5 n2) empty_queues repeating
  repeats = fills lib Mobile repeated refl refl refl got

  lost : Goes (both m5 n2) (up i_frame) (Loses Mobile ∷ repeating)
  lost = loses lib Mobile repeats

  sent : Goes (both m4 n2) empty_queues (Fills Mobile (0 ∷ 0 ∷ []) i_frame 0 (c_report []) ∷ Loses Mobile ∷ repeating)
  sent = fills lib Mobile i_frame refl refl refl lost

  sends : Goes (both m3 n2) empty_queues sending
  sends = calls lib Mobile (Sends (5 ∷ [])) refl tt tt refl sent

  opened : Goes (both m2 n2) (down ua) (Takes Mobile ua 0 (one_notice (N.Opened (1 ∷ []))) ∷ sending)
  opened = takes lib Mobile ua (frame_of (Ua true (1 ∷ []))) (one_notice (N.Opened (1 ∷ []))) coded_ua refl refl refl refl sends

  answers : Goes (both m2 n1) empty_queues answering
  answers = fills lib Network ua refl refl refl opened

  accepted : Goes (both m2 n0) (up sabm) (Takes Network sabm 0 (one_notice (N.Opened (1 ∷ []))) ∷ answering)
  accepted = takes lib Network sabm (frame_of (Sabm true (1 ∷ []))) (one_notice (N.Opened (1 ∷ []))) coded_sabm
      refl refl refl refl answers

  establishes : Goes (both m1 n0) empty_queues
      (Fills Mobile (0 ∷ 0 ∷ []) sabm 0 (c_report []) ∷ Takes Network sabm 0 (one_notice (N.Opened (1 ∷ []))) ∷ answering)
  establishes = fills lib Mobile sabm refl refl refl accepted

  goes : Goes (both m0 n0) empty_queues run
  goes = calls lib Mobile (Opens (1 ∷ [])) refl tt (refl, refl) refl establishes

  new_shows : (r : Role) → RepresentsDataLink (lib.new r).0 (side r (both m0 n0))
  new_shows Mobile = (lib.new Mobile).1.represents
  new_shows Network = (lib.new Network).1.represents

  -- so the premises of `law_joined_data_links_deliver_in_order` hold of this run
  is_run : (a z : PairState) × IsPairStart Sdcch Contention (λ role sapi. 1) a × IsPairRun a run z
  is_run =
      let a : PairState = record { struct_of = λ r. (lib.new r).0; blocks = empty_queues } in
      let more = goes.leads a (record { represents = new_shows; blocks = refl }) in
      (a, more.0, record { new_struct = λ r. (lib.new r).1; blocks = refl }, more.1)
