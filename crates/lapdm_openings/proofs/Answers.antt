-- What a link answers and sends: only a SABM or DISC makes it answer by a UA, and only a link in Opening sends a SABM.
use Rattle.std.specs.Prelude.{◌≡◌, ◌⊎◌, Bool, true, false, if◌then◌else◌, List, [], ◌∷◌, Option, Some, None}
use Rattle.std.specs.Prelude.{IfSome}
use Rattle.std.proofs.Common.{arith, refl, sym, ap, ◌∙◌, inl, inr, subst}
use Rattle.lapdm_frame.specs.Content.{Content, I, Rr, Rej, Sabm, Disc, Dm, Ua, Frame}
use Rattle.lapdm_end.specs.lapdm_window.declared.State.{State}
use Rattle.lapdm_end.specs.lapdm_window.declared.Sapi.TheVariants.{Three}
use Rattle.lapdm_end.specs.lapdm_window.segmenting.Segments.{Segment}
use Rattle.lapdm_end.specs.lapdm_window.Ends.{EndpointState, Outcome, HasWindowOfOne, segments_of_all_messages, no_effect, vr}
use Rattle.lapdm_end.specs.lapdm_window.Rules.{is_open}
use Rattle.lapdm_end.specs.lapdm_window.Tables.{Reply, Nothing, SendsDm, SendsUa, AcceptsSabm, ConfirmsEstablishment, ClosesLink}
use Rattle.lapdm_end.specs.lapdm_window.Tables.{AcceptsDisc, ReportsUiInformation, TakesIFrame, TakesRr, TakesRej, outcome_of_reply}
use Rattle.lapdm_end.specs.lapdm_window.Tables.{reply_to_frame, frame_outcome}
use Rattle.lapdm_end.specs.lapdm_window.Calls.{Call, Opens, OpensWithoutInfo, Sends, Closes, call_outcome, awaited_frame, t200_expiry}
use Rattle.lapdm_link.proofs.Events.{AllOf, AllFrames}
use Rattle.lapdm_link.proofs.Rules.{CarriesSegmentOf, in-takes_i_frame, in-takes_rr, in-takes_rej}
use Rattle.lapdm_link.proofs.Acting.{Goes, remains, ends, closes, begins, opens, taken-frame}
use Rattle.lapdm_link.proofs.Lemmas.{IsReplyTo, cause_of}
use Rattle.lapdm_datalink.specs.Links.{LinkState, SlotOutcome, with_frame, with_frames, with_outcome, is_awaiting_kind, first_frame}
use Rattle.lapdm_datalink.specs.Links.{slot_outcome, is_opening, after_received, renewed_for, ignores, refuses, link_reply}
use Rattle.lapdm_datalink.specs.Links.{received_outcome, as_taken, content_as_taken, is_reopened_by_frame, is_opened_again, afresh}
use Rattle.lapdm_datalink.specs.Links.{IsLinkCall}
use Rattle.lapdm_datalink.proofs.Lemmas.{endpoint_with_frames}
use Rattle.lapdm_datalink.proofs.Answering.{IsSlot, sabm_first, idles, answering, repeating, expiring, is_slot}
use Rattle.lapdm_delivery.proofs.Heard.{received-is}
use Rattle.lapdm_openings.specs.Pairs.{is_opener}
use Rattle.lapdm_end.specs.lapdm_window.declared.State.TheVariants as S

-- ---- how a received frame changes the state

-- a frame with content `c`, an opener if `f` is one, led to this outcome
record Went (f : Frame) (l : LinkState) : Type 0 where
  c : Content
  o : Outcome
  goes : Goes None c l.endpoint o
  end_is : (after_received f l).endpoint ≡ o.new_state
  alike : is_opener c ≡ is_opener f.content

alike-taken : (c : Content) (l : LinkState) → is_opener (content_as_taken c l) ≡ is_opener c
alike-taken c l = grind arith

went : (f : Frame) (l : LinkState) → HasWindowOfOne l.endpoint → renewed_for f l ≡ l → is_reopened_by_frame f l ≡ false →
    Went f l
went f l w same once = by (ignores f l) (is_reopened_by_frame f l) once refl refl
  where
    x : EndpointState
    x = l.endpoint

    taken : (b : Bool) → (let o = outcome_of_reply (if b then SendsDm else reply_to_frame (as_taken f l) x) x in
        (after_received f l).endpoint ≡ o.new_state → Went f l)
    taken true e = record { c = f.content; o = outcome_of_reply SendsDm x; goes = remains refl refl refl; end_is = e; alike = refl }
    taken false e = record {
      c = (as_taken f l).content;
      o = frame_outcome (as_taken f l) x;
      goes = (taken-frame x w (as_taken f l)).goes;
      end_is = e;
      alike = alike-taken f.content l;
    }

    by : (i r : Bool) → r ≡ false → ignores f l ≡ i → is_reopened_by_frame f l ≡ r → Went f l
    by i true e p q = absurd cc
    by true false e p q = record {
      c = f.content;
      o = no_effect x;
      goes = remains refl refl refl;
      end_is = ap (λ (k : LinkState). k.endpoint) (received-is f l same) ∙ rw p refl;
      alike = refl;
    }
    by false false e p q = taken (refuses f x)
        (ap (λ (k : LinkState). k.endpoint) (received-is f l same) ∙ rw (p, q) (endpoint_with_frames (received_outcome f l).frames
        (record l { endpoint = (received_outcome f l).new_state })))

-- whether a link in this state has not been open since it started afresh, if it has sent and accepted nothing
abbrev pub is_starting : State → Bool
is_starting S.Idle = true
is_starting S.Opening = true
is_starting S.Closed = true
is_starting other = false

module _ (f : Frame) (l : LinkState) (w : HasWindowOfOne l.endpoint) (same : renewed_for f l ≡ l)
    (once : is_reopened_by_frame f l ≡ false)
  where
    abbrev t : Went f l
    t = went f l w same once

    -- nothing but an opener opens a link
    pub stays-shut : is_opener f.content ≡ false → is_open l.endpoint.state ≡ false →
        is_open (after_received f l).endpoint.state ≡ false
    stays-shut other shut = rw t.end_is (by t.c t.o t.goes t.alike)
      where
        by : (c : Content) (o : Outcome) → Goes None c l.endpoint o → is_opener c ≡ is_opener f.content →
            is_open o.new_state.state ≡ false
        by c o (remains s k n) a = rw s shut
        by c o (ends s k n) a = rw s refl
        by c o (closes v s k n) a = rw s refl
        by c o (begins s k n) a = rw s refl
        by (Sabm p i) o (opens n now k b) a = absurd (cc (a ∙ other))
        by (Ua p i) o (opens n now k b) a = absurd (cc (a ∙ other))
        by c o (opens n now k b) a = absurd b

    pub stays-starting : is_opener f.content ≡ false → is_starting l.endpoint.state ≡ true →
        is_starting (after_received f l).endpoint.state ≡ true
    stays-starting other start = rw t.end_is (by t.c t.o t.goes t.alike)
      where
        no_open : l.endpoint.state ≡ S.Open → ⊥
        no_open e = cc (rw e at start)

        by : (c : Content) (o : Outcome) → Goes None c l.endpoint o → is_opener c ≡ is_opener f.content →
            is_starting o.new_state.state ≡ true
        by c o (remains s k n) a = rw s start
        by c o (ends s k n) a = rw s refl
        by c o (closes v s k n) a = absurd (no_open v)
        by c o (begins s k n) a = rw s refl
        by (Sabm p i) o (opens n now k b) a = absurd (cc (a ∙ other))
        by (Ua p i) o (opens n now k b) a = absurd (cc (a ∙ other))
        by c o (opens n now k b) a = absurd b

    -- no frame leads to Opening
    pub stays-unopening : is_opening l.endpoint.state ≡ false → is_opening (after_received f l).endpoint.state ≡ false
    stays-unopening unopening = rw t.end_is (by t.c t.o t.goes)
      where
        by : (c : Content) (o : Outcome) → Goes None c l.endpoint o → is_opening o.new_state.state ≡ false
        by c o (remains s k n) = rw s unopening
        by c o (ends s k n) = rw s refl
        by c o (closes v s k n) = rw s refl
        by c o (begins s k n) = absurd k
        by c o (opens n now k b) = rw now refl

-- ---- answers

abbrev pub NoOpener : Frame → Type 0
NoOpener f = is_opener f.content ≡ false

abbrev pub is_dm : Content → Bool
is_dm (Dm f) = true
is_dm other = false

abbrev pub IsDm : Frame → Type 0
IsDm f = is_dm f.content ≡ true

-- whether a frame with this content is a SABM or DISC
abbrev pub is_commanding : Content → Bool
is_commanding (Sabm p info) = true
is_commanding (Disc p) = true
is_commanding other = false

abbrev is_calm : Reply → Bool
is_calm (SendsUa info) = false
is_calm (AcceptsSabm info) = false
is_calm (ConfirmsEstablishment info) = false
is_calm AcceptsDisc = false
is_calm other = true

abbrev is_mild : Reply → Bool
is_mild Nothing = true
is_mild SendsDm = true
is_mild (ClosesLink reason) = true
is_mild (ReportsUiInformation info) = true
is_mild other = false

carries-none : (ps : List Segment) (c : Content) → CarriesSegmentOf ps c → is_opener c ≡ false
carries-none ps c h = grind arith

frames-none : (ps : List Segment) (x : EndpointState) (fs : List Frame) → AllFrames (CarriesSegmentOf ps) x.sapi fs → AllOf NoOpener fs
frames-none ps x [] h = tt
frames-none ps x (f ∷ fs) h = (carries-none ps f.content h.1, frames-none ps x fs h.2)

calm-frames : (c : Content) (r : Reply) (x : EndpointState) → HasWindowOfOne x → IsReplyTo c x r → is_calm r ≡ true →
    AllOf NoOpener (outcome_of_reply r x).frames
calm-frames c (TakesIFrame ns nr p segment) x w cause e =
    frames-none (segments_of_all_messages x) x (outcome_of_reply (TakesIFrame ns nr p segment) x).frames
    (in-takes_i_frame (I ns nr p segment.1 segment.0) nr ns p segment (λ k e. e) (λ y k e. e) x cause.1 w).frames
calm-frames c (TakesRr nr poll) x w cause e =
    frames-none (segments_of_all_messages x) x (outcome_of_reply (TakesRr nr poll) x).frames
    (in-takes_rr (Rr nr false) nr (vr x) (λ k e. e) poll x cause.2 w).frames
calm-frames c (TakesRej nr poll) x w cause e =
    frames-none (segments_of_all_messages x) x (outcome_of_reply (TakesRej nr poll) x).frames
    (in-takes_rej (Rej nr false) nr (vr x) (λ k e. e) poll x cause.2 w).frames
calm-frames c Nothing x w cause e = tt
calm-frames c SendsDm x w cause e = (refl, tt)
calm-frames c (ClosesLink reason) x w cause e = tt
calm-frames c (ReportsUiInformation info) x w cause e = tt
calm-frames c r x w cause e = absurd cc

mild-frames : (r : Reply) (x : EndpointState) → is_mild r ≡ true → AllOf IsDm (outcome_of_reply r x).frames
mild-frames Nothing x e = tt
mild-frames SendsDm x e = (refl, tt)
mild-frames (ClosesLink reason) x e = tt
mild-frames (ReportsUiInformation info) x e = tt
mild-frames r x e = absurd cc

calm-reply : (f : Frame) (l : LinkState) → is_opening l.endpoint.state ≡ false → is_commanding f.content ≡ false →
    is_calm (reply_to_frame (as_taken f l) l.endpoint) ≡ true
calm-reply f l h g = grind (arith, h, g)

mild-reply : (f : Frame) (l : LinkState) → is_starting l.endpoint.state ≡ true → is_opener f.content ≡ false →
    is_mild (link_reply f l) ≡ true
mild-reply f l h g = grind (arith, h, g)

not-refused : (f : Frame) (l : LinkState) → is_commanding f.content ≡ false → refuses f l.endpoint ≡ false
not-refused f l h = grind (arith, h)

answer-frames : (P : Frame → Type 0) (fs : List Frame) (l : LinkState) → AllOf P fs → IfSome l.answer P →
    IfSome (with_frames fs l).answer P
answer-frames P [] l h g = g
answer-frames P (f ∷ fs) l h g = answer-frames P fs (with_frame f l) h.1 (by (is_awaiting_kind f.content))
  where
    by : (b : Bool) → IfSome (if b then record l { is_sent = false; clock = 0 } else record l { answer = Some f }).answer P
    by true = g
    by false = h.0

answer-received : (P : Frame → Type 0) (f : Frame) (l : LinkState) → renewed_for f l ≡ l → is_reopened_by_frame f l ≡ false →
    AllOf P (received_outcome f l).frames → IfSome l.answer P → IfSome (after_received f l).answer P
answer-received P f l same once h g = subst (λ a. IfSome a P) (sym (ap (λ (k : LinkState). k.answer) (received-is f l same)))
    (by (ignores f l) (is_reopened_by_frame f l) once)
  where
    by : (i r : Bool) → r ≡ false →
        IfSome (if i then l else (let m = if r then afresh l else l in with_outcome (received_outcome f m) m)).answer P
    by i true e = absurd cc
    by true false e = g
    by false false e = answer-frames P (received_outcome f l).frames (record l { endpoint = (received_outcome f l).new_state }) h g

pub received-calm : (f : Frame) (l : LinkState) → HasWindowOfOne l.endpoint → renewed_for f l ≡ l →
    is_reopened_by_frame f l ≡ false →
    is_opening l.endpoint.state ≡ false → is_commanding f.content ≡ false → IfSome l.answer NoOpener →
    IfSome (after_received f l).answer NoOpener
received-calm f l w same once unopening other g =
    answer-received NoOpener f l same once (by (refuses f l.endpoint) (not-refused f l other)) g
  where
    by : (b : Bool) → b ≡ false →
        AllOf NoOpener (outcome_of_reply (if b then SendsDm else reply_to_frame (as_taken f l) l.endpoint) l.endpoint).frames
    by true e = absurd cc
    by false e = calm-frames (as_taken f l).content (reply_to_frame (as_taken f l) l.endpoint) l.endpoint w (cause_of l.endpoint
        (as_taken f l))
        (calm-reply f l unopening other)

pub received-mild : (f : Frame) (l : LinkState) → renewed_for f l ≡ l → is_reopened_by_frame f l ≡ false →
    is_starting l.endpoint.state ≡ true → is_opener f.content ≡ false → IfSome l.answer IsDm →
    IfSome (after_received f l).answer IsDm
received-mild f l same once start other g =
    answer-received IsDm f l same once (mild-frames (link_reply f l) l.endpoint (mild-reply f l start other)) g

-- ---- calls

awaiting-frames : (fs : List Frame) (l : LinkState) → AllOf (λ f. is_awaiting_kind f.content ≡ true) fs →
    (with_frames fs l).answer ≡ l.answer
awaiting-frames [] l h = refl
awaiting-frames (f ∷ fs) l h = awaiting-frames fs (with_frame f l) h.1 ∙ rw h.0 refl

called-frames : (call : Call) (x : EndpointState) → IsLinkCall call → AllOf (λ f. is_awaiting_kind f.content ≡ true)
    (call_outcome call x).frames
called-frames (Sends m) x own = grind arith
called-frames Closes x own = (refl, tt)
called-frames OpensWithoutInfo x own = (refl, tt)
called-frames (Opens info) x own = (refl, tt)
called-frames call x own = absurd own

-- a call leaves the answer that is owed
pub called-answer : (call : Call) (l : LinkState) → IsLinkCall call → (with_outcome (call_outcome call l.endpoint)
    l).answer ≡ l.answer
called-answer call l own =
    awaiting-frames (call_outcome call l.endpoint).frames (record l { endpoint = (call_outcome call l.endpoint).new_state })
    (called-frames call l.endpoint own)

-- ---- slots

pub slot-state : (l : LinkState) → ((slot_outcome l).link.endpoint.state ≡ l.endpoint.state) ⊎
    ((slot_outcome l).link.endpoint.state ≡ S.Closed)
slot-state l = by (slot_outcome l) (is_slot l)
  where
    expired : (x : EndpointState) → ((t200_expiry x).new_state.state ≡ x.state) ⊎ ((t200_expiry x).new_state.state ≡ S.Closed)
    expired x = grind arith

    by : (o : SlotOutcome) → IsSlot l o → (o.link.endpoint.state ≡ l.endpoint.state) ⊎ (o.link.endpoint.state ≡ S.Closed)
    by o (expiring awaits sent due over) = expired l.endpoint
    by o other = inl refl

-- the frame and what is still owed
abbrev Sent : (P Q : Frame → Type 0) → SlotOutcome → Type 0
Sent P Q o = IfSome o.frame P × IfSome o.link.answer Q

expired-one : (P : Frame → Type 0) (x : EndpointState) → P (awaited_frame true x.state x) → IfSome (first_frame
    (t200_expiry x).frames) P
expired-one P x h = grind (arith, h)

pub slot-calm : (l : LinkState) → is_opening l.endpoint.state ≡ false → IfSome l.answer NoOpener → Sent NoOpener NoOpener
    (slot_outcome l)
slot-calm l unopening g = by (slot_outcome l) (is_slot l)
  where
    awaited : (p : Bool) (st : State) → is_opening st ≡ false → NoOpener (awaited_frame p st l.endpoint)
    awaited p st h = grind (arith, h)

    by : (o : SlotOutcome) → IsSlot l o → Sent NoOpener NoOpener o
    by o (sabm_first opening first due new) = absurd (cc (sym opening ∙ unopening))
    by o (idles first owes_none due) = (tt, g)
    by o (answering f first owes back) = (rw owes at g, tt)
    by o (repeating awaits due new) = (awaited false l.endpoint.state unopening, tt)
    by o (expiring awaits sent due over) = (expired-one NoOpener l.endpoint (awaited true l.endpoint.state unopening), tt)

-- the frame is a SABM or a DM
abbrev pub IsFirstWord : Frame → Type 0
IsFirstWord f = (Rattle.lapdm_delivery.proofs.Heard.is_sabm f.content ≡ true) ⊎ (is_dm f.content ≡ true)

pub slot-first : (l : LinkState) → is_starting l.endpoint.state ≡ true → IfSome l.answer IsDm → Sent IsFirstWord IsDm
    (slot_outcome l)
slot-first l start g = by (slot_outcome l) (is_slot l)
  where
    awaited : (p : Bool) (st : State) → is_starting st ≡ true →
        Rattle.lapdm_end.specs.lapdm_window.Ends.awaits_answer_in_state st
        (Rattle.lapdm_end.specs.lapdm_window.Ends.awaits_ack l.endpoint) ≡ true → IsFirstWord (awaited_frame p st l.endpoint)
    awaited p S.Opening h a = inl refl
    awaited p st h a = absurd (grind (arith, h, a))

    opening-starts : (st : State) → is_opening st ≡ true → IsFirstWord (awaited_frame false st l.endpoint)
    opening-starts S.Opening h = inl refl
    opening-starts st h = absurd cc

    one : (a : Option Frame) → IfSome a IsDm → IfSome a IsFirstWord
    one None h = tt
    one (Some f) h = inr h

    by : (o : SlotOutcome) → IsSlot l o → Sent IsFirstWord IsDm o
    by o (sabm_first opening first due new) = (opening-starts l.endpoint.state opening, g)
    by o (idles first owes_none due) = (tt, g)
    by o (answering f first owes back) = (inr (rw owes at g), tt)
    by o (repeating awaits due new) = (awaited false l.endpoint.state start awaits, tt)
    by o (expiring awaits sent due over) = (expired-one IsFirstWord l.endpoint (awaited true l.endpoint.state start awaits), tt)

-- a link that has heard of the other side does not answer a SABM that does not open it again, or by a DM
heard-reply : (f : Frame) (l : LinkState) → l.endpoint.sapi ≡ Three → is_opened_again f l ≡ false →
    is_opening l.endpoint.state ≡ false →
    (l.endpoint.state ≡ S.Idle → ⊥) → l.heard ≡ true → Rattle.lapdm_delivery.proofs.Heard.is_sabm f.content ≡ true →
    is_mild (link_reply f l) ≡ true
heard-reply f l same again unopening begun heard sabm = by l.endpoint.state refl
  where
    by : (st : State) → l.endpoint.state ≡ st → is_mild (link_reply f l) ≡ true
    by S.Idle e = absurd (begun e)
    by S.Opening e = absurd (cc (sym (ap is_opening e) ∙ unopening))
    by S.Open e = grind (arith, same, again, heard, sabm, e)
    by S.Closing e = grind (arith, sabm, e)
    by S.Closed e = grind (arith, sabm, e)

pub received-heard : (f : Frame) (l : LinkState) → l.endpoint.sapi ≡ Three → renewed_for f l ≡ l →
    is_reopened_by_frame f l ≡ false →
    is_opened_again f l ≡ false → is_opening l.endpoint.state ≡ false → (l.endpoint.state ≡ S.Idle →
    ⊥) → l.heard ≡ true →
    Rattle.lapdm_delivery.proofs.Heard.is_sabm f.content ≡ true → IfSome l.answer NoOpener →
    IfSome (after_received f l).answer NoOpener
received-heard f l sapi same once again unopening begun heard sabm g =
    answer-received NoOpener f l same once (none (received_outcome f l).frames
    (mild-frames (link_reply f l) l.endpoint (heard-reply f l sapi again unopening begun heard sabm))) g
  where
    none : (fs : List Frame) → AllOf IsDm fs → AllOf NoOpener fs
    none [] h = tt
    none (f ∷ fs) h = (by f.content h.0, none fs h.1)
      where
        by : (c : Content) → is_dm c ≡ true → is_opener c ≡ false
        by c h = grind (arith, h)
