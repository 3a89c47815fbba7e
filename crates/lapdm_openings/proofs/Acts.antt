-- The steps of a link, given the endpoint with which it is paired and the frames that still come from it.
use Rattle.std.specs.Prelude.{◌≡◌, ◌⊎◌, ◌≤◌, ◌&&◌, Bool, true, false, if◌then◌else◌, ℕ, List, [], ◌∷◌}
use Rattle.std.specs.Prelude.{◌++◌, length, Option, Some, None, IfSome}
use Rattle.std.specs.List.{cons_option, filter_map}
use Rattle.std.proofs.Common.{arith, refl, sym, ap, ◌∙◌, inl, inr, append_assoc, subst}
use Rattle.std.proofs.lemmas.List.{append-nil}
use Rattle.std.proofs.lemmas.List.Elements.{filter_map-append}
use Rattle.lapdm_frame.specs.Content.{Content, I, Rr, Rej, Sabm, Ui, Dm, Ua, Frame}
use Rattle.lapdm_end.specs.lapdm_window.declared.State.{State}
use Rattle.lapdm_end.specs.lapdm_window.declared.Notice.{Notice}
use Rattle.lapdm_end.specs.lapdm_window.declared.Sapi.TheVariants.{Three}
use Rattle.lapdm_end.specs.lapdm_window.Ends.{EndpointState, Outcome, HasWindowOfOne, response_frame, va, segments_of_all_messages}
use Rattle.lapdm_end.specs.lapdm_window.Rules.{is_open}
use Rattle.lapdm_end.specs.lapdm_window.Tables.{Reply, Nothing, SendsDm, TakesIFrame, TakesRr, TakesRej, outcome_of_reply, reply_to_frame}
use Rattle.lapdm_end.specs.lapdm_window.Tables.{is_command, frame_outcome}
use Rattle.lapdm_end.specs.lapdm_window.Calls.{Call, Opens, OpensWithoutInfo, Sends, Closes, T200Expires, Repeats, refusal_of}
use Rattle.lapdm_end.specs.lapdm_window.Calls.{call_outcome, awaited_frame, t200_expiry}
use Rattle.lapdm_link.specs.Worlds.{rej_replaced_by_rr, with_nr}
use Rattle.lapdm_link.specs.Claims.{establishment_info_in_notice}
use Rattle.lapdm_link.proofs.Subsequences.{IsSub, kept, dropped, all, none as nothing, append, trans}
use Rattle.lapdm_link.proofs.Events.{AllOf, IsPlain, content_of_body, contents}
use Rattle.lapdm_link.proofs.Directions.{number_as, segment_as, number_before, number_gone}
use Rattle.lapdm_link.proofs.Rules.{Known, known, asked, Notifies, sends_plain, gone}
use Rattle.lapdm_link.proofs.Acting.{StepFacts, Goes, remains, ends, closes, begins, opens, is_called, taken-frame}
use Rattle.lapdm_link.proofs.Lemmas.{is_idle-is, not_false, passes}
use Rattle.lapdm_link.proofs.lapdm_window.Lemmas.{MayOpen}
use Rattle.lapdm_datalink.specs.Links.{LinkState, SlotOutcome, with_frame, with_frames, with_outcome, is_awaiting_kind, first_frame}
use Rattle.lapdm_datalink.specs.Links.{slot_outcome, after_received, received_notices, renewed_for, heard_with, ignores, refuses}
use Rattle.lapdm_datalink.specs.Links.{link_reply, received_outcome, as_taken, content_as_taken, is_reopened_by_frame, afresh, is_opening}
use Rattle.lapdm_datalink.specs.Links.{IsLinkCall, is_numbered}
use Rattle.lapdm_datalink.proofs.Lemmas.{endpoint_with_frames}
use Rattle.lapdm_datalink.proofs.Answering.{IsSlot, sabm_first, idles, answering, repeating, expiring, is_slot}
use Rattle.lapdm_delivery.proofs.Heard.{MayOwe, is_past, received-is, notices-are}
use Rattle.lapdm_openings.specs.Pairs.{is_opener}
use Rattle.lapdm_openings.specs.Openings.{Opening, new_opening, Line, Asked, after_lines, told}
use Rattle.lapdm_openings.proofs.Follow.{Grown, grown, begun, opening_of, opening_known, tells, prefix-refl}
use Rattle.lapdm_openings.proofs.Holds.{Hold, IsZero, fewer, plain-comes}
use Rattle.lapdm_end.specs.lapdm_window.declared.Notice.TheVariants as N
use Rattle.lapdm_end.specs.lapdm_window.declared.State.TheVariants as S

-- ---- a link

-- whether a link in this state is not open yet
abbrev pub is_new : State → Bool
is_new S.Idle = true
is_new S.Opening = true
is_new other = false

-- what holds of every link: one that is not open yet holds and has heard nothing, and one that has heard nothing has accepted nothing, and
-- nothing of it was acknowledged
pub record IsSound (l : LinkState) : Type 0 where
  pub window : HasWindowOfOne l.endpoint
  pub new : is_new l.endpoint.state ≡ true → (l.endpoint.messages ≡ []) × (l.heard ≡ false)
  pub unheard : l.heard ≡ false → (l.endpoint.accepted_segments ≡ []) × (l.endpoint.acked_segments ≡ 0)
  pub sapi : l.endpoint.sapi ≡ Three
  pub bare : l.endpoint.sabm_info ≡ []

pub none-sent : (x : EndpointState) → HasWindowOfOne x → x.messages ≡ [] → (x.sent_segments ≡ 0) × (x.acked_segments ≡ 0)
none-sent x w e = by x.messages e x.sent_segments x.acked_segments w.sent_segments w.acked_at_most_sent
  where
    by : (ms : List (List ℕ)) → ms ≡ [] → (s a : ℕ) → s ≤ length (segments_of_all_messages (record x { messages = ms }))
        → a ≤ s →
        (s ≡ 0) × (a ≡ 0)
    by ms e s a h g = (omega (arith, rw e at h), omega (arith, rw e at h, g))

pub zero-of : (x : EndpointState) → HasWindowOfOne x → x.messages ≡ [] → x.accepted_segments ≡ [] → IsZero x
zero-of x w e f = let n = none-sent x w e in record { messages = e; sent = n.0; acked = n.1; accepted = f }

pub zero-new : (l : LinkState) → IsSound l → is_new l.endpoint.state ≡ true → IsZero l.endpoint
zero-new l h n = let m = h.new n in zero-of l.endpoint h.window m.0 (h.unheard m.1).0

pub zero-opening : (x : EndpointState) → IsZero x → opening_of x ≡ new_opening
zero-opening x z = by x.messages x.acked_segments x.accepted_segments z.messages z.acked z.accepted
  where
    by : (ms : List (List ℕ)) (a : ℕ) (qs : List _) → ms ≡ [] → a ≡ 0 → qs ≡ [] →
        opening_of (record x { messages = ms; acked_segments = a; accepted_segments = qs }) ≡ new_opening
    by ms a qs e f g = rw (e, f, g) refl

abbrev pub owed : LinkState → List Frame
owed l = cons_option l.answer []

-- what is under way from a link: these frames on the air, then the answer that it owes
abbrev pub under_way : List Frame → LinkState → List Content
under_way air l = contents (air ++ owed l)

pub way-is : (air : List Frame) (l : LinkState) → under_way air l ≡ contents air ++ contents (owed l)
way-is air l = filter_map-append (λ f. content_of_body f.content) air (owed l)

-- ---- what an endpoint returns

one-content : (f : Frame) (fs : List Frame) → contents (f ∷ []) ++ contents fs ≡ contents (f ∷ fs)
one-content f fs = sym (filter_map-append (λ g. content_of_body g.content) (f ∷ []) fs)

behind : {A : Type 0} (xs ys : List A) → IsSub ys (xs ++ ys)
behind [] ys = all ys
behind (x ∷ xs) ys = dropped (behind xs ys)

owed-frames : (fs : List Frame) (l : LinkState) → IsSub (contents (owed (with_frames fs l))) (contents (owed l) ++ contents fs)
owed-frames [] l = rw (append-nil (contents (owed l))) (all (contents (owed l)))
owed-frames (f ∷ fs) l =
    by (is_awaiting_kind f.content) (owed-frames fs (record l { is_sent = false; clock = 0 })) (owed-frames fs
    (record l { answer = Some f }))
  where
    by : (b : Bool) → IsSub (contents (owed (with_frames fs (record l { is_sent = false; clock = 0 })))) (contents (owed l)
        ++ contents fs) →
        IsSub (contents (owed (with_frames fs (record l { answer = Some f })))) (contents (f ∷ []) ++ contents fs) →
        IsSub (contents (owed (with_frames fs (if b then record l { is_sent = false; clock = 0 } else record l { answer = Some f }))))
        (contents (owed l) ++ contents (f ∷ fs))
    by true h g = trans h (append (all (contents (owed l))) (rw (← one-content f fs) (behind (contents (f ∷ [])) (contents fs))))
    by false h g = trans (rw (one-content f fs) at g) (behind (contents (owed l)) (contents (f ∷ fs)))

pub way-outcome : (air : List Frame) (o : Outcome) (l : LinkState) →
    IsSub (under_way air (with_outcome o l)) (under_way air l ++ contents o.frames)
way-outcome air o l =
    rw (way-is air (with_outcome o l), way-is air l, append_assoc)
    (append (all (contents air)) (owed-frames o.frames (record l { endpoint = o.new_state })))

pub held-frames : (fs : List Frame) (l : LinkState) → (with_frames fs l).heard ≡ l.heard
held-frames [] l = refl
held-frames (f ∷ fs) l = held-frames fs (with_frame f l) ∙ by (is_awaiting_kind f.content)
  where
    by : (b : Bool) → (if b then record l { is_sent = false; clock = 0 } else record l { answer = Some f }).heard ≡ l.heard
    by b = grind arith

-- ---- a step

-- After a step the link is sound, both directions hold, and layer 3 has seen these lines. `p` is the endpoint with which the link is
-- paired, the frames `sent` went on the air behind `air`, and `ins` still come.
pub record Steps (p : EndpointState) (ins : List Content) (air : List Frame) (os : List Opening) (l l' : LinkState) (sent : List Frame)
    (lines : List Line) : Type 0 where
  pub sound : IsSound l'
  pub holds : Hold l'.endpoint p (under_way (air ++ sent) l') ins
  pub messages : is_open l.endpoint.state ≡ false → l'.endpoint.messages ≡ l.endpoint.messages
  pub later : List Opening
  pub told_is : after_lines lines (opening_of l.endpoint ∷ os) ≡ opening_of l'.endpoint ∷ later
  pub grows : Grown (opening_of l.endpoint) os (opening_of l'.endpoint) later

-- what layer 3 saw of a step of an endpoint
record Sees (os : List Opening) (x z : EndpointState) (lines : List Line) : Type 0 where
  later : List Opening
  told_is : after_lines lines (opening_of x ∷ os) ≡ opening_of z ∷ later
  grows : Grown (opening_of x) os (opening_of z) later

-- a step that reports no opening
sees-tells : (os : List Opening) (x z : EndpointState) (ns : List Notice) → Notifies (known x) ns (known z) →
    filter_map establishment_info_in_notice ns ≡ [] → Sees os x z (told ns)
sees-tells os x z ns h quiet =
    let t = tells ns (known x) (known z) os h quiet in
    record { later = os; told_is = t.told_is; grows = grown refl (rw t.sent (prefix-refl x.messages)) }

no_opens : (call : Option Call) (x : EndpointState) (o : Outcome) → Goes call (Ui false []) x o →
    filter_map establishment_info_in_notice o.notices ≡ []
no_opens call x o (remains s k n) = n
no_opens call x o (ends s k n) = n
no_opens call x o (closes w s k n) = n
no_opens call x o (begins s k n) = n
no_opens call x o (opens n now e by) = absurd by

-- a received frame
sees-taken : (os : List Opening) (c : Content) (l : LinkState) (o : Outcome) → IsSound l → StepFacts None c l.endpoint o →
    Sees os l.endpoint o.new_state (told o.notices)
sees-taken os c l o h f = by f.goes
  where
    x : EndpointState
    x = l.endpoint

    new-by : (c : Content) (info : List ℕ) → Rattle.lapdm_link.proofs.Acting.OpensBy c x info → is_new x.state ≡ true
    new-by c info g = grind arith

    opened : (ns : List Notice) (info : List ℕ) → ns ≡ N.Opened info ∷ [] → Notifies (known x) ns (known o.new_state) →
        opening_of x ≡ new_opening → Sees os x o.new_state (told ns)
    opened ns info e h new =
        let k : known o.new_state ≡ record (known x) { stage = 1 } = (rw e at h).1 in
        let z : opening_of o.new_state ≡ opening_of x = ap opening_known k in
        record {
          later = opening_of x ∷ os;
          told_is = rw e (ap (λ (p : Opening). p ∷ opening_of x ∷ os) (sym (z ∙ new)));
          grows = begun refl (ap (λ (p : Opening). p.acked) new);
        }

    by : Goes None c x o → Sees os x o.new_state (told o.notices)
    by (remains s k n) = sees-tells os x o.new_state o.notices f.notifies n
    by (ends s k n) = sees-tells os x o.new_state o.notices f.notifies n
    by (closes w s k n) = sees-tells os x o.new_state o.notices f.notifies n
    by (begins s k n) = sees-tells os x o.new_state o.notices f.notifies n
    by (opens {info} n now e cause) =
        opened o.notices info n f.notifies (zero-opening x (zero-new l h (new-by c info cause)))

-- a call of layer 3, for which an endpoint reports nothing
sees-called : (os : List Opening) (l : LinkState) (call : Call) (z : EndpointState) → IsSound l → IsLinkCall call →
    (call ≡ OpensWithoutInfo → is_new l.endpoint.state ≡ true) → ((info : List ℕ) → call ≡ Opens info → ⊥) →
    known z ≡ asked (Some call) (known l.endpoint) → Sees os l.endpoint z (Asked call ∷ [])
sees-called os l (Sends m) z h own new never k = record {
  later = os;
  told_is = ap (λ (o : Opening). o ∷ os) (sym (ap opening_known k));
  grows = grown refl (m ∷ [], sym (ap (λ (k : Known). k.messages) k));
}
sees-called os l Closes z h own new never k = record {
  later = os;
  told_is = ap (λ (o : Opening). o ∷ os) (sym (ap opening_known k));
  grows = grown refl ([], append-nil l.endpoint.messages ∙ sym (ap (λ (k : Known). k.messages) k));
}
sees-called os l OpensWithoutInfo z h own new never k = record {
  later = opening_of l.endpoint ∷ os;
  told_is = ap (λ (o : Opening). o ∷ opening_of l.endpoint ∷ os)
      (sym (ap opening_known k ∙ zero-opening l.endpoint (zero-new l h (new refl))));
  grows = begun refl (ap (λ (p : Opening). p.acked) (zero-opening l.endpoint (zero-new l h (new refl))));
}
sees-called os l (Opens info) z h own new never k = absurd (never info refl)
sees-called os l call z h own new never k = absurd own

silent-send : (m : List ℕ) (x : EndpointState) → (call_outcome (Sends m) x).notices ≡ []
silent-send m x = grind arith

send-keeps : (m : List ℕ) (x : EndpointState) → (let z = (call_outcome (Sends m) x).new_state in
    (z.state ≡ x.state) × (z.accepted_segments ≡ x.accepted_segments) × (z.acked_segments ≡ x.acked_segments))
send-keeps m x = grind arith

send-open : (m : List ℕ) (x : EndpointState) → refusal_of (Sends m) x ≡ None → is_new x.state ≡ false
send-open m x ok = grind arith

pub front : {A : Type 0} (xs ys : List A) → IsSub xs (xs ++ ys)
front [] ys = nothing ys
front (x ∷ xs) ys = kept (front xs ys)

first-some : (fs : List Frame) → IsSub (contents (cons_option (first_frame fs) [])) (contents fs)
first-some [] = all []
first-some (f ∷ fs) = rw (← one-content f fs) (front (contents (f ∷ [])) (contents fs))

plain-owed : (l : LinkState) → is_opening l.endpoint.state ≡ true → IfSome l.answer (MayOwe l.endpoint.state) →
    AllOf IsPlain (contents (owed l))
plain-owed l opening may = by l.answer may
  where
    not_past : is_past l.endpoint.state ≡ false
    not_past = grind (arith, opening)

    plain : (c : Content) → (is_numbered true c ≡ true → is_past l.endpoint.state ≡ true) → AllOf IsPlain (cons_option
        (content_of_body c) [])
    plain c n = grind (arith, not_past)

    by : (a : Option Frame) → IfSome a (MayOwe l.endpoint.state) → AllOf IsPlain (contents (cons_option a []))
    by None may = tt
    by (Some f) may = plain f.content may.1

awaited-plain : (x : EndpointState) (st : State) → is_opening st ≡ true → AllOf IsPlain (contents (awaited_frame false st x ∷ []))
awaited-plain x st e = grind (arith, e)

-- ---- what a frame is to a link

-- the state is not open yet before a received frame if it is not after it
new-before : (c : Content) (x : EndpointState) (o : Outcome) → Goes None c x o → is_new o.new_state.state ≡ true →
    is_new x.state ≡ true
new-before c x o (remains s k n) e = rw (← s) e
new-before c x o (ends s k n) e = absurd (no_state (rw s at e))
  where
    no_state : false ≡ true → ⊥
    no_state e = cc
new-before c x o (closes w s k n) e = absurd (no_state (rw s at e))
  where
    no_state : false ≡ true → ⊥
    no_state e = cc
new-before c x o (begins s k n) e = absurd k
new-before c x o (opens n now e' by) e = absurd (no_state (rw now at e))
  where
    no_state : false ≡ true → ⊥
    no_state e = cc

abbrev is_windowless : Reply → Bool
is_windowless (TakesIFrame ns nr p segment) = false
is_windowless (TakesRr nr poll) = false
is_windowless (TakesRej nr poll) = false
is_windowless other = true

keeps-window : (r : Reply) (x : EndpointState) → is_windowless r ≡ true → (let z = (outcome_of_reply r x).new_state in
    (z.accepted_segments ≡ x.accepted_segments) × (z.acked_segments ≡ x.acked_segments))
keeps-window r x h = grind (arith, h)

windowless : (f : Frame) (l : LinkState) → (is_open l.endpoint.state && is_numbered (is_command l.endpoint f) f.content) ≡ false →
    is_windowless (reply_to_frame (as_taken f l) l.endpoint) ≡ true
windowless f l h = grind (arith, h)

heard-before : (f : Frame) (l : LinkState) → is_reopened_by_frame f l ≡ false → l.heard ≡ true → heard_with f l ≡ true
heard-before f l once h = grind (arith, once, h)

heard-new : (f : Frame) (l : LinkState) → is_new l.endpoint.state ≡ true → l.heard ≡ false → heard_with f l ≡ false
heard-new f l n h = grind (arith, n, h)

heard-not : (f : Frame) (l : LinkState) → heard_with f l ≡ false →
    (is_open l.endpoint.state && is_numbered (is_command l.endpoint f) f.content) ≡ false
heard-not f l h = grind (arith, h)

unheard-before : (b h : Bool) → b ≡ false → (h ≡ true → b ≡ true) → h ≡ false
unheard-before b h n keeps = grind arith

-- a REJ counts as an RR, and an N(R) that is V(A) acknowledges nothing
holds-rr : {x p : EndpointState} {out : List Content} (ins : List Content) (c : Content) → Hold x p out (cons_option
    (content_of_body c) ins) →
    Hold x p out (cons_option (content_of_body (rej_replaced_by_rr c)) ins)
holds-rr ins (Rej nr pf) h = record { forward = number_as (λ k t. t) h.forward; backward = segment_as (λ k t. t) h.backward }
holds-rr ins c h = h

holds-nr : {x p : EndpointState} {out : List Content} (ins : List Content) (c : Content) → Hold x p out (cons_option
    (content_of_body c) ins) →
    Hold x p out (cons_option (content_of_body (with_nr (va x) c)) ins)
holds-nr ins (I ns nr p more info) h =
    record { forward = number_before refl (number_gone h.forward); backward = segment_as (λ k t. t) h.backward }
holds-nr ins (Rr nr pf) h = record { forward = number_before refl (number_gone h.forward); backward = segment_as (λ k t. t) h.backward }
holds-nr ins (Rej nr pf) h = record { forward = number_before refl (number_gone h.forward); backward = segment_as (λ k t. t) h.backward }
holds-nr ins c h = h

content-as : (c : Content) (l : LinkState) → (content_as_taken c l ≡ rej_replaced_by_rr c)
    ⊎ (content_as_taken c l ≡ with_nr (va l.endpoint) (rej_replaced_by_rr c))
content-as c l = grind arith

holds-as : {p : EndpointState} {out : List Content} (ins : List Content) (c : Content) (l : LinkState) →
    Hold l.endpoint p out (cons_option (content_of_body c) ins) →
    Hold l.endpoint p out (cons_option (content_of_body (content_as_taken c l)) ins)
holds-as ins c l h = elim (content-as c l) [
  | inl e ↦ rw e (holds-rr ins c h)
  | inr e ↦ rw e (holds-nr ins (rej_replaced_by_rr c) (holds-rr ins c h))
]

-- an end that is not open takes no number
abbrev pub is_sequenced : Content → Bool
is_sequenced (I ns nr p more info) = true
is_sequenced (Rr nr pf) = true
is_sequenced (Rej nr pf) = true
is_sequenced other = false

quiet-reply : (f : Frame) (l : LinkState) → is_open l.endpoint.state ≡ false → is_sequenced f.content ≡ true →
    (link_reply f l ≡ Nothing) ⊎ (link_reply f l ≡ SendsDm)
quiet-reply f l closed s = grind (arith, closed, s)

never-ignored : (f : Frame) (l : LinkState) → is_sequenced f.content ≡ true → ignores f l ≡ false
never-ignored f l s = grind (arith, s)

pub not-reopening : (f : Frame) (l : LinkState) → is_opener f.content ≡ false → is_reopened_by_frame f l ≡ false
not-reopening f l s = grind (arith, s)

pub not-renewing : (f : Frame) (l : LinkState) → l.endpoint.sapi ≡ Three → is_open l.endpoint.state ≡ false →
    renewed_for f l ≡ l
not-renewing f l same closed = grind (arith, same, closed)

pub comes-plain : {x p : EndpointState} {out : List Content} (ins : List Content) (c : Content) → is_sequenced c ≡ false →
    Hold x p out ins →
    Hold x p out (cons_option (content_of_body c) ins)
comes-plain {x} {p} {out} ins c s h = by (content_of_body c) (other c s)
  where
    other : (c : Content) → is_sequenced c ≡ false → IfSome (content_of_body c) IsPlain
    other c s = grind (arith, s)

    by : (o : Option Content) → IfSome o IsPlain → Hold x p out (cons_option o ins)
    by None plain = h
    by (Some d) plain = plain-comes d plain h

bare-goes : (call : Option Call) (c : Content) (x : EndpointState) (o : Outcome) → Goes call c x o → x.sapi ≡ Three →
    x.sabm_info ≡ [] →
    ((info : List ℕ) → call ≡ Some (Opens info) → ⊥) → o.new_state.sabm_info ≡ []
bare-goes call c x o (remains s k n) same h never = k ∙ h
bare-goes call c x o (ends s k n) same h never = k ∙ h
bare-goes call c x o (closes w s k n) same h never = k ∙ h
bare-goes (Some (Opens info)) c x o (begins s k n) same h never = absurd (never info refl)
bare-goes (Some OpensWithoutInfo) c x o (begins s k n) same h never = k
bare-goes call c x o (begins s k n) same h never = absurd k
bare-goes call (Sabm p i) x o (opens {info} n now k by) same h never = k ∙ may x.sapi info by.2 same
  where
    may : (t : _) (info : List ℕ) → MayOpen t x.role info → t ≡ Three → info ≡ []
    may t info g e = grind arith
bare-goes call (Ua f i) x o (opens n now k by) same h never = k ∙ by.2 ∙ h
bare-goes call c x o (opens n now k by) same h never = absurd by

-- in this module, both directions hold between a link and the endpoint `p`
module _ {p : EndpointState} {ins : List Content} (air : List Frame) (os : List Opening) (l : LinkState) (h : IsSound l) where
  -- the endpoint has this outcome, and the link has heard `b` now
  acts : {call : Option Call} {c : Content} (b : Bool) (o : Outcome) (lines : List Line) → StepFacts call c l.endpoint o →
      Sees os l.endpoint o.new_state lines → (is_new o.new_state.state ≡ true → (o.new_state.messages ≡ []) × (b ≡ false)) →
      (b ≡ false → (o.new_state.accepted_segments ≡ []) × (o.new_state.acked_segments ≡ 0)) →
      ((info : List ℕ) → call ≡ Some (Opens info) → ⊥) →
      (is_open l.endpoint.state ≡ false → o.new_state.messages ≡ l.endpoint.messages) →
      Hold l.endpoint p (under_way air l) (cons_option (content_of_body c) ins) →
      Steps p ins air os l (record (with_outcome o l) { heard = b }) [] lines
  acts {call} {c} b o lines f sees new unheard never same k =
      let e = endpoint_with_frames o.frames (record l { endpoint = o.new_state }) in
      record {
        sound = record {
          window = rw e f.window_of_one;
          new = rw e new;
          unheard = rw e unheard;
          sapi = rw e (f.link.sapi ∙ h.sapi);
          bare = rw e (bare-goes call c l.endpoint o f.goes h.sapi h.bare never);
        };
        messages = rw e same;
        holds = rw (e, append-nil air) (fewer (way-outcome air o l) (all ins) (f.arrives p (under_way air l) ins k));
        later = sees.later;
        told_is = rw e sees.told_is;
        grows = rw e sees.grows;
      }

  heard-as : {lines : List Line} (o : Outcome) → Steps p ins air os l (record (with_outcome o l) { heard = l.heard }) [] lines →
      Steps p ins air os l (with_outcome o l) [] lines
  heard-as {lines} o t =
      let z = with_outcome o l in
      let e : z.heard ≡ l.heard = held-frames o.frames (record l { endpoint = o.new_state }) in
      subst (λ (m : LinkState). Steps p ins air os l m [] lines) (ap (λ (b : Bool). record z { heard = b }) (sym e)) t

  -- ---- calls of layer 3

  pub call_acts : (call : Call) → IsLinkCall call → ((info : List ℕ) → call ≡ Opens info →
      ⊥) → refusal_of call l.endpoint ≡ None →
      Hold l.endpoint p (under_way air l) ins → Steps p ins air os l (with_outcome (call_outcome call l.endpoint) l) []
      (Asked call ∷ [])
  call_acts (Sends m) own never ok k =
      let f = is_called l.endpoint h.window (Sends m) ok in
      let g = send-keeps m l.endpoint in
      let e : known (call_outcome (Sends m) l.endpoint).new_state ≡ asked (Some (Sends m)) (known l.endpoint) = rw
      (silent-send m l.endpoint) at f.notifies in
      heard-as (call_outcome (Sends m) l.endpoint) (acts l.heard (call_outcome (Sends m) l.endpoint) (Asked (Sends m) ∷ []) f
      (sees-called os l (Sends m) (call_outcome (Sends m) l.endpoint).new_state h own (λ n. absurd (no_open n)) never e)
      (λ n. absurd (no_new (send-open m l.endpoint ok) (sym (ap is_new g.0) ∙ n)))
      (λ n. (let u = h.unheard n in (g.1 ∙ u.0, g.2 ∙ u.1))) (λ i e. cc e) (λ shut. absurd (sends-open shut ok)) k)
    where
      no_open : Sends m ≡ OpensWithoutInfo → ⊥
      no_open e = cc e

      no_new : {b : Bool} → b ≡ false → b ≡ true → ⊥
      no_new e f = cc

      sends-open : is_open l.endpoint.state ≡ false → refusal_of (Sends m) l.endpoint ≡ None → ⊥
      sends-open shut ok = grind (arith, shut, ok)
  call_acts Closes own never ok k =
      let f = is_called l.endpoint h.window Closes ok in
      heard-as (call_outcome Closes l.endpoint) (acts l.heard (call_outcome Closes l.endpoint) (Asked Closes ∷ []) f
      (sees-called os l Closes (call_outcome Closes l.endpoint).new_state h own (λ n. absurd (no_open n)) never f.notifies)
      (λ n. absurd (no_new n)) h.unheard (λ i e. cc e) (λ shut. refl) k)
    where
      no_open : Closes ≡ OpensWithoutInfo → ⊥
      no_open e = cc e

      no_new : false ≡ true → ⊥
      no_new e = cc
  call_acts OpensWithoutInfo own never ok k =
      let f = is_called l.endpoint h.window OpensWithoutInfo ok in
      let idle : l.endpoint.state ≡ S.Idle = is_idle-is l.endpoint.state (not_false _ (passes _ _ [] ok).not_refused) in
      let new : is_new l.endpoint.state ≡ true = ap is_new idle in
      heard-as (call_outcome OpensWithoutInfo l.endpoint) (acts l.heard (call_outcome OpensWithoutInfo l.endpoint)
      (Asked OpensWithoutInfo ∷ []) f
      (sees-called os l OpensWithoutInfo (call_outcome OpensWithoutInfo l.endpoint).new_state h own (λ n. new) never f.notifies)
      (λ n. h.new new) h.unheard (λ i e. cc e) (λ shut. refl) k)
  call_acts (Opens info) own never ok k = absurd (never info refl)
  call_acts call own never ok k = absurd own

  -- ---- slots

  -- nothing but the frames on the air is under way
  on-air : Hold l.endpoint p (under_way air l) ins → Hold l.endpoint p (contents air) ins
  on-air k = fewer (rw (way-is air l) (front (contents air) (contents (owed l)))) (all ins) k

  slot_by : (o : SlotOutcome) → IsSlot l o → IfSome l.answer (MayOwe l.endpoint.state) → Hold l.endpoint p (under_way air l) ins →
      Steps p ins air os l o.link (cons_option o.frame []) (told o.notices)
  slot_by o (sabm_first opening first due new) may k =
      let f = awaited_frame false l.endpoint.state l.endpoint in
      record {
        sound = record { window = h.window; new = h.new; unheard = h.unheard; sapi = h.sapi; bare = h.bare };
        messages = λ shut. refl;
        holds = rw (way-is (air ++ f ∷ []) l, filter_map-append (λ (g : Frame). content_of_body g.content) air (f ∷ []))
            (sends_plain (contents (owed l)) (plain-owed l opening may)
            (sends_plain (contents (f ∷ [])) (awaited-plain l.endpoint l.endpoint.state opening) (on-air k)));
        later = os;
        told_is = refl;
        grows = grown refl (prefix-refl l.endpoint.messages);
      }
  slot_by o (idles first owes_none due) may k = record {
    sound = h;
    messages = λ shut. refl;
    holds = rw (append-nil air) k;
    later = os;
    told_is = refl;
    grows = grown refl (prefix-refl l.endpoint.messages);
  }
  slot_by o (answering f first owes back) may k = record {
    sound = record { window = h.window; new = h.new; unheard = h.unheard; sapi = h.sapi; bare = h.bare };
    messages = λ shut. refl;
    holds = rw (append-nil (air ++ f ∷ [])) (rw owes at k);
    later = os;
    told_is = refl;
    grows = grown refl (prefix-refl l.endpoint.messages);
  }
  slot_by o (repeating awaits due new) may k =
      let f = awaited_frame false l.endpoint.state l.endpoint in
      let g = is_called l.endpoint h.window Repeats (rw awaits refl) in
      record {
        sound = record { window = h.window; new = h.new; unheard = h.unheard; sapi = h.sapi; bare = h.bare };
        messages = λ shut. refl;
        holds = rw (append-nil (air ++ f ∷ []))
            (fewer (rw (filter_map-append (λ (g : Frame). content_of_body g.content) air (f ∷ []), way-is air l)
            (append (front (contents air) (contents (owed l))) (all (contents (f ∷ []))))) (all ins)
            (g.arrives p (under_way air l) ins k));
        later = os;
        told_is = refl;
        grows = grown refl (prefix-refl l.endpoint.messages);
      }
  slot_by o (expiring awaits sent due over) may k =
      let z = t200_expiry l.endpoint in
      let fs = cons_option (first_frame z.frames) [] in
      let g = is_called l.endpoint h.window T200Expires (rw awaits refl) in
      let t = tells z.notices (known l.endpoint) (known z.new_state) os g.notifies (no_opens (Some T200Expires) l.endpoint z g.goes) in
      record {
        sound = record {
          window = g.window_of_one;
          new = λ n. (let m = h.new (expired-new n) in (expired-messages ∙ m.0, m.1));
          unheard = λ n. (let m = h.unheard n in (expired-accepted ∙ m.0, expired-acked ∙ m.1));
          sapi = g.link.sapi ∙ h.sapi;
          bare = bare-goes (Some T200Expires) (Ui false []) l.endpoint z g.goes h.sapi h.bare (λ i e. cc e);
        };
        messages = λ shut. expired-messages;
        holds = rw (append-nil (air ++ fs))
            (fewer (rw (filter_map-append (λ (g : Frame). content_of_body g.content) air fs, way-is air l)
            (append (front (contents air) (contents (owed l))) (first-some z.frames))) (all ins)
            (g.arrives p (under_way air l) ins k));
        later = os;
        told_is = t.told_is;
        grows = grown refl (rw t.sent (prefix-refl l.endpoint.messages));
      }
    where
      expired-new : is_new (t200_expiry l.endpoint).new_state.state ≡ true → is_new l.endpoint.state ≡ true
      expired-new n = grind arith

      expired-messages : (t200_expiry l.endpoint).new_state.messages ≡ l.endpoint.messages
      expired-messages = grind arith

      expired-accepted : (t200_expiry l.endpoint).new_state.accepted_segments ≡ l.endpoint.accepted_segments
      expired-accepted = grind arith

      expired-acked : (t200_expiry l.endpoint).new_state.acked_segments ≡ l.endpoint.acked_segments
      expired-acked = grind arith

  pub slot_acts : IfSome l.answer (MayOwe l.endpoint.state) → Hold l.endpoint p (under_way air l) ins →
      Steps p ins air os l (slot_outcome l).link (cons_option (slot_outcome l).frame []) (told (slot_outcome l).notices)
  slot_acts may k = slot_by (slot_outcome l) (is_slot l) may k

  -- ---- received frames

  -- the endpoint answers by a DM, or not at all
  quiet_acts : (b : Bool) (r : Reply) → (r ≡ Nothing) ⊎ (r ≡ SendsDm) → (l.heard ≡ true → b ≡ true) →
      (is_new l.endpoint.state ≡ true → b ≡ false) → Hold l.endpoint p (under_way air l) ins →
      (let o = outcome_of_reply r l.endpoint in Steps p ins air os l (record (with_outcome o l) { heard = b }) [] (told o.notices))
  quiet_acts b r (inl e) keeps new k = rw e (record {
    sound = record {
      window = h.window;
      new = λ n. ((h.new n).0, new n);
      unheard = λ n. h.unheard (unheard-before b l.heard n keeps);
      sapi = h.sapi;
      bare = h.bare;
    };
    messages = λ shut. refl;
    holds = rw (append-nil air) k;
    later = os;
    told_is = refl;
    grows = grown refl (prefix-refl l.endpoint.messages);
  })
  quiet_acts b r (inr e) keeps new k =
      let dm = response_frame l.endpoint (Dm true) in
      rw e (record {
        sound = record {
          window = h.window;
          new = λ n. ((h.new n).0, new n);
          unheard = λ n. h.unheard
              (unheard-before b l.heard n keeps);
          sapi = h.sapi;
          bare = h.bare;
        };
        messages = λ shut. refl;
        holds = rw (append-nil air, filter_map-append (λ (g : Frame). content_of_body g.content) air (dm ∷ []))
            (sends_plain (contents (dm ∷ [])) (tt, tt) (on-air k));
        later = os;
        told_is = refl;
        grows = grown refl (prefix-refl l.endpoint.messages);
      })

  pub take_acts : (f : Frame) → renewed_for f l ≡ l → is_reopened_by_frame f l ≡ false →
      Hold l.endpoint p (under_way air l) (cons_option (content_of_body f.content) ins) →
      Steps p ins air os l (after_received f l) [] (told (received_notices f l))
  take_acts f same once k =
      rw (received-is f l same, notices-are f l same) (by_tests (ignores f l) (is_reopened_by_frame f l) once)
    where
      b : Bool
      b = heard_with f l

      new-b : is_new l.endpoint.state ≡ true → b ≡ false
      new-b n = heard-new f l n (h.new n).1

      left : Hold l.endpoint p (under_way air l) ins
      left = gone (content_of_body f.content) k

      passes-on : (let o = frame_outcome (as_taken f l) l.endpoint in
          Steps p ins air os l (record (with_outcome o l) { heard = b }) [] (told o.notices))
      passes-on =
          let g = as_taken f l in
          let o = frame_outcome g l.endpoint in
          let t = taken-frame l.endpoint h.window g in
          acts b o (told o.notices) t (sees-taken os g.content l o h t)
          (λ n. (let m = new-before g.content l.endpoint o t.goes n in
          (t.messages ∙ append-nil l.endpoint.messages ∙ (h.new m).0, new-b m)))
          (λ n. (let w = keeps-window (reply_to_frame g l.endpoint) l.endpoint (windowless f l (heard-not f l n)) in
          let u = h.unheard (unheard-before b l.heard n (heard-before f l once)) in (w.0 ∙ u.0, w.1 ∙ u.1)))
          (λ i e. cc e) (λ shut. t.messages ∙ append-nil l.endpoint.messages)
          (holds-as ins f.content l k)

      taken : (c : Bool) → refuses f l.endpoint ≡ c →
          (let o = outcome_of_reply (if c then SendsDm else reply_to_frame (as_taken f l) l.endpoint) l.endpoint in
          Steps p ins air os l (record (with_outcome o l) { heard = b }) [] (told o.notices))
      taken true e = quiet_acts b SendsDm (inr refl) (heard-before f l once) new-b left
      taken false e = passes-on

      by_tests : (i r : Bool) → r ≡ false → (let m = if r then afresh l else l in
          Steps p ins air os l (record (if i then l else with_outcome (received_outcome f m) m) { heard = b }) []
          (told (if i then [] else (received_outcome f m).notices)))
      by_tests i true e = absurd cc
      by_tests true false e = quiet_acts b Nothing (inl refl) (heard-before f l once) new-b left
      by_tests false false e = taken (refuses f l.endpoint) refl

  -- a frame from before this pairing reaches a link that is not open
  pub stale_acts : (f : Frame) → l.endpoint.sapi ≡ Three → is_open l.endpoint.state ≡ false → is_opener f.content ≡ false →
      Hold l.endpoint p (under_way air l) ins → Steps p ins air os l (after_received f l) [] (told (received_notices f l))
  stale_acts f sapi closed other k = by (is_sequenced f.content) refl
    where
      same : renewed_for f l ≡ l
      same = not-renewing f l sapi closed

      once : is_reopened_by_frame f l ≡ false
      once = not-reopening f l other

      b : Bool
      b = heard_with f l

      quietly : (i r : Bool) → i ≡ false → r ≡ false → (link_reply f l ≡ Nothing) ⊎ (link_reply f l ≡ SendsDm) →
          (let m = if r then afresh l else l in
          Steps p ins air os l (record (if i then l else with_outcome (received_outcome f m) m) { heard = b }) []
          (told (if i then [] else (received_outcome f m).notices)))
      quietly i true e g reply = absurd cc
      quietly true r e g reply = absurd cc
      quietly false false e g reply =
          quiet_acts b (link_reply f l) reply (heard-before f l once) (λ n. heard-new f l n (h.new n).1) k

      by : (s : Bool) → is_sequenced f.content ≡ s → Steps p ins air os l (after_received f l) [] (told (received_notices f l))
      by true s = rw (received-is f l same, notices-are f l same)
          (quietly (ignores f l) (is_reopened_by_frame f l) (never-ignored f l s) once (quiet-reply f l closed s))
      by false s = take_acts f same once (comes-plain ins f.content s k)
