-- What one step of an endpoint does.
use Rattle.{
  lapdm_link.{
    proofs.{Directions.more_segments, Events.{AllFrames, AllOf, IsPlain, content_of_body, contents, frames-as, frames-say, of-as}},
    proofs.Rules.{Arriving, BothHold, Both, CarriesSegmentOf, InOpen, IsNoUnitOrOpening, Notifies, Way, asked, gone, in-repeats},
    proofs.Rules.{in-sends_next_segment, in-takes_i_frame, in-takes_rej, in-takes_rr, known, moved, notified, sends_plain, stage_of},
    specs.{Claims.{establishment_info_in_notice, message_sent_by_call, ui_message_in_notice, ui_message_of_call}, Events.{Idle, Open}},
    specs.Events.other,
  },
  lapdm_window.{
    proofs.Lemmas.{HasBegun, HasWindowOfOne-push, IsReplyTo, MayOpen, acked_message_count-push, cause_of, is_idle-is, is_open-is},
    proofs.Lemmas.{is_valid_message, not_false, passes, segments_of_all_messages-push},
    specs.{
      Calls.{Call, Closes, OpensWithoutInfo, Opens, Repeats, SendsFillFrame, SendsUi, Sends, T200Expires, awaited_frame, call_outcome},
      Calls.{is_idle, message_refusal_checks, refusal_of, single_frame_refusal_checks, with_queued_message},
      Ends.{EndpointState, HasWindowOfOne, Outcome, awaits_ack, awaits_answer_in_state, n200, segments_of_all_messages, sends_frame, vr},
      Ends.◌then◌,
      Rules.is_open,
      Steps.IsSameEndpoint,
      Tables.{AcceptsDisc, AcceptsSabm, ClosesLink, ConfirmsEstablishment, Nothing, Reply, ReportsUiInformation, SendsDm, SendsUa},
      Tables.{TakesIFrame, TakesRej, TakesRr, closes_and_reports, frame_outcome, outcome_of_reply, reply_to_frame},
      declared.{Notice.Notice, Reason.Reason, State.{TheVariants.{Closed, Closing, Idle, Opening, Open}, State}},
      lapdm_frame.{Content.{Content, Frame, I, Sabm, Ua, Ui, information}, Layout.n201},
      segmenting.{Joining.messages, Segments.{Message, Segment}},
    },
  },
  std.proofs.Common.{Bool, List, None, Option, Some, [], ap, arith, false, if◌then◌else◌, inl, inr, length, nat_eq, nat_lt, not},
  std.proofs.{Common.{refl, sym, true, ℕ, ◌++◌, ◌+◌, ◌∙◌, ◌∷◌, ◌≡◌, ◌≤◌}, lemmas.Bool.Decides.nat_tests},
  std.{proofs.lemmas.{Bool.false≢true, List.append-nil}, specs.{List.{cons_option, filter_map}, Prelude.◌⊎◌}},
}
use Rattle.lapdm_window.specs.declared.Notice.TheVariants as N
use Rattle.lapdm_window.specs.declared.Reason.TheVariants as R
use Rattle.lapdm_window.specs.declared.Refused.TheVariants as No
use Rattle.lapdm_window.specs.declared.State.TheVariants as S

-- ## Acting: What one step of an endpoint does after a call or a received frame: which frames it sends, which notices it reports, and how
-- its state changes. Each step preserves the invariant `BothHold` of both directions.

-- what an endpoint may send in a step from state x to state z: an I frame with one of its segments, a SABM with the SABM information that
-- it keeps, a UI frame for a call, or a UA that is empty or has the information of the open link
abbrev pub Says : Option Call → EndpointState → EndpointState → Content → Type 0
Says call x z (I ns nr p more info) = CarriesSegmentOf (segments_of_all_messages z) (I ns nr p more info)
Says call x z (Sabm p info) = (z.state ≡ Opening) × (z.sabm_info ≡ info)
Says call x z (Ui p info) = (call ≡ Some (SendsUi info)) ⊎ ((call ≡ Some SendsFillFrame) × (info ≡ []))
Says call x z (Ua f info) = ((z.state ≡ Open) × (z.sabm_info ≡ info)) ⊎ ((info ≡ []) × HasBegun x)
Says call x z other = information other ≡ []

abbrev pub SaysPlain : Option Call → EndpointState → EndpointState → Content → Type 0
SaysPlain call x z c = IsPlain c × Says call x z c

-- the call asks the endpoint to establish the link with a SABM that has this information
abbrev pub IsOpening : Option Call → Message → Type 0
IsOpening (Some (Opens info)) k = (k ≡ info) × (1 ≤ length k)
IsOpening (Some OpensWithoutInfo) k = k ≡ []
IsOpening other k = ⊥

abbrev pub OpensBy : Content → EndpointState → Message → Type 0
OpensBy (Sabm p i) x info = (i ≡ info) × (x.state ≡ Idle) × MayOpen x.sapi x.role info
OpensBy (Ua f i) x info = (i ≡ info) × (x.state ≡ Opening) × (info ≡ x.sabm_info)
OpensBy other x info = ⊥

-- the five ways in which a step may change the state of the link: it stays as it is, becomes Closed, becomes Closing, becomes Opening, or
-- becomes Open
pub data Goes (call : Option Call) (c : Content) (x : EndpointState) (o : Outcome) : Type 0 where
  remains : o.new_state.state ≡ x.state → o.new_state.sabm_info ≡ x.sabm_info → filter_map establishment_info_in_notice o.notices
      ≡ [] → Goes call c x o
  ends : o.new_state.state ≡ Closed → o.new_state.sabm_info ≡ x.sabm_info →
      filter_map establishment_info_in_notice o.notices ≡ [] →
      Goes call c x o
  closes : x.state ≡ Open → o.new_state.state ≡ Closing → o.new_state.sabm_info ≡ x.sabm_info →
      filter_map establishment_info_in_notice o.notices ≡ [] → Goes call c x o
  begins : o.new_state.state ≡ Opening → IsOpening call o.new_state.sabm_info →
      filter_map establishment_info_in_notice o.notices ≡ [] →
      Goes call c x o
  opens : {info : Message} → o.notices ≡ N.Opened info ∷ [] → o.new_state.state ≡ Open → o.new_state.sabm_info ≡ info →
      OpensBy c x info → Goes call c x o

abbrev pub unit_in : Content → Option Message
unit_in (Ui p m) = Some m
unit_in other = None

-- the notices deliver either no message from a UI frame, or exactly the message of the UI frame received
abbrev pub ReportsUnit : Content → List Notice → Type 0
ReportsUnit c ns = (filter_map ui_message_in_notice ns ≡ [])
    ⊎ (filter_map ui_message_in_notice ns ≡ filter_map unit_in (cons_option (content_of_body c) []))

-- the facts about a step of endpoint x with outcome o, caused by a call (then c is the content of a fill frame) or by a received frame with
-- content c
pub record StepFacts (call : Option Call) (c : Content) (x : EndpointState) (o : Outcome) : Type 0 where
  pub link : IsSameEndpoint x o.new_state
  pub window_of_one : HasWindowOfOne o.new_state
  pub messages : o.new_state.messages ≡ x.messages ++ filter_map message_sent_by_call (cons_option call [])
  pub notifies : Notifies (asked call (known x)) o.notices (known o.new_state)
  pub frames : AllFrames (Says call x o.new_state) x.sapi o.frames
  pub ui_in_order : filter_map unit_in (contents o.frames) ≡ filter_map ui_message_of_call (cons_option call [])
  pub reports : ReportsUnit c o.notices
  pub goes : Goes call c x o
  pub arrives : (y : EndpointState) (out comes : List Content) → BothHold x y out (cons_option (content_of_body c) comes)
      (cons_option (content_of_body c) comes) → Both o.new_state y (out ++ contents o.frames) comes

abbrev pub IsTaken : Content → EndpointState → Outcome → Type 0
IsTaken = StepFacts None

abbrev pub IsCalled : EndpointState → Call → Outcome → Type 0
IsCalled x call o = StepFacts (Some call) (Ui false []) x o

well-said : (call : Option Call) (x z : EndpointState) (ps : List Segment) → segments_of_all_messages z ≡ ps → (c : Content) →
    CarriesSegmentOf ps c → Says call x z c
well-said call x z ps c h g = grind arith

well-no_unit : (ps : List Segment) (c : Content) → CarriesSegmentOf ps c → unit_in c ≡ None
well-no_unit ps c h = grind arith

none-of : {A B : Type 0} (f : A → Option B) (xs : List A) → AllOf (λ x. f x ≡ None) xs → filter_map f xs ≡ []
none-of f [] h = refl
none-of f (x ∷ xs) h = rw (h.0, none-of f xs h.1) refl

step_in_open : {From : Way} (call : Option Call) (c : Content) (x : EndpointState) (ts : List Message) (o : Outcome) →
    (let mid = record x { messages = ts } in InOpen From Both mid o →
    ((y : EndpointState) (out comes : List Content) → BothHold x y out (cons_option (content_of_body c) comes)
    (cons_option (content_of_body c) comes) →
    From mid y out comes) → ts ≡ x.messages ++ filter_map message_sent_by_call (cons_option call []) →
    known mid ≡ asked call (known x) → filter_map ui_message_of_call (cons_option call []) ≡ [] → StepFacts call c x o)
step_in_open call c x ts o h from takes notified none =
    let ps = segments_of_all_messages (record x { messages = ts }) in
    record {
      link = record {
        role = ap (λ z. z.role) h.others_same;
        sapi = ap (λ z. z.sapi) h.others_same;
        channel = ap (λ z. z.channel) h.others_same;
      };
      window_of_one = h.window_of_one;
      messages = ap (λ z. z.messages) h.others_same ∙ takes;
      notifies = rw notified at h.notifies;
      frames = frames-as (CarriesSegmentOf ps) _ (well-said call x o.new_state ps (ap segments_of_all_messages h.others_same)) _ _ h.frames;
      ui_in_order = none-of unit_in _ (frames-say (CarriesSegmentOf ps) (λ c. unit_in c ≡ None) (well-no_unit ps) x.sapi o.frames
          h.frames) ∙ sym none;
      reports = inl (none-of ui_message_in_notice _ (of-as IsNoUnitOrOpening _ (λ n m. m.0) o.notices h.of_open));
      goes = remains (ap (λ z. z.state) h.others_same) (ap (λ z. z.sabm_info) h.others_same)
          (none-of establishment_info_in_notice _ (of-as IsNoUnitOrOpening _ (λ n m. m.1) o.notices h.of_open));
      arrives = λ y out comes k. h.keeps y out _ (from y out _ k);
    }

plain_step : (call : Option Call) (c : Content) (x : EndpointState) (w : HasWindowOfOne x) (s : State) (k : Message) (r : ℕ)
    (fs : List Frame)
    (ns : List Notice) → (let z = record x { state = s; sabm_info = k; retries = r } in
    let o : Outcome = record { new_state = z; frames = fs; notices = ns } in AllFrames (SaysPlain call x z) x.sapi fs →
    Notifies (asked call (known x)) ns (known z) → Goes call c x o → ReportsUnit c ns →
    filter_map message_sent_by_call (cons_option call []) ≡ [] →
    filter_map unit_in (contents fs) ≡ filter_map ui_message_of_call (cons_option call []) → StepFacts call c x o)
plain_step call c x w s k r fs ns says notifies goes reports none ui_in_order =
    let z = record x { state = s; sabm_info = k; retries = r } in
    record {
      link = record { role = refl; sapi = refl; channel = refl };
      window_of_one = grind arith;
      messages = rw (none, append-nil) refl;
      notifies = notifies;
      frames = frames-as (SaysPlain call x z) (Says call x z) (λ d h. h.1) _ fs says;
      ui_in_order = ui_in_order;
      reports = reports;
      goes = goes;
      arrives = λ y out comes h. sends_plain _ (frames-say (SaysPlain call x z) IsPlain (λ d m. m.0) x.sapi fs says)
          (moved s k x.rejecting r (gone (content_of_body c) h));
    }

-- ## Taking: The step of an endpoint that receives a frame, of whatever kind, satisfies `StepFacts`.

no_unit : (x z : EndpointState) (c : Content) → SaysPlain None x z c → unit_in c ≡ None
no_unit x z c h = grind arith

module _ (x : EndpointState) (w : HasWindowOfOne x) where
  rule : {o : Outcome} (c : Content) → content_of_body c ≡ Some c → InOpen (Arriving c (vr x)) Both x o → IsTaken c x o
  rule {o} c is h = step_in_open _ c x _ o h (λ y out comes k. (refl, rw is at k)) (sym (append-nil _)) refl refl

  IsTaken-state : {c : Content} (s : State) (k : Message) (fs : List Frame) (ns : List Notice) →
      (let z = record x { state = s; sabm_info = k } in let o : Outcome = record { new_state = z; frames = fs; notices = ns } in
      AllFrames (SaysPlain None x z) x.sapi fs → Notifies (known x) ns (known z) → Goes None c x o → ReportsUnit c ns →
      IsTaken c x o)
  IsTaken-state {c} s k fs ns says notifies goes reports = plain_step _ c x w s k _ fs ns says notifies goes reports refl
      (none-of _ _ (frames-say _ (λ c. unit_in c ≡ None) (no_unit x (record x { state = s; sabm_info = k })) x.sapi fs says))

  IsTaken-unchanged : {c : Content} (fs : List Frame) → AllFrames (SaysPlain None x x) x.sapi fs →
      IsTaken c x (record { new_state = x; frames = fs; notices = [] })
  IsTaken-unchanged fs h = IsTaken-state _ _ fs [] h refl (remains refl refl refl) (inl refl)

  pub over : {c : Content} {reason : Reason} (fs : List Frame) → stage_of x.state ≤ 2 →
      AllFrames (SaysPlain None x (record x { state = Closed })) x.sapi fs →
      IsTaken c x (record { new_state = record x { state = Closed }; frames = fs; notices = N.Closed reason ∷ [] })
  over fs live h = IsTaken-state _ _ fs _ h (live, refl) (ends refl refl refl) (inl refl)

  IsTaken-opened : {c : Content} (k info : Message) (fs : List Frame) → stage_of x.state ≡ 0 → k ≡ info →
      AllFrames (SaysPlain None x (record x { state = Open; sabm_info = k })) x.sapi fs → OpensBy c x info →
      IsTaken c x (record { new_state = record x { state = Open; sabm_info = k }; frames = fs; notices = N.Opened info ∷ [] })
  IsTaken-opened k info fs not_yet e h cause = IsTaken-state _ k fs _ h (not_yet, refl) (opens refl refl e cause) (inl refl)

  HasBegun-stage : HasBegun x → stage_of x.state ≤ 2
  HasBegun-stage h = grind arith

  taken-reply : (r : Reply) (c : Content) → IsReplyTo c x r → IsTaken c x (outcome_of_reply r x)
  taken-reply Nothing c cause = IsTaken-unchanged _ tt
  taken-reply SendsDm c cause = IsTaken-unchanged _ (inl refl, (tt, refl), tt)
  taken-reply (SendsUa info) c cause = IsTaken-unchanged _ (inl refl, (tt, cause), tt)
  taken-reply (AcceptsSabm info) c cause = IsTaken-opened info info _ (ap stage_of cause.2) refl (inl refl, (tt, inl (refl, refl)), tt)
      (rw cause.1 (refl, cause.2, cause.3))
  taken-reply (ConfirmsEstablishment info) c cause = IsTaken-opened x.sabm_info info [] (ap stage_of cause.1) (sym cause.2) tt
      (rw cause.0 (refl, cause.1, cause.2))
  taken-reply (ClosesLink reason) c cause = over [] (HasBegun-stage cause) tt
  taken-reply AcceptsDisc c cause = over _ (rw cause (omega arith)) (inl refl, (tt, inr (refl, inr (inl cause))), tt)
  taken-reply (ReportsUiInformation []) c cause = absurd (omega (arith, cause.2))
  taken-reply (ReportsUiInformation (i ∷ is)) c cause =
      rw cause.1 (IsTaken-state _ _ [] _ tt (tt, refl) (remains refl refl refl) (inr refl))
  taken-reply (TakesIFrame ns nr p segment) c cause =
      rw cause.0 (rule _ refl (in-takes_i_frame _ nr ns p _ (λ k e. e) (λ y k e. e) x cause.1 w))
  taken-reply (TakesRr nr poll) c cause = rw cause.1 (rule _ refl (in-takes_rr _ nr _ (λ k e. e) _ x cause.2 w))
  taken-reply (TakesRej nr poll) c cause = rw cause.1 (rule _ refl (in-takes_rej _ nr _ (λ k e. e) _ x cause.2 w))

  pub taken-frame : (f : Frame) → IsTaken f.content x (frame_outcome f x)
  taken-frame f = taken-reply (reply_to_frame f x) _ (cause_of x f)

-- ## Asked: The step of an endpoint that accepts a call satisfies `StepFacts`.

taken-both : (m : Message) {x y : EndpointState} {out comes hears : List Content} → BothHold x y out comes hears →
    BothHold (with_queued_message m x) y out comes hears
taken-both m {x} h = record { forward = rw (segments_of_all_messages-push x m) (more_segments _ h.forward); backward = h.backward }

module _ (x : EndpointState) (w : HasWindowOfOne x) where
  unopened : x.state ≡ S.Idle → record (known x) { stage = 0 } ≡ known x
  unopened is_now = grind arith

  IsCalled-retransmits : (s : State) → x.state ≡ s → awaits_answer_in_state s (awaits_ack x) ≡ true →
      IsCalled x T200Expires (sends_frame (awaited_frame true s x) (record x { retries = x.retries + 1 }))
  IsCalled-retransmits S.Opening e due =
      plain_step _ _ x w _ _ _ _ [] (inl refl, (tt, (e, refl)), tt) refl (remains refl refl refl) (inl refl) refl refl
  IsCalled-retransmits S.Closing e due =
      plain_step _ _ x w _ _ _ _ [] (inl refl, (tt, refl), tt) refl (remains refl refl refl) (inl refl) refl refl
  IsCalled-retransmits S.Open e due =
      step_in_open _ _ x x.messages _ (in-repeats _ _ x w due) (λ y out comes h. h) (sym (append-nil _)) refl refl
  IsCalled-retransmits s e due = absurd (false≢true due)

  IsCalled-repeats : (s : State) → x.state ≡ s → awaits_answer_in_state s (awaits_ack x) ≡ true →
      IsCalled x Repeats (sends_frame (awaited_frame false s x) x)
  IsCalled-repeats S.Opening e due =
      plain_step _ _ x w _ _ _ _ [] (inl refl, (tt, (e, refl)), tt) refl (remains refl refl refl) (inl refl) refl refl
  IsCalled-repeats S.Closing e due =
      plain_step _ _ x w _ _ _ _ [] (inl refl, (tt, refl), tt) refl (remains refl refl refl) (inl refl) refl refl
  IsCalled-repeats S.Open e due =
      step_in_open _ _ x x.messages _ (in-repeats _ x.retries x w due) (λ y out comes h. h) (sym (append-nil _)) refl refl
  IsCalled-repeats s e due = absurd (false≢true due)

  live : (s : State) → awaits_answer_in_state s (awaits_ack x) ≡ true → stage_of s ≤ 2
  live s h = grind arith

  t200_expiry : (b : Bool) → awaits_answer_in_state x.state (awaits_ack x) ≡ true → IsCalled x T200Expires
      (if b then sends_frame (awaited_frame true x.state x) (record x { retries = x.retries + 1 }) else closes_and_reports R.Failed x)
  t200_expiry true due = IsCalled-retransmits _ refl due
  t200_expiry false due = plain_step _ _ x w _ _ _ [] _ tt (live _ due, refl) (ends refl refl refl) (inl refl) refl refl

  pub is_called : (call : Call) → refusal_of call x ≡ None → IsCalled x call (call_outcome call x)
  is_called (Opens info) ok =
      let idle = passes (not (is_idle x.state)) No.NotIdle (single_frame_refusal_checks info x) ok in
      let full : nat_eq (length info) 0 ≡ false = (passes _ _ _ idle.others_allow).not_refused in
      let is_now = is_idle-is x.state (not_false _ idle.not_refused) in
      plain_step _ _ x w _ _ 0 _ [] (inl refl, (tt, (refl, refl)), tt) (unopened is_now)
      (begins refl (refl, grind (arith, nat_tests)) refl) (inl refl) refl refl
  is_called OpensWithoutInfo ok =
      let is_now = is_idle-is x.state (not_false _ (passes _ _ [] ok).not_refused) in
      plain_step _ _ x w _ [] 0 _ [] (inl refl, (tt, (refl, refl)), tt) (unopened is_now) (begins refl refl refl) (inl refl) refl refl
  is_called (Sends m) ok =
      let now = passes (not (is_open x.state)) No.NotOpen (message_refusal_checks m x) ok in
      let is_now = is_open-is x.state (not_false _ now.not_refused) in
      step_in_open _ _ x _ _
      (in-sends_next_segment _ is_now (HasWindowOfOne-push x m w (is_valid_message m x now.others_allow)))
      (λ y out comes h. taken-both m h) refl
      (cc (acked_message_count-push x m w)) refl
  is_called (SendsUi []) ok = absurd (false≢true (sym (passes _ _ ((nat_lt (n201 x.channel) 0, No.TooLong) ∷ []) ok).not_refused))
  is_called (SendsUi (i ∷ is)) ok = plain_step _ _ x w _ _ _ _ []
      (inl refl, (tt, inl refl), tt) refl (remains refl refl refl) (inl refl) refl refl
  is_called Closes ok =
      let is_now = is_open-is _ (not_false _ (passes _ _ [] ok).not_refused) in
      plain_step _ _ x w _ _ 0 _ [] (inl refl, (tt, refl), tt) (rw is_now refl) (closes is_now refl refl refl) (inl refl) refl refl
  is_called T200Expires ok = t200_expiry (nat_lt x.retries (n200 x.channel x.state)) (not_false _ (passes _ _ [] ok).not_refused)
  is_called Repeats ok = IsCalled-repeats _ refl (not_false _ (passes _ _ [] ok).not_refused)
  is_called SendsFillFrame ok = plain_step _ _ x w _ _ _ _ [] (inr refl, (tt, inr (refl, refl)), tt) refl
      (remains refl refl refl) (inl refl) refl refl
