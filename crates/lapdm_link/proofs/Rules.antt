-- What the rules of an endpoint send and report, and the invariant that each of them keeps.
use Rattle.{
  lapdm_link.{
    proofs.{
      Directions.{CarriesIn, CountsIn, IsDirection, IsSegment, first, last, next_waits, number_gone, number_in, numbers_out, segment_gone},
      Directions.{segment_in, segments_out},
      Events.{AllFrames, AllOf, IsPlain, contents, frames-append, frames-as, frames-say, is_end-self, is_end, of-append, of-as, said},
    },
    specs.Claims.{LogLine, Notified, OccursAfter, acked_message_numbers, acked_number_in_notice, call_in_line, close_notice_or_none},
    specs.Claims.{close_notices, establishment_info_in_notice, establishment_infos, message_sent_by_call, notice_in_line, notices_in_log},
    specs.{Claims.{sent_messages, ui_message_in_notice}, Events.{Open, other}},
  },
  lapdm_window.{
    proofs.Lemmas.{HasWindowOfOne-acked, acked_message_count-last, acked_message_count-more, acked_message_count-most},
    proofs.segmenting.Lemmas.{messages_ending_in_segments-last, messages_ending_in_segments-more},
    specs.{
      Calls.{Call, Closes, Sends},
      Ends.{EndpointState, HasWindowOfOne, Outcome, Role, acked_message_count, awaits_ack, capped_at_64_bits, first_unacked_segment},
      Ends.{no_effect, response_frame, segments_of_all_messages, sends_frame, vr, ◌then◌},
      Rules.{accepts_segment, acked_message_number, answers_poll, answers_segment, evaluates_nr, marks_segment_acked},
      Rules.{may_send_next_segment, nr_acknowledges_segment, outstanding_frame, reject_is_due, rejects_segment},
      Rules.{resends_outstanding_segment, segment_notices, sends_next_segment, sends_rr, sends_segment, takes_i_frame, takes_rej, takes_rr},
      Rules.{with_segment_acked, with_segment_sent},
      declared.{Notice.{TheVariants.Acked, Notice}, Sapi.Sapi, State.{TheVariants.{Closed, Closing, Open}, State}},
      lapdm_frame.Content.{Content, Frame, I, Rej, Rr},
      segmenting.{Joining.{message_if_fits, messages_ending_in_segments, messages, partial_message}, Segments.{Message, Segment}},
    },
  },
  std.proofs.Common.{Bool, List, None, Option, Some, [], append_assoc, ap, arith, false, get_or, if◌then◌else◌, inl, length, map},
  std.proofs.Common.{max, min, nat_eq, refl, subst, suc, sym, true, zero, ℕ, ◌%◌, ◌++◌, ◌+◌, ◌-◌, ◌<◌, ◌∙◌},
  std.proofs.{Common.{◌∷◌, ◌≡◌, ◌≤◌}, lemmas.{Bool.Decides.nat_tests, List.{Elements.filter_map-append, append-nil}}},
  std.specs.{List.{cons_option, filter_map}, Prelude.Contains},
}
use Rattle.lapdm_window.specs.declared.Notice.TheVariants as N
use Rattle.lapdm_window.specs.declared.State.TheVariants as S
use Rattle.lapdm_window.specs.segmenting.declared.joiner.Joined.TheVariants as J

-- ## Keeping: Sending and receiving frames preserves the invariant of both directions between two endpoints.

-- both directions between the endpoints x and y satisfy the invariant; the frame contents `out` are in transit from x; of those in transit
-- from y, `comes` may still bring segments to x, and `hears` may still bring acknowledgements to x
pub record BothHold (x y : EndpointState) (out comes hears : List Content) : Type 0 where
  pub forward : IsDirection (segments_of_all_messages x) x.acked_segments x.sent_segments y.accepted_segments out hears
  pub backward : IsDirection (segments_of_all_messages y) y.acked_segments y.sent_segments x.accepted_segments comes out

-- a relation between an endpoint, its peer, and the frame contents in transit from each of them
abbrev pub Way : Type 1
Way = EndpointState → EndpointState → List Content → List Content → Type 0

abbrev pub Both : Way
Both x y out comes = BothHold x y out comes comes

-- a frame with content c has reached an endpoint with V(R) = n, which has not evaluated its N(R) yet, so c may still bring a segment and an
-- acknowledgement
abbrev pub Arriving : Content → ℕ → Way
Arriving c n x y out comes = (vr x ≡ n) × BothHold x y out (c ∷ comes) (c ∷ comes)

-- an endpoint with V(R) = n has evaluated the N(R) of a received frame with content c, which may still bring a segment
abbrev pub Counted : Content → ℕ → Way
Counted c n x y out comes = (vr x ≡ n) × BothHold x y out (c ∷ comes) comes

-- the endpoint x may send this content in its present state
abbrev pub MaySend : EndpointState → Content → Type 0
MaySend x c = CarriesIn (segments_of_all_messages x) x.sent_segments c × CountsIn (length x.accepted_segments) c

may-plain : (x : EndpointState) (c : Content) → IsPlain c → MaySend x c
may-plain x c h = grind arith

pub waiting : (x : EndpointState) → HasWindowOfOne x → x.sent_segments ≡ x.acked_segments + 1 →
    IsSegment (segments_of_all_messages x) x.sent_segments (x.acked_segments % 8) (first_unacked_segment x)
waiting x e one = grind arith

module _ {x y : EndpointState} {out comes hears : List Content} where
  pub sends : (cs : List Content) → AllOf (MaySend x) cs → BothHold x y out comes hears → BothHold x y (out ++ cs) comes hears
  sends cs may h = record {
    forward = segments_out cs (of-as _ _ (λ c m. m.0) cs may) h.forward;
    backward = numbers_out cs (of-as _ _ (λ c m. m.1) cs may) h.backward;
  }

  pub sends_plain : (cs : List Content) → AllOf IsPlain cs → BothHold x y out comes hears → BothHold x y (out ++ cs) comes hears
  sends_plain cs plain h = sends cs (of-as IsPlain _ (may-plain x) cs plain) h

  pub moved : (s : State) (k : Message) (b : Bool) (r : ℕ) → BothHold x y out comes hears →
      BothHold (record x { state = s; sabm_info = k; rejecting = b; retries = r }) y out comes hears
  moved s k b r h = grind arith

pub gone : (o : Option Content) {x y : EndpointState} {out comes : List Content} →
    BothHold x y out (cons_option o comes) (cons_option o comes) → BothHold x y out comes comes
gone None h = h
gone (Some c) h = record { forward = number_gone h.forward; backward = segment_gone h.backward }

-- ## Notified: What the calls and notices of an endpoint reveal about its state, and which notices it can report next, whatever frames
-- arrive.

-- the stage of a link: 0 not yet open, 1 open, 2 closing, 3 closed
abbrev pub stage_of : State → ℕ
stage_of S.Open = 1
stage_of S.Closing = 2
stage_of S.Closed = 3
stage_of other = 0

-- what is known about an endpoint: the stage of its link, the messages that it was asked to send, the messages that its accepted segments
-- complete, and how many of its messages are acknowledged
pub record Known : Type 0 where
  pub stage : ℕ
  pub messages : List Message
  pub ended : List (Option Message)
  pub acked : ℕ

abbrev pub known : EndpointState → Known
known x = record {
  stage = stage_of x.state;
  messages = x.messages;
  ended = messages_ending_in_segments [] x.accepted_segments;
  acked = acked_message_count x;
}

abbrev pub nothing : Known
nothing = record { stage = 0; messages = []; ended = []; acked = 0 }

-- what is known about an endpoint after it gets this call, if there is a call
abbrev pub asked : Option Call → Known → Known
asked (Some (Sends t)) m = record m { messages = m.messages ++ t ∷ [] }
asked (Some Closes) m = record m { stage = max 2 m.stage }
asked call m = m

-- an endpoint about which m is known can report this notice next
abbrev pub MayNotify : Option Notice → Known → Type 0
MayNotify None m = Unit {0}
MayNotify (Some (N.Unit t)) m = Unit {0}
MayNotify (Some (N.Opened info)) m = m.stage ≡ 0
MayNotify (Some (N.Closed reason)) m = m.stage ≤ 2
MayNotify (Some (N.Acked n)) m = (m.stage ≡ 1) × (n ≡ capped_at_64_bits (m.acked + 1)) × (m.acked + 1 ≤ length m.messages)
MayNotify (Some other) m = m.stage ≡ 1

abbrev pub notified : Option Notice → Known → Known
notified (Some (N.Opened info)) m = record m { stage = 1 }
notified (Some (N.Closed reason)) m = record m { stage = 3 }
notified (Some (N.Acked n)) m = record m { acked = m.acked + 1 }
notified (Some (N.Got t)) m = record m { ended = m.ended ++ Some t ∷ [] }
notified (Some N.Oversize) m = record m { ended = m.ended ++ None ∷ [] }
notified other m = m

-- what a notice reports about the end of a message: the complete message, or `None` if the message is oversize; any other notice reports no
-- end
abbrev pub ending_in : Notice → Option (Option Message)
ending_in (N.Got m) = Some (Some m)
ending_in N.Oversize = Some None
ending_in other = None

-- while a link goes from stage p to stage q, its endpoint can report o establishments and c closings
abbrev pub StagesAllow : ℕ → ℕ → ℕ → ℕ → Type 0
StagesAllow p o c q = (o + min 1 p ≤ 1) × (c + min 1 (p - 2) ≤ 1) × (q ≡ 1 → p + o ≡ 1)

-- if m is known about an endpoint, then k is known about it after the calls cs and the notices ns
abbrev LeadsTo : Known → List Call → List Notice → Known → Type 0
LeadsTo m cs ns k = (m.messages ++ filter_map message_sent_by_call cs ≡ k.messages) × (m.ended ++ filter_map ending_in ns ≡ k.ended)
    × (length (filter_map acked_number_in_notice ns) + m.acked ≡ k.acked)
    × StagesAllow m.stage (length (filter_map establishment_info_in_notice ns)) (length (filter_map close_notice_or_none ns)) k.stage

leads-asked : (c : Option Call) (m k : Known) (cs : List Call) (ns : List Notice) → LeadsTo (asked c m) cs ns k →
    LeadsTo m (cons_option c cs) ns k
leads-asked (Some (Sends t)) m k cs ns h = rw append_assoc at h
leads-asked (Some Closes) m k cs ns h = (h.0, h.1, h.2, (omega arith, omega arith, λ e. omega (arith, h.3.2 e)))
leads-asked call m k cs ns h = h

leads-notified : (n : Option Notice) (m k : Known) (cs : List Call) (ns : List Notice) → MayNotify n m →
    LeadsTo (notified n m) cs ns k → LeadsTo m cs (cons_option n ns) k
leads-notified (Some (N.Opened info)) m k cs ns may h = grind arith
leads-notified (Some (N.Closed reason)) m k cs ns may h = grind arith
leads-notified (Some (N.Acked n)) m k cs ns may h = (h.0, h.1, omega arith, h.3)
leads-notified (Some (N.Got t)) m k cs ns may h = rw append_assoc at h
leads-notified (Some N.Oversize) m k cs ns may h = rw append_assoc at h
leads-notified other m k cs ns may h = h

-- in this module, each element of a list stands for a call, a notice or neither, and `RunsTo m xs k` says that k is known after the list xs
-- if m is known before it
module _ {A : Type 0} (call : A → Option Call) (notice : A → Option Notice) where
  abbrev pub RunsTo : Known → List A → Known → Type 0
  RunsTo m [] k = k ≡ m
  RunsTo m (x ∷ xs) k = (let j = asked (call x) m in MayNotify (notice x) j × RunsTo (notified (notice x) j) xs k)

  pub goes-append : (xs ys : List A) (m j k : Known) → RunsTo m xs j → RunsTo j ys k → RunsTo m (xs ++ ys) k
  goes-append [] ys m j k h g = rw h at g
  goes-append (x ∷ xs) ys m j k h g = (h.0, goes-append xs ys _ j k h.1 g)

  goes-split : (xs ys : List A) (m k : Known) → RunsTo m (xs ++ ys) k → (j : Known) × RunsTo m xs j × RunsTo j ys k
  goes-split [] ys m k h = (m, refl, h)
  goes-split (x ∷ xs) ys m k h = let g = goes-split xs ys _ k h.1 in (g.0, (h.0, g.1), g.2)

  leads : (xs : List A) (m k : Known) → RunsTo m xs k → LeadsTo m (filter_map call xs) (filter_map notice xs) k
  leads [] m k h = rw h (append-nil _, append-nil _, omega arith, (omega arith, omega arith, λ e. omega arith))
  leads (x ∷ xs) m k h = leads-asked (call x) m k (filter_map call xs) (filter_map notice (x ∷ xs))
      (leads-notified _ _ k (filter_map call xs) _ h.0 (leads xs _ k h.1))

  before_open : (xs : List A) (m k : Known) → RunsTo m xs k → k.stage ≡ 1 → (y : A) → Contains xs y →
      (j : Known) × ((notified (notice y) (asked (call y) j)).stage ≤ 1)
  before_open [] m k h now y c = absurd (omega (arith, c.1))
  before_open (x ∷ xs) m k h now y (zero, low, is) = (m, rw (← is) (omega (arith, (leads xs _ k h.1).3.2 now)))
  before_open (x ∷ xs) m k h now y (suc i, low, is) = before_open xs _ k h.1 now y (i, omega (arith, low), is)

-- k is known after a list of notices if m is known before it, and each of these notices can be reported at its place
abbrev pub Notifies : Known → List Notice → Known → Type 0
Notifies = RunsTo (λ n. None) (λ n. Some n)

module _ (r : Role) (s : Sapi) where
  -- k is known after a list of log lines if m is known before it, and each notice among them can be reported at its place
  abbrev pub Runs : Known → List LogLine → Known → Type 0
  Runs = RunsTo (call_in_line r s) (notice_in_line r s)

  pub runs-notified : (ns : List Notice) (m k : Known) → Notifies m ns k → Runs m (map (Notified r s) ns) k
  runs-notified [] m k h = h
  runs-notified (n ∷ ns) m k h = rw (is_end-self r s) (h.0, runs-notified ns _ k h.1)

  pub runs-else : (r' : Role) (s' : Sapi) → is_end r s r' s' ≡ false → (cs : List Call) (ns : List Notice) (m : Known) →
      Runs m (said r' s' cs ns) m
  runs-else r' s' e [] [] m = refl
  runs-else r' s' e [] (n ∷ ns) m = rw e (tt, runs-else r' s' e [] ns m)
  runs-else r' s' e (c ∷ cs) ns m = rw e (tt, runs-else r' s' e cs ns m)

  -- m is what the log lines ls reveal about the endpoint
  pub record IsNotified (ls : List LogLine) (m : Known) : Type 0 where
    pub messages : sent_messages r s ls ≡ m.messages
    pub got : filter_map ending_in (notices_in_log r s ls) ≡ m.ended
    pub acked : length (acked_message_numbers r s ls) ≡ m.acked
    pub staged : StagesAllow 0 (length (establishment_infos r s ls)) (length (close_notices r s ls)) m.stage

  module _ (ls : List LogLine) (m : Known) (run : Runs nothing ls m) where
    pub is_notified : IsNotified ls m
    is_notified = let g = leads _ _ ls _ m run in
        record { messages = g.0; got = g.1; acked = omega (arith, g.2); staged = g.3 }

    pub at_place : (before : List LogLine) (n : Notice) → OccursAfter before (Notified r s n) ls →
        (j : Known) × Runs nothing before j × MayNotify (Some n) j
    at_place before n place =
        let g = goes-split _ _ _ (Notified r s n ∷ place.0) nothing m (rw place.1 run) in
        (g.0, g.1, rw (is_end-self r s) at g.2.0)

    pub none_beyond : m.stage ≡ 1 → (l : LogLine) → Contains ls l →
        (j : Known) × ((notified (notice_in_line r s l) (asked (call_in_line r s l) j)).stage ≤ 1)
    none_beyond = before_open _ _ ls _ m run

-- ## Notifying: Whatever frame arrives, each rule of state Open reports only notices that are possible, sends only frames that the endpoint
-- may send, and preserves the invariant of both directions.

-- if the content is an I frame, it carries one of the segments ps
abbrev pub CarriesSegmentOf : List Segment → Content → Type 0
CarriesSegmentOf ps (I ns nr p more info) = (i : ℕ) × (i < length ps) × (get_or ps i ([], false) ≡ (info, more))
CarriesSegmentOf ps (Rr nr pf) = Unit {0}
CarriesSegmentOf ps (Rej nr pf) = Unit {0}
CarriesSegmentOf ps other = ⊥

abbrev pub IsNoUnitOrOpening : Notice → Type 0
IsNoUnitOrOpening n = (ui_message_in_notice n ≡ None) × (establishment_info_in_notice n ≡ None)

abbrev pub without_window : EndpointState → EndpointState
without_window x = record x { acked_segments = 0; sent_segments = 0; accepted_segments = []; rejecting = false; retries = 0 }

-- what holds for a step by the window rules of state Open: only the window of endpoint x changes, the frames and notices are possible, and
-- the relation `From` before the step implies the relation `To` after it
pub record InOpen (From To : Way) (x : EndpointState) (o : Outcome) : Type 0 where
  pub others_same : without_window o.new_state ≡ without_window x
  pub frames : AllFrames (CarriesSegmentOf (segments_of_all_messages x)) x.sapi o.frames
  pub notifies : Notifies (known x) o.notices (known o.new_state)
  pub of_open : AllOf IsNoUnitOrOpening o.notices
  pub window_of_one : HasWindowOfOne o.new_state
  pub keeps : (y : EndpointState) (out comes : List Content) → From x y out comes → To o.new_state y (out ++ contents o.frames) comes

abbrev Stays : Way → Way → (EndpointState → Outcome) → Type 0
Stays From To rule = (x : EndpointState) → x.state ≡ Open → HasWindowOfOne x → InOpen From To x (rule x)

in-then : {From Mid To : Way} {first rule : EndpointState → Outcome} → Stays From Mid first → Stays Mid To rule →
    Stays From To (λ x. first x then rule)
in-then {From} {Mid} {To} {first} {rule} stays_first no_effect x is_now e =
    let o = first x in
    let h = stays_first x is_now e in
    let p = rule _ in
    let g = no_effect o.new_state (ap (λ z. z.state) h.others_same ∙ is_now) h.window_of_one in
    record {
      others_same = g.others_same ∙ h.others_same;
      frames = frames-append _ _ _ _ h.frames
          (subst (λ z. AllFrames (CarriesSegmentOf (segments_of_all_messages z)) z.sapi p.frames) h.others_same g.frames);
      notifies = goes-append (λ n. None) (λ n. Some n) o.notices p.notices (known x) (known o.new_state) (known p.new_state) h.notifies
          g.notifies;
      of_open = of-append IsNoUnitOrOpening o.notices p.notices h.of_open g.of_open;
      window_of_one = g.window_of_one;
      keeps = λ y out comes k. rw (filter_map-append, ← append_assoc) (g.keeps y _ _ (h.keeps y out _ k));
    }

in-if : {From To : Way} {x : EndpointState} {o p : Outcome} (b : Bool) → (b ≡ true → InOpen From To x o) → InOpen From To x p →
    InOpen From To x (if b then o else p)
in-if true h k = h refl
in-if false h k = k

-- the endpoint may send this content in its present state, and the content has sequence numbers
abbrev Numbered : EndpointState → Content → Type 0
Numbered x c = MaySend x c × (¬ IsPlain c)

Numbered-carries_segment : (x : EndpointState) (c : Content) → Numbered x c → CarriesSegmentOf (segments_of_all_messages x) c
Numbered-carries_segment x c h = grind arith

step_of_rule : {From To : Way} (x : EndpointState) (a s : ℕ) (ps : List Segment) (b : Bool) (r : ℕ) (fs : List Frame)
    (ns : List Notice) → (let z =
    record x { acked_segments = a; sent_segments = s; accepted_segments = ps; rejecting = b; retries = r } in
    HasWindowOfOne z →
    AllFrames (Numbered z) x.sapi fs → Notifies (known x) ns (known z) × AllOf IsNoUnitOrOpening ns →
    ((y : EndpointState) (out comes : List Content) → AllOf (MaySend z) (contents fs) → From x y out comes →
    To z y (out ++ contents fs) comes) → InOpen From To x (record { new_state = z; frames = fs; notices = ns }))
step_of_rule x a s ps b r fs ns end frames notified keeps =
    let z = record x { acked_segments = a; sent_segments = s; accepted_segments = ps; rejecting = b; retries = r } in
    record {
      others_same = refl;
      frames = frames-as (Numbered z) _ (Numbered-carries_segment z) _ fs frames;
      notifies = notified.0;
      of_open = notified.1;
      window_of_one = end;
      keeps = λ y out comes h. keeps y out _ (frames-say (Numbered z) (MaySend z) (λ c m. m.0) x.sapi fs frames) h;
    }

InOpen-plain : (x : EndpointState) (b : Bool) (r : ℕ) (fs : List Frame) → HasWindowOfOne x → AllFrames (Numbered x) x.sapi fs →
    InOpen Both Both x (record { new_state = record x { rejecting = b; retries = r }; frames = fs; notices = [] })
InOpen-plain x b r fs e h = step_of_rule x _ _ _ b r fs [] (grind arith) h (refl, tt)
    (λ y out comes may k. sends (contents fs) may (moved x.state x.sabm_info b r k))

in-no_effect : Stays Both Both no_effect
in-no_effect x is_now e = InOpen-plain x _ _ [] e tt

in-sends_rr : (f : Bool) → Stays Both Both (sends_rr f)
in-sends_rr f x is_now e = InOpen-plain x _ _ _ e (inl refl, ((tt, refl), λ p. p), tt)

in-rejects_segment : (p : Bool) → Stays Both Both (rejects_segment p)
in-rejects_segment p x is_now e = in-if (reject_is_due p x)
    (λ due. InOpen-plain x true x.retries (response_frame x (Rej (vr x) p) ∷ []) e (inl refl, ((tt, refl), λ p. p), tt))
    (in-no_effect x is_now e)

in-sends_segment : (x : EndpointState) → HasWindowOfOne x → may_send_next_segment x ≡ true → InOpen Both Both x (sends_segment x)
in-sends_segment x e has =
    let none : x.sent_segments ≡ x.acked_segments = grind (arith, nat_tests) in
    let left : x.sent_segments < length (segments_of_all_messages x) = grind (arith, nat_tests) in
    let window : HasWindowOfOne (with_segment_sent x) =
    record { messages = e.messages; sent_segments = omega arith; acked_at_most_sent = omega arith; window = omega arith } in
    step_of_rule x _ _ _ _ 0 _ [] window (inl refl, ((waiting (with_segment_sent x) window (omega arith), refl), λ p. p), tt) (refl, tt)
    (λ y out comes may h. sends _ may (record { forward = next_waits none left h.forward; backward = h.backward }))

pub in-sends_next_segment : Stays Both Both sends_next_segment
in-sends_next_segment x is_now e = in-if (may_send_next_segment x) (in-sends_segment x e) (in-no_effect x is_now e)

awaits_ack-one_sent : (x : EndpointState) → HasWindowOfOne x → awaits_ack x ≡ true → x.sent_segments ≡ x.acked_segments + 1
awaits_ack-one_sent x e w = grind arith

pub in-repeats : (p : Bool) (r : ℕ) (x : EndpointState) → HasWindowOfOne x → awaits_ack x ≡ true →
    InOpen Both Both x (sends_frame (outstanding_frame p x) (record x { retries = r }))
in-repeats p r x e w = InOpen-plain x _ r _ e (inl refl, ((waiting x e (awaits_ack-one_sent x e w), refl), λ p. p), tt)

in-resends_outstanding_segment : Stays Both Both resends_outstanding_segment
in-resends_outstanding_segment x is_now e = in-if (awaits_ack x) (in-repeats _ _ x e) (in-sends_next_segment x is_now e)

in-answers_poll : (poll : Bool) → Stays Both Both (answers_poll poll)
in-answers_poll poll x is_now e = in-if poll (λ p. in-sends_rr true x is_now e) (in-no_effect x is_now e)

in-answers_segment : (p : Bool) → Stays Both Both (answers_segment p)
in-answers_segment true = in-then (in-sends_rr _) in-sends_next_segment
in-answers_segment false = λ x is_now e. in-if (may_send_next_segment x) (in-sends_segment x e) (in-sends_rr _ x is_now e)

one_more : (ps : List Segment) (p : Segment) →
    messages_ending_in_segments [] (ps ++ p ∷ []) ≡ messages_ending_in_segments [] ps ++
    (if p.1 then [] else message_if_fits (partial_message ps ++ p.0) ∷ [])
one_more ps (octets, true) = messages_ending_in_segments-more [] ps _ ∙ sym (append-nil _)
one_more ps (octets, false) = messages_ending_in_segments-last [] ps _

notifies-got : (k : Known) (over more : Bool) (m : Message) (es : List (Option Message)) → k.stage ≡ 1 →
    es ≡ k.ended ++ (if more then [] else (if over then None else Some m) ∷ []) →
    (let ns = segment_notices (if over then J.Oversize else (if more then J.More else J.Whole)) more m in
    Notifies k ns (record k { ended = es }) × AllOf IsNoUnitOrOpening ns)
notifies-got k over more m es now e = grind (arith, append-nil)

-- in this module, a frame with content c and N(R) = nr arrives at an endpoint with V(R) = n
module _ (c : Content) (nr n : ℕ) (counts_in : (k : ℕ) → CountsIn k c → nr ≡ k % 8) where
  -- in this module, the relation `Counted`, which holds when the endpoint has evaluated the N(R) of c, implies the relation `To`
  module _ {To : Way} (pass : (x y : EndpointState) (out comes : List Content) → Counted c n x y out comes → To x y out comes) where
    module _ (x : EndpointState) (is_now : x.state ≡ Open) (e : HasWindowOfOne x) (one : x.sent_segments ≡ x.acked_segments + 1)
        (same : nr ≡ x.sent_segments % 8)
      where
        after_ack : (y : EndpointState) (out comes : List Content) → Arriving c n x y out comes
            → To (with_segment_acked x) y (out ++ []) comes
        after_ack y out comes h = pass (with_segment_acked x) y (out ++ []) comes
            (h.0, sends [] tt (record { forward = number_in c nr counts_in (omega arith) same h.1.forward; backward = h.1.backward }))

        reports-acked : (more : Bool) → (first_unacked_segment x).1 ≡ more → InOpen (Arriving c n) To x (marks_segment_acked more x)
        reports-acked true is = step_of_rule x _ _ _ _ 0 [] [] (HasWindowOfOne-acked x e) tt
            (cc (acked_message_count-more x one (omega (arith, e.sent_segments)) is), tt) (λ y out comes may. after_ack y out comes)
        reports-acked false is =
            let last = acked_message_count-last x one (omega (arith, e.sent_segments)) is in
            step_of_rule x x.sent_segments x.sent_segments x.accepted_segments x.rejecting 0 []
            (Acked (acked_message_number x) ∷ [])
            (HasWindowOfOne-acked x e) tt (
              (
                (ap stage_of is_now, ap capped_at_64_bits last, omega (arith, last, acked_message_count-most (with_segment_acked x))),
                cc last,
              ),
              ((refl, refl), tt),
            ) (λ y out comes may. after_ack y out comes)

    in-evaluates_nr : Stays (Arriving c n) To (evaluates_nr nr)
    in-evaluates_nr x is_now e = in-if (nr_acknowledges_segment nr x)
        (λ acks. reports-acked x is_now e (awaits_ack-one_sent x e (grind (arith, nat_tests))) (grind (arith, nat_tests)) _ refl)
        (step_of_rule x _ _ _ _ _ [] [] e tt (refl, tt) (λ y out comes may h.
        pass x y _ _ (h.0, sends [] tt (record { forward = number_gone h.1.forward; backward = h.1.backward }))))

  evaluates_arriving_nr : Stays (Arriving c n) Both (evaluates_nr nr)
  evaluates_arriving_nr = in-evaluates_nr (λ x y out comes h. record { forward = h.1.forward; backward = segment_gone h.1.backward })

  in-accepts_segment : (p : Segment) → ((y : EndpointState) (k : ℕ) → CarriesIn (segments_of_all_messages y) k c →
      IsSegment (segments_of_all_messages y) k n p) → Stays (Counted c n) Both (accepts_segment p)
  in-accepts_segment p carries x is_now e =
      let m = partial_message x.accepted_segments ++ p.0 in
      step_of_rule x _ _ _ _ _ [] _ (grind arith) tt
      (notifies-got _ _ p.1 m _ (ap stage_of is_now) (one_more x.accepted_segments p))
      (λ y out comes may h. sends [] tt (record { forward = h.1.forward; backward = segment_in c n p (carries y) (sym h.0) h.1.backward }))

  pub in-takes_rr : (poll : Bool) → Stays (Arriving c n) Both (takes_rr nr poll)
  in-takes_rr poll = in-then (in-then evaluates_arriving_nr (in-answers_poll _)) in-sends_next_segment

  pub in-takes_rej : (poll : Bool) → Stays (Arriving c n) Both (takes_rej nr poll)
  in-takes_rej poll = in-then (in-then evaluates_arriving_nr (in-answers_poll _)) in-resends_outstanding_segment

pub in-takes_i_frame : (c : Content) (nr ns : ℕ) (p : Bool) (segment : Segment) → ((k : ℕ) → CountsIn k c → nr ≡ k % 8) →
    ((y : EndpointState) (k : ℕ) → CarriesIn (segments_of_all_messages y) k c →
    IsSegment (segments_of_all_messages y) k ns segment) →
    (x : EndpointState) → x.state ≡ Open → HasWindowOfOne x → InOpen (Arriving c (vr x)) Both x (takes_i_frame ns nr p segment x)
in-takes_i_frame c nr ns p segment counts_in carries x is_now e = in-if (nat_eq ns (vr x))
    (λ next. (let same : ns ≡ vr x = grind (arith, nat_tests) in
    in-then (in-then (in-evaluates_nr c nr _ counts_in (λ x y out comes h. h))
    (in-accepts_segment c nr _ counts_in _ (rw same at carries))) (in-answers_segment p) x is_now e))
    (in-then (in-then (evaluates_arriving_nr c nr _ counts_in) (in-rejects_segment p)) in-sends_next_segment x is_now e)
