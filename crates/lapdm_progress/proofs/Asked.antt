-- The frames of a link of SAPI 0 are at most what layer 3's accepted calls ask for.
use Rattle.lapdm_progress.proofs.Alone.{zero_taken}
use Rattle.lapdm_delivery.proofs.Lockstep.{not_afresh}
use Rattle.lapdm_progress.specs.Whole.{frame_of, link_at, frames_of_call, frames_of_calls, asked_at, SendsWhatIsAsked}
use Rattle.std.proofs.lemmas.Bool.{cases_Bool}
use Rattle.std.specs.Prelude.{◌≡◌, ℕ, zero, suc, ◌+◌, ◌≤◌, Bool, true, false, not, if◌then◌else◌, length, All}
use Rattle.std.specs.Prelude.{List, [], ◌∷◌, Option, Some, None}
use Rattle.std.proofs.Common.{arith, refl, sym, ap, ◌∙◌, subst, inl, inr}
use Rattle.std.proofs.lemmas.List.Elements.{All-head, All-tail}
use Rattle.std.proofs.lemmas.Bool.Decides.{nat_tests}
use Rattle.std.proofs.lemmas.List.{length-append}
use Rattle.lapdm_frame.specs.declared.Channel.{Channel}
use Rattle.lapdm_frame.specs.Content.{Frame}
use Rattle.lapdm_frame.specs.Layout.{n201}
use Rattle.lapdm_end.specs.lapdm_window.segmenting.Segments.{Message, Segment, number_of_segments}
use Rattle.lapdm_end.specs.lapdm_window.declared.Sapi.{Sapi}
use Rattle.lapdm_end.specs.lapdm_window.declared.Sapi.TheVariants.{Zero, Three}
use Rattle.lapdm_end.specs.lapdm_window.declared.State.TheVariants.{Idle}
use Rattle.lapdm_end.specs.lapdm_window.declared.Refused.{Refused}
use Rattle.lapdm_end.specs.lapdm_window.Ends.{Role, Mobile, Network, EndpointState, Outcome, ◌then◌, segments_of_all_messages}
use Rattle.lapdm_end.specs.lapdm_window.Ends.{awaits_answer, initial_endpoint}
use Rattle.lapdm_end.specs.lapdm_window.Rules.{sends_next_segment, evaluates_nr, accepts_segment, answers_segment, rejects_segment}
use Rattle.lapdm_end.specs.lapdm_window.Rules.{answers_poll, resends_outstanding_segment}
use Rattle.lapdm_end.specs.lapdm_window.Tables.{Reply, TakesIFrame, TakesRr, TakesRej, outcome_of_reply}
use Rattle.lapdm_end.specs.lapdm_window.Calls.{Call, Opens, OpensWithoutInfo, Sends, Closes, refusal_of, call_outcome, with_queued_message}
use Rattle.lapdm_end.specs.lapdm_window.Calls.{is_idle, t200_expiry}
use Rattle.lapdm_link.proofs.lapdm_window.Lemmas.{segments_of_all_messages-push}
use Rattle.lapdm_link.proofs.lapdm_window.segmenting.Lemmas.{length-segments}
use Rattle.lapdm_datalink.specs.Links.{LinkState, link_reply, with_outcome, ignores, after_slot, slot_outcome, received_outcome}
use Rattle.lapdm_datalink.specs.DataLinks.{DataLinkState, endpoint_sapi}
use Rattle.lapdm_datalink.specs.declared.data_links.Establishment.TheVariants.{Contention}
use Rattle.lapdm_delivery.proofs.LockstepHeard.{zero-regular}
use Rattle.lapdm_progress.specs.Progress.{one_if}
use Rattle.lapdm_delivery.specs.Lockstep.{after_call_unless, Run, refusal, after_call_of, after_calls, arriving_at, taken_at}
use Rattle.lapdm_delivery.specs.Lockstep.{ready_at, IsCallOf, HasCalls}
use Rattle.lapdm_datalink.specs.Slots.{IsStepOfEndpoint}
use Rattle.lapdm_datalink.proofs.Answering.{step_of_endpoint}
use Rattle.lapdm_datalink.proofs.First.{sapi_0_goes_first}
use Rattle.lapdm_progress.proofs.Steps.{outcome_endpoint}
use Rattle.lapdm_progress.proofs.Slots.{one_most}
use Rattle.lapdm_progress.specs.Channels as C

abbrev segments_in : EndpointState → ℕ
segments_in e = length (segments_of_all_messages e)

-- whether the mobile has sent its SABM, as a number
abbrev opened : Role → EndpointState → ℕ
opened Mobile e = one_if (not (is_idle e.state))
opened Network e = 0

-- ---- the rules of the window send no segment that was not asked for

record Stays (x y : EndpointState) : Type 0 where
  role : y.role ≡ x.role
  sapi : y.sapi ≡ x.sapi
  channel : y.channel ≡ x.channel
  messages : y.messages ≡ x.messages
  sent : x.sent_segments ≤ segments_in x → y.sent_segments ≤ segments_in y

stays-trans : {x y z : EndpointState} → Stays x y → Stays y z → Stays x z
stays-trans h g = record {
  role = g.role ∙ h.role;
  sapi = g.sapi ∙ h.sapi;
  channel = g.channel ∙ h.channel;
  messages = g.messages ∙ h.messages;
  sent = λ le. g.sent (h.sent le);
}

abbrev IsStaying : (EndpointState → Outcome) → Type 0
IsStaying rule = (x : EndpointState) → Stays x (rule x).new_state

stays-next : IsStaying sends_next_segment
stays-next x = grind (arith, nat_tests)

stays-nr : (nr : ℕ) → IsStaying (evaluates_nr nr)
stays-nr nr x = grind arith

stays-accepts : (segment : Segment) → IsStaying (accepts_segment segment)
stays-accepts segment x = grind arith

stays-if : (x : EndpointState) (b : Bool) (o p : Outcome) → Stays x o.new_state → Stays x p.new_state →
    Stays x (if b then o else p).new_state
stays-if x true o p h g = h
stays-if x false o p h g = g

stays-answers : (p : Bool) → IsStaying (answers_segment p)
stays-answers true x = stays-next x
stays-answers false x = grind (arith, nat_tests)

stays-rejects : (p : Bool) → IsStaying (rejects_segment p)
stays-rejects p x = grind arith

stays-poll : (p : Bool) → IsStaying (answers_poll p)
stays-poll p x = grind arith

stays-resends : IsStaying resends_outstanding_segment
stays-resends x = grind (arith, nat_tests)

stays-three : (nr : ℕ) (first second : EndpointState → Outcome) → IsStaying first → IsStaying second → (x : EndpointState) →
    Stays x (evaluates_nr nr x then first then second).new_state
stays-three nr first second f g x = stays-trans (stays-trans (stays-nr nr x) (f _)) (g _)

stays-reply : (r : Reply) → IsStaying (outcome_of_reply r)
stays-reply (TakesIFrame ns nr p segment) x =
    stays-if x _ _ _ (stays-three nr (accepts_segment segment) (answers_segment p) (stays-accepts segment) (stays-answers p) x)
    (stays-three nr (rejects_segment p) sends_next_segment (stays-rejects p) stays-next x)
stays-reply (TakesRr nr poll) x = stays-three nr (answers_poll poll) sends_next_segment (stays-poll poll) stays-next x
stays-reply (TakesRej nr poll) x = stays-three nr (answers_poll poll) resends_outstanding_segment (stays-poll poll) stays-resends x
stays-reply r x = grind arith

-- a mobile in Idle opens no link of SAPI 0 by a frame
idle-stays : (f : Frame) (l : LinkState) → l.endpoint.role ≡ Mobile → l.endpoint.sapi ≡ Zero → l.endpoint.state ≡ Idle →
    (received_outcome f l).new_state.state ≡ Idle
idle-stays f l role sapi idle = grind arith

opened-frame : (r : Role) (f : Frame) (l : LinkState) → l.endpoint.role ≡ r → l.endpoint.sapi ≡ Zero →
    opened r (received_outcome f l).new_state ≤ opened r l.endpoint
opened-frame Network f l role sapi = omega arith
opened-frame Mobile f l role sapi = elim (cases_Bool (is_idle l.endpoint.state)) [
  | inl e ↦ rw (idle-stays f l role sapi (is e), e) (omega arith)
  | inr e ↦ rw e (one_most (not (is_idle (received_outcome f l).new_state.state)))
]
  where
    is : is_idle l.endpoint.state ≡ true → l.endpoint.state ≡ Idle
    is h = grind arith

queued-opened : (m : Message) (x : EndpointState) (r : Role) → opened r (with_queued_message m x) ≡ opened r x
queued-opened m x role = grind arith

next-opened : (x : EndpointState) (r : Role) → opened r (sends_next_segment x).new_state ≤ opened r x
next-opened x role = grind arith

-- ---- what a link was asked for

record Asked (r : Role) (channel : Channel) (n : ℕ) (e : EndpointState) : Type 0 where
  role : e.role ≡ r
  sapi : e.sapi ≡ Zero
  channel_is : e.channel ≡ channel
  sent : e.sent_segments ≤ segments_in e
  asked : opened r e + segments_in e ≤ n

module _ (r : Role) (channel : Channel) where
  asked-stays : (n : ℕ) (x y : EndpointState) → Asked r channel n x → Stays x y → opened r y ≤ opened r x → Asked r channel n y
  asked-stays n x y h g less = record {
    role = g.role ∙ h.role;
    sapi = g.sapi ∙ h.sapi;
    channel_is = g.channel ∙ h.channel_is;
    sent = g.sent h.sent;
    asked = let same : segments_in y ≡ segments_in x = rw (g.channel, g.messages) refl in omega (arith, same, less, h.asked);
  }

  asked-frame : (n : ℕ) (f : Frame) (l : LinkState) → Asked r channel n l.endpoint →
      Asked r channel n (C.after_arriving (Some f) l).endpoint
  asked-frame n f l h = by (ignores f l)
    where
      new : Asked r channel n (with_outcome (received_outcome f l) l).endpoint
      new = rw (outcome_endpoint (received_outcome f l) l)
          (asked-stays n l.endpoint _ h (stays-reply (link_reply f l) l.endpoint)
          (opened-frame r f l h.role h.sapi))

      by : (b : Bool) → Asked r channel n (if b then l else with_outcome (received_outcome f l) l).endpoint
      by true = h
      by false = new

  asked-arrival : (n : ℕ) (a : Option Frame) (l : LinkState) → Asked r channel n l.endpoint →
      Asked r channel n (C.after_arriving a l).endpoint
  asked-arrival n None l h = h
  asked-arrival n (Some f) l h = asked-frame n f l h

  asked-expiry : (n : ℕ) (e : EndpointState) → awaits_answer e ≡ true → Asked r channel n e →
      Asked r channel n (t200_expiry e).new_state
  asked-expiry n e awaits h = asked-stays n e _ h (grind arith) (by r)
    where
      by : (r : Role) → opened r (t200_expiry e).new_state ≤ opened r e
      by Mobile = grind (arith, awaits)
      by Network = omega arith

  asked-slot : (n : ℕ) (l : LinkState) → Asked r channel n l.endpoint → Asked r channel n (slot_outcome l).link.endpoint
  asked-slot n l h = by (step_of_endpoint l)
    where
      by : IsStepOfEndpoint l (slot_outcome l) → Asked r channel n (slot_outcome l).link.endpoint
      by (inl k) = rw k.endpoint h
      by (inr (inl k)) = rw k.repeats h
      by (inr (inr k)) = rw k.expires (asked-expiry n l.endpoint k.awaits h)

  asked-more : (n k : ℕ) (e : EndpointState) → Asked r channel n e → Asked r channel (n + k) e
  asked-more n k e h = record {
    role = h.role;
    sapi = h.sapi;
    channel_is = h.channel_is;
    sent = h.sent;
    asked = omega (arith, h.asked);
  }

  opened-most : (e : EndpointState) → opened r e ≤ 1
  opened-most e = by r
    where
      by : (r : Role) → opened r e ≤ 1
      by Mobile = one_most (not (is_idle e.state))
      by Network = omega arith

  asked-call : (n : ℕ) (call : Call) (e : EndpointState) → IsCallOf Contention r (Zero, call) → refusal_of call e ≡ None →
      Asked r channel n e → Asked r channel (n + frames_of_call None channel (Zero, call)) (call_outcome call e).new_state
  asked-call n (Opens info) e may ok h = record {
    role = h.role;
    sapi = h.sapi;
    channel_is = h.channel_is;
    sent = h.sent;
    asked = omega (arith, h.asked, opened-most (call_outcome (Opens info) e).new_state);
  }
  asked-call n OpensWithoutInfo e may ok h = absurd cc
  asked-call n (Sends m) e may ok h =
      let x = with_queued_message m e in
      let more : segments_in x ≡ segments_in e + number_of_segments (n201 channel) m =
      rw (segments_of_all_messages-push e m, length-append, h.channel_is, length-segments) refl in
      asked-stays (n + number_of_segments (n201 channel) m) x _ (record {
        role = h.role;
        sapi = h.sapi;
        channel_is = h.channel_is;
        sent = omega (arith, h.sent, more);
        asked = omega (arith, h.asked, more, queued-opened m e r);
      }) (stays-next x) (next-opened x r)
  asked-call n Closes e may ok h = asked-more n 0 _ (asked-stays n e _ h (grind arith) (by r))
    where
      by : (r : Role) → opened r (call_outcome Closes e).new_state ≤ opened r e
      by Mobile = grind (arith, ok)
      by Network = omega arith
  asked-call n call e may ok h = absurd may.1

  asked-after : (n : ℕ) (x : Option Refused) (call : Call) (l : LinkState) → IsCallOf Contention r (Zero, call) →
      refusal_of call l.endpoint ≡ x → Asked r channel n l.endpoint →
      Asked r channel (n + frames_of_call x channel (Zero, call)) (after_call_unless x call l).endpoint
  asked-after n (Some why) call l may e h = asked-more n 0 l.endpoint h
  asked-after n None call l may e h =
      rw (not_afresh call l (zero-regular r call l may.0), outcome_endpoint (call_outcome call l.endpoint) l)
      (asked-call n call l.endpoint may e h)

  three-none : (x : Option Refused) (call : Call) → frames_of_call x channel (Three, call) ≡ 0
  three-none x call = grind arith

  asked-calls : (cs : List (Sapi × Call)) (n : ℕ) (d : DataLinkState) → All (IsCallOf Contention r) cs →
      Asked r channel n d.link0.endpoint →
      Asked r channel (n + frames_of_calls channel cs d) (after_calls cs d).link0.endpoint
  asked-calls [] n d may h = asked-more n 0 d.link0.endpoint h
  asked-calls ((Three, call) ∷ cs) n d may h =
      let x = refusal (Three, call) d in
      let rest = frames_of_calls channel cs (after_call_of (Three, call) d) in
      let none : n + (frames_of_call x channel (Three, call) + rest) ≡ n + rest = omega (arith, three-none x call) in
      rw none (asked-calls cs n (after_call_of (Three, call) d) (All-tail (IsCallOf Contention r) (Three, call) cs may) h)
  asked-calls ((Zero, call) ∷ cs) n d may h =
      let first = All-head (IsCallOf Contention r) (Zero, call) cs may in
      let x = refusal (Zero, call) d in
      let same : refusal_of call d.link0.endpoint ≡ x =
      ap (λ (l : LinkState). refusal_of call l.endpoint) (sym (not_afresh call d.link0 (zero-regular r call d.link0 first.0))) in
      let sum : n + (frames_of_call x channel (Zero, call) + frames_of_calls channel cs (after_call_of (Zero, call) d))
      ≡ n + frames_of_call x channel (Zero, call) + frames_of_calls channel cs (after_call_of (Zero, call) d) = omega arith in
      rw sum (asked-calls cs (n + frames_of_call x channel (Zero, call)) (after_call_of (Zero, call) d)
      (All-tail (IsCallOf Contention r) (Zero, call) cs may)
      (asked-after n x call d.link0 first same h))

-- ---- the run

module _ (r : Run) (kind : r.establishment ≡ Contention) (calls : HasCalls r) where
  zero_first : (role : Role) → (link_at r Zero 0 role).endpoint ≡ initial_endpoint role Zero r.channel
  zero_first role = ap (λ e. initial_endpoint role (endpoint_sapi e) r.channel) kind

  asked-start : (role : Role) → Asked role r.channel 0 (link_at r Zero 0 role).endpoint
  asked-start role = rw (zero_first role) (by role)
    where
      by : (role : Role) → Asked role r.channel 0 (initial_endpoint role Zero r.channel)
      by Mobile = record { role = refl; sapi = refl; channel_is = refl; sent = omega arith; asked = omega arith }
      by Network = record { role = refl; sapi = refl; channel_is = refl; sent = omega arith; asked = omega arith }

  asked-in : (n : ℕ) (role : Role) → Asked role r.channel (asked_at r n role) (link_at r Zero n role).endpoint
  asked-in zero role = asked-start role
  asked-in (suc n) role =
      let taken : Asked role r.channel (asked_at r n role) (taken_at r n role).link0.endpoint =
      rw (ap (λ (l : LinkState). l.endpoint) (zero_taken r kind calls n role))
      (asked-arrival role r.channel (asked_at r n role) (frame_of Zero (arriving_at r n role)) (link_at r Zero n role) (asked-in n role)) in
      rw (sapi_0_goes_first (ready_at r n role)).slot (asked-slot role r.channel (asked_at r (suc n) role)
      (after_slot (ready_at r n role).link0)
      (asked-calls role r.channel (r.part n role).calls (asked_at r n role) (taken_at r n role) (by_contention n role) taken))
    where
      by_contention : (n : ℕ) (role : Role) → All (IsCallOf Contention role) (r.part n role).calls
      by_contention n role = subst (λ e. All (IsCallOf e role) (r.part n role).calls) kind (calls n role)

pub sends_what_is_asked : (r : Run) → SendsWhatIsAsked r
sends_what_is_asked r kind calls n Mobile = let h = asked-in r kind calls n Mobile in omega (arith, h.sent, h.asked)
sends_what_is_asked r kind calls n Network = let h = asked-in r kind calls n Network in omega (arith, h.sent, h.asked)
