-- What a link does with an RR that is no poll, and with the same RR again.
use Rattle.std.proofs.Common.{◌≡◌, ◌∙◌, ap, sym, subst, refl, arith, ℕ, Bool, true, false, ◌||◌, if◌then◌else◌}
use Rattle.std.proofs.Common.{List, [], ◌∷◌, nat_eq, inl, inr, Some}
use Rattle.std.proofs.lemmas.Bool.{cases_Bool}
use Rattle.lapdm_frame.specs.Content.{Frame, Rr}
use Rattle.lapdm_end.specs.lapdm_window.Ends.{EndpointState, HasWindowOfOne, Outcome, sapi_number, vs, va}
use Rattle.lapdm_end.specs.lapdm_window.Tables.{outcome_of_reply, reply_to_frame}
use Rattle.lapdm_end.specs.lapdm_window.Rules.{may_send_next_segment, nr_acknowledges_segment, takes_rr, is_open}
use Rattle.lapdm_datalink.specs.Links.{LinkState, after_frame, after_received, for_frame, frame_notices, heard_with, ignores}
use Rattle.lapdm_datalink.specs.Links.{received_notices}
use Rattle.lapdm_datalink.specs.Links.{is_awaiting_kind, nr_as_taken, received_outcome, renewed_for, with_frame, with_frames, with_outcome}
use Rattle.lapdm_datalink.proofs.Lemmas.{endpoint_with_frames}
use Rattle.lapdm_datalink.specs.Slots.{ChangesNothing}
use Rattle.lapdm_repeats.specs.Repeats.{IsPlainRr, IsRr, HasSentWhatItMay}

-- the reply to an RR that acknowledges nothing
abbrev rr_outcome : (n : ℕ) (cr : Bool) (l : LinkState) → Outcome
rr_outcome n cr l =
    let rr : Frame = record { sapi = sapi_number l.endpoint.sapi; cr = cr; content = Rr n false } in
    outcome_of_reply (reply_to_frame rr l.endpoint) l.endpoint

rr_keeps_link : (n : ℕ) (cr : Bool) (l : LinkState) → HasSentWhatItMay l → nr_acknowledges_segment n l.endpoint ≡ false →
    with_outcome (rr_outcome n cr l) l ≡ l
rr_keeps_link n cr l sent none = grind (arith, sent, none)

rr_says_nothing : (n : ℕ) (cr : Bool) (l : LinkState) → nr_acknowledges_segment n l.endpoint ≡ false →
    (rr_outcome n cr l).notices ≡ []
rr_says_nothing n cr l none = grind (arith, none)

module _ (nr s : ℕ) (cr : Bool) (l : LinkState) where
  abbrev plain_rr : Frame
  plain_rr = record { sapi = s; cr = cr; content = Rr nr false }

  not_renewed : renewed_for plain_rr l ≡ l
  not_renewed = grind arith

  not_reopened : for_frame plain_rr l ≡ l
  not_reopened = grind arith

  none_acked : HasSentWhatItMay l → nr_acknowledges_segment (nr_as_taken nr l) l.endpoint ≡ false → ChangesNothing plain_rr l
  none_acked sent none = record {
    link = ap (λ (m : LinkState). record (after_frame plain_rr m) { heard = heard_with plain_rr m }) not_renewed
        ∙ ap (λ (m : LinkState). let x : LinkState = record m { heard = heard_with plain_rr l } in x)
        (ap (λ (m : LinkState). with_outcome (received_outcome plain_rr m) m) not_reopened
        ∙ rr_keeps_link (nr_as_taken nr l) cr l sent none);
    notices = ap (frame_notices plain_rr) not_renewed
        ∙ ap (λ (m : LinkState). (received_outcome plain_rr m).notices) not_reopened
        ∙ rr_says_nothing (nr_as_taken nr l) cr l none;
  }

-- an RR whose N(R), as the endpoint takes it, acknowledges nothing
none_acked_by : (nr : ℕ) (f : Frame) (l : LinkState) → IsPlainRr nr f → HasSentWhatItMay l →
    nr_acknowledges_segment (nr_as_taken nr l) l.endpoint ≡ false → ChangesNothing f l
none_acked_by nr f l rr sent none =
    subst (λ x. ChangesNothing x l) (λ i. record f { content = sym rr i }) (none_acked nr f.sapi f.cr l sent none)

taken_as_it_is : (nr : ℕ) (l : LinkState) → nr_acknowledges_segment nr l.endpoint ≡ false → nr_as_taken nr l ≡ nr
taken_as_it_is nr l none = grind (arith, none)

pub changes_nothing : (nr : ℕ) (f : Frame) (l : LinkState) → IsPlainRr nr f → HasSentWhatItMay l →
    nr_acknowledges_segment nr l.endpoint ≡ false → ChangesNothing f l
changes_nothing nr f l rr sent none =
    none_acked_by nr f l rr sent (ap (λ n. nr_acknowledges_segment n l.endpoint) (taken_as_it_is nr l none) ∙ none)

not_open : (nr : ℕ) (f : Frame) (l : LinkState) → IsPlainRr nr f → is_open l.endpoint.state ≡ false → ChangesNothing f l
not_open nr f l rr is_now = grind (arith, rr, is_now)

heard_of : (nr : ℕ) (f : Frame) (l : LinkState) → IsPlainRr nr f → heard_with f l ≡ (l.heard || is_open l.endpoint.state)
heard_of nr f l rr = grind (arith, rr)

frames_sent_before : (fs : List Frame) (l : LinkState) → (with_frames fs l).is_sent ≡ true → l.is_sent ≡ true
frames_sent_before [] l h = h
frames_sent_before (f ∷ fs) l h = one (is_awaiting_kind f.content) (frames_sent_before fs (with_frame f l) h)
  where
    one : (b : Bool) → (if b then record l { is_sent = false; clock = 0 } else record l { answer = Some f }).is_sent ≡ true →
        l.is_sent ≡ true
    one true h = absurd cc
    one false h = h

taken_if_sent : (nr : ℕ) (l : LinkState) → l.is_sent ≡ true → nr_as_taken nr l ≡ nr
taken_if_sent nr l h = rw h refl

taken_as_va : (nr : ℕ) (l : LinkState) → l.is_sent ≡ false → nat_eq nr (vs l.endpoint) ≡ true →
    nr_as_taken nr l ≡ va l.endpoint
taken_as_va nr l h e = rw (h, e) refl

-- ## An endpoint after an RR

abbrev after_rr : ℕ → EndpointState → EndpointState
after_rr nr e = if is_open e.state then (takes_rr nr false e).new_state else e

state_after : (nr : ℕ) (e : EndpointState) → (after_rr nr e).state ≡ e.state
state_after nr e = grind arith

sent_after : (nr : ℕ) (e : EndpointState) → HasWindowOfOne e → may_send_next_segment e ≡ false →
    may_send_next_segment (after_rr nr e) ≡ false
sent_after nr e window sent = grind (arith, sent, window.acked_at_most_sent, window.window)

-- no segment is outstanding then, or one with another number
acked_after : (nr : ℕ) (e : EndpointState) → HasWindowOfOne e → is_open e.state ≡ true → may_send_next_segment e ≡ false →
    nr_acknowledges_segment nr (after_rr nr e) ≡ false
acked_after nr e window is_now sent = grind (arith, is_now, sent, window.acked_at_most_sent, window.window)

-- V(A) acknowledges nothing
va_acks_nothing : (n : ℕ) (e : EndpointState) → HasWindowOfOne e → is_open e.state ≡ true → may_send_next_segment e ≡ false →
    nr_acknowledges_segment (va (after_rr n e)) (after_rr n e) ≡ false
va_acks_nothing n e window is_now sent = grind (arith, is_now, sent, window.acked_at_most_sent, window.window)

-- ## A link after an RR

module _ (nr : ℕ) (f : Frame) (l : LinkState) (rr : IsRr nr f l) where
  renewed : renewed_for f l ≡ l
  renewed = grind (arith, rr.content)

  found : for_frame f l ≡ l
  found = grind (arith, rr.content)

  not_ignored : ignores f l ≡ false
  not_ignored = grind (arith, rr.content)

  abbrev n : ℕ
  n = nr_as_taken nr l

  outcome_of_rr : (received_outcome f l).new_state ≡ after_rr n l.endpoint
  outcome_of_rr = grind (arith, rr.content, rr.no_poll)

  taken : (after_frame f l).endpoint ≡ after_rr n l.endpoint
  taken = chosen (ignores f l) not_ignored
    where
      chosen : (b : Bool) → b ≡ false →
          (if b then l else (let m = for_frame f l in with_outcome (received_outcome f m) m)).endpoint ≡ after_rr n l.endpoint
      chosen true e = absurd (cc e)
      chosen false e =
          ap (λ (m : LinkState). (with_outcome (received_outcome f m) m).endpoint) found
          ∙ endpoint_with_frames (received_outcome f l).frames (record l { endpoint = (received_outcome f l).new_state })
          ∙ outcome_of_rr

  endpoint_after : (after_received f l).endpoint ≡ after_rr n l.endpoint
  endpoint_after = ap (λ (m : LinkState). (after_frame f m).endpoint) renewed ∙ taken

  -- an RR sends no frame that awaits an answer
  sent_before : (after_received f l).is_sent ≡ true → l.is_sent ≡ true
  sent_before h = chosen (ignores f l) (ap (λ (m : LinkState). (after_frame f m).is_sent) (sym renewed) ∙ h)
    where
      chosen : (b : Bool) → (if b then l else (let m = for_frame f l in with_outcome (received_outcome f m) m)).is_sent ≡ true →
          l.is_sent ≡ true
      chosen true h = h
      chosen false h = frames_sent_before (received_outcome f l).frames (record l { endpoint = (received_outcome f l).new_state })
          (ap (λ (m : LinkState). (with_outcome (received_outcome f m) m).is_sent) (sym found) ∙ h)

  heard_after : (after_received f l).heard ≡ (l.heard || is_open l.endpoint.state)
  heard_after = grind (arith, rr.content)

  state_of : is_open (after_received f l).endpoint.state ≡ is_open l.endpoint.state
  state_of = ap (λ (e : EndpointState). is_open e.state) endpoint_after ∙ ap is_open (state_after n l.endpoint)

-- ## The same RR again

once : (a b : Bool) → ((a || b) || b) ≡ (a || b)
once a b = grind arith

module _ (nr : ℕ) (f g : Frame) (l : LinkState) (rr : IsRr nr f l) (again : IsPlainRr nr g) where
  not_acked : HasWindowOfOne l.endpoint → HasSentWhatItMay l → is_open l.endpoint.state ≡ true →
      let m = after_received f l in nr_acknowledges_segment (nr_as_taken nr m) m.endpoint ≡ false
  not_acked window sent is_now = elim (cases_Bool (after_received f l).is_sent) [
    | inl s ↦ was_sent s
    | inr s ↦ elim (cases_Bool (nat_eq nr (vs (after_received f l).endpoint))) [
      | inl e ↦ is_va s e
      | inr e ↦ is_no_vs s e
    ]
  ]
    where
      m : LinkState
      m = after_received f l

      after : m.endpoint ≡ after_rr (nr_as_taken nr l) l.endpoint
      after = endpoint_after nr f l rr

      was_sent : m.is_sent ≡ true → nr_acknowledges_segment (nr_as_taken nr m) m.endpoint ≡ false
      was_sent s =
          let same : nr_as_taken nr l ≡ nr = rw (sent_before nr f l rr s) refl in
          ap (λ k. nr_acknowledges_segment k m.endpoint) (taken_if_sent nr m s)
          ∙ ap (nr_acknowledges_segment nr) (after ∙ ap (λ k. after_rr k l.endpoint) same)
          ∙ acked_after nr l.endpoint window is_now sent

      is_va : m.is_sent ≡ false → nat_eq nr (vs m.endpoint) ≡ true → nr_acknowledges_segment (nr_as_taken nr m) m.endpoint ≡ false
      is_va s e =
          ap (λ k. nr_acknowledges_segment k m.endpoint) (taken_as_va nr m s e)
          ∙ ap (λ x. nr_acknowledges_segment (va x) x) after ∙ va_acks_nothing (nr_as_taken nr l) l.endpoint window is_now sent

      is_no_vs : m.is_sent ≡ false → nat_eq nr (vs m.endpoint) ≡ false →
          nr_acknowledges_segment (nr_as_taken nr m) m.endpoint ≡ false
      is_no_vs s e = grind (arith, s, e)

  second : HasWindowOfOne l.endpoint → HasSentWhatItMay l → ChangesNothing g (after_received f l)
  second window sent = by_state (is_open l.endpoint.state) refl
    where
      by_state : (b : Bool) → is_open l.endpoint.state ≡ b → ChangesNothing g (after_received f l)
      by_state true is_now =
          none_acked_by nr g (after_received f l) again
          (ap may_send_next_segment (endpoint_after nr f l rr) ∙ sent_after (nr_as_taken nr l) l.endpoint window sent)
          (not_acked window sent is_now)
      by_state false is_now = not_open nr g (after_received f l) again (state_of nr f l rr ∙ is_now)

  heard_again : heard_with g (after_received f l) ≡ (after_received f l).heard
  heard_again =
      heard_of nr g (after_received f l) again
      ∙ (λ i. heard_after nr f l rr i || state_of nr f l rr i)
      ∙ once l.heard (is_open l.endpoint.state)
      ∙ sym (heard_after nr f l rr)

  pub second_changes_nothing : HasWindowOfOne l.endpoint → HasSentWhatItMay l →
      after_received g (after_received f l) ≡ after_received f l
  second_changes_nothing window sent =
      let m = after_received f l in
      (second window sent).link ∙ ap (λ (heard : Bool). let x : LinkState = record m { heard = heard } in x) heard_again

  pub second_says_nothing : HasWindowOfOne l.endpoint → HasSentWhatItMay l → received_notices g (after_received f l) ≡ []
  second_says_nothing window sent = (second window sent).notices
