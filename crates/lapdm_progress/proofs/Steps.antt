-- What one link does when a frame arrives, when layer 3 makes a call, and in its slot: its counts, and what its frames say.
use Rattle.{
  std.{proofs.Common.{sym, subst, inl, inr, arith, refl, ap, ◌∙◌, length-append}, specs.Prelude.{◌≡◌, ℕ, ◌+◌, ◌≤◌}},
  std.specs.Prelude.{Bool, true, false, not, ◌⊎◌, if◌then◌else◌, nat_eq, length, Option, Some, None, IfSome},
  lapdm_end.specs.lapdm_window.{
    Ends.{Role, sapi_number, EndpointState, Outcome, vr, vs, awaits_ack, command_cr},
    segmenting.Segments.Segment,
    Rules.takes_i_frame,
    Tables.{Reply, TakesIFrame, TakesRr, TakesRej, outcome_of_reply},
  },
  lapdm_progress.specs.Channels.{Pair, place},
  lapdm_frame.specs.Content.Frame,
  lapdm_datalink.{
    specs.{Links.{LinkState, with_outcome, is_awaiting_kind}, Slots.nr_in},
    proofs.Lemmas.{endpoint_with_frames, t200_with_frames},
  },
}

-- ---- counts

abbrev pub acked : LinkState → ℕ
acked l = l.endpoint.acked_segments

abbrev pub issued : LinkState → ℕ
issued l = l.endpoint.sent_segments

abbrev pub accepted : LinkState → ℕ
accepted l = length l.endpoint.accepted_segments

-- the segments that the link has put in a block: all that are acknowledged, and the outstanding one once it was sent
abbrev pub aired : LinkState → ℕ
aired l = if l.is_sent then issued l else acked l

-- the frame owed is a response, says N(R) = V(R) if it has an N(R), and is no frame that awaits an answer
pub record IsAnswerOf (l : LinkState) (f : Frame) : Type 0 where
  pub number : (nr : ℕ) → nr_in f.content ≡ Some nr → nr ≡ vr l.endpoint
  pub kind : is_awaiting_kind f.content ≡ false
  pub sapi : f.sapi ≡ sapi_number l.endpoint.sapi
  pub way : f.cr ≡ not (command_cr l.endpoint.role)

pub record Good (l : LinkState) : Type 0 where
  pub low : acked l ≤ issued l
  pub window : issued l ≤ acked l + 1

-- a link of this pair in this place
pub record IsIn (w : Pair) (p : Role) (l : LinkState) : Type 0 where
  pub sapi : l.endpoint.sapi ≡ w.sapi
  pub role : l.endpoint.role ≡ place w.opener p

-- no count goes down
pub record Moves (l m : LinkState) : Type 0 where
  pub role : m.endpoint.role ≡ l.endpoint.role
  pub sapi : m.endpoint.sapi ≡ l.endpoint.sapi
  pub t200 : m.t200 ≡ l.t200
  pub acked_up : acked l ≤ acked m
  pub accepted_up : accepted l ≤ accepted m
  pub aired_up : aired l ≤ aired m
  pub low : acked m ≤ issued m
  pub window : issued m ≤ acked m + 1

-- the N(R) and the N(S) that a reply evaluates
abbrev pub nr_taken : Reply → Option ℕ
nr_taken (TakesIFrame ns nr p s) = Some nr
nr_taken (TakesRr nr p) = Some nr
nr_taken (TakesRej nr p) = Some nr
nr_taken other = None

abbrev pub ns_taken : Reply → Option ℕ
ns_taken (TakesIFrame ns nr p s) = Some ns
ns_taken other = None

-- what a reply changes of the counts, and that the answer owed has the N(R) of now
pub record Takes (r : Reply) (l m : LinkState) : Type 0 where
  pub moves : Moves l m
  pub by_nr : (acked m ≡ acked l) ⊎ ((nr_taken r ≡ Some (vs l.endpoint)) × (issued l ≡ acked l + 1) × (acked m ≡ issued l))
  pub by_ns : (accepted m ≡ accepted l) ⊎ ((ns_taken r ≡ Some (vr l.endpoint)) × (accepted m ≡ accepted l + 1))
  pub owed : IfSome m.answer (IsAnswerOf m)

abbrev pub taken : (r : Reply) (l : LinkState) → LinkState
taken r l = with_outcome (outcome_of_reply r l.endpoint) l

-- a received REJ counts as an RR, so it is never the reply
abbrev pub is_rej : Reply → Bool
is_rej (TakesRej nr p) = true
is_rej other = false

pub awaits_none : (l : LinkState) → awaits_ack l.endpoint ≡ false → issued l ≡ acked l
awaits_none l w = grind (arith, w)

aired_low : (l m : LinkState) → issued l ≡ acked l → acked m ≤ issued m → acked l ≤ acked m → aired l ≤ aired m
aired_low l m a b c = grind arith

aired_acked : (l m : LinkState) → acked m ≡ issued l → acked m ≤ issued m → acked l ≤ issued l → aired l ≤ aired m
aired_acked l m a b c = grind arith

aired_waits : (l m : LinkState) → m.is_sent ≡ l.is_sent → issued m ≡ issued l → acked l ≤ acked m → acked m ≤ issued m →
    aired l ≤ aired m
aired_waits l m a b c d = grind arith

-- ---- the frames that an endpoint returns change only what the link owes and its clock

outcome_t200 : (o : Outcome) (l : LinkState) → (with_outcome o l).t200 ≡ l.t200
outcome_t200 o l = t200_with_frames o.frames (record l { endpoint = o.new_state })

pub outcome_endpoint : (o : Outcome) (l : LinkState) → (with_outcome o l).endpoint ≡ o.new_state
outcome_endpoint o l = endpoint_with_frames o.frames (record l { endpoint = o.new_state })

outcome_accepted : (o : Outcome) (l : LinkState) → accepted (with_outcome o l) ≡ length o.new_state.accepted_segments
outcome_accepted o l = ap (λ e. length e.accepted_segments) (endpoint_with_frames o.frames (record l { endpoint = o.new_state }))

module _ (e : EndpointState) (ns nr : ℕ) (p : Bool) (s : Segment) where
  end_accepts : nat_eq ns (vr e) ≡ true →
      length (takes_i_frame ns nr p s e).new_state.accepted_segments ≡ length e.accepted_segments + 1
  end_accepts h = grind (arith, length-append, h)

  end_rejects : nat_eq ns (vr e) ≡ false →
      length (takes_i_frame ns nr p s e).new_state.accepted_segments ≡ length e.accepted_segments
  end_rejects h = grind (arith, length-append, h)

pub accepts_taken : (l : LinkState) (ns nr : ℕ) (p : Bool) (s : Segment) → nat_eq ns (vr l.endpoint) ≡ true →
    accepted (taken (TakesIFrame ns nr p s) l) ≡ accepted l + 1
accepts_taken l ns nr p s h =
    outcome_accepted (outcome_of_reply (TakesIFrame ns nr p s) l.endpoint) l ∙ end_accepts l.endpoint ns nr p s h

-- a link that awaits an acknowledgement and does not get it goes on waiting
pub record GoesOn (l m : LinkState) : Type 0 where
  pub sent : m.is_sent ≡ l.is_sent
  pub clock : m.clock ≡ l.clock
  pub acked : m.endpoint.acked_segments ≡ l.endpoint.acked_segments
  pub issued : m.endpoint.sent_segments ≡ l.endpoint.sent_segments

module _ (l : LinkState) (g : Good l) (none : l.answer ≡ None) where
  pub goes_on_i : (ns nr : ℕ) (p : Bool) (s : Segment) → awaits_ack l.endpoint ≡ true → nat_eq nr (vs l.endpoint) ≡ false →
      GoesOn l (taken (TakesIFrame ns nr p s) l)
  goes_on_i ns nr p s w h =
      record { sent = grind (arith, w, h); clock = grind (arith, w, h); acked = grind (arith, w, h); issued = grind (arith, w, h) }

  pub goes_on_rr : (nr : ℕ) (p : Bool) → awaits_ack l.endpoint ≡ true → nat_eq nr (vs l.endpoint) ≡ false →
      GoesOn l (taken (TakesRr nr p) l)
  goes_on_rr nr p w h =
      record { sent = grind (arith, w, h); clock = grind (arith, w, h); acked = grind (arith, w, h); issued = grind (arith, w, h) }

  acked_i : (ns nr : ℕ) (p : Bool) (s : Segment) → acked l ≤ acked (taken (TakesIFrame ns nr p s) l)
  acked_i ns nr p s = grind (arith, length-append)

  low_i : (ns nr : ℕ) (p : Bool) (s : Segment) →
      (acked (taken (TakesIFrame ns nr p s) l) ≤ issued (taken (TakesIFrame ns nr p s) l))
  low_i ns nr p s = grind (arith, length-append)

  pub by_nr_i : (ns nr : ℕ) (p : Bool) (s : Segment) → nat_eq nr (vs l.endpoint) ≡ true → awaits_ack l.endpoint ≡ true →
      acked (taken (TakesIFrame ns nr p s) l) ≡ issued l
  by_nr_i ns nr p s h w = grind (arith, h, w)

  pub by_nr_rr : (nr : ℕ) (p : Bool) → nat_eq nr (vs l.endpoint) ≡ true → awaits_ack l.endpoint ≡ true →
      acked (taken (TakesRr nr p) l) ≡ issued l
  by_nr_rr nr p h w = grind (arith, h, w)

  -- three cases: nothing outstanding, acknowledged, not acknowledged
  aired_i : (ns nr : ℕ) (p : Bool) (s : Segment) → aired l ≤ aired (taken (TakesIFrame ns nr p s) l)
  aired_i ns nr p s = by_wait (awaits_ack l.endpoint) refl (nat_eq nr (vs l.endpoint)) refl
    where
      m : LinkState
      m = taken (TakesIFrame ns nr p s) l

      by_wait : (w : Bool) → awaits_ack l.endpoint ≡ w → (k : Bool) → nat_eq nr (vs l.endpoint) ≡ k → aired l ≤ aired m
      by_wait false w k h = aired_low l m (awaits_none l w) (low_i ns nr p s) (acked_i ns nr p s)
      by_wait true w true h = aired_acked l m (by_nr_i ns nr p s h w) (low_i ns nr p s) g.low
      by_wait true w false h = aired_waits l m (goes_on_i ns nr p s w h).sent (goes_on_i ns nr p s w h).issued
          (acked_i ns nr p s) (low_i ns nr p s)

  acks_i : (ns nr : ℕ) (p : Bool) (s : Segment) → let e = (takes_i_frame ns nr p s l.endpoint).new_state in
      (e.acked_segments ≡ acked l) ⊎ ((Some nr ≡ Some (vs l.endpoint)) × (issued l ≡ acked l + 1) × (e.acked_segments
      ≡ issued l))
  acks_i ns nr p s = grind (arith, length-append, g.low, g.window)

  takes_i : (ns nr : ℕ) (p : Bool) (s : Segment) → Takes (TakesIFrame ns nr p s) l (taken (TakesIFrame ns nr p s) l)
  takes_i ns nr p s = record {
    moves = record {
      role = grind (arith, length-append);
      sapi = grind (arith, length-append);
      t200 = outcome_t200 (outcome_of_reply (TakesIFrame ns nr p s) l.endpoint) l;
      acked_up = acked_i ns nr p s;
      accepted_up = grind (arith, length-append);
      aired_up = aired_i ns nr p s;
      low = low_i ns nr p s;
      window = grind (arith, length-append);
    };
    by_nr = subst (λ (e : EndpointState). (e.acked_segments ≡ acked l) ⊎ ((Some nr ≡ Some (vs l.endpoint)) × (issued l
        ≡ acked l + 1)
        × (e.acked_segments ≡ issued l))) (sym (outcome_endpoint (outcome_of_reply (TakesIFrame ns nr p s) l.endpoint) l))
        (acks_i ns nr p s);
    by_ns = by_match (nat_eq ns (vr l.endpoint)) refl;
    owed = grind (arith, length-append);
  }
    where
      m : LinkState
      m = taken (TakesIFrame ns nr p s) l

      by_match : (b : Bool) → nat_eq ns (vr l.endpoint) ≡ b →
          (accepted m ≡ accepted l) ⊎ ((Some ns ≡ Some (vr l.endpoint)) × (accepted m ≡ accepted l + 1))
      by_match true h = inr (
        ap Some (grind (arith, h)),
        outcome_accepted (outcome_of_reply (TakesIFrame ns nr p s) l.endpoint) l
            ∙ end_accepts l.endpoint ns nr p s h,
      )
      by_match false h =
          inl (outcome_accepted (outcome_of_reply (TakesIFrame ns nr p s) l.endpoint) l
          ∙ end_rejects l.endpoint ns nr p s h)

  takes_rr : (nr : ℕ) (p : Bool) → Takes (TakesRr nr p) l (taken (TakesRr nr p) l)
  takes_rr nr p = record {
    moves = record {
      role = grind (arith, length-append);
      sapi = grind (arith, length-append);
      t200 = outcome_t200 (outcome_of_reply (TakesRr nr p) l.endpoint) l;
      acked_up = grind (arith, length-append);
      accepted_up = grind (arith, length-append);
      aired_up = grind (arith, length-append);
      low = grind (arith, length-append);
      window = grind (arith, length-append);
    };
    by_nr = grind (arith, length-append);
    by_ns = grind (arith, length-append);
    owed = grind (arith, length-append);
  }

  pub takes : (r : Reply) → is_rej r ≡ false → Takes r l (taken r l)
  takes (TakesIFrame ns nr p s) h = takes_i ns nr p s
  takes (TakesRr nr p) h = takes_rr nr p
  takes (TakesRej nr p) h = absurd cc
  takes other h = grind (arith, length-append)
