-- The invariant of delivery in one direction.
use Rattle.{
  lapdm_link.{proofs.{Events.{AllOf, rest}, Subsequences.{IsSub, dropped, empty, kept}}, specs.Events.other},
  lapdm_window.specs.{Ends.awaits_ack, lapdm_frame.Content.{Content, I, Rej, Rr}, segmenting.Segments.Segment},
  std.proofs.{
    Common.{Bool, List, [], arith, false, get_or, length, refl, sym, take, ℕ, ◌%◌, ◌++◌, ◌+◌, ◌<◌, ◌∙◌, ◌∷◌},
    Common.{◌≡◌, ◌≢◌, ◌≤◌},
    Math.ListN.get_or-append,
    lemmas.List.{length-append, take-append-le, take_more},
  },
}

-- ## Directions: The invariant of delivery in one direction: segments travel one way and acknowledgements the other. It implies that three
-- bits suffice for a sequence number. It names no endpoint, queue or SAPI, so it serves both directions of both links.
--
-- Write these counts in a row: the segments that the sender counts as acknowledged; for each frame with an N(R) in transit, the number of
-- segments accepted when it was sent; the segments accepted; for each I frame in transit, the number of segments up to its own; the
-- segments sent. The row never decreases, and its last count exceeds its first by at most one, because the window size is 1. So an arriving
-- I frame carries either the last accepted segment or the next one, and N(S) modulo 8 distinguishes the two. An arriving N(R) stands for
-- one of two counts, and modulo 8 shows whether it acknowledges the outstanding segment. If it does, the count of accepted segments, which
-- lies between, has the same value.

-- ---- non-decreasing counts

-- each content in a list has a count to which `Notifies` relates it; these counts lie between `low` and `high` and never decrease
pub data Ascending (Notifies : ℕ → Content → Type 0) : ℕ → List Content → ℕ → Type 0 where
  last : {low high : ℕ} → low ≤ high → Ascending Notifies low [] high
  first : {low k high : ℕ} {c : Content} {cs : List Content} → low ≤ k → Notifies k c → Ascending Notifies k cs high →
      Ascending Notifies low (c ∷ cs) high

module _ {Notifies : ℕ → Content → Type 0} where
  climbs-split : {low high : ℕ} {c : Content} {cs : List Content} → Ascending Notifies low (c ∷ cs) high →
      ((k : ℕ) × (low ≤ k) × Notifies k c × Ascending Notifies k cs high)
  climbs-split (first {k = k} l t h) = (k, l, t, h)

  pub climbs-le : {low high : ℕ} {cs : List Content} → Ascending Notifies low cs high → low ≤ high
  climbs-le (last h) = h
  climbs-le (first l t h) = omega (arith, climbs-le h)

  climbs-as : (Notifies' : ℕ → Content → Type 0) → ((k : ℕ) (c : Content) → Notifies k c → Notifies' k c) →
      {low low' high high' : ℕ}
      {cs : List Content} → low' ≤ low → high ≤ high' → Ascending Notifies low cs high → Ascending Notifies' low' cs high'
  climbs-as Notifies' says l h (last m) = last (omega arith)
  climbs-as Notifies' says l h (first m t g) = first (omega arith) (says _ _ t) (climbs-as _ says (omega arith) h g)

  pub climbs-within : {low low' high high' : ℕ} {cs : List Content} → low' ≤ low → high ≤ high' →
      Ascending Notifies low cs high →
      Ascending Notifies low' cs high'
  climbs-within l h g = climbs-as _ (λ k c t. t) l h g

  climbs-rest : {low high : ℕ} {c : Content} {cs : List Content} → Ascending Notifies low (c ∷ cs) high →
      Ascending Notifies low cs high
  climbs-rest (first l t h) = climbs-within l (omega arith) h

  climbs-append : {low high : ℕ} {cs : List Content} (ds : List Content) → AllOf (Notifies high) ds →
      Ascending Notifies low cs high → Ascending Notifies low (cs ++ ds) high
  climbs-append [] a (last h) = last h
  climbs-append (d ∷ ds) a (last h) = first h a.0 (climbs-append ds a.1 (last (omega arith)))
  climbs-append ds a (first l t h) = first l t (climbs-append ds a h)

climbs-first : {Notifies : ℕ → Content → Type 0} {low high : ℕ} {c d : Content} {cs : List Content} →
    ((k : ℕ) → Notifies k c → Notifies k d) → Ascending Notifies low (c ∷ cs) high → Ascending Notifies low (d ∷ cs) high
climbs-first says (first l t h) = first l (says _ t) h

-- the N(R) of the content, if it has one, is n modulo 8
abbrev pub CountsIn : ℕ → Content → Type 0
CountsIn n (I ns nr p more info) = nr ≡ n % 8
CountsIn n (Rr nr pf) = nr ≡ n % 8
CountsIn n (Rej nr pf) = nr ≡ n % 8
CountsIn n other = Unit {0}

-- p is the n-th segment of ps, counted from 1, and ns is its N(S)
pub record IsSegment (ps : List Segment) (n ns : ℕ) (p : Segment) : Type 0 where
  pub index : ℕ
  pub count : n ≡ index + 1
  pub number : ns ≡ index % 8
  pub in_range : index < length ps
  pub piece : get_or ps index ([], false) ≡ p

abbrev pub CarriesIn : List Segment → ℕ → Content → Type 0
CarriesIn ps n (I ns nr p more info) = IsSegment ps n ns (info, more)
CarriesIn ps n other = Unit {0}

-- the invariant of one direction: of the segments ps, the first `sent` are sent and the first `acked` acknowledged; the segments `accepted`
-- are a prefix of ps; of the frame contents in transit, those in `there` may carry segments, those in `back` acknowledgements
pub record IsDirection (ps : List Segment) (acked sent : ℕ) (accepted : List Segment) (there back : List Content) : Type 0 where
  pub acknowledged : Ascending CountsIn acked back (length accepted)
  pub carried : Ascending (CarriesIn ps) (length accepted) there sent
  pub window : sent ≤ acked + 1
  pub in_range : sent ≤ length ps
  pub in_order : accepted ≡ take (length accepted) ps

-- an N(S), although it counts modulo 8, determines which segment an I frame carries
right_segment : (a r s at : ℕ) → a ≤ r → r ≤ at + 1 → at + 1 ≤ s → s ≤ a + 1 → at % 8 ≡ r % 8 → at ≡ r
right_segment a r s at h1 h2 h3 h4 h5 = grind arith

-- an N(R), although it counts modulo 8, determines how many segments are acknowledged
right_number : (a r s k : ℕ) → a ≤ k → k ≤ r → r ≤ s → s ≤ a + 1 → s ≢ a → k % 8 ≡ s % 8 → k ≡ s
right_number a r s k h1 h2 h3 h4 h5 h6 = grind arith

carries-more : (ps more : List Segment) (n : ℕ) (c : Content) → CarriesIn ps n c → CarriesIn (ps ++ more) n c
carries-more ps more n c h = grind (arith, length-append, get_or-append)

pub direction : {ps : List Segment} {a s : ℕ} {qs : List Segment} {there back : List Content} → Ascending CountsIn a back
    (length qs) →
    Ascending (CarriesIn ps) (length qs) there s → s ≤ a + 1 → s ≤ length ps → qs ≡ take (length qs) ps →
    IsDirection ps a s qs there back
direction a c w l o = grind arith

module _ {ps : List Segment} {a s : ℕ} {qs : List Segment} {there back : List Content} where
  -- the invariant of one direction still holds after the next segment becomes outstanding
  pub next_waits : s ≡ a → s < length ps → IsDirection ps a s qs there back → IsDirection ps a (s + 1) qs there back
  next_waits none left h =
      direction h.acknowledged (climbs-within (omega arith) (omega arith) h.carried) (omega arith) (omega arith) h.in_order

  -- the invariant of one direction still holds after the outstanding segment is sent, for the first time or again
  pub segments_out : (cs : List Content) → AllOf (CarriesIn ps s) cs → IsDirection ps a s qs there back →
      IsDirection ps a s qs (there ++ cs) back
  segments_out cs notify h = direction h.acknowledged (climbs-append cs notify h.carried) h.window h.in_range h.in_order

  -- the invariant of one direction still holds after the receiver sends frames that acknowledge the accepted segments
  pub numbers_out : (cs : List Content) → AllOf (CountsIn (length qs)) cs → IsDirection ps a s qs there back →
      IsDirection ps a s qs there (back ++ cs)
  numbers_out cs notify h = direction (climbs-append cs notify h.acknowledged) h.carried h.window h.in_range h.in_order

  -- the invariant of one direction still holds after the receiver accepts a segment
  pub segment_in : (c : Content) (ns : ℕ) (p : Segment) → ((k : ℕ) → CarriesIn ps k c → IsSegment ps k ns p) →
      ns ≡ length qs % 8 → IsDirection ps a s qs (c ∷ there) back → IsDirection ps a s (qs ++ p ∷ []) there back
  segment_in c ns p carries number h =
      let (k, low, t, rest) = climbs-split h.carried in
      let i = carries k t in
      let below = climbs-le h.acknowledged in
      let above = climbs-le rest in
      let at_is = right_segment a _ s i.index below (omega (arith, i.count)) (omega (arith, i.count)) h.window (sym i.number ∙ number) in
      let longer = length-append qs (p ∷ []) in
      let grows = take_more ps (length qs) ([], false) (omega (arith, i.in_range)) in
      let in_order = h.in_order in
      direction (climbs-within (omega arith) (omega arith) h.acknowledged) (climbs-within (omega (arith, i.count)) (omega arith) rest)
      h.window h.in_range (cc (i.piece, at_is))

  -- the invariant of one direction still holds after a frame is lost or ignored
  pub segment_gone : {c : Content} → IsDirection ps a s qs (c ∷ there) back → IsDirection ps a s qs there back
  segment_gone h = direction h.acknowledged (climbs-rest h.carried) h.window h.in_range h.in_order

  pub number_gone : {c : Content} → IsDirection ps a s qs there (c ∷ back) → IsDirection ps a s qs there back
  number_gone h = direction (climbs-rest h.acknowledged) h.carried h.window h.in_range h.in_order

  -- the invariant of one direction still holds after a frame with the same N(R), or the same segment, replaces the first in transit
  pub number_as : {c d : Content} → ((k : ℕ) → CountsIn k c → CountsIn k d) → IsDirection ps a s qs there (c ∷ back) →
      IsDirection ps a s qs there (d ∷ back)
  number_as says h = direction (climbs-first says h.acknowledged) h.carried h.window h.in_range h.in_order

  pub segment_as : {c d : Content} → ((k : ℕ) → CarriesIn ps k c → CarriesIn ps k d) →
      IsDirection ps a s qs (c ∷ there) back →
      IsDirection ps a s qs (d ∷ there) back
  segment_as says h = direction h.acknowledged (climbs-first says h.carried) h.window h.in_range h.in_order

  -- the invariant of one direction still holds with a frame before all in transit that acknowledges nothing, or has no segment
  pub number_before : {c : Content} → CountsIn a c → IsDirection ps a s qs there back → IsDirection ps a s qs there (c ∷ back)
  number_before says h = direction (first (omega arith) says h.acknowledged) h.carried h.window h.in_range h.in_order

  pub segment_before : {c : Content} → CarriesIn ps (length qs) c → IsDirection ps a s qs there back →
      IsDirection ps a s qs (c ∷ there) back
  segment_before says h = direction h.acknowledged (first (omega arith) says h.carried) h.window h.in_range h.in_order

  -- the invariant of one direction still holds after an N(R) acknowledges the outstanding segment
  pub number_in : (c : Content) (nr : ℕ) → ((k : ℕ) → CountsIn k c → nr ≡ k % 8) → s ≢ a → nr ≡ s % 8 →
      IsDirection ps a s qs there (c ∷ back) → IsDirection ps s s qs there back
  number_in c nr acked_at_most_delivered awaits_ack number h =
      let (k, low, t, rest) = climbs-split h.acknowledged in
      let k_is : k ≡ s = right_number a (length qs) s k low (climbs-le rest) (climbs-le h.carried) h.window awaits_ack
      (sym (acked_at_most_delivered k t) ∙ number) in
      direction (climbs-within (omega arith) (omega arith) rest) h.carried (omega arith) h.in_range h.in_order

  pub more_segments : (more : List Segment) → IsDirection ps a s qs there back → IsDirection (ps ++ more) a s qs there back
  more_segments more h =
      let high = climbs-le h.carried in
      direction h.acknowledged (climbs-as (CarriesIn (ps ++ more)) (carries-more ps more) (omega arith) (omega arith) h.carried) h.window
      (omega (arith, h.in_range, length-append ps more))
      (h.in_order ∙ sym (take-append-le (length qs) ps more (omega (arith, h.in_range))))

-- some of the frames are lost
climbs-fewer : {Notifies : ℕ → Content → Type 0} {low high : ℕ} {cs ds : List Content} → IsSub cs ds →
    Ascending Notifies low ds high → Ascending Notifies low cs high
climbs-fewer empty h = h
climbs-fewer (kept s) (first l t h) = first l t (climbs-fewer s h)
climbs-fewer (dropped s) h = climbs-fewer s (climbs-rest h)

pub direction-fewer : {ps : List Segment} {a s : ℕ} {qs : List Segment} {there there' back back' : List Content} →
    IsSub there' there →
    IsSub back' back → IsDirection ps a s qs there back → IsDirection ps a s qs there' back'
direction-fewer t b h = direction (climbs-fewer b h.acknowledged) (climbs-fewer t h.carried) h.window h.in_range h.in_order

pub initial-direction : IsDirection [] 0 0 [] [] []
initial-direction = direction (last (omega arith)) (last (omega arith)) (omega arith) (omega arith) refl
