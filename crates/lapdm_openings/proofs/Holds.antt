-- The invariant of both directions between two endpoints, as frames are lost and endpoints start afresh.
use Rattle.std.specs.Prelude.{◌≡◌, ℕ, List, [], ◌∷◌, length}
use Rattle.std.proofs.Common.{arith, refl}
use Rattle.lapdm_frame.specs.Content.{Content}
use Rattle.lapdm_end.specs.lapdm_window.Ends.{EndpointState, segments_of_all_messages}
use Rattle.lapdm_end.specs.lapdm_window.segmenting.Segments.{Segment}
use Rattle.lapdm_link.proofs.Subsequences.{IsSub}
use Rattle.lapdm_link.proofs.Events.{AllOf, IsPlain}
use Rattle.lapdm_link.proofs.Directions.{IsDirection, Ascending, CountsIn, CarriesIn, climbs-within, direction, direction-fewer}
use Rattle.lapdm_link.proofs.Directions.{initial-direction}
use Rattle.lapdm_link.proofs.Directions.{last, number_before, segment_before}
use Rattle.lapdm_link.proofs.Rules.{BothHold, sends_plain}

-- both directions, of whose frames in transit all may still be read
abbrev pub Hold : (x y : EndpointState) (out comes : List Content) → Type 0
Hold x y out comes = BothHold x y out comes comes

pub swapped : {x y : EndpointState} {out comes : List Content} → Hold x y out comes → Hold y x comes out
swapped h = record { forward = h.backward; backward = h.forward }

pub fewer : {x y : EndpointState} {out out' comes comes' : List Content} → IsSub out' out → IsSub comes' comes →
    Hold x y out comes →
    Hold x y out' comes'
fewer o c h = record { forward = direction-fewer o c h.forward; backward = direction-fewer c o h.backward }

counts-plain : (n : ℕ) (c : Content) → IsPlain c → CountsIn n c
counts-plain n c h = grind arith

pub plain-comes : {x y : EndpointState} {out comes : List Content} (c : Content) → IsPlain c → Hold x y out comes →
    Hold x y out (c ∷ comes)
plain-comes {x} {y} c h g = record {
  forward = number_before (counts-plain x.acked_segments c h) g.forward;
  backward = segment_before (carries (segments_of_all_messages y) (length x.accepted_segments) c h) g.backward;
}
  where
    carries : (ps : List Segment) (n : ℕ) (c : Content) → IsPlain c → CarriesIn ps n c
    carries ps n c h = grind arith

-- ---- an endpoint that has sent and accepted nothing

pub record IsZero (x : EndpointState) : Type 0 where
  pub messages : x.messages ≡ []
  pub sent : x.sent_segments ≡ 0
  pub acked : x.acked_segments ≡ 0
  pub accepted : x.accepted_segments ≡ []

-- an endpoint that has sent and accepted nothing takes the place of one of which the other accepted nothing
pub rejoins : {p x y : EndpointState} {out comes : List Content} (new : List Content) → IsZero x → y.accepted_segments ≡ [] →
    y.acked_segments ≡ 0 → AllOf IsPlain new → Hold p y out comes → Hold x y new comes
rejoins {p} {x} {y} {out} {comes} new z none unacked plain h = sends_plain new plain (record {
  forward = forward x.messages x.sent_segments x.acked_segments z.messages z.sent z.acked;
  backward = backward x.accepted_segments z.accepted;
})
  where
    forward : (ms : List (List ℕ)) (s a : ℕ) → ms ≡ [] → s ≡ 0 → a ≡ 0 →
        IsDirection (segments_of_all_messages (record x { messages = ms })) a s y.accepted_segments [] comes
    forward ms s a e f g =
        let numbers : Ascending CountsIn p.acked_segments comes 0 = rw none at h.forward.acknowledged in
        rw (e, f, g, none) (at_start (climbs-within (omega arith) (omega arith) numbers))
      where
        at_start : {comes : List Content} → Ascending CountsIn 0 comes 0 → IsDirection [] 0 0 [] [] comes
        at_start c = direction c (last (omega arith)) (omega arith) (omega arith) refl

    backward : (qs : List Segment) → qs ≡ [] →
        IsDirection (segments_of_all_messages y) y.acked_segments y.sent_segments qs comes []
    backward qs e =
        let numbers : Ascending CountsIn y.acked_segments [] 0 = last (omega (arith, unacked)) in
        rw e (direction numbers (climbs-within (omega arith) (omega arith) h.backward.carried) h.backward.window h.backward.in_range refl)

-- two such endpoints
pub zeros-hold : {x y : EndpointState} → IsZero x → IsZero y → Hold x y [] []
zeros-hold {x} {y} h g = record { forward = direction-of x y h g; backward = direction-of y x g h }
  where
    direction-of : (x y : EndpointState) → IsZero x → IsZero y →
        IsDirection (segments_of_all_messages x) x.acked_segments x.sent_segments y.accepted_segments [] []
    direction-of x y h g = by x.messages x.sent_segments x.acked_segments y.accepted_segments h.messages h.sent h.acked g.accepted
      where
        by : (ms : List (List ℕ)) (s a : ℕ) (qs : List Segment) → ms ≡ [] → s ≡ 0 → a ≡ 0 → qs ≡ [] →
            IsDirection (segments_of_all_messages (record x { messages = ms })) a s qs [] []
        by ms s a qs e f g k = rw (e, f, g, k) initial-direction
