-- Worked runs: two openings with messages in both, and one in which layer 3 opens a link again while an old SABM is in transit, so that an
-- old RR acknowledges a message that nobody got.
use Rattle.std.specs.Prelude.{◌≡◌, refl, Bool, true, false, ℕ, List, [], ◌∷◌, ◌++◌}
use Rattle.std.proofs.Common.{arith, inl, inr}
use Rattle.std.proofs.lemmas.List.Elements.{All-nil}
use Rattle.lapdm_frame.specs.declared.Channel.TheVariants.{Sdcch}
use Rattle.lapdm_end.specs.lapdm_window.segmenting.Segments.{Message, Segment}
use Rattle.lapdm_end.specs.lapdm_window.Ends.{Role, Mobile, Network, initial_endpoint}
use Rattle.lapdm_end.specs.lapdm_window.Calls.{OpensWithoutInfo, Sends, Closes}
use Rattle.lapdm_end.specs.lapdm_window.declared.State.{State}
use Rattle.lapdm_end.specs.lapdm_window.declared.State.TheVariants.{Open, Closed}
use Rattle.lapdm_end.specs.lapdm_window.declared.Sapi.TheVariants.{Three}
use Rattle.lapdm_link.specs.Queues.{queue_of, empty_queues}
use Rattle.lapdm_datalink.specs.Links.{LinkState, link_with, first_frame}
use Rattle.lapdm_openings.specs.Pairs.{Pair, PairEvent, Calls, Passes, Slot, Arrives, initial_pair, after_event, IsRun}
use Rattle.lapdm_openings.specs.Pairs.{IsNoLinkChange, IsNoOpener}
use Rattle.lapdm_openings.specs.Openings.{Opening, new_opening, run_openings, WasGot, DeliversByOpenings}

-- an event, given the state in which it happens
abbrev Move : Type 0
Move = Pair → PairEvent

abbrev does : PairEvent → Move
does event p = event

-- the oldest frame in transit from this side arrives
abbrev comes : Role → Move
comes sender p = Arrives sender (first_frame (queue_of sender p.air))

abbrev played : List Move → Pair → List PairEvent
played [] p = []
played (move ∷ moves) p = move p ∷ played moves (after_event (move p) p)

abbrev start : Pair
start = initial_pair Sdcch (λ role. 1)

-- one frame of each side goes over the air
abbrev exchange : List Move
exchange = does (Slot Mobile) ∷ comes Mobile ∷ does (Slot Network) ∷ comes Network ∷ []

-- ---- the mobile opens the link, sends a message and releases it, opens it again, and both send one

abbrev opening : List Move
opening = does (Calls Mobile OpensWithoutInfo) ∷ exchange

abbrev sending : (octet : ℕ) → List Move
sending octet = does (Calls Mobile (Sends (octet ∷ []))) ∷ exchange

abbrev closing : List Move
closing = does (Calls Mobile Closes) ∷ exchange

abbrev answering : List Move
answering = does (Calls Network (Sends (7 ∷ []))) ∷ does (Slot Network) ∷ comes Network ∷ does (Slot Mobile) ∷ comes Mobile ∷ []

abbrev twice : List Move
twice = opening ++ (sending 5 ++ (closing ++ (opening ++ (sending 6 ++ answering))))

abbrev opening_with : (sent got : List Message) (acked : ℕ) → Opening
opening_with sent got acked = record { sent = sent; got = got; acked = acked }

mobile_openings : run_openings Mobile (played twice start) start
    ≡ opening_with ((6 ∷ []) ∷ []) ((7 ∷ []) ∷ []) 1 ∷ new_opening ∷ opening_with ((5 ∷ []) ∷ [])
    [] 1 ∷ new_opening ∷ new_opening ∷ []
mobile_openings = refl

network_openings : run_openings Network (played twice start) start
    ≡ opening_with ((7 ∷ []) ∷ []) ((6 ∷ []) ∷ []) 1 ∷ opening_with [] ((5 ∷ []) ∷ []) 0 ∷ new_opening ∷ []
network_openings = refl

-- ---- this is a run: its parts lead from one state in which nothing is under way to the next

abbrev after_moves : List Move → Pair → Pair
after_moves [] p = p
after_moves (move ∷ moves) p = after_moves moves (after_event (move p) p)

plays : (ms ns : List Move) (p q : Pair) → after_moves ms p ≡ q → IsRun (played ms p) p → IsRun (played ns q) q →
    IsRun (played (ms ++ ns) p) p
plays [] ns p q e h g = rw e g
plays (m ∷ ms) ns p q e h g = (h.0, plays ms ns (after_event (m p) p) q e h.1 g)

abbrev resting : (role : Role) (state : State) (messages : List Message) (count : ℕ) (accepted : List Segment) (heard : Bool)
    → LinkState
resting role state ms n qs heard = record (link_with (record (initial_endpoint role Three Sdcch) {
  state = state;
  messages = ms;
  acked_segments = n;
  sent_segments = n;
  accepted_segments = qs;
}) 1) { heard = heard }

-- a link that has sent a frame for which T200 runs
abbrev timed : LinkState → LinkState
timed l = record l { is_sent = true; clock = 1 }

abbrev between : (mobile network : LinkState) → Pair
between m n = record { mobile = m; network = n; air = empty_queues }

abbrev opened : Pair
opened = between (timed (resting Mobile Open [] 0 [] false)) (resting Network Open [] 0 [] false)

abbrev sent : ℕ → State → Pair
sent octet state = between (timed (resting Mobile state ((octet ∷ []) ∷ []) 1 [] true))
    (resting Network state [] 0 ((octet ∷ [], false) ∷ []) true)

no_again : {A : Type 0} → false ≡ true → A
no_again e = absurd cc

opens : IsRun (played opening start) start
opens = ((tt, refl, refl, no_again), (tt, ((refl, no_again), (tt, ((refl, no_again), tt)))))

sends : (octet : ℕ) → IsRun (played (sending octet) opened) opened
sends octet = ((tt, tt, refl, no_again), (tt, ((refl, no_again), (tt, ((refl, no_again), tt)))))

closes : IsRun (played closing (sent 5 Open)) (sent 5 Open)
closes = ((tt, tt, refl, no_again), (tt, ((refl, no_again), (tt, ((refl, no_again), tt)))))

opens_again : IsRun (played opening (sent 5 Closed)) (sent 5 Closed)
opens_again = (
  (tt, refl, refl, λ e. record { own = All-nil IsNoLinkChange; others = λ e. (All-nil IsNoOpener, tt) }),
  (tt, ((refl, λ e. record { sender = refl; answers = All-nil IsNoOpener }), (tt, ((refl, no_again), tt)))),
)

answered : IsRun (played answering (sent 6 Open)) (sent 6 Open)
answered = ((tt, tt, refl, no_again), (tt, ((refl, no_again), (tt, ((refl, no_again), tt)))))

is_run : IsRun (played twice start) start
is_run =
    plays opening (sending 5 ++ (closing ++ (opening ++ (sending 6 ++ answering)))) start opened refl opens
    (plays (sending 5) (closing ++ (opening ++ (sending 6 ++ answering))) opened (sent 5 Open) refl (sends 5)
    (plays closing (opening ++ (sending 6 ++ answering)) (sent 5 Open) (sent 5 Closed) refl closes
    (plays opening (sending 6 ++ answering) (sent 5 Closed) opened refl opens_again
    (plays (sending 6) answering opened (sent 6 Open) refl (sends 6) answered))))

-- ---- T200 expires before the UA comes, and two SABM are in transit. Layer 3 opens the open link again: the UA to the second SABM opens
-- it, and the RR to the first message acknowledges the second.

abbrev too_early : List Move
too_early = does (Calls Mobile OpensWithoutInfo) ∷ does (Slot Mobile) ∷ does (Passes Mobile) ∷ does (Slot Mobile) ∷ comes Mobile
    ∷ does (Slot Network) ∷ comes Network ∷ does (Calls Mobile (Sends (5 ∷ []))) ∷ does (Slot Mobile)
    ∷ does (Calls Mobile OpensWithoutInfo) ∷ comes Mobile ∷ does (Slot Network) ∷ comes Mobile ∷ does (Slot Network)
    ∷ does (Slot Mobile) ∷ comes Network ∷ does (Calls Mobile (Sends (6 ∷ []))) ∷ does (Slot Mobile) ∷ comes Network ∷ []

early_mobile : run_openings Mobile (played too_early start) start
    ≡ opening_with ((6 ∷ []) ∷ []) [] 1 ∷ new_opening ∷ opening_with ((5 ∷ []) ∷ [])
    [] 0 ∷ new_opening ∷ new_opening ∷ []
early_mobile = refl

early_network : run_openings Network (played too_early start) start ≡ opening_with [] ((5 ∷ []) ∷ []) 0 ∷ new_opening ∷ []
early_network = refl

early_breaks : DeliversByOpenings (played too_early start) start → ⊥
early_breaks h = by (h.acked Mobile).0
  where
    by : WasGot (opening_with ((6 ∷ []) ∷ []) [] 1) (opening_with [] ((5 ∷ []) ∷ []) 0 ∷ new_opening ∷ []) → ⊥
    by (inl (front, most)) = cc front.1
    by (inr (inl (front, most))) = omega (arith, most)
    by (inr (inr none)) = omega (arith, none)
