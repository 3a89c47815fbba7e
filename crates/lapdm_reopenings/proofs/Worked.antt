-- Worked runs of the link of SAPI 0 with normal establishment: two openings with a message in each, a UI frame and a local release between
-- them; and one in which layer 3 opens the link again while an old SABM is in transit, so that an old RR acknowledges a message that nobody
-- got.
use Rattle.std.specs.Prelude.{◌≡◌, refl, Bool, true, false, ℕ, List, [], ◌∷◌, ◌++◌}
use Rattle.std.proofs.Common.{arith, inl, inr}
use Rattle.std.proofs.lemmas.List.Elements.{All-nil}
use Rattle.lapdm_frame.specs.declared.Channel.TheVariants.{Sdcch}
use Rattle.lapdm_end.specs.lapdm_window.declared.Sapi.TheVariants.{Zero, Three}
use Rattle.lapdm_end.specs.lapdm_window.declared.State.TheVariants.{Open}
use Rattle.lapdm_end.specs.lapdm_window.segmenting.Segments.{Message, Segment}
use Rattle.lapdm_end.specs.lapdm_window.Ends.{Role, Mobile, Network, initial_endpoint}
use Rattle.lapdm_end.specs.lapdm_window.Calls.{OpensWithoutInfo, Sends}
use Rattle.lapdm_link.specs.Queues.{queue_of, empty_queues}
use Rattle.lapdm_datalink.specs.Links.{LinkState, link_with, first_frame}
use Rattle.lapdm_datalink.specs.declared.data_links.Establishment.TheVariants.{Normal}
use Rattle.lapdm_delivery.specs.Runs.{RunState, Calls, Slot, UnitSlot, Arrives, initial_run}
use Rattle.lapdm_openings.specs.Pairs.{IsNoLinkChange, IsNoOpener}
use Rattle.lapdm_openings.specs.Openings.{Opening, new_opening, WasGot}
use Rattle.lapdm_reopenings.specs.Reopenings.{Event, Does, Releases, after_event, IsRun, run_openings, DeliversInEachOpening}

-- an event, given the state in which it happens
abbrev Move : Type 0
Move = RunState → Event

abbrev does : Event → Move
does event c = event

-- layer 3 of the mobile opens the link, or sends a message of one octet
abbrev opens : Move
opens c = Does (Calls Mobile Zero OpensWithoutInfo)

abbrev sends : ℕ → Move
sends octet c = Does (Calls Mobile Zero (Sends (octet ∷ [])))

abbrev slot : Role → Move
slot role c = Does (Slot role)

-- the oldest frame in transit from this side arrives
abbrev comes : Role → Move
comes sender c = Does (Arrives sender (first_frame (queue_of sender c.air)))

abbrev played : List Move → RunState → List Event
played [] c = []
played (move ∷ moves) c = move c ∷ played moves (after_event (move c) c)

abbrev start : RunState
start = initial_run Sdcch Normal (λ role sapi. 1)

-- one frame of each side goes over the air
abbrev exchange : List Move
exchange = slot Mobile ∷ comes Mobile ∷ slot Network ∷ comes Network ∷ []

abbrev opening_with : (sent got : List Message) (acked : ℕ) → Opening
opening_with sent got acked = record { sent = sent; got = got; acked = acked }

-- ---- two openings

-- a UI frame goes out, and layer 3 of the mobile releases the link locally
abbrev ending : List Move
ending = does (Does (UnitSlot Mobile Zero (9 ∷ []))) ∷ comes Mobile ∷ does (Releases Mobile Zero) ∷ []

abbrev twice : List Move
twice = opens ∷ exchange ++ (sends 5 ∷ exchange ++ (ending ++ (opens ∷ exchange ++ (sends 6 ∷ exchange))))

mobile_openings : run_openings Mobile Zero (played twice start) start
    ≡ opening_with ((6 ∷ []) ∷ []) [] 1 ∷ new_opening ∷ new_opening ∷ opening_with ((5 ∷ []) ∷ [])
    [] 1 ∷ new_opening ∷ new_opening ∷ []
mobile_openings = refl

network_openings : run_openings Network Zero (played twice start) start
    ≡ opening_with [] ((6 ∷ []) ∷ []) 0 ∷ opening_with [] ((5 ∷ []) ∷ []) 0 ∷ new_opening ∷ []
network_openings = refl

-- ---- this is a run: its parts lead from one state in which nothing is in transit to the next

abbrev after_moves : List Move → RunState → RunState
after_moves [] c = c
after_moves (move ∷ moves) c = after_moves moves (after_event (move c) c)

plays : (ms ns : List Move) (c d : RunState) → after_moves ms c ≡ d → IsRun Zero (played ms c) c → IsRun Zero (played ns d) d →
    IsRun Zero (played (ms ++ ns) c) c
plays [] ns c d e h g = rw e g
plays (m ∷ ms) ns c d e h g = (h.0, plays ms ns (after_event (m c) c) d e h.1 g)

abbrev fresh : Role → LinkState
fresh role = link_with (initial_endpoint role Three Sdcch) 1

-- an open link that sent these messages, which were acknowledged, and accepted these segments
abbrev open_link : Role → List Message → ℕ → List Segment → (heard : Bool) → LinkState
open_link role ms n qs heard = record (link_with (record (initial_endpoint role Three Sdcch) {
  state = Open;
  messages = ms;
  acked_segments = n;
  sent_segments = n;
  accepted_segments = qs;
}) 1) { heard = heard }

-- a link that has sent a frame for which T200 runs
abbrev timed : LinkState → LinkState
timed l = record l { is_sent = true; clock = 1 }

-- the data links with these links of SAPI 0; the mobile heard a frame of SAPI 0 last, or did not
abbrev between : (mobile network : LinkState) (heard : Bool) → RunState
between m n heard = record {
  mobile = record { link0 = m; link3 = fresh Mobile; heard_sapi0 = heard; is_main_established = false };
  network = record { link0 = n; link3 = fresh Network; heard_sapi0 = false; is_main_established = false };
  air = empty_queues;
}

abbrev opened : RunState
opened = between (timed (open_link Mobile [] 0 [] false)) (open_link Network [] 0 [] false) true

abbrev sent : RunState
sent = between (timed (open_link Mobile ((5 ∷ []) ∷ []) 1 [] true)) (open_link Network [] 0 ((5 ∷ [], false) ∷ []) true) true

abbrev released : RunState
released = between (fresh Mobile) (open_link Network [] 0 ((5 ∷ [], false) ∷ []) true) false

no_again : {A : Type 0} → false ≡ true → A
no_again e = absurd cc

opens_first : IsRun Zero (played (opens ∷ exchange) start) start
opens_first = ((tt, refl, refl, λ same. no_again), (tt, ((refl, λ taker. no_again), (tt, ((refl, λ taker. no_again), tt)))))

sends_one : (octet : ℕ) → IsRun Zero (played (sends octet ∷ exchange) opened) opened
sends_one octet = ((tt, tt, refl, λ same. no_again), (tt, ((refl, λ taker. no_again), (tt, ((refl, λ taker. no_again), tt)))))

ends : IsRun Zero (played ending sent) sent
ends = (
  (refl, refl),
  ((refl, λ taker. no_again), (λ same. record { own = All-nil IsNoLinkChange; others = λ e. (All-nil IsNoOpener, tt) }, tt)),
)

opens_again : IsRun Zero (played (opens ∷ exchange) released) released
opens_again = ((tt, refl, refl, λ same. no_again), (tt, ((refl, λ taker. no_again), (tt, ((refl, λ taker. no_again), tt)))))

is_run : IsRun Zero (played twice start) start
is_run =
    plays (opens ∷ exchange) (sends 5 ∷ exchange ++ (ending ++ (opens ∷ exchange ++ (sends 6 ∷ exchange)))) start opened refl
    opens_first
    (plays (sends 5 ∷ exchange) (ending ++ (opens ∷ exchange ++ (sends 6 ∷ exchange))) opened sent refl (sends_one 5)
    (plays ending (opens ∷ exchange ++ (sends 6 ∷ exchange)) sent released refl ends
    (plays (opens ∷ exchange) (sends 6 ∷ exchange) released opened refl opens_again (sends_one 6))))

-- ---- an opening too early

abbrev too_early : List Move
too_early = opens ∷ slot Mobile ∷ slot Mobile ∷ comes Mobile ∷ slot Network ∷ comes Network ∷ sends 5 ∷ slot Mobile
    ∷ opens ∷ comes Mobile ∷ slot Network ∷ comes Mobile ∷ slot Network ∷ slot Mobile ∷ comes Network ∷ sends 7
    ∷ slot Mobile ∷ comes Network ∷ []

early_mobile : run_openings Mobile Zero (played too_early start) start
    ≡ opening_with ((7 ∷ []) ∷ []) [] 1 ∷ new_opening ∷ opening_with ((5 ∷ []) ∷ [])
    [] 0 ∷ new_opening ∷ new_opening ∷ []
early_mobile = refl

early_network : run_openings Network Zero (played too_early start) start ≡ opening_with [] ((5 ∷ []) ∷ []) 0 ∷ new_opening ∷ []
early_network = refl

early_breaks : DeliversInEachOpening Zero (played too_early start) start → ⊥
early_breaks h = by (h.acked Mobile).0
  where
    by : WasGot (opening_with ((7 ∷ []) ∷ []) [] 1) (opening_with [] ((5 ∷ []) ∷ []) 0 ∷ new_opening ∷ []) → ⊥
    by (inl (front, most)) = cc front.1
    by (inr (inl (front, most))) = omega (arith, most)
    by (inr (inr none)) = omega (arith, none)
