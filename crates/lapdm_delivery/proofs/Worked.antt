-- Worked runs: a lost I frame, UI frames, normal establishment by both sides at once, and a link that is opened twice, for which the claims
-- fail.
use Rattle.{
  std.proofs.Common.{arith, ◌++◌, ◌≡◌, refl, List, [], ◌∷◌, None},
  lapdm_frame.specs.declared.Channel.TheVariants.Sdcch,
  lapdm_end.specs.lapdm_window.{
    declared.Sapi.TheVariants.{Zero, Three},
    Ends.{Role, Mobile, Network},
    Calls.{Opens, OpensWithoutInfo, Sends, SendsUi, Closes},
  },
  lapdm_link.specs.{Queues.queue_of, Claims.{LogLine, Asked, Notified, Claims}},
  lapdm_datalink.specs.{Links.first_frame, declared.data_links.Establishment.TheVariants.{Contention, Normal}},
  lapdm_delivery.specs.Runs.{RunState, RunEvent, Calls, Slot, UnitSlot, Arrives, initial_run, after_event, IsRun, run_log},
}
use Rattle.lapdm_end.specs.lapdm_window.declared.Notice.TheVariants as N
use Rattle.lapdm_end.specs.lapdm_window.declared.Reason.TheVariants as R

-- an event, or the arrival of the oldest frame in transit
data Move : Type 0 where
  Happens : RunEvent → Move
  Comes : (sender : Role) → Move

abbrev event_of : Move → RunState → RunEvent
event_of (Happens event) r = event
event_of (Comes sender) r = Arrives sender (first_frame (queue_of sender r.air))

abbrev played : List Move → RunState → List RunEvent
played [] r = []
played (move ∷ moves) r = event_of move r ∷ played moves (after_event (event_of move r) r)

abbrev start : RunState
start = initial_run Sdcch Contention (λ role sapi. 2)

abbrev notified_from : RunState → List Move → List LogLine
notified_from r moves = run_log (played moves r) r

abbrev notified : List Move → List LogLine
notified moves = notified_from start moves

-- one frame of each side goes over the air
abbrev exchange : List Move
exchange = Happens (Slot Mobile) ∷ Comes Mobile ∷ Happens (Slot Network) ∷ Comes Network ∷ []

abbrev opening : List Move
opening = Happens (Calls Mobile Zero (Opens (1 ∷ []))) ∷ exchange

abbrev opened : List LogLine
opened = Asked Mobile Zero (Opens (1 ∷ [])) ∷ Notified Network Zero (N.Opened (1 ∷ []))
    ∷ Notified Mobile Zero (N.Opened (1 ∷ [])) ∷ []

-- ---- the first I frame is lost: T200 of two slots expires, and the frame is repeated

abbrev losing : List Move
losing = opening ++ Happens (Calls Mobile Zero (Sends (5 ∷ []))) ∷ Happens (Slot Mobile) ∷ Happens (Arrives Mobile None)
    ∷ Happens (Slot Mobile) ∷ exchange

is_run : IsRun (played losing start) start
is_run = (
  (tt, (refl, refl), refl),
  (
    tt,
    (
      (refl, refl),
      (tt, ((refl, refl), ((tt, tt, refl), (tt, ((tt, tt), (tt, (tt, ((refl, refl), (tt, ((refl, refl), tt)))))))))),
    ),
  ),
)

repeated : notified losing ≡ opened ++ Asked Mobile Zero (Sends (5 ∷ [])) ∷ Notified Network Zero (N.Got (5 ∷ []))
    ∷ Notified Mobile Zero (N.Acked 1) ∷ []
repeated = refl

-- ---- a UI frame in a free slot

unit : notified (Happens (UnitSlot Mobile Zero (4 ∷ [])) ∷ Comes Mobile ∷ []) ≡ Asked Mobile Zero (SendsUi (4 ∷ []))
    ∷ Notified Network Zero (N.Unit (4 ∷ [])) ∷ []
unit = refl

-- ---- normal establishment of SAPI 0: both sides open it at once, each answers the SABM of the other, and a message arrives

abbrev both_open : List Move
both_open = Happens (Calls Mobile Zero OpensWithoutInfo) ∷ Happens (Calls Network Zero OpensWithoutInfo) ∷ Happens (Slot Mobile)
    ∷ Happens (Slot Network) ∷ Comes Mobile ∷ Comes Network
    ∷ exchange ++ Happens (Calls Mobile Zero (Sends (5 ∷ []))) ∷ exchange

both : notified_from (initial_run Sdcch Normal (λ role sapi. 4)) both_open ≡ Asked Mobile Zero OpensWithoutInfo
    ∷ Asked Network Zero OpensWithoutInfo ∷ Notified Network Zero (N.Opened []) ∷ Notified Mobile Zero (N.Opened [])
    ∷ Asked Mobile Zero (Sends (5 ∷ [])) ∷ Notified Network Zero (N.Got (5 ∷ [])) ∷ Notified Mobile Zero (N.Acked 1) ∷ []
both = refl

-- ---- SAPI 3 is opened again after its release: the links are established twice

abbrev opened_twice : List Move
opened_twice = opening ++ Happens (Calls Mobile Three OpensWithoutInfo) ∷ exchange ++ Happens (Calls Mobile Three Closes) ∷ exchange
    ++ Happens (Calls Mobile Three OpensWithoutInfo) ∷ Happens (Slot Mobile) ∷ Comes Mobile ∷ []

twice : notified opened_twice ≡ opened ++ Asked Mobile Three OpensWithoutInfo ∷ Notified Network Three (N.Opened [])
    ∷ Notified Mobile Three (N.Opened []) ∷ Asked Mobile Three Closes ∷ Notified Network Three (N.Closed R.Released)
    ∷ Notified Mobile Three (N.Closed R.Released) ∷ Asked Mobile Three OpensWithoutInfo ∷ Notified Network Three (N.Opened []) ∷ []
twice = refl

twice_breaks : Claims (notified opened_twice) → ⊥
twice_breaks h = omega (arith, h.established_once Network Three)
