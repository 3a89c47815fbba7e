-- Worked examples of sessions, and for each claim a log that violates it.
use Rattle.{
  std.proofs.Common.{◌≡◌, refl, arith, ℕ, false, List, [], ◌∷◌, ◌++◌, replicate, Option, Some, None, true},
  lapdm_window.specs.{
    lapdm_frame.{declared.Channel.TheVariants.Sdcch, Content.{I, Ui, Frame}},
    segmenting.{Segments.Message, lapdm_frame.{Content.Sabm, Frames.{IsFrameCoding, octets_of}, declared.Channel.TheVariants.Sacch}},
    declared.Sapi.TheVariants.{Zero, Three},
    Ends.{Role, Mobile, Network},
    Calls.{Opens, OpensWithoutInfo, Sends, SendsUi, Closes, T200Expires},
  },
  lapdm_link.specs.{
    Queues.queue_of,
    Events.{Event, Send, Close, T200Expiry, Open, OpenBare, Ask, Deliver, Lose, Rival, SendUi, unbounded_capacity},
    Worlds.{World, initial_world, initial_session, world_after, answers, IsBenign},
    Claims.{LogLine, Asked, RivalSabm, Notified, session_log, Claims, HasNoticesInOrder},
  },
}
use Rattle.lapdm_window.specs.declared.Notice.TheVariants as N
use Rattle.lapdm_window.specs.declared.Reason.TheVariants as R

-- an event, or the arrival of the oldest frame in transit exactly as it was sent
data Move : Type 0 where
  Happens : Event → Move
  Arrives : Role → Move

abbrev first : List Frame → Option Frame
first [] = None
first (f ∷ fs) = Some f

abbrev event_of : Move → World → Event
event_of (Happens event) w = event
event_of (Arrives sender) w = Deliver sender (first (queue_of sender w.queues))

abbrev played : List Move → World → List Event
played [] w = []
played (move ∷ plain_step) w = event_of move w ∷ played plain_step (world_after (event_of move w) w)

abbrev lines_of : List Event → List LogLine
lines_of events = session_log events (answers events (initial_session Sdcch))

abbrev notified : List Move → List LogLine
notified plain_step = lines_of (played plain_step (initial_session Sdcch))

-- ---- contention resolution: another mobile's SABM arrives first, so the UA has other information and this mobile gives up

contention : notified (Happens (Rival (7 ∷ [])) ∷ Happens (Open (1 ∷ [])) ∷ Arrives Mobile ∷ Arrives Mobile ∷ Arrives Network
    ∷ []) ≡ RivalSabm (7 ∷ []) ∷ Asked Mobile Zero (Opens (1 ∷ [])) ∷ Notified Network Zero (N.Opened (7 ∷ []))
    ∷ Notified Mobile Zero (N.Closed R.Contention) ∷ []
contention = refl

abbrev opening : List Move
opening = Happens (Open (1 ∷ [])) ∷ Arrives Mobile ∷ Arrives Network ∷ []

abbrev opened : List LogLine
opened = Asked Mobile Zero (Opens (1 ∷ [])) ∷ Notified Network Zero (N.Opened (1 ∷ [])) ∷ Notified Mobile Zero (N.Opened (1 ∷ []))
    ∷ []

-- ---- a message of three segments: the second segment is lost, and is sent again at T200 expiry

abbrev long : Message
long = replicate 41 9

segments : notified (opening ++ Happens (Ask Mobile Zero (Send long)) ∷ Arrives Mobile ∷ Arrives Network ∷ Happens (Lose Mobile)
    ∷ Happens (Ask Mobile Zero T200Expiry) ∷ Arrives Mobile ∷ Arrives Network ∷ Arrives Mobile ∷ Arrives Network ∷ [])
    ≡ opened ++ Asked Mobile Zero (Sends long) ∷ Asked Mobile Zero T200Expires ∷ Notified Network Zero (N.Got long)
    ∷ Notified Mobile Zero (N.Acked 1) ∷ []
segments = refl

-- ---- T200 expires too early: each segment arrives twice; the second arrival is answered by a REJ, which makes the sender repeat the next
-- segment

crossing : notified (opening
    ++ Happens (Ask Mobile Zero (Send (5 ∷ []))) ∷ Happens (Ask Mobile Zero T200Expiry) ∷ Arrives Mobile ∷ Arrives Mobile ∷
    Happens (Ask Mobile Zero (Send (6 ∷ []))) ∷ Arrives Network ∷ Arrives Network
    ∷ Arrives Mobile ∷ Arrives Mobile ∷ Arrives Network ∷ Arrives Network ∷ [])
    ≡ opened ++ Asked Mobile Zero (Sends (5 ∷ [])) ∷ Asked Mobile Zero T200Expires ∷ Notified Network Zero (N.Got (5 ∷ []))
    ∷ Asked Mobile Zero (Sends (6 ∷ [])) ∷ Notified Mobile Zero (N.Acked 1)
    ∷ Notified Network Zero (N.Got (6 ∷ [])) ∷ Notified Mobile Zero (N.Acked 2) ∷ []
crossing = refl

-- ---- both sides establish SAPI 3 at the same time

collision : notified (Happens (OpenBare Mobile) ∷ Happens (OpenBare Network) ∷ Arrives Mobile ∷ Arrives Network ∷ Arrives Mobile
    ∷ Arrives Network ∷ Happens (Ask Mobile Three (Send (5 ∷ []))) ∷ Arrives Mobile ∷ Arrives Network ∷ [])
    ≡ Asked Mobile Three OpensWithoutInfo ∷ Asked Network Three OpensWithoutInfo ∷ Notified Network Three (N.Opened []) ∷ Notified
    Mobile Three (N.Opened []) ∷ Asked Mobile Three (Sends (5 ∷ []))
    ∷ Notified Network Three (N.Got (5 ∷ [])) ∷ Notified Mobile Three (N.Acked 1) ∷ []
collision = refl

-- ---- the mobile releases the link, and both endpoints report the release

release : notified (opening ++ Happens (Ask Mobile Zero Close) ∷ Arrives Mobile ∷ Arrives Network ∷ [])
    ≡ opened ++ Asked Mobile Zero Closes ∷ Notified Network Zero (N.Closed R.Released) ∷ Notified Mobile Zero (N.Closed R.Released)
    ∷ []
release = refl

-- ---- a session is benign if frames arrive as they were sent; if another message arrives in place of a frame, the claims about delivery
-- fail

abbrev sending : List Event
sending = played (opening ++ Happens (Ask Mobile Zero (Send (2 ∷ []))) ∷ []) (initial_session Sdcch)

abbrev segment : ℕ → Frame
segment octet = record { sapi = 0; cr = false; content = I 0 0 false false (octet ∷ []) }

is_harmless : IsBenign (sending ++ Deliver Mobile (Some (segment 2)) ∷ []) (initial_session Sdcch)
is_harmless = (tt, (refl, (refl, (tt, (refl, tt)))))

forged : lines_of (sending ++ Deliver Mobile (Some (segment 3)) ∷ []) ≡ opened ++ Asked Mobile Zero (Sends (2 ∷ []))
    ∷ Notified Network Zero (N.Got (3 ∷ [])) ∷ []
forged = refl

forged_breaks : Claims (lines_of (sending ++ Deliver Mobile (Some (segment 3)) ∷ [])) → ⊥
forged_breaks h = let e : (3 ∷ []) ∷ (h.in_order Mobile Zero).0 ≡ (2 ∷ []) ∷ [] = (h.in_order Mobile Zero).1 in cc e

-- ---- each premise is needed: the claims fail if a frame arrives twice, or before an older one (queues of unlimited length allow this), or
-- if frames were in transit or links open before the session

abbrev moved : List Move → World → World
moved [] w = w
moved (move ∷ plain_step) w = moved plain_step (world_after (event_of move w) w)

abbrev notified_from : World → List Move → List LogLine
notified_from w plain_step = let events = played plain_step w in session_log events (answers events w)

abbrev unbounded_world : World
unbounded_world = initial_world unbounded_capacity Sdcch

abbrev sends_unit : ℕ → Move
sends_unit octet = Happens (Ask Mobile Zero (SendUi (octet ∷ [])))

abbrev given : ℕ → Move
given octet = Happens (Deliver Mobile (Some (record { sapi = 0; cr = false; content = Ui false (octet ∷ []) })))

given_twice : notified_from unbounded_world (sends_unit 4 ∷ given 4 ∷ given 4 ∷ []) ≡ Asked Mobile Zero (SendsUi
    (4 ∷ [])) ∷ Notified Network Zero (N.Unit (4 ∷ [])) ∷ Notified Network Zero (N.Unit (4 ∷ [])) ∷ []
given_twice = refl

given_twice_breaks : Claims (notified_from unbounded_world (sends_unit 4 ∷ given 4 ∷ given 4 ∷ [])) → ⊥
given_twice_breaks h = grind (arith, h.ui_in_order Mobile Zero)

out_of_order : notified_from unbounded_world (sends_unit 4 ∷ sends_unit 5 ∷ given 5 ∷ given 4 ∷ []) ≡
    Asked Mobile Zero (SendsUi (4 ∷ []))
    ∷ Asked Mobile Zero (SendsUi (5 ∷ [])) ∷ Notified Network Zero (N.Unit (5 ∷ [])) ∷ Notified Network Zero (N.Unit (4 ∷ []))
    ∷ []
out_of_order = refl

out_of_order_breaks : Claims (notified_from unbounded_world (sends_unit 4 ∷ sends_unit 5 ∷ given 5 ∷ given 4 ∷ [])) → ⊥
out_of_order_breaks h = grind (arith, h.ui_in_order Mobile Zero)

-- the octets of this UI frame of SAPI 3 on SDCCH are on SACCH, after two layer 1 octets, a SABM of SAPI 3
abbrev unit_on_sdcch : Frame
unit_on_sdcch = record { sapi = 3; cr = false; content = Ui false (0x3f ∷ 1 ∷ 0 ∷ []) }

abbrev sabm_on_sacch : Frame
sabm_on_sacch = record { sapi = 3; cr = false; content = Sabm true [] }

read_on_sacch : IsFrameCoding Sacch sabm_on_sacch (octets_of Sdcch unit_on_sdcch)
read_on_sacch = record {
  count = refl;
  fits = record { sapi = omega arith; ns_nr_fit = tt; information = omega arith };
  address_matches = refl;
  control_matches = refl;
  length_matches = refl;
  information_matches = refl;
}

-- so if the two ends of a link have different channels, the network opens a link that no mobile has asked for
abbrev read_on_another_channel : List Move
read_on_another_channel =
    Happens (Ask Mobile Three (SendUi (0x3f ∷ 1 ∷ 0 ∷ []))) ∷ Happens (Deliver Mobile (Some sabm_on_sacch)) ∷ []

other_channel : notified_from unbounded_world read_on_another_channel ≡
    Asked Mobile Three (SendsUi (0x3f ∷ 1 ∷ 0 ∷ [])) ∷ Notified Network Three (N.Opened []) ∷ []
other_channel = refl

other_channel_breaks : Claims (notified_from unbounded_world read_on_another_channel) → ⊥
other_channel_breaks h =
    grind (arith, h.establishment_trigger Network Three [] (Asked Mobile Three (SendsUi (0x3f ∷ 1 ∷ 0 ∷ [])) ∷ []) ([], refl))

-- a state in which the network's UA from an earlier establishment is still in transit
abbrev with_old_ua : World
with_old_ua = record (initial_session Sdcch) {
  queues = (moved (Happens (Open (1 ∷ [])) ∷ Arrives Mobile ∷ []) (initial_session Sdcch)).queues;
}

stale_answer : notified_from with_old_ua (Happens (Open (1 ∷ [])) ∷ Arrives Network ∷ []) ≡ Asked Mobile Zero (Opens
    (1 ∷ [])) ∷ Notified Mobile Zero (N.Opened (1 ∷ [])) ∷ []
stale_answer = refl

stale_answer_breaks : Claims (notified_from with_old_ua (Happens (Open (1 ∷ [])) ∷ Arrives Network ∷ [])) → ⊥
stale_answer_breaks h =
    grind (arith, (h.establishment_trigger Mobile Zero (1 ∷ []) (Asked Mobile Zero (Opens (1 ∷ [])) ∷ []) ([], refl)).0)

-- a state in which both endpoints are open before the session begins
abbrev restored : World
restored = record (initial_session Sdcch) { ends = (moved opening (initial_session Sdcch)).ends }

open_before : notified_from restored (Happens (Ask Mobile Zero (Send (2 ∷ []))) ∷ Arrives Mobile ∷ []) ≡
    Asked Mobile Zero (Sends (2 ∷ [])) ∷ Notified Network Zero (N.Got (2 ∷ [])) ∷ []
open_before = refl

open_before_breaks : HasNoticesInOrder (notified_from restored (Happens (Ask Mobile Zero (Send (2 ∷ []))) ∷ Arrives Mobile ∷ []))
    → ⊥
open_before_breaks h = omega (
  arith,
  (h.only_while_open Network Zero (N.Got (2 ∷ [])) (Asked Mobile Zero (Sends (2 ∷ [])) ∷ []) tt ([], refl)).opened_once,
)

-- ---- logs that violate the other claims about delivery

early_acknowledgement : Claims (Notified Mobile Zero (N.Acked 1) ∷ []) → ⊥
early_acknowledgement h = omega (arith, (h.acked_in_order Mobile Zero 1 [] ([], refl)).1)

unit_from_nowhere : Claims (Notified Network Zero (N.Unit (3 ∷ [])) ∷ []) → ⊥
unit_from_nowhere h = let e : (3 ∷ []) ∷ [] ≡ [] = h.ui_in_order Mobile Zero in cc e

opened_alone : Claims (Notified Mobile Zero (N.Opened (1 ∷ [])) ∷ []) → ⊥
opened_alone h = (let cause = h.establishment_trigger _ _ _ [] ([], refl) in omega (arith, cause.0.1))

opened_by_nobody : Claims (Notified Network Zero (N.Opened (1 ∷ [])) ∷ []) → ⊥
opened_by_nobody h = grind (arith, h.establishment_trigger Network Zero (1 ∷ []) [] ([], refl))

opened_unasked : Claims (Notified Mobile Three (N.Opened []) ∷ []) → ⊥
opened_unasked h = grind (arith, h.establishment_trigger Mobile Three [] [] ([], refl))

opened_twice : Claims (Notified Mobile Zero (N.Opened []) ∷ Notified Mobile Zero (N.Opened []) ∷ []) → ⊥
opened_twice h = omega (arith, h.established_once Mobile Zero)

too_long : Claims (Notified Mobile Zero N.Oversize ∷ []) → ⊥
too_long h = h.no_oversize Mobile Zero [] ([], refl)

-- ---- logs that violate the claims about order

acknowledged_unsent : HasNoticesInOrder (Notified Mobile Zero (N.Acked 1) ∷ []) → ⊥
acknowledged_unsent h = omega (arith, (h.acked_in_order Mobile Zero 1 [] ([], refl)).1)

wrong_number : HasNoticesInOrder (Asked Mobile Zero (Sends []) ∷ Notified Mobile Zero (N.Acked 2) ∷ []) → ⊥
wrong_number h = cc (h.acked_in_order Mobile Zero 2 (Asked Mobile Zero (Sends []) ∷ []) ([], refl)).0

opened_again : HasNoticesInOrder (Notified Mobile Zero (N.Opened []) ∷ Notified Mobile Zero (N.Opened []) ∷ []) → ⊥
opened_again h = omega (arith, h.established_once Mobile Zero)

closed_again : HasNoticesInOrder (Notified Mobile Zero (N.Closed R.Failed) ∷ Notified Mobile Zero (N.Closed R.Failed) ∷ []) → ⊥
closed_again h = omega (arith, h.closed_once Mobile Zero)

delivered_unopened : HasNoticesInOrder (Notified Mobile Zero (N.Got []) ∷ []) → ⊥
delivered_unopened h = omega (arith, (h.only_while_open Mobile Zero (N.Got []) [] tt ([], refl)).opened_once)

abbrev an_open_end : List LogLine
an_open_end = Notified Mobile Zero (N.Opened []) ∷ []

delivered_when_closed : HasNoticesInOrder (an_open_end ++ Notified Mobile Zero (N.Closed R.Failed) ∷ Notified Mobile Zero (N.Got [])
    ∷ []) → ⊥
delivered_when_closed h =
    let before = an_open_end ++ Notified Mobile Zero (N.Closed R.Failed) ∷ [] in
    (h.only_while_open _ _ _ before tt ([], refl)).not_closed R.Failed (1, omega arith, refl)

delivered_when_closing : HasNoticesInOrder (an_open_end ++ Asked Mobile Zero Closes ∷ Notified Mobile Zero (N.Got []) ∷ []) → ⊥
delivered_when_closing h =
    let before = an_open_end ++ Asked Mobile Zero Closes ∷ [] in
    (h.only_while_open _ _ _ before tt ([], refl)).release_not_requested (1, omega arith, refl)
