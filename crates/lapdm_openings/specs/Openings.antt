-- What layer 3 of each side knows of the openings of its link, and what is claimed of them.
use Rattle.std.specs.Prelude.{◌≡◌, ◌⊎◌, ◌≤◌, ◌+◌, ℕ, List, [], ◌∷◌, ◌++◌, length, map}
use Rattle.std.specs.Prelude.{if◌then◌else◌, Option, Some, None}
use Rattle.lapdm_frame.specs.Content.{Frame}
use Rattle.lapdm_end.specs.lapdm_window.segmenting.Segments.{Message}
use Rattle.lapdm_end.specs.lapdm_window.declared.Notice.{Notice}
use Rattle.lapdm_end.specs.lapdm_window.declared.Notice.TheVariants as N
use Rattle.lapdm_end.specs.lapdm_window.Ends.{Role}
use Rattle.lapdm_end.specs.lapdm_window.Calls.{Call, OpensWithoutInfo, Sends}
use Rattle.lapdm_link.specs.Events.{other}
use Rattle.lapdm_link.specs.Claims.{is_same_role, IsPrefix}
use Rattle.lapdm_datalink.specs.Links.{received_notices, slot_outcome}
use Rattle.lapdm_openings.specs.Pairs.{Pair, PairEvent, Calls, Releases, Passes, Slot, Arrives, link_of, after_event}

-- one opening of a link, as layer 3 of its side sees it: the messages that it sent and those that it got, in order, and how many of those
-- sent were reported as acknowledged
pub record Opening : Type 0 where
  pub sent : List Message
  pub got : List Message
  pub acked : ℕ

abbrev pub new_opening : Opening
new_opening = record { sent = []; got = []; acked = 0 }

-- what layer 3 sees: its call, its local release, or a notice
pub data Line : Type 0 where
  Asked : Call → Line
  Released : Line
  Told : Notice → Line

-- The openings after a line, the newest first. One begins where layer 3 opens the link or releases it locally, and where the link reports
-- that it is open; between a call that opens the link and that report nothing is sent and got.
abbrev pub after_line : Line → List Opening → List Opening
after_line (Asked OpensWithoutInfo) os = new_opening ∷ os
after_line Released os = new_opening ∷ os
after_line (Told (N.Opened info)) os = new_opening ∷ os
after_line (Asked (Sends m)) (o ∷ os) = record o { sent = o.sent ++ m ∷ [] } ∷ os
after_line (Told (N.Got m)) (o ∷ os) = record o { got = o.got ++ m ∷ [] } ∷ os
after_line (Told (N.Acked n)) (o ∷ os) = record o { acked = o.acked + 1 } ∷ os
after_line other os = os

abbrev pub after_lines : List Line → List Opening → List Opening
after_lines [] os = os
after_lines (line ∷ lines) os = after_lines lines (after_line line os)

-- what the side that acts in this event sees of it
abbrev pub told : List Notice → List Line
told ns = map Told ns

abbrev pub arrival_lines : Role → Option Frame → Pair → List Line
arrival_lines role None p = []
arrival_lines role (Some f) p = told (received_notices f (link_of role p))

-- what this side sees of an event
abbrev pub seen_by : Role → PairEvent → Pair → List Line
seen_by r (Calls role call) p = if is_same_role r role then Asked call ∷ [] else []
seen_by r (Releases role) p = if is_same_role r role then Released ∷ [] else []
seen_by r (Passes role) p = []
seen_by r (Slot role) p = if is_same_role r role then told (slot_outcome (link_of role p)).notices else []
seen_by r (Arrives sender arrived) p = if is_same_role r (other sender) then arrival_lines r arrived p else []

-- the openings of this side in a run, the newest first; the oldest is the time before the first
abbrev pub later_openings : Role → List PairEvent → Pair → List Opening → List Opening
later_openings r [] p os = os
later_openings r (event ∷ events) p os = later_openings r events (after_event event p) (after_lines (seen_by r event p) os)

abbrev pub run_openings : Role → List PairEvent → Pair → List Opening
run_openings r events p = later_openings r events p (new_opening ∷ [])

-- ---- claims

-- In each of its openings a side gets a prefix of what the other side sent in one of its openings, and these never go back. Newest first.
pub data Follows : (own others : List Opening) → Type 0 where
  none : Follows [] []
  -- the newest opening of the other side is not heard of
  unheard : {o : Opening} {os ps : List Opening} → Follows os ps → Follows os (o ∷ ps)
  -- nothing is got in the newest opening of this side
  silent : {o : Opening} {os ps : List Opening} → o.got ≡ [] → Follows os ps → Follows (o ∷ os) ps
  -- what is got in it was sent in the newest of the other side
  gets : {o p : Opening} {os ps : List Opening} → IsPrefix o.got p.sent → Follows os (p ∷ ps) → Follows (o ∷ os) (p ∷ ps)

-- the other side, in one of these openings, got of what was sent in this one at least as many messages as were acknowledged
abbrev pub WasGot : Opening → List Opening → Type 0
WasGot o [] = o.acked ≡ 0
WasGot o (p ∷ ps) = (IsPrefix p.got o.sent × (o.acked ≤ length p.got)) ⊎ WasGot o ps

abbrev pub WereGot : (own others : List Opening) → Type 0
WereGot [] ps = Unit {0}
WereGot (o ∷ os) ps = WasGot o ps × WereGot os ps

-- so it is for both sides
pub record DeliversByOpenings (events : List PairEvent) (pair : Pair) : Type 0 where
  pub in_order : (role : Role) → Follows (run_openings role events pair) (run_openings (other role) events pair)
  pub acked : (role : Role) → WereGot (run_openings role events pair) (run_openings (other role) events pair)
