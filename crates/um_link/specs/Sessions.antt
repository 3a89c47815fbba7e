-- The worlds that a session reaches. A session is a list of events with their answers.
use Rattle.std.specs.Prelude.{ℕ, List, [], ◌∷◌, ◌++◌, Result}
use Rattle.lapdm_frame.specs.declared.Channel.{Channel}
use Rattle.um_air.specs.lapdm_link.Claims.{Claims, HasNoticesInOrder}
use Rattle.um_air.specs.Air.{Event, Answer, AirState, initial_session, IsAirRun, IsAirStep}
use Rattle.um_air.specs.Sessions.{IsBenign, AllEventsInvertFewBits, session_log}
use Rattle.um_link.specs.declared.events.No.{No}
use Rattle.um_link.specs.declared.events.Step.{Step}
use Rattle.um_link.specs.declared.links.WorldState.{WorldState}
use Rattle.um_link.specs.Naming.{spec_answer_of}
use Rattle.um_link.specs.Abstraction.{Represents, IsOnlyPossibleAnswer}

-- a session with these events and answers leads to state `a`, which the world represents
pub record IsWorldAfterEvents (tsc : ℕ) (channel : Channel) (events : List Event) (answers : List Answer) (a : AirState)
    (world : WorldState) : Type 0
  where
    pub run : IsAirRun (initial_session tsc channel) events answers a
    pub represents : Represents world a

-- if a session leads to the old world, the session extended by this event and its answer leads to the new world
abbrev pub ExtendsSession : (event : Event) (old : WorldState) (result : Result Step No) (new : WorldState) → Type 0
ExtendsSession event old result new =
    (tsc : ℕ) (channel : Channel) (events : List Event) (answers : List Answer) (a : AirState) →
    IsWorldAfterEvents tsc channel events answers a old →
    (b : AirState) × IsWorldAfterEvents tsc channel (events ++ event ∷ []) (answers ++ spec_answer_of result ∷ []) b new
    × IsAirStep a event b
    (spec_answer_of result)

-- if a session leads to the old world, the notices in the log of the session extended by this event are in order (`HasNoticesInOrder`)
abbrev pub KeepsNoticesInOrder : (event : Event) (old : WorldState) (result : Result Step No) → Type 0
KeepsNoticesInOrder event old result =
    (tsc : ℕ) (channel : Channel) (events : List Event) (answers : List Answer) (a : AirState) →
    IsWorldAfterEvents tsc channel events answers a old →
    HasNoticesInOrder (session_log (events ++ event ∷ []) (answers ++ spec_answer_of result ∷ []))

-- if a session leads to the old world, and the session extended by this event is benign, the claims about delivery (`Claims`) hold for the
-- extended session
abbrev pub KeepsReliableDelivery : (event : Event) (old : WorldState) (result : Result Step No) → Type 0
KeepsReliableDelivery event old result =
    (tsc : ℕ) (channel : Channel) (events : List Event) (answers : List Answer) (a : AirState) →
    IsWorldAfterEvents tsc channel events answers a old →
    IsBenign (events ++ event ∷ []) (answers ++ spec_answer_of result ∷ []) →
    Claims (session_log (events ++ event ∷ []) (answers ++ spec_answer_of result ∷ []))

-- if a session leads to the old world, the session extended by this event is benign, provided that at most three bits of each block are
-- inverted and messages consist of octets
abbrev pub FewInvertedBitsKeepSessionBenign : (event : Event) (old : WorldState) (result : Result Step No) → Type 0
FewInvertedBitsKeepSessionBenign event old result =
    (tsc : ℕ) (channel : Channel) (events : List Event) (answers : List Answer) (a : AirState) →
    IsWorldAfterEvents tsc channel events answers a old →
    AllEventsInvertFewBits (events ++ event ∷ []) → IsBenign (events ++ event ∷ []) (answers ++ spec_answer_of result ∷ [])

-- what holds of a session that leads to the old world, once the world has answered one more event: the answer is the only one that the
-- specification allows, and the session extended by the event keeps the promises of order and delivery
pub record ContinuesSession (event : Event) (old : WorldState) (result : Result Step No) (new : WorldState) : Type 0 where
  pub only : IsOnlyPossibleAnswer event old result
  pub extended : ExtendsSession event old result new
  pub order : KeepsNoticesInOrder event old result
  pub delivery : KeepsReliableDelivery event old result
  pub benign : FewInvertedBitsKeepSessionBenign event old result
