-- Worked examples of sessions of two endpoints whose frames arrive in order or are lost.
use Rattle.{
  std.proofs.Common.{Err, List, Ok, Result, [], drop, false, map, refl, replicate, suc, true, zero, ℕ, ◌%◌, ◌++◌, ◌-◌},
  std.proofs.Common.{◌/◌, ◌^◌, ◌∷◌, ◌≡◌},
  segmenting.specs.{
    lapdm_frame.{declared.Channel.{Channel, TheVariants.{Sdcch, Sacch}}, Content.{Sabm, Frame}, Frames.octets_of},
    Segments.Message,
  },
  lapdm_window.specs.{
    declared.{Sapi.TheVariants.Zero, Notice.Notice, Refused.Refused},
    Ends.{EndpointState, initial_endpoint, Mobile, Network, Outcome},
    Calls.{Call, Opens, Sends, Closes, T200Expires},
    Steps.{Asked, Received, step},
  },
}
use Rattle.lapdm_window.specs.declared.Notice.TheVariants as N
use Rattle.lapdm_window.specs.declared.Reason.TheVariants as R
use Rattle.lapdm_window.specs.declared.Refused.TheVariants as No
use Rattle.lapdm_window.specs.declared.State.TheVariants as S

data Event : Type 0 where
  Mob : Call → Event
  Net : Call → Event
  Up : Event
  Down : Event
  LoseUp : Event
  LoseDown : Event
  Rival : Message → Event

record Pair : Type 0 where
  mobile : EndpointState
  network : EndpointState
  up : List Frame
  down : List Frame

-- the visible result of an event: the notices and the blocks sent, or the reason for the refusal
abbrev Seen : Type 0
Seen = Result (List Notice × List (List ℕ)) Refused

abbrev seen_in : Channel → Result Outcome Refused → Seen
seen_in channel (Ok o) = Ok (o.notices, map (octets_of channel) o.frames)
seen_in channel (Err refusal) = Err refusal

abbrev with_mobile : Result Outcome Refused → Pair → Pair
with_mobile (Ok o) p = record p { mobile = o.new_state; up = p.up ++ o.frames }
with_mobile (Err refusal) p = p

abbrev with_network : Result Outcome Refused → Pair → Pair
with_network (Ok o) p = record p { network = o.new_state; down = p.down ++ o.frames }
with_network (Err refusal) p = p

-- the step in which an endpoint receives the oldest frame in transit
abbrev step_on_oldest : List Frame → EndpointState → Result Outcome Refused
step_on_oldest [] e = Err No.NotRunning
step_on_oldest (f ∷ fs) e = step (Received f) e

abbrev nothing : Seen
nothing = Ok ([], [])

abbrev rival : Message → Frame
rival info = record { sapi = 0; cr = false; content = Sabm true info }

abbrev seen_at : Event → Pair → Seen
seen_at (Mob call) p = seen_in p.mobile.channel (step (Asked call) p.mobile)
seen_at (Net call) p = seen_in p.network.channel (step (Asked call) p.network)
seen_at Up p = seen_in p.network.channel (step_on_oldest p.up p.network)
seen_at Down p = seen_in p.mobile.channel (step_on_oldest p.down p.mobile)
seen_at LoseUp p = nothing
seen_at LoseDown p = nothing
seen_at (Rival info) p = Ok ([], octets_of p.mobile.channel (rival info) ∷ [])

abbrev after_event : Event → Pair → Pair
after_event (Mob call) p = with_mobile (step (Asked call) p.mobile) p
after_event (Net call) p = with_network (step (Asked call) p.network) p
after_event Up p = with_network (step_on_oldest p.up p.network) (record p { up = drop 1 p.up })
after_event Down p = with_mobile (step_on_oldest p.down p.mobile) (record p { down = drop 1 p.down })
after_event LoseUp p = record p { up = drop 1 p.up }
after_event LoseDown p = record p { down = drop 1 p.down }
after_event (Rival info) p = record p { up = p.up ++ rival info ∷ [] }

abbrev session : Pair → List Event → List Seen
session p [] = []
session p (event ∷ events) = seen_at event p ∷ session (after_event event p) events

abbrev idle_on : Channel → Pair
idle_on channel = record {
  mobile = initial_endpoint Mobile Zero channel;
  network = initial_endpoint Network Zero channel;
  up = [];
  down =
      [];
}

-- the state of a session in which both endpoints are in Open; the link was established with information 01
abbrev open_pair : Pair
open_pair =
    let idle = idle_on Sdcch in
    record idle {
      mobile = record idle.mobile { state = S.Open; sabm_info = 0x01 ∷ [] };
      network = record idle.network { state = S.Open; sabm_info = 0x01 ∷ [] };
    }

-- the lowest n octets of a number, most significant octet first
abbrev hex : ℕ → ℕ → List ℕ
hex zero value = []
hex (suc n) value = value / 256 ^ n % 256 ∷ hex n value

-- a block of 23 octets: the lowest n octets of a number, then fill octets 2b
abbrev block : ℕ → ℕ → List ℕ
block n value = hex n value ++ replicate (23 - n) 0x2b

abbrev sent : ℕ → ℕ → Seen
sent n value = Ok ([], block n value ∷ [])

-- another mobile establishes the link with the network first, so this mobile gives up (contention resolution)
contention : session (idle_on Sdcch)
    (Rival (0x02 ∷ []) ∷ Mob (Opens (0x01 ∷ [])) ∷ Up ∷ Net (Sends (0xaa ∷ [])) ∷ Net T200Expires ∷ Up ∷ Down ∷ Down
    ∷ Down ∷ Up ∷ [])
    ≡ sent 4 0x013f0502 ∷ sent 4 0x013f0501
    ∷ Ok (N.Opened (0x02 ∷ []) ∷ [], block 4 0x01730502 ∷ [])
    ∷ sent 4 0x030005aa ∷ sent 4 0x031005aa ∷ nothing
    ∷ Ok (N.Closed R.Contention ∷ [], []) ∷ nothing ∷ sent 3 0x031f01 ∷ Ok (N.Closed R.Failed ∷ [], [])
    ∷ []
contention = refl

-- both endpoints send messages, and an I frame acknowledges one of them
both_ways : session open_pair
    (Mob (Sends (0xaa ∷ [])) ∷ Mob (Sends (0xcc ∷ [])) ∷ Up ∷ LoseDown ∷ Net (Sends (0xbb ∷ [])) ∷ Down ∷ Up ∷ Down
    ∷ [])
    ≡ sent 4 0x010005aa ∷ nothing
    ∷ Ok (N.Got (0xaa ∷ []) ∷ [], block 3 0x012101 ∷ []) ∷ nothing
    ∷ sent 4 0x032005bb
    ∷ Ok (N.Acked 1 ∷ N.Got (0xbb ∷ []) ∷ [], block 4 0x012205cc ∷ [])
    ∷ Ok (N.Acked 1 ∷ N.Got (0xcc ∷ []) ∷ [], block 3 0x014101 ∷ []) ∷ Ok (N.Acked 2 ∷ [], []) ∷ []
both_ways = refl

crossing_rej : session open_pair
    (Mob (Sends (0xaa ∷ [])) ∷ Mob T200Expires ∷ Up ∷ Up ∷ Mob (Sends (0xdd ∷ [])) ∷ Down ∷ Down ∷ Up ∷ Up ∷ Down
    ∷ Down ∷ [])
    ≡ sent 4 0x010005aa ∷ sent 4 0x011005aa
    ∷ Ok (N.Got (0xaa ∷ []) ∷ [], block 3 0x012101 ∷ []) ∷ sent 3 0x013901
    ∷ nothing
    ∷ Ok (N.Acked 1 ∷ [], block 4 0x010205dd ∷ []) ∷ sent 4 0x010205dd
    ∷ Ok (N.Got (0xdd ∷ []) ∷ [], block 3 0x014101 ∷ []) ∷ sent 3 0x014901
    ∷ Ok (N.Acked 2 ∷ [], []) ∷ nothing ∷ []
crossing_rej = refl

-- on SDCCH the mobile repeats an I frame 23 times and then gives up
unanswered_message : session open_pair (Mob (Sends (0xaa ∷ [])) ∷ replicate 25 (Mob T200Expires))
    ≡ sent 4 0x010005aa ∷ replicate 23 (sent 4 0x011005aa)
    ++ Ok (N.Closed R.Failed ∷ [], []) ∷ Err No.NotRunning ∷ []
unanswered_message = refl

-- releasing the link discards the messages that are not acknowledged
release : session open_pair
    (Mob (Sends (0xaa ∷ [])) ∷ Mob (Sends (0xbb ∷ [])) ∷ Mob (Sends (0xcc ∷ [])) ∷ Mob Closes ∷ Up ∷ Up ∷ Down ∷ Down
    ∷ Mob Closes ∷ [])
    ≡ sent 4 0x010005aa ∷ nothing ∷ nothing ∷ sent 3 0x015301
    ∷ Ok (N.Got (0xaa ∷ []) ∷ [], block 3 0x012101 ∷ [])
    ∷ Ok (N.Closed R.Released ∷ [], block 3 0x017301 ∷ []) ∷ nothing ∷ Ok
    (N.Closed R.Released ∷ [], []) ∷ Err No.NotOpen ∷ []
release = refl

release_at_once : session open_pair (Mob Closes ∷ Net Closes ∷ Up ∷ Down ∷ Down ∷ Up ∷ [])
    ≡ sent 3 0x015301 ∷ sent 3 0x035301 ∷ sent 3 0x017301
    ∷ sent 3 0x037301
    ∷ Ok (N.Closed R.Released ∷ [], []) ∷ Ok (N.Closed R.Released ∷ [], []) ∷ []
release_at_once = refl

eight_messages : session open_pair (replicate 9 (Mob (Sends (0xaa ∷ []))))
    ≡ sent 4 0x010005aa ∷ replicate 7 nothing ++ Err No.Full ∷ []
eight_messages = refl

-- a message of 19 octets, which has two segments on SACCH
abbrev message_of_19_octets : Message
message_of_19_octets = hex 19 0x000102030405060708090a0b0c0d0e0f101112

two_segments_on_sacch : session (idle_on Sacch)
    (Mob (Opens (replicate 19 0)) ∷ Mob (Opens (0x01 ∷ [])) ∷ Up ∷ Down ∷ Mob (Sends message_of_19_octets) ∷ Up ∷ Down ∷ Up
    ∷ Down ∷ [])
    ≡ Err No.TooLong ∷ sent 6 0x0000013f0501
    ∷ Ok (N.Opened (0x01 ∷ []) ∷ [], block 6 0x000001730501 ∷ [])
    ∷ Ok (N.Opened (0x01 ∷ []) ∷ [], [])
    ∷ sent 23 0x000001004b000102030405060708090a0b0c0d0e0f1011
    ∷ sent 5 0x0000012101 ∷ sent 6 0x000001020512
    ∷ Ok (N.Got message_of_19_octets ∷ [], block 5 0x0000014101 ∷ [])
    ∷ Ok (N.Acked 1 ∷ [], []) ∷ []
two_segments_on_sacch = refl
