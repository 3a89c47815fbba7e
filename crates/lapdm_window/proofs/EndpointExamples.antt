-- Worked examples of sessions of one endpoint.
use Rattle.{
  std.proofs.Common.{Bool, Err, List, Ok, Result, [], false, map, refl, replicate, suc, true, zero, ℕ, ◌%◌, ◌*◌, ◌+◌},
  std.proofs.Common.{◌++◌, ◌-◌, ◌/◌, ◌^◌, ◌∷◌, ◌≡◌},
  segmenting.specs.lapdm_frame.{declared.Channel.TheVariants.{Sdcch, Sacch}, Content.{Content, I, Sabm, Dm, Ua, Rnr}, Frames.octets_of},
  lapdm_window.specs.{
    declared.{Sapi.TheVariants.{Zero, Three}, Notice.Notice, Refused.Refused},
    Ends.{EndpointState, initial_endpoint, Mobile, Network, Outcome},
    Calls.{Opens, OpensWithoutInfo, Sends, SendsUi, Closes, T200Expires},
    Steps.{StepInput, Asked, Received, step},
  },
}
use Rattle.lapdm_window.specs.declared.State.TheVariants as S
use Rattle.lapdm_window.specs.declared.Notice.TheVariants as N
use Rattle.lapdm_window.specs.declared.Reason.TheVariants as R
use Rattle.lapdm_window.specs.declared.Refused.TheVariants as No

-- the visible result of a step: the blocks sent and the notices, or the reason for the refusal
abbrev Seen : Type 0
Seen = Result (List (List ℕ) × List Notice) Refused

abbrev seen_in : EndpointState → Result Outcome Refused → Seen
seen_in e (Ok o) = Ok (map (octets_of e.channel) o.frames, o.notices)
seen_in e (Err refusal) = Err refusal

abbrev state_after : EndpointState → Result Outcome Refused → EndpointState
state_after e (Ok o) = o.new_state
state_after e (Err refusal) = e

abbrev session : EndpointState → List StepInput → List Seen
session e [] = []
session e (input ∷ inputs) = let r = step input e in seen_in e r ∷ session (state_after e r) inputs

-- the lowest n octets of a number, most significant octet first
abbrev hex : ℕ → ℕ → List ℕ
hex zero value = []
hex (suc n) value = value / 256 ^ n % 256 ∷ hex n value

-- a block of 23 octets: the lowest n octets of a number, then fill octets 2b
abbrev block : ℕ → ℕ → List ℕ
block n value = hex n value ++ replicate (23 - n) 0x2b

abbrev nothing : Seen
nothing = Ok ([], [])

abbrev sent : ℕ → ℕ → Seen
sent n value = Ok (block n value ∷ [], [])

abbrev reported : Notice → Seen
reported n = Ok ([], n ∷ [])

-- a frame of SAPI 0 that the network receives from the mobile; C/R 0 makes it a command
abbrev from_mobile : Content → StepInput
from_mobile content = Received (record { sapi = 0; cr = false; content = content })

-- a frame of SAPI 0 that the mobile receives from the network; C/R 0 makes it a response
abbrev from_network : Content → StepInput
from_network content = Received (record { sapi = 0; cr = false; content = content })

-- the mobile establishes the link, sends an I frame, and then repeats its SABM and its I frame
network_opened_by_mobile : session (initial_endpoint Network Zero Sdcch)
    (from_mobile (Sabm true (0x01 ∷ [])) ∷ from_mobile (I 0 0 false false (0xaa ∷ [])) ∷ from_mobile (Sabm true (0x01 ∷ []))
    ∷ from_mobile (Sabm true (0x02 ∷ [])) ∷ from_mobile (I 0 0 false false (0xaa ∷ []))
    ∷ from_mobile (I 0 0 false false (0xaa ∷ [])) ∷ [])
    ≡ Ok (block 4 0x01730501 ∷ [], N.Opened (0x01 ∷ []) ∷ [])
    ∷ Ok (block 3 0x012101 ∷ [], N.Got (0xaa ∷ []) ∷ [])
    ∷ sent 4 0x01730501 ∷ nothing ∷ sent 3 0x012901 ∷ nothing ∷ []
network_opened_by_mobile = refl

-- a mobile refuses several calls and sends its SABM; then it receives the UA for another mobile and closes the link
mobile_losing_contention : session (initial_endpoint Mobile Zero Sdcch)
    (Asked (Sends (0xaa ∷ [])) ∷ Asked Closes ∷ Asked T200Expires ∷ Asked (Opens []) ∷ Asked (Opens (0x01 ∷ []))
    ∷ Asked (Opens (0x01 ∷ []))
    ∷ Asked (SendsUi (replicate 21 0)) ∷ from_network (Ua true (0x02 ∷ [])) ∷ [])
    ≡ Err No.NotOpen ∷ Err No.NotOpen ∷ Err No.NotRunning ∷ Err No.Empty ∷ sent 4 0x013f0501
    ∷ Err No.NotIdle ∷ Err No.TooLong ∷ reported (N.Closed R.Contention) ∷ []
mobile_losing_contention = refl

refused_mobile : session (initial_endpoint Mobile Zero Sdcch) (Asked (Opens (0x01 ∷ [])) ∷ from_network (Dm true) ∷ [])
    ≡ sent 4 0x013f0501 ∷ reported (N.Closed R.Refused) ∷ []
refused_mobile = refl

-- both sides establish the link of SAPI 3 at the same time, so the mobile receives a SABM while it waits for the UA
collision_on_sapi_3 : session (initial_endpoint Mobile Three Sdcch)
    (Asked OpensWithoutInfo ∷ Asked OpensWithoutInfo ∷ Received (record { sapi = 3; cr = true; content = Sabm true [] })
    ∷ Received (record { sapi = 3; cr = false; content = Ua true [] }) ∷ [])
    ≡ sent 3 0x0d3f01 ∷ Err No.NotIdle ∷ sent 3 0x0f7301 ∷ reported (N.Opened [])
    ∷ []
collision_on_sapi_3 = refl

-- a mobile on SACCH sends its SABM once, repeats it five times, then reports failure
unanswered_on_sacch : session (initial_endpoint Mobile Zero Sacch) (Asked (Opens (0x01 ∷ [])) ∷ replicate 6 (Asked T200Expires))
    ≡ replicate 6 (sent 6 0x0000013f0501) ++ reported (N.Closed R.Failed) ∷ []
unanswered_on_sacch = refl

-- the endpoint ignores an I frame with the C/R of a response, a frame of another SAPI, an RNR, and a UA with the C/R of a command
ignored_frames : session (record (initial_endpoint Network Zero Sdcch) { state = S.Open; sabm_info = 0x01 ∷ [] })
    (Received (record { sapi = 0; cr = true; content = I 0 0 false false (0xaa ∷ []) })
    ∷ Received (record { sapi = 5; cr = false; content = I 0 0 false false (0xaa ∷ []) })
    ∷ from_mobile (Rnr 0 true) ∷ from_mobile (Ua true []) ∷ [])
    ≡ replicate 4 nothing
ignored_frames = refl

-- an I frame from the mobile with the given N(S), M bit and information
abbrev segment_of : ℕ → Bool → List ℕ → StepInput
segment_of ns more octets = from_mobile (I ns 0 false more octets)

abbrev sevens : ℕ → StepInput
sevens ns = segment_of ns true (replicate 20 7)

abbrev ready : ℕ → Seen
ready control = sent 3 (0x010001 + 256 * control)

-- an oversize message is reported at its last segment, and the next message is delivered
oversize_message : session (record (initial_endpoint Network Zero Sdcch) { state = S.Open; sabm_info = 0x01 ∷ [] })
    (sevens 0 ∷ sevens 1 ∷ sevens 2 ∷ sevens 3 ∷ sevens 4 ∷ sevens 5 ∷ sevens 6 ∷ sevens 7 ∷ sevens 0 ∷ sevens 1
    ∷ sevens 2 ∷ sevens 3 ∷ sevens 4 ∷ segment_of 5 false (7 ∷ []) ∷ segment_of 6 false (0xaa ∷ []) ∷ [])
    ≡ ready 0x21 ∷ ready 0x41 ∷ ready 0x61 ∷ ready 0x81 ∷ ready 0xa1 ∷ ready 0xc1 ∷ ready 0xe1 ∷ ready 0x01
    ∷ ready 0x21 ∷ ready 0x41 ∷ ready 0x61 ∷ ready 0x81 ∷ ready 0xa1
    ∷ Ok (block 3 0x01c101 ∷ [], N.Oversize ∷ []) ∷ Ok
    (block 3 0x01e101 ∷ [], N.Got (0xaa ∷ []) ∷ []) ∷ []
oversize_message = refl
