-- A worked run of SAPI 0 with normal establishment: the network opens it, and the mobile sends over it.
use Rattle.std.specs.Prelude.{◌≡◌, refl, ℕ, zero, suc, false, List, [], ◌∷◌, None, get_or, All}
use Rattle.std.proofs.Common.{arith}
use Rattle.std.proofs.lemmas.List.Elements.{All-nil}
use Rattle.lapdm_frame.specs.declared.Channel.TheVariants.{Sdcch}
use Rattle.lapdm_datalink.specs.declared.data_links.Establishment.TheVariants.{Normal}
use Rattle.lapdm_end.specs.lapdm_window.declared.Sapi.{Sapi}
use Rattle.lapdm_end.specs.lapdm_window.declared.Sapi.TheVariants.{Zero}
use Rattle.lapdm_end.specs.lapdm_window.Ends.{Role, Mobile, Network}
use Rattle.lapdm_end.specs.lapdm_window.Calls.{Call, OpensWithoutInfo, Sends}
use Rattle.lapdm_delivery.specs.Lockstep.{Run, HasCalls, IsCallOf}
use Rattle.lapdm_progress.specs.Channels.{place, IsUse}
use Rattle.lapdm_progress.specs.Whole.{awaits, link_at, calls_to, endpoints, sapi_0_of, OpensOnce, IsUsedOnceBefore, Progress}
use Rattle.lapdm_progress.specs.Whole.{NormalKeepsLinks, NormalProgresses}
use Rattle.lapdm_progress.specs.Progress.{slots_with, frames_of}

abbrev calls_of : Role → List (List (Sapi × Call))
calls_of Mobile = [] ∷ ((Zero, Sends (7 ∷ [])) ∷ []) ∷ []
calls_of Network = ((Zero, OpensWithoutInfo) ∷ []) ∷ []

abbrev run : Run
run = record {
  delay = 0;
  t200 = 2;
  t200_sapi3 = λ role. 2;
  channel = Sdcch;
  establishment = Normal;
  part = λ n role. record { is_main_established = false; calls = get_or (calls_of role) n []; unit = None; is_lost = false };
}

-- a round trip for the SABM; the mobile's I frame waits for its UA: both bounds are reached
network_waits : slots_with (awaits run Zero Network) 0 5 ≡ 2
network_waits = refl

mobile_waits : slots_with (awaits run Zero Mobile) 0 5 ≡ 3
mobile_waits = refl

mobile_frames : frames_of (place Network Mobile) (link_at run Zero 5 Mobile) ≡ 1
mobile_frames = refl

-- the law applies
calls-none : (role : Role) (n : ℕ) → get_or (calls_of role) (suc (suc n)) [] ≡ []
calls-none role n = grind arith

calls : HasCalls run
calls zero role = grind arith
calls (suc zero) role = grind arith
calls (suc (suc n)) role = rw (calls-none role n) (All-nil (IsCallOf Normal role))

record IsInSlot (n : ℕ) (role : Role) : Type 0 where
  calls_are : All (IsUse (endpoints run (sapi_0_of Network)) (place Network role)) (calls_to Zero (run.part n role).calls)
  once : OpensOnce run Zero n role

in_slot : (n : ℕ) (role : Role) → IsInSlot n role
in_slot zero Mobile = grind arith
in_slot zero Network = grind arith
in_slot (suc zero) Mobile = grind arith
in_slot (suc zero) Network = grind arith
in_slot (suc (suc n)) Mobile = grind arith
in_slot (suc (suc n)) Network = grind arith

used : (k : ℕ) → IsUsedOnceBefore run Network k
used k = record { calls = λ n h role. (in_slot n role).calls_are; once = λ n h role. (in_slot n role).once }

bound : NormalKeepsLinks run → NormalProgresses run → (role : Role) → Progress run (sapi_0_of Network) 5 role
bound keeps law role =
    law refl calls (omega arith) Network 5 (used 6) (keeps refl calls (omega arith) Network 5 (used 5) (omega arith)) role
