-- A worked run of SAPI 3: SAPI 0 is opened and carries a message; then the network opens SAPI 3, and the mobile sends over it.
use Rattle.{
  std.{specs.Prelude.{◌≡◌, refl, ℕ, zero, suc, false, List, [], ◌∷◌, None, get_or, ◌≤◌, All}, proofs.Common.arith},
  std.proofs.lemmas.List.Elements.All-nil,
  lapdm_frame.specs.declared.Channel.TheVariants.Sdcch,
  lapdm_datalink.specs.declared.data_links.Establishment.TheVariants.Contention,
  lapdm_end.specs.lapdm_window.{
    declared.Sapi.{Sapi, TheVariants.{Zero, Three}},
    Ends.{Role, Mobile, Network},
    Calls.{Call, Opens, OpensWithoutInfo, Sends},
  },
  lapdm_delivery.specs.Lockstep.{Run, HasCalls, IsCallOf},
  lapdm_progress.{
    specs.{Channels.{place, IsUse}, Whole.{awaits, link_at, calls_to, sapi_3_of, IsFree, OpensOnce, IsUsedBefore, IsKeptTo, HasT200}},
    specs.Whole.{Progress, Sapi3KeepsLinks, Sapi3Progresses},
    specs.Progress.{slots_with, frames_of},
  },
}

abbrev calls_of : Role → List (List (Sapi × Call))
calls_of Mobile =
    ((Zero, Opens (1 ∷ [])) ∷ []) ∷ [] ∷ ((Zero, Sends (5 ∷ [])) ∷ []) ∷ [] ∷ []
    ∷ ((Three, Sends (7 ∷ [])) ∷ []) ∷ []
calls_of Network = [] ∷ [] ∷ [] ∷ [] ∷ ((Three, OpensWithoutInfo) ∷ []) ∷ []

abbrev run_of : (calls : Role → List (List (Sapi × Call))) → Run
run_of calls = record {
  delay = 0;
  t200 = 2;
  t200_sapi3 = λ role. 2;
  channel = Sdcch;
  establishment = Contention;
  part = λ n role. record { is_main_established = false; calls = get_or (calls role) n []; unit = None; is_lost = false };
}

abbrev run : Run
run = run_of calls_of

-- the network opens: a round trip for its SABM; the mobile's I frame waits for its UA: both bounds are reached
network_waits : slots_with (awaits run Three Network) 0 9 ≡ 2
network_waits = refl

mobile_waits : slots_with (awaits run Three Mobile) 0 9 ≡ 3
mobile_waits = refl

mobile_frames : frames_of (place Network Mobile) (link_at run Three 9 Mobile) ≡ 1
mobile_frames = refl

-- SAPI 0 may hold it up: the mobile's I frame of SAPI 0 goes before its UA, and the network waits a slot more than a round trip
abbrev calls_held : Role → List (List (Sapi × Call))
calls_held Mobile = ((Zero, Opens (1 ∷ [])) ∷ []) ∷ [] ∷ [] ∷ [] ∷ [] ∷ ((Zero, Sends (5 ∷ [])) ∷ []) ∷ []
calls_held Network = calls_of Network

held_waits : slots_with (awaits (run_of calls_held) Three Network) 0 9 ≡ 3
held_waits = refl

-- in the first run SAPI 0 holds up SAPI 3 nowhere: the law applies
calls-none : (role : Role) (n : ℕ) → get_or (calls_of role) (suc (suc (suc (suc (suc (suc n)))))) [] ≡ []
calls-none role n = grind arith

calls : HasCalls run
calls zero role = grind arith
calls (suc zero) role = grind arith
calls (suc (suc zero)) role = grind arith
calls (suc (suc (suc zero))) role = grind arith
calls (suc (suc (suc (suc zero)))) role = grind arith
calls (suc (suc (suc (suc (suc zero))))) role = grind arith
calls (suc (suc (suc (suc (suc (suc n)))))) role = rw (calls-none role n) (All-nil (IsCallOf Contention role))

record IsInSlot (n : ℕ) (role : Role) : Type 0 where
  calls_are : All (IsUse (sapi_3_of Network) (place Network role)) (calls_to Three (run.part n role).calls)
  once : OpensOnce run Three n role
  free : IsFree run n role

in_slot : (n : ℕ) → suc n ≤ 9 → (role : Role) → IsInSlot n role
in_slot zero h Mobile = grind arith
in_slot zero h Network = grind arith
in_slot (suc zero) h Mobile = grind arith
in_slot (suc zero) h Network = grind arith
in_slot (suc (suc zero)) h Mobile = grind arith
in_slot (suc (suc zero)) h Network = grind arith
in_slot (suc (suc (suc zero))) h Mobile = grind arith
in_slot (suc (suc (suc zero))) h Network = grind arith
in_slot (suc (suc (suc (suc zero)))) h Mobile = grind arith
in_slot (suc (suc (suc (suc zero)))) h Network = grind arith
in_slot (suc (suc (suc (suc (suc zero))))) h Mobile = grind arith
in_slot (suc (suc (suc (suc (suc zero))))) h Network = grind arith
in_slot (suc (suc (suc (suc (suc (suc zero)))))) h Mobile = grind arith
in_slot (suc (suc (suc (suc (suc (suc zero)))))) h Network = grind arith
in_slot (suc (suc (suc (suc (suc (suc (suc zero))))))) h Mobile = grind arith
in_slot (suc (suc (suc (suc (suc (suc (suc zero))))))) h Network = grind arith
in_slot (suc (suc (suc (suc (suc (suc (suc (suc zero)))))))) h Mobile = grind arith
in_slot (suc (suc (suc (suc (suc (suc (suc (suc zero)))))))) h Network = grind arith
in_slot (suc (suc (suc (suc (suc (suc (suc (suc (suc n))))))))) h role = absurd (omega (arith, h))

used : IsUsedBefore run Network 9
used = record {
  calls = λ n h role. (in_slot n h role).calls_are;
  once = λ n h role. (in_slot n h role).once;
  free = λ n h role. (in_slot n h role).free;
}

timed : HasT200 run
timed = record { same = refl; long = omega arith }

-- nothing is lost, so neither is given up, and neither waits longer than the bound
kept : Sapi3KeepsLinks run → IsKeptTo run Three 8
kept law = law calls timed Network 8 (record {
  calls = λ n h. used.calls n (omega (arith, h));
  once = λ n h. used.once n (omega (arith, h));
  free = λ n h. used.free n (omega (arith, h));
}) (omega arith)

bound : Sapi3KeepsLinks run → Sapi3Progresses run → (role : Role) → Progress run (sapi_3_of Network) 8 role
bound keeps law role = law calls timed Network 8 used (kept keeps) role
