-- A worked run of two whole data links: SAPI 0 is opened and carries a message, and SAPI 3 is opened in a slot that SAPI 0 leaves. The laws
-- of SAPI 0 apply to it.
use Rattle.{
  std.{proofs.Common.{◌≡◌, arith, refl, ℕ, zero, suc, false, List, [], ◌∷◌, None}, specs.Prelude.{All, ◌≤◌}},
  lapdm_frame.specs.declared.Channel.TheVariants.Sdcch,
  lapdm_datalink.specs.declared.data_links.Establishment.TheVariants.Contention,
  lapdm_end.specs.lapdm_window.{
    declared.Sapi.{Sapi, TheVariants.{Zero, Three}},
    Ends.{Role, Mobile, Network},
    Calls.{Call, Opens, OpensWithoutInfo, Sends},
  },
  lapdm_link.specs.Claims.{Asked, Notified},
  lapdm_progress.specs.{
    Channels.{IsUse, place},
    Progress.{frames_of, slots_with},
    Whole.{AreAsAlone, IsAsAlone, IsKept, KeepsLinks, Progress, Progresses, ProgressesAfterFewLosses, SendsWhatIsAsked, asked_at},
    Whole.{awaits, calls_to, endpoints, link_at, sapi_0},
  },
  lapdm_delivery.specs.Lockstep.{HasCalls, IsRegular, Run, log_before},
}
use Rattle.lapdm_end.specs.lapdm_window.declared.Notice.TheVariants as N

abbrev calls_in : ℕ → Role → List (Sapi × Call)
calls_in zero Mobile = (Zero, Opens (1 ∷ [])) ∷ []
calls_in (suc (suc zero)) Mobile = (Zero, Sends (5 ∷ [])) ∷ (Three, OpensWithoutInfo) ∷ []
calls_in n role = []

abbrev run : Run
run = record {
  delay = 0;
  t200 = 2;
  t200_sapi3 = λ role. 4;
  channel = Sdcch;
  establishment = Contention;
  part = λ n role. record { is_main_established = false; calls = calls_in n role; unit = None; is_lost = false };
}

log : log_before run 6 ≡ Asked Mobile Zero (Opens (1 ∷ [])) ∷ Notified Network Zero (N.Opened (1 ∷ []))
    ∷ Notified Mobile Zero (N.Opened (1 ∷ [])) ∷ Asked Mobile Zero (Sends (5 ∷ [])) ∷ Asked Mobile Three OpensWithoutInfo
    ∷ Notified Network Zero (N.Got (5 ∷ [])) ∷ Notified Mobile Zero (N.Acked 1) ∷ Notified Network Three (N.Opened [])
    ∷ Notified Mobile Three (N.Opened []) ∷ []
log = refl

-- a round trip for the SABM, and one for the segment
waits : slots_with (awaits run Zero Mobile) 0 6 ≡ 4
waits = refl

-- one SABM and one segment are asked for
asked : asked_at run 6 Mobile ≡ 2
asked = refl

-- ---- what the laws of SAPI 0 say of this run

calls : HasCalls run
calls zero Mobile = grind arith
calls zero Network = grind arith
calls (suc zero) role = grind arith
calls (suc (suc zero)) Mobile = grind arith
calls (suc (suc zero)) Network = grind arith
calls (suc (suc (suc n))) role = grind arith

uses : (n : ℕ) (role : Role) → All (IsUse (endpoints run sapi_0) (place Mobile role)) (calls_to Zero (run.part n role).calls)
uses zero Mobile = grind arith
uses zero Network = grind arith
uses (suc zero) role = grind arith
uses (suc (suc zero)) Mobile = grind arith
uses (suc (suc zero)) Network = grind arith
uses (suc (suc (suc n))) role = grind arith

kept : KeepsLinks run → IsKept run Zero 5
kept law = law refl calls (omega arith) 5 (λ n below role. uses n role) (omega arith)

bound : KeepsLinks run → Progresses run → (role : Role) → Progress run sapi_0 5 role
bound keeps law role = law refl calls (omega arith) 5 (λ n below role. uses n role) (kept keeps) role

bound_after_few_losses : ProgressesAfterFewLosses run → (role : Role) → Progress run sapi_0 5 role
bound_after_few_losses law role = law refl calls (omega arith) 5 (λ n below role. uses n role) (omega arith) role

sends : SendsWhatIsAsked run → frames_of Mobile (link_at run Zero 6 Mobile) ≤ asked_at run 6 Mobile
sends law = law refl calls 6 Mobile

alone : AreAsAlone run → IsAsAlone run 3 Network
alone law = law refl calls 3 Network

-- ---- slots in which a side opens no link again, and one in which it does

regular : IsRegular run 2 Mobile
regular = record { arrival = refl; calls = (refl, (refl, tt)); unit = tt }

abbrev calls_again : ℕ → Role → List (Sapi × Call)
calls_again zero Mobile = (Zero, Opens (1 ∷ [])) ∷ []
calls_again (suc (suc (suc zero))) Mobile = (Zero, OpensWithoutInfo) ∷ []
calls_again n role = []

abbrev again : Run
again = record run { part = λ n role. record (run.part n role) { calls = calls_again n role } }

opens_again : IsRegular again 3 Mobile → ⊥
opens_again h = cc h.calls.0
