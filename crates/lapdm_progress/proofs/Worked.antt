-- Worked runs of the links of SAPI 0: what a round trip and a loss cost, and a T200 shorter than the round trip.
use Rattle.{
  lapdm_end.specs.lapdm_window.{
    Ends.{Role, Mobile, Network},
    declared.{Sapi.TheVariants.Zero, State.TheVariants.{Open, Closed}},
    Calls.{Call, Opens, Sends},
  },
  std.specs.Prelude.{All, Bool, ◌≡◌, ◌≤◌, refl, ℕ, zero, suc, true, false, List, [], ◌∷◌},
  std.specs.Prelude.{Option, None, replicate, get_or},
  std.proofs.Common.arith,
  lapdm_frame.specs.{declared.Channel.TheVariants.Sdcch, Content.Frame},
  lapdm_datalink.specs.Links.LinkState,
  lapdm_progress.specs.{
    Channels.{IsUse, Run, Turn},
    Progress.{AreOpen, FromStart, IsPaid, IsPaidFor, IsWithin, KeepsLinks, NoneGaveUp, PaysForExpiries, Progress, Progresses},
    Progress.{ProgressesFromStart, few_losses, frames_at, link_at, lossy_slots, waiting_slots},
  },
}

-- slots without a call: nothing is lost, the mobile's block is lost, or the network's
record Slot : Type 0 where
  mobile : Turn
  network : Turn

abbrev idle : Bool → Turn
idle lost = record { calls = []; is_held = false; is_lost = lost }

abbrev plain : Slot
plain = record { mobile = idle false; network = idle false }

abbrev loses_up : Slot
loses_up = record plain { mobile = idle true }

abbrev loses_down : Slot
loses_down = record plain { network = idle true }

-- the slot with a call of the mobile, or of the network
abbrev mobile_asks : Call → Slot → Slot
mobile_asks call s = record s { mobile = record s.mobile { calls = call ∷ [] } }

abbrev network_asks : Call → Slot → Slot
network_asks call s = record s { network = record s.network { calls = call ∷ [] } }

abbrev turn_of : Role → Slot → Turn
turn_of Mobile s = s.mobile
turn_of Network s = s.network

-- the run with these slots and then plain ones, without a delay
abbrev run_of : (t200 : ℕ) (slots : List Slot) → Run
run_of t slots = record {
  delay = 0;
  t200 = t;
  channel = Sdcch;
  pair = record { sapi = Zero; opener = Mobile };
  turn = λ n role. turn_of role (get_or slots n plain);
}

-- the mobile establishes, and sends a message of two segments: a round trip of two slots for each of the three frames
abbrev quiet : Run
quiet = run_of 2 (mobile_asks (Opens (1 ∷ [])) plain ∷ plain ∷ mobile_asks (Sends (replicate 21 9)) plain ∷ [])

quiet_waits : waiting_slots quiet 0 7 Mobile ≡ 6
quiet_waits = refl

-- the first I frame is lost, and then the answer to its repetition: each loss costs T200, and no more slots are waited than the bound says
abbrev lossy : Run
lossy = run_of 2
    (mobile_asks (Opens (1 ∷ [])) plain ∷ plain ∷ mobile_asks (Sends (replicate 21 9)) loses_up ∷ plain ∷ plain ∷ loses_down
    ∷ [])

lossy_waits : waiting_slots lossy 0 14 Mobile ≡ 10
lossy_waits = refl

lossy_losses : lossy_slots lossy 0 14 ≡ 2
lossy_losses = refl

-- the network's I frame waits for its UA: the bound is reached, 2 times 1 and one slot more
abbrev early : Run
early = run_of 2 (mobile_asks (Opens (1 ∷ [])) plain ∷ network_asks (Sends (5 ∷ [])) plain ∷ [])

early_waits : waiting_slots early 0 6 Network ≡ 3
early_waits = refl

early_frames : frames_at early 6 Network ≡ 1
early_frames = refl

-- six lost SABMs, and the mobile gives up; after five it does not: five losses are the most that no link is closed for
abbrev loses : ℕ → List Slot
loses zero = []
loses (suc n) = loses_up ∷ plain ∷ loses n

abbrev sabms_lost : ℕ → Run
sabms_lost n = run_of 2 (mobile_asks (Opens (1 ∷ [])) loses_up ∷ plain ∷ loses n)

gives_up : (link_at (sabms_lost 5) 13 Mobile).endpoint.state ≡ Closed
gives_up = refl

six_losses : lossy_slots (sabms_lost 5) 0 13 ≡ 6
six_losses = refl

holds_on : (link_at (sabms_lost 4) 13 Mobile).endpoint.state ≡ Open
holds_on = refl

-- T200 of one slot is less than the round trip: the SABM is repeated without a loss
hasty : (link_at (run_of 1 (mobile_asks (Opens (1 ∷ [])) plain ∷ [])) 2 Mobile).endpoint.retries ≡ 1
hasty = refl

-- ---- the bounds refuse one slot, one expiry and one delay more

waits_a_slot_more : IsWithin 3 0 0 2 1 0 Mobile → ⊥
waits_a_slot_more h = let bound : 3 ≤ 2 = h.waits in omega (arith, bound)

waits_a_slot_more_at_the_network : IsWithin 4 0 0 2 1 0 Network → ⊥
waits_a_slot_more_at_the_network h = let bound : 4 ≤ 3 = h.waits in omega (arith, bound)

waits_a_slot_more_for_a_loss : IsWithin 6 0 0 2 1 1 Mobile → ⊥
waits_a_slot_more_for_a_loss h = let bound : 6 ≤ 5 = h.waits in omega (arith, bound)

waits_a_slot_more_with_a_delay : IsWithin 5 0 1 4 1 0 Mobile → ⊥
waits_a_slot_more_with_a_delay h = let bound : 5 ≤ 4 = h.waits in omega (arith, bound)

expires_without_a_loss : IsWithin 0 1 0 2 1 0 Mobile → ⊥
expires_without_a_loss h = let bound : 1 ≤ 0 = h.expires in omega (arith, bound)

five : few_losses ≡ 5
five = refl

abbrev silent : ℕ → Role → Option Frame
silent n role = None

unpaid : (is_lost : ℕ → Role → Bool) (link : ℕ → Role → LinkState) (n : ℕ) →
    IsPaidFor 0 2 silent is_lost link n Mobile → ⊥
unpaid is_lost link n h = cc h.sent

-- ---- what the laws say of these runs

early_uses : (n : ℕ) (role : Role) → All (IsUse early.pair role) (early.turn n role).calls
early_uses zero Mobile = grind arith
early_uses zero Network = grind arith
early_uses (suc zero) Mobile = grind arith
early_uses (suc zero) Network = grind arith
early_uses (suc (suc n)) Mobile = grind arith
early_uses (suc (suc n)) Network = grind arith

early_is_kept : KeepsLinks early → NoneGaveUp early 6
early_is_kept law = law (omega arith) 6 (λ n below role. early_uses n role) (omega arith)

early_is_within : KeepsLinks early → ProgressesFromStart early → FromStart early 6 Network
early_is_within keeps law = law (omega arith) 6 (λ n below role. early_uses n role) (early_is_kept keeps) Network

quiet_uses : (n : ℕ) (role : Role) → All (IsUse quiet.pair role) (quiet.turn n role).calls
quiet_uses zero Mobile = grind arith
quiet_uses zero Network = grind arith
quiet_uses (suc zero) Mobile = grind arith
quiet_uses (suc zero) Network = grind arith
quiet_uses (suc (suc zero)) Mobile = grind arith
quiet_uses (suc (suc zero)) Network = grind arith
quiet_uses (suc (suc (suc n))) Mobile = grind arith
quiet_uses (suc (suc (suc n))) Network = grind arith

quiet_is_open : AreOpen quiet 3 2
quiet_is_open zero below Mobile = refl
quiet_is_open zero below Network = refl
quiet_is_open (suc zero) below Mobile = refl
quiet_is_open (suc zero) below Network = refl
quiet_is_open (suc (suc zero)) below Mobile = refl
quiet_is_open (suc (suc zero)) below Network = refl
quiet_is_open (suc (suc (suc n))) below role = absurd (omega (arith, below))

quiet_progresses : Progresses quiet → Progress quiet 3 2 Mobile
quiet_progresses law = law (omega arith) 3 2 (λ n below role. quiet_uses n role) quiet_is_open Mobile

lossy_uses : (n : ℕ) (role : Role) → All (IsUse lossy.pair role) (lossy.turn n role).calls
lossy_uses zero Mobile = grind arith
lossy_uses zero Network = grind arith
lossy_uses (suc zero) Mobile = grind arith
lossy_uses (suc zero) Network = grind arith
lossy_uses (suc (suc zero)) Mobile = grind arith
lossy_uses (suc (suc zero)) Network = grind arith
lossy_uses (suc (suc (suc zero))) Mobile = grind arith
lossy_uses (suc (suc (suc zero))) Network = grind arith
lossy_uses (suc (suc (suc (suc zero)))) Mobile = grind arith
lossy_uses (suc (suc (suc (suc zero)))) Network = grind arith
lossy_uses (suc (suc (suc (suc (suc zero))))) Mobile = grind arith
lossy_uses (suc (suc (suc (suc (suc zero))))) Network = grind arith
lossy_uses (suc (suc (suc (suc (suc (suc n)))))) Mobile = grind arith
lossy_uses (suc (suc (suc (suc (suc (suc n)))))) Network = grind arith

-- the I frame of slot 2 is repeated in slot 4
lossy_is_paid : KeepsLinks lossy → PaysForExpiries lossy → IsPaid lossy 4 Mobile
lossy_is_paid keeps law =
    let kept = keeps (omega arith) 4 (λ n below role. lossy_uses n role) (omega arith) in
    law (omega arith) 4 (λ n below role. lossy_uses n role) kept Mobile refl
