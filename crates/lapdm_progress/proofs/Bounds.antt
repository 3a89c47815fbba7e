-- So the bounds of two links alone hold of the two links of each SAPI of whole data links.
use Rattle.std.proofs.lemmas.Bool.{cases_Bool}
use Rattle.std.proofs.Common.{arith, refl, sym, ap, ◌∙◌, subst, inl, inr}
use Rattle.std.specs.Prelude.{◌≡◌, ◌≤◌, ℕ, zero, suc, Bool, false, ◌||◌, nat_eq, All, Option, Some, None, true, not}
use Rattle.std.specs.Prelude.{◌&&◌, if◌then◌else◌}
use Rattle.lapdm_end.specs.lapdm_window.declared.Sapi.TheVariants.{Zero, Three}
use Rattle.lapdm_end.specs.lapdm_window.Ends.{Role, Mobile, Network, awaits_answer}
use Rattle.lapdm_datalink.specs.Links.{LinkState, is_closed, slot_outcome, SlotOutcome, unheard}
use Rattle.lapdm_datalink.specs.Slots.{expires_in}
use Rattle.lapdm_datalink.proofs.First.{sapi_0_goes_first}
use Rattle.lapdm_delivery.specs.Lockstep.{Run, ready_at, HasCalls, side_at, arriving_at, before_at, outcome_at}
use Rattle.lapdm_progress.specs.Channels.{Pair, place, IsUse}
use Rattle.lapdm_progress.specs.Progress.{round_trip, is_loss, slots_with, is_repetition, few_losses}
use Rattle.lapdm_progress.specs.Whole.{sapi_0, sapi_0_of, sapi_3_of, endpoints, link_at, ready_link_at, frame_at, awaits, expires}
use Rattle.lapdm_progress.specs.Whole.{is_loss_at, is_lossy, t200_of, IsKept, Progress, IsWithoutRelease, Progresses, KeepsLinks}
use Rattle.lapdm_progress.specs.Whole.{ProgressesAfterFewLosses, PaysForExpiries, IsUsedBefore, IsKeptTo, HasT200, Sapi3Progresses}
use Rattle.lapdm_progress.specs.Whole.{Sapi3KeepsLinks, alone, AreAsAlone, frame_of, OpensOnce, IsFree, IsUsedOnceBefore, NormalProgresses}
use Rattle.lapdm_progress.specs.Whole.{NormalKeepsLinks}
use Rattle.lapdm_progress.proofs.Slots.{eq_of, slots_same}
use Rattle.lapdm_progress.proofs.Cut.{progress_from_start, few_losses_keep_links, paid_as, pays_for_expiries}
use Rattle.lapdm_progress.proofs.Alone.{IsAlone, IsJoined, joined, ready_same, frame_same, back, Lives, Takes, Counts, HasSlot}
use Rattle.lapdm_delivery.proofs.LockstepHeard.{main_same}
use Rattle.lapdm_progress.proofs.Alone.{zero_alone, un-slot, un-expires, un-frames_of}
use Rattle.std.specs.Option.{option_map}
use Rattle.lapdm_frame.specs.Content.{Frame}
use Rattle.lapdm_end.specs.lapdm_window.declared.Sapi.{Sapi}
use Rattle.lapdm_datalink.specs.declared.data_links.Establishment.TheVariants.{Contention}
use Rattle.lapdm_datalink.specs.DataLinks.{link_with_sapi, is_ui}
use Rattle.lapdm_delivery.specs.Runs.{sapi_of_endpoint}
use Rattle.lapdm_delivery.proofs.Runs.{addressed}
use Rattle.lapdm_progress.specs.Progress as P

or_comm : (a b : Bool) → (a || b) ≡ (b || a)
or_comm b c = grind arith

-- what holds in each place holds on each side
in_each : (o : Role) (P : Role → Type 0) → ((p : Role) → P (place o p)) → (role : Role) → P role
in_each o P h role = subst P (back o role) (h (place o role))

some_of_two : (o : Role) (f g : Role → Bool) → ((p : Role) → f (place o p) ≡ g p) →
    (f Mobile || f Network) ≡ (g Mobile || g Network)
some_of_two Mobile f g h = λ i. h Mobile i || h Network i
some_of_two Network f g h = or_comm (f Mobile) (f Network) ∙ (λ i. h Mobile i || h Network i)

-- layer 3 uses the links alone as it uses those of the data links
pub uses_alone : (w : Pair) (r : Run) (k : ℕ) → IsWithoutRelease r w k → P.IsWithoutRelease (alone w r) k
uses_alone w r k u n h p =
    subst (λ q. All (IsUse (endpoints r w) q) ((alone w r).turn n p).calls) (back w.opener p) (u n h (place w.opener p))

-- in this module, the two links are alone before slot k
module _ (w : Pair) (r : Run) (calls : HasCalls r) (t : (role : Role) → t200_of w.sapi r role ≡ t200_of w.sapi r Mobile) (k : ℕ)
    (a : (n : ℕ) → suc n ≤ k → (role : Role) → IsAlone w.sapi r n role)
  where
    pub joined_at : (n : ℕ) → n ≤ k → (p : Role) → IsJoined w r n p
    joined_at n h = joined w r calls t n (λ j b. a j (omega (arith, b, h)))

    pub ready_at_same : (n : ℕ) → suc n ≤ k → (p : Role) → unheard (ready_link_at r w.sapi n (place w.opener p))
        ≡ P.ready_at (alone w r) n p
    ready_at_same n h p = ready_same w r calls n (joined_at n (omega (arith, h))) p (a n h (place w.opener p))

    -- the frame as the endpoints send it
    abbrev pub end_frame_at : ℕ → Role → Option Frame
    end_frame_at n role = option_map (addressed (sapi_of_endpoint r.establishment w.sapi)) (frame_at r w.sapi n role)

    pub frame_at_same : (n : ℕ) → suc n ≤ k → (p : Role) → end_frame_at n (place w.opener p) ≡ P.frame_at (alone w r) n p
    frame_at_same n h p = frame_same w r calls n (joined_at n (omega (arith, h))) p (a n h (place w.opener p))

    pub loss_at_same : (n : ℕ) → suc n ≤ k → (p : Role) → is_loss_at r w.sapi n (place w.opener p)
        ≡ P.is_loss_at (alone w r) n p
    loss_at_same n h p = loss_end (r.part n (place w.opener p)).is_lost (frame_at r w.sapi n (place w.opener p))
        ∙ ap (is_loss (r.part n (place w.opener p)).is_lost) (frame_at_same n h p)
      where
        loss_end : (lost : Bool) (a : Option Frame) →
            is_loss lost a ≡ is_loss lost (option_map (addressed (sapi_of_endpoint r.establishment w.sapi)) a)
        loss_end lost None = refl
        loss_end lost (Some f) = refl

    pub losses_same : (n : ℕ) → n ≤ k → slots_with (is_lossy r w.sapi) 0 n ≡ P.lossy_slots (alone w r) 0 n
    losses_same n h = slots_same _ _ 0 n (λ m b. some_of_two w.opener (is_loss_at r w.sapi m) (P.is_loss_at (alone w r) m)
        (loss_at_same m (omega (arith, b, h))))

    closed_same : (n : ℕ) → n ≤ k → (p : Role) → is_closed (link_at r w.sapi n (place w.opener p)).endpoint.state
        ≡ is_closed (P.link_at (alone w r) n p).endpoint.state
    closed_same n h p = ap (λ (l : LinkState). is_closed l.endpoint.state) (joined_at n h p).link

    pub kept_alone : (n : ℕ) → n ≤ k → IsKept r w.sapi n → P.NoneGaveUp (alone w r) n
    kept_alone n h none p = sym (closed_same n h p) ∙ none (place w.opener p)

    pub kept_so : (n : ℕ) → n ≤ k → P.NoneGaveUp (alone w r) n → IsKept r w.sapi n
    kept_so n h none = in_each w.opener (λ role. is_closed (link_at r w.sapi n role).endpoint.state ≡ false)
        (λ p. closed_same n h p ∙ none p)

    module _ (long : round_trip r.delay ≤ t200_of w.sapi r Mobile) where
      pub bounds : (j : ℕ) → suc j ≤ k → IsWithoutRelease r w (suc j) → IsKept r w.sapi j → (role : Role) →
          Progress r w j role
      bounds j h u none = in_each w.opener (Progress r w j) at_place
        where
          at_place : (p : Role) → Progress r w j (place w.opener p)
          at_place p = rw (
            back w.opener p,
            t (place w.opener p),
            un-frames_of p (link_at r w.sapi j (place w.opener p)) ∙ ap (P.frames_of p) (joined_at j (omega (arith, h)) p).link,
            losses_same j (omega (arith, h)),
            slots_same (awaits r w.sapi (place w.opener p)) (λ m. awaits_answer (P.ready_at (alone w r) m p).endpoint) 0 j
                (λ m b. ap (λ (l : LinkState). awaits_answer l.endpoint) (ready_at_same m (omega (arith, b, h)) p)),
            slots_same (expires r w.sapi (place w.opener p)) (λ m. expires_in (P.ready_at (alone w r) m p)) 0 (suc j)
                (λ m b. sym (un-expires (ready_link_at r w.sapi m (place w.opener p)))
                ∙ ap expires_in (ready_at_same m (omega (arith, b, h)) p)),
          ) (progress_from_start (alone w r) long j (uses_alone w r (suc j) u) (kept_alone j (omega (arith, h)) none) p)

      pub kept : IsWithoutRelease r w k → slots_with (is_lossy r w.sapi) 0 k ≤ few_losses → IsKept r w.sapi k
      kept u few = kept_so k (omega arith) (few_losses_keep_links (alone w r) long k (uses_alone w r k u)
          (rw (← losses_same k (omega arith)) few))

-- ---- SAPI 0 with contention resolution

-- in the slots up to this one
module _ (r : Run) (kind : r.establishment ≡ Contention) (calls : HasCalls r) (n : ℕ) where
  zero_link : (k : ℕ) → k ≤ suc n → (role : Role) → unheard (link_at r Zero k role) ≡ P.link_at (alone sapi_0 r) k role
  zero_link k h role = (joined_at sapi_0 r calls (λ q. refl) (suc n) (λ j b q. zero_alone r kind calls j q) k h role).link

  zero_ready : (k : ℕ) → suc k ≤ suc n → (role : Role) →
      unheard (ready_link_at r Zero k role) ≡ P.ready_at (alone sapi_0 r) k role
  zero_ready = ready_at_same sapi_0 r calls (λ q. refl) (suc n) (λ j b q. zero_alone r kind calls j q)

  zero_frame : (k : ℕ) → suc k ≤ suc n → (role : Role) → frame_at r Zero k role ≡ P.frame_at (alone sapi_0 r) k role
  zero_frame k h role = as_sent (outcome_at r k role).frame
      ∙ ap (λ e. option_map (addressed (sapi_of_endpoint e Zero)) (frame_at r Zero k role)) (sym kind)
      ∙ frame_at_same sapi_0 r calls (λ q. refl) (suc n) (λ j b q. zero_alone r kind calls j q) k h role
    where
      as_sent : (a : Option Frame) → frame_of Zero a ≡ option_map (addressed Zero) (frame_of Zero a)
      as_sent None = refl
      as_sent (Some f) = by (nat_eq f.sapi 0) (is_ui f.content) refl
        where
          by : (b u : Bool) → nat_eq f.sapi 0 ≡ b → (if b && not u then Some f else None)
              ≡ option_map (addressed Zero) (if b && not u then Some f else None)
          by false u e = refl
          by true true e = refl
          by true false e = ap Some (λ i. record f { sapi = eq_of f.sapi 0 e i })

pub are_as_alone : (r : Run) → AreAsAlone r
are_as_alone r kind calls n role = record {
  link = zero_link r kind calls n n (omega arith) role;
  ready = zero_ready r kind calls n n (omega arith) role;
  frame = zero_frame r kind calls n n (omega arith) role;
  notices = (sapi_0_goes_first (ready_at r n role)).notices
      ∙ ap (λ (o : SlotOutcome). o.notices) (sym (un-slot (ready_link_at r Zero n role)))
      ∙ ap (λ l. (slot_outcome l).notices) (zero_ready r kind calls n n (omega arith) role);
}

pub data_links_progress : (r : Run) → Progresses r
data_links_progress r kind calls long k =
    bounds sapi_0 r calls (λ q. refl) (suc k) (λ n h q. zero_alone r kind calls n q) long k (omega arith)

pub data_links_keep : (r : Run) → KeepsLinks r
data_links_keep r kind calls long k = kept sapi_0 r calls (λ q. refl) k (λ n h q. zero_alone r kind calls n q) long

pub few_losses_progress : (r : Run) → ProgressesAfterFewLosses r
few_losses_progress r kind calls long k u few =
    data_links_progress r kind calls long k u (data_links_keep r kind calls long k (λ n h. u n (omega (arith, h))) few)

pub data_links_pay : (r : Run) → PaysForExpiries r
data_links_pay r kind calls long n u none role again =
    let paid : P.IsPaidFor r.delay r.t200 (frame_at r Zero) (is_loss_at r Zero) (λ k q. unheard (link_at r Zero k q)) n role =
    paid_as n long (λ k h q. sym (zero_frame r kind calls n k (omega (arith, h)) q))
    (λ k h q. ap (is_loss (r.part k q).is_lost) (sym (zero_frame r kind calls n k (omega (arith, h)) q)))
    (λ k h q. sym (zero_link r kind calls n k (omega (arith, h)) q)) role
    (pays_for_expiries (alone sapi_0 r) long n (uses_alone sapi_0 r (suc n) u)
    (λ q. ap (λ (l : LinkState). is_closed l.endpoint.state) (sym (zero_link r kind calls n n (omega arith) q)) ∙ none q) role
    (ap is_repetition (sym (zero_frame r kind calls n n (omega arith) role)) ∙ again)) in
    record { slot = paid.slot; before = paid.before; sent = paid.sent; last = paid.last; lost = paid.lost }

-- ---- links of endpoints with SAPI 3: SAPI 3, and SAPI 0 with normal establishment

-- SAPI 0 is free in each slot
abbrev Free : Sapi → Run → (n : ℕ) (role : Role) → Type 0
Free Zero r n role = Unit {0}
Free Three r n role = IsFree r n role

-- before the slot, SAPI 0 does not hold the links up, and layer 3 uses them and opens them once
record IsUsed (w : Pair) (r : Run) (slot : ℕ) : Type 0 where
  calls : IsWithoutRelease r w slot
  once : (n : ℕ) → suc n ≤ slot → (role : Role) → OpensOnce r w.sapi n role
  free : (n : ℕ) → suc n ≤ slot → (role : Role) → Free w.sapi r n role

takes_free : (s : Sapi) (r : Run) (n : ℕ) (role : Role) → Free s r n role → Takes s (arriving_at r n role) (before_at r n role)
takes_free Zero r n role f = tt
takes_free Three r n role f = f.arrival

counts_free : (s : Sapi) (r : Run) (n : ℕ) (role : Role) → Free s r n role → Counts s (ready_at r n role)
counts_free Zero r n role f = tt
counts_free Three r n role f = f.clock

slot_free : (s : Sapi) (r : Run) (n : ℕ) (role : Role) → Free s r n role → HasSlot s (ready_at r n role)
slot_free Zero r n role f = tt
slot_free Three r n role f = f.slot

module _ (w : Pair) (r : Run) (kind : sapi_of_endpoint r.establishment w.sapi ≡ Three) (calls : HasCalls r)
    (t : (role : Role) → t200_of w.sapi r role ≡ t200_of w.sapi r Mobile) (long : round_trip r.delay ≤ t200_of w.sapi r Mobile)
  where
    alone_in : (n : ℕ) → IsUsed w r (suc n) → IsKept r w.sapi n → (role : Role) → IsAlone w.sapi r n role
    alone_in n u none role =
        let f = u.free n (omega arith) role in
        record {
          before = subst (λ k. Lives k (link_with_sapi w.sapi (before_at r n role))) (sym kind)
              (ap (λ (l : LinkState). is_closed l.endpoint.state)
              (main_same w.sapi (r.part n role).is_main_established (side_at r n role).data_link) ∙ none role);
          once = u.once n (omega arith) role;
          arrival = takes_free w.sapi r n role f;
          clock = counts_free w.sapi r n role f;
          slot = slot_free w.sapi r n role f;
        }

    used_less : (n k : ℕ) → n ≤ k → IsUsed w r k → IsUsed w r n
    used_less n k h u = record {
      calls = λ j b. u.calls j (omega (arith, b, h));
      once = λ j b. u.once j (omega (arith, b, h));
      free = λ j b. u.free j (omega (arith, b, h));
    }

    less : (a b : ℕ) → a ≤ suc b → nat_eq a (suc b) ≡ false → a ≤ b
    less a b h e = grind (arith, h, e)

    alone_all : (k : ℕ) → IsUsed w r k → ((n : ℕ) → suc n ≤ k → IsKept r w.sapi n) → (n : ℕ) → suc n ≤ k →
        (role : Role) → IsAlone w.sapi r n role
    alone_all k u none n h = alone_in n (used_less (suc n) k h u) (none n h)

    keeps_next : (k : ℕ) → IsUsed w r (suc k) → slots_with (is_lossy r w.sapi) 0 (suc k) ≤ few_losses → IsKeptTo r w.sapi k →
        IsKeptTo r w.sapi (suc k)
    keeps_next k u few before n h = elim (cases_Bool (nat_eq n (suc k))) [
      | inl e ↦ rw (eq_of n (suc k) e) (kept w r calls t (suc k)
          (alone_all (suc k) u (λ j b. before j (omega (arith, b)))) long u.calls few)
      | inr e ↦ before n (less n k h e)
    ]

    keeps : (k : ℕ) → IsUsed w r k → slots_with (is_lossy r w.sapi) 0 k ≤ few_losses → IsKeptTo r w.sapi k
    keeps zero u few zero h role = first_kept w.sapi
      where
        first_kept : (s : Sapi) → is_closed (link_at r s 0 role).endpoint.state ≡ false
        first_kept Zero = refl
        first_kept Three = refl
    keeps zero u few (suc n) h role = absurd (omega (arith, h))
    keeps (suc k) u few n h role =
        keeps_next k u few (keeps k (used_less k (suc k) (omega arith) u) (omega (arith, few))) n h role

    progresses : (k : ℕ) → IsUsed w r (suc k) → IsKeptTo r w.sapi k → (role : Role) → Progress r w k role
    progresses k u none = bounds w r calls t (suc k) (alone_all (suc k) u (λ n h. none n (omega (arith, h)))) long k (omega arith)
        u.calls (none k (omega arith))

-- ---- SAPI 3

one_t200 : (r : Run) → HasT200 r → (role : Role) → r.t200_sapi3 role ≡ r.t200_sapi3 Mobile
one_t200 r t Mobile = refl
one_t200 r t Network = t.same

used_sapi_3 : (o : Role) (r : Run) (k : ℕ) → IsUsedBefore r o k → IsUsed (sapi_3_of o) r k
used_sapi_3 o r k u = record { calls = u.calls; once = u.once; free = u.free }

pub sapi_3_progresses : (r : Run) → Sapi3Progresses r
sapi_3_progresses r calls t o k u = progresses (sapi_3_of o) r refl calls (one_t200 r t) t.long k (used_sapi_3 o r (suc k) u)

pub sapi_3_is_kept : (r : Run) → Sapi3KeepsLinks r
sapi_3_is_kept r calls t o k u = keeps (sapi_3_of o) r refl calls (one_t200 r t) t.long k (used_sapi_3 o r k u)

-- ---- SAPI 0 with normal establishment

used_sapi_0 : (o : Role) (r : Run) (k : ℕ) → IsUsedOnceBefore r o k → IsUsed (sapi_0_of o) r k
used_sapi_0 o r k u = record { calls = u.calls; once = u.once; free = λ n h role. tt }

pub normal_progresses : (r : Run) → NormalProgresses r
normal_progresses r kind calls long o k u =
    progresses (sapi_0_of o) r (ap (λ e. sapi_of_endpoint e Zero) kind) calls (λ role. refl) long k (used_sapi_0 o r (suc k) u)

pub normal_is_kept : (r : Run) → NormalKeepsLinks r
normal_is_kept r kind calls long o k u =
    keeps (sapi_0_of o) r (ap (λ e. sapi_of_endpoint e Zero) kind) calls (λ role. refl) long k (used_sapi_0 o r k u)
