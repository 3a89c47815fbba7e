-- The states of the two links while neither is closed: how the mobile opens, what the network knows, and what is on its way.
use Rattle.{
  lapdm_progress.{
    proofs.{
      Start.{due_after_slot, is_young, idle_silent},
      Frames.{response_is, opening_awaits, Brings, opened, accepting, StaysOpen, CalledTo, nothing, opens, sends, calls_to, slot_info},
      Frames.{slot_state, opening_brings, open_brings, opening_arrives, idle_arrives, open_arrives, still_brings},
      Runs.{placed_in, NeverReleases, sound, slotted_in, called_in},
      Link.may_open,
      Steps.IsIn,
    },
    specs.{Channels.{after_slot, Run, side_at, after_calls, after_arriving}, Progress.{link_at, arriving_at, ready_at, frame_at}},
  },
  lapdm_end.specs.lapdm_window.{
    Ends.{sapi_number, awaits_answer, Role, Mobile, Network, response_frame},
    declared.State.TheVariants.{Idle, Opening, Open, Closed},
    Calls.is_idle,
  },
  std.{
    specs.Prelude.{◌≡◌, ◌≢◌, ℕ, zero, suc, ◌≤◌, Bool, true, false, ◌⊎◌, List, get_or, Option, Some, None, IfSome},
    proofs.Common.{inl, inr, arith, refl, ap, sym, ◌∙◌},
  },
  lapdm_frame.specs.Content.{Ua, Frame},
  lapdm_datalink.specs.Links.LinkState,
  lapdm_delivery.specs.Lockstep.carried,
}

-- a clock counts while an answer is awaited
counts_on : (held : Bool) (l : LinkState) → awaits_answer l.endpoint ≡ true → after_slot held l ≡ after_slot false l
counts_on true l a = rw a refl
counts_on false l a = refl

module _ (r : Run) (u : NeverReleases r) where
  abbrev pub L : ℕ → Role → LinkState
  L n role = link_at r n role

  abbrev pub M : ℕ → Role → LinkState
  M n role = ready_at r n role

  abbrev pub info_at : ℕ → List ℕ
  info_at n = (link_at r n Mobile).endpoint.sabm_info

  -- whether the link of this role has not opened
  abbrev pub young_at : ℕ → Role → Bool
  young_at n role = is_young (link_at r n role).endpoint.state

  abbrev pub Unclosed : ℕ → Type 0
  Unclosed n = (j : ℕ) → j ≤ n → (role : Role) → (link_at r j role).endpoint.state ≢ Closed

  pub record Known (n : ℕ) : Type 0 where
    pub mobile : ((L n Mobile).endpoint.state ≡ Idle) ⊎ ((L n Mobile).endpoint.state ≡ Opening)
        ⊎ ((L n Mobile).endpoint.state ≡ Open)
    pub network : ((L n Network).endpoint.state ≡ Idle) ⊎ ((L n Network).endpoint.state ≡ Open)
    pub info : (L n Network).endpoint.state ≡ Open → (L n Network).endpoint.sabm_info ≡ info_at n
    pub some : (L n Mobile).endpoint.state ≢ Idle → may_open r.pair.opener r.pair.sapi (info_at n) ≡ true
    pub later : (L n Mobile).endpoint.state ≡ Open → (L n Network).endpoint.state ≡ Open
    pub frames : (role : Role) (k : ℕ) → IfSome (get_or (side_at r n role).sent k None)
        (λ f. (f.sapi ≡ sapi_number r.pair.sapi) × Brings r.pair.opener role (young_at n role) (info_at n) f.cr f.content)

  -- the mobile in a slot
  pub data MobileSlot (n : ℕ) : Type 0 where
    rests : (L n Mobile).endpoint.state ≡ Idle → M n Mobile ≡ after_slot (r.turn n Mobile).is_held (L n Mobile) → MobileSlot n
    begins : (L n Mobile).endpoint.state ≡ Idle → (M n Mobile).endpoint.state ≡ Opening →
        may_open r.pair.opener r.pair.sapi (M n Mobile).endpoint.sabm_info ≡ true → (M n Mobile).is_sent ≡ false →
        (M n Mobile).clock ≡ 0 →
        (M n Mobile).answer ≡ None → MobileSlot n
    tries : (L n Mobile).endpoint.state ≡ Opening → M n Mobile ≡ after_slot false (L n Mobile) → MobileSlot n
    joins : (L n Mobile).endpoint.state ≡ Opening → (M n Mobile).endpoint.state ≡ Open →
        (M n Mobile).endpoint.sabm_info ≡ info_at n → (M n Mobile).answer ≡ None → (L n Network).endpoint.state ≡ Open →
        MobileSlot n
    stays : (L n Mobile).endpoint.state ≡ Open → (M n Mobile).endpoint.state ≡ Open →
        (M n Mobile).endpoint.sabm_info ≡ info_at n →
        IfSome (M n Mobile).answer (λ f. Brings r.pair.opener Mobile false (info_at n) f.cr f.content) → MobileSlot n

  -- the network in a slot
  pub data NetworkSlot (n : ℕ) : Type 0 where
    rests : (L n Network).endpoint.state ≡ Idle → M n Network ≡ after_slot (r.turn n Network).is_held (L n Network) → NetworkSlot n
    joins : (L n Network).endpoint.state ≡ Idle → (M n Network).endpoint.state ≡ Open →
        (M n Network).endpoint.sabm_info ≡ info_at n →
        (M n Network).answer ≡ Some (response_frame (L n Network).endpoint (Ua true (info_at n))) →
        arriving_at r n Network ≢ None → NetworkSlot n
    stays : (L n Network).endpoint.state ≡ Open → (M n Network).endpoint.state ≡ Open →
        (M n Network).endpoint.sabm_info ≡ (L n Network).endpoint.sabm_info →
        IfSome (M n Network).answer (λ f. Brings r.pair.opener Network false (info_at n) f.cr f.content) → NetworkSlot n

  module _ (n : ℕ) where
    abbrev pub after : Role → LinkState
    after role = after_arriving (arriving_at r n role) (L n role)

    pub calls_of : (role : Role) → CalledTo r.pair role (after role) (after_calls (r.turn n role).calls (after role))
    calls_of role = calls_to r.pair role (r.turn n role).calls (after role) (u n role)

    pub kept : (role : Role) → (M n role).answer ≡ (after role).answer
    kept role = (called_in r u n role).answer_same

    none : (role : Role) → (L n role).answer ≡ None
    none role = ((sound r u n).settled role).owes

    place_is : (role : Role) → IsIn r.pair role (L n role)
    place_is role = (sound r u n).placed role

    idle_then : (L n Mobile).endpoint.state ≡ Idle → (L n Network).endpoint.state ≡ Open → ⊥
    idle_then i o = cc ((sound r u n).network_idle (ap is_idle i))

    mobile_idle : (L n Mobile).endpoint.state ≡ Idle → MobileSlot n
    mobile_idle i = by_calls (calls_of Mobile)
      where
        due_then : (after_calls (r.turn n Mobile).calls (after Mobile)).clock ≡ 0 → (M n Mobile).clock ≡ 0
        due_then = due_after_slot (r.turn n Mobile).is_held (after_calls (r.turn n Mobile).calls (after Mobile))

        same : after Mobile ≡ L n Mobile
        same = ap (λ o. after_arriving o (L n Mobile)) ((sound r u n).silent (ap is_idle i) Network r.delay)

        by_calls : CalledTo r.pair Mobile (after Mobile) (after_calls (r.turn n Mobile).calls (after Mobile)) → MobileSlot n
        by_calls (nothing e) = rests i (ap (after_slot (r.turn n Mobile).is_held) (e ∙ same))
        by_calls (opens a b c d f g) = begins i c d f (due_then g) (kept Mobile ∙ ap (λ l. l.answer) same ∙ none Mobile)
        by_calls (sends a b c) = absurd (cc same)

    mobile_opening : Known n → (L n Mobile).endpoint.state ≡ Opening → MobileSlot n
    mobile_opening h o = by_after (opening_arrives r.pair (L n Mobile) (young_at n Network) (place_is Mobile) o
        (arriving_at r n Mobile) (h.frames Network r.delay))
      where
        by_after : (after Mobile ≡ L n Mobile) ⊎ ((after Mobile ≡ opened (L n Mobile)) × (young_at n Network ≡ false)) →
            MobileSlot n
        by_after (inl e) = by_calls (calls_of Mobile)
          where
            by_calls : CalledTo r.pair Mobile (after Mobile) (after_calls (r.turn n Mobile).calls (after Mobile)) → MobileSlot n
            by_calls (nothing c) = tries o (ap (after_slot (r.turn n Mobile).is_held) (c ∙ e)
                ∙ counts_on (r.turn n Mobile).is_held (L n Mobile) (opening_awaits (L n Mobile) o))
            by_calls (opens a b c d f g) = absurd cc
            by_calls (sends a b c) = absurd cc
        by_after (inr (e, i)) = by_calls (calls_of Mobile)
          where
            a_open : (after Mobile).endpoint.state ≡ Open
            a_open = ap (λ l. l.endpoint.state) e

            answers : (M n Mobile).answer ≡ None
            answers = kept Mobile ∙ ap (λ l. l.answer) e ∙ none Mobile

            there : (L n Network).endpoint.state ≡ Open
            there = elim h.network [
              | inl x ↦ absurd cc
              | inr x ↦ x
            ]

            by_calls : CalledTo r.pair Mobile (after Mobile) (after_calls (r.turn n Mobile).calls (after Mobile)) → MobileSlot n
            by_calls (nothing c) = joins o (ap (λ l. l.endpoint.state) c ∙ a_open)
                (ap (λ l. l.endpoint.sabm_info) c ∙ ap (λ l. l.endpoint.sabm_info) e) answers there
            by_calls (opens a b c d f g) = absurd (cc a_open)
            by_calls (sends a b c) = joins o b (c ∙ ap (λ l. l.endpoint.sabm_info) e) answers there

    open_slot : (role : Role) → (L n role).endpoint.state ≡ Open → StaysOpen r.pair role (L n role) (after role) →
        ((M n role).endpoint.state ≡ Open) × ((M n role).endpoint.sabm_info ≡ (L n role).endpoint.sabm_info)
        × IfSome (M n role).answer (λ f. Brings r.pair.opener role false (L n role).endpoint.sabm_info f.cr f.content)
    open_slot role o x = by_calls (calls_of role)
      where
        owes : IfSome (M n role).answer (λ f. Brings r.pair.opener role false (L n role).endpoint.sabm_info f.cr f.content)
        owes = rw (kept role) x.owes

        by_calls : CalledTo r.pair role (after role) (after_calls (r.turn n role).calls (after role)) →
            ((M n role).endpoint.state ≡ Open) × ((M n role).endpoint.sabm_info ≡ (L n role).endpoint.sabm_info)
            × IfSome (M n role).answer (λ f. Brings r.pair.opener role false (L n role).endpoint.sabm_info f.cr f.content)
        by_calls (nothing c) = (ap (λ l. l.endpoint.state) c ∙ x.state, ap (λ l. l.endpoint.sabm_info) c ∙ x.info, owes)
        by_calls (opens a b c d f g) = absurd (cc x.state)
        by_calls (sends a b c) = (b, c ∙ x.info, owes)

    pub mobile_slot : Known n → MobileSlot n
    mobile_slot h = by_state h.mobile
      where
        by_state : ((L n Mobile).endpoint.state ≡ Idle) ⊎ ((L n Mobile).endpoint.state ≡ Opening)
            ⊎ ((L n Mobile).endpoint.state ≡ Open) →
            MobileSlot n
        by_state (inl i) = mobile_idle i
        by_state (inr (inl o)) = mobile_opening h o
        by_state (inr (inr o)) =
            let x = open_slot Mobile o
            (open_arrives r.pair (L n Mobile) (young_at n Network) o (none Mobile) Mobile
            (place_is Mobile) (h.some (λ i. cc)) (arriving_at r n Mobile) (h.frames Network r.delay)) in
            stays o x.0 x.1 x.2

    network_idle : Known n → (L n Network).endpoint.state ≡ Idle → NetworkSlot n
    network_idle h i = by_after (arrives_idle h.mobile)
      where
        arrives_idle : ((L n Mobile).endpoint.state ≡ Idle) ⊎ ((L n Mobile).endpoint.state ≡ Opening)
            ⊎ ((L n Mobile).endpoint.state ≡ Open) → (after Network ≡ L n Network)
            ⊎ ((after Network ≡ accepting (info_at n) (L n Network)) × (arriving_at r n Network ≢ None))
        arrives_idle (inl m) = inl (ap (λ o. after_arriving o (L n Network)) ((sound r u n).silent (ap is_idle m) Mobile r.delay))
        arrives_idle (inr (inl m)) = idle_arrives r.pair (L n Network) (young_at n Mobile) (place_is Network) i
            (ap is_young m) (info_at n) (h.some (λ e. cc)) (arriving_at r n Network) (h.frames Mobile r.delay)
        arrives_idle (inr (inr m)) = absurd (cc (h.later m))

        by_after : (after Network ≡ L n Network)
            ⊎ ((after Network ≡ accepting (info_at n) (L n Network)) × (arriving_at r n Network ≢ None)) → NetworkSlot n
        by_after (inl e) = by_calls (calls_of Network)
          where
            by_calls : CalledTo r.pair Network (after Network) (after_calls (r.turn n Network).calls (after Network)) → NetworkSlot n
            by_calls (nothing c) = rests i (ap (after_slot (r.turn n Network).is_held) (c ∙ e))
            by_calls (opens a b c d f g) = absurd cc
            by_calls (sends a b c) = absurd cc
        by_after (inr (e, o)) = by_calls (calls_of Network)
          where
            answers : (M n Network).answer ≡ Some (response_frame (L n Network).endpoint (Ua true (info_at n)))
            answers = kept Network ∙ ap (λ l. l.answer) e

            by_calls : CalledTo r.pair Network (after Network) (after_calls (r.turn n Network).calls (after Network)) → NetworkSlot n
            by_calls (nothing c) = joins i (ap (λ l. l.endpoint.state) c ∙ ap (λ l. l.endpoint.state) e)
                (ap (λ l. l.endpoint.sabm_info) c ∙ ap (λ l. l.endpoint.sabm_info) e) answers o
            by_calls (opens a b c d f g) = absurd cc
            by_calls (sends a b c) = joins i b (c ∙ ap (λ l. l.endpoint.sabm_info) e) answers o

    pub network_slot : Known n → NetworkSlot n
    network_slot h = elim h.network [
      | inl i ↦ network_idle h i
      | inr o ↦
          let x = open_slot Network o
          (open_arrives r.pair (L n Network) (young_at n Mobile) o (none Network) Network
          (place_is Network) (rw (h.info o) (h.some (λ i. idle_then i o))) (arriving_at r n Network)
          (rw (← h.info o) at (h.frames Mobile r.delay))) in
          stays o x.0 x.1 (rw (h.info o) at x.2)
    ]

  -- ---- the next slot

  pub state_next : (n : ℕ) → Unclosed (suc n) → (role : Role) → (L (suc n) role).endpoint.state ≡ (M n role).endpoint.state
  state_next n c role = elim (slot_state (M n role)) [
    | inl e ↦ e
    | inr e ↦ absurd (c (suc n) (omega arith) role e)
  ]

  pub info_next : (n : ℕ) (role : Role) → (L (suc n) role).endpoint.sabm_info ≡ (M n role).endpoint.sabm_info
  info_next n role = slot_info (M n role)

  module _ (n : ℕ) (h : Known n) (c : Unclosed (suc n)) where
    mobile_next : MobileSlot n → ((L (suc n) Mobile).endpoint.state ≡ Idle) ⊎ ((L (suc n) Mobile).endpoint.state ≡ Opening)
        ⊎ ((L (suc n) Mobile).endpoint.state ≡ Open)
    mobile_next (rests i e) = inl (state_next n c Mobile ∙ ap (λ l. l.endpoint.state) e ∙ i)
    mobile_next (begins i o x s k a) = inr (inl (state_next n c Mobile ∙ o))
    mobile_next (tries o e) = inr (inl (state_next n c Mobile ∙ ap (λ l. l.endpoint.state) e ∙ o))
    mobile_next (joins o p i a t) = inr (inr (state_next n c Mobile ∙ p))
    mobile_next (stays o p i a) = inr (inr (state_next n c Mobile ∙ p))

    network_next : NetworkSlot n → ((L (suc n) Network).endpoint.state ≡ Idle) ⊎ ((L (suc n) Network).endpoint.state ≡ Open)
    network_next (rests i e) = inl (state_next n c Network ∙ ap (λ l. l.endpoint.state) e ∙ i)
    network_next (joins i p x a o) = inr (state_next n c Network ∙ p)
    network_next (stays o p x a) = inr (state_next n c Network ∙ p)

    -- a mobile that is not idle keeps the information of its SABM
    same_info : MobileSlot n → (L n Mobile).endpoint.state ≢ Idle → info_at (suc n) ≡ info_at n
    same_info (rests i e) q = absurd (q i)
    same_info (begins i o x s k a) q = absurd (q i)
    same_info (tries o e) q = info_next n Mobile ∙ ap (λ l. l.endpoint.sabm_info) e
    same_info (joins o p i a t) q = info_next n Mobile ∙ i
    same_info (stays o p i a) q = info_next n Mobile ∙ i

    open_before : NetworkSlot n → (L (suc n) Network).endpoint.state ≡ Open → (L n Mobile).endpoint.state ≢ Idle
    open_before (rests i e) o m = cc (state_next n c Network)
    open_before (joins i p x a q) o m = q ((sound r u n).silent (ap is_idle m) Mobile r.delay)
    open_before (stays o' p x a) o m = idle_then n m o'

    info_then : NetworkSlot n → (L (suc n) Network).endpoint.state ≡ Open → (L (suc n) Network).endpoint.sabm_info ≡ info_at (suc n)
    info_then w o = info_next n Network ∙ by_slot w ∙ sym (same_info (mobile_slot n h) (open_before w o))
      where
        by_slot : NetworkSlot n → (M n Network).endpoint.sabm_info ≡ info_at n
        by_slot (rests i e) = absurd (cc (state_next n c Network))
        by_slot (joins i p x a q) = x
        by_slot (stays o' p x a) = x ∙ h.info o'

    some_next : MobileSlot n → (L (suc n) Mobile).endpoint.state ≢ Idle → may_open r.pair.opener r.pair.sapi (info_at (suc n))
        ≡ true
    some_next (rests i e) q = absurd (q (state_next n c Mobile ∙ ap (λ l. l.endpoint.state) e ∙ i))
    some_next (begins i o x s k a) q = rw (info_next n Mobile) x
    some_next (tries o e) q = rw (same_info (tries o e) (λ i. cc)) (h.some (λ i. cc))
    some_next (joins o p i a t) q =
        rw (same_info (joins o p i a t) (λ i. cc)) (h.some (λ i. cc))
    some_next (stays o p i a) q = rw (same_info (stays o p i a) (λ i. cc)) (h.some (λ i. cc))

    pub network_stays : NetworkSlot n → (L n Network).endpoint.state ≡ Open → (L (suc n) Network).endpoint.state ≡ Open
    network_stays (rests i e) o = absurd cc
    network_stays (joins i p x a q) o = state_next n c Network ∙ p
    network_stays (stays o' p x a) o = state_next n c Network ∙ p

    later_next : MobileSlot n → (L (suc n) Mobile).endpoint.state ≡ Open → (L (suc n) Network).endpoint.state ≡ Open
    later_next (rests i e) q = absurd (cc (state_next n c Mobile))
    later_next (begins i o x s k a) q = absurd (cc (state_next n c Mobile))
    later_next (tries o e) q = absurd (cc (state_next n c Mobile))
    later_next (joins o p i a t) q = network_stays (network_slot n h) t
    later_next (stays o p i a) q = network_stays (network_slot n h) (h.later o)

    young_next : (role : Role) → young_at n role ≡ false → young_at (suc n) role ≡ false
    young_next Mobile f = by_slot (mobile_slot n h)
      where
        by_slot : MobileSlot n → young_at (suc n) Mobile ≡ false
        by_slot (rests i e) = absurd cc
        by_slot (begins i o x s k a) = absurd cc
        by_slot (tries o e) = absurd cc
        by_slot (joins o p i a t) = ap is_young (state_next n c Mobile ∙ p)
        by_slot (stays o p i a) = ap is_young (state_next n c Mobile ∙ p)
    young_next Network f = by_slot (network_slot n h)
      where
        by_slot : NetworkSlot n → young_at (suc n) Network ≡ false
        by_slot (rests i e) = absurd cc
        by_slot (joins i p x a q) = absurd cc
        by_slot (stays o p x a) = ap is_young (state_next n c Network ∙ p)

    abbrev pub Sent : Role → Option Frame → Type 0
    Sent role x = IfSome x (λ f. (f.sapi ≡ sapi_number r.pair.sapi) × Brings r.pair.opener role (young_at (suc n) role)
        (info_at (suc n)) f.cr f.content)

    with_sapi : (role : Role) (x : Option Frame) → frame_at r n role ≡ x →
        IfSome x (λ f. Brings r.pair.opener role (young_at (suc n) role) (info_at (suc n)) f.cr f.content) → Sent role x
    with_sapi role None e b = tt
    with_sapi role (Some f) e b = ((slotted_in r u n role).sapi f e ∙ ap sapi_number (place_is n role).sapi, b)

    mobile_sends : MobileSlot n → Sent Mobile (frame_at r n Mobile)
    mobile_sends (rests i e) = rw (idle_silent (M n Mobile) (ap (λ l. is_idle l.endpoint.state) e ∙ ap is_idle i)
        (ap (λ l. l.answer) e ∙ none n Mobile)) tt
    mobile_sends (begins i o x s k a) = with_sapi Mobile (frame_at r n Mobile) refl
        (rw (info_next n Mobile) (opening_brings (M n Mobile) r.pair Mobile (placed_in r u n Mobile) (young_at (suc n) Mobile) o refl a))
    mobile_sends (tries o e) = with_sapi Mobile (frame_at r n Mobile) refl
        (rw (info_next n Mobile) (opening_brings (M n Mobile) r.pair Mobile (placed_in r u n Mobile) (young_at (suc n) Mobile)
        (ap (λ l. l.endpoint.state) e ∙ o) refl (ap (λ l. l.answer) e ∙ none n Mobile)))
    mobile_sends (joins o p i a t) = with_sapi Mobile (frame_at r n Mobile) refl
        (rw (info_next n Mobile) (open_brings (M n Mobile) r.pair Mobile (placed_in r u n Mobile) (young_at (suc n) Mobile) p
        (ap is_young (state_next n c Mobile ∙ p)) (rw a tt)))
    mobile_sends (stays o p i a) = with_sapi Mobile (frame_at r n Mobile) refl
        (rw (info_next n Mobile) (open_brings (M n Mobile) r.pair Mobile (placed_in r u n Mobile) (young_at (suc n) Mobile) p old
        (rw (old, i) a)))
      where
        old : young_at (suc n) Mobile ≡ false
        old = ap is_young (state_next n c Mobile ∙ p)

    network_sends : NetworkSlot n → Sent Network (frame_at r n Network)
    network_sends (rests i e) = rw (idle_silent (M n Network) (ap (λ l. is_idle l.endpoint.state) e ∙ ap is_idle i)
        (ap (λ l. l.answer) e ∙ none n Network)) tt
    network_sends (joins i p x a o) = with_sapi Network (frame_at r n Network) refl
        (rw (← same) (open_brings (M n Network) r.pair Network (placed_in r u n Network) (young_at (suc n) Network) p old (rw a owes)))
      where
        old : young_at (suc n) Network ≡ false
        old = ap is_young (state_next n c Network ∙ p)

        same : (M n Network).endpoint.sabm_info ≡ info_at (suc n)
        same = sym (info_next n Network) ∙ info_then (joins i p x a o) (state_next n c Network ∙ p)

        owes : Brings r.pair.opener Network (young_at (suc n) Network) (M n Network).endpoint.sabm_info
            (response_frame (L n Network).endpoint (Ua true (info_at n))).cr (Ua true (info_at n))
        owes = (refl, sym x, ap (λ (x : Frame). x.cr) (response_is r.pair (L n Network) (place_is n Network) (info_at n)), refl, old)
    network_sends (stays o p x a) = with_sapi Network (frame_at r n Network) refl
        (rw (← same) (open_brings (M n Network) r.pair Network (placed_in r u n Network) (young_at (suc n) Network) p old
        (rw (old, x ∙ h.info o) a)))
      where
        old : young_at (suc n) Network ≡ false
        old = ap is_young (state_next n c Network ∙ p)

        same : (M n Network).endpoint.sabm_info ≡ info_at (suc n)
        same = sym (info_next n Network) ∙ info_then (stays o p x a) (state_next n c Network ∙ p)

    sends_next : (role : Role) → Sent role (frame_at r n role)
    sends_next Mobile = mobile_sends (mobile_slot n h)
    sends_next Network = network_sends (network_slot n h)

    carried_sent : (role : Role) (lost : Bool) (x : Option Frame) → Sent role x → Sent role (carried lost x)
    carried_sent role true x b = tt
    carried_sent role false x b = b

    older : (role : Role) (x : Option Frame) → ((L n Mobile).endpoint.state ≡ Idle → x ≡ None) →
        IfSome x (λ f. (f.sapi ≡ sapi_number r.pair.sapi) × Brings r.pair.opener role (young_at n role)
        (info_at n) f.cr f.content) → Sent role x
    older role None q b = tt
    older role (Some f) q b = (
      b.0,
      rw (same_info (mobile_slot n h) not_idle)
          (still_brings r.pair.opener role (info_at n) f.cr f.content (young_at n role) (young_at (suc n) role) (young_next role) b.1),
    )
      where
        not_idle : (L n Mobile).endpoint.state ≢ Idle
        not_idle i = cc (q i)

    frames_next : (role : Role) (k : ℕ) → Sent role (get_or (side_at r (suc n) role).sent k None)
    frames_next role zero = (carried_sent role (r.turn n role).is_lost (frame_at r n role) (sends_next role))
    frames_next role (suc k) = (older role (get_or (side_at r n role).sent k None)
        (λ i. (sound r u n).silent (ap is_idle i) role k) (h.frames role k))

    known_next : Known (suc n)
    known_next = record {
      mobile = mobile_next (mobile_slot n h);
      network = network_next (network_slot n h);
      info = λ o. info_then (network_slot n h) o;
      some = λ q. some_next (mobile_slot n h) q;
      later = λ o. later_next (mobile_slot n h) o;
      frames = frames_next;
    }

  known_start : Known 0
  known_start = record {
    mobile = inl refl;
    network = inl refl;
    info = λ o. absurd cc;
    some = λ q. absurd (q refl);
    later = λ o. absurd cc;
    frames = silent;
  }
    where
      silent : (role : Role) (k : ℕ) → IfSome (get_or (side_at r 0 role).sent k None)
          (λ f. (f.sapi ≡ sapi_number r.pair.sapi) × Brings r.pair.opener role (young_at 0 role) (info_at 0) f.cr f.content)
      silent role k = tt

  pub known : (n : ℕ) → Unclosed n → Known n
  known zero c = known_start
  known (suc n) c = known_next n (known n (λ j a q. c j (omega (arith, a)) q)) c
