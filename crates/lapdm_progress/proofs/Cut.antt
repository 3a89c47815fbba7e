-- A run that is cut: after some slots layer 3 makes no call and no block is lost. Until then both runs are the same.
use Rattle.{
  lapdm_progress.{
    proofs.{Known.Unclosed, FromStart.{from_start, keeps, unclosed}},
    proofs.{Slots.slots_same, Runs.NeverReleases, Expiries.pays, Polls.progresses},
    specs.{
      Progress.{link_at, ready_at, frame_at, is_loss, is_loss_at, is_lossy, waiting_slots, lossy_slots, expiries, is_i_frame},
      Progress.{is_repetition, IsWithoutRelease, IsPaidFor, Progress, round_trip, PaysForExpiries, Progresses, frames_of},
      Progress.{ProgressesFromStart, KeepsLinks, NoneGaveUp},
      Channels.{Turn, Side, side_at, side_after, before_sending, IsUse, Run},
    },
  },
  std.specs.Prelude.{get_or, None, zero, ◌≡◌, ℕ, suc, ◌+◌, ◌≤◌, Bool, true, false, nat_lt, [], ◌≢◌, Option},
  std.proofs.{lemmas.{List.Elements.All-nil, Bool.cases_Bool}, Common.{inl, inr, arith, refl, ap, sym, ◌∙◌}},
  lapdm_frame.specs.Content.Frame,
  lapdm_end.specs.lapdm_window.{declared.State.{TheVariants.Closed, State}, Ends.{Role, Mobile, Network, awaits_answer}, Rules.is_open},
  lapdm_link.specs.Events.other,
  lapdm_datalink.specs.{Links.{LinkState, slot_outcome, is_closed}, Slots.expires_in},
}

-- the run in which layer 3 makes no calls from slot `m` on
abbrev pub turn_if : Bool → Turn → Turn
turn_if true t = t
turn_if false t = record { calls = []; is_held = false; is_lost = false }

abbrev pub cut : (slots : ℕ) → Run → Run
cut m r = record r { turn = λ n role. turn_if (nat_lt n m) (r.turn n role) }

before : (n m : ℕ) → suc n ≤ m → nat_lt n m ≡ true
before n m h = grind (arith, h)

within : (n m : ℕ) → nat_lt n m ≡ true → suc n ≤ m
within n m h = grind (arith, h)

module _ (m : ℕ) (r : Run) where
  turn_same : (n : ℕ) → suc n ≤ m → (role : Role) → (cut m r).turn n role ≡ r.turn n role
  turn_same n h role = ap (λ b. turn_if b (r.turn n role)) (before n m h)

  side_same : (n : ℕ) → n ≤ m → (role : Role) → side_at (cut m r) n role ≡ side_at r n role
  side_same zero h role = refl
  side_same (suc n) h role = λ i. side_after (turn_same n h role i)
      (get_or (side_same n (omega (arith, h)) (other role) i).sent r.delay None) (side_same n (omega (arith, h)) role i)

  pub link_same : (n : ℕ) → n ≤ m → (role : Role) → link_at (cut m r) n role ≡ link_at r n role
  link_same n h role = ap (λ (s : Side). s.link) (side_same n h role)

  pub ready_same : (n : ℕ) → suc n ≤ m → (role : Role) → ready_at (cut m r) n role ≡ ready_at r n role
  ready_same n h role = λ i. before_sending (get_or (side_same n (omega (arith, h)) (other role) i).sent r.delay None)
      (turn_same n h role i) (side_same n (omega (arith, h)) role i).link

  frame_same : (n : ℕ) → suc n ≤ m → (role : Role) → frame_at (cut m r) n role ≡ frame_at r n role
  frame_same n h role = ap (λ l. (slot_outcome l).frame) (ready_same n h role)

  loss_same : (n : ℕ) → suc n ≤ m → (role : Role) → is_loss_at (cut m r) n role ≡ is_loss_at r n role
  loss_same n h role = λ i. is_loss (turn_same n h role i).is_lost (frame_same n h role i)

  lossy_same : (n : ℕ) → suc n ≤ m → is_lossy (cut m r) n ≡ is_lossy r n
  lossy_same n h = rw (loss_same n h Mobile, loss_same n h Network) refl

  pub waiting_same : (n k : ℕ) → n + k ≤ m → (role : Role) → waiting_slots (cut m r) n k role ≡ waiting_slots r n k role
  waiting_same n k h role = slots_same _ _ n k (λ j a. ap (λ l. awaits_answer l.endpoint) (ready_same j (omega (arith, a, h)) role))

  pub losses_same : (n k : ℕ) → n + k ≤ m → lossy_slots (cut m r) n k ≡ lossy_slots r n k
  losses_same n k h = slots_same _ _ n k (λ j a. lossy_same j (omega (arith, a, h)))

  pub expiries_same : (n k : ℕ) → n + k ≤ m → (role : Role) → expiries (cut m r) n k role ≡ expiries r n k role
  expiries_same n k h role = slots_same _ _ n k (λ j a. ap expires_in (ready_same j (omega (arith, a, h)) role))

  -- a run without a release in these slots is cut to one without any
  pub never : IsWithoutRelease r m → NeverReleases (cut m r)
  never u n role = elim (cases_Bool (nat_lt n m)) [
    | inl e ↦ rw (turn_same n (within n m e) role) (u n (within n m e) role)
    | inr e ↦ rw e (All-nil (IsUse r.pair role))
  ]

-- ---- what holds of a cut run holds of the run

not_closed : (s : State) → s ≢ Closed → is_closed s ≡ false
not_closed Closed h = absurd (h refl)
not_closed other h = refl

-- a link that is not closed was not closed before
none_closed : (m : ℕ) (r : Run) (u : IsWithoutRelease r m) (n : ℕ) → n ≤ m → NoneGaveUp r n → Unclosed (cut m r) (never m r u) n
none_closed m r u n h none = unclosed (cut m r) (never m r u) n
    (λ q e. cc (link_same m r n h q, none q))

-- a payment in one run is one in another that is the same up to the slot
pub paid_as : {d t : ℕ} {f g : ℕ → Role → Option Frame} {l m : ℕ → Role → Bool} {x y : ℕ → Role → LinkState}
    (n : ℕ) → round_trip d ≤ t → ((k : ℕ) → k ≤ n → (role : Role) → f k role ≡ g k role) →
    ((k : ℕ) → k ≤ n → (role : Role) → l k role ≡ m k role) →
    ((k : ℕ) → k ≤ n → (role : Role) → x k role ≡ y k role) →
    (role : Role) → IsPaidFor d t f l x n role → IsPaidFor d t g m y n role
paid_as {d} n long frames losses links role p = record {
  slot = p.slot;
  before = p.before;
  sent = ap is_i_frame (sym (frames p.slot (omega (arith, p.before)) role)) ∙ p.sent;
  last = λ k a b. ap is_i_frame (sym (frames k (omega (arith, b)) role)) ∙ p.last k a b;
  lost = λ o. rw (
    ← losses p.slot (omega (arith, p.before)) role,
    ← losses (suc p.slot + d) (omega (arith, p.before, long)) (other role),
  ) (p.lost (ap (λ z. is_open z.endpoint.state) (links (suc p.slot + d) (omega (arith, p.before, long)) (other role)) ∙ o));
}

pub pays_for_expiries : (r : Run) → PaysForExpiries r
pays_for_expiries r long n u none role again =
    paid_as n long (λ k h q. frame_same (suc n) r k (omega (arith, h)) q) (λ k h q. loss_same (suc n) r k (omega (arith, h)) q)
    (λ k h q. link_same (suc n) r k (omega (arith, h)) q) role
    (pays (cut (suc n) r) (never (suc n) r u) long n
    (λ k h q. not_closed (link_at (cut (suc n) r) k q).endpoint.state (none_closed (suc n) r u n (omega arith) none k h q)) role
    (ap is_repetition (frame_same (suc n) r n (omega arith) role) ∙ again))

pub all_progress : (r : Run) → Progresses r
all_progress r long n k u o role = record {
  waits = rw (waiting_same m r n k (omega arith) role, acked_first, acked_last, losses_same m r n k (omega arith)) at x.waits;
  expires = rw (expiries_same m r n k (omega arith) role, losses_same m r n k (omega arith)) at x.expires;
}
  where
    m : ℕ
    m = n + k

    x : Progress (cut m r) n k role
    x = progresses (cut m r) (never m r u) long n k
        (λ j h q. ap (λ l. l.endpoint.state) (link_same m r (n + j) (omega (arith, h)) q) ∙ o j h q) role

    acked_first : (link_at (cut m r) n role).endpoint.acked_segments ≡ (link_at r n role).endpoint.acked_segments
    acked_first = ap (λ l. l.endpoint.acked_segments) (link_same m r n (omega arith) role)

    acked_last : (link_at (cut m r) (n + k) role).endpoint.acked_segments ≡ (link_at r (n + k) role).endpoint.acked_segments
    acked_last = ap (λ l. l.endpoint.acked_segments) (link_same m r (n + k) (omega arith) role)

pub progress_from_start : (r : Run) → ProgressesFromStart r
progress_from_start r long k u none role = rw (
  waiting_same (suc k) r 0 k (omega arith) role,
  expiries_same (suc k) r 0 (suc k) (omega arith) role,
  ap (frames_of role) (link_same (suc k) r k (omega arith) role),
  losses_same (suc k) r 0 k (omega arith),
) at (from_start (cut (suc k) r) (never (suc k) r u) long k (none_closed (suc k) r u k (omega arith) none) role)

pub few_losses_keep_links : (r : Run) → KeepsLinks r
few_losses_keep_links r long k u few role =
    not_closed (link_at r k role).endpoint.state
    (λ e. keeps (cut k r) (never k r u) long k (rw (losses_same k r 0 k (omega arith)) few) k (omega arith) role
    (ap (λ l. l.endpoint.state) (link_same k r k (omega arith) role) ∙ e))
