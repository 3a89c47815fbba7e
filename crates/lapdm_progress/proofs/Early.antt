-- From the start of a run until the mobile opens: the frames of a network that is open already.
use Rattle.{
  lapdm_progress.{
    proofs.{
      Frames.{response_is, ua_goes, Brings, ua_of},
      Known.{joins, network_slot, rests, state_next, stays, Known, Unclosed, NetworkSlot},
      Waits.{sends, SlotWay, blocked, counts, slot_way},
      Steps.{acked, issued, aired, Moves},
      Link.{slot_acked, slot_issued, aired_unsent, aired_sent},
      Start.is_young,
      Runs.{NeverReleases, sound, slotted_in, arrived, nothing_arrives, carried_none, moved_in, due_in, t200_in},
      Paid.{le_of, not_le_of},
      Expiries.waits_at,
      Opening.{times_one, idle_rests, young_number, W, E, B, waits_step, expiry_step, answer_step, Calling},
      Slots.{not_if, one_most, ack_one, both, due_clock, expires_due, goes_it, no_ack, not_due, open_awaits, times_le},
    },
    specs.{Channels.{Pair, Run}, Progress.{link_at, arriving_at, ready_at, one_if, round_trip, is_i_frame}},
  },
  lapdm_end.specs.lapdm_window.{
    Ends.{sapi_number, Mobile, Network, awaits_answer, awaits_ack, vs, response_frame},
    declared.State.TheVariants.{Idle, Open},
    Calls.is_idle,
  },
  std.{
    proofs.{lemmas.Bool.cases_Bool, Common.{inl, inr, arith, refl, ap, sym, ◌∙◌}, Math.Nat.mul-one},
    specs.Prelude.{◌≡◌, ◌≢◌, ℕ, suc, ◌+◌, ◌-◌, ◌*◌, ◌≤◌, Bool, true, false, ◌⊎◌, nat_le, List},
    specs.Prelude.{Option, Some, None, IfSome},
  },
  lapdm_frame.specs.Content.{Ua, Frame},
  lapdm_datalink.specs.{Links.{LinkState, slot_outcome, is_due}, Slots.{nr_of, expires_in, answer_goes}},
  lapdm_delivery.specs.Lockstep.carried,
}

pub times_less : (t a b : ℕ) → t * a + 1 ≤ t * (b + 1) → a ≤ b
times_less t a b h = elim (cases_Bool (nat_le a b)) [
  | inl e ↦ le_of a b e
  | inr e ↦ absurd (omega (arith, h, times_le t (b + 1) a (omega (arith, not_le_of a b e))))
]

ua_no_i : (w : Pair) (x : Option Frame) (info : List ℕ) → x ≡ Some (ua_of w info) → is_i_frame x ≡ false
ua_no_i w x info e = rw e refl

pub expires_not : (m : LinkState) → answer_goes m.answer m ≡ true → expires_in m ≡ false
expires_not m h = not_if (expires_in m) (λ e. cc ((expires_due m e).2))

due_not : (m : LinkState) → is_due m ≡ false → expires_in m ≡ false
due_not m h = not_if (expires_in m) (λ e. cc (sym (expires_due m e).0))

awaits_some : (m : LinkState) → acked m + 1 ≤ issued m → awaits_ack m.endpoint ≡ true
awaits_some m h = grind (arith, h)

still_awaits : (l m : LinkState) → Moves l m → issued l ≡ acked l + 1 → l.is_sent ≡ true → acked m ≡ acked l →
    (awaits_ack m.endpoint ≡ true) × (m.is_sent ≡ true)
still_awaits l m v one s a =
    (awaits_some m (omega (arith, more, aired_sent m (issued m) (sends m.is_sent refl) refl)), sends m.is_sent refl)
  where
    more : acked m + 1 ≤ aired m
    more = omega (arith, v.aired_up, aired_sent l (issued l) s refl, one, a)

    sends : (b : Bool) → m.is_sent ≡ b → m.is_sent ≡ true
    sends true e = e
    sends false e = absurd (omega (arith, more, aired_unsent m e))

module _ (r : Run) (u : NeverReleases r) (long : round_trip r.delay ≤ r.t200) where
  -- the network is open since slot q, and nothing of it was acknowledged
  pub data Alone (n q : ℕ) : Type 0 where
    unsent : W r u long n Network ≤ B r u long n Network → E r u long n Network ≡ 0 →
        ((link_at r n Network).is_sent ≡ false) ⊎ (awaits_ack (link_at r n Network).endpoint ≡ false) → Alone n q
    sent : (a : ℕ) → W r u long n Network + ((link_at r n Network).clock - 1) ≤ r.t200 * a + B r u long n Network →
        E r u long n Network + 1 ≤ a → q + 2 + r.t200 * a ≤ n + (link_at r n Network).clock →
        awaits_ack (link_at r n Network).endpoint ≡ true → (link_at r n Network).is_sent ≡ true → Alone n q

  pub data Early (n : ℕ) : Type 0 where
    idle : (link_at r n Network).endpoint.state ≡ Idle → W r u long n Network ≡ 0 → E r u long n Network ≡ 0 → Early n
    alone : (q : ℕ) → suc q ≤ n → arriving_at r q Network ≢ None → (link_at r n Network).endpoint.state ≡ Open →
        Alone n q → Early n

  module _ (n : ℕ) (h : Known r u n) (c : Unclosed r u (suc n)) (young : is_young (link_at r n Mobile).endpoint.state ≡ true) where
    abbrev pub l : LinkState
    l = link_at r n Network

    abbrev pub k : LinkState
    k = link_at r (suc n) Network

    abbrev pub m : LinkState
    m = ready_at r n Network

    -- nothing acknowledges a frame of the network
    same_acked : acked k ≡ acked l
    same_acked = elim (slotted_in r u n Network).by_nr [
      | inl e ↦ e
      | inr y ↦ absurd (no_number (arriving_at r n Network) (h.frames Mobile r.delay) (vs l.endpoint) y.0)
    ]
      where
        no_number : (x : Option Frame) → IfSome x (λ f. (f.sapi ≡ sapi_number r.pair.sapi)
            × Brings r.pair.opener Mobile (is_young (link_at r n Mobile).endpoint.state)
            (link_at r n Mobile).endpoint.sabm_info f.cr f.content) → (j : ℕ) → nr_of x ≡ Some j → ⊥
        no_number None b j e = cc
        no_number (Some f) b j e = young_number f.content r.pair.opener f.cr (link_at r n Mobile).endpoint.sabm_info j (rw young at b.1) e

    m_acked : acked k ≡ acked m
    m_acked = slot_acked m

    m_issued : issued k ≡ issued m
    m_issued = slot_issued m

    k_awaits : (b : Bool) → awaits_ack m.endpoint ≡ b → awaits_ack k.endpoint ≡ b
    k_awaits b e = rw (m_acked, m_issued) e

    m_time : m.t200 ≡ r.t200
    m_time = t200_in r u n Network

    m_due : m.is_sent ≡ false → m.clock ≡ 0
    m_due = due_in r u n Network

    moved : Moves l m
    moved = moved_in r u n Network

    -- a network that had sent no frame has none that it has sent
    none_sent : ((l.is_sent ≡ false) ⊎ (awaits_ack l.endpoint ≡ false)) → awaits_ack m.endpoint ≡ true → m.is_sent ≡ false
    none_sent z w = by_sent m.is_sent refl
      where
        by_sent : (b : Bool) → m.is_sent ≡ b → m.is_sent ≡ false
        by_sent false e = e
        by_sent true e = let x = waits_at r u Network n w e in by_case z x.0 x.1
          where
            by_case : (l.is_sent ≡ false) ⊎ (awaits_ack l.endpoint ≡ false) → awaits_ack l.endpoint ≡ true →
                l.is_sent ≡ true →
                m.is_sent ≡ false
            by_case (inl f) a s = absurd cc
            by_case (inr f) a s = absurd cc

    module _ (m_open : m.endpoint.state ≡ Open) where
      out_open : (slot_outcome m).link.endpoint.state ≡ Open
      out_open = state_next r u n c Network ∙ m_open

      waits : (b : Bool) → awaits_ack m.endpoint ≡ b → awaits_answer m.endpoint ≡ b
      waits b e = open_awaits m.endpoint m_open ∙ e

      w_next : (b : Bool) → awaits_answer m.endpoint ≡ b → W r u long (suc n) Network ≡ W r u long n Network + one_if b
      w_next b e = waits_step r u long n Network ∙ ap (λ q. W r u long n Network + one_if q) e

      e_next : (b : Bool) → expires_in m ≡ b → E r u long (suc n) Network ≡ E r u long n Network + one_if b
      e_next b e = expiry_step r u long n Network ∙ ap (λ q. E r u long n Network + one_if q) e

      b_next : B r u long n Network ≤ B r u long (suc n) Network
      b_next = omega (arith, answer_step r u long n Network)

      b_more : is_due m ≡ true → answer_goes m.answer m ≡ true → B r u long (suc n) Network ≡ B r u long n Network + 1
      b_more d g = answer_step r u long n Network ∙ ap (λ q. B r u long n Network + one_if q)
          (both (is_due m) (answer_goes m.answer m) d g)

      ack_of : is_due m ≡ true → awaits_ack m.endpoint ≡ true
      ack_of d = sym (open_awaits m.endpoint m_open) ∙ (due_clock m d).1

      -- it had sent nothing
      first_slot : (q : ℕ) → (is_i_frame (slot_outcome m).frame ≡ true → suc q ≤ n) →
          W r u long n Network ≤ B r u long n Network → E r u long n Network ≡ 0 →
          (l.is_sent ≡ false) ⊎ (awaits_ack l.endpoint ≡ false) → SlotWay m (slot_outcome m) → Alone (suc n) q
      first_slot q a w e z (sends d i t x) = sent 1
          (omega (arith, w_next true (due_clock m d).1, w, b_next, x, m_time, mul-one r.t200, long))
          (omega (arith, e_next false (not_sent (none_sent z (ack_of d))), e))
          (omega (arith, a i, x, m_time, mul-one r.t200))
          (k_awaits true (ack_of d)) t
        where
          not_sent : m.is_sent ≡ false → expires_in m ≡ false
          not_sent s = not_if (expires_in m) (λ y. cc (sym (expires_due m y).1))
      first_slot q a w e z (blocked f y g d i t x) = unsent
          (omega (arith, w_next true (due_clock m d).1, w, b_more d (goes_it m f y g)))
          (omega (arith, e_next false (expires_not m (goes_it m f y g)), e))
          (inl (t ∙ none_sent z (ack_of d)))
      first_slot q a w e z (counts d t x) = elim (cases_Bool (awaits_ack m.endpoint)) [
        | inl y ↦ absurd (omega (arith, not_due m d (waits true y), m_due (none_sent z y)))
        | inr y ↦ unsent (omega (arith, w_next false (waits false y), w, b_next))
            (omega (arith, e_next false (due_not m d), e)) (inr (k_awaits false y))
      ]

      -- it waits for its first frame
      next_slot : (q a : ℕ) → W r u long n Network + (l.clock - 1) ≤ r.t200 * a + B r u long n Network →
          E r u long n Network + 1 ≤ a → q + 2 + r.t200 * a ≤ n + l.clock → awaits_ack l.endpoint ≡ true →
          l.is_sent ≡ true →
          SlotWay m (slot_outcome m) → Alone (suc n) q
      next_slot q a w e f g s way = by_way way
        where
          one : issued l ≡ acked l + 1
          one = ack_one l g ((sound r u n).good Network).low ((sound r u n).good Network).window

          still : (awaits_ack m.endpoint ≡ true) × (m.is_sent ≡ true)
          still = still_awaits l m moved one s (sym m_acked ∙ same_acked)

          m_clock : m.clock ≡ l.clock - 1
          m_clock = (waits_at r u Network n still.0 still.1).3 (open_awaits m.endpoint m_open ∙ still.0)

          e_most : E r u long (suc n) Network ≤ E r u long n Network + 1
          e_most = omega (arith, expiry_step r u long n Network, one_most (expires_in m))

          by_way : SlotWay m (slot_outcome m) → Alone (suc n) q
          by_way (sends d i t x) = sent (a + 1)
              (omega (arith, w_next true (due_clock m d).1, w, b_next, x, m_time, times_one r.t200 a, long))
              (omega (arith, e_most, e))
              (omega (arith, f, m_clock, (due_clock m d).0, x, m_time, times_one r.t200 a))
              (k_awaits true still.0) t
          by_way (blocked y z v d i t x) = sent a
              (omega (arith, w_next true (due_clock m d).1, w, b_more d (goes_it m y z v), x, (due_clock m d).0))
              (omega (arith, e_next false (expires_not m (goes_it m y z v)), e))
              (omega (arith, f, m_clock, (due_clock m d).0, x))
              (k_awaits true still.0) (t ∙ still.1)
          by_way (counts d t x) = sent a
              (omega (arith, w_next true (waits true still.0), w, b_next, x, m_clock, not_due m d (waits true still.0)))
              (omega (arith, e_next false (due_not m d), e))
              (omega (arith, f, m_clock, not_due m d (waits true still.0), x))
              (k_awaits true still.0) (t ∙ still.1)

      alone_next : (q : ℕ) → suc q ≤ n → Alone n q → Alone (suc n) q
      alone_next q a (unsent w e z) = first_slot q (λ i. a) w e z (slot_way m m_open out_open)
      alone_next q a (sent b w e f g s) = next_slot q b w e f g s (slot_way m m_open out_open)

      -- the slot in which the SABM arrives
      opens_slot : (info : List ℕ) → m.answer ≡ Some (ua_of r.pair info) → l.endpoint.state ≡ Idle →
          W r u long n Network ≡ 0 →
          E r u long n Network ≡ 0 → Alone (suc n) n
      opens_slot info owes i w e = first_slot n
          (λ f. absurd (cc (ua_no_i r.pair (slot_outcome m).frame info (ua_goes m r.pair info m_open owes).0)))
          (omega (arith, w)) e (inr (no_ack l ((sound r u n).idle Network (ap is_idle i)))) (slot_way m m_open out_open)

    pub early_next : Early n → Early (suc n)
    early_next x = by_slot x (network_slot r u n h)
      where
        by_slot : Early n → NetworkSlot r u n → Early (suc n)
        by_slot (idle i w e) (rests j y) = idle (state_next r u n c Network ∙ m_idle)
            (omega (arith, waits_step r u long n Network, w, ap one_if (idle_rests m m_idle).0))
            (omega (arith, expiry_step r u long n Network, e, ap one_if (idle_rests m m_idle).1))
          where
            m_idle : m.endpoint.state ≡ Idle
            m_idle = ap (λ x. x.endpoint.state) y ∙ j
        by_slot (idle i w e) (joins j o p a q) = alone n (omega arith) q (state_next r u n c Network ∙ o)
            (opens_slot o (link_at r n Mobile).endpoint.sabm_info (a ∙ ap Some (ua_is_response)) i w e)
          where
            ua_is_response : response_frame l.endpoint (Ua true (link_at r n Mobile).endpoint.sabm_info)
                ≡ ua_of r.pair (link_at r n Mobile).endpoint.sabm_info
            ua_is_response = response_is r.pair l ((sound r u n).placed Network)
                (link_at r n Mobile).endpoint.sabm_info
        by_slot (idle i w e) (stays o p y a) = absurd cc
        by_slot (alone q a b o x) (rests j y) = absurd cc
        by_slot (alone q a b o x) (joins j p y z v) = absurd cc
        by_slot (alone q a b o x) (stays o' p y z) =
            alone q (omega (arith, a)) b (state_next r u n c Network ∙ p) (alone_next p q a x)

  -- ---- the network's attempts are fewer than the mobile's

  -- no frame of the mobile arrives at the network before its first SABM does
  pub late_open : (n : ℕ) (x : Calling r u long n) (q : ℕ) → arriving_at r q Network ≢ None → x.v1 + r.delay + 1 ≤ q
  late_open n x q some = by_case (nat_le (x.v1 + r.delay + 1) q) refl
    where
      by_case : (b : Bool) → nat_le (x.v1 + r.delay + 1) q ≡ b → x.v1 + r.delay + 1 ≤ q
      by_case true e = le_of (x.v1 + r.delay + 1) q e
      by_case false e = elim (cases_Bool (nat_le (suc r.delay) q)) [
        | inl f ↦
            let g : suc (q - suc r.delay) + r.delay ≡ q = omega (arith, le_of (suc r.delay) q f) in
            absurd (some (ap (λ j. arriving_at r j Network) (sym g) ∙ arrived r (q - suc r.delay) Network
            ∙ ap (λ y. carried (r.turn (q - suc r.delay) Mobile).is_lost y)
            (x.before (q - suc r.delay) (omega (arith, sooner, le_of (suc r.delay) q f)))
            ∙ carried_none r (r.turn (q - suc r.delay) Mobile).is_lost))
        | inr f ↦ absurd (some (nothing_arrives r q Network (omega (arith, not_le_of (suc r.delay) q f))))
      ]
        where
          sooner : suc q ≤ x.v1 + r.delay + 1
          sooner = not_le_of (x.v1 + r.delay + 1) q e
