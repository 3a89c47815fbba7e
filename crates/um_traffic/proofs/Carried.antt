-- A block that was given is carried by the bursts of its frames.
use Rattle.{
  half_bursts.proofs.Halves.{AreCarried-joined, IsBurst, IsBurst-joined, joined_block-at, length-joined},
  half_bursts.proofs.Stolen.{length-with_half, own_value},
  half_bursts.specs.Halves.{AreCarried, coded_values, half_of_position, joined_block, other_half, partner, value_with_half, with_half},
  interleave.specs.Bursts.IsInterleaved,
  std.proofs.Common.{Bool, List, None, Option, Some, [], ap, ap₂, arith, cond, drop, eqb, false, get_or, inl, inr, length, map},
  std.proofs.Common.{not, refl, replicate, subst, suc, sym, true, zero, ℕ, ◌&&◌, ◌++◌, ◌%◌, ◌+◌, ◌-◌, ◌/◌},
  std.proofs.Common.{◌<◌, ◌∙◌, ◌≡◌, ◌≢◌, ◌≤◌},
  std.proofs.Common.{◌∷◌, ◌==◌, if◌then◌else◌, ◌*◌},
  std.proofs.lemmas.Bool.{cases_lt, Decides.{eqb_tells, nat_tests}, eq-eqb},
  std.proofs.lemmas.List.{ext_get_or, get_or-drop, get_or-map, get_or-take, get_or_default, length-drop, length-map, length-take},
  std.proofs.lemmas.List.FromFn.get_or-map-range_with_len,
  std.specs.{List.All, Prelude.{nat_le, slice_range}},
  tdma.specs.Traffic.{facch_bursts, traffic_place_of},
  tdma.specs.declared.{TheConstants.HYPERFRAME, channels.Direction.{Direction}},
  tdma.specs.declared.traffic.TrafficChannel.{TrafficChannel},
  um_slot.{proofs.Recordings.unlike, specs.Numbers.{direction_of, traffic_channel_of}},
  um_traffic.proofs.Blocks.few_bursts,
  um_traffic.specs.Receivers.{bursts_after, bursts_in_hyperframe},
  um_traffic.specs.Senders.{AreFrames, CarriesBurst, SendsAll, Sent, asked, first_of_four, has_half},
  um_traffic.specs.Senders.{index_of_four, is_late, is_next, is_sender_in_range, is_shared, moved_on, send, send_at},
  um_traffic.specs.Senders.{send_number, send_with, sender_settings_if_valid, sender_settings_of, sent_burst, with_block},
  um_traffic.specs.declared.{settings.TrafficSettings.TrafficSettings, senders.SentBlock.SentBlock},
  um_traffic.specs.declared.senders.{TrafficSender.TrafficSender, Sending.TheVariants.{Burst, Late, NoFrame, Silence}},
}

-- ## Numbers: the bursts after the first of four

index-of : (c : TrafficChannel) (d : Direction) (first i : ℕ) → index_of_four c d first ≡ 0 → first < bursts_in_hyperframe c →
    i < 8 →
    index_of_four c d ((first + i) % bursts_in_hyperframe c) ≡ i % 4
index-of c d first i zeroth lt few = grind arith

first-of : (c : TrafficChannel) (d : Direction) (first i : ℕ) → index_of_four c d first ≡ 0 → first < bursts_in_hyperframe c →
    i < 8 →
    first_of_four c d ((first + i) % bursts_in_hyperframe c) ≡ (first + i / 4 * 4) % bursts_in_hyperframe c
first-of c d first i zeroth lt few = grind arith

-- the four bursts after these are the next ones, and others
next-of : (c : TrafficChannel) (first : ℕ) → first < bursts_in_hyperframe c →
    (bursts_after c first ((first + 4) % bursts_in_hyperframe c) ≡ 4) × ((first + 4) % bursts_in_hyperframe c ≢ first)
    × (first ≢ HYPERFRAME) × (first % bursts_in_hyperframe c ≡ first)
next-of c first lt = grind arith

-- ## A call that gives a burst

abbrev answered : (mid : TrafficSender) (burst : List ℕ) → Sent
answered mid burst = record { sender = mid; answer = Burst; burst = burst }

otherwise : (b : Bool) (x y z : Sent) → (if b then x else y) ≡ z → x.answer ≢ z.answer → y ≡ z
otherwise true x y z e apart = absurd (apart (ap (λ (s : Sent). s.answer) e))
otherwise false x y z e apart = e

pub same_inside : {X : Type 0} (x y : X) → Some x ≡ Some y → x ≡ y
same_inside x y e = cc

pub same_settings : (a b : TrafficSettings) → a.channel ≡ b.channel → a.direction ≡ b.direction → a ≡ b
same_settings a b channel direction = λ i. record { channel = channel i; direction = direction i }

pub chosen : (b : Bool) (c : TrafficChannel) (d : Direction) (st : TrafficSettings) →
    (if b then Some (let y : TrafficSettings = record { channel = c; direction = d } in y) else None) ≡ Some st →
    (c ≡ st.channel) × (d ≡ st.direction)
chosen b c d st e = grind arith

no_frame : NoFrame ≢ Burst
no_frame e = cc

not_late : Late ≢ Burst
not_late e = cc

is_burst : (b : Bool) → (if b then Burst else Silence) ≡ Burst → b ≡ true
is_burst true e = refl
is_burst false e = absurd cc

abbrev Set : (st : TrafficSettings) (s : TrafficSender) → Type 0
Set st s = (traffic_channel_of s.channel ≡ Some st.channel) × (direction_of s.direction ≡ Some st.direction)

set_if : (s : TrafficSender) (c : Option TrafficChannel) (d : Option Direction) (st : TrafficSettings) →
    sender_settings_if_valid s c d ≡ Some st → (c ≡ Some st.channel) × (d ≡ Some st.direction)
set_if s (Some c) (Some d) st e =
    let (channel, direction) = chosen (is_sender_in_range c d s && _) c d st e in (ap Some channel, ap Some direction)
set_if s c d st e = absurd cc

is_set : (s : TrafficSender) (st : TrafficSettings) → sender_settings_of s ≡ Some st → Set st s
is_set s st e = set_if s (traffic_channel_of s.channel) (direction_of s.direction) st e

took_with : (settings : Option TrafficSettings) (frame : ℕ) (s : TrafficSender) (before : List ℕ) (mid : TrafficSender)
    (burst : List ℕ) →
    send_with settings frame s before ≡ answered mid burst →
    (st : TrafficSettings) × (settings ≡ Some st)
    × (send_at st (traffic_place_of st.channel st.direction frame) frame s before ≡ answered mid burst)
took_with None frame s before mid burst e = absurd (let no = ap (λ (x : Sent). x.answer) e in cc)
took_with (Some st) frame s before mid burst e =
    let refused : Sent = record { sender = s; answer = NoFrame; burst = before } in (
      st,
      refl,
      otherwise (nat_le HYPERFRAME frame) refused (send_at st (traffic_place_of st.channel st.direction frame) frame s before)
          (answered mid burst) e no_frame,
    )

module _ (st : TrafficSettings) where
  abbrev c : TrafficChannel
  c = st.channel

  abbrev d : Direction
  d = st.direction

  took : (frame n : ℕ) (s : TrafficSender) (before : List ℕ) (mid : TrafficSender) (burst : List ℕ) → Set st s →
      CarriesBurst st frame n → send frame s before ≡ answered mid burst →
      (mid ≡ asked c d n s) × (burst ≡ sent_burst c (index_of_four c d n) (asked c d n s))
  took frame n s before mid burst set carries e =
      let given = took_with (sender_settings_of s) frame s before mid burst e in
      let own = is_set s given.0 given.1 in
      let same : given.0 ≡ st =
      same_settings given.0 st (same_inside given.0.channel c (sym own.0 ∙ set.0))
      (same_inside given.0.direction d (sym own.1 ∙ set.1)) in
      let here : send_at st (traffic_place_of c d frame) frame s before ≡ answered mid burst = rw same at given.2 in
      let numbered : send_number st n s before ≡ answered mid burst = rw (carries.1, carries.2) at here in
      let after = asked c d n s in
      let half = has_half c (index_of_four c d n) after in
      let late : Sent = record { sender = s; answer = Late; burst = before } in
      let made = otherwise (is_late c (first_of_four c d n) s) late (record {
        sender = after;
        answer = if half then Burst else Silence;
        burst = if half then sent_burst c (index_of_four c d n) after else before;
      }) (answered mid burst) numbered not_late in
      let some : half ≡ true = is_burst half (ap (λ (x : Sent). x.answer) made) in (
        sym (ap (λ (x : Sent). x.sender) made),
        sym (ap (λ (x : Sent). x.burst) made)
            ∙ ap (λ (b : Bool). cond b (sent_burst c (index_of_four c d n) after) before) some,
      )

  set_either : (b : Bool) (s t : TrafficSender) → Set st s → Set st t → Set st (if b then s else t)
  set_either true s t hs ht = hs
  set_either false s t hs ht = ht

  set_asked : (n : ℕ) (s : TrafficSender) → Set st s → Set st (asked c d n s)
  set_asked n s set =
      let first = first_of_four c d n in
      set_either (s.first == first) s (moved_on c first (index_of_four c d n) s) set set

  asked_same : (n : ℕ) (s : TrafficSender) → s.first ≡ first_of_four c d n → asked c d n s ≡ s
  asked_same n s same = rw (eq-eqb s.first (first_of_four c d n) same) refl

  asked_other : (n : ℕ) (s : TrafficSender) → s.first ≢ first_of_four c d n →
      asked c d n s ≡ moved_on c (first_of_four c d n) (index_of_four c d n) s
  asked_other n s other = rw (unlike s.first (first_of_four c d n) other) refl

  -- ## Halves of a burst

  abbrev count : ℕ
  count = facch_bursts c

  with_half-at : (half : ℕ) (burst old : List ℕ) (p : ℕ) → p < 148 →
      get_or (with_half half burst old) p 0 ≡ value_with_half 0 half burst old p
  with_half-at half burst old p hp = get_or-map-range_with_len (value_with_half 0 half burst old) 0 148 p p 0 hp (omega arith)

  kept-at : (half : ℕ) (burst old : List ℕ) (p : ℕ) → half_of_position p ≡ half →
      value_with_half 0 half burst old p ≡ get_or old p 0
  kept-at half burst old p is = grind (arith, is)

  -- all of a block but one half
  written-at : (half : ℕ) (block : SentBlock) (i : ℕ) (burst : List ℕ) (p : ℕ) → block.kind ≢ 0 → p < 148 →
      half_of_position p ≢ half →
      get_or (with_block half block i burst) p 0 ≡ get_or (get_or block.bursts i []) p 0
  written-at half block i burst p some hp other =
      let own = get_or block.bursts i [] in
      rw (unlike block.kind 0 some) (with_half-at half own burst p hp ∙ own_value half own burst p other)

  -- and that half is left
  left-at : (half : ℕ) (block : SentBlock) (i : ℕ) (burst : List ℕ) (p : ℕ) → p < 148 → half_of_position p ≡ half →
      get_or (with_block half block i burst) p 0 ≡ get_or burst p 0
  left-at half block i burst p hp is =
      either (block.kind == 0)
    where
      either : (b : Bool) → get_or (if b then burst else with_half half (get_or block.bursts i []) burst) p 0 ≡ get_or burst p 0
      either true = refl
      either false =
          with_half-at half (get_or block.bursts i []) burst p hp ∙ kept-at half (get_or block.bursts i []) burst p is

  long-block : (half : ℕ) (block : SentBlock) (i : ℕ) (burst : List ℕ) → length burst ≡ 148 →
      length (with_block half block i burst) ≡ 148
  long-block half block i burst long = either (block.kind == 0)
    where
      either : (b : Bool) → length (if b then burst else with_half half (get_or block.bursts i []) burst) ≡ 148
      either true = long
      either false = length-with_half half (get_or block.bursts i []) burst

  abbrev under : (i : ℕ) (s : TrafficSender) → List ℕ
  under i s = if is_shared c i then with_block 1 s.before i (replicate 148 0) else replicate 148 0

  long-under : (i : ℕ) (s : TrafficSender) → length (under i s) ≡ 148
  long-under i s = either (is_shared c i)
    where
      either : (b : Bool) → length (if b then with_block 1 s.before i (replicate 148 0) else replicate 148 0) ≡ 148
      either true = long-block 1 s.before i (replicate 148 0) refl
      either false = refl

  long-sent : (i : ℕ) (s : TrafficSender) → length (sent_burst c i s) ≡ 148
  long-sent i s = long-block (other_half count i) s.begun i (under i s) (long-under i s)

  -- ## The bursts of a block

  module _ (first : ℕ) (block : SentBlock) (zeroth : index_of_four c d first ≡ 0) (below : first < bursts_in_hyperframe c)
      (some : block.kind ≢ 0) where
    abbrev number : ℕ → ℕ
    number i = (first + i) % bursts_in_hyperframe c

    -- after burst i - 1
    record At (i : ℕ) (s : TrafficSender) : Type 0 where
      set : Set st s
      lower : i ≤ 4 → (s.first ≡ first) × (s.begun ≡ block)
      upper : 5 ≤ i → (s.first ≡ (first + 4) % bursts_in_hyperframe c) × (s.before ≡ block)

    -- what burst i carries of the block
    record Carries (i : ℕ) (burst : List ℕ) : Type 0 where
      long : length burst ≡ 148
      lower : (p : ℕ) → i < 4 → p < 148 → half_of_position p ≢ other_half count i →
          get_or burst p 0 ≡ get_or (get_or block.bursts i []) p 0
      upper : (p : ℕ) → 4 ≤ i → p < 148 → half_of_position p ≡ 2 →
          get_or burst p 0 ≡ get_or (get_or block.bursts (i - 4) []) p 0

    lower_carries : (i : ℕ) (s : TrafficSender) → i < 4 → s.begun ≡ block → Carries i (sent_burst c i s)
    lower_carries i s few is = record {
      long = long-sent i s;
      lower = λ p hi hp other.
          rw is (written-at (other_half count i) block i (under i s) p some hp other);
      upper = λ p hi hp h. absurd (omega (arith, few, hi));
    }

    upper_carries : (i : ℕ) (s : TrafficSender) → 4 ≤ i → i < count → s.before ≡ block → Carries i (sent_burst c (i - 4) s)
    upper_carries i s late lt is =
        let j = i - 4 in
        let shared : is_shared c j ≡ true = grind (arith, nat_tests) in
        let half : other_half count j ≡ 2 = grind (arith, nat_tests) in record {
          long = long-sent j s;
          lower = λ p hi hp other. absurd (omega (arith, late, hi));
          upper = λ p hi hp h.
              left-at (other_half count j) s.begun j (under j s) p hp (h ∙ sym half)
              ∙ rw (shared, is) (written-at 1 block j (replicate 148 0) p some hp (λ e. omega (arith, e, h)));
        }

    -- the first burst
    begins : (s : TrafficSender) → Set st s → s.first ≢ first → s.waiting ≡ block →
        At 1 (asked c d (number 0) s) × Carries 0 (sent_burst c 0 (asked c d (number 0) s))
    begins s set other is =
        let f : first_of_four c d (number 0) ≡ first =
        first-of c d first 0 zeroth below (omega arith) ∙ ap (λ n. n % bursts_in_hyperframe c) (omega arith)
        ∙ (next-of c first below).3 in
        let i : index_of_four c d (number 0) ≡ 0 = index-of c d first 0 zeroth below (omega arith) in
        let moved : asked c d (number 0) s ≡ moved_on c first 0 s =
        asked_other (number 0) s (λ e. other (e ∙ f)) ∙ ap₂ (λ m n. moved_on c m n s) f i in
        let begun : (asked c d (number 0) s).begun ≡ block = rw moved is in (
          record {
            set = set_asked (number 0) s set;
            lower = λ h. (ap (λ (x : TrafficSender). x.first) moved, begun);
            upper = λ h. absurd (omega (arith, h));
          },
          lower_carries 0 (asked c d (number 0) s) (omega arith) begun,
        )

    steps : (i : ℕ) (s : TrafficSender) → 1 ≤ i → i < count → i < 8 → At i s →
        At (suc i) (asked c d (number i) s) × Carries i (sent_burst c (i % 4) (asked c d (number i) s))
    steps i s some_before lt few at =
        let f : first_of_four c d (number i) ≡ (first + i / 4 * 4) % bursts_in_hyperframe c = first-of c d first i zeroth below few in
        let next = next-of c first below in
        let set = set_asked (number i) s at.set in
        elim (cases_lt i 4) [
          | inl lower ↦
              let here = at.lower (omega (arith, lower)) in
              let same : s.first ≡ first_of_four c d (number i) =
              here.0 ∙ sym next.3 ∙ ap (λ n. n % bursts_in_hyperframe c) (omega (arith, lower)) ∙ sym f in
              let is : asked c d (number i) s ≡ s = asked_same (number i) s same in
              let index : i % 4 ≡ i = omega (arith, lower) in (
                record {
                  set = set;
                  lower = λ h. rw is here;
                  upper = λ h. absurd (omega (arith, h, lower));
                },
                rw (index, is) (lower_carries i s lower here.1),
              )
          | inr upper ↦
              let index : i % 4 ≡ i - 4 = omega (arith, upper, few) in
              let to : first_of_four c d (number i) ≡ (first + 4) % bursts_in_hyperframe c =
              f ∙ ap (λ n. (first + n) % bursts_in_hyperframe c) (omega (arith, upper, few)) in
              let there : ((asked c d (number i) s).first ≡ (first + 4) % bursts_in_hyperframe c)
              × ((asked c d (number i) s).before ≡ block) =
              elim (eqb_tells i 4) [
                | inl four ↦
                    let here = at.lower (omega (arith, four.1)) in
                    let moved : asked c d (number i) s
                    ≡ moved_on c ((first + 4) % bursts_in_hyperframe c) (index_of_four c d (number i)) s =
                    asked_other (number i) s (λ e. next.1 (sym to ∙ sym e ∙ here.0))
                    ∙ ap (λ n. moved_on c n (index_of_four c d (number i)) s) to in
                    let after : is_next c ((first + 4) % bursts_in_hyperframe c) s ≡ true =
                    ap (λ n. not (eqb n HYPERFRAME) && eqb (bursts_after c n ((first + 4) % bursts_in_hyperframe c)) 4) here.0
                    ∙ grind (arith, nat_tests, next) in (
                      ap (λ (x : TrafficSender). x.first) moved,
                      rw (moved, after) here.1,
                    )
                | inr more ↦
                    let here = at.upper (omega (arith, more.1, upper)) in
                    rw (asked_same (number i) s (here.0 ∙ sym to)) here
              ] in (
                record { set = set; lower = λ h. absurd (omega (arith, h, upper)); upper = λ h. there },
                rw index (upper_carries i (asked c d (number i) s) upper lt there.1),
              )
        ]

    given_too : (k : ℕ) (m : TrafficSender) (w : SentBlock) → At k m → At k (record m { waiting = w })
    given_too k m w at = record { set = at.set; lower = at.lower; upper = at.upper }

    from_next : (i : ℕ) (b : List ℕ) (bs : List (List ℕ)) (n : ℕ) → Carries i b →
        ((j : ℕ) → j < n → Carries (suc i + j) (get_or bs j [])) → (j : ℕ) → j < suc n →
        Carries (i + j) (get_or (b ∷ bs) j [])
    from_next i b bs n here later zero h = subst (λ n. Carries n b) (omega arith) here
    from_next i b bs n here later (suc j) h = subst (λ n. Carries n (get_or bs j [])) (omega arith) (later j (omega (arith, h)))

    -- all bursts from burst i on
    runs : (frames : List ℕ) (bursts : List (List ℕ)) (i : ℕ) (s : TrafficSender) → 1 ≤ i → i + length frames ≤ count →
        i + length frames ≤ 8 → At i s → AreFrames st (first + i) frames → SendsAll s frames bursts →
        (length bursts ≡ length frames) × ((j : ℕ) → j < length frames → Carries (i + j) (get_or bursts j []))
    runs [] [] i s later within few at are sends = (refl, λ j h. absurd (omega (arith, h)))
    runs [] (b ∷ bs) i s later within few at are sends = absurd sends
    runs (f ∷ fs) [] i s later within few at are sends = absurd sends
    runs (f ∷ fs) (b ∷ bs) i s later within few at are sends =
        let one = sends.1 in
        let call = took f (number i) s one.before one.mid b at.set are.0 one.sends in
        let step = steps i s later (omega (arith, within)) (omega (arith, few)) at in
        let index : index_of_four c d (number i) ≡ i % 4 = index-of c d first i zeroth below (omega (arith, few)) in
        let new : At (suc i) sends.0 =
        rw (one.new_is, call.0) (given_too (suc i) (asked c d (number i) s) one.waiting step.0) in
        let carries : Carries i b =
        subst (Carries i) (sym (call.1 ∙ ap (λ n. sent_burst c n (asked c d (number i) s)) index)) step.1 in
        let rest = runs fs bs (suc i) sends.0 (omega arith) (omega (arith, within)) (omega (arith, few)) new
        (subst (λ n. AreFrames st n fs) (omega arith) are.1) sends.2 in
        (ap suc rest.0, from_next i b bs (length fs) carries rest.1)

    all_carry : (sender : TrafficSender) (frames : List ℕ) (bursts : List (List ℕ)) → Set st sender → sender.first ≢ first →
        sender.waiting ≡ block → AreFrames st first frames → length frames ≡ count → count ≤ 8 → 4 ≤ count →
        SendsAll sender frames bursts → (length bursts ≡ count) × ((j : ℕ) → j < count → Carries j (get_or bursts j []))
    all_carry sender [] bursts set other waits are all few some_bursts sends = absurd (omega (arith, all, some_bursts))
    all_carry sender (f ∷ fs) [] set other waits are all few some_bursts sends = absurd sends
    all_carry sender (f ∷ fs) (b ∷ bs) set other waits are all few some_bursts sends =
        let one = sends.1 in
        let zero : number 0 ≡ first % bursts_in_hyperframe c = ap (λ n. n % bursts_in_hyperframe c) (omega arith) in
        let call = took f (number 0) sender one.before one.mid b set (subst (CarriesBurst st f) (sym zero) are.0) one.sends in
        let step = begins sender set other waits in
        let index : index_of_four c d (number 0) ≡ 0 = index-of c d first 0 zeroth below (omega arith) in
        let new : At 1 sends.0 =
        rw (one.new_is, call.0) (given_too 1 (asked c d (number 0) sender) one.waiting step.0) in
        let carries : Carries 0 b =
        subst (Carries 0) (sym (call.1 ∙ ap (λ n. sent_burst c n (asked c d (number 0) sender)) index)) step.1 in
        let rest = runs fs bs 1 sends.0 (omega arith) (omega (arith, all)) (omega (arith, all, few)) new
        (subst (λ n. AreFrames st n fs) (omega arith) are.1) sends.2 in (
          ap suc rest.0 ∙ all,
          λ j h.
              subst (λ n. Carries n (get_or (b ∷ bs) j [])) (omega arith)
              (from_next 0 b bs (length fs) carries rest.1 j (omega (arith, h, all))),
        )

    -- joined they are the block, but for tail bits and the training sequence
    joined-at : (bursts : List (List ℕ)) (b p : ℕ) → length bursts ≡ count → 4 ≤ count → count ≤ 8 →
        ((j : ℕ) → j < count → Carries j (get_or bursts j [])) → b < 4 → p < 148 → half_of_position p ≢ 0 →
        get_or (get_or (joined_block 0 bursts) b []) p 0 ≡ get_or (get_or block.bursts b []) p 0
    joined-at bursts b p long some_bursts few carry hb hp half =
        joined_block-at 0 0 bursts b p hb hp
        ∙ elim (eqb_tells (p % 2) 1) [
          | inl odd ↦
              let own : half_of_position p ≢ other_half count b = grind (arith, half, odd.1) in
              rw odd.0 ((carry b (omega (arith, hb, some_bursts))).lower p hb hp own)
          | inr even ↦
              rw (even.0, long) (elim (cases_lt (b + 4) count) [
                | inl later ↦
                    let is : partner count b ≡ b + 4 = grind (arith, nat_tests) in
                    let two : half_of_position p ≡ 2 = grind (arith, half, even.1) in
                    rw is ((carry (b + 4) later).upper p (omega arith) hp two
                    ∙ ap (λ n. get_or (get_or block.bursts n []) p 0) (omega arith))
                | inr own ↦
                    let is : partner count b ≡ b = grind (arith, nat_tests) in
                    let apart : half_of_position p ≢ other_half count b = grind (arith, own, hb) in
                    rw is ((carry b (omega (arith, hb, some_bursts))).lower p hb hp apart)
              ])
        ]

-- ## The coded bits of two bursts that have the same halves

slice-at : (burst : List ℕ) (i j k : ℕ) → k < j - i → get_or (slice_range burst i j) k 0 ≡ get_or burst (i + k) 0
slice-at burst i j k h = get_or-take _ _ k 0 h ∙ get_or-drop i burst k 0

same_slice : (xs ys : List ℕ) (i j : ℕ) → length xs ≡ 148 → length ys ≡ 148 →
    ((p : ℕ) → i ≤ p → p < j → get_or xs p 0 ≡ get_or ys p 0) → slice_range xs i j ≡ slice_range ys i j
same_slice xs ys i j hx hy same =
    let long-x = length-take (j - i) (drop i xs) in
    let long-y = length-take (j - i) (drop i ys) in
    ext_get_or 0 _ _ (simp (length-take, length-drop) (omega (arith, hx, hy))) (λ k h.
    let small : k < j - i = omega (arith, long-x, h) in
    slice-at xs i j k small ∙ same (i + k) (omega arith) (omega (arith, small)) ∙ sym (slice-at ys i j k small))

same_coded : (xs ys : List ℕ) → length xs ≡ 148 → length ys ≡ 148 →
    ((p : ℕ) → p < 148 → half_of_position p ≢ 0 → get_or xs p 0 ≡ get_or ys p 0) → coded_values xs ≡ coded_values ys
same_coded xs ys hx hy same =
    ap₂ (λ a b. a ++ b)
    (same_slice xs ys 3 60 hx hy (λ p low high. same p (omega (arith, high)) (grind (arith, nat_tests, low, high))))
    (same_slice xs ys 88 145 hx hy (λ p low high. same p (omega (arith, high)) (grind (arith, nat_tests, low, high))))

same_coded_block : (xs ys : List (List ℕ)) → length xs ≡ 4 → length ys ≡ 4 → All IsBurst xs → All IsBurst ys →
    ((b p : ℕ) → b < 4 → p < 148 → half_of_position p ≢ 0 → get_or (get_or xs b []) p 0 ≡ get_or (get_or ys b []) p 0) →
    map coded_values xs ≡ map coded_values ys
same_coded_block xs ys hx hy each_x each_y same =
    ext_get_or [] _ _ (length-map xs coded_values ∙ hx ∙ sym (length-map ys coded_values ∙ hy)) (λ b h.
    let below : b < 4 = omega (arith, length-map xs coded_values, hx, h) in
    let in_x : b < length xs = omega (arith, hx, below) in
    let in_y : b < length ys = omega (arith, hy, below) in
    get_or-map coded_values xs b [] [] in_x
    ∙ same_coded (get_or xs b []) (get_or ys b []) (each_x b [] in_x) (each_y b [] in_y) (λ p hp half. same b p below hp half)
    ∙ sym (get_or-map coded_values ys b [] [] in_y))

-- ## The law

module _ (sender : TrafficSender) (st : TrafficSettings) (first : ℕ) (frames : List ℕ) (bursts : List (List ℕ))
    (is : sender_settings_of sender ≡ Some st) (zeroth : index_of_four st.channel st.direction first ≡ 0)
    (below : first < bursts_in_hyperframe st.channel) (other : sender.first ≢ first) (some : sender.waiting.kind ≢ 0)
    (are : AreFrames st first frames) (all : length frames ≡ facch_bursts st.channel) (sends : SendsAll sender frames bursts) where
  carried_by_all : (length bursts ≡ facch_bursts st.channel)
      × ((j : ℕ) → j < facch_bursts st.channel → Carries st first sender.waiting zeroth below some j (get_or bursts j []))
  carried_by_all =
      all_carry st first sender.waiting zeroth below some sender frames bursts (is_set sender st is) other refl are all
      (few_bursts st.channel).1 (few_bursts st.channel).0 sends

  pub halves_kept : (b p : ℕ) → b < 4 → p < 148 → half_of_position p ≢ 0 →
      get_or (get_or (joined_block 0 bursts) b []) p 0 ≡ get_or (get_or sender.waiting.bursts b []) p 0
  halves_kept b p hb hp half =
      joined-at st first sender.waiting zeroth below some bursts b p carried_by_all.0 (few_bursts st.channel).0 (few_bursts st.channel).1
      carried_by_all.1 hb hp half

  pub given_carried : (coded : List ℕ) → length sender.waiting.bursts ≡ 4 → All IsBurst sender.waiting.bursts →
      IsInterleaved coded (map coded_values sender.waiting.bursts) → AreCarried coded bursts
  given_carried coded four each spread =
      let few = few_bursts st.channel in
      let every : All IsBurst bursts =
      λ j x lt. ap length (get_or_default bursts j x [] lt) ∙ (carried_by_all.1 j (omega (arith, carried_by_all.0, lt))).long in
      AreCarried-joined 0 bursts every (omega (arith, carried_by_all.0, few.0)) coded
      (rw (same_coded_block (joined_block 0 bursts) sender.waiting.bursts (length-joined 0 bursts) four (IsBurst-joined 0 bursts) each
      halves_kept) spread)
