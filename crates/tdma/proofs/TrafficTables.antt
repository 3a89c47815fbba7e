-- The tables of traffic frames and of FACCH follow a rule, checked at each of 26 frames.
use Rattle.{
  bit_blocks.proofs.Lemmas.{at_passes_below, both_true, passes_below},
  std.proofs.Common.{Bool, Option, None, Some, ap, arith, cond, eqb, false, inl, inr, length, map, not, refl, subst, sym, true, ℕ, []},
  std.proofs.Common.{◌%◌, ◌&&◌, ◌||◌, ◌+◌, ◌-◌, ◌/◌, ◌<◌, ◌∙◌, ◌≡◌},
  std.{proofs.lemmas.Bool.{Decides.{Decides-eqb, nat_tests}, cases_lt}, specs.Prelude.{IsSome, slice_index, slice_index_or}},
  tdma.specs.{
    Traffic.{channels_in_slot, facch_blocks, facch_bursts, facch_that_begins, first_facch_burst, number_from, subchannel_of},
    Traffic.{traffic_frames, traffic_place_at, traffic_place_of},
    declared.TheConstants.HYPERFRAME,
    declared.{channels.Direction.{Direction, TheVariants.{Downlink, Uplink}}, traffic.TrafficPlace.TrafficPlace},
    declared.traffic.TrafficChannel.{TrafficChannel, TheVariants.{FullRate, HalfRate0, HalfRate1}},
  },
}

abbrev is_same_number : Option ℕ → Option ℕ → Bool
is_same_number None None = true
is_same_number (Some m) (Some n) = eqb m n
is_same_number m n = false

same_number : (m n : Option ℕ) → is_same_number m n ≡ true → m ≡ n
same_number None None h = refl
same_number (Some m) (Some n) h = ap Some ((Decides-eqb m n).0 h)
same_number None (Some n) h = absurd cc
same_number (Some m) None h = absurd cc

abbrev is_same : Option TrafficPlace → Option TrafficPlace → Bool
is_same None None = true
is_same (Some p) (Some q) = eqb p.burst q.burst && (is_same_number p.begins q.begins && is_same_number p.ends q.ends)
is_same p q = false

same_places : (p q : Option TrafficPlace) → is_same p q ≡ true → p ≡ q
same_places None None h = refl
same_places (Some p) (Some q) h =
    let b : Bool = eqb p.burst q.burst in
    let s : Bool = is_same_number p.begins q.begins in
    let e : Bool = is_same_number p.ends q.ends in
    let one = both_true b (s && e) h in
    let two = both_true s e one.1 in
    let burst : p.burst ≡ q.burst = (Decides-eqb _ _).0 one.0 in
    let begins : p.begins ≡ q.begins = same_number _ _ two.0 in
    let ends : p.ends ≡ q.ends = same_number _ _ two.1 in
    ap Some (same_fields p.burst q.burst p.begins q.begins p.ends q.ends burst begins ends)
  where
    same_fields : (b b' : ℕ) (s s' e e' : Option ℕ) → b ≡ b' → s ≡ s' → e ≡ e' →
        let a : TrafficPlace = record { burst = b; begins = s; ends = e } in
        let a' : TrafficPlace = record { burst = b'; begins = s'; ends = e' } in a ≡ a'
    same_fields b b' s s' e e' hb hs he = cc
same_places None (Some q) h = absurd cc
same_places (Some p) None h = absurd cc

abbrev number_if : (holds : Bool) (number : ℕ) → Option ℕ
number_if holds n = cond holds (Some n) None

-- the rule, for a frame of a 26-multiframe
abbrev pub place_by_rule : (c : TrafficChannel) (d : Direction) (frame : ℕ) → Option TrafficPlace
place_by_rule c d n =
    let number : ℕ = n - n / 13 in
    let burst : ℕ = number / channels_in_slot c in
    let blocks : ℕ = 6 / channels_in_slot c in
    cond (eqb (n % 13) 12 || not (eqb (number % channels_in_slot c) (subchannel_of c))) None
    (Some (record {
      burst = burst;
      begins = number_if (eqb (burst % 4) (first_facch_burst c d)) (burst / 4);
      ends = number_if (eqb (burst % 4) ((first_facch_burst c d + facch_bursts c - 1) % 4)) ((burst / 4 + blocks - 1) % blocks);
    }))

abbrev is_by_rule : TrafficChannel → Direction → ℕ → Bool
is_by_rule c d n = is_same (place_by_rule c d n) (traffic_place_of c d n)

every_frame : (c : TrafficChannel) (d : Direction) → passes_below (is_by_rule c d) 26 ≡ true
unfolding passes_below
every_frame FullRate Downlink = cc
every_frame FullRate Uplink = cc
every_frame HalfRate0 Downlink = cc
every_frame HalfRate0 Uplink = cc
every_frame HalfRate1 Downlink = cc
every_frame HalfRate1 Uplink = cc

pub place_is_of_table : (c : TrafficChannel) (d : Direction) (n : ℕ) → n < 26 → place_by_rule c d n ≡ traffic_place_of c d n
place_is_of_table c d n lt = same_places _ _ (at_passes_below (is_by_rule c d) 26 (every_frame c d) n lt)

pub found_by_rule : (c : TrafficChannel) (d : Direction) (n : ℕ) → n < 26 → ¬ (n % 13 ≡ 12) →
    (n - n / 13) % channels_in_slot c ≡ subchannel_of c →
    let burst : ℕ = (n - n / 13) / channels_in_slot c in
    let blocks : ℕ = 6 / channels_in_slot c in
    let place : TrafficPlace = record {
      burst = burst;
      begins = number_if (eqb (burst % 4) (first_facch_burst c d)) (burst / 4);
      ends = number_if (eqb (burst % 4) ((first_facch_burst c d + facch_bursts c - 1) % 4)) ((burst / 4 + blocks - 1) % blocks);
    } in Some place ≡ traffic_place_of c d n
found_by_rule c d n lt traffic own =
    let burst : ℕ = (n - n / 13) / channels_in_slot c in
    let blocks : ℕ = 6 / channels_in_slot c in
    let place : TrafficPlace = record {
      burst = burst;
      begins = number_if (eqb (burst % 4) (first_facch_burst c d)) (burst / 4);
      ends = number_if (eqb (burst % 4) ((first_facch_burst c d + facch_bursts c - 1) % 4)) ((burst / 4 + blocks - 1) % blocks);
    } in
    let no : (eqb (n % 13) 12 || not (eqb ((n - n / 13) % channels_in_slot c) (subchannel_of c))) ≡ false = grind (arith, nat_tests) in
    sym (ap (λ b. cond b None (Some place)) no) ∙ place_is_of_table c d n lt

-- ## Next: a block of FACCH begins in each 26 frames.

pub traffic_repeats : (c : TrafficChannel) (d : Direction) (f g : ℕ) → f % 26 ≡ g % 26 →
    facch_that_begins c d f ≡ facch_that_begins c d g
traffic_repeats c d f g e = ap (λ n. number_from 0 n (map (λ block. slice_index block 0) (facch_blocks c d))) e

abbrev begins_of : Option TrafficPlace → Option ℕ
begins_of None = None
begins_of (Some p) = p.begins

-- blocks begin in frames of the channel alone
abbrev begins_in_place : TrafficChannel → Direction → ℕ → Bool
begins_in_place c d n = is_same_number (facch_that_begins c d n) (begins_of (traffic_place_of c d n))

every_begin : (c : TrafficChannel) (d : Direction) → passes_below (begins_in_place c d) 26 ≡ true
unfolding passes_below
every_begin FullRate Downlink = cc
every_begin FullRate Uplink = cc
every_begin HalfRate0 Downlink = cc
every_begin HalfRate0 Uplink = cc
every_begin HalfRate1 Downlink = cc
every_begin HalfRate1 Uplink = cc

begin_of_place : (c : TrafficChannel) (d : Direction) (f : ℕ) → facch_that_begins c d f ≡ begins_of (traffic_place_of c d f)
begin_of_place c d f =
    let same : f % 26 % 26 ≡ f % 26 = omega arith in
    ap (λ n. number_from 0 n (map (λ block. slice_index block 0) (facch_blocks c d))) (sym same)
    ∙ same_number _ _ (at_passes_below (begins_in_place c d) 26 (every_begin c d) (f % 26) (omega arith))
    ∙ ap (λ n. begins_of (traffic_place_at (number_from 0 n (map (λ block. slice_index block 0) (facch_blocks c d)))
    (number_from 0 n (map (λ block. slice_index block (length block - 1)) (facch_blocks c d))) (number_from 0 n (traffic_frames c)))) same

pub begin_of_some : (c : TrafficChannel) (d : Direction) (f : ℕ) (p : TrafficPlace) → Some p ≡ traffic_place_of c d f →
    p.begins ≡ facch_that_begins c d f
begin_of_some c d f p e = ap begins_of e ∙ sym (begin_of_place c d f)

pub begin_of_none : (c : TrafficChannel) (d : Direction) (f : ℕ) → None ≡ traffic_place_of c d f → None ≡ facch_that_begins c d f
begin_of_none c d f e = ap begins_of e ∙ sym (begin_of_place c d f)

-- the first frame of a multiframe in which a block begins
abbrev first_begin : TrafficChannel → Direction → ℕ
first_begin c d = slice_index (slice_index_or (facch_blocks c d) 0 []) 0

first_is_early : (c : TrafficChannel) (d : Direction) → first_begin c d < 26
first_is_early FullRate d = omega arith
first_is_early HalfRate0 Downlink = omega arith
first_is_early HalfRate0 Uplink = omega arith
first_is_early HalfRate1 Downlink = omega arith
first_is_early HalfRate1 Uplink = omega arith

first_begins : (c : TrafficChannel) (d : Direction) → facch_that_begins c d (first_begin c d) ≡ Some 0
first_begins FullRate d = refl
first_begins HalfRate0 Downlink = refl
first_begins HalfRate0 Uplink = refl
first_begins HalfRate1 Downlink = refl
first_begins HalfRate1 Uplink = refl

ahead_of : (frame first : ℕ) → first < 26 →
    (ahead : ℕ) × (ahead < 26) × ((frame + ahead) % HYPERFRAME % 26 ≡ first % 26)
ahead_of frame first lt = ((26 + first - frame % 26) % 26, omega arith, omega arith)

pub last_begins : (c : TrafficChannel) (d : Direction) (frame : ℕ) →
    ((a : ℕ) → a < 25 → facch_that_begins c d ((frame + a) % HYPERFRAME) ≡ None) →
    IsSome (facch_that_begins c d ((frame + 25) % HYPERFRAME))
last_begins c d frame none =
    let near = ahead_of frame (first_begin c d) (first_is_early c d) in
    let there : facch_that_begins c d ((frame + near.0) % HYPERFRAME) ≡ Some 0 =
    traffic_repeats c d ((frame + near.0) % HYPERFRAME) (first_begin c d) near.2 ∙ first_begins c d in
    elim (cases_lt near.0 25) [
      | inl before ↦ absurd (let no : facch_that_begins c d ((frame + near.0) % HYPERFRAME) ≡ None = none near.0 before in cc)
      | inr at ↦
          let last : near.0 ≡ 25 = omega arith in
          subst (λ n. IsSome (facch_that_begins c d ((frame + n) % HYPERFRAME))) last (some_is _ 0 there)
    ]
  where
    some_is : (o : Option ℕ) (n : ℕ) → o ≡ Some n → IsSome o
    some_is None n e = absurd cc
    some_is (Some m) n e = search
