-- The tables repeat: what a frame carries depends on its place in a cycle of 102 frames, or 104 for a traffic channel.
use Rattle.{
  bit_blocks.proofs.Lemmas.both_true,
  std.{
    proofs.{
      Common.{Bool, List, Option, [], ap, arith, cond, eqb, false, refl, sym, true, ℕ, inl, inr, ◌%◌, ◌&&◌, ◌+◌, ◌-◌},
      Common.{◌<◌},
      Common.{◌∙◌, ◌≡◌, ◌≢◌, ◌⊎◌, ◌∷◌, Some, leb, ◌||◌},
      lemmas.Bool.Decides.{nat_tests, Decides-eqb, Decides-or},
    },
    specs.List.list_all,
  },
  tdma.specs.{
    Channels.{burst_spacing, is_traffic, Mapping, frames_since, mappings, position_among, position_of},
    declared.{TheConstants.HYPERFRAME, channels.Combination.{Combination, TheVariants.{BcchCcch, BcchCcchSdcch4, Sdcch8, TchF, TchH}}},
    declared.{channels.Direction.{Direction, TheVariants.{Downlink, Uplink}}, schedule.Position.Position},
  },
}

abbrev pub cycle : Combination → ℕ
cycle c = cond (is_traffic c) 104 102

abbrev pub repeats : (row : Mapping) → Bool
repeats m = eqb m.repeat_length 51 || eqb m.repeat_length 102

abbrev pub all_repeat : List Mapping → Bool
all_repeat [] = true
all_repeat (m ∷ ms) = repeats m && all_repeat ms

same_remainder : (r f g : ℕ) → (r ≡ 51) ⊎ (r ≡ 102) → f % 102 ≡ g % 102 → f % r ≡ g % r
same_remainder r f g (inl h) same = rw h (omega arith)
same_remainder r f g (inr h) same = rw h same

pub same_since : (m : Mapping) (f g : ℕ) → repeats m ≡ true → f % 102 ≡ g % 102 → frames_since m f ≡ frames_since m g
same_since m f g h same =
    let r = (Decides-or (eqb m.repeat_length 51) (eqb m.repeat_length 102) (Decides-eqb m.repeat_length 51)
    (Decides-eqb m.repeat_length 102)).0 h in
    let e = same_remainder m.repeat_length f g r same in
    ap (λ n. (n + m.repeat_length - m.first) % m.repeat_length) e

same_among : (spacing : ℕ) (ms : List Mapping) (f g : ℕ) → all_repeat ms ≡ true → f % 102 ≡ g % 102 →
    position_among spacing ms f ≡ position_among spacing ms g
same_among spacing [] f g h same = refl
same_among spacing (m ∷ ms) f g h same =
    let both = both_true (repeats m) (all_repeat ms) h in
    let since = same_since m f g both.0 same in
    let rest = same_among spacing ms f g both.1 same in
    cc

pub same_in_cycle : (c : Combination) (d : Direction) (timeslot f g : ℕ) → f % cycle c ≡ g % cycle c →
    position_of c d timeslot f ≡ position_of c d timeslot g
same_in_cycle BcchCcch Downlink t f g same = same_among 1 (mappings BcchCcch Downlink t) f g refl same
same_in_cycle BcchCcch Uplink t f g same = same_among 1 (mappings BcchCcch Uplink t) f g refl same
same_in_cycle BcchCcchSdcch4 Downlink t f g same = same_among 1 (mappings BcchCcchSdcch4 Downlink t) f g refl same
same_in_cycle BcchCcchSdcch4 Uplink t f g same = same_among 1 (mappings BcchCcchSdcch4 Uplink t) f g refl same
same_in_cycle Sdcch8 Downlink t f g same = same_among 1 (mappings Sdcch8 Downlink t) f g refl same
same_in_cycle Sdcch8 Uplink t f g same = same_among 1 (mappings Sdcch8 Uplink t) f g refl same
same_in_cycle TchF d t f g same = cc
same_in_cycle TchH d t f g same = cc

pub same_in_slots : (c : Combination) (d : Direction) (timeslot f : ℕ) → is_traffic c ≡ false →
    position_of c d timeslot f ≡ position_of c d 0 f
same_in_slots BcchCcch Downlink t f h = refl
same_in_slots BcchCcch Uplink t f h = refl
same_in_slots BcchCcchSdcch4 Downlink t f h = refl
same_in_slots BcchCcchSdcch4 Uplink t f h = refl
same_in_slots Sdcch8 Downlink t f h = refl
same_in_slots Sdcch8 Uplink t f h = refl
same_in_slots TchF d t f h = absurd cc
same_in_slots TchH d t f h = absurd cc

pub position_at_remainder : (c : Combination) (d : Direction) (timeslot f : ℕ) → is_traffic c ≡ false →
    position_of c d timeslot f ≡ position_of c d 0 (f % 102)
position_at_remainder TchF d t f h = absurd cc
position_at_remainder TchH d t f h = absurd cc
position_at_remainder BcchCcch d t f h = same_in_slots BcchCcch d t f h ∙ same_in_cycle BcchCcch d 0 f (f % 102) (omega arith)
position_at_remainder BcchCcchSdcch4 d t f h =
    same_in_slots BcchCcchSdcch4 d t f h ∙ same_in_cycle BcchCcchSdcch4 d 0 f (f % 102) (omega arith)
position_at_remainder Sdcch8 d t f h = same_in_slots Sdcch8 d t f h ∙ same_in_cycle Sdcch8 d 0 f (f % 102) (omega arith)

-- ## Next: a block that begins at all begins within 104 frames.

pub within_cycle : (c : Combination) (frame f : ℕ) →
    (ahead : ℕ) × (ahead < 104) × (f % cycle c ≡ (frame + ahead) % HYPERFRAME % cycle c)
within_cycle TchF frame f = ((f % 104 + 104 - frame % 104) % 104, omega arith, omega arith)
within_cycle TchH frame f = ((f % 104 + 104 - frame % 104) % 104, omega arith, omega arith)
within_cycle BcchCcch frame f = ((f % 102 + 102 - frame % 102) % 102, omega arith, omega arith)
within_cycle BcchCcchSdcch4 frame f = ((f % 102 + 102 - frame % 102) % 102, omega arith, omega arith)
within_cycle Sdcch8 frame f = ((f % 102 + 102 - frame % 102) % 102, omega arith, omega arith)

pub no_block_begins : (c : Combination) (d : Direction) (timeslot : ℕ) (p : Option Position) (frame : ℕ) →
    ((ahead : ℕ) → ahead < 104 → position_of c d timeslot ((frame + ahead) % HYPERFRAME) ≢ p) →
    (f : ℕ) → position_of c d timeslot f ≢ p
no_block_begins c d timeslot p frame none f begins =
    let near = within_cycle c frame f in
    none near.0 near.1 (sym (same_in_cycle c d timeslot f ((frame + near.0) % HYPERFRAME) near.2) ∙ begins)

-- ## Few: a block has at most four bursts.

few_among : (spacing : ℕ) (ms : List Mapping) (f : ℕ) (p : Position) → list_all (λ m. leb m.bursts 4) ms ≡ true →
    position_among spacing ms f ≡ Some p → p.burst < 4
few_among spacing (m ∷ ms) f p h found =
    let both = both_true (leb m.bursts 4) (list_all (λ m. leb m.bursts 4) ms) h in
    let rest : position_among spacing ms f ≡ Some p → p.burst < 4 = few_among spacing ms f p both.1 in
    grind (arith, nat_tests, both.0)
few_among spacing [] f p h found = absurd cc

few_rows : (c : Combination) (d : Direction) (t : ℕ) → list_all (λ m. leb m.bursts 4) (mappings c d t) ≡ true
few_rows BcchCcch Downlink t = refl
few_rows BcchCcch Uplink t = refl
few_rows BcchCcchSdcch4 Downlink t = refl
few_rows BcchCcchSdcch4 Uplink t = refl
few_rows Sdcch8 Downlink t = refl
few_rows Sdcch8 Uplink t = refl
few_rows TchF d t = refl
few_rows TchH d t = refl

pub burst_below_4 : (c : Combination) (d : Direction) (timeslot f : ℕ) (p : Position) → position_of c d timeslot f ≡ Some p →
    p.burst < 4
burst_below_4 c d t f p found = few_among (burst_spacing c) (mappings c d t) f p (few_rows c d t) found
