-- No frame carries bursts of two rows, and the bursts of a block have one place.
use Rattle.{
  bit_blocks.proofs.Lemmas.{at_passes_below, both_true, passes_below},
  std.proofs.Common.{Bool, Contains, List, Option, None, Some, [], ap, arith, eqb, false, ltb, not, refl, subst, sym, true, ℕ, cond, inl},
  std.proofs.Common.{inr, ◌%◌, ◌&&◌, ◌*◌, ◌+◌, ◌-◌, ◌/◌, ◌<◌, ◌∙◌, ◌≡◌, ◌∷◌},
  std.proofs.{Common.{◌⊎◌, ◌||◌}, lemmas.Bool.{Decides.{Decides-eqb, Decides-ltb, Decides-or, nat_tests}, cases_lt}},
  std.proofs.lemmas.List.Elements.{All-cons, All-contains, All-nil, Contains-append_left, Contains-append_right, Contains-push},
  std.{proofs.lemmas.List.Sums.AllPass-from_list_all, specs.List.list_all},
  tdma.{
    specs.{
      declared.channels.{Channel.TheVariants.Sacch, Combination.{Combination, TheVariants.{BcchCcch, BcchCcchSdcch4, Sdcch8, TchF, TchH}}},
      declared.{channels.Direction.{Direction, TheVariants.{Downlink, Uplink}}, TheConstants.HYPERFRAME, places.Place.Place},
      declared.schedule.Position.Position,
      Channels.{Mapping, burst_spacing, carries, frames_since, is_traffic, mappings, place_at, place_of, position_among, position_of},
    },
    proofs.{Cycles.{position_at_remainder, repeats, same_since}, Tables.{is_same, same_positions}},
  },
}

-- ## Alone: computed for each row at each of 102 frames.

abbrev burst_of_row : (spacing : ℕ) (row : Mapping) (frame : ℕ) → Position
burst_of_row s row f = record { channel = row.channel; subchannel = row.subchannel; burst = frames_since row f / s }

-- the row repeats, begins within its length, and has only bursts that are the frame's place
abbrev is_alone : (place : Option Position) (frame : ℕ) (row : Mapping) → Bool
is_alone place f row = not (carries 1 row f) || is_same place (Some (burst_of_row 1 row f))

abbrev are_alone : (c : Combination) (d : Direction) → ℕ → Bool
are_alone c d n = list_all (is_alone (position_of c d 0 n) n) (mappings c d 0)

alone_iv_down : passes_below (are_alone BcchCcch Downlink) 102 ≡ true
unfolding passes_below
alone_iv_down = cc

alone_iv_up : passes_below (are_alone BcchCcch Uplink) 102 ≡ true
unfolding passes_below
alone_iv_up = cc

alone_v_down : passes_below (are_alone BcchCcchSdcch4 Downlink) 102 ≡ true
unfolding passes_below
alone_v_down = cc

alone_v_up : passes_below (are_alone BcchCcchSdcch4 Uplink) 102 ≡ true
unfolding passes_below
alone_v_up = cc

alone_vii_down : passes_below (are_alone Sdcch8 Downlink) 102 ≡ true
unfolding passes_below
alone_vii_down = cc

alone_vii_up : passes_below (are_alone Sdcch8 Uplink) 102 ≡ true
unfolding passes_below
alone_vii_up = cc

all_alone : (c : Combination) (d : Direction) → is_traffic c ≡ false → passes_below (are_alone c d) 102 ≡ true
all_alone BcchCcch Downlink h = alone_iv_down
all_alone BcchCcch Uplink h = alone_iv_up
all_alone BcchCcchSdcch4 Downlink h = alone_v_down
all_alone BcchCcchSdcch4 Uplink h = alone_v_up
all_alone Sdcch8 Downlink h = alone_vii_down
all_alone Sdcch8 Uplink h = alone_vii_up
all_alone TchF d h = absurd cc
all_alone TchH d h = absurd cc

abbrev is_row : Mapping → Bool
is_row m = repeats m && (ltb m.first m.repeat_length && ltb m.bursts 5)

rows_are_rows : (c : Combination) (d : Direction) → is_traffic c ≡ false → list_all is_row (mappings c d 0) ≡ true
rows_are_rows BcchCcch Downlink h = refl
rows_are_rows BcchCcch Uplink h = refl
rows_are_rows BcchCcchSdcch4 Downlink h = refl
rows_are_rows BcchCcchSdcch4 Uplink h = refl
rows_are_rows Sdcch8 Downlink h = refl
rows_are_rows Sdcch8 Uplink h = refl
rows_are_rows TchF d h = absurd cc
rows_are_rows TchH d h = absurd cc

row_is_row : (c : Combination) (d : Direction) (row : Mapping) → is_traffic c ≡ false → Contains (mappings c d 0) row →
    is_row row ≡ true
row_is_row c d row h among =
    All-contains (λ m. is_row m ≡ true) (mappings c d 0) row (AllPass-from_list_all is_row (mappings c d 0) (rows_are_rows c d h)) among

implied : (a b : Bool) → a ≡ true → (not a || b) ≡ true → b ≡ true
implied true b h e = e
implied false b h e = cc

alone_at : (c : Combination) (d : Direction) (row : Mapping) (n : ℕ) → is_traffic c ≡ false → Contains (mappings c d 0) row →
    n < 102 →
    carries 1 row n ≡ true → position_of c d 0 n ≡ Some (burst_of_row 1 row n)
alone_at c d row n h among lt carried =
    let here = at_passes_below (are_alone c d) 102 (all_alone c d h) n lt in
    let alone = All-contains (λ m. is_alone (position_of c d 0 n) n m ≡ true) (mappings c d 0) row
    (AllPass-from_list_all (is_alone (position_of c d 0 n) n) (mappings c d 0) here) among in
    same_positions _ _ (implied (carries 1 row n) (is_same (position_of c d 0 n) (Some (burst_of_row 1 row n))) carried alone)

mappings_same : (c : Combination) (d : Direction) (timeslot : ℕ) → is_traffic c ≡ false → mappings c d timeslot ≡ mappings c d 0
mappings_same BcchCcch Downlink t h = refl
mappings_same BcchCcch Uplink t h = refl
mappings_same BcchCcchSdcch4 Downlink t h = refl
mappings_same BcchCcchSdcch4 Uplink t h = refl
mappings_same Sdcch8 Downlink t h = refl
mappings_same Sdcch8 Uplink t h = refl
mappings_same TchF d t h = absurd cc
mappings_same TchH d t h = absurd cc

alone_in_slot : (c : Combination) (d : Direction) (timeslot f : ℕ) (row : Mapping) → is_traffic c ≡ false →
    Contains (mappings c d timeslot) row →
    carries 1 row f ≡ true → position_of c d timeslot f ≡ Some (burst_of_row 1 row f)
alone_in_slot c d t f row h among carried =
    let there = subst (λ ms. Contains ms row) (mappings_same c d t h) among in
    let rows = both_true (repeats row) (ltb row.first row.repeat_length && ltb row.bursts 5) (row_is_row c d row h there) in
    let since : frames_since row (f % 102) ≡ frames_since row f = same_since row (f % 102) f rows.0 (omega arith) in
    let carried' : carries 1 row (f % 102) ≡ true =
    ap (λ n. eqb (n % 1) 0 && ltb (n / 1) row.bursts) since ∙ carried in
    position_at_remainder c d t f h
    ∙ alone_at c d row (f % 102) h there (omega arith) carried'
    ∙ ap (λ n. Some (let p : Position = record { channel = row.channel; subchannel = row.subchannel; burst = n / 1 } in p)) since

sacch_row : (subchannel first : ℕ) → Mapping
sacch_row n f = record { channel = Sacch; subchannel = n; bursts = 4; repeat_length = 104; first = f }

full_rate_alone : (d : Direction) (t f : ℕ) (row : Mapping) → Contains (mappings TchF d t) row →
    carries 26 row f ≡ true → position_of TchF d t f ≡ Some (burst_of_row 26 row f)
unfolding sacch_row
full_rate_alone d t f row among =
    let P : Mapping → Type 0 = λ m. carries 26 m f ≡ true → position_of TchF d t f ≡ Some (burst_of_row 26 m f) in
    let own : P (sacch_row 0 (12 + 13 * t)) =
    λ carried. ap (λ b. cond b (Some (burst_of_row 26 (sacch_row 0 (12 + 13 * t)) f)) None) carried in
    All-contains P (mappings TchF d t) row (All-cons P (sacch_row 0 (12 + 13 * t)) [] own (All-nil P)) among

-- the two halves of a time slot have their SACCH 13 frames apart, so never in one frame
not_both : (t f : ℕ) → t < 8 → carries 26 (sacch_row 1 (25 + 26 * (t / 2))) f ≡ true →
    carries 26 (sacch_row 0 (12 + 26 * (t / 2))) f ≡ false
unfolding sacch_row
not_both t f slot carried = grind (arith, nat_tests)

half_rate_alone : (d : Direction) (t f : ℕ) (row : Mapping) → t < 8 → Contains (mappings TchH d t) row →
    carries 26 row f ≡ true → position_of TchH d t f ≡ Some (burst_of_row 26 row f)
unfolding sacch_row
half_rate_alone d t f row slot among =
    let P : Mapping → Type 0 = λ m. carries 26 m f ≡ true → position_of TchH d t f ≡ Some (burst_of_row 26 m f) in
    let zeroth : Mapping = sacch_row 0 (12 + 26 * (t / 2)) in
    let other : Mapping = sacch_row 1 (25 + 26 * (t / 2)) in
    let rest : Option Position = cond (carries 26 other f) (Some (burst_of_row 26 other f)) None in
    let own : P zeroth = λ carried. ap (λ b. cond b (Some (burst_of_row 26 zeroth f)) rest) carried in
    let its : P other = λ carried.
    ap (λ b. cond b (Some (burst_of_row 26 zeroth f)) rest) (not_both t f slot carried)
    ∙ ap (λ b. cond b (Some (burst_of_row 26 other f)) None) carried in
    All-contains P (mappings TchH d t) row (All-cons P zeroth (other ∷ []) own (All-cons P other [] its (All-nil P))) among

traffic_alone : (c : Combination) (d : Direction) (t f : ℕ) (row : Mapping) → is_traffic c ≡ true → t < 8 →
    Contains (mappings c d t) row → carries 26 row f ≡ true → position_of c d t f ≡ Some (burst_of_row 26 row f)
traffic_alone TchF d t f row h slot among = full_rate_alone d t f row among
traffic_alone TchH d t f row h slot among = half_rate_alone d t f row slot among
traffic_alone c d t f row h slot among = absurd cc

pub alone_anywhere : (c : Combination) (d : Direction) (timeslot f : ℕ) (row : Mapping) → timeslot < 8 →
    Contains (mappings c d timeslot) row → carries (burst_spacing c) row f ≡ true →
    position_of c d timeslot f ≡ Some (burst_of_row (burst_spacing c) row f)
alone_anywhere BcchCcch d t f row slot = alone_in_slot BcchCcch d t f row refl
alone_anywhere BcchCcchSdcch4 d t f row slot = alone_in_slot BcchCcchSdcch4 d t f row refl
alone_anywhere Sdcch8 d t f row slot = alone_in_slot Sdcch8 d t f row refl
alone_anywhere TchF d t f row slot = traffic_alone TchF d t f row refl slot
alone_anywhere TchH d t f row slot = traffic_alone TchH d t f row refl slot

-- ## First: the first frame of a frame's block.

record IsBurstOfRow (spacing : ℕ) (rows : List Mapping) (frame : ℕ) (position : Position) : Type 0 where
  row : Mapping
  among : Contains rows row
  carried : carries spacing row frame ≡ true
  burst : position ≡ burst_of_row spacing row frame

in_first_row : (b : Bool) (q p : Position) (rest : Option Position) → cond b (Some q) rest ≡ Some p →
    ((b ≡ true) × (p ≡ q)) ⊎ (rest ≡ Some p)
in_first_row true q p rest found = inl (refl, cc)
in_first_row false q p rest found = inr found

row_of_position : (s : ℕ) (rows : List Mapping) (f : ℕ) (p : Position) → position_among s rows f ≡ Some p →
    IsBurstOfRow s rows f p
row_of_position s [] f p found = absurd cc
row_of_position s (m ∷ ms) f p found =
    elim (in_first_row (carries s m f) (burst_of_row s m f) p (position_among s ms f) found) [
      | inl here ↦ record {
        row = m;
        among = Contains-append_left (m ∷ []) ms m (Contains-push [] m);
        carried = here.0;
        burst = here.1;
      }
      | inr later ↦
          let rest = row_of_position s ms f p later in
          record {
            row = rest.row;
            among = Contains-append_right (m ∷ []) ms rest.row rest.among;
            carried = rest.carried;
            burst = rest.burst;
          }
    ]

placed_at : (s f : ℕ) (found : Option Position) (p : Place) → place_at s f found ≡ Some p →
    (found ≡ Some p.position) × (p.first ≡ (f + HYPERFRAME - s * p.position.burst) % HYPERFRAME)
placed_at s f None p e = absurd cc
placed_at s f (Some q) p e =
    let made : Place = record { first = (f + HYPERFRAME - s * q.burst) % HYPERFRAME; position = q } in
    let same : made ≡ p = cc in
    subst (λ (x : Place). (Some q ≡ Some x.position) × (x.first ≡ (f + HYPERFRAME - s * x.position.burst) % HYPERFRAME)) same
    (refl, refl)

-- ## InOrder: the bursts of a row come in order after its first frame.

since_first : (r start n b : ℕ) → (r ≡ 51) ⊎ (r ≡ 102) → start < r → b < 4 →
    ((((start + r * n) % HYPERFRAME + b) % HYPERFRAME) % r + r - start) % r ≡ b
since_first r start n b (inl h) within lt = rw h (since_first_51 start n b (omega arith) lt)
  where
    since_first_51 : (start n b : ℕ) → start < 51 → b < 4 →
        ((((start + 51 * n) % HYPERFRAME + b) % HYPERFRAME) % 51 + 51 - start) % 51 ≡ b
    since_first_51 start n b within lt = omega arith
since_first r start n b (inr h) within lt = rw h (since_first_102 start n b (omega arith) lt)
  where
    since_first_102 : (start n b : ℕ) → start < 102 → b < 4 →
        ((((start + 102 * n) % HYPERFRAME + b) % HYPERFRAME) % 102 + 102 - start) % 102 ≡ b
    since_first_102 start n b within lt = omega arith

since_first_104 : (start n b : ℕ) → start < 104 → b < 4 →
    ((((start + 104 * n) % HYPERFRAME + 26 * b) % HYPERFRAME) % 104 + 104 - start) % 104 ≡ 26 * b
since_first_104 start n b within lt = omega arith

back_to_first : (first s b : ℕ) → first < HYPERFRAME → s * b < 104 →
    ((first + s * b) % HYPERFRAME + HYPERFRAME - s * b) % HYPERFRAME ≡ first
back_to_first first s b within lt = let ahead : ℕ = s * b in elim (cases_lt (first + ahead) HYPERFRAME) [
  | inl below ↦ omega arith
  | inr over ↦ omega arith
]

place_of_burst : (s f first b : ℕ) (p : Option Position) (row : Mapping) → p ≡ Some (burst_of_row s row f) →
    frames_since row f / s ≡ b → (f + HYPERFRAME - s * b) % HYPERFRAME ≡ first →
    place_at s f p ≡ Some (record { first = first; position = record { channel = row.channel; subchannel = row.subchannel; burst = b } })
place_of_burst s f first b p row is burst back = cc

carries_burst : (s f b : ℕ) (row : Mapping) → b < row.bursts → frames_since row f % s ≡ 0 → frames_since row f / s ≡ b →
    carries s row f ≡ true
carries_burst s f b row lt whole burst = grind (arith, nat_tests)

since_at_first : (r start f : ℕ) → (r ≡ 51) ⊎ ((r ≡ 102) ⊎ (r ≡ 104)) → start < r →
    (((f + HYPERFRAME - (f % r + r - start) % r) % HYPERFRAME) % r + r - start) % r ≡ 0
since_at_first r start f (inl h) within = rw h (since_at_first_51 start f (omega arith))
  where
    since_at_first_51 : (start f : ℕ) → start < 51 →
        (((f + HYPERFRAME - (f % 51 + 51 - start) % 51) % HYPERFRAME) % 51 + 51 - start) % 51 ≡ 0
    since_at_first_51 start f within = omega arith
since_at_first r start f (inr (inl h)) within = rw h (since_at_first_102 start f (omega arith))
  where
    since_at_first_102 : (start f : ℕ) → start < 102 →
        (((f + HYPERFRAME - (f % 102 + 102 - start) % 102) % HYPERFRAME) % 102 + 102 - start) % 102 ≡ 0
    since_at_first_102 start f within = omega arith
since_at_first r start f (inr (inr h)) within = rw h (since_at_first_104 start f (omega arith))
  where
    since_at_first_104 : (start f : ℕ) → start < 104 →
        (((f + HYPERFRAME - (f % 104 + 104 - start) % 104) % HYPERFRAME) % 104 + 104 - start) % 104 ≡ 0
    since_at_first_104 start f within = omega arith

record IsPeriodic (row : Mapping) : Type 0 where
  length : (row.repeat_length ≡ 51) ⊎ ((row.repeat_length ≡ 102) ⊎ (row.repeat_length ≡ 104))
  start : row.first < row.repeat_length

periodic_in_slot : (c : Combination) (d : Direction) (timeslot : ℕ) (row : Mapping) → is_traffic c ≡ false →
    Contains (mappings c d timeslot) row → IsPeriodic row
periodic_in_slot c d t row h among =
    let there = subst (λ ms. Contains ms row) (mappings_same c d t h) among in
    let short : Bool = ltb row.bursts 5 in
    let starts : Bool = ltb row.first row.repeat_length in
    let one = both_true (repeats row) (starts && short) (row_is_row c d row h there) in
    let length = (Decides-or (eqb row.repeat_length 51) (eqb row.repeat_length 102) (Decides-eqb row.repeat_length 51)
    (Decides-eqb row.repeat_length 102)).0 one.0 in
    record {
      length = elim length [ inl e ↦ inl e | inr e ↦ inr (inl e) ];
      start = (Decides-ltb row.first row.repeat_length).0 (both_true starts short one.1).0;
    }

abbrev IsSacchRow : Mapping → Type 0
IsSacchRow row = (row.repeat_length ≡ 104) × (row.first < 104) × (row.bursts ≡ 4)

sacch_rows : (c : Combination) (d : Direction) (timeslot : ℕ) (row : Mapping) → is_traffic c ≡ true → timeslot < 8 →
    Contains (mappings c d timeslot) row → IsSacchRow row
unfolding sacch_row
sacch_rows TchF d t row h slot among =
    All-contains IsSacchRow (mappings TchF d t) row
    (All-cons IsSacchRow (sacch_row 0 (12 + 13 * t)) [] (refl, omega arith, refl) (All-nil IsSacchRow)) among
sacch_rows TchH d t row h slot among =
    All-contains IsSacchRow (mappings TchH d t) row
    (All-cons IsSacchRow (sacch_row 0 (12 + 26 * (t / 2))) (sacch_row 1 (25 + 26 * (t / 2)) ∷ []) (refl, omega arith, refl)
    (All-cons IsSacchRow (sacch_row 1 (25 + 26 * (t / 2))) [] (refl, omega arith, refl) (All-nil IsSacchRow))) among
sacch_rows c d t row h slot among = absurd cc

periodic_in_traffic : (c : Combination) (d : Direction) (timeslot : ℕ) (row : Mapping) → is_traffic c ≡ true → timeslot < 8 →
    Contains (mappings c d timeslot) row → IsPeriodic row
periodic_in_traffic c d t row h slot among =
    let shape = sacch_rows c d t row h slot among in
    record { length = inr (inr shape.0); start = rw (shape.0) (shape.1) }

first_of_row : (c : Combination) (d : Direction) (timeslot f first : ℕ) (p : Position) (row : Mapping) → timeslot < 8 →
    IsPeriodic row →
    Contains (mappings c d timeslot) row → carries (burst_spacing c) row f ≡ true →
    burst_spacing c * (frames_since row f / burst_spacing c) ≡ frames_since row f → 0 % burst_spacing c ≡ 0 →
    0 / burst_spacing c ≡ 0 → p ≡ burst_of_row (burst_spacing c) row f →
    first ≡ (f + HYPERFRAME - burst_spacing c * p.burst) % HYPERFRAME →
    place_of c d timeslot first ≡ Some (record { first = first; position = record p { burst = 0 } })
first_of_row c d t f first p row slot periodic among carried whole none zeroth burst is_first =
    let s : ℕ = burst_spacing c in
    let back : s * p.burst ≡ frames_since row f = ap (λ (q : Position). s * q.burst) burst ∙ whole in
    let since : frames_since row first ≡ 0 =
    ap (frames_since row) (is_first ∙ ap (λ n. (f + HYPERFRAME - n) % HYPERFRAME) back)
    ∙ since_at_first row.repeat_length row.first f periodic.length periodic.start in
    let some : 0 < row.bursts = grind (arith, nat_tests) in
    let zero_burst : frames_since row first / s ≡ 0 = ap (λ n. n / s) since ∙ zeroth in
    let carried' : carries s row first ≡ true =
    carries_burst s first 0 row some (ap (λ n. n % s) since ∙ none) zero_burst in
    let placed = place_of_burst s first first 0 (position_of c d t first) row
    (alone_anywhere c d t first row slot among carried') zero_burst
    (omega arith) in
    placed
    ∙ ap (λ (q : Position). Some (let made : Place = record { first = first; position = record q { burst = 0 } } in made)) (sym burst)

pub first_of_block : (c : Combination) (d : Direction) (timeslot f : ℕ) (p : Place) → timeslot < 8 →
    place_of c d timeslot f ≡ Some p →
    place_of c d timeslot p.first ≡ Some (record { first = p.first; position = record p.position { burst = 0 } })
first_of_block c d t f p slot found =
    let at_frame = placed_at (burst_spacing c) f (position_of c d t f) p found in
    let its = row_of_position (burst_spacing c) (mappings c d t) f p.position at_frame.0 in
    by_combination c d t f p slot its at_frame.1
  where
    by_combination : (c : Combination) (d : Direction) (timeslot f : ℕ) (p : Place) → timeslot < 8 →
        IsBurstOfRow (burst_spacing c) (mappings c d timeslot) f p.position →
        p.first ≡ (f + HYPERFRAME - burst_spacing c * p.position.burst) % HYPERFRAME →
        place_of c d timeslot p.first ≡ Some (record { first = p.first; position = record p.position { burst = 0 } })
    by_combination BcchCcch d t f p slot its first =
        first_of_row BcchCcch d t f p.first p.position its.row slot (periodic_in_slot BcchCcch d t its.row refl its.among) its.among
        its.carried (omega arith) refl refl its.burst first
    by_combination BcchCcchSdcch4 d t f p slot its first =
        first_of_row BcchCcchSdcch4 d t f p.first p.position its.row slot (periodic_in_slot BcchCcchSdcch4 d t its.row refl its.among)
        its.among its.carried (omega arith) refl refl its.burst first
    by_combination Sdcch8 d t f p slot its first =
        first_of_row Sdcch8 d t f p.first p.position its.row slot (periodic_in_slot Sdcch8 d t its.row refl its.among) its.among
        its.carried (omega arith) refl refl its.burst first
    by_combination TchF d t f p slot its first =
        let whole : frames_since its.row f % 26 ≡ 0 = grind (arith, nat_tests, its.carried) in
        first_of_row TchF d t f p.first p.position its.row slot (periodic_in_traffic TchF d t its.row refl slot its.among) its.among
        its.carried (omega arith) refl refl its.burst first
    by_combination TchH d t f p slot its first =
        let whole : frames_since its.row f % 26 ≡ 0 = grind (arith, nat_tests, its.carried) in
        first_of_row TchH d t f p.first p.position its.row slot (periodic_in_traffic TchH d t its.row refl slot its.among) its.among
        its.carried (omega arith) refl refl its.burst first

pub placed_in_slot : (c : Combination) (d : Direction) (timeslot n b : ℕ) (row : Mapping) → is_traffic c ≡ false →
    Contains (mappings c d timeslot) row → b < row.bursts →
    let first = (row.first + row.repeat_length * n) % HYPERFRAME in
    place_at 1 ((first + 1 * b) % HYPERFRAME) (position_of c d timeslot ((first + 1 * b) % HYPERFRAME)) ≡
    Some (record { first = first; position = record { channel = row.channel; subchannel = row.subchannel; burst = b } })
placed_in_slot c d t n b row h among lt =
    let there = subst (λ ms. Contains ms row) (mappings_same c d t h) among in
    let short : Bool = ltb row.bursts 5 in
    let starts : Bool = ltb row.first row.repeat_length in
    let one = both_true (repeats row) (starts && short) (row_is_row c d row h there) in
    let two = both_true starts short one.1 in
    let length = (Decides-or (eqb row.repeat_length 51) (eqb row.repeat_length 102) (Decides-eqb row.repeat_length 51)
    (Decides-eqb row.repeat_length 102)).0 one.0 in
    let four : b < 4 = (let few : row.bursts < 5 = (Decides-ltb row.bursts 5).0 two.1 in omega arith) in
    let first : ℕ = (row.first + row.repeat_length * n) % HYPERFRAME in
    let f : ℕ = (first + 1 * b) % HYPERFRAME in
    let plain : (first + b) % HYPERFRAME ≡ f = omega arith in
    let since : frames_since row f ≡ b =
    sym (ap (frames_since row) plain)
    ∙ since_first row.repeat_length row.first n b length ((Decides-ltb row.first row.repeat_length).0 two.0) four in
    let burst : frames_since row f / 1 ≡ b = omega arith in
    let whole : frames_since row f % 1 ≡ 0 = omega arith in
    let under : first < HYPERFRAME = omega arith in
    place_of_burst 1 f first b (position_of c d t f) row (alone_in_slot c d t f row h among (carries_burst 1 f b row lt whole burst)) burst
    (back_to_first first 1 b under (omega arith))

pub placed_in_traffic : (c : Combination) (d : Direction) (timeslot n b : ℕ) (row : Mapping) → is_traffic c ≡ true →
    timeslot < 8 →
    Contains (mappings c d timeslot) row → b < row.bursts →
    let first = (row.first + row.repeat_length * n) % HYPERFRAME in
    place_at 26 ((first + 26 * b) % HYPERFRAME) (position_of c d timeslot ((first + 26 * b) % HYPERFRAME)) ≡
    Some (record { first = first; position = record { channel = row.channel; subchannel = row.subchannel; burst = b } })
placed_in_traffic c d t n b row h slot among lt =
    let shape = sacch_rows c d t row h slot among in
    let first : ℕ = (row.first + row.repeat_length * n) % HYPERFRAME in
    let f : ℕ = (first + 26 * b) % HYPERFRAME in
    let since : frames_since row f ≡ 26 * b = rw (shape.0) (since_first_104 row.first n b shape.1 (omega arith)) in
    let burst : frames_since row f / 26 ≡ b = omega arith in
    let whole : frames_since row f % 26 ≡ 0 = omega arith in
    let under : first < HYPERFRAME = omega arith in
    place_of_burst 26 f first b (position_of c d t f) row
    (traffic_alone c d t f row h slot among (carries_burst 26 f b row lt whole burst)) burst (back_to_first first 26 b under (omega arith))

pub placed : (c : Combination) (d : Direction) (timeslot n b : ℕ) (row : Mapping) → timeslot < 8 →
    Contains (mappings c d timeslot) row → b < row.bursts →
    let first = (row.first + row.repeat_length * n) % HYPERFRAME in
    place_of c d timeslot ((first + burst_spacing c * b) % HYPERFRAME) ≡
    Some (record { first = first; position = record { channel = row.channel; subchannel = row.subchannel; burst = b } })
placed BcchCcch d t n b row slot among lt = placed_in_slot BcchCcch d t n b row refl among lt
placed BcchCcchSdcch4 d t n b row slot among lt = placed_in_slot BcchCcchSdcch4 d t n b row refl among lt
placed Sdcch8 d t n b row slot among lt = placed_in_slot Sdcch8 d t n b row refl among lt
placed TchF d t n b row slot among lt = placed_in_traffic TchF d t n b row refl slot among lt
placed TchH d t n b row slot among lt = placed_in_traffic TchH d t n b row refl slot among lt
