-- The marks and bursts of a block among the bursts of a recording, and the numbers of bursts modulo a hyperframe.
use Rattle.{
  std.proofs.Common.{Bool, List, Some, [], ap, arith, drop, false, get_or, inl, inr, length, refl, replicate, set, suc, sym},
  std.proofs.Common.{true, zero, pos, ℕ, ◌&&◌, ◌++◌, ◌%◌, ◌+◌, ◌-◌, ◌/◌, ◌<◌, ◌∙◌, ◌≡◌},
  std.proofs.Common.{◌≢◌, ◌≤◌, ◌∷◌, ◌==◌, ◌⊎◌, if◌then◌else◌},
  std.proofs.lemmas.Bool.{cases_lt, eq-eqb},
  std.proofs.lemmas.Bool.Decides.{eqb_tells, nat_tests},
  std.proofs.lemmas.List.{ext_get_or, get_or-set_other, get_or-set_same, get_or_past, length-set},
  std.proofs.lemmas.List.FromFn.{get_or-map-range_with_len, length-map-range_with_len},
  std.specs.Prelude.{nat_le, nat_lt},
  tdma.specs.Traffic.{facch_bursts, first_facch_burst, number_from, traffic_burst, traffic_frames},
  tdma.specs.declared.TheConstants.HYPERFRAME,
  tdma.specs.declared.channels.Direction.Direction,
  tdma.specs.declared.traffic.TrafficChannel.TrafficChannel,
  um_slot.proofs.Recordings.unlike,
  um_traffic.specs.Receivers.{burst_number, bursts_after, bursts_in_hyperframe, index_in_oldest, none_came},
  um_traffic.specs.Recordings.{Numbered, mark, row_of, rows_of, soft_bits, value_at},
}

-- ## Values by their numbers

pub unequal : {X : Type 0} (a n : ℕ) (x y : X) → a ≢ n → (if a == n then x else y) ≡ y
unequal a n x y apart = rw (unlike a n apart) refl

pub equal : {X : Type 0} (a n : ℕ) (x y : X) → a ≡ n → (if a == n then x else y) ≡ x
equal a n x y is = rw (eq-eqb a n is) refl

pub at_least : {X : Type 0} (a n : ℕ) (x y : X) → a ≤ n → (if nat_le a n then x else y) ≡ x
at_least a n x y le = grind (arith, le)

pub less : {X : Type 0} (a n : ℕ) (x y : X) → n < a → (if nat_le a n then x else y) ≡ y
less a n x y lt = grind (arith, lt)

-- all numbers are greater than one, or at most it
abbrev pub After : (m : ℕ) (bs : List Numbered) → Type 0
After m [] = Unit {0}
After m (b ∷ bs) = (m < b.number) × After m bs

abbrev pub UpTo : (m : ℕ) (bs : List Numbered) → Type 0
UpTo m [] = Unit {0}
UpTo m (b ∷ bs) = (b.number ≤ m) × UpTo m bs

pub later_after : (m n : ℕ) (bs : List Numbered) → n ≤ m → After m bs → After n bs
later_after m n [] le h = tt {0}
later_after m n (b ∷ bs) le h = (omega (arith, h.0, le), later_after m n bs le h.1)

pub up_to_more : (m n : ℕ) (bs : List Numbered) (b : Numbered) → m ≤ n → b.number ≤ n → UpTo m bs → UpTo n (bs ++ b ∷ [])
up_to_more m n [] b le last h = (last, tt {0})
up_to_more m n (x ∷ bs) b le last h = (omega (arith, h.0, le), up_to_more m n bs b le last h.1)

module _ {X : Type 0} (none : X) (value : Numbered → X) where
  abbrev at : List Numbered → ℕ → X
  at bs n = value_at none value bs n

  none_after : (bs : List Numbered) (m n : ℕ) → After m bs → n ≤ m → at bs n ≡ none
  none_after [] m n h le = refl
  none_after (b ∷ bs) m n h le =
      unequal b.number n (value b) (at bs n) (λ e. omega (arith, h.0, le, e)) ∙ none_after bs m n h.1 le

  pub none_past : (bs : List Numbered) (m n : ℕ) → UpTo m bs → m < n → at bs n ≡ none
  none_past [] m n h lt = refl
  none_past (b ∷ bs) m n h lt =
      unequal b.number n (value b) (at bs n) (λ e. omega (arith, h.0, lt, e)) ∙ none_past bs m n h.1 lt

  pub value_append : (bs later : List Numbered) (m n : ℕ) → After m later → n ≤ m → at (bs ++ later) n ≡ at bs n
  value_append [] later m n h le = none_after later m n h le
  value_append (b ∷ bs) later m n h le = ap (λ (y : X). if b.number == n then value b else y) (value_append bs later m n h le)

  pub last_at : (bs : List Numbered) (b : Numbered) (m : ℕ) → UpTo m bs → m < b.number → at (bs ++ b ∷ []) b.number ≡ value b
  last_at [] b m h lt = equal b.number b.number (value b) none refl
  last_at (x ∷ bs) b m h lt =
      unequal x.number b.number (value x) (at (bs ++ b ∷ []) b.number) (λ e. omega (arith, h.0, lt, e)) ∙ last_at bs b m h.1 lt

  other_at : (bs : List Numbered) (b : Numbered) (n : ℕ) → b.number ≢ n → at (bs ++ b ∷ []) n ≡ at bs n
  other_at [] b n apart = unequal b.number n (value b) none apart
  other_at (x ∷ bs) b n apart = ap (λ (y : X). if x.number == n then value x else y) (other_at bs b n apart)

  -- ## Rows of a block

  module _ (c : TrafficChannel) where
    abbrev row : List Numbered → ℕ → ℕ → X
    row bs first i = row_of none value c bs first i

    abbrev rows : List Numbered → ℕ → List X
    rows bs first = rows_of none value c bs first

    pub row_in : (bs : List Numbered) (first i : ℕ) → i < facch_bursts c → row bs first i ≡ at bs (first + i)
    row_in bs first i lt = grind (arith, lt)

    row_out : (bs : List Numbered) (first i : ℕ) → facch_bursts c ≤ i → row bs first i ≡ none
    row_out bs first i ge = grind (arith, ge)

    pub row_at : (bs : List Numbered) (first i : ℕ) → i < 8 → get_or (rows bs first) i none ≡ row bs first i
    row_at bs first i lt = get_or-map-range_with_len (row_of none value c bs first) 0 8 i i none lt (omega arith)

    pub count : (bs : List Numbered) (first : ℕ) → length (rows bs first) ≡ 8
    count bs first = length-map-range_with_len (row_of none value c bs first) 0 8

    pub row_past : (bs : List Numbered) (first i : ℕ) → facch_bursts c ≤ i → get_or (rows bs first) i none ≡ none
    row_past bs first i ge = elim (cases_lt i 8) [
      | inl few ↦ row_at bs first i few ∙ row_out bs first i ge
      | inr far ↦ get_or_past (rows bs first) i none (omega (arith, count bs first, far))
    ]

    pub same_rows : (bs bs' : List Numbered) (first first' : ℕ) →
        ((i : ℕ) → i < facch_bursts c → at bs (first + i) ≡ at bs' (first' + i)) → rows bs first ≡ rows bs' first'
    same_rows bs bs' first first' same =
        ext_get_or none (rows bs first) (rows bs' first') (count bs first ∙ sym (count bs' first')) (λ i lt.
        let few : i < 8 = omega (arith, count bs first, lt) in
        row_at bs first i few
        ∙ elim (cases_lt i (facch_bursts c)) [
          | inl inside ↦ row_in bs first i inside ∙ same i inside ∙ sym (row_in bs' first' i inside)
          | inr past ↦ row_out bs first i past ∙ sym (row_out bs' first' i past)
        ]
        ∙ sym (row_at bs' first' i few))

    -- a burst of the block is put into its row
    pub put_row : (bs : List Numbered) (b : Numbered) (first i m : ℕ) → UpTo m bs → m < b.number → b.number ≡ first + i →
        i < facch_bursts c → i < 8 → set (rows bs first) i (value b) ≡ rows (bs ++ b ∷ []) first
    put_row bs b first i m h lt is inside small =
        let more : List Numbered = bs ++ b ∷ [] in
        ext_get_or none (set (rows bs first) i (value b)) (rows more first)
        (length-set (rows bs first) i (value b) ∙ count bs first ∙ sym (count more first)) (λ k hk.
        let few : k < 8 = omega (arith, length-set (rows bs first) i (value b), count bs first, hk) in
        elim (eqb_tells i k) [
          | inl same ↦
              let here : i < length (rows bs first) = omega (arith, count bs first) in
              let own : at more (first + i) ≡ value b =
              ap (at more) (sym is) ∙ last_at bs b m h lt in
              ap (λ n. get_or (set (rows bs first) i (value b)) n none) (sym same.1)
              ∙ get_or-set_same (rows bs first) i (value b) none here ∙ sym own ∙ sym (row_in more first i inside)
              ∙ ap (row more first) same.1 ∙ sym (row_at more first k few)
          | inr other ↦
              get_or-set_other (rows bs first) i k (value b) none (λ e. other.1 (sym e)) ∙ row_at bs first k few
              ∙ elim (cases_lt k (facch_bursts c)) [
                | inl within ↦
                    row_in bs first k within
                    ∙ sym (other_at bs b (first + k) (λ e. other.1 (omega (arith, e, is))))
                    ∙ sym (row_in more first k within)
                | inr past ↦ row_out bs first k past ∙ sym (row_out more first k past)
              ]
              ∙ sym (row_at more first k few)
        ])

    -- the rows of the next block are the last four, and four without a burst
    shifted : (bs : List Numbered) (first m i : ℕ) → UpTo m bs → m < first + facch_bursts c →
        row bs first (4 + i) ≡ row bs (first + 4) i
    shifted bs first m i h near = elim (cases_lt (4 + i) (facch_bursts c)) [
      | inl inside ↦
          let e : first + (4 + i) ≡ first + 4 + i = omega arith in
          row_in bs first (4 + i) inside ∙ ap (at bs) e ∙ sym (row_in bs (first + 4) i (omega (arith, inside)))
      | inr past ↦
          row_out bs first (4 + i) past
          ∙ sym (elim (cases_lt i (facch_bursts c)) [
            | inl inside ↦
                row_in bs (first + 4) i inside ∙ none_past bs m (first + 4 + i) h (omega (arith, near, past))
            | inr far ↦ row_out bs (first + 4) i far
          ])
    ]

    eight : {a0 a1 a2 a3 a4 a5 a6 a7 b0 b1 b2 b3 b4 b5 b6 b7 : X} → a0 ≡ b0 → a1 ≡ b1 → a2 ≡ b2 → a3 ≡ b3 →
        a4 ≡ b4 → a5 ≡ b5 →
        a6 ≡ b6 → a7 ≡ b7 →
        a0 ∷ a1 ∷ a2 ∷ a3 ∷ a4 ∷ a5 ∷ a6 ∷ a7 ∷ [] ≡ b0 ∷ b1 ∷ b2 ∷ b3 ∷ b4 ∷ b5 ∷ b6 ∷ b7 ∷ []
    eight h0 h1 h2 h3 h4 h5 h6 h7 = cc

    pub moved_rows : (bs : List Numbered) (first m : ℕ) → UpTo m bs → m < first + facch_bursts c → facch_bursts c ≤ 8 →
        drop 4 (rows bs first) ++ replicate 4 none ≡ rows bs (first + 4)
    moved_rows bs first m h near few =
        let past : (i : ℕ) → 4 ≤ i → none ≡ row bs (first + 4) i =
        λ i le. sym (row_out bs first (4 + i) (omega (arith, few, le))) ∙ shifted bs first m i h near in
        eight (shifted bs first m 0 h near) (shifted bs first m 1 h near) (shifted bs first m 2 h near)
        (shifted bs first m 3 h near) (past 4 (omega arith)) (past 5 (omega arith)) (past 6 (omega arith)) (past 7 (omega arith))

    -- a block without a value
    pub empty_rows : (bs : List Numbered) (first : ℕ) → ((i : ℕ) → i < facch_bursts c → at bs (first + i) ≡ none) →
        rows bs first ≡ replicate 8 none
    empty_rows bs first each =
        let none_at : (i : ℕ) → row bs first i ≡ none =
        λ i. elim (cases_lt i (facch_bursts c)) [
          | inl inside ↦ row_in bs first i inside ∙ each i inside
          | inr past ↦ row_out bs first i past
        ] in
        eight (none_at 0) (none_at 1) (none_at 2) (none_at 3) (none_at 4) (none_at 5) (none_at 6) (none_at 7)

-- ## Marks

pub unmarked : (bs : List Numbered) (n : ℕ) → value_at 0 mark bs n ≡ 0 →
    value_at (replicate 148 (pos 0)) soft_bits bs n ≡ replicate 148 (pos 0)
unmarked [] n h = refl
unmarked (b ∷ bs) n h = elim (eqb_tells b.number n) [
  | inl same ↦
      absurd (omega (arith, sym (equal b.number n (mark b) (value_at 0 mark bs n) same.1) ∙ h))
  | inr other ↦
      unequal b.number n b.burst (value_at (replicate 148 (pos 0)) soft_bits bs n) other.1
      ∙ unmarked bs n (sym (unequal b.number n (mark b) (value_at 0 mark bs n) other.1) ∙ h)
]

pub all_zero : (xs : List ℕ) → none_came xs ≡ true → (j : ℕ) → get_or xs j 0 ≡ 0
all_zero [] none j = refl
all_zero (x ∷ xs) none zero = grind (arith, nat_tests, none)
all_zero (x ∷ xs) none (suc j) = all_zero xs (grind (arith, nat_tests, none)) j

pub some_marked : (xs : List ℕ) → none_came xs ≡ false → (j : ℕ) × (get_or xs j 0 ≢ 0)
some_marked [] some = absurd cc
some_marked (x ∷ xs) some = elim (eqb_tells x 0) [
  | inl zeroth ↦
      let rest = some_marked xs (ap (λ (b : Bool). b && none_came xs) (sym zeroth.0) ∙ some) in (suc rest.0, rest.1)
  | inr other ↦ (0, other.1)
]

-- ## Numbers

pub few_bursts : (c : TrafficChannel) → (4 ≤ facch_bursts c) × (facch_bursts c ≤ 8)
few_bursts c = grind arith

pub index_is : (c : TrafficChannel) (first n : ℕ) → first ≤ n → n < first + bursts_in_hyperframe c →
    bursts_after c (first % bursts_in_hyperframe c) (n % bursts_in_hyperframe c) ≡ n - first
index_is c first n le lt = grind arith

pub far_enough : (c : TrafficChannel) (last n first : ℕ) → n ≤ last + bursts_in_hyperframe c / 2 → last < first + facch_bursts c →
    n < first + bursts_in_hyperframe c
far_enough c last n first near lt = grind arith

pub within_total : (c : TrafficChannel) → facch_bursts c < bursts_in_hyperframe c
within_total c = grind arith

pub is_first : (c : TrafficChannel) (n : ℕ) → n % bursts_in_hyperframe c ≢ HYPERFRAME
is_first c n e = grind arith

pub next_first : (c : TrafficChannel) (n : ℕ) →
    (n % bursts_in_hyperframe c + 4) % bursts_in_hyperframe c ≡ (n + 4) % bursts_in_hyperframe c
next_first c n = grind arith

-- the oldest block that a burst carries a half of
pub record IsOldest (c : TrafficChannel) (d : Direction) (n index : ℕ) : Type 0 where
  pub inside : index < facch_bursts c
  pub enough : index ≤ n
  pub first :
      (n % bursts_in_hyperframe c + bursts_in_hyperframe c - index) % bursts_in_hyperframe c ≡ (n - index) % bursts_in_hyperframe c
  pub begins : (n - index) % 4 ≡ first_facch_burst c d
  pub oldest : (m : ℕ) → m < n - index → m % 4 ≡ first_facch_burst c d → m + facch_bursts c ≤ n

abbrev since : (c : TrafficChannel) (d : Direction) (n : ℕ) → ℕ
since c d n = (n % bursts_in_hyperframe c + 4 - first_facch_burst c d) % 4

abbrev chosen_index : (c : TrafficChannel) (since : ℕ) → ℕ
chosen_index c since = if nat_lt (since + 4) (facch_bursts c) then since + 4 else since

chosen_cases : (c : TrafficChannel) (s i : ℕ) → i ≡ chosen_index c s →
    ((s + 4 < facch_bursts c) × (i ≡ s + 4)) ⊎ ((facch_bursts c ≤ s + 4) × (i ≡ s))
chosen_cases c s i is = elim (cases_lt (s + 4) (facch_bursts c)) [
  | inl lt ↦ inl (lt, grind (arith, is, lt))
  | inr ge ↦ inr (ge, grind (arith, is, ge))
]

old_enough : (c : TrafficChannel) (d : Direction) (n i : ℕ) → 8 ≤ n →
    ((since c d n + 4 < facch_bursts c) × (i ≡ since c d n + 4)) ⊎ ((facch_bursts c ≤ since c d n + 4) × (i ≡ since c d n)) →
    IsOldest c d n i
old_enough c d n i late h = record {
  inside = grind (arith, h);
  enough = grind (arith, h);
  first = grind (arith, h);
  begins = grind (arith, h);
  oldest = λ m lt is. grind (arith, h, lt, is);
}

pub oldest_is : (c : TrafficChannel) (d : Direction) (n : ℕ) → 8 ≤ n →
    IsOldest c d n (index_in_oldest c d (n % bursts_in_hyperframe c))
oldest_is c d n late =
    old_enough c d n (index_in_oldest c d (n % bursts_in_hyperframe c)) late
    (chosen_cases c (since c d n) (index_in_oldest c d (n % bursts_in_hyperframe c)) refl)

number_below : (n frame : ℕ) (fs : List ℕ) (k : ℕ) → number_from n frame fs ≡ Some k → k < n + length fs
number_below n frame [] k e = absurd cc
number_below n frame (f ∷ fs) k e = elim (eqb_tells f frame) [
  | inl same ↦
      let is : Some n ≡ Some k = sym (equal f frame (Some n) (number_from (suc n) frame fs) same.1) ∙ e in
      let own : n ≡ k = cc in omega (arith, own)
  | inr other ↦
      omega (arith, number_below (suc n) frame fs k (sym (unequal f frame (Some n) (number_from (suc n) frame fs) other.1) ∙ e))
]

wraps : (c : TrafficChannel) (t b : ℕ) → b < length (traffic_frames c) →
    burst_number c (t % HYPERFRAME) b ≡ burst_number c t b % bursts_in_hyperframe c
wraps c t b lt = grind arith

pub number_is : (c : TrafficChannel) (t b : ℕ) → traffic_burst c (t % HYPERFRAME) ≡ Some b →
    burst_number c (t % HYPERFRAME) b ≡ burst_number c t b % bursts_in_hyperframe c
number_is c t b e =
    wraps c t b (omega (arith, number_below 0 (t % HYPERFRAME % 26) (traffic_frames c) b e))
