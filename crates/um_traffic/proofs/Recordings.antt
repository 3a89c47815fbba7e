-- Each block of FACCH of which a burst came or was missed is reported once: the state between calls is that of the block that is collected.
use Rattle.{
  std.proofs.Common.{Bool, List, None, Ok, Option, Some, [], ap, arith, drop, false, get_or, inl, inr, refl, replicate, set, subst, sym},
  std.proofs.Common.{true, pos, ℕ, ℤ, ◌++◌, ◌%◌, ◌+◌, ◌-◌, ◌/◌, ◌<◌, ◌∙◌, ◌≡◌, ◌≢◌},
  std.proofs.Common.{◌≤◌, ◌∷◌, ◌==◌, ◌⊎◌, if◌then◌else◌},
  std.proofs.lemmas.Bool.cases_lt,
  std.proofs.lemmas.Bool.Decides.eqb_tells,
  std.proofs.lemmas.List.{append-nil, append_assoc, get_or-drop},
  tdma.specs.Traffic.{facch_bursts, facch_that_begins, facch_that_ends, traffic_burst, traffic_place_at, traffic_place_of},
  tdma.specs.declared.TheConstants.HYPERFRAME,
  tdma.specs.declared.channels.Direction.Direction,
  tdma.specs.declared.traffic.TrafficChannel.TrafficChannel,
  um_slot.proofs.Recordings.{is_set as is_set_slot},
  um_slot.specs.Numbers.{direction_of, traffic_channel_of},
  um_slot.specs.Recordings.Frame,
  um_slot.specs.Slots.{frame_refusal, settings_of},
  um_slot.specs.declared.settings.Settings.Settings,
  um_slot.specs.declared.slots.Refusal.Refusal,
  um_slot.specs.declared.slots.Slot.Slot,
  um_traffic.proofs.Blocks.{After, IsOldest, UpTo, all_zero, at_least, empty_rows, equal, few_bursts, index_is, is_first, last_at},
  um_traffic.proofs.Blocks.{later_after, less, moved_rows, next_first, none_past, number_is, oldest_is, put_row, row_at, row_in},
  um_traffic.proofs.Blocks.{row_past, same_rows, some_marked, far_enough, unequal, unmarked, up_to_more, value_append, within_total},
  um_traffic.proofs.Carried.{chosen, same_inside, same_settings},
  um_traffic.specs.Receivers.{EndsWith, Step, TakesAt, TakesWith, begun, burst_number, bursts_after, bursts_in_hyperframe, collecting},
  um_traffic.specs.Receivers.{end_block, ended_with, finished_facch, heard_bursts, index_in_oldest, is_in_range, moved},
  um_traffic.specs.Receivers.{new_traffic, none_came, put_burst, settings_if_valid, take_burst, traffic_settings_of, with_burst},
  um_traffic.specs.Recordings.{AreReportsOf, Begins, Follow, Hears, HearsEnd, HearsEnds, HearsOne, IsCarried, Numbered, Report},
  um_traffic.specs.Recordings.{bursts_of, frames_left, mark, marks_of, numbered, reports_of, soft_bits, value_at},
  um_traffic.specs.declared.receivers.FinishedFacch.FinishedFacch,
  um_traffic.specs.declared.receivers.Heard.Heard,
  um_traffic.specs.declared.receivers.Heard.TheVariants.{Earlier, Finished, Taken},
  um_traffic.specs.declared.receivers.Traffic.Traffic,
  um_traffic.specs.declared.settings.TrafficSettings.TrafficSettings,
}

-- ## Settings

abbrev Has : (st : TrafficSettings) (x : Traffic) → Type 0
Has st x = (traffic_channel_of x.channel ≡ Some st.channel) × (direction_of x.sacch.direction ≡ Some st.direction)

has_if : (x : Traffic) (s : Option Settings) (c : Option TrafficChannel) (st : TrafficSettings) →
    ((t : Settings) → s ≡ Some t → direction_of x.sacch.direction ≡ Some t.direction) → settings_if_valid x s c ≡ Some st →
    (c ≡ Some st.channel) × (direction_of x.sacch.direction ≡ Some st.direction)
has_if x (Some s) (Some c) st own e =
    let (channel, direction) = chosen (is_in_range c s.direction x) c s.direction st e in
    (ap Some channel, own s refl ∙ ap Some direction)
has_if x s c st own e = absurd cc

has : (x : Traffic) (st : TrafficSettings) → traffic_settings_of x ≡ Some st → Has st x
has x st e =
    has_if x (settings_of x.sacch) (traffic_channel_of x.channel) st (λ t is. (is_set_slot x.sacch t is).1) e

same_set : (x : Traffic) (st st' : TrafficSettings) → Has st x → traffic_settings_of x ≡ Some st' → st' ≡ st
same_set x st st' set e =
    let own = has x st' e in
    same_settings st' st (same_inside st'.channel st.channel (sym own.0 ∙ set.0))
    (same_inside st'.direction st.direction (sym own.1 ∙ set.1))

-- ## Calls that are not refused

took : (settings : Option TrafficSettings) (refusal : Option Refusal) (old : Traffic) (frame came : ℕ) (burst : List ℤ)
    (answer : Option Heard) (new : Traffic) → TakesWith settings refusal old frame came burst (Ok answer) new →
    (st : TrafficSettings) × (settings ≡ Some st)
    × TakesAt st (traffic_place_of st.channel st.direction frame) old frame came burst (Ok answer) new
took (Some st) None old frame came burst answer new h = (st, refl, h)
took settings refusal old frame came burst answer new h = absurd cc

took_end : (settings : Option TrafficSettings) (old : Traffic) (answer : Heard) (new : Traffic) →
    EndsWith settings old (Ok answer) new →
    (st : TrafficSettings) × (settings ≡ Some st) × (answer ≡ (end_block st.channel (collecting st.channel old)).heard)
    × (new ≡ (end_block st.channel (collecting st.channel old)).traffic)
took_end None old answer new h = absurd cc
took_end (Some st) old answer new h = (st, refl, cc, h.1)

-- ## States

abbrev silent : List ℤ
silent = replicate 148 (pos 0)

module _ (st : TrafficSettings) where
  abbrev c : TrafficChannel
  c = st.channel

  abbrev d : Direction
  d = st.direction

  abbrev total : ℕ
  total = bursts_in_hyperframe c

  abbrev most : ℕ
  most = facch_bursts c

  -- between `low` and `first` no block has a burst among these, nor any that is later than `last`
  abbrev Apart : (low first last : ℕ) (bs : List Numbered) → Type 0
  Apart low first last bs =
      (n : ℕ) → low < n → n < first → Begins st n → (IsCarried c bs n → ⊥) × (n + most ≤ last)

  -- these are the bursts of the block that begins with burst number `first`
  record Holds (first : ℕ) (bs : List Numbered) (number : ℕ) (came : List ℕ) (bursts : List (List ℤ)) : Type 0 where
    begins : Begins st first
    is_first : number ≡ first % total
    came_are : came ≡ marks_of c bs first
    bursts_are : bursts ≡ bursts_of c bs first

  -- the receiver collects no block: none after `low` has a burst. All bursts that come have greater numbers than `floor`
  record Idle (low floor : ℕ) (bs : List Numbered) (number ended : ℕ) (came : List ℕ) (bursts : List (List ℤ)) : Type 0 where
    none : number ≡ HYPERFRAME
    going : ended ≡ 0
    none_came : came ≡ replicate 8 0
    no_bursts : bursts ≡ replicate 8 silent
    empty : (n : ℕ) → low < n → Begins st n → IsCarried c bs n → ⊥
    past : low + most ≤ floor + 1

  record Collecting (low last : ℕ) (bs : List Numbered) (number ended : ℕ) (came : List ℕ) (bursts : List (List ℤ)) : Type 0 where
    first : ℕ
    going : ended ≡ 0
    holds : Holds first bs number came bursts
    lower : low < first
    reached : first ≤ last
    near : last < first + most
    carried : IsCarried c bs first
    apart : Apart low first last bs

  record Ended (low last floor : ℕ) (bs : List Numbered) (number ended : ℕ) (came : List ℕ) (bursts : List (List ℤ)) : Type 0 where
    ended_is : ended ≢ 0
    holds : Holds low bs number came bursts
    reached : low ≤ last
    near : last < low + most
    past : low + most ≤ floor + 1

  abbrev Going : (low last floor : ℕ) (bs : List Numbered) (x : Traffic) → Type 0
  Going low last floor bs x =
      Has st x × (Idle low floor bs x.first x.ended x.came x.bursts ⊎ Collecting low last bs x.first x.ended x.came x.bursts)

  abbrev HasEnded : (low last floor : ℕ) (bs : List Numbered) (x : Traffic) → Type 0
  HasEnded low last floor bs x = Has st x × Ended low last floor bs x.first x.ended x.came x.bursts

  abbrev State : (low last floor : ℕ) (bs : List Numbered) (x : Traffic) → Type 0
  State low last floor bs x = Going low last floor bs x ⊎ HasEnded low last floor bs x

  -- ## Reports

  abbrev report_of : FinishedFacch → Traffic → Report
  report_of f x = record { finished = f; bursts = x.bursts }

  not_carried : (bs later : List Numbered) (m n : ℕ) → After m later → n + most ≤ m + 1 → (IsCarried c bs n → ⊥) →
      IsCarried c (bs ++ later) n →
      ⊥
  not_carried bs later m n after le none is =
      none (is.0, is.1, λ e. is.2 (value_append 0 mark bs later m (n + is.0) after (omega (arith, is.1, le)) ∙ e))

  still_carried : (bs later : List Numbered) (m n : ℕ) → After m later → n + most ≤ m + 1 → IsCarried c bs n →
      IsCarried c (bs ++ later) n
  still_carried bs later m n after le is =
      (is.0, is.1, λ e. is.2 (sym (value_append 0 mark bs later m (n + is.0) after (omega (arith, is.1, le))) ∙ e))

  regrouped : {xs ys : List Numbered} (low : ℕ) (rs : List Report) → xs ≡ ys → AreReportsOf st xs low rs →
      AreReportsOf st ys low rs
  regrouped low rs same h = subst (λ xs. AreReportsOf st xs low rs) same h

  -- the block that ends is reported, with those after it
  more : (low first m : ℕ) (bs later : List Numbered) (x y : Traffic) (f : FinishedFacch) (rs : List Report) →
      Holds first bs x.first x.came x.bursts → f ≡ finished_facch c x → y.bursts ≡ x.bursts → low < first → After m later →
      first + most ≤ m + 1 →
      IsCarried c (bs ++ later) first →
      ((n : ℕ) → low < n → n < first → Begins st n → IsCarried c (bs ++ later) n → ⊥) →
      AreReportsOf st (bs ++ later) first rs → AreReportsOf st (bs ++ later) low (report_of f y ∷ rs)
  more low first m bs later x y f rs h is own lower after le carried apart rest =
      let same : (i : ℕ) → i < most → value_at 0 mark bs (first + i) ≡ value_at 0 mark (bs ++ later) (first + i) =
      λ i lt. sym (value_append 0 mark bs later m (first + i) after (omega (arith, lt, le))) in
      let same' : (i : ℕ) → i < most →
      value_at silent soft_bits bs (first + i) ≡ value_at silent soft_bits (bs ++ later) (first + i) =
      λ i lt. sym (value_append silent soft_bits bs later m (first + i) after (omega (arith, lt, le))) in (
        first,
        record { after = lower; begins = h.begins; carried = carried; none_between = apart },
        record {
          channel = rw is refl;
          first_frame = rw (is, h.is_first) refl;
          heard = rw is (ap heard_bursts (h.came_are ∙ same_rows 0 mark c bs (bs ++ later) first first same));
          soft = rw (own, h.bursts_are) (same_rows silent soft_bits c bs (bs ++ later) first first same');
        },
        rest,
      )

  -- ## After a block that was finished

  module _ (low last floor : ℕ) (bs : List Numbered) (x : Traffic) (up : UpTo last bs) (fits : Has st x)
      (e : Ended low last floor bs x.first x.ended x.came x.bursts) where
    marks_next : drop 4 x.came ++ replicate 4 0 ≡ marks_of c bs (low + 4)
    marks_next = rw e.holds.came_are (moved_rows 0 mark c bs low last up e.near (few_bursts c).1)

    bursts_next : drop 4 x.bursts ++ replicate 4 silent ≡ bursts_of c bs (low + 4)
    bursts_next = rw e.holds.bursts_are (moved_rows silent soft_bits c bs low last up e.near (few_bursts c).1)

    mark_at : (j : ℕ) → get_or (drop 4 x.came) j 0 ≡ get_or (marks_of c bs low) (4 + j) 0
    mark_at j = rw (← e.holds.came_are) (get_or-drop 4 x.came j 0)

    next_begins : Begins st (low + 4)
    next_begins = let b = e.holds.begins in omega (arith, b)

    unmarked_from : none_came (drop 4 x.came) ≡ true → (n : ℕ) → low + 4 ≤ n → value_at 0 mark bs n ≡ 0
    unmarked_from none n le = elim (cases_lt last n) [
      | inl past ↦ none_past 0 mark bs last n up past
      | inr within ↦
          let j : ℕ = n - (low + 4) in
          let few = few_bursts c in
          let inside : 4 + j < most = omega (arith, within, e.near, le) in
          let is : low + (4 + j) ≡ n = omega (arith, le) in
          ap (value_at 0 mark bs) (sym is) ∙ sym (row_in 0 mark c bs low (4 + j) inside)
          ∙ sym (row_at 0 mark c bs low (4 + j) (omega (arith, inside, few.1)))
          ∙ sym (mark_at j) ∙ all_zero (drop 4 x.came) none j
    ]

    moved_by : (b : Bool) → none_came (drop 4 x.came) ≡ b →
        Going low last floor bs (record x {
          first = if b then HYPERFRAME else (x.first + 4) % total;
          ended = 0;
          came = drop 4 x.came ++ replicate 4 0;
          bursts = drop 4 x.bursts ++ replicate 4 silent;
        })
    moved_by true none =
        let zero_at = unmarked_from none in (
          fits,
          inl (record {
            none = refl;
            going = refl;
            none_came = marks_next ∙ empty_rows 0 mark c bs (low + 4) (λ i lt. zero_at (low + 4 + i) (omega arith));
            no_bursts =
                bursts_next
                ∙ empty_rows silent soft_bits c bs (low + 4)
                (λ i lt. unmarked bs (low + 4 + i) (zero_at (low + 4 + i) (omega arith)));
            empty = λ n lt begins is.
                let b = e.holds.begins in
                let le : low + 4 ≤ n = omega (arith, b, begins, lt) in is.2 (zero_at (n + is.0) (omega (arith, le)));
            past = e.past;
          }),
        )
    moved_by false some =
        let found = some_marked (drop 4 x.came) some in
        let j : ℕ = found.0 in
        let carried = next_carried j found.1 in (
          fits,
          inr (record {
            first = low + 4;
            going = refl;
            holds = record {
              begins = next_begins;
              is_first = rw e.holds.is_first (next_first c low);
              came_are = marks_next;
              bursts_are = bursts_next;
            };
            lower = omega arith;
            reached = carried.1;
            near = let h = e.near in omega (arith, h);
            carried = carried.0;
            apart = λ n lt gt begins. let b = e.holds.begins in absurd (omega (arith, b, begins, lt, gt));
          }),
        )
      where
        next_carried : (j : ℕ) → get_or (drop 4 x.came) j 0 ≢ 0 → IsCarried c bs (low + 4) × (low + 4 ≤ last)
        next_carried j apart =
            let own : get_or (drop 4 x.came) j 0 ≡ get_or (marks_of c bs low) (4 + j) 0 = mark_at j in
            elim (cases_lt (4 + j) most) [
              | inr past ↦ absurd (apart (own ∙ row_past 0 mark c bs low (4 + j) past))
              | inl inside ↦
                  let n : ℕ = low + 4 + j in
                  let few = few_bursts c in
                  let same : low + (4 + j) ≡ n = omega arith in
                  let is : get_or (drop 4 x.came) j 0 ≡ value_at 0 mark bs n =
                  own ∙ row_at 0 mark c bs low (4 + j) (omega (arith, inside, few.1)) ∙ row_in 0 mark c bs low (4 + j) inside
                  ∙ ap (value_at 0 mark bs) same in
                  let some : value_at 0 mark bs n ≢ 0 = λ z. apart (is ∙ z) in
                  elim (cases_lt last n) [
                    | inl beyond ↦ absurd (some (none_past 0 mark bs last n up beyond))
                    | inr within ↦ ((j, omega (arith, inside), some), omega (arith, within))
                  ]
            ]

  -- a block that was finished is left: the next one is collected
  going_on : (low last floor : ℕ) (bs : List Numbered) (x : Traffic) → UpTo last bs → State low last floor bs x →
      Going low last floor bs (collecting c x)
  going_on low last floor bs x up (inl (fits, inl idle)) = rw (equal x.ended 0 x (moved c x) idle.going) (fits, inl idle)
  going_on low last floor bs x up (inl (fits, inr on)) = rw (equal x.ended 0 x (moved c x) on.going) (fits, inr on)
  going_on low last floor bs x up (inr (fits, e)) =
      rw (unequal x.ended 0 x (moved c x) e.ended_is) (moved_by low last floor bs x up fits e (none_came (drop 4 x.came)) refl)

  -- ## Ready: the block of burst number `n`, or an earlier one, is collected

  record Ready (low last n : ℕ) (bs : List Numbered) (x : Traffic) : Type 0 where
    fits : Has st x
    first : ℕ
    going : x.ended ≡ 0
    holds : Holds first bs x.first x.came x.bursts
    lower : low < first
    reached : first ≤ n
    below : n < first + total
    apart : Apart low first n bs
    full : first + most ≤ n → IsCarried c bs first × (first ≤ last) × (last < first + most)

  -- a block that has no burst has no mark
  none_marked : (bs : List Numbered) (first i : ℕ) → (IsCarried c bs first → ⊥) → i < most →
      value_at 0 mark bs (first + i) ≡ 0
  none_marked bs first i none lt = elim (eqb_tells (value_at 0 mark bs (first + i)) 0) [
    | inl is ↦ is.1
    | inr some ↦ absurd (none (i, lt, some.1))
  ]

  ready : (low last floor n : ℕ) (bs : List Numbered) (x : Traffic) → UpTo last bs → 8 ≤ last → last < n → floor < n →
      n ≤ last + total / 2 → Going low last floor bs x → Ready low last n bs (begun c d (n % total) x)
  ready low last floor n bs x up late lt over near (fits, inr on) =
      let other : x.first ≢ HYPERFRAME = λ e. is_first c on.first (sym on.holds.is_first ∙ e) in
      rw (unequal x.first HYPERFRAME (record x { first = (n % total + total - index_in_oldest c d (n % total)) % total }) x other)
      (record {
        fits = fits;
        first = on.first;
        going = on.going;
        holds = on.holds;
        lower = on.lower;
        reached = let h = on.reached in omega (arith, h, lt);
        below = far_enough c last n on.first near on.near;
        apart = λ m gt le begins. let own = on.apart m gt le begins in (own.0, omega (arith, own.1, lt));
        full = λ h. (on.carried, on.reached, on.near);
      })
  ready low last floor n bs x up late lt over near (fits, inl idle) =
      let index : ℕ = index_in_oldest c d (n % total) in
      let old : IsOldest c d n index = oldest_is c d n (omega (arith, late, lt)) in
      let made : Traffic = record x { first = (n % total + total - index) % total } in
      let small = within_total c in
      let inside = old.inside in
      let enough = old.enough in
      let past = idle.past in
      let lower : low < n - index = omega (arith, inside, enough, past, over) in
      let none = idle.empty (n - index) lower old.begins in
      let marks = none_marked bs (n - index) in
      rw (equal x.first HYPERFRAME made x idle.none) (record {
        fits = fits;
        first = n - index;
        going = idle.going;
        holds = record {
          begins = old.begins;
          is_first = old.first;
          came_are = idle.none_came ∙ sym (empty_rows 0 mark c bs (n - index) (λ i few. marks i none few));
          bursts_are =
              idle.no_bursts
              ∙ sym (empty_rows silent soft_bits c bs (n - index) (λ i few. unmarked bs (n - index + i) (marks i none few)));
        };
        lower = lower;
        reached = omega arith;
        below = omega (arith, small, inside, enough);
        apart = λ m gt le begins. (idle.empty m gt begins, old.oldest m le begins);
        full = λ h. absurd (omega (arith, h, inside, enough));
      })

  -- ## A burst is put into the block

  module _ (low last : ℕ) (bs later : List Numbered) (b : Numbered) (frame : ℕ) (x : Traffic) (up : UpTo last bs) (lt : last < b.number)
      (after : After b.number later) (r : Ready low last b.number bs x) where
    abbrev n : ℕ
    n = b.number

    abbrev index : ℕ
    index = n - r.first

    abbrev every : List Numbered
    every = bs ++ b ∷ later

    abbrev here : List Numbered
    here = bs ++ b ∷ []

    abbrev taken : Traffic
    taken = with_burst index b.came b.burst (record x { sacch = record x.sacch { last = frame } })

    from_here : After (n - 1) (b ∷ later)
    from_here = (omega (arith, lt), later_after n (n - 1) later (omega arith) after)

    none_between : (m : ℕ) → low < m → m < r.first → Begins st m → IsCarried c every m → ⊥
    none_between m gt le begins is =
        let own = r.apart m gt le begins in not_carried bs (b ∷ later) (n - 1) m from_here (omega (arith, own.1)) own.0 is

    -- what an answer reports goes before the reports of the blocks after it
    abbrev Reports : (f : FinishedFacch) (new : Traffic) → Type 0
    Reports f new =
        (rs : List Report) → AreReportsOf st every r.first rs → AreReportsOf st every low (report_of f new ∷ rs)

    abbrev Outcome : Step → Type 0
    Outcome s =
        ((s.heard ≡ Taken) × State low n n here s.traffic)
        ⊎ (((f : FinishedFacch) × (s.heard ≡ Finished f) × State r.first n n here s.traffic × Reports f s.traffic)
        ⊎ ((f : FinishedFacch) × (s.heard ≡ Earlier f) × State r.first last (n - 1) bs s.traffic × Reports f s.traffic))

    module _ (inside : index < most) where
      here_is : n ≡ r.first + index
      here_is = let h = r.reached in omega (arith, h)

      holds_taken : Holds r.first here taken.first taken.came taken.bursts
      holds_taken =
          let few = few_bursts c in
          record {
            begins = r.holds.begins;
            is_first = r.holds.is_first;
            came_are =
                rw r.holds.came_are (put_row 0 mark c bs b r.first index last up lt here_is inside (omega (arith, inside, few.1)));
            bursts_are =
                rw r.holds.bursts_are
                (put_row silent soft_bits c bs b r.first index last up lt here_is inside (omega (arith, inside, few.1)));
          }

      marked : (rest : List Numbered) → After n rest → value_at 0 mark (here ++ rest) (r.first + index) ≢ 0
      marked rest gt e =
          let same : value_at 0 mark here n ≡ b.came + 1 = last_at 0 mark bs b last up lt in
          let all : value_at 0 mark (here ++ rest) n ≡ value_at 0 mark here n =
          value_append 0 mark here rest n n gt (omega arith) in
          let zeroth : value_at 0 mark (here ++ rest) n ≡ 0 = ap (value_at 0 mark (here ++ rest)) here_is ∙ e in
          omega (arith, same, all, zeroth)

      still_apart : Apart low r.first n here
      still_apart m gt le begins =
          let own = r.apart m gt le begins in
          (λ is. not_carried bs (b ∷ []) (n - 1) m (omega (arith, lt), tt {0}) (omega (arith, own.1)) own.0 is, own.1)

      taken_only : State low n n here taken
      taken_only = inl (
        r.fits,
        inr (record {
          first = r.first;
          going = r.going;
          holds = holds_taken;
          lower = r.lower;
          reached = r.reached;
          near = omega (arith, here_is, inside);
          carried = (index, inside, rw (append-nil here) at (marked [] (tt {0})));
          apart = still_apart;
        }),
      )

      finished : index + 1 ≡ most → Outcome (ended_with Finished c taken)
      finished last_one =
          let regroup : here ++ later ≡ every = append_assoc bs (b ∷ []) later in
          inr (inl (
            finished_facch c taken,
            refl,
            inr (
              r.fits,
              record {
                ended_is = λ e. omega (arith, e);
                holds = holds_taken;
                reached = r.reached;
                near = omega (arith, here_is, inside);
                past = omega (arith, here_is, last_one);
              },
            ),
            λ rs rest. regrouped low (report_of (finished_facch c taken) taken ∷ rs) regroup
                (more low r.first n here later taken taken (finished_facch c taken) rs holds_taken refl refl r.lower after
                (omega (arith, here_is, last_one)) (index, inside, marked later after) (rw regroup none_between)
                (regrouped r.first rs (sym regroup) rest)),
          ))

    earlier : most ≤ index → Outcome (ended_with Earlier c x)
    earlier past =
        let h = r.reached in
        let all = r.full (omega (arith, past, h)) in
        inr (inr (
          finished_facch c x,
          refl,
          inr (
            r.fits,
            record {
              ended_is = λ e. omega (arith, e);
              holds = r.holds;
              reached = all.1;
              near = all.2;
              past = omega (arith, past, h, lt);
            },
          ),
          λ rs rest. more low r.first (n - 1) bs (b ∷ later) x x (finished_facch c x) rs r.holds refl refl r.lower from_here
              (omega (arith, past, h, lt))
              (still_carried bs (b ∷ later) (n - 1) r.first from_here (omega (arith, past, h, lt)) all.0) none_between rest,
        ))

    put : Outcome (put_burst c index frame b.came b.burst x)
    put =
        let goes : Step = record { traffic = taken; heard = Taken } in
        let on : Step = if index + 1 == most then ended_with Finished c taken else goes in
        elim (cases_lt index most) [
          | inr past ↦ rw (at_least most index (ended_with Earlier c x) on past) (earlier past)
          | inl inside ↦ rw (less most index (ended_with Earlier c x) on inside) (elim (eqb_tells (index + 1) most) [
            | inl last_one ↦ rw (equal (index + 1) most (ended_with Finished c taken) goes last_one.1) (finished inside last_one.1)
            | inr other ↦ rw (unequal (index + 1) most (ended_with Finished c taken) goes other.1) (inl (refl, taken_only inside))
          ])
        ]

  -- ## Calls

  -- what goes on with this state and these frames is reported
  abbrev Continues : (every : List Numbered) (answer : Option Heard) (f : Frame) (fs : List Frame) (mid : Traffic)
      (rs : List Report) → Type 0
  Continues every a f fs mid rs =
      (low last floor : ℕ) (bs : List Numbered) → UpTo last bs → 8 ≤ last → State low last floor bs mid →
      Follow c last (numbered c (frames_left a f fs)) → After floor (numbered c (frames_left a f fs)) →
      bs ++ numbered c (frames_left a f fs) ≡ every → AreReportsOf st every low rs

  abbrev Gives : (every : List Numbered) (answer : Option Heard) (f : Frame) (fs : List Frame) (mid : Traffic) (rs : List Report)
      (low : ℕ) → Type 0
  Gives every a f fs mid rs low = Continues every a f fs mid rs → AreReportsOf st every low (reports_of a mid.bursts ++ rs)

  follows_after : (last : ℕ) (bs : List Numbered) → Follow c last bs → After last bs
  follows_after last [] h = tt {0}
  follows_after last (b ∷ bs) h = (h.0, later_after b.number last bs (omega (arith, h.0)) (follows_after b.number bs h.2))

  module _ (f : Frame) (fs : List Frame) (low last floor : ℕ) (bs : List Numbered) (x : Traffic) (rs : List Report)
      (up : UpTo last bs) (late : 8 ≤ last) (state : State low last floor bs x) (follow : Follow c last (numbered c (f ∷ fs)))
      (after : After floor (numbered c (f ∷ fs))) where
    abbrev frame : ℕ
    frame = f.time % HYPERFRAME

    abbrev all : List Numbered
    all = bs ++ numbered c (f ∷ fs)

    module _ (k : ℕ) (is : traffic_burst c frame ≡ Some k) where
      abbrev own : Numbered
      own = record { number = burst_number c f.time k; came = f.came; burst = f.burst }

      abbrev step : Step
      step = take_burst c d (burst_number c frame k) frame f.came f.burst x

      numbers : numbered c (f ∷ fs) ≡ own ∷ numbered c fs
      numbers = rw is refl

      follow' : Follow c last (own ∷ numbered c fs)
      follow' = rw numbers at follow

      after' : After floor (own ∷ numbered c fs)
      after' = rw numbers at after

      abbrev begun_at : ℕ → Traffic
      begun_at n = begun c d n (collecting c x)

      ready_here : Ready low last own.number bs (begun_at (own.number % total))
      ready_here =
          ready low last floor own.number bs (collecting c x) up late follow'.0 after'.0 follow'.1 (going_on low last floor bs x up state)

      outcome : Outcome low last bs (numbered c fs) own frame (begun_at (own.number % total)) up follow'.0
          (follows_after own.number (numbered c fs) follow'.2) ready_here step
      outcome =
          let r = ready_here in
          let y : Traffic = begun_at (own.number % total) in
          let at : bursts_after c y.first (own.number % total) ≡ own.number - r.first =
          ap (λ n. bursts_after c n (own.number % total)) r.holds.is_first ∙ index_is c r.first own.number r.reached r.below in
          let made : step ≡ put_burst c (own.number - r.first) frame f.came f.burst y =
          ap (λ n. put_burst c (bursts_after c (begun_at n).first n) frame f.came f.burst (begun_at n)) (number_is c f.time k is)
          ∙ ap (λ n. put_burst c n frame f.came f.burst y) at in
          subst (Outcome low last bs (numbered c fs) own frame y up follow'.0
          (follows_after own.number (numbered c fs) follow'.2) r) (sym made)
          (put low last bs (numbered c fs) own frame y up follow'.0 (follows_after own.number (numbered c fs) follow'.2) r)

      every_is : bs ++ own ∷ numbered c fs ≡ all
      every_is = rw numbers refl

      here_is_all : (bs ++ own ∷ []) ++ numbered c fs ≡ all
      here_is_all = append_assoc bs (own ∷ []) (numbered c fs) ∙ every_is

      up' : UpTo own.number (bs ++ own ∷ [])
      up' = up_to_more last own.number bs own (omega (arith, follow'.0)) (omega arith) up

      gives_burst : Gives all (Some step.heard) f fs step.traffic rs low
      gives_burst = elim outcome [
        | inl taken ↦
            rw taken.0 (λ go. go low own.number own.number (bs ++ own ∷ []) up' (omega (arith, late, follow'.0)) taken.1 follow'.2
            (follows_after own.number (numbered c fs) follow'.2) here_is_all)
        | inr (inl finished) ↦
            rw finished.1 (λ go. regrouped low (report_of finished.0 step.traffic ∷ rs) every_is
            (finished.3 rs (regrouped ready_here.first rs (sym every_is)
            (go ready_here.first own.number own.number (bs ++ own ∷ []) up' (omega (arith, late, follow'.0)) finished.2 follow'.2
            (follows_after own.number (numbered c fs) follow'.2) here_is_all))))
        | inr (inr earlier) ↦
            rw earlier.1 (λ go. regrouped low (report_of earlier.0 step.traffic ∷ rs) every_is
            (earlier.3 rs (regrouped ready_here.first rs (sym every_is)
            (go ready_here.first last (own.number - 1) bs up late earlier.2 follow (rw numbers (
              omega (arith, follow'.0),
              later_after own.number (own.number - 1) (numbered c fs) (omega arith)
                  (follows_after own.number (numbered c fs) follow'.2),
            )) refl))))
      ]

    by_burst : (o : Option ℕ) (answer : Option Heard) (new : Traffic) → traffic_burst c frame ≡ o →
        TakesAt st (traffic_place_at (facch_that_begins c d frame) (facch_that_ends c d frame) o) x frame f.came f.burst (Ok answer) new →
        Gives all answer f fs new rs low
    by_burst None answer new is takes =
        let same : answer ≡ None = let e = takes.0 in cc in
        let numbers : numbered c (f ∷ fs) ≡ numbered c fs = rw is refl in
        rw (same, takes.1) (λ go. go low last floor bs up late state (rw numbers at follow) (rw numbers at after) (rw numbers refl))
    by_burst (Some k) answer new is takes =
        let same : answer ≡ Some (step k is).heard = let e = takes.0 in cc in
        rw (same, takes.1) (gives_burst k is)

  -- the receiver of the SACCH has changed, but for its direction
  beside : (low last floor : ℕ) (bs : List Numbered) (x : Traffic) (sacch : Slot) → sacch.direction ≡ x.sacch.direction →
      State low last floor bs x → State low last floor bs (record x { sacch = sacch })
  beside low last floor bs x sacch same (inl (fits, s)) = inl ((fits.0, rw same fits.1), s)
  beside low last floor bs x sacch same (inr (fits, s)) = inr ((fits.0, rw same fits.1), s)

  has_set : (low last floor : ℕ) (bs : List Numbered) (x : Traffic) → State low last floor bs x → Has st x
  has_set low last floor bs x (inl s) = s.0
  has_set low last floor bs x (inr s) = s.0

  heard_one : (f : Frame) (fs : List Frame) (low last floor : ℕ) (bs : List Numbered) (x new : Traffic) (answer : Option Heard)
      (rs : List Report) → UpTo last bs → 8 ≤ last → State low last floor bs x → Follow c last (numbered c (f ∷ fs)) →
      After floor (numbered c (f ∷ fs)) → HearsOne x f answer new → Gives (bs ++ numbered c (f ∷ fs)) answer f fs new rs low
  heard_one f fs low last floor bs x new answer rs up late state follow after one =
      let now : Traffic = record x { sacch = one.sacch } in
      let now_state : State low last floor bs now = beside low last floor bs x one.sacch one.same state in
      let n : ℕ = f.time % HYPERFRAME in
      let call = took (traffic_settings_of now) (frame_refusal now.sacch n) now n f.came f.burst answer new one.takes in
      let same : call.0 ≡ st = same_set now st call.0 (has_set low last floor bs now now_state) call.1 in
      by_burst f fs low last floor bs now rs up late now_state follow after (traffic_burst c n) answer new refl (rw same at call.2)

  -- ## The end

  -- no block is left, or one that is reported
  abbrev EndsIn : (low last : ℕ) (bs : List Numbered) (answer : Heard) (new : Traffic) → Type 0
  EndsIn low last bs answer new =
      ((answer ≡ Taken) × ((n : ℕ) → low < n → Begins st n → IsCarried c bs n → ⊥))
      ⊎ ((f : FinishedFacch) × (first : ℕ) × (answer ≡ Earlier f) × HasEnded first last (first + most) bs new
      × ((rs : List Report) → AreReportsOf st bs first rs → AreReportsOf st bs low (report_of f new ∷ rs)))

  ends_in : (low last floor : ℕ) (bs : List Numbered) (y : Traffic) → Going low last floor bs y →
      EndsIn low last bs (end_block c y).heard (end_block c y).traffic
  ends_in low last floor bs y (fits, inl idle) =
      let none : Step = record { traffic = y; heard = Taken } in
      rw (equal y.first HYPERFRAME none (ended_with Earlier c y) idle.none) (inl (refl, idle.empty))
  ends_in low last floor bs y (fits, inr on) =
      let none : Step = record { traffic = y; heard = Taken } in
      let whole : bs ++ [] ≡ bs = append-nil bs in
      rw (unequal y.first HYPERFRAME none (ended_with Earlier c y) (λ e. is_first c on.first (sym on.holds.is_first ∙ e))) (inr (
        finished_facch c y,
        on.first,
        refl,
        (
          fits,
          record {
            ended_is = λ e. omega (arith, e);
            holds = on.holds;
            reached = on.reached;
            near = on.near;
            past = omega arith;
          },
        ),
        λ rs rest. regrouped low (report_of (finished_facch c y) y ∷ rs) whole
            (more low on.first (on.first + most) bs [] y (record y { ended = 1 }) (finished_facch c y) rs on.holds refl
            refl on.lower (tt {0}) (omega arith) (rw whole on.carried) (rw whole (λ n gt lt begins. (on.apart n gt lt begins).0))
            (regrouped on.first rs (sym whole) rest)),
      ))

  end_with : (low last floor : ℕ) (bs : List Numbered) (x new : Traffic) (answer : Heard) → UpTo last bs →
      State low last floor bs x → HearsEnd x answer new → EndsIn low last bs answer new
  end_with low last floor bs x new answer up state one =
      let now : Traffic = record x { sacch = one.sacch } in
      let now_state : State low last floor bs now = beside low last floor bs x one.sacch one.same state in
      let call = took_end (traffic_settings_of now) now answer new one.ends in
      let same : call.0 ≡ st = same_set now st call.0 (has_set low last floor bs now now_state) call.1 in
      let s : Step = end_block c (collecting c now) in
      let answer_is : answer ≡ s.heard = rw same at call.2 in
      let new_is : new ≡ s.traffic = rw same at call.3 in
      subst (λ (a : Heard). EndsIn low last bs a new) (sym answer_is) (subst (EndsIn low last bs s.heard) (sym new_is)
      (ends_in low last floor bs (collecting c now) (going_on low last floor bs now up now_state)))

  ends_reported : (ends : List Report) (low last floor : ℕ) (bs : List Numbered) (x new : Traffic) → UpTo last bs →
      State low last floor bs x → HearsEnds x ends new → AreReportsOf st bs low ends
  ends_reported [] low last floor bs x new up state h = elim (end_with low last floor bs x new Taken up state h) [
    | inl none ↦ none.1
    | inr some ↦ absurd (let e = some.2 in cc)
  ]
  ends_reported (r ∷ rs) low last floor bs x new up state h =
      elim (end_with low last floor bs x h.0 (Earlier r.finished) up state h.1) [
        | inl none ↦ absurd (let e = none.0 in cc)
        | inr some ↦
            let same : some.0 ≡ r.finished = let e = some.2 in cc in
            let bursts = h.2 in
            let is : report_of some.0 h.0 ≡ r = λ i. record { finished = same i; bursts = sym bursts i } in
            rw is at (some.4 rs (ends_reported rs some.1 last (some.1 + most) bs h.0 new up (inr some.3) h.3))
      ]

  reported : (answers : List (Option Heard)) (fs : List Frame) (low last floor : ℕ) (bs : List Numbered) (x mid new : Traffic)
      (reports ends : List Report) → UpTo last bs → 8 ≤ last → State low last floor bs x → Follow c last (numbered c fs) →
      After floor (numbered c fs) → Hears x answers fs reports mid → HearsEnds mid ends new →
      AreReportsOf st (bs ++ numbered c fs) low (reports ++ ends)
  reported [] fs low last floor bs x mid new reports ends up late state follow after h e =
      rw (h.1, h.0, append-nil bs) (ends_reported ends low last floor bs x new up state (rw h.2 at e))
  reported (a ∷ next) fs low last floor bs x mid new reports ends up late state follow after h e =
      let fs' = h.1 in
      rw (h.6, h.4, append_assoc (reports_of a h.2.bursts) h.3 ends)
      (heard_one h.0 fs' low last floor bs x h.2 a (h.3 ++ ends) up late state (rw h.4 at follow) (rw h.4 at after) h.5
      (λ low' last' floor' bs' up' late' state' follow' after' same. regrouped low' (h.3 ++ ends) same
      (reported next (frames_left a h.0 fs') low' last' floor' bs' h.2 mid new h.3 ends up' late' state' follow' after' h.7 e)))

pub each_reported_once : (old mid new : Traffic) (st : TrafficSettings) (start : ℕ) (answers : List (Option Heard))
    (fs : List Frame) (reports ends : List Report) → traffic_settings_of old ≡ Some st → old ≡ new_traffic old.sacch old.channel →
    8 ≤ start → Follow st.channel start (numbered st.channel fs) → Hears old answers fs reports mid →
    HearsEnds mid ends new → AreReportsOf st (numbered st.channel fs) 0 (reports ++ ends)
each_reported_once old mid new st start answers fs reports ends is fresh late follow hears ended =
    let few = few_bursts st.channel in
    let idle : State st 0 start start [] old =
    inl (
      has old st is,
      inl (record {
        none = ap (λ (x : Traffic). x.first) fresh;
        going = ap (λ (x : Traffic). x.ended) fresh;
        none_came = ap (λ (x : Traffic). x.came) fresh;
        no_bursts = ap (λ (x : Traffic). x.bursts) fresh;
        empty = λ n lt begins carried. carried.2 refl;
        past = omega (arith, few, late);
      }),
    ) in
    reported st answers fs 0 start start [] old mid new reports ends (tt {0}) late idle follow
    (follows_after st start (numbered st.channel fs) follow) hears ended
