-- Each block of a recording is reported once: the receiver's state between frames is that of the block that is being collected.
use Rattle.{
  bit_blocks.proofs.Lemmas.{at_passes_below, both_true, passes_below},
  std.proofs.Common.{Bool, List, None, Ok, Option, Some, [], ap, ap₂, arith, cond, eqb, false, inl, inr, length, length-append},
  std.proofs.Common.{ltb, not, refl, replicate, set, sym, true},
  std.proofs.Common.{pos, ℕ, ℤ, ◌%◌, ◌*◌, ◌+◌, ◌++◌, ◌-◌, ◌<◌, ◌&&◌, ◌||◌, ◌∙◌},
  std.proofs.Common.{◌∷◌, ◌≡◌, ◌≢◌, ◌≤◌, ◌⊎◌},
  std.proofs.lemmas.Bool.{cases_lt, Decides.{eqb_tells, nat_tests}, eq-eqb},
  std.proofs.lemmas.List.{append-nil, append_assoc},
  std.specs.List.All,
  std.{proofs.lemmas.List.Elements.{All-append, All-cons, All-nil}, specs.Prelude.{min}},
  tdma.proofs.Cycles.{burst_below_4, position_at_remainder},
  tdma.specs.Channels.{burst_spacing, is_traffic, place_at, position_of},
  tdma.specs.declared.{TheConstants.HYPERFRAME, places.Place.Place, schedule.Position.Position},
  tdma.specs.declared.channels.Combination.{Combination, TheVariants.{BcchCcch, BcchCcchSdcch4, Sdcch8, TchF, TchH}},
  tdma.specs.declared.channels.Direction.{Direction, TheVariants.{Downlink, Uplink}},
  um_slot.proofs.Firsts.first_place,
  um_slot.specs.Numbers.{direction_of, slot_combination_of},
  um_slot.specs.Recordings.{AreOfRecording, AreBlocks, AreReportsOf, Ascend, Block, Follow, Frame, Hears, HearsEnd, HearsOne, IsOf},
  um_slot.specs.Recordings.{Placed, Report, count_came, frames_of, given, placed, placed_at, with_frames},
  um_slot.specs.Slots.{EndsWith, Step, TakesWith, begun, block_of_frame, block_place, closed, end_block, end_collecting, finish},
  um_slot.specs.Slots.{frame_refusal, has_valid_numbers, settings_from_place, settings_if_valid, settings_of, take_at},
  um_slot.specs.Slots.{with_burst},
  um_slot.specs.declared.{settings.Settings.Settings, slots.{FinishedBlock.FinishedBlock, Refusal.Refusal, Slot.Slot}},
}

-- ## Settings: what a valid state is set to, and which block it collects

-- the block that is being collected: none, or that which begins in frame `first`
abbrev IsCollected : (first : ℕ) (collecting : Option Place) → Type 0
IsCollected first collecting =
    ((first ≡ HYPERFRAME) × (collecting ≡ None))
    ⊎ ((first ≢ HYPERFRAME) × ((q : Place) × (collecting ≡ Some q) × (q.first ≡ first)))

abbrev IsSet : (s : Slot) (settings : Settings) → Type 0
IsSet s st =
    (slot_combination_of s.combination ≡ Some st.combination) × (direction_of s.direction ≡ Some st.direction)
    × IsCollected s.first st.collecting

-- the frame and its place
abbrev IsAt : (c : Combination) (frame : ℕ) (p : Place) → Type 0
IsAt c frame p =
    (p.first ≡ (frame + HYPERFRAME - burst_spacing c * p.position.burst) % HYPERFRAME) × (p.position.burst < 4)

at_position : (c : Combination) (frame : ℕ) (position : Option Position) (p : Place) →
    ((q : Position) → position ≡ Some q → q.burst < 4) → block_place (place_at (burst_spacing c) frame position) ≡ Some p →
    IsAt c frame p
at_position c f position p few e = grind (arith, few)

is_at : (c : Combination) (d : Direction) (timeslot frame : ℕ) (p : Place) → block_of_frame c d timeslot frame ≡ Some p →
    IsAt c frame p
is_at c d t f p e = at_position c f (position_of c d t f) p (burst_below_4 c d t f) e

own_first : (c : Combination) (first : ℕ) (q : Place) → first < HYPERFRAME → IsAt c first q → q.position.burst ≡ 0 →
    q.first ≡ first
own_first c first q below at zeroth = grind arith

from_place : (c : Combination) (d : Direction) (place : Option Place) (st : Settings) → settings_from_place c d place ≡ Some st →
    (st.combination ≡ c) × (st.direction ≡ d)
    × ((q : Place) × (st.collecting ≡ Some q) × (place ≡ Some q) × (q.position.burst ≡ 0))
from_place c d place st e = grind (arith, nat_tests)

set_by : (s : Slot) (c : Combination) (d : Direction) (valid : Bool) (st : Settings) → (valid ≡ true → s.first ≤ HYPERFRAME) →
    settings_if_valid s (Some c) (Some d) valid ≡ Some st →
    (st.combination ≡ c) × (st.direction ≡ d) × IsCollected s.first st.collecting
set_by s c d false st low e = absurd cc
set_by s c d true st low e = elim (eqb_tells s.first HYPERFRAME) [
  | inl none ↦ let is = rw none.0 at e in grind (arith, is, none.1)
  | inr some ↦
      let (same_c, same_d, (q, is, at, zeroth)) = from_place c d (block_of_frame c d s.timeslot s.first) st (rw some.0 at e) in
      let own = own_first c s.first q (omega (arith, low refl, some.1)) (is_at c d s.timeslot s.first q at) zeroth in
      (same_c, same_d, inr (some.1, (q, is, own)))
]

low_first : (s : Slot) → has_valid_numbers s ≡ true → s.first ≤ HYPERFRAME
low_first s h = grind (arith, nat_tests)

set_if : (s : Slot) (co : Option Combination) (di : Option Direction) (valid : Bool) (st : Settings) →
    (valid ≡ true → s.first ≤ HYPERFRAME) → settings_if_valid s co di valid ≡ Some st →
    (co ≡ Some st.combination) × (di ≡ Some st.direction) × IsCollected s.first st.collecting
set_if s (Some c) (Some d) valid st low e = let (same_c, same_d, first) = set_by s c d valid st low e in (cc, cc, first)
set_if s co di valid st low e = absurd cc

pub is_set : (s : Slot) (st : Settings) → settings_of s ≡ Some st → IsSet s st
is_set s st e =
    set_if s (slot_combination_of s.combination) (direction_of s.direction) (has_valid_numbers s) st (low_first s) e

-- ## Steps: what a frame does to the receiver

-- a receiver that has accepted a frame
abbrev accepted : (s : Slot) (done : List (List ℤ)) → Step
accepted s done = record { slot = s; finished = None; done = done }

abbrev result : (collecting place : Option Place) (came : ℕ) (burst : List ℤ) (s : Slot) (done : List (List ℤ)) → Step
result collecting place came burst s done = take_at place came burst (end_collecting collecting place (accepted s done))

pub unlike : (a b : ℕ) → a ≢ b → eqb a b ≡ false
unlike a b h = grind (arith, nat_tests)

module _ (came : ℕ) (burst : List ℤ) (s : Slot) (done : List (List ℤ)) (p : Place) where
  -- with its burst in the block: finished if that is the fourth
  abbrev ended : Slot → Step
  ended y = cond (eqb p.position.burst 3) (finish p (accepted y done)) (accepted y done)

  abbrev with_own : Slot → Slot
  with_own y = with_burst p.position.burst came burst y

  new_block : (collecting : Option Place) → collecting ≡ None → s.first ≢ p.first →
      result collecting (Some p) came burst s done ≡ ended (with_own (begun p.first s))
  new_block collecting is other = rw (is, unlike s.first p.first other) refl

  module _ (collecting : Option Place) (q : Place) (is : collecting ≡ Some q) (own : q.first ≡ s.first) where
    own_block : s.first ≡ p.first → result collecting (Some p) came burst s done ≡ ended (with_own s)
    own_block same = rw (is, eq-eqb p.first q.first (sym (own ∙ same)), eq-eqb s.first p.first same) refl

    other_block : s.first ≢ p.first → HYPERFRAME ≢ p.first → result collecting (Some p) came burst s done ≡ record {
      slot = with_own (begun p.first (closed s));
      finished = Some (record { place = q; heard = s.heard });
      done = s.bursts;
    }
    other_block other some = rw (is, unlike p.first q.first (λ e. other cc), unlike HYPERFRAME p.first some) refl

-- ## The block that is being collected

-- bursts of which none came
abbrev zeros : List (List ℤ)
zeros = replicate 4 (replicate 148 (pos 0))

count_came-more : (gs : List Placed) (h : Placed) → count_came (gs ++ h ∷ []) ≡ count_came gs + h.frame.came
count_came-more [] h = omega arith
count_came-more (g ∷ gs) h = omega (arith, count_came-more gs h)

with_frames-more : (bursts : List (List ℤ)) (gs : List Placed) (h : Placed) →
    with_frames bursts (gs ++ h ∷ []) ≡ set (with_frames bursts gs) h.place.position.burst h.frame.burst
with_frames-more bursts [] h = refl
with_frames-more bursts (g ∷ gs) h = with_frames-more (set bursts g.place.position.burst g.frame.burst) gs h

min_more : (a b : ℕ) → min (min a 4 + b) 4 ≡ min (a + b) 4
min_more a b = grind arith

-- the bursts of a block come within so many frames
within : (c : Combination) (b : ℕ) → b < 4 → (burst_spacing c * b ≤ burst_spacing c * 3) × (burst_spacing c * 3 ≤ 78)
within c b lt = grind arith

-- the first frame of a block, counted on from one hyperframe to the next
first_of : (t m : ℕ) → HYPERFRAME ≤ t → m ≤ 78 → (t % HYPERFRAME + HYPERFRAME - m) % HYPERFRAME ≡ (t - m) % HYPERFRAME
first_of t m late small = omega arith

-- two numbers of first frames are the same if they are so modulo a hyperframe
same_first : (first last t m : ℕ) → first ≤ last → last ≤ first + 78 → last < t → t ≤ last + 1357824 → m ≤ 78 →
    HYPERFRAME ≤ last →
    first % HYPERFRAME ≡ (t - m) % HYPERFRAME → t ≡ first + m
same_first first last t m h1 h2 h3 h4 h5 h6 e = omega arith

-- ## Apart: between the bursts of a block no other block begins, where the bursts of two blocks do not alternate

abbrev later_than : (k : ℕ) (p : Option Position) → Bool
later_than k None = false
later_than k (Some p) = ltb k p.burst

abbrev begins_none : (p : Option Position) → Bool
begins_none None = true
begins_none (Some p) = not (eqb p.burst 0)

abbrev is_inside : (k : ℕ) (p earlier : Option Position) → Bool
is_inside k p earlier = not (later_than k p) || begins_none earlier

abbrev are_inside : (c : Combination) (d : Direction) (n : ℕ) → Bool
are_inside c d n =
    is_inside 1 (position_of c d 0 n) (position_of c d 0 ((n + 101) % 102))
    && is_inside 2 (position_of c d 0 n) (position_of c d 0 ((n + 100) % 102))

all_inside : (c : Combination) (d : Direction) → is_traffic c ≡ false → passes_below (are_inside c d) 102 ≡ true
unfolding passes_below
all_inside BcchCcch Downlink h = cc
all_inside BcchCcch Uplink h = cc
all_inside BcchCcchSdcch4 Downlink h = cc
all_inside BcchCcchSdcch4 Uplink h = cc
all_inside Sdcch8 Downlink h = cc
all_inside Sdcch8 Uplink h = cc
all_inside c d h = absurd cc

told : (k : ℕ) (a b : Option Position) (p q : Position) → a ≡ Some p → b ≡ Some q → is_inside k a b ≡ true → k < p.burst →
    q.burst ≢ 0
told k a b p q ea eb h lt = let test = rw (ea, eb) at h in grind (arith, nat_tests, test)

inside_slot : (c : Combination) (d : Direction) (ts t f k : ℕ) (p q : Position) → is_traffic c ≡ false →
    position_of c d ts t ≡ Some p → position_of c d ts f ≡ Some q → 1 ≤ k → k < p.burst → p.burst < 4 →
    f % 102 ≡ (t % 102 + (102 - k)) % 102 → q.burst ≢ 0
inside_slot c d ts t f k p q h ep eq some lt few is =
    let both = both_true (is_inside 1 (position_of c d 0 (t % 102)) (position_of c d 0 ((t % 102 + 101) % 102)))
    (is_inside 2 (position_of c d 0 (t % 102)) (position_of c d 0 ((t % 102 + 100) % 102)))
    (at_passes_below (are_inside c d) 102 (all_inside c d h) (t % 102) (omega arith)) in
    let at_p : position_of c d 0 (t % 102) ≡ Some p = sym (position_at_remainder c d ts t h) ∙ ep in
    let at_q : position_of c d 0 ((t % 102 + (102 - k)) % 102) ≡ Some q =
    rw (← is) (sym (position_at_remainder c d ts f h) ∙ eq) in
    elim (eqb_tells k 1) [
      | inl one ↦ told 1 _ _ p q at_p (rw one.1 at at_q) both.0 (omega (arith, one.1))
      | inr more ↦ let two : k ≡ 2 = omega (arith, more.1) in told 2 _ _ p q at_p (rw two at at_q) both.1 (omega (arith, two))
    ]

since_sacch : (d : Direction) (ts f : ℕ) (p : Position) → position_of TchF d ts f ≡ Some p →
    (f % 104 + 104 - (12 + 13 * ts)) % 104 ≡ 26 * p.burst
since_sacch d ts f p e = grind (arith, nat_tests)

position_in : (c : Combination) (f : ℕ) (position : Option Position) (p : Place) →
    block_place (place_at (burst_spacing c) f position) ≡ Some p → position ≡ Some p.position
position_in c f position p e = grind arith

not_inside : (c : Combination) (d : Direction) (ts t f k : ℕ) (p q : Position) → ts < 8 → c ≢ TchH →
    position_of c d ts (t % HYPERFRAME) ≡ Some p → position_of c d ts (f % HYPERFRAME) ≡ Some q → p.burst < 4 → q.burst ≡ 0 →
    f + k ≡ t → 1 ≤ k → k < burst_spacing c * p.burst → ⊥
not_inside TchH d ts t f k p q slot other ep eq few zeroth is some lt = absurd (other refl)
not_inside TchF d ts t f k p q slot other ep eq few zeroth is some lt =
    let at_p = since_sacch d ts (t % HYPERFRAME) p ep in
    let at_q = since_sacch d ts (f % HYPERFRAME) q eq in
    omega (arith, at_p, at_q, is, few, zeroth)
not_inside c d ts t f k p q slot other ep eq few zeroth is some lt =
    inside_slot c d ts (t % HYPERFRAME) (f % HYPERFRAME) k p q refl ep eq some (omega (arith, lt)) few (omega (arith, is, lt, few)) zeroth

-- ## Runs

abbrev Later : (c : Combination) (d : Direction) (timeslot : ℕ) → Type 0
Later c d timeslot =
    (g h : Place) (last t first next : ℕ) → HYPERFRAME ≤ last → block_of_frame c d timeslot (last % HYPERFRAME) ≡ Some g →
    block_of_frame c d timeslot (t % HYPERFRAME) ≡ Some h → last < t → last ≡ first + burst_spacing c * g.position.burst →
    t ≡ next + burst_spacing c * h.position.burst → first ≢ next → first < next

later_begins : (c : Combination) (d : Direction) (ts : ℕ) → ts < 8 → c ≢ TchH → Later c d ts
later_begins c d ts slot other g h last t first next late at_g at_h after g_is h_is apart =
    elim (cases_lt first next) [
      | inl lt ↦ lt
      | inr ge ↦
          let its_g = is_at c d ts (last % HYPERFRAME) g at_g in
          let few = within c g.position.burst its_g.1 in
          let begins : g.first ≡ first % HYPERFRAME =
          its_g.0 ∙ first_of last (burst_spacing c * g.position.burst) late (omega (arith, few.0, few.1))
          ∙ ap (λ n. n % HYPERFRAME) (omega (arith, g_is)) in
          absurd (not_inside c d ts t first (t - first) h.position (record g.position { burst = 0 }) slot other
          (position_in c (t % HYPERFRAME) (position_of c d ts (t % HYPERFRAME)) h at_h)
          (position_in c (first % HYPERFRAME) (position_of c d ts (first % HYPERFRAME)) _
          (rw begins at (sym (first_place c d ts (last % HYPERFRAME) g slot at_g)))) (is_at c d ts (t % HYPERFRAME) h at_h).1 refl
          (omega (arith, g_is, after)) (omega (arith, g_is, after)) (omega (arith, g_is, h_is, after, ge, apart)))
    ]

module _ (st : Settings) (ts : ℕ) (later_begins : Later st.combination st.direction ts) where
  abbrev spacing : ℕ
  spacing = burst_spacing st.combination

  abbrev place_at_time : ℕ → Option Place
  place_at_time t = block_of_frame st.combination st.direction ts (t % HYPERFRAME)

  abbrev HasSettings : Slot → Type 0
  HasSettings s =
      (slot_combination_of s.combination ≡ Some st.combination) × (direction_of s.direction ≡ Some st.direction) × (s.timeslot ≡ ts)

  -- the receiver has these frames of a block, the last of them in frame `last`, and `heard` bursts of it; the block begins after `low`,
  -- in a frame with the number `begun`
  record Collecting (low last : ℕ) (gs : List Placed) (begun heard : ℕ) (bursts : List (List ℤ)) : Type 0 where
    first : ℕ
    lower : low < first
    is_first : begun ≡ first % HYPERFRAME
    heard_is : heard ≡ min (count_came gs) 4
    bursts_are : bursts ≡ with_frames zeros gs
    some : gs ≢ []
    own : All (IsOf spacing first) gs
    before : Place
    at : place_at_time last ≡ Some before
    last_is : last ≡ first + spacing * before.position.burst

  abbrev Collects : (low last : ℕ) (gs : List Placed) (s : Slot) → Type 0
  Collects low last gs s = Collecting low last gs s.first s.heard s.bursts

  -- it collects a block, or none, and the next one begins after frame `low`
  abbrev State : (low last : ℕ) (gs : List Placed) (s : Slot) → Type 0
  State low last gs s =
      HasSettings s × (HYPERFRAME ≤ last)
      × (((gs ≡ []) × (s.first ≡ HYPERFRAME) × (low + spacing * 3 ≤ last)) ⊎ Collects low last gs s)

  -- the reports are those of the blocks with these frames, all of which begin after frame `low`
  record Rest (low : ℕ) (frames : List Placed) (reports : List Report) : Type 0 where
    blocks : List Block
    frames_are : frames_of blocks ≡ frames
    are_blocks : AreBlocks spacing blocks
    ascend : Ascend low blocks
    reported : AreReportsOf blocks reports

  -- the block that is collected is reported
  reported : (low last : ℕ) (gs : List Placed) (begun heard : ℕ) (bursts : List (List ℤ))
      (c : Collecting low last gs begun heard bursts) (q : Place) → q.first ≡ begun →
      (hs : List Placed) (rs : List Report) → Rest c.first hs rs →
      Rest low (gs ++ hs) (record { finished = record { place = q; heard = heard }; bursts = bursts } ∷ rs)
  reported low last gs begun heard bursts c q begins hs rs rest = record {
    blocks = record { first = c.first; frames = gs } ∷ rest.blocks;
    frames_are = ap (λ xs. gs ++ xs) rest.frames_are;
    are_blocks = (c.some, c.own, rest.are_blocks);
    ascend = (c.lower, rest.ascend);
    reported = (record { first = begins ∙ c.is_first; heard = c.heard_is; bursts = c.bursts_are }, rest.reported);
  }

  -- what the settings say of the block agrees with the state
  agree : (low last : ℕ) (gs : List Placed) (s : Slot) (collecting : Option Place) → IsCollected s.first collecting →
      State low last gs s →
      ((gs ≡ []) × (collecting ≡ None) × (s.first ≡ HYPERFRAME) × (low + spacing * 3 ≤ last))
      ⊎ (((q : Place) × (collecting ≡ Some q) × (q.first ≡ s.first)) × Collects low last gs s)
  agree low last gs s collecting (inl is) (set, late, inl none) = inl (none.0, is.1, none.1, none.2)
  agree low last gs s collecting (inr is) (set, late, inl none) = absurd (is.0 none.1)
  agree low last gs s collecting (inl is) (set, late, inr c) = let e = c.is_first in absurd (omega (arith, e, is.0))
  agree low last gs s collecting (inr is) (set, late, inr c) = inr (is.1, c)

  -- after a step the rest is reported, if it is so after the state that the step leads to
  abbrev Goes : (low time : ℕ) (frames hs : List Placed) (rs : List Report) (step : Step) → Type 0
  Goes low time frames hs rs x =
      ((low' : ℕ) (gs' : List Placed) → State low' time gs' x.slot → Rest low' (gs' ++ hs) rs) →
      Rest low frames (given x.finished x.done ++ rs)

  -- ### A frame of a block

  module _ (f : Frame) (p : Place) (at : place_at_time f.time ≡ Some p) (late : HYPERFRAME ≤ f.time) where
    abbrev h : Placed
    h = record { place = p; frame = f }

    abbrev since : ℕ
    since = spacing * p.position.burst

    its_place : IsAt st.combination (f.time % HYPERFRAME) p
    its_place = is_at st.combination st.direction ts (f.time % HYPERFRAME) p at

    few : (since ≤ spacing * 3) × (spacing * 3 ≤ 78)
    few = within st.combination p.position.burst its_place.1

    first_is_of : p.first ≡ (f.time - since) % HYPERFRAME
    first_is_of = its_place.0 ∙ first_of f.time since late (omega (arith, few.0, few.1))

    since_first : f.time ≡ (f.time - since) + since
    since_first = omega (arith, few.0, few.1, late)

    below : p.first < HYPERFRAME
    below = let e = first_is_of in omega (arith, e)

    began : (low : ℕ) (s : Slot) → low < f.time - since →
        Collects low f.time (h ∷ []) (with_burst p.position.burst f.came f.burst (begun p.first s))
    began low s lower = record {
      first = f.time - since;
      lower = lower;
      is_first = first_is_of;
      heard_is = grind arith;
      bursts_are = refl;
      some = λ e. cc;
      own = All-cons (IsOf spacing (f.time - since)) h [] since_first (All-nil _);
      before = p;
      at = at;
      last_is = since_first;
    }

    -- a frame of the block that is being collected
    went_on : (low last : ℕ) (gs : List Placed) (s : Slot) (c : Collects low last gs s) → f.time ≡ c.first + since →
        Collects low f.time (gs ++ h ∷ []) (with_burst p.position.burst f.came f.burst s)
    went_on low last gs s c same = record {
      first = c.first;
      lower = c.lower;
      is_first = c.is_first;
      heard_is = rw (c.heard_is, count_came-more gs h) (min_more (count_came gs) f.came);
      bursts_are = rw (c.bursts_are, with_frames-more zeros gs h) refl;
      some = λ e. let long = ap length e in omega (arith, length-append gs (h ∷ []), long);
      own = All-append (IsOf spacing c.first) gs (h ∷ []) c.own (All-cons (IsOf spacing c.first) h [] same (All-nil _));
      before = p;
      at = at;
      last_is = same;
    }

    -- the step of a frame whose burst is put into a block: the block is reported with its fourth burst
    closing : (low : ℕ) (gs : List Placed) (y : Slot) (done : List (List ℤ)) → HasSettings y → (c : Collects low f.time gs y) →
        y.first ≡ p.first → (hs : List Placed) (rs : List Report) →
        Goes low f.time (gs ++ hs) hs rs (ended f.came f.burst y done p y)
    closing low gs y done set c begins hs rs =
        let same_place : c.before ≡ p = let e : Some c.before ≡ Some p = sym c.at ∙ at in cc in
        let is_of : f.time ≡ c.first + since = rw same_place at c.last_is in
        elim (eqb_tells p.position.burst 3) [
          | inl fourth ↦
              let far : c.first + spacing * 3 ≤ f.time =
              let e : since ≡ spacing * 3 = ap (λ n. spacing * n) fourth.1 in omega (arith, e, is_of) in
              rw fourth.0 (λ go. reported low f.time gs y.first y.heard y.bursts c p (sym begins) hs rs
              (go c.first [] (set, late, inl (refl, refl, far))))
          | inr other ↦ rw other.0 (λ go. go low gs (set, late, inr c))
        ]

    -- the step of a frame that carries a burst of a block
    stepped : (low last : ℕ) (gs : List Placed) (s : Slot) (collecting : Option Place) (done : List (List ℤ)) →
        IsCollected s.first collecting → State low last gs s → last < f.time → f.time ≤ last + 1357824 → (hs : List Placed)
        (rs : List Report) → Goes low f.time (gs ++ h ∷ hs) hs rs (result collecting (Some p) f.came f.burst s done)
    stepped low last gs s collecting done collected state after near hs rs =
        elim (agree low last gs s collecting collected state) [
          | inl (none, is, shut, far) ↦
              let lower : low < f.time - since = omega (arith, far, few.0, since_first) in
              rw (none, new_block f.came f.burst s done p collecting is (λ e. omega (arith, e, below, shut)))
              (closing low (h ∷ []) (with_burst p.position.burst f.came f.burst (begun p.first s)) done state.0 (began low s lower)
              refl hs rs)
          | inr ((q, is, own), c) ↦ elim (eqb_tells s.first p.first) [
            | inl same ↦
                let earlier = within st.combination c.before.position.burst
                (is_at st.combination st.direction ts (last % HYPERFRAME) c.before c.at).1 in
                let is_of : f.time ≡ c.first + since =
                same_first c.first last f.time since (omega (arith, c.last_is)) (omega (arith, c.last_is, earlier.0, earlier.1)) after near
                (omega (arith, few.0, few.1)) state.1 (sym c.is_first ∙ same.1 ∙ first_is_of) in
                rw (own_block f.came f.burst s done p collecting q is own same.1, ← append_assoc gs (h ∷ []) hs)
                (closing low (gs ++ h ∷ []) (with_burst p.position.burst f.came f.burst s) done state.0 (went_on low last gs s c is_of)
                same.1 hs rs)
            | inr other ↦
                let apart : c.first ≢ f.time - since = λ e. other.1 (c.is_first ∙ ap (λ n. n % HYPERFRAME) e ∙ sym first_is_of) in
                let next : c.first < f.time - since =
                later_begins c.before p last f.time c.first (f.time - since) state.1 c.at at after c.last_is since_first apart in
                rw (other_block f.came f.burst s done p collecting q is own other.1 (λ e. omega (arith, e, below)))
                (λ go. reported low last gs s.first s.heard s.bursts c q own (h ∷ hs) rs
                (go c.first (h ∷ []) (state.0, late, inr (began c.first (closed s) next))))
          ]
        ]

  -- ### Lists of frames

  same_settings : (s : Slot) (st' : Settings) → HasSettings s → settings_of s ≡ Some st' →
      (st'.combination ≡ st.combination) × (st'.direction ≡ st.direction) × IsCollected s.first st'.collecting
  same_settings s st' has is = let (c, d, first) = is_set s st' is in (cc, cc, first)

  -- the recording ends
  at_end : (low last : ℕ) (gs : List Placed) (s : Slot) (collecting : Option Place) (done : List (List ℤ)) →
      IsCollected s.first collecting → State low last gs s →
      let x : Step = end_block collecting (accepted s done) in Rest low gs (given x.finished s.bursts)
  at_end low last gs s collecting done collected state = elim (agree low last gs s collecting collected state) [
    | inl (none, is, shut, far) ↦
        rw (none, is) (record { blocks = []; frames_are = refl; are_blocks = tt {0}; ascend = tt {0}; reported = tt {0} })
    | inr ((q, is, own), c) ↦ rw is (rw append-nil at (reported low last gs s.first s.heard s.bursts c q own [] [] (record {
      blocks = [];
      frames_are = refl;
      are_blocks = tt {0};
      ascend = tt {0};
      reported = tt {0};
    })))
  ]

  took_end : (old new : Slot) (before : List (List ℤ)) (finished : Option FinishedBlock) (settings : Option Settings) →
      EndsWith settings old before (Ok finished) new →
      (st' : Settings) × (settings ≡ Some st') × (finished ≡ (end_block st'.collecting (accepted old before)).finished)
      × (new.bursts ≡ old.bursts)
  took_end old new before finished None ends = absurd (let e = ends.0 in cc)
  took_end old new before finished (Some st') ends = let e = ends.0 in (st', refl, cc, grind (arith, ends.1))

  last_rest : (low last : ℕ) (gs : List Placed) (s new : Slot) (ends : List Report) → State low last gs s → HearsEnd s ends new →
      Rest low gs ends
  last_rest low last gs s new ends state h =
      let (st', is, finished, bursts) = took_end s new h.before h.finished (settings_of s) h.ends in
      let same : ends ≡ given (end_block st'.collecting (accepted s h.before)).finished s.bursts =
      h.gives ∙ ap₂ (λ x y. given x y) finished bursts in
      rw same (at_end low last gs s st'.collecting h.before (same_settings s st' state.0 is).2 state)

  -- a frame, by its place
  by_place : (f : Frame) (place : Option Place) (low last : ℕ) (gs : List Placed) (s : Slot) (collecting : Option Place)
      (done : List (List ℤ)) (fs : List Placed) (rs : List Report) → place_at_time f.time ≡ place →
      IsCollected s.first collecting → State low last gs s → Follow last (placed_at place f fs) →
      let x : Step = result collecting place f.came f.burst s done in
      ((low' last' : ℕ) (gs' : List Placed) → State low' last' gs' x.slot → Follow last' fs → Rest low' (gs' ++ fs) rs) →
      Rest low (gs ++ placed_at place f fs) (given x.finished x.done ++ rs)
  by_place f None low last gs s None done fs rs is collects state follow = λ go. go low last gs state follow
  by_place f None low last gs s (Some q) done fs rs is collects state follow = λ go. go low last gs state follow
  by_place f (Some p) low last gs s collecting done fs rs is collects state follow = λ go.
      stepped f p is (omega (arith, state.1, follow.0)) low last gs s collecting done collects state follow.0 follow.1 fs rs
      (λ low' gs' state'. go low' f.time gs' state' follow.2)

  took : (s new : Slot) (frame came : ℕ) (burst : List ℤ) (before done : List (List ℤ)) (finished : Option FinishedBlock)
      (settings : Option Settings) (refusal : Option Refusal) → settings_of s ≡ settings → HasSettings s →
      TakesWith settings refusal s frame came burst before (Ok finished) new done →
      (collecting : Option Place) × IsCollected s.first collecting
      × (let x = result collecting (block_of_frame st.combination st.direction ts frame) came burst (record s { last = frame }) before in
      (finished ≡ x.finished) × (new ≡ x.slot) × (done ≡ x.done))
  took s new frame came burst before done finished (Some st') None is has h =
      let (same_c, same_d, first) = same_settings s st' has is in
      (st'.collecting, first, rw (← same_c, ← same_d, ← has.2) (cc, h.1, h.2))
  took s new frame came burst before done finished settings refusal is has h = absurd cc

  taken : (f : Frame) (low last : ℕ) (gs : List Placed) (s new : Slot) (reports rs : List Report)
      (fs : List Placed) → State low last gs s → Follow last (placed_at (place_at_time f.time) f fs) → HearsOne s f reports new →
      ((low' last' : ℕ) (gs' : List Placed) → State low' last' gs' new → Follow last' fs → Rest low' (gs' ++ fs) rs) →
      Rest low (gs ++ placed_at (place_at_time f.time) f fs) (reports ++ rs)
  taken f low last gs s new reports rs fs state follow one go =
      let frame : ℕ = f.time % HYPERFRAME in
      let (collecting, collected, (finished, slot, done)) =
      took s new frame f.came f.burst one.before one.done one.finished (settings_of s) (frame_refusal s frame) refl state.0 one.takes in
      let x : Step = result collecting (place_at_time f.time) f.came f.burst (record s { last = frame }) one.before in
      let same : reports ≡ given x.finished x.done = one.gives ∙ ap₂ (λ a b. given a b) finished done in
      rw same (by_place f (place_at_time f.time) low last gs (record s { last = frame }) collecting one.before fs rs refl collected state
      follow (λ low' last' gs' state' follow'. go low' last' gs' (rw slot state') follow'))

  reports_of : (fs : List Frame) (low last : ℕ) (gs : List Placed) (s mid new : Slot) (reports ends : List Report) →
      State low last gs s → Follow last (placed st ts fs) → Hears s fs reports mid → HearsEnd mid ends new →
      Rest low (gs ++ placed st ts fs) (reports ++ ends)
  reports_of [] low last gs s mid new reports ends state follow h e =
      rw (append-nil, h.0) (last_rest low last gs s new ends state (rw h.1 at e))
  reports_of (f ∷ fs) low last gs s mid new reports ends state follow h e =
      rw (h.4, append_assoc h.1 h.2 ends)
      (taken f low last gs s h.0 h.1 (h.2 ++ ends) (placed st ts fs) state follow h.3
      (λ low' last' gs' state' follow'. reports_of fs low' last' gs' h.0 mid new h.2 ends state' follow' h.5 e))

valid_if : (s : Slot) (co : Option Combination) (di : Option Direction) (valid : Bool) (st : Settings) →
    settings_if_valid s co di valid ≡ Some st → valid ≡ true
valid_if s (Some c) (Some d) true st e = refl
valid_if s co di valid st e = absurd cc

slot_below : (s : Slot) → has_valid_numbers s ≡ true → s.timeslot < 8
slot_below s h = grind (arith, nat_tests)

one_at_a_time : (n : ℕ) → slot_combination_of n ≢ Some TchH
one_at_a_time n e = grind (arith, nat_tests, e)

pub each_reported_once : (old mid new : Slot) (st : Settings) (start : ℕ) (fs : List Frame) (reports ends : List Report) →
    settings_of old ≡ Some st → old.first ≡ HYPERFRAME → HYPERFRAME ≤ start → Follow start (placed st old.timeslot fs) →
    Hears old fs reports mid → HearsEnd mid ends new → AreOfRecording st old.timeslot 0 fs (reports ++ ends)
each_reported_once old mid new st start fs reports ends is none late follow hears ended =
    let own = is_set old st is in
    let valid = valid_if old (slot_combination_of old.combination) (direction_of old.direction) (has_valid_numbers old) st is in
    let alternating : st.combination ≢ TchH = λ e. one_at_a_time old.combination (own.0 ∙ ap (λ (c : Combination). Some c) e) in
    let few = within st.combination 0 (omega arith) in
    let rest = reports_of st old.timeslot (later_begins st.combination st.direction old.timeslot (slot_below old valid) alternating) fs 0
    start [] old mid new reports ends ((own.0, own.1, refl), late, inl (refl, none, omega (arith, few.1, late))) follow hears ended in
    record {
      blocks = rest.blocks;
      frames_are = rest.frames_are;
      are_blocks = rest.are_blocks;
      ascend = rest.ascend;
      reported = rest.reported;
    }
