-- A receiver of one time slot (this project's own): the bursts of each block are collected by their frame numbers, in ascending order.
use Rattle.std.specs.Prelude.{ℕ, ◌≡◌, ◌+◌, ◌-◌, ◌%◌, ◌==◌, nat_lt, nat_le, min, if◌then◌else◌, Bool, true}
use Rattle.std.specs.Prelude.{◌&&◌, IfSome}
use Rattle.std.specs.Prelude.{ℤ, pos, negsuc, int_le, List, replicate, slice_set, Option, Some, None, MatchOption, Result, Ok, Err}
use Rattle.tdma.specs.declared.TheConstants.{HYPERFRAME}
use Rattle.tdma.specs.declared.channels.Combination.{Combination}
use Rattle.tdma.specs.declared.channels.Direction.{Direction}
use Rattle.tdma.specs.declared.places.Place.{Place}
use Rattle.tdma.specs.Channels.{place_of}
use Rattle.um_slot.specs.Numbers.{direction_of, is_channel_of_blocks, slot_combination_of}
use Rattle.um_slot.specs.declared.accepting.AcceptedFrame.{AcceptedFrame}
use Rattle.um_slot.specs.declared.slots.Slot.{Slot}
use Rattle.um_slot.specs.declared.slots.FinishedBlock.{FinishedBlock}
use Rattle.um_slot.specs.declared.slots.Refusal.{Refusal}
use Rattle.um_slot.specs.declared.slots.Refusal.TheVariants.{Invalid, NoFrame, Doubled, Late}
use Rattle.um_slot.specs.declared.settings.Settings.{Settings}

-- ## Validity

-- the place, if it is one of a block of four bursts
abbrev pub block_place : Option Place → Option Place
block_place None = None
block_place (Some p) = if is_channel_of_blocks p.position.channel then Some p else None

-- the block of which a frame carries a burst
abbrev pub block_of_frame : (combination : Combination) (direction : Direction) (timeslot frame : ℕ) → Option Place
block_of_frame c d timeslot frame = block_place (place_of c d timeslot frame)

-- whether the numbers are in range
abbrev pub has_valid_numbers : Slot → Bool
has_valid_numbers s =
    nat_le s.last HYPERFRAME && (nat_le s.first HYPERFRAME && (nat_lt s.timeslot 8 && (nat_le 1 s.words && (nat_le s.words 64
    && (nat_le s.erasures 4 && (nat_le s.heard 4 && nat_le s.limit 78))))))

-- the settings with the block that is being collected, if a place is the first burst of a block
abbrev pub settings_from_place : (combination : Combination) (direction : Direction) (place : Option Place) → Option Settings
settings_from_place c d None = None
settings_from_place c d (Some p) =
    if p.position.burst == 0 then Some (record { combination = c; direction = d; collecting = Some p }) else None

-- the settings, if the numbers are valid
abbrev pub settings_if_valid : (slot : Slot) (combination : Option Combination) (direction : Option Direction) (valid : Bool) →
    Option Settings
settings_if_valid s (Some c) (Some d) true =
    if s.first == HYPERFRAME then Some (record { combination = c; direction = d; collecting = None })
    else settings_from_place c d (block_of_frame c d s.timeslot s.first)
settings_if_valid s c d valid = None

-- what a receiver is set to and which block it is collecting; nothing if its state is not valid
abbrev pub settings_of : Slot → Option Settings
settings_of s = settings_if_valid s (slot_combination_of s.combination) (direction_of s.direction) (has_valid_numbers s)

-- the numbers are in range, and stand for this combination and direction
abbrev pub AreInRange : (slot : Slot) (combination : Combination) (direction : Direction) → Type 0
AreInRange s c d = (slot_combination_of s.combination ≡ Some c) × (direction_of s.direction ≡ Some d) × (has_valid_numbers s ≡ true)

-- if it is a place, it is that of a frame
abbrev pub IsPlaceOfSome : (combination : Combination) (direction : Direction) (timeslot : ℕ) (place : Option Place) → Type 0
IsPlaceOfSome c d timeslot place = IfSome place (λ p. (frame : ℕ) × (block_of_frame c d timeslot frame ≡ Some p))

-- a receiver that has taken no frame
abbrev pub new_slot : (combination direction timeslot words erasures : ℕ) → Slot
new_slot c d timeslot words erasures = record {
  last = HYPERFRAME;
  first = HYPERFRAME;
  combination = c;
  direction = d;
  timeslot = timeslot;
  words = words;
  erasures = erasures;
  heard = 0;
  bursts = replicate 4 (replicate 148 (pos 0));
  limit = 78;
}

-- a receiver that has taken no frame, with the settings of another
abbrev pub restarted : Slot → Slot
restarted s = record s { last = HYPERFRAME; first = HYPERFRAME; heard = 0; bursts = replicate 4 (replicate 148 (pos 0)) }

-- ## Refusals

-- how many frames a frame is after another, modulo a hyperframe
abbrev pub frames_after : (last frame : ℕ) → ℕ
frames_after last frame = (frame + HYPERFRAME - last) % HYPERFRAME

-- why a frame is refused after the one taken last: it is the same, or more than half a hyperframe after it
abbrev pub order_refusal : (last frame : ℕ) → Option Refusal
order_refusal last frame =
    if last == HYPERFRAME then None
    else if last == frame then Some Doubled
    else if nat_lt 1357824 (frames_after last frame) then Some Late
    else None

-- why a frame is refused by a receiver whose state is valid
abbrev pub frame_refusal : (slot : Slot) (frame : ℕ) → Option Refusal
frame_refusal s frame = if nat_le HYPERFRAME frame then Some NoFrame else order_refusal s.last frame

-- ## Steps

-- a receiver, the block that it has finished, and the bursts of that block
pub record Step : Type 0 where
  pub slot : Slot
  pub finished : Option FinishedBlock
  pub done : List (List ℤ)

-- a receiver that collects no block
abbrev pub closed : Slot → Slot
closed s = record s { first = HYPERFRAME }

-- the block of a place is finished, with the bursts that were collected
abbrev pub finish : (place : Place) (step : Step) → Step
finish p x = record {
  slot = closed x.slot;
  finished = Some (record { place = p; heard = x.slot.heard });
  done = x.slot.bursts;
}

-- whether a frame with this place may come before the last burst of the block that begins in frame `first`: it has no place, as frames of
-- traffic between the bursts of SACCH, or is of this block
abbrev pub is_within_block : (first : ℕ) (place : Option Place) → Bool
is_within_block first None = true
is_within_block first (Some p) = p.first == first

-- if a frame is of another block than the one that is being collected, that block is finished
abbrev pub end_collecting : (collecting place : Option Place) (step : Step) → Step
end_collecting None place x = x
end_collecting (Some c) place x = if is_within_block c.first place then x else finish c x

-- a receiver that begins to collect the block that begins in frame `first`, of which no burst came
abbrev pub begun : (first : ℕ) (slot : Slot) → Slot
begun first s = record s { first = first; heard = 0; bursts = replicate 4 (replicate 148 (pos 0)) }

-- a receiver with burst number `index` of the block; `came` is 0 if it did not come, and is zeros
abbrev pub with_burst : (index came : ℕ) (burst : List ℤ) (slot : Slot) → Slot
with_burst index came burst s = record s { heard = min (s.heard + came) 4; bursts = slice_set s.bursts index burst }

-- the burst of a place is put into its block
abbrev pub put_burst : (place : Place) (came : ℕ) (burst : List ℤ) (slot : Slot) → Slot
put_burst p came burst s =
    with_burst p.position.burst came burst (if s.first == p.first then s else begun p.first s)

-- a block is finished by its fourth burst, unless another block, `finished`, was just finished
abbrev pub end_if_none : (place : Place) (step : Step) (finished : Option FinishedBlock) → Step
end_if_none p x None = if p.position.burst == 3 then finish p x else x
end_if_none p x (Some f) = x

-- the burst of a frame is taken
abbrev pub take_at : (place : Option Place) (came : ℕ) (burst : List ℤ) (step : Step) → Step
take_at None came burst x = x
take_at (Some p) came burst x = end_if_none p (record x { slot = put_burst p came burst x.slot }) x.finished

-- a frame is accepted: the block that has ended is finished
abbrev pub accept_frame : (settings : Settings) (frame : ℕ) (slot : Slot) (done : List (List ℤ)) → Step
accept_frame settings frame s done =
    end_collecting settings.collecting (block_of_frame settings.combination settings.direction s.timeslot frame)
    (record { slot = record s { last = frame }; finished = None; done = done })

-- a frame is taken: it is accepted, and its burst put into its own block
abbrev pub take_frame : (settings : Settings) (frame came : ℕ) (burst : List ℤ) (slot : Slot) (done : List (List ℤ)) → Step
take_frame settings frame came burst s done =
    take_at (block_of_frame settings.combination settings.direction s.timeslot frame) came burst (accept_frame settings frame s done)

-- ## Without a copy of the bursts: those of a block that was just finished are still those of the receiver

-- `done` are the bursts of the receiver if a block was finished, and the old ones if none was
abbrev pub AreDone : (finished : Option FinishedBlock) (slot : Slot) (done_old done : List (List ℤ)) → Type 0
AreDone finished s done done' = MatchOption finished (done' ≡ done) (λ _. done' ≡ s.bursts)

-- a call that accepts a frame gives `answer`, and changes the receiver as accepting does; a refusal changes nothing
abbrev pub AcceptsWith : (settings : Option Settings) (refusal : Option Refusal) (old : Slot) (frame : ℕ) (done : List (List ℤ))
    (answer : Result AcceptedFrame Refusal) (new : Slot) → Type 0
AcceptsWith None refusal old frame done answer new = (answer ≡ Err Invalid) × (new ≡ old)
AcceptsWith (Some settings) (Some refusal) old frame done answer new = (answer ≡ Err refusal) × (new ≡ old)
AcceptsWith (Some settings) None old frame done answer new =
    let step = accept_frame settings frame old done in
    (answer ≡ Ok (record {
      ended = step.finished;
      place = block_of_frame settings.combination settings.direction old.timeslot frame;
    }))
    × (new ≡ step.slot) × AreDone step.finished new done step.done

-- the step of an accepted frame before its burst is put into its block
abbrev pub accepted_step : (accepted : AcceptedFrame) (slot : Slot) (done : List (List ℤ)) → Step
accepted_step accepted s done = record { slot = s; finished = accepted.ended; done = done }

-- a call that takes a frame gives `answer`, and changes the receiver and the bursts as the frame does; a refusal changes nothing
abbrev pub TakesWith : (settings : Option Settings) (refusal : Option Refusal) (old : Slot) (frame came : ℕ) (burst : List ℤ)
    (done_old : List (List ℤ)) (answer : Result (Option FinishedBlock) Refusal) (new : Slot) (done_new : List (List ℤ)) → Type 0
TakesWith None refusal old frame came burst done answer new done' = (answer ≡ Err Invalid) × (new ≡ old) × (done' ≡ done)
TakesWith (Some settings) (Some refusal) old frame came burst done answer new done' =
    (answer ≡ Err refusal) × (new ≡ old) × (done' ≡ done)
TakesWith (Some settings) None old frame came burst done answer new done' =
    let step = take_frame settings frame came burst old done in
    (answer ≡ Ok step.finished) × (new ≡ step.slot) × (done' ≡ step.done)

-- what a call that takes a frame gives and changes
abbrev pub Takes : (old : Slot) (frame came : ℕ) (burst : List ℤ) (done_old : List (List ℤ))
    (answer : Result (Option FinishedBlock) Refusal) (new : Slot) (done_new : List (List ℤ)) → Type 0
Takes old frame came burst done answer new done' =
    TakesWith (settings_of old) (frame_refusal old frame) old frame came burst done answer new done'

-- ## At the end of a recording

-- the block that is being collected is finished
abbrev pub end_block : (collecting : Option Place) (step : Step) → Step
end_block None x = x
end_block (Some c) x = finish c x

-- a call that ends the block that is being collected gives it, and changes the receiver, whose bursts are still its own
abbrev pub EndsWith : (settings : Option Settings) (old : Slot) (done : List (List ℤ)) (answer : Result (Option FinishedBlock) Refusal)
    (new : Slot) → Type 0
EndsWith None old done answer new = (answer ≡ Err Invalid) × (new ≡ old)
EndsWith (Some settings) old done answer new =
    let step = end_block settings.collecting (record { slot = old; finished = None; done = done }) in
    (answer ≡ Ok step.finished) × (new ≡ step.slot) × AreDone step.finished new done step.done

-- ## Soft bits

-- a value of a receiver's state as a soft bit: -128 counts as -127
abbrev pub softened : ℤ → ℤ
softened value = if int_le (negsuc 126) value then value else negsuc 126
