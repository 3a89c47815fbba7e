-- A sender of a traffic channel (GSM 05.03, today 3GPP TS 45.003, sections 3.1.3, 4.2 and 4.3; which block is sent is this project's own
-- rule). Each fourth traffic burst begins a block of four joined bursts. A traffic burst carries its odd positions, and the even ones of
-- the block before; at half rate the last two of four carry both halves of it. So a block of FACCH/H is where two frames of speech would
-- be.
use Rattle.std.specs.Prelude.{ℕ, suc, ◌≡◌, ◌≢◌, ◌<◌, ◌+◌, ◌-◌, ◌/◌, ◌%◌, ◌==◌, nat_lt, nat_le}
use Rattle.std.specs.Prelude.{if◌then◌else◌, not, Bool, ◌&&◌, ◌||◌}
use Rattle.std.specs.Prelude.{List, [], ◌∷◌, length, replicate, slice_index_or, Option, Some, None}
use Rattle.half_bursts.specs.Halves.{other_half, with_half}
use Rattle.um_slot.specs.tdma.declared.TheConstants.{HYPERFRAME}
use Rattle.um_slot.specs.tdma.declared.channels.Direction.{Direction}
use Rattle.um_slot.specs.tdma.declared.traffic.TrafficChannel.{TrafficChannel}
use Rattle.um_slot.specs.tdma.declared.traffic.TrafficPlace.{TrafficPlace}
use Rattle.um_slot.specs.tdma.Traffic.{facch_bursts, first_facch_burst, traffic_place_of}
use Rattle.um_slot.specs.Numbers.{direction_of, traffic_channel_of}
use Rattle.um_traffic.specs.Receivers.{burst_number, bursts_after, bursts_in_hyperframe}
use Rattle.um_traffic.specs.declared.senders.SentBlock.{SentBlock}
use Rattle.um_traffic.specs.declared.senders.TrafficSender.{TrafficSender}
use Rattle.um_traffic.specs.declared.senders.Sending.{Sending}
use Rattle.um_traffic.specs.declared.senders.Sending.TheVariants.{Burst, Silence, Unplaced, Invalid, NoFrame, Late}
use Rattle.um_traffic.specs.declared.settings.TrafficSettings.{TrafficSettings}

-- ## Bursts by fours

-- which of the four bursts with which a block begins a traffic burst is
abbrev pub index_of_four : (channel : TrafficChannel) (direction : Direction) (number : ℕ) → ℕ
index_of_four c d number = (number + 4 - first_facch_burst c d) % 4

-- the number of the first of them
abbrev pub first_of_four : (channel : TrafficChannel) (direction : Direction) (number : ℕ) → ℕ
first_of_four c d number =
    (number + bursts_in_hyperframe c - index_of_four c d number) % bursts_in_hyperframe c

-- ## Validity

-- a block begins with the burst number `first`, if a burst was asked for
abbrev pub is_sender_in_range : (channel : TrafficChannel) (direction : Direction) (sender : TrafficSender) → Bool
is_sender_in_range c d s =
    s.first == HYPERFRAME || (nat_lt s.first (bursts_in_hyperframe c) && s.first % 4 == first_facch_burst c d)

abbrev pub sender_settings_if_valid : (sender : TrafficSender) (channel : Option TrafficChannel) (direction : Option Direction) →
    Option TrafficSettings
sender_settings_if_valid s (Some c) (Some d) =
    if is_sender_in_range c d s && nat_le s.tsc 7 then Some (record { channel = c; direction = d }) else None
sender_settings_if_valid s c d = None

-- what a sender is set to; nothing if its state is not valid
abbrev pub sender_settings_of : TrafficSender → Option TrafficSettings
sender_settings_of s = sender_settings_if_valid s (traffic_channel_of s.channel) (direction_of s.direction)

-- no block
abbrev pub no_block : SentBlock
no_block = record { kind = 0; bursts = replicate 4 (replicate 148 0) }

-- a sender of which no burst was asked for
abbrev pub new_sender : (channel direction tsc : ℕ) → TrafficSender
new_sender channel direction tsc = record {
  first = HYPERFRAME;
  channel = channel;
  direction = direction;
  tsc = tsc;
  waiting = no_block;
  begun = no_block;
  before = no_block;
}

-- ## Giving a block

-- a block that is given waits, unless a block of FACCH, of kind 2, waits
abbrev pub given : (kind : ℕ) (block : List (List ℕ)) (sender : TrafficSender) → TrafficSender
given kind block s =
    if s.waiting.kind == 2 then s else record s { waiting = record { kind = kind; bursts = block } }

-- ## Sending

-- a block that is sent no more
abbrev pub ended : SentBlock → SentBlock
ended b = record b { kind = 0 }

-- whether the four bursts after these begin with burst number `first`
abbrev pub is_next : (channel : TrafficChannel) (first : ℕ) (sender : TrafficSender) → Bool
is_next c first s = not (s.first == HYPERFRAME) && bursts_after c s.first first == 4

-- whether the four bursts from number `first` on were before these: more than half a hyperframe after them
abbrev pub is_late : (channel : TrafficChannel) (first : ℕ) (sender : TrafficSender) → Bool
is_late c first s =
    not (s.first == HYPERFRAME) && nat_lt (bursts_in_hyperframe c / 2) (bursts_after c s.first first)

-- the block that waits begins, if the first of its bursts is asked for
abbrev pub begun_next : (index : ℕ) (sender : TrafficSender) → TrafficSender
begun_next index s = record s {
  waiting = if index == 0 then ended s.waiting else s.waiting;
  begun = if index == 0 then s.waiting else ended s.begun;
}

-- the block that was before is sent no more
abbrev pub moved_block : (channel : TrafficChannel) (first : ℕ) (sender : TrafficSender) → TrafficSender
moved_block c first s = record s { before = if is_next c first s then s.begun else ended s.before }

-- the four bursts from number `first` on
abbrev pub moved_on : (channel : TrafficChannel) (first index : ℕ) (sender : TrafficSender) → TrafficSender
moved_on c first index s = record (begun_next index (moved_block c first s)) { first = first }

-- the four bursts from number `first` on, or these if they are the same
abbrev pub turned_to : (channel : TrafficChannel) (first index : ℕ) (sender : TrafficSender) → TrafficSender
turned_to c first index s = if s.first == first then s else moved_on c first index s

-- a sender that is asked for a traffic burst
abbrev pub asked : (channel : TrafficChannel) (direction : Direction) (number : ℕ) (sender : TrafficSender) → TrafficSender
asked c d number s = turned_to c (first_of_four c d number) (index_of_four c d number) s

-- whether a burst carries a half of the block that began four bursts before
abbrev pub is_shared : (channel : TrafficChannel) (index : ℕ) → Bool
is_shared c index = nat_lt (index + 4) (facch_bursts c)

-- a burst with that of a block, if it is sent, but for one half of it
abbrev pub with_block : (half : ℕ) (block : SentBlock) (index : ℕ) (burst : List ℕ) → List ℕ
with_block half b index burst = if b.kind == 0 then burst else with_half half (slice_index_or b.bursts index []) burst

-- the burst: the halves of no block are zeros
abbrev pub sent_burst : (channel : TrafficChannel) (index : ℕ) (sender : TrafficSender) → List ℕ
sent_burst c index s =
    let zeros = replicate 148 0 in
    with_block (other_half (facch_bursts c) index) s.begun index (if is_shared c index then with_block 1 s.before index zeros else zeros)

-- whether it carries a half of a block
abbrev pub has_half : (channel : TrafficChannel) (index : ℕ) (sender : TrafficSender) → Bool
has_half c index s = not (s.begun.kind == 0) || (is_shared c index && not (s.before.kind == 0))

-- a sender, what it answers, and the burst
pub record Sent : Type 0 where
  pub sender : TrafficSender
  pub answer : Sending
  pub burst : List ℕ

abbrev pub send_number : (settings : TrafficSettings) (number : ℕ) (sender : TrafficSender) (burst : List ℕ) → Sent
send_number st number s burst =
    let index = index_of_four st.channel st.direction number in
    let after = asked st.channel st.direction number s in
    if is_late st.channel (first_of_four st.channel st.direction number) s
    then record { sender = s; answer = Late; burst = burst }
    else record {
      sender = after;
      answer = if has_half st.channel index after then Burst else Silence;
      burst = if has_half st.channel index after then sent_burst st.channel index after else burst;
    }

abbrev pub send_at : (settings : TrafficSettings) (place : Option TrafficPlace) (frame : ℕ) (sender : TrafficSender)
    (burst : List ℕ) → Sent
send_at st None frame s burst = record { sender = s; answer = Unplaced; burst = burst }
send_at st (Some place) frame s burst = send_number st (burst_number st.channel frame place.burst) s burst

abbrev pub send_with : (settings : Option TrafficSettings) (frame : ℕ) (sender : TrafficSender) (burst : List ℕ) → Sent
send_with None frame s burst = record { sender = s; answer = Invalid; burst = burst }
send_with (Some st) frame s burst =
    if nat_le HYPERFRAME frame
    then record { sender = s; answer = NoFrame; burst = burst }
    else send_at st (traffic_place_of st.channel st.direction frame) frame s burst

-- a call that asks for the burst of a frame; what it does not answer by a burst writes none
abbrev pub send : (frame : ℕ) (sender : TrafficSender) (burst : List ℕ) → Sent
send frame s burst = send_with (sender_settings_of s) frame s burst

-- ## Runs

-- a frame carries the traffic burst with this number
abbrev pub CarriesBurst : (settings : TrafficSettings) (frame number : ℕ) → Type 0
CarriesBurst st frame number =
    (place : TrafficPlace) × (traffic_place_of st.channel st.direction frame ≡ Some place)
    × (burst_number st.channel frame place.burst ≡ number)

-- the frames carry the traffic bursts from number `first` on
abbrev pub AreFrames : (settings : TrafficSettings) (first : ℕ) (frames : List ℕ) → Type 0
AreFrames st first [] = Unit {0}
AreFrames st first (f ∷ fs) = CarriesBurst st f (first % bursts_in_hyperframe st.channel) × AreFrames st (suc first) fs

-- a call asks for the burst of a frame and is given one; before the next call another block may have been given
pub record Sends (old : TrafficSender) (frame : ℕ) (burst : List ℕ) (new : TrafficSender) : Type 0 where
  pub before : List ℕ
  pub mid : TrafficSender
  pub waiting : SentBlock
  pub sends : send frame old before ≡ record { sender = mid; answer = Burst; burst = burst }
  pub new_is : new ≡ record mid { waiting = waiting }

-- calls ask for the bursts of some frames one after another
abbrev pub SendsAll : (old : TrafficSender) (frames : List ℕ) (bursts : List (List ℕ)) → Type 0
SendsAll old [] [] = Unit {0}
SendsAll old (f ∷ fs) (b ∷ bs) = (new : TrafficSender) × Sends old f b new × SendsAll new fs bs
SendsAll old fs bs = ⊥

-- calls ask for all bursts of the block that waits, in the frames from that with burst number `first` on, and are given them
pub record SendsBlock (sender : TrafficSender) (bursts : List (List ℕ)) : Type 0 where
  pub settings : TrafficSettings
  pub first : ℕ
  pub frames : List ℕ
  pub set : sender_settings_of sender ≡ Some settings
  pub waits : sender.waiting.kind ≢ 0
  pub begins : index_of_four settings.channel settings.direction first ≡ 0
  pub within : first < bursts_in_hyperframe settings.channel
  pub not_begun : sender.first ≢ first
  pub frames_are : AreFrames settings first frames
  pub all : length frames ≡ facch_bursts settings.channel
  pub sends : SendsAll sender frames bursts
