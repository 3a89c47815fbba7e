-- The functions that a `World` calls for one event together carry out one step of the specification.
use Rattle.{
  circular_buffer.specs.Buffer.{Buffer, buffer},
  lapdm_end.specs.declared.sides.Side.Side,
  lapdm_frame.specs.{Content.Frame, Frames.octets_of, Layout.n201, declared.Channel.Channel},
  std.{
    proofs.Common.{Bool, Err, List, None, Option, Some, [], append_assoc, ap, arith, drop, false, get_or, length, map, nat_eq, nat_lt},
    proofs.Common.{refl, subst, suc, sym, take, true, ℕ, ◌++◌, ◌+◌, ◌-◌, ◌<◌, ◌∙◌, ◌∷◌, ◌≡◌, ◌≤◌},
    proofs.lemmas.{Bool.Decides.nat_tests, List.{Elements.{All-push, All-drop}, append-nil, length-append, take_more}},
    specs.List.All,
  },
  um_air.{
    specs.{
      Air.{AirState, AreBlocksOfFrames, Block, CarriesOutEvent, EventDelivers, IsAirStep, Octets, ReadsFrame, event_with_frame, refusal},
      Air.{with_bit_inverted, with_bits_inverted},
      lapdm_link.{Events.{queues_after_removal, sending_role}, Queues.{Queues, queue_length, queue_of, with_items_appended}},
      lapdm_link.Queues.without_oldest_item,
      lapdm_window.{Calls.{Call, first_refusal, refusal_of}, Ends.{Mobile, Network, Role}, declared.Refused.Refused},
      lapdm_window.declared.{Sapi.{TheVariants.Zero, Sapi}, effects.Effects.Effects},
      segmenting.Segments.Message,
      Computed.frame_in_accepted,
    },
    proofs.Lemmas.ReadsFrame-frame_in_accepted,
  },
  um_block.specs.{Sent.IsSentBlock, Tallies.{counter_plus_one, counter_plus}, bit_blocks.Bits.AllBits, declared.received.Received.Received},
  um_block.proofs.Lemmas.accepted_count,
  um_link.specs.{
    Abstraction.{IsLayer3CallTo, IsValidWorld, IsWorldStep, Represents, queued_blocks},
    Naming.spec_event_refusal_of,
    Coded.{AppendsBlocks, AreCodedBlocks},
    FourEndpoints.{HasEffects, AreSidesOn, Represents as EndsRepresent, channel_of_ends},
    Moves.{AppendsToQueue, DiffersOnlyInQueue, LosesOldestBlockFrom, ReceivesOldestBlockFrom},
    Queues.IsValidQueue,
    declared.{ends.BothSides.BothSides, events.No.No, links.WorldState.WorldState},
  },
}
use Rattle.um_air.specs.lapdm_window.Sides as D
use Rattle.lapdm_end.specs.Sides as S
use Rattle.um_air.specs.lapdm_link.Events as E
use Rattle.um_link.specs.FourEndpoints as F
use Rattle.um_air.specs.lapdm_window.declared.Refused.TheVariants as RQ
use Rattle.um_air.specs.Air as A

-- ## Flipping: Each round of the loop in `invert_bits` inverts one more bit.

inverted-last : (places : List ℕ) (place : ℕ) (block : Block) →
    with_bits_inverted (places ++ place ∷ []) block ≡ with_bit_inverted place (with_bits_inverted places block)
inverted-last [] place block = refl
inverted-last (p ∷ ps) place block = inverted-last ps place (with_bit_inverted p block)

pub record AreFlipped (places : List ℕ) (i : ℕ) (before now : Block) : Type 0 where
  pub inverted : now ≡ with_bits_inverted (take i places) before
  pub bits : All AllBits now

pub AreFlipped-next : (places : List ℕ) (i : ℕ) (before mid now : Block) → AreFlipped places i before mid → i < length places →
    now ≡ with_bit_inverted (get_or places i 0) mid → All AllBits now → AreFlipped places (i + 1) before now
AreFlipped-next places i before mid now h within e bits = record {
  inverted = rw (e, h.inverted, take_more places i 0 within) (sym (inverted-last (take i places) (get_or places i 0) before));
  bits = bits;
}

-- ## Asking: A call to one side is a step of both sides in which the other side stays unchanged.

abbrev pub RepresentsStep : BothSides → Effects → Channel → E.SideStep → Type 0
RepresentsStep p effects channel d = EndsRepresent p d.new_state × HasEffects effects channel d

module _ (old : BothSides) (event_step : D.SideState → D.SideStep) (sapi : Sapi) (effects : Effects) (m : Side) (es : E.BothSides)
    (st : EndsRepresent old es)
  where
    pub mobile-step : (role : Role) → role ≡ Mobile → S.StepRefines event_step old.mobile sapi effects m →
        RepresentsStep (record old { mobile = m }) effects (channel_of_ends old)
        (E.step_with_peer_unchanged role (event_step (E.side_with_role role es)) es)
    mobile-step role is follows =
        let h = follows es.mobile st.mobile in
        rw is (record { mobile = h.represents; network = st.network }, record { frames = h.frames; notices = h.notices })

    pub network-step : (role : Role) → role ≡ Network → AreSidesOn (channel_of_ends old) old →
        S.StepRefines event_step old.network sapi effects m → RepresentsStep (record old { network = m }) effects (channel_of_ends old)
        (E.step_with_peer_unchanged role (event_step (E.side_with_role role es)) es)
    network-step role is on follows =
        let h = rw on.network at (follows es.network st.network) in
        rw is (record { mobile = st.mobile; network = h.represents }, record { frames = h.frames; notices = h.notices })

-- ## SendingLoop: Each round of the loop in `send_frames` appends one more block.

AreCoded-push : (tsc : ℕ) (os : List Octets) (bs : List Block) (o : Octets) (b : Block) → AreCodedBlocks tsc os bs →
    IsSentBlock o tsc b → AreCodedBlocks tsc (os ++ o ∷ []) (bs ++ b ∷ [])
AreCoded-push tsc [] [] o b h s = (s, tt)
AreCoded-push tsc (p ∷ ps) (c ∷ cs) o b h s = (h.0, AreCoded-push tsc ps cs o b h.1 s)
AreCoded-push tsc os bs o b h s = absurd h

Appends-none : (tsc : ℕ) (old : List Block) → AppendsBlocks tsc [] old old
Appends-none tsc old = record { blocks = []; coded = tt; appended = sym (append-nil old) }

pub Appends-more : (tsc : ℕ) (os : List Octets) (old mid : List Block) (o : Octets) (b : Block) → AppendsBlocks tsc os old mid →
    IsSentBlock o tsc b → AppendsBlocks tsc (os ++ o ∷ []) old (mid ++ b ∷ [])
Appends-more tsc os old mid o b h s = record {
  blocks = h.blocks ++ b ∷ [];
  coded = AreCoded-push tsc os h.blocks o b h.coded s;
  appended = rw (h.appended, append_assoc) refl;
}

drop_excess-none : (n : ℕ) (bs : List Block) → length bs ≤ n → drop (length bs - n) bs ≡ bs
drop_excess-none n bs h = let e : length bs - n ≡ 0 = omega arith in rw e refl

-- ## Sending: Sending a frame appends one block to a queue; an arrival or a loss removes the oldest block.

-- after i rounds, the loop has appended the blocks of the first i frames to the queue, and the radio has counted these blocks as sent
pub record AreSentSoFar (tsc : ℕ) (octets : List Octets) (i : ℕ) (old new : Buffer Block) (sent sent' heard heard' : ℕ) : Type 0 where
  pub appends : AppendsBlocks tsc (take i octets) old.items new.items
  pub capacity : new.capacity ≡ old.capacity
  pub count : length new.items ≡ length old.items + i
  pub bits : All (All AllBits) new.items
  pub sent_count : sent' ≡ counter_plus i sent
  pub heard_same : heard' ≡ heard

pub AreSentSoFar-next : (tsc : ℕ) (octets : List Octets) (i : ℕ) (old mid new : Buffer Block)
    (sent sent' sent'' heard heard' heard'' : ℕ)
    (b : Block) → AreSentSoFar tsc octets i old mid sent sent' heard heard' → i < length octets →
    IsSentBlock (get_or octets i []) tsc b → All AllBits b → length old.items + length octets ≤ old.capacity →
    new.items ≡ drop (length (mid.items ++ b ∷ []) - mid.capacity) (mid.items ++ b ∷ []) → new.capacity ≡ mid.capacity →
    sent'' ≡ counter_plus_one sent' → heard'' ≡ heard' → AreSentSoFar tsc octets (i + 1) old new sent sent'' heard heard''
AreSentSoFar-next tsc octets i old mid new sent sent' sent'' heard heard' heard'' b h within is_sent bits room is capacity tally other =
    let next : i + 1 ≡ suc i = omega arith in
    let longer : length (mid.items ++ b ∷ []) ≡ length mid.items + 1 = length-append mid.items (b ∷ []) in
    let pushed : new.items ≡ mid.items ++ b ∷ [] = is ∙ drop_excess-none mid.capacity (mid.items ++ b ∷ [])
    (omega (arith, longer, h.count, h.capacity, room, within)) in
    record {
      appends = rw (pushed, take_more octets i [] within)
          (Appends-more tsc (take i octets) old.items mid.items (get_or octets i []) b h.appends is_sent);
      capacity = capacity ∙ h.capacity;
      count = omega (arith, ap length pushed, longer, h.count);
      bits = rw is (All-drop (All AllBits) _ _ (All-push (All AllBits) _ b h.bits bits));
      sent_count = rw (tally, h.sent_count, next) refl;
      heard_same = other ∙ h.heard_same;
    }

pub IsValidQueue-rest : (old new : Buffer Block) → IsValidQueue old → new ≡ buffer (drop 1 old.items) old.capacity →
    IsValidQueue new
IsValidQueue-rest old new h e = rw e (record { capacity = h.capacity; bits = All-drop (All AllBits) 1 old.items h.bits })

pub oldest-split : (old new : List Block) → 0 < length old → new ≡ drop 1 old → (block : Block) × (old ≡ block ∷ new)
oldest-split [] new some e = absurd (omega (arith, some))
oldest-split (b ∷ bs) new some e = (b, rw e refl)

pub only-split : (old new : List Block) → length old ≡ 1 → new ≡ [] → (block : Block) × (old ≡ block ∷ new)
only-split (b ∷ []) new one e = (b, rw e refl)
only-split old new one e = absurd (omega (arith, one))

-- ## Stepping: For each kind of event, the contracts of the functions that a world calls together imply one step of the specification.

coded-sent : (channel : Channel) (tsc : ℕ) (fs : List Frame) (bs : List Block) → AreCodedBlocks tsc (map (octets_of channel) fs) bs →
    AreBlocksOfFrames channel tsc fs bs
coded-sent channel tsc [] [] h = tt
coded-sent channel tsc (f ∷ fs) (b ∷ bs) h = (h.0, coded-sent channel tsc fs bs h.1)
coded-sent channel tsc fs bs h = absurd h

-- the world has carried out the step `d` but not yet sent its frames: it represents the new endpoints, and its queues are still `queues`
pub record IsReady (a : AirState) (queues : Queues Block) (m : WorldState) (effects : Effects) (d : E.SideStep) : Type 0 where
  pub tsc : m.tsc ≡ a.tsc
  pub channel : m.channel ≡ a.channel
  pub ends : F.Represents m.ends d.new_state
  pub has_effects : F.HasEffects effects a.channel d
  pub up : m.up.items ≡ queues.up
  pub down : m.down.items ≡ queues.down

record IsSent (role : Role) (a : AirState) (queues : Queues Block) (w : WorldState) (d : E.SideStep) : Type 0 where
  blocks : List Block
  sent : AreBlocksOfFrames a.channel a.tsc d.frames blocks
  represents : Represents w (record a { ends = d.new_state; queues = with_items_appended role blocks queues })

sent-frames : (a : AirState) (queues : Queues Block) (m : WorldState) (effects : Effects) (d : E.SideStep) (blocks : List Block) →
    IsReady a queues m effects d → AreCodedBlocks m.tsc effects.frames blocks → AreBlocksOfFrames a.channel a.tsc d.frames blocks
sent-frames a queues m effects d blocks r h = coded-sent _ _ d.frames blocks (rw (r.tsc, r.has_effects.frames) at h)

sent-state : (role : Role) (a : AirState) (queues : Queues Block) (m w : WorldState) (effects : Effects) (d : E.SideStep) →
    IsReady a queues m effects d → AppendsToQueue role effects.frames m w → IsSent role a queues w d
sent-state Mobile a queues m w effects d r h = record {
  blocks = h.appends.blocks;
  sent = sent-frames a queues m effects d h.appends.blocks r h.appends.coded;
  represents = record {
    tsc = h.rest_same.tsc ∙ r.tsc;
    channel = h.rest_same.channel ∙ r.channel;
    ends = rw h.rest_same.ends r.ends;
    up = rw (h.appends.appended, r.up) refl;
    down = h.rest_same.other_queue_same ∙ r.down;
  };
}
sent-state Network a queues m w effects d r h = record {
  blocks = h.appends.blocks;
  sent = sent-frames a queues m effects d h.appends.blocks r h.appends.coded;
  represents = record {
    tsc = h.rest_same.tsc ∙ r.tsc;
    channel = h.rest_same.channel ∙ r.channel;
    ends = rw h.rest_same.ends r.ends;
    up = h.rest_same.other_queue_same ∙ r.up;
    down = rw (h.appends.appended, r.down) refl;
  };
}

abbrev pub step_by : E.Who → Sapi → Option Received → Effects → A.Step
step_by who sapi received effects =
    record { who = who; sapi = sapi; received = received; frames = effects.frames; notices = effects.notices }

pub carries_out_event : (event : A.Event) (a : AirState) (m w : WorldState) (read : Option Frame) (effects : Effects) (who : E.Who)
    (sapi : Sapi)
    (received : Option Received) (role : Role) →
    IsReady a (queues_after_removal event a.queues) m effects (E.event_step (event_with_frame read event) a.ends) →
    AppendsToQueue role effects.frames m w → EventDelivers a event received read → sending_role who ≡ role →
    who ≡ (E.event_step (event_with_frame read event) a.ends).who →
    sapi ≡ (E.event_step (event_with_frame read event) a.ends).sapi →
    (b : AirState) × Represents w b × CarriesOutEvent a event b (step_by who sapi received effects)
carries_out_event event a m w read effects who sapi received role r h arrives sender same_who same_sapi =
    let d = E.event_step (event_with_frame read event) a.ends in
    let s = sent-state (sending_role d.who) a _ m w effects d r (rw (sym sender ∙ ap sending_role same_who) at h) in (
      record a { ends = d.new_state; queues = with_items_appended (sending_role d.who) s.blocks (queues_after_removal event a.queues) },
      s.represents,
      record {
        read = read;
        blocks = s.blocks;
        delivery = arrives;
        sent = s.sent;
        new_state_is = refl;
        step_matches = λ i. record {
          who = same_who i;
          sapi = same_sapi i;
          received = received;
          frames = r.has_effects.frames i;
          notices = r.has_effects.notices i;
        };
      },
    )

pub carries_out_call : (event : A.Event) (role : Role) (w w' : WorldState) (ends' : BothSides) (effects : Effects) (who : E.Who)
    (sapi : Sapi)
    (step : A.Step) → step ≡ step_by who sapi None effects →
    F.StepRefines w.channel (E.event_step (event_with_frame None event)) w.ends effects ends' →
    ((a : AirState) → Represents w a → refusal event a ≡ None) →
    ((a : AirState) → EventDelivers a event None None × (queues_after_removal event a.queues ≡ a.queues)) →
    sending_role who ≡ role → ((es : E.BothSides) → who ≡ (E.event_step (event_with_frame None event) es).who) →
    ((es : E.BothSides) → sapi ≡ (E.event_step (event_with_frame None event) es).sapi) →
    AppendsToQueue role effects.frames (record w { ends = ends' }) w' →
    (a : AirState) → Represents w a → (b : AirState) × Represents w' b × IsAirStep a event b (A.Accepts step)
carries_out_call event role w w' ends' effects who sapi step is follows unrefused plain sender same_who same_sapi sends a st =
    let g = follows a.ends st.ends in
    let p = plain a in
    let d : E.SideStep = E.event_step (event_with_frame None event) a.ends in
    let m : WorldState = record w { ends = ends' } in
    let r : IsReady a a.queues m effects d = record {
      tsc = st.tsc;
      channel = st.channel;
      ends = g.0;
      has_effects = rw st.channel at g.1;
      up = st.up;
      down = st.down;
    } in
    let f = carries_out_event event a m w' None effects who sapi None role (rw p.1 r) sends p.0 sender (same_who a.ends)
    (same_sapi a.ends) in
    (f.0, f.1, (unrefused a st, rw is f.2))

-- ---- the reasons for which a world refuses an event
same-queue : (role : Role) (w : WorldState) (a : AirState) → Represents w a → queued_blocks role w ≡ queue_of role a.queues
same-queue Mobile w a st = st.up
same-queue Network w a st = st.down

refusal_if-false : (b : Bool) (why : E.EventRefusal) (others : Option E.EventRefusal) → b ≡ false →
    E.refusal_if b why others ≡ others
refusal_if-false b why others h = rw h refl

refusal_if-true : (b : Bool) (why : E.EventRefusal) (others : Option E.EventRefusal) → b ≡ true →
    E.refusal_if b why others ≡ Some why
refusal_if-true b why others h = rw h refl

on-queue : (test : ℕ → Bool) (b : Bool) (role : Role) (w : WorldState) (a : AirState) → Represents w a →
    test (length (queued_blocks role w)) ≡ b → test (queue_length a.queues role) ≡ b
on-queue test b role w a st h = rw (same-queue role w a st) at h

pub asked-is : (role : Role) (sapi : Sapi) (call : Call) (w : WorldState) (refused : Option Refused) →
    E.is_queue_full (length (queued_blocks role w)) ≡ false →
    ((es : E.BothSides) → F.Represents w.ends es → refused ≡ refusal_of call (E.endpoint_at role sapi es)) → (a : AirState) →
    Represents w a →
    E.call_refusal_with_capacity E.bounded_capacity (queue_length a.queues) role sapi call a.ends ≡ E.as_event_refusal refused
asked-is role sapi call w refused h n a st =
    refusal_if-false _ E.AirFull _ (on-queue E.is_queue_full false role w a st h) ∙ ap E.as_event_refusal (sym (n a.ends st.ends))

-- in this module, the event is `call`, a layer 3 call to the endpoint with this role and SAPI
module _ (role : Role) (sapi : Sapi) (call : Call) where
  pub asked-event_step : (event : A.Event) → IsLayer3CallTo event role sapi call → (es : E.BothSides) →
      E.event_step (event_with_frame None event) es ≡ E.layer3_call_step role sapi call es
  asked-event_step event h es = grind arith

  pub asked-refusal : (event : A.Event) → IsLayer3CallTo event role sapi call → (a : AirState) →
      refusal event a ≡ E.call_refusal_with_capacity E.bounded_capacity (queue_length a.queues) role sapi call a.ends
  asked-refusal event h a = grind arith

  pub asked-plain : (event : A.Event) → IsLayer3CallTo event role sapi call → (a : AirState) →
      EventDelivers a event None None × (queues_after_removal event a.queues ≡ a.queues)
  asked-plain event h a = grind arith

-- a refused event is a step of the world, if the specification refuses it for this reason
pub refused_step : (event : A.Event) (why : No) (w w' : WorldState) → w' ≡ w → IsValidWorld w →
    ((a : AirState) → Represents w a → refusal event a ≡ Some (spec_event_refusal_of why)) → IsWorldStep event w (Err why) w'
refused_step event why w w' same valid refuses = rw same (record {
  refines = λ a st. (a, st, (refuses a st, refl));
  valid = valid;
  refused = refl;
  fits_actor = tt;
})

pub on-channel : (w : WorldState) (ends' : BothSides) (effects : Effects) (event_step : E.BothSides → E.SideStep) → IsValidWorld w →
    F.StepRefines (F.channel_of_ends w.ends) event_step w.ends effects ends' → F.StepRefines w.channel event_step w.ends effects ends'
on-channel w ends' effects event_step s h = rw s.channel h

Represents-rest : (sender : Role) (w m : WorldState) (a : AirState) (b : Block) →
    queued_blocks sender w ≡ b ∷ queued_blocks sender m →
    DiffersOnlyInQueue sender w m → Represents w a → Represents m (record a { queues = without_oldest_item sender a.queues })
Represents-rest Mobile w m a b first s st = record {
  tsc = s.tsc ∙ st.tsc;
  channel = s.channel ∙ st.channel;
  ends = rw s.ends st.ends;
  up = rw (← st.up, first) refl;
  down = s.other_queue_same ∙ st.down;
}
Represents-rest Network w m a b first s st = record {
  tsc = s.tsc ∙ st.tsc;
  channel = s.channel ∙ st.channel;
  ends = rw s.ends st.ends;
  up = s.other_queue_same ∙ st.up;
  down = rw (← st.down, first) refl;
}

appends-no_frames : (w : WorldState) (effects : Effects) → effects.frames ≡ [] → AppendsToQueue Mobile effects.frames w w
appends-no_frames w effects none = record {
  appends = rw none (Appends-none w.tsc (queued_blocks Mobile w));
  rest_same = record { other_queue_same = refl; tsc = refl; channel = refl; ends = refl };
}

pub lose-oldest : (sender : Role) (w m : WorldState) (effects : Effects) → LosesOldestBlockFrom sender w m →
    E.is_empty (length (queued_blocks sender w)) ≡ false → effects.frames ≡ [] → effects.notices ≡ [] → (a : AirState) →
    Represents w a → (b : AirState) × Represents m b × IsAirStep a (E.Lose sender) b (A.Accepts (step_by E.Nobody Zero None effects))
lose-oldest sender w m effects h some no_frames no_notices a st =
    let i = Represents-rest sender w m a h.block h.queue_front h.rest_same st in
    let f = carries_out_event (E.Lose sender) a m m None effects E.Nobody Zero None Mobile (record {
      tsc = i.tsc;
      channel = i.channel;
      ends = i.ends;
      has_effects = record { frames = no_frames; notices = no_notices };
      up = i.up;
      down = i.down;
    }) (appends-no_frames m effects no_frames) tt refl refl refl in
    (f.0, f.1, (refusal_if-false _ E.Nothing None (on-queue E.is_empty false sender w a st some), f.2))

pub receive-oldest : (sender end : Role) (places : List ℕ) (w m w' : WorldState) (ends' : BothSides) (received : Option Received)
    (sapi : Sapi)
    (effects : Effects) (step : A.Step) → end ≡ E.other sender → ReceivesOldestBlockFrom sender places w received m →
    IsValidWorld m →
    ((report : Received) → received ≡ Some report → F.TakesBlock end report.accepted m.ends sapi effects ends') →
    E.is_empty (length (queued_blocks sender w)) ≡ false → E.is_queue_full (length (queued_blocks end w)) ≡ false →
    AppendsToQueue end effects.frames (record m { ends = ends' }) w' → step ≡ step_by (E.BySide end) sapi received effects →
    (a : AirState) → Represents w a → (b : AirState) × Represents w' b × IsAirStep a (E.Deliver sender places) b (A.Accepts step)
receive-oldest sender end places w m w' ends' received sapi effects step e h valid hears some room sends is a st =
    let i = Represents-rest sender w m a h.received.block h.received.queue_front h.rest_same st in
    let heard : F.TakesBlock (E.other sender) h.report.accepted m.ends sapi effects ends' =
    subst (λ r. F.TakesBlock r h.report.accepted m.ends sapi effects ends') e (hears h.report h.arrived_is_report) in
    let read = frame_in_accepted a.channel h.report.accepted in
    let reads = ReadsFrame-frame_in_accepted a.channel h.report.accepted (accepted_count _ h.report h.received.received) in
    let on : F.channel_of_ends m.ends ≡ a.channel = sym valid.channel ∙ i.channel in
    let on_its_channel : ReadsFrame (F.channel_of_ends m.ends) h.report.accepted read =
    subst (λ c. ReadsFrame c h.report.accepted read) (sym on) reads in
    let did = heard.refines read on_its_channel a.ends i.ends in
    let stepped : step ≡ step_by (E.BySide (E.other sender)) sapi (Some h.report) effects =
    subst (λ r. step ≡ step_by (E.BySide r) sapi (Some h.report) effects) e
    (subst (λ o. step ≡ step_by (E.BySide end) sapi o effects) h.arrived_is_report is) in
    let f = carries_out_event (E.Deliver sender places) a (record m { ends = ends' }) w' read effects (E.BySide (E.other sender)) sapi
    (Some h.report) (E.other sender) (record {
      tsc = i.tsc;
      channel = i.channel;
      ends = did.0;
      has_effects = subst (λ c. F.HasEffects effects c (E.step_for_read_frame (E.other sender) read a.ends)) on did.1;
      up = i.up;
      down = i.down;
    }) (rw e at sends) (record {
      block = h.received.block;
      later_blocks = queued_blocks sender m;
      queue_front = sym (same-queue sender w a st) ∙ h.received.queue_front;
      received = h.received.received;
      reads_frame = reads;
    }) refl refl (heard.sapi_matches read on_its_channel a.ends i.ends) in (
      f.0,
      f.1,
      (
        refusal_if-false _ E.Nothing _ (on-queue E.is_empty false sender w a st some)
            ∙ refusal_if-false _ E.AirFull None (on-queue E.is_queue_full false (E.other sender) w a st (rw e at room)),
        subst (λ s. CarriesOutEvent a (E.Deliver sender places) f.0 s) (sym stepped) f.2,
      ),
    )

pub deliver-full_queue : (sender end : Role) (places : List ℕ) (w : WorldState) → end ≡ E.other sender →
    E.is_empty (length (queued_blocks sender w)) ≡ false → E.is_queue_full (length (queued_blocks end w)) ≡ true →
    (a : AirState) → Represents w a → refusal (E.Deliver sender places) a ≡ Some E.AirFull
deliver-full_queue sender end places w e some full a st =
    refusal_if-false _ _ _ (on-queue E.is_empty false sender w a st some)
    ∙ refusal_if-true _ _ _ (on-queue E.is_queue_full true (E.other sender) w a st (rw e at full))

room-bound : (n m : ℕ) → nat_lt 62 n ≡ false → m ≡ n → m ≤ 62
room-bound n m h e = grind (arith, nat_tests)

room-at : (sender : Role) (w m : WorldState) (ends' : BothSides) → DiffersOnlyInQueue sender w m →
    E.is_queue_full (length (queued_blocks (E.other sender) w)) ≡ false →
    length (queued_blocks (E.other sender) (record m { ends = ends' })) ≤ 62
room-at Mobile w m ends' s h = room-bound (length w.down.items) (length m.down.items) h (ap length s.other_queue_same)
room-at Network w m ends' s h = room-bound (length w.up.items) (length m.up.items) h (ap length s.other_queue_same)

pub room-other : (sender end : Role) (w m : WorldState) (ends' : BothSides) → end ≡ E.other sender → DiffersOnlyInQueue sender w m →
    E.is_queue_full (length (queued_blocks end w)) ≡ false → length (queued_blocks end (record m { ends = ends' })) ≤ 62
room-other sender end w m ends' e s h = rw e (room-at sender w m ends' s (rw e at h))

rival-by : (b c : Bool) → b ≡ false → c ≡ false → first_refusal ((b, RQ.Empty) ∷ (c, RQ.TooLong) ∷ []) ≡ None
rival-by b c h g = rw (h, g) refl

pub rival-not_refused : (info : Message) (w : WorldState) → E.is_queue_full (length (queued_blocks Mobile w)) ≡ false →
    nat_eq (length info) 0 ≡ false → nat_lt (n201 w.channel) (length info) ≡ false → (a : AirState) → Represents w a →
    refusal (E.Rival info) a ≡ None
rival-not_refused info w full some short a st =
    refusal_if-false _ E.AirFull _ (on-queue E.is_queue_full false Mobile w a st full) ∙ ap E.as_event_refusal
    (rival-by _ _ some (rw st.channel at short))
