-- The calls of `open_link` are a run of a program that connects two endpoints.
use Rattle.{
  lapdm_frame.{proofs.Lemmas.only_canonical, specs.{Content.{Frame, Ua}, Frames.{FrameFits, octets_of}, declared.Channel.Channel}},
  std.proofs.Common.{All, List, Some, [], ap, arith, inl, length, refl, slice_index_or, subst, sym, take, true, ℕ, ◌∙◌, ◌∷◌},
  std.proofs.{Common.{◌≡◌, ◌≤◌}, lemmas.{Bool.Decides.nat_tests, List.{Elements.All-head, length-map}}},
  std.{proofs.lemmas.Slice.Eq.bytes_eq-Decides, specs.Str.bytes_eq},
  um_air.{proofs.lapdm_window.Lemmas.{keeps-call, keeps-frame}, specs.lapdm_link.Carriers.FirstSatisfies},
  um_air.specs.lapdm_window.{Calls.{Opens, sends_sabm}, Ends.{EndpointState, IsValidEndpoint, Mobile, Network, Outcome, response_frame}},
  um_air.specs.{lapdm_window.{Tables.frame_outcome, declared.Sapi.TheVariants.Zero}, segmenting.Segments.Message},
  um_c.{
    proofs.Sessions.{endpoint-left, left_in},
    specs.{EndCalls.{EndpointAnswersCall, EndpointReceivesBlock, SucceedsWithOutcome}, Joined.{DeliversOldestBlock, EncodeSameFrame}},
    specs.{Joined.{IsProgramRun, ProgramState, blocks_sent}, Opening.{BothAreIdle, CanEstablishLink, establishment_steps, first_block}},
    specs.Opening.{mobile_after_establishment, network_after_establishment, program_of_two_endpoints, sabm_with_info},
    specs.{States.StructRepresents, declared.{effects.CEffects.CEffects, states.CEndpoint.CEndpoint}},
  },
}
use Rattle.um_air.specs.lapdm_link.Queues.{without_oldest_item as queues_without_first}
use Rattle.um_air.specs.lapdm_window.declared.Notice.TheVariants as N

-- ## Exchanged: If two endpoints satisfy `CanEstablishLink`, they exchange a SABM and a UA, and both are in Open afterwards.

-- a list of length 1 consists of a single frame
length_1-single_frame : (fs : List Frame) → length fs ≡ 1 → (g : Frame) × (fs ≡ g ∷ [])
length_1-single_frame (g ∷ []) h = (g, refl)
length_1-single_frame fs h = absurd (omega arith)

module _ {channel : Channel} {o : Outcome} {answer : ℕ} {s : CEndpoint} {output : CEffects}
    (done : SucceedsWithOutcome channel o answer s output)
  where
    count : output.frame_count ≡ length o.frames
    count = rw done.effects (length-map o.frames (octets_of channel))

    block : (g : Frame) → o.frames ≡ g ∷ [] → first_block output ≡ octets_of channel g
    block g one = rw (done.effects, one) refl

-- if the octets are the canonical octets of a frame that fits in a block, the endpoint receives that frame
receives_coded_frame : {f : EndpointState}
    (g : Frame) {octets : List ℕ} {answer : ℕ} {n n' : CEndpoint} {output_old output : CEffects} →
    StructRepresents n f →
    FrameFits f.channel g → octets ≡ octets_of f.channel g → EndpointReceivesBlock octets answer n n' output_old output →
    SucceedsWithOutcome f.channel (frame_outcome g f) answer n' output
receives_coded_frame {f} g represents fits same answers_block =
    answers_block.carried_out f represents g (rw same (only_canonical f.channel g fits).encodes_only_this_frame)

StructRepresents-valid : {s : CEndpoint} {e : EndpointState} → StructRepresents s e → IsValidEndpoint e
StructRepresents-valid h = h.represents_values.represents.valid

module _ {info : Message} {e f : EndpointState} {m n : CEndpoint} (mobile : StructRepresents m e) (network : StructRepresents n f)
    (can_establish : CanEstablishLink info e f) where
  abbrev sabm : Frame
  sabm = sabm_with_info info

  same_sabm : (sends_sabm info e).frames ≡ sabm ∷ []
  same_sabm = rw (can_establish.allowed.0, can_establish.allowed.1) refl

  abbrev reply : Outcome
  reply = frame_outcome sabm f

  sabm-fits : FrameFits f.channel sabm
  sabm-fits =
      let k = keeps-call (Opens info) e (StructRepresents-valid mobile) can_establish.allowed can_establish.not_refused in
      rw (← can_establish.same_channel) (All-head (FrameFits e.channel) sabm [] (subst (All (FrameFits e.channel)) same_sabm k.frames))

  pub answer-one : (g : Frame) × (reply.frames ≡ g ∷ [])
  answer-one = length_1-single_frame reply.frames can_establish.one_answer

  answer-fits : FrameFits e.channel answer-one.0
  answer-fits =
      let k = keeps-frame sabm f (StructRepresents-valid network) sabm-fits in
      subst (λ x. FrameFits x answer-one.0) (sym can_establish.same_channel)
      (All-head (FrameFits f.channel) answer-one.0 [] (subst (All (FrameFits f.channel)) answer-one.1 k.frames))

  module _ {a : ℕ} {m' : CEndpoint} {output_old asked : CEffects}
      (answers_call : EndpointAnswersCall (Opens info) a m m' output_old asked) where
    pub was-asked : SucceedsWithOutcome e.channel (sends_sabm info e) a m' asked
    was-asked = answers_call.carried_out e mobile can_establish.allowed can_establish.not_refused

    pub asked-one : asked.frame_count ≡ 1
    asked-one = count was-asked

    module _ {b : ℕ} {n' : CEndpoint} {untold' answered : CEffects} {octets : List ℕ} (at : octets ≡ first_block asked)
        (answers_block : EndpointReceivesBlock octets b n n' untold' answered) where
      pub was-answered : SucceedsWithOutcome f.channel reply b n' answered
      was-answered =
          receives_coded_frame sabm network sabm-fits (rw (← can_establish.same_channel) (at ∙ block was-asked sabm same_sabm))
          answers_block

      pub answered-one : answered.frame_count ≡ 1
      answered-one = count was-answered ∙ can_establish.one_answer

      module _ {c : ℕ} {m'' : CEndpoint} {untold'' opened : CEffects} {octets' : List ℕ} (at' : octets' ≡ first_block answered)
          (answers_block' : EndpointReceivesBlock octets' c m' m'' untold'' opened) where
        pub was-opened : SucceedsWithOutcome e.channel (frame_outcome answer-one.0 (sends_sabm info e).new_state) c m'' opened
        was-opened = receives_coded_frame answer-one.0 was-asked.represents answer-fits
            (at' ∙ block was-answered answer-one.0 answer-one.1 ∙ ap (λ x. octets_of x answer-one.0) (sym can_establish.same_channel))
            answers_block'

-- ---- the exchange of SABM and UA between two endpoints in Idle

taken : (info : Message) (e f : EndpointState) → BothAreIdle info e f → frame_outcome (sabm_with_info info) f
    ≡ record {
      new_state = network_after_establishment info f;
      frames = response_frame f (Ua true info) ∷ [];
      notices =
          N.Opened info ∷ [];
    }
taken [] e f both = absurd (omega (arith, both.nonempty))
taken (x ∷ xs) e f both = cc

module _ {info : Message} {e f : EndpointState} (idle : BothAreIdle info e f) where
  pub allowed-exchange : CanEstablishLink info e f
  allowed-exchange = record {
    same_channel = idle.same_channel;
    allowed = (idle.mobile_idle.sapi, idle.mobile_idle.role);
    not_refused = grind (arith, nat_tests, idle.mobile_idle.state, idle.nonempty, idle.fits);
    one_answer = rw (taken info e f idle) refl;
  }

  opened-by : (frame_outcome (response_frame f (Ua true info)) (sends_sabm info e).new_state).new_state ≡ mobile_after_establishment
      info e
  opened-by =
      let same : bytes_eq info info ≡ true = (bytes_eq-Decides info info).1 refl in
      rw (idle.mobile_idle.role, idle.mobile_idle.sapi, idle.network_idle.role, idle.network_idle.sapi, same) refl

  module _ {m m' m'' n n' : CEndpoint} {output_old untold' untold'' asked answered opened : CEffects} {a b c : ℕ}
      {octets octets' : List ℕ} (mobile : StructRepresents m e) (network : StructRepresents n f)
      (answers_call : EndpointAnswersCall (Opens info) a m m' output_old asked) (at : octets ≡ first_block asked)
      (answers_block : EndpointReceivesBlock octets b n n' untold' answered) (at' : octets' ≡ first_block answered)
      (answers_block' : EndpointReceivesBlock octets' c m' m'' untold'' opened) where
    pub both-open : StructRepresents m'' (mobile_after_establishment info e) × StructRepresents n' (network_after_establishment info f)
    both-open =
        let one = answer-one mobile network allowed-exchange in
        let frames : one.0 ∷ [] ≡ response_frame f (Ua true info) ∷ [] =
        sym one.1 ∙ ap (λ (o : Outcome). o.frames) (taken info e f idle) in
        let same : one.0 ≡ response_frame f (Ua true info) = cc frames in (
          subst (StructRepresents m'') (ap (λ (g : Frame). (frame_outcome g (sends_sabm info e).new_state).new_state) same ∙ opened-by)
              (was-opened mobile network allowed-exchange answers_call at answers_block at' answers_block').represents,
          subst (StructRepresents n') (ap (λ (o : Outcome). o.new_state) (taken info e f idle))
              (was-answered mobile network allowed-exchange answers_call at answers_block).represents,
        )

-- ## Opened: If all three calls of `open_link` succeed, they are a run of the program that establishes the link.

-- the call succeeded and sent exactly one block
pub record SentOneBlock (answer : ℕ) (output : CEffects) : Type 0 where
  pub answer_is_0 : answer ≡ 0
  pub count : output.frame_count ≡ 1
  pub capacity : length output.frames ≡ 2
  pub size : length (first_block output) ≡ 23

take_1-first_block : (blocks : List (List ℕ)) (n : ℕ) → n ≡ 1 → 1 ≤ length blocks →
    take n blocks ≡ slice_index_or blocks 0 [] ∷ []
take_1-first_block (b ∷ bs) n one some = rw one refl
take_1-first_block [] n one some = absurd (omega arith)

-- if a call sent one block, the receiver gets that block unchanged
arrives_unchanged : (channel : Channel) {answer : ℕ} {output : CEffects} → SentOneBlock answer output →
    FirstSatisfies (λ first. EncodeSameFrame channel first (first_block output)) (blocks_sent 0 output)
arrives_unchanged channel {output} h =
    rw (take_1-first_block output.frames output.frame_count h.count (omega (arith, h.capacity))) (λ f is. inl is)

pub opening-IsProgramRun : (channel : Channel) (info : Message) {m m' m'' n n' : CEndpoint}
    {output_old untold' untold'' asked answered opened : CEffects} {a b c : ℕ} →
    SentOneBlock a asked → SentOneBlock b answered → c ≡ 0 →
    EndpointAnswersCall (Opens info) a m m' output_old asked →
    EndpointReceivesBlock (first_block asked) b n n' untold' answered →
    EndpointReceivesBlock (first_block answered) c m' m'' untold'' opened →
    (z : ProgramState) × IsProgramRun channel DeliversOldestBlock (program_of_two_endpoints m n)
    (establishment_steps info asked answered opened) z
    × (z.state Mobile Zero ≡ Some m'')
    × (z.state Network Zero ≡ Some n')
opening-IsProgramRun channel info {m} {m'} {m''} {n} {n'} {output_old} {untold'} {untold''} {asked} {answered} {opened} h g e answers_call
    answers_block answers_block' =
    let old = program_of_two_endpoints m n in
    let sent = left_in old Mobile Zero m' (blocks_sent 0 asked) old.queues in
    let left = queues_without_first Mobile sent.queues in
    let responded = left_in sent Network Zero n' (blocks_sent 0 answered) left in
    let done = left_in responded Mobile Zero m'' (blocks_sent 0 opened) (queues_without_first Network responded.queues) in (
      done,
      (
        tt,
        sent,
        (m, m', output_old, rw h.answer_is_0 at answers_call, endpoint-left _ _ _ refl),
        (
          arrives_unchanged channel h,
          responded,
          (n, n', untold', rw g.answer_is_0 at answers_block, endpoint-left _ _ _ refl, h.size),
          (arrives_unchanged channel g, done, (m', m'', untold'', rw e at answers_block', endpoint-left _ _ _ refl, g.size), refl),
        ),
      ),
      refl,
      refl,
    )
