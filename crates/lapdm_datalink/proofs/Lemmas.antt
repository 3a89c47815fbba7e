-- Lemmas about links and data links.
use Rattle.std.proofs.Common.{◌≡◌, ◌≢◌, ◌≤◌, ◌∙◌, refl, sym, arith, ap, ℕ, Bool, true, false, not, ◌&&◌, List}
use Rattle.std.proofs.Common.{[]}
use Rattle.std.proofs.Common.{◌∷◌, map, length, get_or}
use Rattle.std.proofs.Common.{All, if◌then◌else◌}
use Rattle.std.proofs.Common.{Option, Some, None, Result, Ok, Err, OnOk, OnErr}
use Rattle.std.specs.Result.{result_err}
use Rattle.std.specs.Option.{option_map}
use Rattle.std.specs.Prelude.{IfSome}
use Rattle.std.proofs.lemmas.List.Elements.{All-head, All-tail}
use Rattle.lapdm_frame.proofs.Lemmas.{only_canonical}
use Rattle.lapdm_frame.specs.declared.Channel.{Channel}
use Rattle.lapdm_frame.specs.Content.{Frame}
use Rattle.lapdm_frame.specs.Frames.{FrameFits, octets_of}
use Rattle.lapdm_frame.specs.Readings.{IsOnlyEncodedFrame}
use Rattle.lapdm_end.specs.lapdm_window.declared.effects.Effects.{Effects}
use Rattle.lapdm_end.specs.lapdm_window.declared.State.{State}
use Rattle.lapdm_end.specs.lapdm_window.Ends.{EndpointState, Outcome, awaits_answer, IsValidEndpoint, Role, sapi_number}
use Rattle.lapdm_end.specs.Addresses.{spec_role_of}
use Rattle.lapdm_end.specs.lapdm_window.Calls.{Call, OpensWithoutInfo, T200Expires, refusal_of, call_outcome, IsCallAllowedForEndpoint}
use Rattle.lapdm_end.specs.lapdm_window.Calls.{awaited_frame}
use Rattle.lapdm_end.specs.lapdm_window.Steps.{HasEffects}
use Rattle.lapdm_end.specs.lapdm_window.Tables.{SendsDm, outcome_of_reply, reply_to_frame}
use Rattle.lapdm_link.proofs.lapdm_window.Lemmas.{Keeps, keeps-call, keeps-frame, IsValidEndpoint-initial}
use Rattle.lapdm_end.specs.declared.ends.Endpoint.{Endpoint}
use Rattle.lapdm_end.specs.Abstraction as E
use Rattle.lapdm_datalink.specs.declared.links.Link.{Link}
use Rattle.lapdm_datalink.specs.Links.{LinkState, is_awaiting_kind, with_frame, with_frames, with_outcome, without_needless_answer, is_due}
use Rattle.lapdm_datalink.specs.Links.{SlotOutcome, sends_due_frame, expires, sends_awaited, sends_nothing, sends_answer, keeps_back}
use Rattle.lapdm_datalink.specs.Links.{slot_outcome_owing, renewed_for, after_received, as_normal, as_taken, is_opened_again, is_return}
use Rattle.lapdm_datalink.specs.Links.{refuses}
use Rattle.lapdm_datalink.specs.Links.{is_sapi3}
use Rattle.lapdm_datalink.specs.Links.{may_be_established, for_establishment, after_establishment}
use Rattle.lapdm_datalink.specs.DataLinks.{DataLinkState, IsDataLink, with_sapi3, link_with_sapi, with_link, having_heard}
use Rattle.lapdm_datalink.specs.DataLinks.{with_clocks_moved, on_sapi0}
use Rattle.lapdm_end.specs.lapdm_window.declared.Sapi.TheVariants.{Zero, Three}
use Rattle.lapdm_datalink.specs.Links.{afresh, for_call, for_frame, after_call, after_frame, ignores, received_outcome, slot_outcome}
use Rattle.lapdm_end.specs.lapdm_window.declared.Sapi.{Sapi}
use Rattle.lapdm_datalink.specs.Abstraction.{Represents, MayWait, MayBeReturned}
use Rattle.lapdm_datalink.specs.Parts.{LinkValues, ValuesRepresent, SomeLinkHasValues, IsAnswerBlock, HasAnswerBlockIfAny}
use Rattle.lapdm_datalink.specs.Parts.{DataLinkValues, RepresentDataLink}
use Rattle.lapdm_end.proofs.Lemmas.{one_values}
use Rattle.lapdm_datalink.proofs.Returned.{Returns, may_be_returned}
use Rattle.lapdm_end.specs.Parts.{EndpointValues}
use Rattle.lapdm_end.specs.Parts as P

-- reading the octets of a frame gives this frame
pub read_back : {c : Channel} {f g : Frame} {block : List ℕ} → FrameFits c f → block ≡ octets_of c f →
    IsOnlyEncodedFrame c g block → g ≡ f
read_back {c} {f} {g} {block} fits is read = (only_canonical c f fits).encodes_only_this_frame.unique g (rw is at read.frame)

-- a frame that awaits an answer is due, any other is the answer
pub kept_due : (m : Link) (f : Frame) (l : LinkState) → is_awaiting_kind f.content ≡ true → Represents m l →
    Represents (record m { is_sent = false; clock = 0 }) (with_frame f l)
kept_due m f l awaits h = grind arith

pub kept_answer : (m : Link) (f : Frame) (l : LinkState) (block : List ℕ) → is_awaiting_kind f.content ≡ false →
    MayBeReturned l.endpoint f → block ≡ octets_of l.endpoint.channel f → Represents m l →
    Represents (record m { answer = Some block }) (with_frame f l)
kept_answer m f l block awaits may is h = grind (arith, may.1 awaits)

-- the endpoint of a link is not changed by what is kept
pub endpoint_with_frame : (f : Frame) (l : LinkState) → (with_frame f l).endpoint ≡ l.endpoint
endpoint_with_frame f l = grind arith

-- link `n` is link `m` after it kept this block
abbrev pub HasKept : (m n : Link) (block : List ℕ) → Type 0
HasKept m n block = (f : Frame) (l : LinkState) → MayBeReturned l.endpoint f → block ≡ octets_of l.endpoint.channel f →
    Represents m l → Represents n (with_frame f l)

abbrev pub HasKeptAll : (m n : Link) (blocks : List (List ℕ)) → Type 0
HasKeptAll m n blocks = (fs : List Frame) (l : LinkState) → All (MayBeReturned l.endpoint) fs →
    blocks ≡ map (octets_of l.endpoint.channel) fs → Represents m l → Represents n (with_frames fs l)

pub kept_one : (m n : Link) (blocks : List (List ℕ)) → length blocks ≡ 1 → HasKept m n (get_or blocks 0 []) →
    HasKeptAll m n blocks
kept_one m n blocks one kept [] l fits is h = absurd (omega (arith, ap length is))
kept_one m n blocks one kept (f ∷ []) l fits is h =
    kept f l (All-head (MayBeReturned l.endpoint) f [] fits) (ap (λ (bs : List (List ℕ)). get_or bs 0 []) is) h
kept_one m n blocks one kept (f ∷ g ∷ fs) l fits is h = absurd (omega (arith, ap length is))

pub kept_two : (m k n : Link) (blocks : List (List ℕ)) → length blocks ≢ 0 → length blocks ≢ 1 → length blocks ≤ 2 →
    HasKept m k (get_or blocks 0 []) → HasKept k n (get_or blocks 1 []) → HasKeptAll m n blocks
kept_two m k n blocks some two most first second [] l fits is h = absurd (some (ap length is))
kept_two m k n blocks some two most first second (f ∷ []) l fits is h = absurd (two (ap length is))
kept_two m k n blocks some two most first second (f ∷ g ∷ []) l fits is h =
    let tail = All-tail (MayBeReturned l.endpoint) f (g ∷ []) fits in
    second g (with_frame f l) (rw (endpoint_with_frame f l) (All-head (MayBeReturned l.endpoint) g [] tail))
    (rw (endpoint_with_frame f l) (ap (λ (bs : List (List ℕ)). get_or bs 1 []) is))
    (first f l (All-head (MayBeReturned l.endpoint) f (g ∷ []) fits) (ap (λ (bs : List (List ℕ)). get_or bs 0 []) is) h)
kept_two m k n blocks some two most first second (f ∷ g ∷ e ∷ fs) l fits is h = absurd (omega (arith, ap length is))

-- the Rust link still represents the link after its endpoint steps
pub endpoint_replaced : (m : Link) (e : Endpoint) (l : LinkState) (o : Outcome) → Keeps l.endpoint o → Represents m l →
    E.Represents e o.new_state → Represents (record m { endpoint = e }) (record l { endpoint = o.new_state })
endpoint_replaced m e l o k h does = record {
  endpoint = does;
  t200 = h.t200;
  answer = rw k.channel h.answer;
  is_answer = rw (k.role, k.sapi, k.channel) h.is_answer;
  is_sent = h.is_sent;
  clock = h.clock;
  heard = h.heard;
}

-- the Rust link represents the outcome of its endpoint once it has kept the frames of this outcome
pub outcome_kept : (m n : Link) (e : Endpoint) (effects : Effects) (l : LinkState) (o : Outcome) → Keeps l.endpoint o →
    Returns l.endpoint o → Represents m l →
    E.Represents e o.new_state × HasEffects effects l.endpoint.channel o →
    HasKeptAll (record m { endpoint = e }) n effects.frames → Represents n (with_outcome o l)
outcome_kept m n e effects l o k r h does kept =
    kept o.frames (record l { endpoint = o.new_state }) (rw (k.role, k.sapi, k.channel) (may_be_returned k r))
    (rw k.channel does.1.frames)
    (endpoint_replaced m e l o k h does.0)

-- a frame still fits as the endpoint takes it
pub taken_fits : (c : Channel) (f : Frame) (l : LinkState) → FrameFits c f → FrameFits c (as_taken f l)
taken_fits c f l h = grind arith

pub sapi_fits : (s : Sapi) → sapi_number s ≤ 7
sapi_fits s = grind arith

-- T200 expiry is refused only if no frame awaits an answer
pub t200_is_allowed : (e : EndpointState) → awaits_answer e ≡ true → refusal_of T200Expires e ≡ None
t200_is_allowed e h = rw h refl

-- what a link whose frame is due sends: its answer, if it goes, makes no difference
pub channel_needless : (l : LinkState) → (without_needless_answer l).endpoint.channel ≡ l.endpoint.channel
channel_needless l = grind arith

pub sent_needless : (l : LinkState) → (without_needless_answer l).is_sent ≡ l.is_sent
sent_needless l = grind arith

pub awaits_needless : (l : LinkState) → is_due l ≡ true → awaits_answer (without_needless_answer l).endpoint ≡ true
awaits_needless l due = grind arith

pub due_again : (l : LinkState) → is_due l ≡ true → l.is_sent ≡ true → sends_due_frame l ≡ expires (without_needless_answer l)
due_again l due sent = rw (due, sent) refl

pub due_first : (l : LinkState) → is_due l ≡ true → l.is_sent ≡ false →
    sends_due_frame l ≡ sends_awaited (without_needless_answer l)
due_first l due sent = rw (due, sent) refl

-- ## Slots: SAPI 3 has the slot exactly if SAPI 0 sends nothing.

pub sapi0_sends : (o : SlotOutcome) (sent : Option Frame) (s : DataLinkState) (c : Channel) (block : List ℕ) →
    Some block ≡ option_map (octets_of c) sent →
    with_sapi3 o sent s ≡ record {
      new_state = record s { link0 = o.link };
      frame = option_map (on_sapi0 s.link0.endpoint.sapi) sent;
      notices0 = o.notices;
      notices3 = [];
    }
sapi0_sends o (Some f) s c block h = refl
sapi0_sends o None s c block h = absurd cc

pub sapi3_sends : (o : SlotOutcome) (sent : Option Frame) (s : DataLinkState) (c : Channel) → None ≡ option_map (octets_of c) sent →
    with_sapi3 o sent s ≡ with_sapi3 o None s
sapi3_sends o None s c h = refl
sapi3_sends o (Some f) s c h = absurd cc

-- what was heard makes no difference to what a link takes
pub passed : (sapi : Sapi) (f : Frame) (s : DataLinkState) → link_with_sapi sapi s ≡ link_with_sapi sapi (having_heard f s)
passed sapi f s = grind arith

-- ## Parts: Values of a link are those of its endpoint, and an answer that may wait.

pub endpoint_values : (x : LinkValues) (l : LinkState) → ValuesRepresent x l → P.ValuesRepresent x.endpoint l.endpoint
endpoint_values x l h = record {
  endpoint = h.link.endpoint;
  values_match = ap (λ (y : LinkValues). y.endpoint) h.values_match;
  represents = h.represents.endpoint;
}

pub some_endpoint : (x : LinkValues) → SomeLinkHasValues x → P.SomeEndpointHasValues x.endpoint
some_endpoint x h = (h.0.endpoint, endpoint_values x h.0 h.1)

-- the values have the role, the SAPI and the channel of the endpoint that they represent
pub record HasAddressOf (x : EndpointValues) (e : EndpointState) : Type 0 where
  pub role : spec_role_of x.role ≡ e.role
  pub sapi : x.sapi ≡ e.sapi
  pub channel : x.window.channel ≡ e.channel

pub address_of_values : (x : EndpointValues) (e : EndpointState) → P.ValuesRepresent x e → HasAddressOf x e
address_of_values x e h = record {
  role = sym (ap (λ (y : EndpointValues). spec_role_of y.role) h.values_match) ∙ h.represents.address.role;
  sapi = sym (ap (λ (y : EndpointValues). y.sapi) h.values_match) ∙ h.represents.address.sapi;
  channel = sym (ap (λ (y : EndpointValues). y.window.channel) h.values_match) ∙ h.represents.variables.channel;
}

block_of_answer : (role : Role) (sapi : Sapi) (c : Channel) (a : Option Frame) (b : Option (List ℕ)) →
    b ≡ option_map (octets_of c) a →
    IfSome a (MayWait role sapi c) → IfSome b (IsAnswerBlock role sapi c)
block_of_answer role sapi c None b is h = rw is tt
block_of_answer role sapi c (Some f) b is h = rw is (f, h, refl)

pub some_answer : (x : LinkValues) → SomeLinkHasValues x → HasAnswerBlockIfAny x
some_answer x h =
    let at = address_of_values x.endpoint h.0.endpoint (endpoint_values x h.0 h.1) in
    rw (at.role, at.sapi, at.channel)
    (block_of_answer h.0.endpoint.role h.0.endpoint.sapi h.0.endpoint.channel h.0.answer x.answer
    (sym (ap (λ (y : LinkValues). y.answer) h.1.values_match) ∙ h.1.represents.answer) h.1.represents.is_answer)

answer_in_block : (role : Role) (sapi : Sapi) (c : Channel) (b : Option (List ℕ)) → IfSome b (IsAnswerBlock role sapi c) →
    (a : Option Frame) × (b ≡ option_map (octets_of c) a) × IfSome a (MayWait role sapi c)
answer_in_block role sapi c None h = (None, refl, tt)
answer_in_block role sapi c (Some block) h = (Some h.0, ap Some h.2, h.1)

pub some_link : (x : LinkValues) → P.SomeEndpointHasValues x.endpoint → HasAnswerBlockIfAny x → SomeLinkHasValues x
some_link x e h =
    let at = address_of_values x.endpoint e.0 e.1 in
    let a = answer_in_block e.0.role e.0.sapi e.0.channel x.answer (rw (at.role, at.sapi, at.channel) at h) in
    let l : LinkState = record {
      endpoint = e.0;
      t200 = x.t200;
      answer = a.0;
      is_sent = x.is_sent;
      clock = x.clock;
      heard = x.heard;
    } in
    let m : Link = record {
      endpoint = e.1.endpoint;
      t200 = x.t200;
      answer = x.answer;
      is_sent = x.is_sent;
      clock = x.clock;
      heard = x.heard;
    } in (
      l,
      record {
        link = m;
        values_match = ap (λ (y : EndpointValues). let z : LinkValues = record x { endpoint = y } in z) e.1.values_match;
        represents = record {
          endpoint = e.1.represents;
          t200 = refl;
          answer = a.1;
          is_answer = a.2;
          is_sent = refl;
          clock = refl;
          heard = refl;
        };
      },
    )

-- a Rust link with these values and an endpoint that represents that of the link represents the link
pub link_with_values : (x : LinkValues) (e : Endpoint) (l : LinkState) → ValuesRepresent x l → E.Represents e l.endpoint →
    Represents (record {
      endpoint = e;
      t200 = x.t200;
      answer = x.answer;
      is_sent = x.is_sent;
      clock = x.clock;
      heard = x.heard;
    }) l
link_with_values x e l h end = record {
  endpoint = end;
  t200 = sym (ap (λ (y : LinkValues). y.t200) h.values_match) ∙ h.represents.t200;
  answer = sym (ap (λ (y : LinkValues). y.answer) h.values_match) ∙ h.represents.answer;
  is_answer = h.represents.is_answer;
  is_sent = sym (ap (λ (y : LinkValues). y.is_sent) h.values_match) ∙ h.represents.is_sent;
  clock = sym (ap (λ (y : LinkValues). y.clock) h.values_match) ∙ h.represents.clock;
  heard = sym (ap (λ (y : LinkValues). y.heard) h.values_match) ∙ h.represents.heard;
}

one_link_values : (x y : LinkValues) (l : LinkState) → ValuesRepresent x l → ValuesRepresent y l → x ≡ y
one_link_values x y l h g =
    let m = h.represents in
    let n = g.represents in
    sym h.values_match
    ∙ (λ i. record {
      endpoint = one_values h.link.endpoint g.link.endpoint l.endpoint m.endpoint n.endpoint i;
      t200 = (m.t200 ∙ sym n.t200) i;
      answer = (m.answer ∙ sym n.answer) i;
      is_sent = (m.is_sent ∙ sym n.is_sent) i;
      clock = (m.clock ∙ sym n.clock) i;
      heard = (m.heard ∙ sym n.heard) i;
    })
    ∙ g.values_match

-- a data link has one state as plain data
pub one_data_link_values : (x y : DataLinkValues) (s : DataLinkState) → RepresentDataLink x s → RepresentDataLink y s → x ≡ y
one_data_link_values x y s h g = λ i. record {
  link0 = one_link_values x.link0 y.link0 s.link0 h.link0 g.link0 i;
  link3 = one_link_values x.link3 y.link3 s.link3 h.link3 g.link3 i;
  heard_sapi0 = (h.heard_sapi0 ∙ sym g.heard_sapi0) i;
  is_main_established = (h.is_main_established ∙ sym g.is_main_established) i;
}

-- ## Addresses: No step changes the role, channel or T200 of a link, makes its clock longer than T200, or ends normal establishment.

pub record IsSameLink (l m : LinkState) : Type 0 where
  pub role : m.endpoint.role ≡ l.endpoint.role
  pub normal : l.endpoint.sapi ≡ Three → m.endpoint.sapi ≡ Three
  pub channel : m.endpoint.channel ≡ l.endpoint.channel
  pub t200 : m.t200 ≡ l.t200
  pub clock : l.clock ≤ l.t200 → m.clock ≤ m.t200

t200_with_frame : (f : Frame) (l : LinkState) → (with_frame f l).t200 ≡ l.t200
t200_with_frame f l = grind arith

pub endpoint_with_frames : (fs : List Frame) (l : LinkState) → (with_frames fs l).endpoint ≡ l.endpoint
endpoint_with_frames [] l = refl
endpoint_with_frames (f ∷ fs) l = endpoint_with_frames fs (with_frame f l) ∙ endpoint_with_frame f l

pub t200_with_frames : (fs : List Frame) (l : LinkState) → (with_frames fs l).t200 ≡ l.t200
t200_with_frames [] l = refl
t200_with_frames (f ∷ fs) l = t200_with_frames fs (with_frame f l) ∙ t200_with_frame f l

clock_with_frame : (f : Frame) (l : LinkState) → l.clock ≤ l.t200 → (with_frame f l).clock ≤ (with_frame f l).t200
clock_with_frame f l h = grind arith

clock_with_frames : (fs : List Frame) (l : LinkState) → l.clock ≤ l.t200 → (with_frames fs l).clock ≤ (with_frames fs l).t200
clock_with_frames [] l h = h
clock_with_frames (f ∷ fs) l h = clock_with_frames fs (with_frame f l) (clock_with_frame f l h)

same_outcome : (l : LinkState) (o : Outcome) → Keeps l.endpoint o → IsSameLink l (with_outcome o l)
same_outcome l o k =
    let m : LinkState = record l { endpoint = o.new_state } in
    let e = endpoint_with_frames o.frames m in
    record {
      role = ap (λ (x : EndpointState). x.role) e ∙ k.role;
      normal = λ h. ap (λ (x : EndpointState). x.sapi) e ∙ k.sapi ∙ h;
      channel = ap (λ (x : EndpointState). x.channel) e ∙ k.channel;
      t200 = t200_with_frames o.frames m;
      clock = clock_with_frames o.frames m;
    }

same_itself : (l : LinkState) → IsSameLink l l
same_itself l = record { role = refl; normal = λ h. h; channel = refl; t200 = refl; clock = λ h. h }

same_trans : {l m n : LinkState} → IsSameLink l m → IsSameLink m n → IsSameLink l n
same_trans h g = record {
  role = g.role ∙ h.role;
  normal = λ x. g.normal (h.normal x);
  channel = g.channel ∙ h.channel;
  t200 = g.t200 ∙ h.t200;
  clock = λ x. g.clock (h.clock x);
}

pub same_afresh : (l : LinkState) → IsSameLink l (afresh l)
same_afresh l = record { role = refl; normal = λ h. h; channel = refl; t200 = refl; clock = λ h. omega arith }

same_normal : (l : LinkState) → IsSameLink l (as_normal l)
same_normal l = record { role = refl; normal = λ h. refl; channel = refl; t200 = refl; clock = λ h. omega arith }

pub same_for_call : (call : Call) (l : LinkState) → IsSameLink l (for_call call l)
same_for_call call l = grind arith

same_for_frame : (f : Frame) (l : LinkState) → IsSameLink l (for_frame f l)
same_for_frame f l = grind arith

sapi_for_call : (call : Call) (l : LinkState) → (for_call call l).endpoint.sapi ≡ l.endpoint.sapi
sapi_for_call call l = grind arith

valid_for_call : (call : Call) (l : LinkState) → IsValidEndpoint l.endpoint → IsValidEndpoint (for_call call l).endpoint
valid_for_call call l h = grind (arith, IsValidEndpoint-initial l.endpoint.role l.endpoint.sapi l.endpoint.channel)

valid_for_frame : (f : Frame) (l : LinkState) → IsValidEndpoint l.endpoint → IsValidEndpoint (for_frame f l).endpoint
valid_for_frame f l h = grind (arith, IsValidEndpoint-initial l.endpoint.role l.endpoint.sapi l.endpoint.channel)

pub same_after_call : (call : Call) (l : LinkState) → IsValidEndpoint l.endpoint → IsCallAllowedForEndpoint l.endpoint call →
    refusal_of call (for_call call l).endpoint ≡ None → IsSameLink l (after_call call l)
same_after_call call l h allowed ok =
    let s = same_for_call call l in
    let m = for_call call l in
    same_trans s (same_outcome m (call_outcome call m.endpoint)
    (keeps-call call m.endpoint (valid_for_call call l h) (rw (s.role, sapi_for_call call l) allowed) ok))

pub not_three : (s : Sapi) → (s ≡ Three → ⊥) → s ≡ Zero
not_three Zero h = refl
not_three Three h = absurd (h refl)

-- layer 3 establishes a link as it is, or afresh
module _ (l : LinkState) where
  by_establishment : (P : LinkState → Type 0) → P (as_normal l) → P (for_call OpensWithoutInfo l) → P (for_establishment l)
  by_establishment P normal called = by (not (is_sapi3 l.endpoint.sapi) && may_be_established l.endpoint.state)
    where
      by : (b : Bool) → P (if b then as_normal l else for_call OpensWithoutInfo l)
      by true = normal
      by false = called

  pub found_normal : l.endpoint.sapi ≡ Zero → may_be_established l.endpoint.state ≡ true → for_establishment l ≡ as_normal l
  found_normal h g = rw (h, g) refl

  allowed_establishment : refusal_of OpensWithoutInfo (for_establishment l).endpoint ≡ None →
      (for_establishment l).endpoint.sapi ≡ Three
  allowed_establishment ok = grind (arith, ok)

  pub same_after_establishment : IsValidEndpoint l.endpoint → refusal_of OpensWithoutInfo (for_establishment l).endpoint ≡ None →
      IsSameLink l (after_establishment l)
  same_after_establishment h ok =
      let m = for_establishment l in
      same_trans (by_establishment (IsSameLink l) (same_normal l) (same_for_call OpensWithoutInfo l))
      (same_outcome m (call_outcome OpensWithoutInfo m.endpoint)
      (keeps-call OpensWithoutInfo m.endpoint
      (by_establishment (λ m. IsValidEndpoint m.endpoint) (IsValidEndpoint-initial l.endpoint.role Three l.endpoint.channel)
      (valid_for_call OpensWithoutInfo l h)) (allowed_establishment ok) ok))

pub keeps-received : (f : Frame) (l : LinkState) → IsValidEndpoint l.endpoint → FrameFits l.endpoint.channel f →
    Keeps l.endpoint (received_outcome f l)
keeps-received f l h fits = by (refuses f l.endpoint)
  where
    by : (b : Bool) → Keeps l.endpoint
        (outcome_of_reply (if b then SendsDm else reply_to_frame (as_taken f l) l.endpoint) l.endpoint)
    by true = grind arith
    by false = keeps-frame (as_taken f l) l.endpoint h (taken_fits l.endpoint.channel f l fits)

pub same_after_frame : (f : Frame) (l : LinkState) → IsValidEndpoint l.endpoint → FrameFits l.endpoint.channel f →
    IsSameLink l (after_frame f l)
same_after_frame f l h fits =
    let s = same_for_frame f l in
    let m = for_frame f l in
    by_test (ignores f l)
    (same_trans s (same_outcome m (received_outcome f m)
    (keeps-received f m (valid_for_frame f l h) (rw s.channel fits))))
  where
    by_test : (b : Bool) → IsSameLink l (let m = for_frame f l in with_outcome (received_outcome f m) m) →
        IsSameLink l (if b then l else (let m = for_frame f l in with_outcome (received_outcome f m) m))
    by_test true h = same_itself l
    by_test false h = h

-- a link that a received frame of a new opening finds is the link itself, or afresh
pub by_renewal : (P : LinkState → Type 0) (f : Frame) (l : LinkState) → P l → P (afresh l) → P (as_normal l) → P (renewed_for f l)
by_renewal P f l itself fresh normal = by (is_opened_again f l) (is_return f l)
  where
    by : (again return : Bool) → P (if again then afresh l else (if return then as_normal l else l))
    by true return = fresh
    by false true = normal
    by false false = itself

pub same_renewed : (f : Frame) (l : LinkState) → IsSameLink l (renewed_for f l)
same_renewed f l = by_renewal (IsSameLink l) f l (same_itself l) (same_afresh l) (same_normal l)

valid_renewed : (f : Frame) (l : LinkState) → IsValidEndpoint l.endpoint → IsValidEndpoint (renewed_for f l).endpoint
valid_renewed f l h = by_renewal (λ m. IsValidEndpoint m.endpoint) f l h
    (IsValidEndpoint-initial l.endpoint.role l.endpoint.sapi l.endpoint.channel)
    (IsValidEndpoint-initial l.endpoint.role Three l.endpoint.channel)

pub same_after_received : (f : Frame) (l : LinkState) → IsValidEndpoint l.endpoint → FrameFits l.endpoint.channel f →
    IsSameLink l (after_received f l)
same_after_received f l h fits =
    let s = same_renewed f l in
    let t = same_trans s (same_after_frame f (renewed_for f l) (valid_renewed f l h) (rw s.channel fits)) in
    record { role = t.role; normal = t.normal; channel = t.channel; t200 = t.t200; clock = t.clock }

pub either : (P : SlotOutcome → Type 0) (b : Bool) (x y : SlotOutcome) → P x → P y → P (if b then x else y)
either P true x y h g = h
either P false x y h g = g

same_needless : (l : LinkState) → IsSameLink l (without_needless_answer l)
same_needless l = grind arith

same_expires : (l : LinkState) → IsSameLink l (expires l).link
same_expires l = grind arith

same_awaited : (l : LinkState) → IsSameLink l (sends_awaited l).link
same_awaited l = record { role = refl; normal = λ h. h; channel = refl; t200 = refl; clock = λ h. omega arith }

same_due : (l : LinkState) → IsSameLink l (sends_due_frame l).link
same_due l =
    let m = without_needless_answer l in
    either (λ o. IsSameLink l o.link) (is_due l) (if l.is_sent then expires m else sends_awaited m) (sends_nothing l)
    (either (λ o. IsSameLink l o.link) l.is_sent (expires m) (sends_awaited m) (same_trans (same_needless l) (same_expires m))
    (same_trans (same_needless l) (same_awaited m))) (same_itself l)

same_owing : (answer : Option Frame) (l : LinkState) → IsSameLink l (slot_outcome_owing answer l).link
same_owing None l = same_due l
same_owing (Some f) l = either (λ o. IsSameLink l o.link) (keeps_back f l) (sends_due_frame l) (sends_answer f l) (same_due l)
    (record { role = refl; normal = λ h. h; channel = refl; t200 = refl; clock = λ h. h })

pub same_slot : (l : LinkState) → IsSameLink l (slot_outcome l).link
same_slot l = same_owing l.answer l

pub replaced : (sapi : Sapi) (l : LinkState) (s : DataLinkState) → IsDataLink s → IsSameLink (link_with_sapi sapi s) l →
    IsDataLink (with_link sapi l s)
replaced sapi l s h g = grind arith

pub valid_with_flags : (heard main : Bool) (s : DataLinkState) → IsDataLink s →
    IsDataLink (record s { heard_sapi0 = heard; is_main_established = main })
valid_with_flags heard main s h = record {
  sapi3 = h.sapi3;
  role = h.role;
  channel = h.channel;
  t200 = h.t200;
  t200_sapi3 = h.t200_sapi3;
  clock = h.clock;
  clock_sapi3 = h.clock_sapi3;
}

pub valid_clocks : (s : DataLinkState) → IsDataLink s → IsDataLink (with_clocks_moved s)
valid_clocks s h = grind arith

-- what follows from a call that is not refused follows once its refusal is known to be none
pub on_ok_known : {A E P Q : Type 0} (r : Result A E) → (result_err r ≡ None → P → Q) → OnOk r P → OnOk r Q
on_ok_known (Ok x) f h = f refl h
on_ok_known (Err reason) f h = h

-- a call whose refusal is none is not refused
pub never_err : {A E : Type 0} (P : Type 0) (r : Result A E) → result_err r ≡ None → OnErr r P
never_err P (Ok x) h = tt
never_err P (Err reason) h = absurd cc

-- ## Owing: What a link does in a slot, by the answer that it owes.

owes_none : (c : Channel) (a : Option Frame) → None ≡ option_map (octets_of c) a → a ≡ None
owes_none c None h = refl
owes_none c (Some f) h = absurd cc

owes_one : (role : Role) (sapi : Sapi) (c : Channel) (a : Option Frame) (block : List ℕ) → Some block ≡ option_map (octets_of c) a →
    IfSome a (MayWait role sapi c) → (f : Frame) × (a ≡ Some f) × (block ≡ octets_of c f) × FrameFits c f
owes_one role sapi c None block h g = absurd cc
owes_one role sapi c (Some f) block h g = (f, refl, cc, g.0)

pub slot_owing_none : (m : Link) (l : LinkState) → Represents m l → m.answer ≡ None → slot_outcome l ≡ sends_due_frame l
slot_owing_none m l h none = rw (owes_none l.endpoint.channel l.answer (sym none ∙ h.answer)) refl

pub slot_keeping_back : (m : Link) (l : LinkState) (block : List ℕ) (kept : Bool) → Represents m l → m.answer ≡ Some block →
    ((f : Frame) (l : LinkState) → FrameFits l.endpoint.channel f → block ≡ octets_of l.endpoint.channel f → Represents m l →
    kept ≡ keeps_back f l) →
    kept ≡ true → slot_outcome l ≡ sends_due_frame l
slot_keeping_back m l block kept h some is true_now =
    let o = owes_one l.endpoint.role l.endpoint.sapi l.endpoint.channel l.answer block (sym some ∙ h.answer) h.is_answer in
    rw (o.1, sym (is o.0 l o.3 o.2 h) ∙ true_now) refl

-- the frame that awaits an answer has the endpoint's SAPI
pub awaited-own : (p : Bool) (st : State) (e : EndpointState) → (awaited_frame p st e).sapi ≡ sapi_number e.sapi
awaited-own p st e = grind arith
