-- Messages in I frames and UI frames are delivered in order on one link.
use Rattle.{
  lapdm_link.{
    proofs.{
      Acting.{IsCalled, IsTaken, ReportsUnit, unit_in},
      Directions.climbs-le,
      Events.{AllOf, IsForSapi, IsPlaced, acted, content_of_body, contents_on, contents, end_of, frames-of_sapi, lines_of_step},
      Events.{notices_in_log-at, way},
      Order.{IsReported, acknowledged},
      Rules.{BothHold, ending_in, notified, sends_plain},
      Subsequences.{IsSub, all, append, front, subsequence, trans},
    },
    specs.Claims.{IsPrefix, IsSubsequence, LogLine, Notified, OccursAfter, acked_message_numbers, calls_in_log, delivered_messages},
    specs.{Claims.{message_in_got_notice, notices_in_log, sent_messages, ui_message_in_notice, ui_message_of_call}, Events.rival_sabm},
    specs.Worlds.World,
  },
  lapdm_window.{
    proofs.segmenting.Lemmas.{count-take, filter_map-some, message_count-messages_ending_in_segments, messages_ending_in_segments-all},
    proofs.segmenting.Lemmas.messages_ending_in_segments-append,
    specs.{Calls.Call, Ends.{EndpointState, Mobile, Outcome, Role}, declared.{Notice.Notice, Sapi.{TheVariants.Zero, Sapi}}},
    specs.{lapdm_frame.Content.{Content, Ui}, segmenting.Joining.{message_count, messages_ending_in_segments, messages}},
    specs.segmenting.{Joining.partial_message_after, Segments.{IsValidMessage, Message, Segment, segments}},
  },
  std.{
    proofs.Common.{All, List, None, Option, Some, [], append_assoc, ap, arith, drop, false, inl, inr, length, map, refl, suc, sym, take},
    proofs.{Common.{ℕ, ◌++◌, ◌∙◌, ◌∷◌, ◌≡◌, ◌≤◌}, lemmas.List.{Elements.filter_map-append, take-append-drop}},
    specs.List.{cons_option, filter_map, flat_map},
  },
}
use Rattle.lapdm_window.specs.declared.Notice.TheVariants as N

-- ## Links: One link as one of its endpoints sees it: the endpoint, its frames in transit, its calls and notices so far, and the steps that
-- it can take.

pub record Side : Type 0 where
  pub endpoint : EndpointState
  pub outgoing : List Content
  pub calls : List Call
  pub notified : List Notice

abbrev pub side : Role → Sapi → World → List LogLine → Side
side r s w ls = record {
  endpoint = end_of r s w;
  outgoing = contents_on s (way r w);
  calls = calls_in_log r s ls;
  notified = notices_in_log r s ls;
}

-- a step of one endpoint: the SABM frames that other mobiles send in this step, the endpoint's call, its outcome, and the frames from the
-- other endpoint that remain in transit
pub record Step : Type 0 where
  pub role : Role
  pub sapi : Sapi
  pub rivals : List Message
  pub layer3_call_step : List Call
  pub endpoint_step : Outcome
  pub remaining : List Content

abbrev pub act : Role → Sapi → List Call → Outcome → List Content → Step
act r s cs o left = record { role = r; sapi = s; rivals = []; layer3_call_step = cs; endpoint_step = o; remaining = left }

-- the step in which another mobile sends a SABM and the mobile's endpoint stays unchanged
abbrev pub rivals : Message → Side → Side → Step
rivals info x y = record (act Mobile Zero [] (record { new_state = x.endpoint; frames = rival_sabm info ∷ []; notices = [] })
    y.outgoing) { rivals = info ∷ [] }

abbrev pub lines : Step → List LogLine
lines a = lines_of_step a.role a.sapi a.rivals a.layer3_call_step a.endpoint_step.notices

-- the possible steps of endpoint x, whose peer is y: layer 3 makes a call to x, the oldest frame from y arrives, or another mobile sends a
-- SABM
pub data IsStep (x y : Side) : Step → Type 0 where
  called : {r : Role} {s : Sapi} {call : Call} {o : Outcome} → IsPlaced r s call → IsCalled x.endpoint call o →
      IsStep x y (act r s (call ∷ []) o y.outgoing)
  took : {r : Role} {s : Sapi} {c : Content} {o : Outcome} {left : List Content} → y.outgoing ≡ cons_option (content_of_body c) left →
      IsTaken c x.endpoint o → IsStep x y (act r s [] o left)
  rival : {info : Message} → IsStep x y (rivals info x y)

-- the side of the endpoint that acts, as it is after the step
abbrev pub after : Step → Side → Side
after a x = record {
  endpoint = a.endpoint_step.new_state;
  outgoing = x.outgoing ++ contents a.endpoint_step.frames;
  calls = x.calls ++ a.layer3_call_step;
  notified = x.notified ++ a.endpoint_step.notices;
}

-- the peer of the side that acts, as it is after the step: only its frames in transit change
abbrev pub other_after : Step → Side → Side
other_after a y = record y { outgoing = a.remaining }

abbrev pub acted_by : Step → World → World
acted_by a w = acted a.role a.sapi a.endpoint_step w

pub own_frames : {x y : Side} {a : Step} → IsStep x y a → x.endpoint.sapi ≡ a.sapi → AllOf (IsForSapi a.sapi) a.endpoint_step.frames
own_frames {a = a} (called p c) same = rw same at (frames-of_sapi _ _ a.endpoint_step.frames c.frames)
own_frames {a = a} (took e t) same = rw same at (frames-of_sapi _ _ a.endpoint_step.frames t.frames)
own_frames rival same = (inl refl, tt)

-- ## Delivery: Every step of an endpoint preserves the invariant of both directions of its link, and the invariant implies the claims about
-- delivery: in order, delivered before acknowledged, none oversize.

-- the invariant of both directions of a link, as one of its sides sees it
abbrev pub LinkInvariant : Side → Side → Type 0
LinkInvariant x y = BothHold x.endpoint y.endpoint x.outgoing y.outgoing y.outgoing

pub invariant-step : {x y : Side} {a : Step} → IsStep x y a → LinkInvariant x y → LinkInvariant (after a x) (other_after a y)
invariant-step (called p c) h = c.arrives _ _ _ h
invariant-step (took e t) h = t.arrives _ _ _ (rw e at h)
invariant-step rival h = sends_plain _ _ h

prefix_is_complete : (xs ys : List (Option Message)) (ms : List Message) → xs ++ ys ≡ map (λ m. Some m) ms →
    length (filter_map (λ x. x) xs) ≡ length xs
prefix_is_complete [] ys ms h = refl
prefix_is_complete (Some x ∷ xs) ys (m ∷ ms) h = ap suc (prefix_is_complete xs ys ms (cc h))
prefix_is_complete (None ∷ xs) ys (m ∷ ms) h = cc h
prefix_is_complete xs ys ms h = cc h

pub no_oversize : (xs ys zs : List (Option Message)) (ms : List Message) → (xs ++ None ∷ ys) ++ zs ≡ map (λ m. Some m) ms → ⊥
no_oversize (x ∷ xs) ys zs (m ∷ ms) h = no_oversize xs ys zs ms (cc h)
no_oversize [] ys zs (m ∷ ms) h = cc h
no_oversize xs ys zs ms h = cc h

-- in this module, the accepted segments qs are the first r segments of the messages ms
module _ (n : ℕ) (ms : List Message) (good : All IsValidMessage ms) (r : ℕ) (qs : List Segment)
    (accepted : qs ≡ take r (flat_map (segments n) ms))
  where
    delivered_prefix : (more : List (Option Message)) × (messages_ending_in_segments [] qs ++ more ≡ map (λ m. Some m) ms)
    delivered_prefix =
        let left = drop r (flat_map (segments n) ms) in
        let whole = ap (λ ps. ps ++ left) accepted ∙ take-append-drop r _ in (
          messages_ending_in_segments (partial_message_after [] qs) left,
          sym (messages_ending_in_segments-append [] qs _) ∙ ap (messages_ending_in_segments []) whole
              ∙ messages_ending_in_segments-all n ms good,
        )

    pub prefix : IsPrefix (messages qs) ms
    prefix = (
      filter_map (λ x. x) delivered_prefix.0,
      sym (filter_map-append (λ x. x) (messages_ending_in_segments [] qs) delivered_prefix.0)
          ∙ ap (filter_map (λ x. x)) delivered_prefix.1
          ∙ filter_map-some ms,
    )

    pub counted : (a : ℕ) → a ≤ r → message_count (take a (flat_map (segments n) ms)) ≤ length (messages qs)
    counted a h = omega (
      arith,
      count-take a r (flat_map (segments n) ms) h,
      ap message_count accepted,
      message_count-messages_ending_in_segments qs,
      prefix_is_complete (messages_ending_in_segments [] qs) delivered_prefix.0 ms delivered_prefix.1,
    )

got-messages : (ns : List Notice) → filter_map message_in_got_notice ns ≡ filter_map (λ x. x) (filter_map ending_in ns)
got-messages [] = refl
got-messages (n ∷ ns) = grind (arith, got-messages ns)

-- in this module, x and y are the endpoints of a link in some state of a benign session
module _ {r q : Role} {s : Sapi} {x y : EndpointState} {ls : List LogLine} {out comes hears : List Content} (here : IsReported r s x ls)
    (there : IsReported q s y ls) (both : BothHold x y out comes hears) where
  delivered_is : delivered_messages q s ls ≡ messages y.accepted_segments
  delivered_is = got-messages (notices_in_log q s ls) ∙ ap (filter_map (λ x. x)) there.notified.got

  pub delivered_in_order : IsPrefix (delivered_messages q s ls) (sent_messages r s ls)
  delivered_in_order = rw (delivered_is, here.notified.messages) (prefix _ _ here.window_of_one.messages _ _ both.forward.in_order)

  pub acked_most : length (acked_message_numbers r s ls) ≤ length (delivered_messages q s ls)
  acked_most = omega (
    arith,
    counted _ _ here.window_of_one.messages _ _ both.forward.in_order _ (climbs-le both.forward.acknowledged),
    here.notified.acked,
    ap length delivered_is,
  )

  pub none_oversize : (before : List LogLine) → ¬ OccursAfter before (Notified q s N.Oversize) ls
  none_oversize before place =
      let all = delivered_prefix _ _ here.window_of_one.messages _ _ both.forward.in_order in
      no_oversize (filter_map ending_in (notices_in_log q s before)) _ all.0 _
      (rw (← there.notified.got, ← place.1, notices_in_log-at q s before N.Oversize _, filter_map-append) at all.1)

-- ## Units: UI frames arrive in order or are lost: the messages reported, followed by those in transit, are a subsequence of those sent.

-- the UI messages that y has reported, followed by those in transit from x, are a subsequence of those that x was asked to send
pub record HasUnits (x y : Side) : Type 0 where
  pub units_sent : IsSub (filter_map ui_message_in_notice y.notified ++ filter_map unit_in x.outgoing)
      (filter_map ui_message_of_call x.calls)

pub ui_in_order-claim : (x y : Side) → HasUnits x y → IsSubsequence (filter_map ui_message_in_notice y.notified)
    (filter_map ui_message_of_call x.calls)
ui_in_order-claim x y h = subsequence
    (trans (front (filter_map ui_message_in_notice y.notified) (filter_map unit_in x.outgoing)) h.units_sent)

in_front : (o : Option Content) (cs : List Content) → cons_option o [] ++ cs ≡ cons_option o cs
in_front None cs = refl
in_front (Some c) cs = refl

IsSub-unit_lost : (o : Option Content) (cs : List Content) → IsSub (filter_map unit_in cs) (filter_map unit_in (cons_option o cs))
IsSub-unit_lost o cs = rw (← in_front o cs, filter_map-append) (append (front [] (filter_map unit_in (cons_option o []))) (all _))

pub sent : {x y : Side} {a : Step} → IsStep x y a → filter_map unit_in (contents a.endpoint_step.frames) ≡
    filter_map ui_message_of_call a.layer3_call_step
sent h = grind arith

no_more : (c : Content) (ns : List Notice) (cs : List Content) → ReportsUnit c ns →
    IsSub (filter_map ui_message_in_notice ns ++ filter_map unit_in cs) (filter_map unit_in (cons_option (content_of_body c) cs))
no_more c ns cs (inl h) = rw h (IsSub-unit_lost (content_of_body c) cs)
no_more c ns cs (inr h) = rw (h, ← filter_map-append, in_front _ cs) (all _)

pub taken : {x y : Side} {a : Step} → IsStep x y a →
    IsSub (filter_map ui_message_in_notice a.endpoint_step.notices ++ filter_map unit_in a.remaining) (filter_map unit_in y.outgoing)
taken {a = a} (called p c) = no_more (Ui false []) a.endpoint_step.notices a.remaining c.reports
taken {a = a} (took {c = c} e t) = rw e (no_more c a.endpoint_step.notices _ t.reports)
taken rival = all _

pub ui_in_order-here : {x y : Side} {a : Step} → IsStep x y a → HasUnits x y → HasUnits (after a x) (other_after a y)
ui_in_order-here a h = record {
  units_sent = rw (filter_map-append, filter_map-append, sent a, ← append_assoc) (append h.units_sent (all _));
}

pub ui_in_order-there : {x y : Side} {a : Step} → IsStep x y a → HasUnits y x → HasUnits (other_after a y) (after a x)
ui_in_order-there a h = record { units_sent = rw (filter_map-append, append_assoc) (trans (append (all _) (taken a)) h.units_sent) }

pub ui_in_order-lost : (x y : Side) (o : Option Content) (cs : List Content) → HasUnits (record x { outgoing = cons_option o cs }) y →
    HasUnits (record x { outgoing = cs }) y
ui_in_order-lost x y o cs h = record { units_sent = trans (append (all _) (IsSub-unit_lost o cs)) h.units_sent }
