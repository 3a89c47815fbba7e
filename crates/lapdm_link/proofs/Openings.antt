-- Each establishment follows its cause.
use Rattle.{
  lapdm_link.{
    proofs.{
      Acting.{Goes, IsOpening, OpensBy, Says, StepFacts, begins, closes, ends, opens, over, remains},
      Events.{AllOf, IsPlaced, content_of_body, contents, frames-say, of-append, of-as},
      Links.{IsStep, Side, Step, after, called, lines, other_after, rival, sent, took},
      Order.AllOccur,
      Rules.asked,
    },
    specs.{Claims.{Asked, HasEstablishmentTrigger, LogLine, Notified, RivalSabm, establishment_info_in_notice}, Events.{Open, other}},
  },
  lapdm_window.{proofs.Lemmas.MayOpen, specs.{Calls.{Call, OpensWithoutInfo, Opens}, Ends.{EndpointState, Mobile, Outcome, Role}}},
  lapdm_window.specs.declared.{Notice.Notice, Sapi.{TheVariants.{Three, Zero}, Sapi}, State.{TheVariants.{Closing, Opening, Open}, State}},
  lapdm_window.specs.{lapdm_frame.Content.{Content, Sabm, Ua, Ui}, segmenting.Segments.Message},
  std.proofs.Common.{List, None, Option, Some, [], append_assoc, arith, false, inl, inr, length, map, refl, ◌++◌, ◌∷◌, ◌≡◌},
  std.{proofs.{Common.◌≤◌, lemmas.List.Elements.{Contains-append_left, Contains-push}}, specs.List.{cons_option, filter_map}},
  std.specs.Prelude.{Contains, ◌⊎◌},
}
use Rattle.lapdm_window.specs.declared.Notice.TheVariants as N
use Rattle.lapdm_window.specs.declared.State.TheVariants as S

-- ## Openings: Each establishment is reported after its cause. The invariant says why each SABM or UA in transit was sent and how each
-- endpoint reached its state.

-- the call with which layer 3 establishes the link of this SAPI with this information
abbrev pub opening_call : Sapi → Message → Call
opening_call Zero k = Opens k
opening_call Three k = OpensWithoutInfo

abbrev pub MayAsk : Role → Sapi → Message → Type 0
MayAsk r Zero k = (r ≡ Mobile) × (1 ≤ length k)
MayAsk r Three k = k ≡ []

abbrev pub WasAsked : Role → Sapi → List LogLine → Message → Type 0
WasAsked r s ls k = Contains ls (Asked r s (opening_call s k)) × MayAsk r s k

abbrev pub IsBare : Sapi → Message → Type 0
IsBare Zero k = Unit {0}
IsBare Three k = k ≡ []

abbrev pub WasOpened : Role → Sapi → List LogLine → Message → Type 0
WasOpened r s ls k = Contains ls (Notified r s (N.Opened k)) × IsBare s k

-- the log contains the reason why this content, sent by the endpoint, is in transit; only a SABM or a UA needs a reason
abbrev pub IsCaused : Role → Sapi → List LogLine → Content → Type 0
IsCaused r s ls (Sabm p info) = WasAsked r s ls info ⊎ ((s ≡ Zero) × Contains ls (RivalSabm info))
IsCaused r s ls (Ua f info) = WasOpened r s ls info ⊎ ((info ≡ []) × ((k : Message) × (WasAsked r s ls k ⊎ WasOpened r s ls k)))
IsCaused r s ls c = Unit {0}

-- the log contains the reason why the endpoint is in this state and keeps this SABM information
abbrev pub IsReached : Role → Sapi → List LogLine → State → Message → Type 0
IsReached r s ls S.Opening k = WasAsked r s ls k
IsReached r s ls S.Open k = WasOpened r s ls k
IsReached r s ls S.Closing k = WasOpened r s ls k
IsReached r s ls state k = Unit {0}

abbrev pub HasReached : Role → Sapi → List LogLine → EndpointState → Type 0
HasReached r s ls x = IsReached r s ls x.state x.sabm_info

abbrev pub HasOpenings : Role → Sapi → Side → List LogLine → Type 0
HasOpenings r s x ls = AllOf (IsCaused r s ls) x.outgoing × HasReached r s ls x.endpoint

-- the log still contains the reason for each frame in transit and each link state when lines are added to it
module _ (r : Role) (s : Sapi) (ls new : List LogLine) where
  asked-more : (k : Message) → WasAsked r s ls k → WasAsked r s (ls ++ new) k
  asked-more k h = (Contains-append_left ls new _ h.0, h.1)

  opened-more : (k : Message) → WasOpened r s ls k → WasOpened r s (ls ++ new) k
  opened-more k h = (Contains-append_left ls new _ h.0, h.1)

  caused-more : (c : Content) → IsCaused r s ls c → IsCaused r s (ls ++ new) c
  caused-more (Sabm p info) (inl h) = inl (asked-more _ h)
  caused-more (Sabm p info) (inr h) = inr (h.0, Contains-append_left ls new _ h.1)
  caused-more (Ua f info) (inl h) = inl (opened-more _ h)
  caused-more (Ua f info) (inr (e, (k, inl h))) = inr (e, (k, inl (asked-more k h)))
  caused-more (Ua f info) (inr (e, (k, inr h))) = inr (e, (k, inr (opened-more k h)))
  caused-more c h = tt

  reached-more : (state : State) (k : Message) → IsReached r s ls state k → IsReached r s (ls ++ new) state k
  reached-more state k h = grind (arith, asked-more, opened-more)

  pub openings-more : (x : Side) → HasOpenings r s x ls → HasOpenings r s x (ls ++ new)
  openings-more x h = (of-as _ _ caused-more _ h.0, reached-more _ _ h.1)

sabm-cause : (r : Role) (s : Sapi) (ls : List LogLine) (info : Message) → MayOpen s r info →
    WasAsked (other r) s ls info ⊎ ((s ≡ Zero) × Contains ls (RivalSabm info)) → HasEstablishmentTrigger r s info ls × IsBare s info
sabm-cause r s ls info h g = grind arith

ua-cause : (r : Role) (s : Sapi) (ls : List LogLine) (info : Message) → WasAsked r s ls info →
    WasOpened (other r) s ls info ⊎ ((info ≡ []) × ((k : Message) × (WasAsked (other r) s ls k ⊎ WasOpened (other r) s ls k))) →
    HasEstablishmentTrigger r s info ls × IsBare s info
ua-cause r s ls info k h = grind arith

abbrev pub IsOpenedAfter : List LogLine → LogLine → Type 0
IsOpenedAfter before (Notified r s (N.Opened info)) = HasEstablishmentTrigger r s info before
IsOpenedAfter before other = Unit {0}

module _ (r : Role) (s : Sapi) where
  none-opened : (ns : List Notice) (ls : List LogLine) → filter_map establishment_info_in_notice ns ≡ [] →
      AllOccur IsOpenedAfter ls (map (Notified r s) ns)
  none-opened [] ls h = tt
  none-opened (N.Opened i ∷ ns) ls h = cc h
  none-opened (n ∷ ns) ls h = (tt, none-opened ns _ h)

  abbrev HasAsked : List LogLine → Option Call → Type 0
  HasAsked ls None = Unit {0}
  HasAsked ls (Some call) = IsPlaced r s call × Contains ls (Asked r s call)

  was-asked : (ls : List LogLine) (call : Option Call) (k : Message) → IsOpening call k → HasAsked ls call → WasAsked r s ls k
  was-asked ls call k h g = grind arith

  said-caused : (ls : List LogLine) (call : Option Call) (x z : EndpointState) → HasReached r s ls x → HasReached r s ls z →
      (c : Content) → Says call x z c → IsCaused r s ls c
  said-caused ls call x z c h g k = grind arith

  module _ (ls : List LogLine) (x : Side) (role : x.endpoint.role ≡ r) (same : x.endpoint.sapi ≡ s) (h : HasOpenings r s x ls)
      (left : List Content)
    where
      opening-cause : (c : Content) (info : Message) → OpensBy c x.endpoint info →
          AllOf (IsCaused (other r) s ls) (cons_option (content_of_body c) left) → HasEstablishmentTrigger r s info ls × IsBare s info
      opening-cause (Sabm p i) info o sent = sabm-cause r s ls info (rw (same, role) at o.2) (let g = sent.0 in rw o.0 at g)
      opening-cause (Ua f i) info o sent = ua-cause r s ls info (rw o.2 (rw o.1 at h.1)) (let g = sent.0 in rw o.0 at g)
      opening-cause c info o sent = absurd o

      module _ (call : Option Call) (c : Content) (o : Outcome) (asked : HasAsked ls call)
          (sent : AllOf (IsCaused (other r) s ls) (cons_option (content_of_body c) left)) where
        abbrev pub notified : List LogLine
        notified = map (Notified r s) o.notices

        goes-on : Goes call c x.endpoint o → HasReached r s (ls ++ notified) o.new_state × AllOccur IsOpenedAfter ls notified
        goes-on (remains same e n) = (rw (same, e) (reached-more r s ls _ _ _ h.1), none-opened _ ls n)
        goes-on (ends over e n) = (rw over tt, none-opened _ ls n)
        goes-on (closes now closing e n) = (rw (closing, e) (opened-more r s ls _ _ (rw now at h.1)), none-opened _ ls n)
        goes-on (begins opening a n) = (rw opening (asked-more r s ls _ _ (was-asked ls _ _ a asked)), none-opened _ ls n)
        goes-on (opens {info} n now e by) =
            let cause = opening-cause c _ by sent in rw (now, e, n) ((Contains-push ls _, cause.1), (cause.0, tt))

        done : StepFacts call c x.endpoint o → (AllOf (IsCaused r s (ls ++ notified)) (x.outgoing ++ contents o.frames) ×
            HasReached r s (ls ++ notified) o.new_state) × AllOccur IsOpenedAfter ls notified
        done d =
            let h' = openings-more r s ls notified x h in
            let to = goes-on d.goes in
            let says = said-caused (ls ++ notified) call x.endpoint o.new_state h'.1 to.0 in (
              (of-append _ x.outgoing _ h'.0 (frames-say _ (IsCaused r s (ls ++ notified)) says x.endpoint.sapi o.frames d.frames), to.0),
              to.1,
            )

pub openings-here : {x y : Side} {a : Step} (ls : List LogLine) → IsStep x y a → x.endpoint.role ≡ a.role → x.endpoint.sapi
    ≡ a.sapi → HasOpenings a.role a.sapi x ls → HasOpenings (other a.role) a.sapi y ls →
    HasOpenings a.role a.sapi (after a x) (ls ++ lines a) × AllOccur IsOpenedAfter ls (lines a)
openings-here {x} {y} {a} ls (called {r} {s} {call} p c) role same h g =
    let asked = Asked r s call ∷ [] in
    let to = done r s (ls ++ asked) x role same (openings-more r s ls _ x h) y.outgoing (Some call) (Ui false []) a.endpoint_step
    (p, Contains-push ls _) (openings-more _ s ls _ y g).0 c in (rw append_assoc at to.0, (tt, to.1))
openings-here {x} {y} {a} ls (took {r} {s} {c} {o} {left} e t) role same h g =
    done r s ls x role same h left None c o tt (rw e at g.0) t
openings-here {x} {y} {a} ls (rival {info}) role same h g =
    let h' = openings-more _ _ ls _ x h in
    ((of-append _ x.outgoing _ h'.0 (inr (refl, Contains-push ls _), tt), h'.1), (tt, tt))

pub of-rest : (P : Content → Type 0) (o : Option Content) (cs : List Content) → AllOf P (cons_option o cs) → AllOf P cs
of-rest P None cs h = h
of-rest P (Some c) cs h = h.1

pub openings-there : {x y : Side} {a : Step} (ls : List LogLine) → IsStep x y a → HasOpenings (other a.role) a.sapi y ls →
    HasOpenings (other a.role) a.sapi (other_after a y) (ls ++ lines a)
openings-there {y = y} {a = a} ls i g = openings-more _ _ ls _ (other_after a y) (left _ i g.0, g.1)
  where
    left : {x y : Side} {a : Step} (P : Content → Type 0) → IsStep x y a → AllOf P y.outgoing → AllOf P a.remaining
    left P (called p c) g = g
    left P (took {c = c} e t) g = of-rest P (content_of_body c) _ (rw e at g)
    left P rival g = g
