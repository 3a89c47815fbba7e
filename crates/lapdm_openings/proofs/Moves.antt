-- Each event keeps two sides paired, and tells layer 3 what it should.
use Rattle.std.specs.Prelude.{◌≡◌, ◌⊎◌, Bool, true, false, if◌then◌else◌, ℕ, List, [], ◌∷◌, ◌++◌, Option}
use Rattle.std.specs.Prelude.{Some, None, IfSome}
use Rattle.std.specs.List.{cons_option}
use Rattle.std.proofs.Common.{arith, refl, sym, ap, ◌∙◌, inl, inr, subst}
use Rattle.std.proofs.lemmas.List.{append-nil}
use Rattle.lapdm_frame.specs.Content.{Content, Frame}
use Rattle.lapdm_end.specs.lapdm_window.declared.State.{State}
use Rattle.lapdm_end.specs.lapdm_window.declared.Sapi.TheVariants.{Three}
use Rattle.lapdm_end.specs.lapdm_window.Ends.{Role, EndpointState}
use Rattle.lapdm_end.specs.lapdm_window.Rules.{is_open}
use Rattle.lapdm_end.specs.lapdm_window.Calls.{Call, Opens, OpensWithoutInfo, IsCallAllowedFor, refusal_of, call_outcome}
use Rattle.lapdm_link.specs.Claims.{IsPrefix}
use Rattle.lapdm_link.proofs.Events.{AllOf, contents}
use Rattle.lapdm_link.proofs.Rules.{sends_plain}
use Rattle.lapdm_link.proofs.Subsequences.{IsSub, all}
use Rattle.lapdm_datalink.specs.Links.{LinkState, after_slot, slot_outcome, after_call, with_outcome, afresh, IsLinkCall}
use Rattle.lapdm_datalink.specs.Links.{is_reopened_by_call, for_call, is_opening, is_numbered}
use Rattle.lapdm_datalink.proofs.Lemmas.{endpoint_with_frames}
use Rattle.lapdm_delivery.proofs.Heard.{IsFine, Ages, is_past, is_sabm, shows-slot, ages-call, heard_slot}
use Rattle.lapdm_openings.specs.Openings.{Opening, Line, Asked, Released, after_lines, told}
use Rattle.lapdm_openings.proofs.Follow.{Above, level, higher, Grown, grown, begun, opening_of, prefix-refl}
use Rattle.lapdm_openings.proofs.Holds.{Hold, swapped, zeros-hold}
use Rattle.lapdm_openings.proofs.Acts.{IsSound, Steps, under_way, zero-of, zero-opening, is_new, slot_acts, call_acts, held-frames}
use Rattle.lapdm_openings.proofs.Answers.{NoOpener, IsDm, IsFirstWord, is_starting, called-answer, slot-state, slot-calm, slot-first}
use Rattle.lapdm_openings.proofs.Pairing.{
  shut-starting,
  Side,
  opening,
  Silent,
  Settled,
  Hears,
  hears-more,
  hears-as,
  Even,
  Ahead,
  Paired,
  even,
  first,
}
use Rattle.lapdm_openings.proofs.Pairing.{second, even-swapped, even-next, behind-next, ahead-next, words-way, catches-up, restarted}
use Rattle.lapdm_end.specs.lapdm_window.declared.State.TheVariants as S

-- after an event side `x` has this link, these frames on the air and an opening more, if one began, and layer 3 saw these lines
pub record Moves (x : Side) (l : LinkState) (air : List Frame) (lines : List Line) (y : Side) : Type 0 where
  pub past : List Opening
  pub told_is : after_lines lines (opening x ∷ x.past) ≡ opening_of l.endpoint ∷ past
  pub paired : Paired (record { link = l; air = air; past = past }) y

-- in this module, `x` is ahead, and acts: nothing of what comes matters to it
module _ {x y : Side} (a : Ahead x y) where
  abbrev own : EndpointState
  own = x.link.endpoint

  pub idle-hold : Hold own own (under_way a.cx x.link) []
  idle-hold = sends_plain (under_way a.cx x.link) (words-way a.cx x.link a.words a.owes) (zeros-hold a.zero a.zero)

  above-of : (l : LinkState) {later : List Opening} → Grown (opening x) x.past (opening_of l.endpoint) later → Above x.past later
  above-of l (grown e more) = rw e level
  above-of l (begun e none) = rw (e, zero-opening own a.zero) (higher level)

  pub ahead-moves : {l : LinkState} {lines : List Line} (sent oy cy air : List Frame) → air ≡ oy ++ cy →
      IsSub (under_way cy y.link) (under_way a.cy y.link) → Steps own [] a.cx x.past x.link l sent lines → IsFine Three l →
      l.heard ≡ false → is_starting l.endpoint.state ≡ true → IfSome l.answer IsDm → AllOf IsFirstWord sent →
      Hears cy y.link l →
      AllOf NoOpener oy → AllOf NoOpener cy → Moves x l (x.air ++ sent) lines (record y { air = air })
  ahead-moves {l} sent oy cy air is sub s fine deaf starting owes words back none_old none = record {
    past = s.later;
    told_is = s.told_is;
    paired = first (ahead-next a sent oy cy air s.later is sub (above-of l s.grows) s.sound fine
        (zero-of l.endpoint s.sound.window (s.messages (shut-starting own.state a.starting) ∙ a.zero.messages) (s.sound.unheard deaf).0)
        deaf starting owes words back none_old none);
  }

-- ---- a step in which no frame arrives

pub record Alone (os : List Opening) (l m : LinkState) (sent : List Frame) (lines : List Line) : Type 0 where
  acts : (p : EndpointState) (ins : List Content) (air : List Frame) → Hold l.endpoint p (under_way air l) ins →
      Steps p ins air os l m sent lines
  ages : Ages Three l m
  silent : is_past l.endpoint.state ≡ true → Silent sent
  settled : Settled m.endpoint.state sent
  heard : m.heard ≡ l.heard
  opens : is_open m.endpoint.state ≡ true → is_open l.endpoint.state ≡ true
  calm : is_new l.endpoint.state ≡ false → IfSome l.answer NoOpener →
      AllOf NoOpener sent × IfSome m.answer NoOpener × (is_opening m.endpoint.state ≡ false)
  starts : is_starting l.endpoint.state ≡ true → IfSome l.answer IsDm →
      AllOf IsFirstWord sent × IfSome m.answer IsDm × (is_starting m.endpoint.state ≡ true)

pub never : {A : Type 0} → false ≡ true → A
never e = absurd cc

module _ {x y : Side} {l : LinkState} {sent : List Frame} {lines : List Line}
    (make : IsSound x.link → IsFine Three x.link → Alone x.past x.link l sent lines)
  where
    even-alone : Even x y → Moves x l (x.air ++ sent) lines y
    even-alone e =
        let h = make e.here.sound e.here.hears.fine in
        let s = h.acts y.link.endpoint (under_way e.cy y.link) e.cx e.holds in
        record {
          past = s.later;
          told_is = s.told_is;
          paired = even (even-next e sent e.oy e.cy y.air e.air_y s (hears-more e.here.hears sent h.ages h.silent h.settled)
              (hears-as e.there.hears (λ t. sym h.heard ∙ t)) (λ now. e.there.stale (h.opens now)) e.there.none);
        }

    pub alone : Paired x y → Moves x l (x.air ++ sent) lines y
    alone (even e) = even-alone e
    alone (first a) =
        let h = make a.sound a.fine in
        let s = h.acts x.link.endpoint [] a.cx (idle-hold a) in
        let t = h.starts a.starting a.owes in
        ahead-moves a sent a.oy a.cy y.air a.air_y (all (under_way a.cy y.link)) s (h.ages.fine a.fine) (h.heard ∙ a.unheard)
        t.2 t.1 t.0 (hears-as a.there.hears (λ e. sym h.heard ∙ e)) a.there.none a.none
    alone (second a) = by (is_new x.link.endpoint.state) refl
      where
        not-open : (st : State) → is_new st ≡ true → is_open st ≡ true → a.ox ≡ []
        not-open st h g = grind (arith, h, g)

        by : (b : Bool) → is_new x.link.endpoint.state ≡ b → Moves x l (x.air ++ sent) lines y
        by true new =
            even-alone (even-swapped (catches-up a (a.there.sound.new new).1 (not-open x.link.endpoint.state new)))
        by false old =
            let h = make a.there.sound a.there.hears.fine in
            let s = h.acts a.before (contents a.ox) a.cy (swapped a.holds) in
            let t = h.calm old a.none_owed in
            record {
              past = s.later;
              told_is = s.told_is;
              paired = second (behind-next a sent a.sx a.ox a.cx y.air a.air_x s
                  (hears-more a.there.hears sent h.ages h.silent h.settled) (λ now. a.stale (h.opens now)) a.stale_x a.quiet a.words
                  t.0 t.1 t.2);
            }

-- ---- a slot

silent-one : (a : Option Frame) → IfSome a (λ f. is_sabm f.content ≡ false) → Silent (cons_option a [])
silent-one None h = tt
silent-one (Some f) h = (h, tt)

settled-one : (st : State) (a : Option Frame) → IfSome a (λ f. is_numbered true f.content ≡ true → is_past st ≡ true) →
    Settled st (cons_option a [])
settled-one st None h = tt
settled-one st (Some f) h = (λ n. (tt, h n), tt)

one-of : (P : Frame → Type 0) (a : Option Frame) → IfSome a P → AllOf P (cons_option a [])
one-of P None h = tt
one-of P (Some f) h = (h, tt)

slot-alone : (os : List Opening) (l : LinkState) → IsSound l → IsFine Three l →
    Alone os l (slot_outcome l).link (cons_option (slot_outcome l).frame []) (told (slot_outcome l).notices)
slot-alone os l h fine =
    let o = slot_outcome l in
    let s = shows-slot Three l fine in
    record {
      acts = λ p ins air k. slot_acts air os l h fine.answer k;
      ages = s.ages;
      silent = λ p. silent-one o.frame (s.quiet p);
      settled = settled-one o.link.endpoint.state o.frame s.past_if_shown;
      heard = heard_slot l;
      opens = λ now. opened o.link.endpoint.state (slot-state l) now;
      calm = λ old none. (let t = slot-calm l (not-opening l.endpoint.state old) none in
          (one-of NoOpener o.frame t.0, t.1, unopened o.link.endpoint.state (slot-state l) (not-opening l.endpoint.state old)));
      starts = λ start owes. (let t = slot-first l start owes in
          (one-of IsFirstWord o.frame t.0, t.1, started o.link.endpoint.state (slot-state l) start));
    }
  where
    not-opening : (st : State) → is_new st ≡ false → is_opening st ≡ false
    not-opening st h = grind (arith, h)

    opened : (st : State) → (st ≡ l.endpoint.state) ⊎ (st ≡ S.Closed) → is_open st ≡ true → is_open l.endpoint.state ≡ true
    opened st (inl e) now = rw e at now
    opened st (inr e) now = never (rw e at now)

    unopened : (st : State) → (st ≡ l.endpoint.state) ⊎ (st ≡ S.Closed) → is_opening l.endpoint.state ≡ false →
        is_opening st ≡ false
    unopened st (inl e) h = rw e h
    unopened st (inr e) h = rw e refl

    started : (st : State) → (st ≡ l.endpoint.state) ⊎ (st ≡ S.Closed) → is_starting l.endpoint.state ≡ true →
        is_starting st ≡ true
    started st (inl e) h = rw e h
    started st (inr e) h = rw e refl

pub slot-moves : {x y : Side} → Paired x y →
    Moves x (slot_outcome x.link).link (x.air ++ cons_option (slot_outcome x.link).frame []) (told (slot_outcome x.link).notices) y
slot-moves {x} h = alone (slot-alone x.past x.link) h

-- ---- a slot passes

passes-alone : (os : List Opening) (l : LinkState) → IsSound l → IsFine Three l → Alone os l (after_slot l) [] []
passes-alone os l h fine = record {
  acts = λ p ins air k. record {
    sound = record { window = h.window; new = h.new; unheard = h.unheard; sapi = h.sapi; bare = h.bare };
    holds = rw (append-nil air) k;
    messages = λ shut. refl;
    later = os;
    told_is = refl;
    grows = grown refl (prefix-refl l.endpoint.messages);
  };
  ages = record { past = λ p. p; fine = λ f. record { sapi = f.sapi; informed = f.informed; answer = f.answer } };
  silent = λ p. tt;
  settled = tt;
  heard = refl;
  opens = λ now. now;
  calm = λ old none. (tt, none, not-opening l.endpoint.state old);
  starts = λ start owes. (tt, owes, start);
}
  where
    not-opening : (st : State) → is_new st ≡ false → is_opening st ≡ false
    not-opening st h = grind (arith, h)

pub passes-moves : {x y : Side} → Paired x y → Moves x (after_slot x.link) x.air [] y
passes-moves {x} h = rw (append-nil x.air) at (alone (passes-alone x.past x.link) h)

-- ---- calls of layer 3

no-info : (role : Role) (call : Call) → IsCallAllowedFor role Three call → (info : List ℕ) → call ≡ Opens info → ⊥
no-info role (Opens i) may info e = absurd (cc may.0)
no-info role call may info e = cc e

pub call-alone : (os : List Opening) (role : Role) (call : Call) (l : LinkState) → IsLinkCall call →
    IsCallAllowedFor role Three call →
    is_reopened_by_call call l ≡ false → refusal_of call l.endpoint ≡ None → IsSound l → IsFine Three l →
    Alone os l (with_outcome (call_outcome call l.endpoint) l) [] (Asked call ∷ [])
call-alone os role call l own may once ok h fine = record {
  acts = λ p ins air k. call_acts air os l h call own (no-info role call may) ok k;
  ages = rw same at (ages-call Three role call l own may once None (rw found ok) fine);
  silent = λ p. tt;
  settled = tt;
  heard = held-frames (call_outcome call l.endpoint).frames (record l { endpoint = (call_outcome call l.endpoint).new_state });
  opens = λ now. opened call l.endpoint own (rw abstract-state at now);
  calm = λ old none. (tt, rw (called-answer call l own) none, rw abstract-state (unopened call l.endpoint own ok old));
  starts = λ start owes. (tt, rw (called-answer call l own) owes, rw abstract-state (started call l.endpoint own ok start));
}
  where
    found : (for_call call l).endpoint ≡ l.endpoint
    found = ap (λ (b : Bool). (if b then afresh l else l).endpoint) once

    same : after_call call l ≡ with_outcome (call_outcome call l.endpoint) l
    same = ap (λ (b : Bool). let m = if b then afresh l else l in with_outcome (call_outcome call m.endpoint) m) once

    abstract-state : (with_outcome (call_outcome call l.endpoint) l).endpoint.state ≡ (call_outcome call l.endpoint).new_state.state
    abstract-state = ap (λ (e : EndpointState). e.state) (endpoint_with_frames (call_outcome call l.endpoint).frames
        (record l { endpoint = (call_outcome call l.endpoint).new_state }))

    opened : (call : Call) (x : EndpointState) → IsLinkCall call → is_open (call_outcome call x).new_state.state ≡ true →
        is_open x.state ≡ true
    opened call x own now = grind (arith, own, now)

    unopened : (call : Call) (x : EndpointState) → IsLinkCall call → refusal_of call x ≡ None → is_new x.state ≡ false →
        is_opening (call_outcome call x).new_state.state ≡ false
    unopened call x own ok old = grind (arith, own, ok, old)

    started : (call : Call) (x : EndpointState) → IsLinkCall call → refusal_of call x ≡ None → is_starting x.state ≡ true →
        is_starting (call_outcome call x).new_state.state ≡ true
    started call x own ok start = grind (arith, own, ok, start)

pub call-moves : {x y : Side} → Paired x y → (role : Role) (call : Call) → IsLinkCall call → IsCallAllowedFor role Three call →
    is_reopened_by_call call x.link ≡ false → refusal_of call x.link.endpoint ≡ None →
    Moves x (with_outcome (call_outcome call x.link.endpoint) x.link) x.air (Asked call ∷ []) y
call-moves {x} h role call own may once ok =
    rw (append-nil x.air) at (alone (call-alone x.past role call x.link own may once ok) h)

-- a step of which layer 3 sees nothing, and after which the opening is as before
pub silent-steps : {p : EndpointState} {ins : List Content} {air : List Frame} {os : List Opening} {l m : LinkState} {sent : List Frame}
    {lines : List Line} → opening_of m.endpoint ≡ opening_of l.endpoint → Steps p ins air os l m sent lines →
    Steps p ins air os l m sent []
silent-steps {os = os} {l = l} e s = record {
  sound = s.sound;
  holds = s.holds;
  messages = s.messages;
  later = os;
  told_is = ap (λ (o : Opening). o ∷ os) (sym e);
  grows = grown refl (subst (λ (o : Opening). IsPrefix l.endpoint.messages o.sent) (sym e) (prefix-refl l.endpoint.messages));
}

-- layer 3 opens a link that started afresh
pub reopens : {x y : Side} → Paired (restarted x) y → (role : Role) →
    Moves x (with_outcome (call_outcome OpensWithoutInfo (afresh x.link).endpoint) (afresh x.link)) x.air (Asked OpensWithoutInfo ∷ []) y
reopens {x} h role =
    let make = λ (sound : IsSound (afresh x.link)) (fine : IsFine Three (afresh x.link)).
    silent (call-alone (opening x ∷ x.past) role OpensWithoutInfo (afresh x.link) tt refl refl refl sound fine) in
    let t = rw (append-nil x.air) at (alone make h) in
    record { past = t.past; told_is = t.told_is; paired = t.paired }
  where
    silent : Alone (opening x ∷ x.past) (afresh x.link)
        (with_outcome (call_outcome OpensWithoutInfo (afresh x.link).endpoint) (afresh x.link)) [] (Asked OpensWithoutInfo ∷ []) →
        Alone (opening x ∷ x.past) (afresh x.link)
        (with_outcome (call_outcome OpensWithoutInfo (afresh x.link).endpoint) (afresh x.link)) [] []
    silent h = record {
      acts = λ p ins air k. silent-steps refl (h.acts p ins air k);
      ages = h.ages;
      silent = h.silent;
      settled = h.settled;
      heard = h.heard;
      opens = h.opens;
      calm = h.calm;
      starts = h.starts;
    }

-- layer 3 released it locally
pub releases : {x y : Side} → Paired (restarted x) y → Moves x (afresh x.link) x.air (Released ∷ []) y
releases {x} h = record { past = opening x ∷ x.past; told_is = refl; paired = h }
