-- A run of two links keeps their sides paired, so the claims hold of what layer 3 sees of it.
use Rattle.std.specs.Prelude.{◌≡◌, ◌⊎◌, Bool, true, false, if◌then◌else◌, ℕ, List, [], ◌∷◌, drop, All, Some}
use Rattle.std.specs.Prelude.{None}
use Rattle.std.proofs.Common.{arith, refl, sym, ap, ◌∙◌, inl, inr, subst}
use Rattle.std.proofs.lemmas.List.Elements.{All-head, All-tail}
use Rattle.lapdm_frame.specs.declared.Channel.{Channel}
use Rattle.lapdm_frame.specs.Content.{Frame}
use Rattle.lapdm_end.specs.lapdm_window.declared.Sapi.TheVariants.{Three}
use Rattle.lapdm_end.specs.lapdm_window.Ends.{Role, Mobile, Network, initial_endpoint}
use Rattle.lapdm_end.specs.lapdm_window.Calls.{Call, OpensWithoutInfo, IsCallAllowedFor, call_outcome, refusal_of}
use Rattle.lapdm_link.specs.Queues.{IsOldestSentOrNone}
use Rattle.lapdm_link.specs.Events.{other}
use Rattle.lapdm_link.proofs.Events.{AllOf}
use Rattle.lapdm_datalink.specs.Links.{LinkState, link_with, afresh, after_call, with_outcome, after_received, received_notices}
use Rattle.lapdm_datalink.specs.Links.{is_reopened_by_call, is_reopened_by_frame, for_call, IsLinkCall}
use Rattle.lapdm_openings.specs.Pairs.{Pair, PairEvent, Calls, Releases, Passes, Slot, Arrives, initial_pair, IsPossible, IsRun, IsQuiet}
use Rattle.lapdm_openings.specs.Pairs.{IsFirst, after_event, IsNoLinkChange, IsNoOpener, is_opener}
use Rattle.lapdm_openings.specs.Openings.{Opening, new_opening, Line, Asked, told, after_lines, seen_by, later_openings, none}
use Rattle.lapdm_openings.specs.Openings.{DeliversByOpenings, Follows, WereGot, unheard}
use Rattle.lapdm_openings.proofs.Follow.{opening_of}
use Rattle.lapdm_openings.proofs.Holds.{zeros-hold}
use Rattle.lapdm_openings.proofs.Pairing.{Side, Half, Paired, even, paired-swapped, restarted, claimed, sound-afresh, zero-afresh}
use Rattle.lapdm_openings.proofs.Moves.{Moves, slot-moves, passes-moves, call-moves, reopens, releases}
use Rattle.lapdm_openings.proofs.Arrivals.{take-moves, lost-moves, restarts, false-or-true}

-- the openings of both sides are those of two paired sides
record At (p : Pair) (os : Role → List Opening) : Type 0 where
  mobile : List Opening
  network : List Opening
  is_mobile : os Mobile ≡ opening_of p.mobile.endpoint ∷ mobile
  is_network : os Network ≡ opening_of p.network.endpoint ∷ network
  paired : Paired (record { link = p.mobile; air = p.air.up; past = mobile })
      (record { link = p.network; air = p.air.down; past = network })

module _ {p : Pair} {os : Role → List Opening} (a : At p os) where
  abbrev mobile_side : Side
  mobile_side = record { link = p.mobile; air = p.air.up; past = a.mobile }

  abbrev network_side : Side
  network_side = record { link = p.network; air = p.air.down; past = a.network }

  mobile-acts : {l : LinkState} {up down : List Frame} {lines : List Line} → Moves mobile_side l up lines
      (record network_side { air = down }) →
      (ps : Role → List Opening) → ps Mobile ≡ after_lines lines (os Mobile) → ps Network ≡ os Network →
      At (record { mobile = l; network = p.network; air = record { up = up; down = down } }) ps
  mobile-acts {lines = lines} t ps e f = record {
    mobile = t.past;
    network = a.network;
    is_mobile = e ∙ ap (after_lines lines) a.is_mobile ∙ t.told_is;
    is_network = f ∙ a.is_network;
    paired = t.paired;
  }

  network-acts : {l : LinkState} {up down : List Frame} {lines : List Line} → Moves network_side l down lines
      (record mobile_side { air = up }) →
      (ps : Role → List Opening) → ps Network ≡ after_lines lines (os Network) → ps Mobile ≡ os Mobile →
      At (record { mobile = p.mobile; network = l; air = record { up = up; down = down } }) ps
  network-acts {lines = lines} t ps e f = record {
    mobile = a.mobile;
    network = t.past;
    is_mobile = f ∙ a.is_mobile;
    is_network = e ∙ ap (after_lines lines) a.is_network ∙ t.told_is;
    paired = paired-swapped t.paired;
  }

all-of : (P : Frame → Type 0) (fs : List Frame) → All P fs → AllOf P fs
all-of P [] h = tt
all-of P (f ∷ fs) h = (All-head P f fs h, all-of P fs (All-tail P f fs h))

-- ---- calls

reopening : (call : Call) (l : LinkState) → is_reopened_by_call call l ≡ true → call ≡ OpensWithoutInfo
reopening call l h = grind (arith, h)

found : (call : Call) (l : LinkState) → is_reopened_by_call call l ≡ false → (for_call call l) ≡ l
found call l h = ap (λ (b : Bool). if b then afresh l else l) h

called : (call : Call) (l : LinkState) → is_reopened_by_call call l ≡ false → after_call call l ≡ with_outcome
    (call_outcome call l.endpoint) l
called call l h = ap (λ (m : LinkState). with_outcome (call_outcome call m.endpoint) m) (found call l h)

recalled : (l : LinkState) → is_reopened_by_call OpensWithoutInfo l ≡ true →
    after_call OpensWithoutInfo l ≡ with_outcome (call_outcome OpensWithoutInfo (afresh l).endpoint) (afresh l)
recalled l h = ap (λ (b : Bool). let m = if b then afresh l else l in with_outcome (call_outcome OpensWithoutInfo m.endpoint) m) h

-- side `x` is called
calls-move : {x y : Side} → Paired x y → (role : Role) (call : Call) → IsLinkCall call → IsCallAllowedFor role Three call →
    refusal_of call (for_call call x.link).endpoint ≡ None → (is_reopened_by_call call x.link ≡ true → Paired (restarted x) y) →
    Moves x (after_call call x.link) x.air (Asked call ∷ []) y
calls-move {x} {y} h role call own may ok again = by (false-or-true (is_reopened_by_call call x.link))
  where
    bare : is_reopened_by_call OpensWithoutInfo x.link ≡ true → Paired (restarted x) y →
        Moves x (after_call OpensWithoutInfo x.link) x.air (Asked OpensWithoutInfo ∷ []) y
    bare e k = rw (recalled x.link e) (reopens k role)

    by : (is_reopened_by_call call x.link ≡ false) ⊎ (is_reopened_by_call call x.link ≡ true) →
        Moves x (after_call call x.link) x.air (Asked call ∷ []) y
    by (inl once) =
        rw (called call x.link once) (call-moves h role call own may once (rw (found call x.link once) at ok))
    by (inr e) =
        let is = reopening call x.link e in
        subst (λ (c : Call). Moves x (after_call c x.link) x.air (Asked c ∷ []) y) (sym is) (bare (rw is at e) (again e))

quiet-mobile : {p : Pair} {os : Role → List Opening} (a : At p os) → IsQuiet Mobile p →
    Paired (restarted (mobile_side a)) (network_side a)
quiet-mobile {p} a q = restarts a.paired (all-of IsNoLinkChange p.air.up q.own)
    (λ e. (let t = q.others e in (all-of IsNoOpener p.air.down t.0, t.1)))

quiet-network : {p : Pair} {os : Role → List Opening} (a : At p os) → IsQuiet Network p →
    Paired (restarted (network_side a)) (mobile_side a)
quiet-network {p} a q = restarts (paired-swapped a.paired) (all-of IsNoLinkChange p.air.down q.own)
    (λ e. (let t = q.others e in (all-of IsNoOpener p.air.up t.0, t.1)))

-- ---- arrivals

-- the openings after an event
abbrev seen : PairEvent → Pair → (Role → List Opening) → Role → List Opening
seen event p os r = after_lines (seen_by r event p) (os r)

module _ {p : Pair} {os : Role → List Opening} (a : At p os) where
  comes-down : (f : Frame) (fs : List Frame) → p.air.down ≡ f ∷ fs →
      (is_reopened_by_frame f p.mobile ≡ true → IsFirst Mobile p) → At (after_event (Arrives Network (Some f)) p) (seen
      (Arrives Network (Some f)) p os)
  comes-down f fs is may =
      mobile-acts a (subst (λ gs. Moves (mobile_side a) (after_received f p.mobile) p.air.up (told (received_notices f p.mobile))
      (record (network_side a) { air = gs })) (sym (ap (λ gs. drop 1 gs) is)) (take-moves a.paired f fs is
      (λ e. (let m = may e in (m.sender, all-of IsNoOpener p.air.up m.answers)))))
      (seen (Arrives Network (Some f)) p os) refl refl

  comes-up : (f : Frame) (fs : List Frame) → p.air.up ≡ f ∷ fs →
      (is_reopened_by_frame f p.network ≡ true → IsFirst Network p) → At (after_event (Arrives Mobile (Some f)) p) (seen
      (Arrives Mobile (Some f)) p os)
  comes-up f fs is may =
      network-acts a (subst (λ gs. Moves (network_side a) (after_received f p.network) p.air.down (told (received_notices f p.network))
      (record (mobile_side a) { air = gs })) (sym (ap (λ gs. drop 1 gs) is)) (take-moves (paired-swapped a.paired) f fs is
      (λ e. (let m = may e in (m.sender, all-of IsNoOpener p.air.down m.answers)))))
      (seen (Arrives Mobile (Some f)) p os) refl refl

  lost-down : (fs : List Frame) → p.air.down ≡ fs → At (after_event (Arrives Network None) p) (seen (Arrives Network None) p os)
  lost-down [] is = mobile-acts a (subst (λ gs. Moves (mobile_side a) p.mobile p.air.up [] (record (network_side a) { air = gs }))
      (is ∙ sym (ap (λ gs. drop 1 gs) is)) (record { past = a.mobile; told_is = refl; paired = a.paired }))
      (seen (Arrives Network None) p os) refl refl
  lost-down (f ∷ fs) is = mobile-acts a (subst (λ gs. Moves (mobile_side a) p.mobile p.air.up [] (record (network_side a) { air = gs }))
      (sym (ap (λ gs. drop 1 gs) is)) (lost-moves a.paired f fs is)) (seen (Arrives Network None) p os) refl refl

  lost-up : (fs : List Frame) → p.air.up ≡ fs → At (after_event (Arrives Mobile None) p) (seen (Arrives Mobile None) p os)
  lost-up [] is = network-acts a (subst (λ gs. Moves (network_side a) p.network p.air.down [] (record (mobile_side a) { air = gs }))
      (is ∙ sym (ap (λ gs. drop 1 gs) is)) (record { past = a.network; told_is = refl; paired = paired-swapped a.paired }))
      (seen (Arrives Mobile None) p os) refl refl
  lost-up (f ∷ fs) is = network-acts a (subst (λ gs. Moves (network_side a) p.network p.air.down [] (record (mobile_side a)
      { air = gs }))
      (sym (ap (λ gs. drop 1 gs) is)) (lost-moves (paired-swapped a.paired) f fs is)) (seen (Arrives Mobile None) p os) refl refl

pub oldest : (f : Frame) (fs : List Frame) → IsOldestSentOrNone (Some f) fs → fs ≡ f ∷ drop 1 fs
oldest f [] h = absurd h
oldest f (g ∷ gs) h = ap (λ (k : Frame). k ∷ gs) (sym h)

-- ---- an event, and a run

step : (event : PairEvent) (p : Pair) (os : Role → List Opening) → IsPossible event p → At p os → At (after_event event p)
    (seen event p os)
step (Calls Mobile call) p os (own, allowed, ok, quiet) a =
    mobile-acts a (calls-move a.paired Mobile call own allowed ok (λ e. quiet-mobile a (quiet e))) (seen (Calls Mobile call) p os)
    refl refl
step (Calls Network call) p os (own, allowed, ok, quiet) a =
    network-acts a (calls-move (paired-swapped a.paired) Network call own allowed ok (λ e. quiet-network a (quiet e)))
    (seen (Calls Network call) p os) refl refl
step (Releases Mobile) p os quiet a = mobile-acts a (releases (quiet-mobile a quiet)) (seen (Releases Mobile) p os) refl refl
step (Releases Network) p os quiet a = network-acts a (releases (quiet-network a quiet)) (seen (Releases Network) p os) refl refl
step (Passes Mobile) p os may a = mobile-acts a (passes-moves a.paired) (seen (Passes Mobile) p os) refl refl
step (Passes Network) p os may a = network-acts a (passes-moves (paired-swapped a.paired)) (seen (Passes Network) p os) refl refl
step (Slot Mobile) p os may a = mobile-acts a (slot-moves a.paired) (seen (Slot Mobile) p os) refl refl
step (Slot Network) p os may a = network-acts a (slot-moves (paired-swapped a.paired)) (seen (Slot Network) p os) refl refl
step (Arrives Mobile (Some f)) p os may a = comes-up a f (drop 1 p.air.up) (oldest f p.air.up may.0) may.1
step (Arrives Network (Some f)) p os may a = comes-down a f (drop 1 p.air.down) (oldest f p.air.down may.0) may.1
step (Arrives Mobile None) p os may a = lost-up a p.air.up refl
step (Arrives Network None) p os may a = lost-down a p.air.down refl

abbrev after_events : List PairEvent → Pair → Pair
after_events [] p = p
after_events (event ∷ events) p = after_events events (after_event event p)

run : (events : List PairEvent) (p : Pair) (os : Role → List Opening) → IsRun events p → At p os →
    At (after_events events p) (λ r. later_openings r events p (os r))
run [] p os h a = a
run (event ∷ events) p os h a = run events (after_event event p) (seen event p os) h.1 (step event p os h.0 a)

-- ---- the claims

record Claim (own others : List Opening) : Type 0 where
  in_order : Follows own others
  acked : WereGot own others

claims : (p : Pair) (os : Role → List Opening) → At p os → (r : Role) → Claim (os r) (os (other r))
claims p os a Mobile =
    let c = claimed a.paired in rw (a.is_mobile, a.is_network) (record { in_order = c.in_order; acked = c.acked })
claims p os a Network =
    let c = claimed (paired-swapped a.paired) in rw (a.is_mobile, a.is_network) (record { in_order = c.in_order; acked = c.acked })

module _ (channel : Channel) (t200 : Role → ℕ) where
  new-half : (r q : Role) → Half [] [] (link_with (initial_endpoint r Three channel) (t200 r)) (link_with
      (initial_endpoint q Three channel) (t200 q))
  new-half r q = record {
    sound = sound-afresh (link_with (initial_endpoint r Three channel) (t200 r)) refl;
    hears = record {
      fine = record { sapi = refl; informed = refl; answer = tt };
      settled = tt;
      heard = λ e. absurd (cc e);
    };
    stale = λ now. refl;
    none = tt;
  }

  start : At (initial_pair channel t200) (λ r. new_opening ∷ [])
  start = record {
    mobile = [];
    network = [];
    is_mobile = refl;
    is_network = refl;
    paired = even (record {
      ox = [];
      cx = [];
      oy = [];
      cy = [];
      air_x = refl;
      air_y = refl;
      here = new-half Mobile Network;
      there = new-half Network Mobile;
      holds = zeros-hold (zero-afresh (link_with (initial_endpoint Mobile Three channel) (t200 Mobile)))
          (zero-afresh (link_with (initial_endpoint Network Three channel) (t200 Network)));
      follows_x = unheard none;
      follows_y = unheard none;
      got_x = tt;
      got_y = tt;
    });
  }

  pub deliver_by_openings : (events : List PairEvent) → IsRun events (initial_pair channel t200) →
      DeliversByOpenings events (initial_pair channel t200)
  deliver_by_openings events h =
      let a = run events (initial_pair channel t200) (λ r. new_opening ∷ []) h start in
      let os = λ (r : Role). later_openings r events (initial_pair channel t200) (new_opening ∷ []) in
      record {
        in_order = λ role. (claims (after_events events (initial_pair channel t200)) os a role).in_order;
        acked = λ role. (claims (after_events events (initial_pair channel t200)) os a role).acked;
      }
