-- The two sides of a run: each is paired with the current opening of the other, or one of them is ahead: it has started afresh, and the
-- other still reads what it sent before.
use Rattle.std.specs.Prelude.{◌≡◌, ◌⊎◌, ◌≤◌, Bool, true, false, List, [], ◌∷◌, ◌++◌, length, Option, Some}
use Rattle.std.specs.Prelude.{None, IfSome}
use Rattle.std.specs.List.{cons_option}
use Rattle.std.proofs.Common.{arith, refl, sym, ap, ◌∙◌, inl, inr, append_assoc, subst}
use Rattle.std.proofs.lemmas.List.{append-nil}
use Rattle.std.proofs.lemmas.List.Elements.{All-nil}
use Rattle.lapdm_frame.specs.Content.{Content, Frame}
use Rattle.lapdm_frame.specs.Layout.{n201}
use Rattle.lapdm_end.specs.lapdm_window.declared.State.{State}
use Rattle.lapdm_end.specs.lapdm_window.declared.Sapi.TheVariants.{Three}
use Rattle.lapdm_end.specs.lapdm_window.segmenting.Joining.{messages}
use Rattle.lapdm_end.specs.lapdm_window.segmenting.Segments.{IsValidMessage}
use Rattle.lapdm_end.specs.lapdm_window.Ends.{EndpointState, HasWindowOfOne}
use Rattle.lapdm_end.specs.lapdm_window.Rules.{is_open}
use Rattle.lapdm_link.specs.Claims.{IsPrefix}
use Rattle.lapdm_link.proofs.Events.{AllOf, IsPlain, content_of_body, contents, of-append, of-as}
use Rattle.lapdm_link.proofs.Directions.{climbs-le}
use Rattle.lapdm_link.proofs.Links.{prefix, counted}
use Rattle.lapdm_link.proofs.Rules.{sends_plain}
use Rattle.lapdm_link.proofs.Subsequences.{IsSub, all}
use Rattle.lapdm_datalink.specs.Links.{LinkState, afresh, heard_with, is_opened_again, is_numbered, is_opening}
use Rattle.lapdm_delivery.proofs.Heard.{IsFine, Ages, is_past, is_sabm, heard-by}
use Rattle.lapdm_openings.specs.Pairs.{is_opener, is_link_change}
use Rattle.lapdm_openings.specs.Openings.{Opening, Line, Follows, unheard, silent, gets, WereGot}
use Rattle.lapdm_openings.proofs.Follow.{Above, level, higher, above-followed, above-got, above-gets, above-then, Grown, grown, begun}
use Rattle.lapdm_openings.proofs.Follow.{grown-followed, above-follows, got-nothing, got-later, opening_of}
use Rattle.lapdm_openings.proofs.Holds.{Hold, IsZero, fewer, swapped, rejoins, zeros-hold}
use Rattle.lapdm_openings.proofs.Acts.{IsSound, Steps, owed, under_way, way-is, front, zero-opening}
use Rattle.lapdm_openings.proofs.Answers.{NoOpener, IsDm, IsFirstWord, is_starting, is_dm}

-- one side: its link, its frames on the air, and its openings before the current one, the newest first
pub record Side : Type 0 where
  pub link : LinkState
  pub air : List Frame
  pub past : List Opening

abbrev pub opening : Side → Opening
opening x = opening_of x.link.endpoint

-- ---- what follows from the invariant of both directions

module _ {x y : EndpointState} {out comes : List Content} (w : HasWindowOfOne x) (h : Hold x y out comes) where
  pub got-of : IsPrefix (opening_of y).got (opening_of x).sent
  got-of = prefix (n201 x.channel) x.messages w.messages (length y.accepted_segments) y.accepted_segments h.forward.in_order

  pub acked-of : (opening_of x).acked ≤ length (opening_of y).got
  acked-of = counted (n201 x.channel) x.messages w.messages (length y.accepted_segments) y.accepted_segments h.forward.in_order
      x.acked_segments (climbs-le h.forward.acknowledged)

-- ---- an end that has shown itself open sends no SABM any more

abbrev pub Silent : List Frame → Type 0
Silent fs = AllOf (λ f. is_sabm f.content ≡ false) fs

-- after an I, RR, RNR or REJ comes no SABM, and the end that sent it is past Opening
abbrev pub Settled : State → List Frame → Type 0
Settled st [] = Unit {0}
Settled st (f ∷ fs) = (is_numbered true f.content ≡ true → Silent fs × (is_past st ≡ true)) × Settled st fs

settled-past : (st st' : State) (q : List Frame) → (is_past st ≡ true → is_past st' ≡ true) → Settled st q → Settled st' q
settled-past st st' [] past h = tt
settled-past st st' (f ∷ fs) past h = (λ n. (let g = h.0 n in (g.0, past g.1)), settled-past st st' fs past h.1)

settled-more : (st st' : State) (q gs : List Frame) → (is_past st ≡ true → is_past st' ≡ true) → (is_past st ≡ true →
    Silent gs) →
    Settled st' gs → Settled st q → Settled st' (q ++ gs)
settled-more st st' [] gs past quiet new h = new
settled-more st st' (f ∷ fs) gs past quiet new h =
    (λ n. (let g = h.0 n in (of-append _ fs gs g.0 (quiet g.1), past g.1)), settled-more st st' fs gs past quiet new h.1)

-- what `y` knows of `x` by the frames in transit from it: once it has heard one that shows `x` open, no SABM comes
pub record Hears (cur : List Frame) (x y : LinkState) : Type 0 where
  pub fine : IsFine Three x
  pub settled : Settled x.endpoint.state cur
  pub heard : y.heard ≡ true → Silent cur × (is_past x.endpoint.state ≡ true)

module _ {cur : List Frame} {x y : LinkState} (h : Hears cur x y) where
  pub hears-more : {x' : LinkState} (gs : List Frame) → Ages Three x x' → (is_past x.endpoint.state ≡ true → Silent gs) →
      Settled x'.endpoint.state gs → Hears (cur ++ gs) x' y
  hears-more {x'} gs g quiet new = record {
    fine = g.fine h.fine;
    settled = settled-more x.endpoint.state x'.endpoint.state cur gs g.past quiet new h.settled;
    heard = λ e. (let t = h.heard e in (of-append _ cur gs t.0 (quiet t.1), g.past t.1));
  }

  pub hears-as : {y' : LinkState} → (y'.heard ≡ true → y.heard ≡ true) → Hears cur x y'
  hears-as same = record { fine = h.fine; settled = h.settled; heard = λ e. h.heard (same e) }

module _ {f : Frame} {cur : List Frame} {x y : LinkState} (h : Hears (f ∷ cur) x y) where
  pub hears-rest : Hears cur x y
  hears-rest = record { fine = h.fine; settled = h.settled.1; heard = λ e. (let t = h.heard e in (t.0.1, t.1)) }

  pub hears-taken : {y' : LinkState} → y'.heard ≡ heard_with f y → Hears cur x y'
  hears-taken same = record { fine = h.fine; settled = h.settled.1; heard = λ e. by (heard-by f y (sym same ∙ e)) }
    where
      by : (y.heard ≡ true) ⊎ (is_numbered true f.content ≡ true) → Silent cur × (is_past x.endpoint.state ≡ true)
      by (inl e) = let t = h.heard e in (t.0.1, t.1)
      by (inr n) = h.settled.0 n

  -- the frame does not open `y` again
  pub hears-not_again : is_opened_again f y ≡ false
  hears-not_again = by y.heard f.content refl refl (λ e. (h.heard e).0.0)
    where
      by : (b : Bool) (c : Content) → y.heard ≡ b → f.content ≡ c → (b ≡ true → is_sabm c ≡ false)
          → is_opened_again f y ≡ false
      by b c e g none_comes = grind (arith, e, g, none_comes)

-- ---- one direction of a pair of sides

-- The frames on the air from `x` are `old`, from before this pairing, then `cur`. The old ones open no link, and `y` is not open while
-- there are any.
pub record Half (old cur : List Frame) (x y : LinkState) : Type 0 where
  pub sound : IsSound x
  pub hears : Hears cur x y
  pub stale : is_open y.endpoint.state ≡ true → old ≡ []
  pub none : AllOf NoOpener old

-- ---- both sides are in openings that are paired

pub record Even (x y : Side) : Type 0 where
  pub ox : List Frame
  pub cx : List Frame
  pub oy : List Frame
  pub cy : List Frame
  pub air_x : x.air ≡ ox ++ cx
  pub air_y : y.air ≡ oy ++ cy
  pub here : Half ox cx x.link y.link
  pub there : Half oy cy y.link x.link
  pub holds : Hold x.link.endpoint y.link.endpoint (under_way cx x.link) (under_way cy y.link)
  pub follows_x : Follows x.past (opening y ∷ y.past)
  pub follows_y : Follows y.past (opening x ∷ x.past)
  pub got_x : WereGot x.past y.past
  pub got_y : WereGot y.past x.past

pub even-swapped : {x y : Side} → Even x y → Even y x
even-swapped e = record {
  ox = e.oy;
  cx = e.cy;
  oy = e.ox;
  cy = e.cx;
  air_x = e.air_y;
  air_y = e.air_x;
  here = e.there;
  there = e.here;
  holds = swapped e.holds;
  follows_x = e.follows_y;
  follows_y = e.follows_x;
  got_x = e.got_y;
  got_y = e.got_x;
}

-- ---- one side is ahead

-- `x` has started afresh and is not open. The frames on the air from it are `sx`, which `y` is not open for, `ox`, from the opening
-- `before` with which `y` is paired, and `cx`, from the current one.
pub record Ahead (x y : Side) : Type 0 where
  pub sx : List Frame
  pub ox : List Frame
  pub cx : List Frame
  pub oy : List Frame
  pub cy : List Frame
  pub air_x : x.air ≡ sx ++ (ox ++ cx)
  pub air_y : y.air ≡ oy ++ cy
  pub sound : IsSound x.link
  pub fine : IsFine Three x.link
  pub zero : IsZero x.link.endpoint
  pub unheard : x.link.heard ≡ false
  pub starting : is_starting x.link.endpoint.state ≡ true
  pub owes : IfSome x.link.answer IsDm
  pub words : AllOf IsFirstWord cx
  pub stale_x : AllOf (λ f. is_link_change f.content ≡ false) sx
  pub quiet : AllOf (λ f. is_link_change f.content ≡ false) ox
  pub stale : is_open y.link.endpoint.state ≡ true → sx ≡ []
  pub there : Half oy cy y.link x.link
  pub none : AllOf NoOpener cy
  pub none_owed : IfSome y.link.answer NoOpener
  pub unopening : is_opening y.link.endpoint.state ≡ false
  pub before : EndpointState
  pub window : HasWindowOfOne before
  pub holds : Hold before y.link.endpoint (contents ox) (under_way cy y.link)
  pub rest : List Opening
  pub above : Above (opening_of before ∷ rest) x.past
  pub follows_x : Follows x.past (opening y ∷ y.past)
  pub follows_y : Follows y.past (opening_of before ∷ rest)
  pub got_x : WereGot rest y.past
  pub got_y : WereGot y.past (opening_of before ∷ rest)

pub data Paired (x y : Side) : Type 0 where
  even : Even x y → Paired x y
  first : Ahead x y → Paired x y
  second : Ahead y x → Paired x y

pub paired-swapped : {x y : Side} → Paired x y → Paired y x
paired-swapped (even e) = even (even-swapped e)
paired-swapped (first a) = second a
paired-swapped (second a) = first a

-- ---- openings as a side goes on

later-follows : {o p q : Opening} {os ps qs : List Opening} → Grown o os p ps → IsPrefix o.got q.sent → Follows os (q ∷ qs) →
    Follows ps (q ∷ qs)
later-follows (grown e more) front h = rw e h
later-follows (begun e none-acked) front h = rw e (gets front h)

later-got : {o p : Opening} {os ps : List Opening} (qs : List Opening) → Grown o os p ps → WereGot os qs → WereGot ps qs
later-got qs (grown e more) h = rw e h
later-got {o = o} qs (begun e none-acked) h = rw e (got-nothing o qs none-acked, h)

later-gets : {o p : Opening} {os ps : List Opening} (qs : List Opening) → Grown o os p ps → WereGot qs os → WereGot qs ps
later-gets qs (grown e more) h = rw e h
later-gets {o = o} {os = os} qs (begun e none-acked) h = rw e (got-later o qs os h)

-- in this module, the sides are even, and side `x` acts
module _ {x y : Side} (e : Even x y) where
  -- `x` has sent these frames, and those on the air from `y` are now `oy`, then `cy`
  pub even-next : {l : LinkState} {lines : List Line} (sent oy cy air : List Frame) → air ≡ oy ++ cy →
      (s : Steps y.link.endpoint (under_way cy y.link) e.cx x.past x.link l sent lines) → Hears (e.cx ++ sent) l y.link →
      Hears cy y.link l → (is_open l.endpoint.state ≡ true → oy ≡ []) → AllOf NoOpener oy →
      Even (record { link = l; air = x.air ++ sent; past = s.later }) (record y { air = air })
  even-next {l} sent oy cy air is s out back stale none = record {
    ox = e.ox;
    cx = e.cx ++ sent;
    oy = oy;
    cy = cy;
    air_x = ap (λ fs. fs ++ sent) e.air_x ∙ append_assoc e.ox e.cx sent;
    air_y = is;
    here = record { sound = s.sound; hears = out; stale = e.here.stale; none = e.here.none };
    there = record { sound = e.there.sound; hears = back; stale = stale; none = none };
    holds = s.holds;
    follows_x = later-follows s.grows (got-of e.there.sound.window (swapped e.holds)) e.follows_x;
    follows_y = grown-followed s.grows e.follows_y;
    got_x = later-got y.past s.grows e.got_x;
    got_y = later-gets y.past s.grows e.got_y;
  }

-- in this module, `x` is ahead of `y`
module _ {x y : Side} (a : Ahead x y) where
  got_before : IsPrefix (opening y).got (opening_of a.before).sent
  got_before = got-of a.window a.holds

  -- `y` has sent these frames, and those on the air from `x` are now `sx`, `ox` and `cx`
  pub behind-next : {l : LinkState} {lines : List Line} (sent sx ox cx air : List Frame) → air ≡ sx ++ (ox ++ cx) →
      (s : Steps a.before (contents ox) a.cy y.past y.link l sent lines) → Hears (a.cy ++ sent) l x.link →
      (is_open l.endpoint.state ≡ true → sx ≡ []) → AllOf (λ f. is_link_change f.content ≡ false) sx →
      AllOf (λ f. is_link_change f.content ≡ false) ox → AllOf IsFirstWord cx →
      AllOf NoOpener sent → IfSome l.answer NoOpener → is_opening l.endpoint.state ≡ false →
      Ahead (record x { air = air }) (record { link = l; air = y.air ++ sent; past = s.later })
  behind-next {l} sent sx ox cx air is s out stale quiet_s quiet_o words none none_owed unopening = record {
    sx = sx;
    ox = ox;
    cx = cx;
    oy = a.oy;
    cy = a.cy ++ sent;
    air_x = is;
    air_y = ap (λ fs. fs ++ sent) a.air_y ∙ append_assoc a.oy a.cy sent;
    sound = a.sound;
    fine = a.fine;
    zero = a.zero;
    unheard = a.unheard;
    starting = a.starting;
    owes = a.owes;
    words = words;
    stale_x = quiet_s;
    quiet = quiet_o;
    stale = stale;
    there = record { sound = s.sound; hears = out; stale = a.there.stale; none = a.there.none };
    none = of-append _ a.cy sent a.none none;
    none_owed = none_owed;
    unopening = unopening;
    before = a.before;
    window = a.window;
    holds = swapped s.holds;
    rest = a.rest;
    above = a.above;
    follows_x = grown-followed s.grows a.follows_x;
    follows_y = later-follows s.grows got_before a.follows_y;
    got_x = later-gets a.rest s.grows a.got_x;
    got_y = later-got (opening_of a.before ∷ a.rest) s.grows a.got_y;
  }

  -- `x` has sent these frames, and those on the air from `y` are now `oy`, then `cy`
  pub ahead-next : {l : LinkState} (sent oy cy air : List Frame) (later : List Opening) → air ≡ oy ++ cy →
      IsSub (under_way cy y.link) (under_way a.cy y.link) → Above x.past later → IsSound l → IsFine Three l → IsZero l.endpoint →
      l.heard ≡ false → is_starting l.endpoint.state ≡ true → IfSome l.answer IsDm → AllOf IsFirstWord sent →
      Hears cy y.link l → AllOf NoOpener oy → AllOf NoOpener cy →
      Ahead (record { link = l; air = x.air ++ sent; past = later }) (record y { air = air })
  ahead-next {l} sent oy cy air later is sub above sound fine zero deaf starting owes words back none_old none = record {
    sx = a.sx;
    ox = a.ox;
    cx = a.cx ++ sent;
    oy = oy;
    cy = cy;
    air_x = ap (λ fs. fs ++ sent) a.air_x ∙ append_assoc a.sx (a.ox ++ a.cx) sent ∙ ap (λ fs. a.sx ++ fs)
        (append_assoc a.ox a.cx sent);
    air_y = is;
    sound = sound;
    fine = fine;
    zero = zero;
    unheard = deaf;
    starting = starting;
    owes = owes;
    words = of-append _ a.cx sent a.words words;
    stale_x = a.stale_x;
    quiet = a.quiet;
    stale = a.stale;
    there = record { sound = a.there.sound; hears = back; stale = λ now. absurd (shut l.endpoint.state starting now); none = none_old };
    none = none;
    none_owed = a.none_owed;
    unopening = a.unopening;
    before = a.before;
    window = a.window;
    holds = fewer (all (contents a.ox)) sub a.holds;
    rest = a.rest;
    above = above-then a.above above;
    follows_x = above-follows above a.follows_x;
    follows_y = a.follows_y;
    got_x = a.got_x;
    got_y = a.got_y;
  }
    where
      shut : (st : State) → is_starting st ≡ true → is_open st ≡ true → ⊥
      shut st h g = grind (arith, h, g)

-- ---- a link starts afresh

pub sound-afresh : (l : LinkState) → l.endpoint.sapi ≡ Three → IsSound (afresh l)
sound-afresh l e = record {
  window = record {
    messages = All-nil IsValidMessage;
    sent_segments = omega arith;
    acked_at_most_sent = omega arith;
    window = omega arith;
  };
  new = λ n. (refl, refl);
  unheard = λ n. (refl, refl);
  sapi = e;
  bare = refl;
}

fine-afresh : (l : LinkState) → l.endpoint.sapi ≡ Three → IsFine Three (afresh l)
fine-afresh l e = record { sapi = e; informed = rw e refl; answer = tt }

pub zero-afresh : (l : LinkState) → IsZero (afresh l).endpoint
zero-afresh l = record { messages = refl; sent = refl; acked = refl; accepted = refl }

abbrev pub restarted : Side → Side
restarted x = record { link = afresh x.link; air = x.air; past = opening x ∷ x.past }

words-plain : (fs : List Frame) → AllOf IsFirstWord fs → AllOf IsPlain (contents fs)
words-plain [] h = tt
words-plain (f ∷ fs) h = by f.content h.0 (words-plain fs h.1)
  where
    by : (c : Content) → (is_sabm c ≡ true) ⊎ (is_dm c ≡ true) → AllOf IsPlain (contents fs) →
        AllOf IsPlain (cons_option (content_of_body c) (contents fs))
    by c h g = grind (arith, h, g)

owed-words : (a : Option Frame) → IfSome a IsDm → AllOf IsFirstWord (cons_option a [])
owed-words None h = tt
owed-words (Some f) h = (inr h, tt)

pub words-way : (fs : List Frame) (l : LinkState) → AllOf IsFirstWord fs → IfSome l.answer IsDm → AllOf IsPlain (under_way fs l)
words-way fs l h g = words-plain (fs ++ owed l) (of-append _ fs (owed l) h (owed-words l.answer g))

settled-words : (st : State) (fs : List Frame) → AllOf IsFirstWord fs → Settled st fs
settled-words st [] h = tt
settled-words st (f ∷ fs) h = (λ n. absurd (no f.content h.0 n), settled-words st fs h.1)
  where
    no : (c : Content) → (is_sabm c ≡ true) ⊎ (is_dm c ≡ true) → is_numbered true c ≡ true → ⊥
    no c h n = grind (arith, h, n)

pub quiet-opener : (c : Content) → is_link_change c ≡ false → is_opener c ≡ false
quiet-opener c e = grind (arith, e)

quiet-none : (fs : List Frame) → AllOf (λ f. is_link_change f.content ≡ false) fs → AllOf NoOpener fs
quiet-none fs h = of-as _ NoOpener (λ f e. quiet-opener f.content e) fs h

pub shut-starting : (st : State) → is_starting st ≡ true → is_open st ≡ false
shut-starting st h = grind (arith, h)

never-open : (st : State) {A : Type 0} → is_open st ≡ false → is_open st ≡ true → A
never-open st h g = absurd (no (sym h ∙ g))
  where
    no : false ≡ true → ⊥
    no e = cc

-- `y` is not open yet, or has heard nothing
hears-words : {x y : LinkState} (cx : List Frame) → IsFine Three x → AllOf IsFirstWord cx → y.heard ≡ false → Hears cx x y
hears-words {x} cx fine words deaf =
    record { fine = fine; settled = settled-words x.endpoint.state cx words; heard = λ e. absurd (no (sym deaf ∙ e)) }
  where
    no : false ≡ true → ⊥
    no e = cc

both-empty : {A : Type 0} (xs ys : List A) → xs ≡ [] → ys ≡ [] → xs ++ ys ≡ []
both-empty xs ys e f = rw (e, f) refl

module _ {x y : Side} (a : Ahead x y) where
  none-old : AllOf NoOpener (a.sx ++ a.ox)
  none-old = of-append NoOpener a.sx a.ox (quiet-none a.sx a.stale_x) (quiet-none a.ox a.quiet)

  air-old : x.air ≡ (a.sx ++ a.ox) ++ a.cx
  air-old = a.air_x ∙ sym (append_assoc a.sx a.ox a.cx)

  -- the side behind has heard nothing, so its opening is as good as new
  pub catches-up : y.link.heard ≡ false → (is_open y.link.endpoint.state ≡ true → a.ox ≡ []) → Even x y
  catches-up deaf read = let u = a.there.sound.unheard deaf in record {
    ox = a.sx ++ a.ox;
    cx = a.cx;
    oy = a.oy;
    cy = a.cy;
    air_x = air-old;
    air_y = a.air_y;
    here = record {
      sound = a.sound;
      hears = hears-words a.cx a.fine a.words deaf;
      stale = λ now. both-empty a.sx a.ox (a.stale now) (read now);
      none = none-old;
    };
    there = a.there;
    holds = rejoins (under_way a.cx x.link) a.zero u.0 u.1 (words-way a.cx x.link a.words a.owes) a.holds;
    follows_x = a.follows_x;
    follows_y = unheard (above-followed a.above a.follows_y);
    got_x = above-got y.past a.above (got-nothing (opening_of a.before) y.past (none-acked u.0), a.got_x);
    got_y = above-gets y.past a.above a.got_y;
  }
    where
      none-acked : y.link.endpoint.accepted_segments ≡ [] → (opening_of a.before).acked ≡ 0
      none-acked e =
          let n : length (messages y.link.endpoint.accepted_segments) ≡ 0 = ap (λ ps. length (messages ps)) e in
          omega (arith, acked-of a.window a.holds, n)

  -- the side behind starts afresh
  pub behind-restarts : Even x (restarted y)
  behind-restarts = record {
    ox = a.sx ++ a.ox;
    cx = a.cx;
    oy = y.air;
    cy = [];
    air_x = air-old;
    air_y = sym (append-nil y.air);
    here = record {
      sound = a.sound;
      hears = hears-words a.cx a.fine a.words refl;
      stale = λ now. absurd (cc now);
      none = none-old;
    };
    there = record {
      sound = sound-afresh y.link a.there.sound.sapi;
      hears = hears-words [] (fine-afresh y.link a.there.sound.sapi) tt a.unheard;
      stale = λ now. never-open x.link.endpoint.state (shut-starting x.link.endpoint.state a.starting) now;
      none = rw a.air_y (of-append NoOpener a.oy a.cy a.there.none a.none);
    };
    holds = swapped (rejoins [] (zero-afresh y.link) a.zero.accepted a.zero.acked tt (swapped (sends_plain (under_way a.cx x.link)
        (words-way a.cx x.link a.words a.owes) (zeros-hold a.zero a.zero))));
    follows_x = unheard a.follows_x;
    follows_y = unheard (above-followed a.above (gets (got-of a.window a.holds) a.follows_y));
    got_x = above-got (opening y ∷ y.past) a.above
        (inl (got-of a.window a.holds, acked-of a.window a.holds), got-later (opening y) a.rest y.past a.got_x);
    got_y = above-gets (opening y ∷ y.past) a.above
        (inl (got-of a.there.sound.window (swapped a.holds), acked-of a.there.sound.window (swapped a.holds)), a.got_y);
  }

  -- the side ahead starts afresh once more
  pub ahead-restarts : Ahead (restarted x) y
  ahead-restarts =
      let k = ahead-next a [] a.oy a.cy y.air (opening x ∷ x.past) a.air_y (all (under_way a.cy y.link)) more
      (sound-afresh x.link a.sound.sapi) (fine-afresh x.link a.sound.sapi) (zero-afresh x.link) refl refl tt tt
      (hears-as a.there.hears (λ e. absurd (cc e))) a.there.none a.none in
      rw (append-nil x.air) at k
    where
      more : Above x.past (opening x ∷ x.past)
      more = rw (zero-opening x.link.endpoint a.zero) (higher level)

pub split : (P : Frame → Type 0) (xs ys : List Frame) → AllOf P (xs ++ ys) → AllOf P xs × AllOf P ys
split P [] ys h = (tt, h)
split P (f ∷ xs) ys h = (let t = split P xs ys h.1 in ((h.0, t.0), t.1))

module _ {x y : Side} (e : Even x y) where
  -- `x` starts afresh while the other side is being opened
  pub even-restarts : y.link.heard ≡ false → is_open y.link.endpoint.state ≡ false → AllOf NoOpener x.air → Even (restarted x) y
  even-restarts deaf shut quiet = let u = e.there.sound.unheard deaf in record {
    ox = x.air;
    cx = [];
    oy = e.oy;
    cy = e.cy;
    air_x = sym (append-nil x.air);
    air_y = e.air_y;
    here = record {
      sound = sound-afresh x.link e.here.sound.sapi;
      hears = hears-words [] (fine-afresh x.link e.here.sound.sapi) tt deaf;
      stale = λ now. never-open y.link.endpoint.state shut now;
      none = quiet;
    };
    there = record {
      sound = e.there.sound;
      hears = hears-as e.there.hears (λ t. absurd (cc t));
      stale = λ now. absurd (cc now);
      none = e.there.none;
    };
    holds = rejoins [] (zero-afresh x.link) u.0 u.1 tt e.holds;
    follows_x = gets (got-of e.there.sound.window (swapped e.holds)) e.follows_x;
    follows_y = unheard e.follows_y;
    got_x = (got-nothing (opening x) y.past (none-acked u.0), e.got_x);
    got_y = got-later (opening x) y.past x.past e.got_y;
  }
    where
      none-acked : y.link.endpoint.accepted_segments ≡ [] → (opening x).acked ≡ 0
      none-acked f =
          let n : length (messages y.link.endpoint.accepted_segments) ≡ 0 = ap (λ ps. length (messages ps)) f in
          omega (arith, acked-of e.here.sound.window e.holds, n)

  -- `x` starts afresh, and is ahead
  pub gets-ahead : AllOf (λ f. is_link_change f.content ≡ false) x.air → AllOf NoOpener y.air → IfSome y.link.answer NoOpener →
      is_opening y.link.endpoint.state ≡ false → Ahead (restarted x) y
  gets-ahead quiet none none_owed unopening = let q = split (λ f. is_link_change f.content ≡ false) e.ox e.cx (subst (AllOf
      (λ f. is_link_change f.content ≡ false)) e.air_x quiet) in let n = split NoOpener e.oy e.cy (subst (AllOf NoOpener)
      e.air_y none) in record {
        sx = e.ox;
        ox = e.cx;
        cx = [];
        oy = e.oy;
        cy = e.cy;
        air_x = e.air_x ∙ ap (λ fs. e.ox ++ fs) (sym (append-nil e.cx));
        air_y = e.air_y;
        sound = sound-afresh x.link e.here.sound.sapi;
        fine = fine-afresh x.link e.here.sound.sapi;
        zero = zero-afresh x.link;
        unheard = refl;
        starting = refl;
        owes = tt;
        words = tt;
        stale_x = q.0;
        quiet = q.1;
        stale = e.here.stale;
        there = record {
          sound = e.there.sound;
          hears = hears-as e.there.hears (λ t. absurd (cc t));
          stale = λ now. absurd (cc now);
          none = e.there.none;
        };
        none = n.1;
        none_owed = none_owed;
        unopening = unopening;
        before = x.link.endpoint;
        window = e.here.sound.window;
        holds = fewer (rw (way-is e.cx x.link) (front (contents e.cx) (contents (owed x.link)))) (all (under_way e.cy y.link)) e.holds;
        rest = x.past;
        above = level;
        follows_x = gets (got-of e.there.sound.window (swapped e.holds)) e.follows_x;
        follows_y = e.follows_y;
        got_x = e.got_x;
        got_y = got-later (opening x) y.past x.past e.got_y;
      }

-- ---- what is claimed

pub record Claimed (x y : Side) : Type 0 where
  pub in_order : Follows (opening x ∷ x.past) (opening y ∷ y.past)
  pub acked : WereGot (opening x ∷ x.past) (opening y ∷ y.past)

even-claimed : {x y : Side} → Even x y → Claimed x y
even-claimed {x} {y} e = record {
  in_order = gets (got-of e.there.sound.window (swapped e.holds)) e.follows_x;
  acked = (inl (got-of e.here.sound.window e.holds, acked-of e.here.sound.window e.holds), got-later (opening y) x.past y.past e.got_x);
}

module _ {x y : Side} (a : Ahead x y) where
  ahead-claimed : Claimed x y
  ahead-claimed = (let new = zero-opening x.link.endpoint a.zero in record {
    in_order = silent (ap (λ (o : Opening). o.got) new) a.follows_x;
    acked = (got-nothing (opening x) (opening y ∷ y.past) (ap (λ (o : Opening). o.acked) new), (behind-restarts a).got_x);
  })

  behind-claimed : Claimed y x
  behind-claimed = record {
    in_order = (behind-restarts a).follows_y;
    acked = got-later (opening x) (opening y ∷ y.past) x.past (behind-restarts a).got_y;
  }

pub claimed : {x y : Side} → Paired x y → Claimed x y
claimed (even e) = even-claimed e
claimed (first a) = ahead-claimed a
claimed (second a) = behind-claimed a
