-- The oldest frame in transit to a side arrives, or is lost; and a link starts afresh.
use Rattle.std.specs.Prelude.{◌≡◌, ◌⊎◌, Bool, true, false, List, [], ◌∷◌, ◌++◌, Option, Some, None, IfSome}
use Rattle.std.specs.List.{cons_option}
use Rattle.std.proofs.Common.{arith, refl, sym, ap, ◌∙◌, inl, inr, subst}
use Rattle.std.proofs.lemmas.List.{append-nil}
use Rattle.lapdm_frame.specs.Content.{Content, Frame}
use Rattle.lapdm_end.specs.lapdm_window.declared.State.{State}
use Rattle.lapdm_end.specs.lapdm_window.declared.Sapi.TheVariants.{Three}
use Rattle.lapdm_end.specs.lapdm_window.Ends.{EndpointState}
use Rattle.lapdm_end.specs.lapdm_window.Rules.{is_open}
use Rattle.lapdm_link.proofs.Events.{AllOf, contents, content_of_body, of-append, of-as}
use Rattle.lapdm_link.proofs.Rules.{gone}
use Rattle.lapdm_link.proofs.Subsequences.{IsSub, all, dropped}
use Rattle.lapdm_datalink.specs.Links.{LinkState, afresh, after_received, received_notices, heard_with, renewed_for, is_opened_again}
use Rattle.lapdm_datalink.specs.Links.{is_opening, is_reopened_by_frame}
use Rattle.lapdm_delivery.proofs.Heard.{IsFine, Ages, is_sabm, ages-received, ages-same, received-is}
use Rattle.lapdm_openings.specs.Pairs.{is_opener, is_link_change}
use Rattle.lapdm_openings.specs.Openings.{Opening, new_opening, Line, after_lines, told}
use Rattle.lapdm_openings.proofs.Follow.{grown, opening_of, prefix-refl}
use Rattle.lapdm_openings.proofs.Holds.{Hold, swapped, zeros-hold}
use Rattle.lapdm_openings.proofs.Acts.{IsSound, Steps, is_new, under_way, is_sequenced, comes-plain, take_acts, stale_acts, not-renewing}
use Rattle.lapdm_openings.proofs.Answers.{NoOpener, IsDm, IsFirstWord, is_dm, is_starting, is_commanding, stays-shut, stays-starting}
use Rattle.lapdm_openings.proofs.Answers.{stays-unopening, received-calm, received-mild, received-heard}
use Rattle.lapdm_openings.proofs.Pairing.{
  shut-starting,
  quiet-opener,
  Side,
  opening,
  Hears,
  hears-more,
  hears-as,
  hears-rest,
  hears-taken,
  hears-not_again,
  Even,
}
use Rattle.lapdm_openings.proofs.Pairing.{Ahead, Paired, even, first, second, even-swapped, even-next, behind-next, catches-up}
use Rattle.lapdm_openings.proofs.Pairing.{behind-restarts, ahead-restarts, even-restarts, gets-ahead, restarted, sound-afresh}
use Rattle.lapdm_openings.proofs.Pairing.{zero-afresh}
use Rattle.lapdm_openings.proofs.Moves.{Moves, never, idle-hold, ahead-moves, silent-steps}
use Rattle.lapdm_end.specs.lapdm_window.declared.State.TheVariants as S
use Rattle.lapdm_end.specs.lapdm_window.declared.Notice.TheVariants as N

-- What the frame `f` makes of the link `l`: it takes the frame, or the frame is lost. `C` holds if no SABM opens the link again.
pub record Reads (C : Type 0) (os : List Opening) (f : Frame) (l m : LinkState) (lines : List Line) : Type 0 where
  given : is_opened_again f l ≡ false → C
  stale : (p : EndpointState) (ins : List Content) (air : List Frame) → is_open l.endpoint.state ≡ false → NoOpener f →
      Hold l.endpoint p (under_way air l) ins → Steps p ins air os l m [] lines
  live : (p : EndpointState) (ins : List Content) (air : List Frame) → C →
      Hold l.endpoint p (under_way air l) (cons_option (content_of_body f.content) ins) → Steps p ins air os l m [] lines
  ages : C → Ages Three l m
  heard : C → (m.heard ≡ heard_with f l) ⊎ (m.heard ≡ l.heard)
  shut : NoOpener f → is_open l.endpoint.state ≡ false → is_open m.endpoint.state ≡ false
  starts : NoOpener f → is_starting l.endpoint.state ≡ true → IfSome l.answer IsDm →
      IfSome m.answer IsDm × (is_starting m.endpoint.state ≡ true)
  calm : C → is_commanding f.content ≡ false → is_opening l.endpoint.state ≡ false → IfSome l.answer NoOpener →
      IfSome m.answer NoOpener × (is_opening m.endpoint.state ≡ false)
  deaf : C → is_sabm f.content ≡ true → l.heard ≡ true → is_opening l.endpoint.state ≡ false → IfSome l.answer NoOpener →
      IfSome m.answer NoOpener × (is_opening m.endpoint.state ≡ false)

heard-shut : (f : Frame) (l : LinkState) → is_open l.endpoint.state ≡ false → heard_with f l ≡ true → l.heard ≡ true
heard-shut f l h g = grind (arith, h, g)

-- a link that is not open hears nothing
still : {C : Type 0} {os : List Opening} {f : Frame} {l m : LinkState} {lines : List Line} → Reads C os f l m lines → C →
    is_open l.endpoint.state ≡ false → m.heard ≡ true → l.heard ≡ true
still {f = f} {l = l} {m = m} h c shut e = by (h.heard c)
  where
    by : (m.heard ≡ heard_with f l) ⊎ (m.heard ≡ l.heard) → l.heard ≡ true
    by (inl g) = heard-shut f l shut (sym g ∙ e)
    by (inr g) = sym g ∙ e

quiet-no_command : (c : Content) → is_link_change c ≡ false → is_commanding c ≡ false
quiet-no_command c h = grind (arith, h)

quiet-no_sabm : (c : Content) → is_link_change c ≡ false → is_sabm c ≡ false
quiet-no_sabm c h = grind (arith, h)

word-plain : (c : Content) → (is_sabm c ≡ true) ⊎ (is_dm c ≡ true) → is_sequenced c ≡ false
word-plain c h = grind (arith, h)

dm-no_command : (c : Content) → is_dm c ≡ true → is_commanding c ≡ false
dm-no_command c h = grind (arith, h)

dm-no_sabm : (c : Content) → is_dm c ≡ true → is_sabm c ≡ false
dm-no_sabm c h = grind (arith, h)

not-again-shut : (f : Frame) (l : LinkState) → is_open l.endpoint.state ≡ false → is_opened_again f l ≡ false
not-again-shut f l h = grind (arith, h)

not-again-other : (f : Frame) (l : LinkState) → is_sabm f.content ≡ false → is_opened_again f l ≡ false
not-again-other f l h = grind (arith, h)

pub false-or-true : (b : Bool) → (b ≡ false) ⊎ (b ≡ true)
false-or-true true = inr refl
false-or-true false = inl refl

-- in this module, the frame `f` comes to side `x`, and is lost or taken
module _ {x y : Side} {f : Frame} {fs : List Frame} {m : LinkState} {lines : List Line} {C : Type 0}
    (make : IsSound x.link → IsFine Three x.link → Reads C x.past f x.link m lines) (is : y.air ≡ f ∷ fs)
  where
    even-old : (e : Even x y) (oy : List Frame) → e.oy ≡ f ∷ oy → fs ≡ oy ++ e.cy → Moves x m x.air lines
        (record y { air = fs })
    even-old e oy p r = by (false-or-true (is_open x.link.endpoint.state))
      where
        none : AllOf NoOpener (f ∷ oy)
        none = rw p at e.there.none

        by : (is_open x.link.endpoint.state ≡ false) ⊎ (is_open x.link.endpoint.state ≡ true) → Moves x m x.air lines
            (record y { air = fs })
        by (inr now) = absurd (cc (sym p ∙ e.there.stale now))
        by (inl shut) =
            let h = make e.here.sound e.here.hears.fine in
            let c = h.given (not-again-shut f x.link shut) in
            let s = h.stale y.link.endpoint (under_way e.cy y.link) e.cx shut none.0 e.holds in
            record {
              past = s.later;
              told_is = s.told_is;
              paired = even (rw (append-nil x.air) at (even-next e [] oy e.cy fs r s
                  (hears-more e.here.hears [] (h.ages c) (λ p. tt) tt) (hears-as e.there.hears (still h c shut))
                  (λ now. never (sym (h.shut none.0 shut) ∙ now)) none.1));
            }

    even-live : (e : Even x y) (cy : List Frame) → e.oy ≡ [] → e.cy ≡ f ∷ cy → fs ≡ cy → Moves x m x.air lines
        (record y { air = fs })
    even-live e cy p q r =
        let h = make e.here.sound e.here.hears.fine in
        let back : Hears (f ∷ cy) y.link x.link = rw q at e.there.hears in
        let c = h.given (hears-not_again back) in
        let s = h.live y.link.endpoint (under_way cy y.link) e.cx c (rw q at e.holds) in
        record {
          past = s.later;
          told_is = s.told_is;
          paired = even (rw (append-nil x.air) at (even-next e [] [] cy fs r s
              (hears-more e.here.hears [] (h.ages c) (λ p. tt) tt) (heard-now back (h.heard c)) (λ now. refl) tt));
        }
      where
        heard-now : Hears (f ∷ cy) y.link x.link → (m.heard ≡ heard_with f x.link) ⊎ (m.heard ≡ x.link.heard)
            → Hears cy y.link m
        heard-now back (inl e) = hears-taken back e
        heard-now back (inr e) = hears-as (hears-rest back) (λ t. sym e ∙ t)

    pub even-reads : Even x y → Moves x m x.air lines (record y { air = fs })
    even-reads e = by e.oy e.cy refl refl (sym is ∙ e.air_y)
      where
        by : (oy cy : List Frame) → e.oy ≡ oy → e.cy ≡ cy → f ∷ fs ≡ oy ++ cy → Moves x m x.air lines
            (record y { air = fs })
        by [] [] p q r = absurd (cc r)
        by [] (g ∷ cy) p q r =
            let k : g ≡ f = cc r in even-live e cy p (q ∙ ap (λ (h : Frame). h ∷ cy) k) (cc r)
        by (g ∷ oy) cy p q r =
            let k : g ≡ f = cc r in
            even-old e oy (p ∙ ap (λ (h : Frame). h ∷ oy) k) (rw q (cc r))

    -- `x` is ahead
    ahead-reads : Ahead x y → Moves x m x.air lines (record y { air = fs })
    ahead-reads a = by a.oy a.cy refl refl (sym is ∙ a.air_y)
      where
        shut : is_open x.link.endpoint.state ≡ false
        shut = shut-starting x.link.endpoint.state a.starting

        go : (oy cy : List Frame) → fs ≡ oy ++ cy → NoOpener f → IsSub (under_way cy y.link) (under_way a.cy y.link)
            → Hears cy y.link x.link →
            AllOf NoOpener oy → AllOf NoOpener cy → Moves x m x.air lines (record y { air = fs })
        go oy cy r other sub back none_old none =
            let h = make a.sound a.fine in
            let c = h.given (not-again-shut f x.link shut) in
            let s = h.stale x.link.endpoint [] a.cx shut other (idle-hold a) in
            let t = h.starts other a.starting a.owes in
            let still_deaf : m.heard ≡ false = deaf m.heard (still h c shut) in
            rw (append-nil x.air) at (ahead-moves a [] oy cy fs r sub s ((h.ages c).fine a.fine) still_deaf t.1 t.0 tt
            (hears-as back (still h c shut)) none_old none)
          where
            deaf : (b : Bool) → (b ≡ true → x.link.heard ≡ true) → b ≡ false
            deaf true g = never (sym a.unheard ∙ g refl)
            deaf false g = refl

        by : (oy cy : List Frame) → a.oy ≡ oy → a.cy ≡ cy → f ∷ fs ≡ oy ++ cy → Moves x m x.air lines
            (record y { air = fs })
        by [] [] p q r = absurd (cc r)
        by [] (g ∷ cy) p q r =
            let k : a.cy ≡ f ∷ cy = q ∙ ap (λ (h : Frame). h ∷ cy) (cc r) in
            let none : AllOf NoOpener (f ∷ cy) = rw k at a.none in
            go [] cy (cc r) none.0 (rw k (contents-less f (cy))) (hears-rest (rw k at a.there.hears)) tt none.1
          where
            contents-less : (f : Frame) (cy : List Frame) → IsSub (under_way cy y.link) (under_way (f ∷ cy) y.link)
            contents-less f cy = less (content_of_body f.content) (under_way cy y.link)
              where
                less : (o : Option Content) (cs : List Content) → IsSub cs (cons_option o cs)
                less None cs = all cs
                less (Some c) cs = dropped (all cs)
        by (g ∷ oy) cy p q r =
            let k : a.oy ≡ f ∷ oy = p ∙ ap (λ (h : Frame). h ∷ oy) (cc r) in
            let none : AllOf NoOpener (f ∷ oy) = rw k at a.there.none in
            go oy a.cy (rw q (cc r)) none.0 (all (under_way a.cy y.link)) a.there.hears none.1 a.none

    -- `x` is behind, and has heard of the other side: the frame finds it as it is
    behind-word : (a : Ahead y x) (cx : List Frame) → a.sx ≡ [] → a.ox ≡ [] → a.cx ≡ f ∷ cx → fs ≡ cx → C →
        is_sequenced f.content ≡ false →
        (Reads C x.past f x.link m lines → IfSome m.answer NoOpener × (is_opening m.endpoint.state ≡ false)) →
        Moves x m x.air lines (record y { air = fs })
    behind-word a cx p q r is_cx c plain calm =
        let h = make a.there.sound a.there.hears.fine in
        let s = h.live a.before [] a.cy c (comes-plain [] f.content plain (rw q at (swapped a.holds))) in
        let t = calm h in
        let words : AllOf IsFirstWord (f ∷ cx) = rw r at a.words in
        record {
          past = s.later;
          told_is = s.told_is;
          paired = second (rw (append-nil x.air) at (behind-next a [] [] [] cx fs is_cx s
              (hears-more a.there.hears [] (h.ages c) (λ p. tt) tt) (λ now. refl) tt tt words.1 tt t.0 t.1));
        }

    behind-reads : Ahead y x → (is_sabm f.content ≡ true → x.link.heard ≡ true → C) → Moves x m x.air lines
        (record y { air = fs })
    behind-reads a again = by a.sx a.ox a.cx refl refl refl (sym is ∙ a.air_x)
      where
        old : (sx : List Frame) → a.sx ≡ f ∷ sx → fs ≡ sx ++ (a.ox ++ a.cx) → Moves x m x.air lines (record y { air = fs })
        old sx p r = go (false-or-true (is_open x.link.endpoint.state))
          where
            go : (is_open x.link.endpoint.state ≡ false) ⊎ (is_open x.link.endpoint.state ≡ true) → Moves x m x.air lines
                (record y { air = fs })
            go (inr now) = absurd (cc (sym p ∙ a.stale now))
            go (inl shut) =
                let h = make a.there.sound a.there.hears.fine in
                let q : AllOf (λ f. is_link_change f.content ≡ false) (f ∷ sx) = rw p at a.stale_x in
                let other = quiet-opener f.content q.0 in
                let c = h.given (not-again-shut f x.link shut) in
                let s = h.stale a.before (contents a.ox) a.cy shut other (swapped a.holds) in
                let t = h.calm c (quiet-no_command f.content q.0) a.unopening a.none_owed in
                record {
                  past = s.later;
                  told_is = s.told_is;
                  paired = second (rw (append-nil x.air) at (behind-next a [] sx a.ox a.cx fs r s
                      (hears-more a.there.hears [] (h.ages c) (λ p. tt) tt) (λ now. never (sym (h.shut other shut) ∙ now))
                      q.1 a.quiet a.words
                      tt t.0 t.1));
                }

        live : (ox : List Frame) → a.sx ≡ [] → a.ox ≡ f ∷ ox → fs ≡ ox ++ a.cx → Moves x m x.air lines
            (record y { air = fs })
        live ox p q r =
            let h = make a.there.sound a.there.hears.fine in
            let quiet : AllOf (λ f. is_link_change f.content ≡ false) (f ∷ ox) = rw q at a.quiet in
            let c = h.given (not-again-other f x.link (quiet-no_sabm f.content quiet.0)) in
            let s = h.live a.before (contents ox) a.cy c (rw q at (swapped a.holds)) in
            let t = h.calm c (quiet-no_command f.content quiet.0) a.unopening a.none_owed in
            record {
              past = s.later;
              told_is = s.told_is;
              paired = second (rw (append-nil x.air) at (behind-next a [] [] ox a.cx fs r s
                  (hears-more a.there.hears [] (h.ages c) (λ p. tt) tt) (λ now. refl) tt quiet.1 a.words tt t.0 t.1));
            }

        word : (cx : List Frame) → a.sx ≡ [] → a.ox ≡ [] → a.cx ≡ f ∷ cx → fs ≡ cx → Moves x m x.air lines
            (record y { air = fs })
        word cx p q r is_cx = go words.0 (false-or-true x.link.heard)
          where
            words : AllOf IsFirstWord (f ∷ cx)
            words = rw r at a.words

            dm : is_dm f.content ≡ true → Moves x m x.air lines (record y { air = fs })
            dm e =
                let h = make a.there.sound a.there.hears.fine in
                let c = h.given (not-again-other f x.link (dm-no_sabm f.content e)) in
                behind-word a cx p q r is_cx c (word-plain f.content (inr e))
                (λ k. k.calm c (dm-no_command f.content e) a.unopening a.none_owed)

            go : (is_sabm f.content ≡ true) ⊎ (is_dm f.content ≡ true) → (x.link.heard ≡ false) ⊎ (x.link.heard ≡ true) →
                Moves x m x.air lines (record y { air = fs })
            go (inr e) b = dm e
            go (inl e) (inl deaf) = even-reads (even-swapped (catches-up a deaf (λ now. q)))
            go (inl e) (inr heard) =
                let c = again e heard in
                behind-word a cx p q r is_cx c (word-plain f.content (inl e)) (λ k. k.deaf c e heard a.unopening a.none_owed)

        by : (sx ox cx : List Frame) → a.sx ≡ sx → a.ox ≡ ox → a.cx ≡ cx → f ∷ fs ≡ sx ++ (ox ++ cx) →
            Moves x m x.air lines (record y { air = fs })
        by [] [] [] p q r e = absurd (cc e)
        by [] [] (g ∷ cx) p q r e = word cx p q (r ∙ ap (λ (h : Frame). h ∷ cx) (cc e)) (cc e)
        by [] (g ∷ ox) cx p q r e = live ox p (q ∙ ap (λ (h : Frame). h ∷ ox) (cc e)) (rw r (cc e))
        by (g ∷ sx) ox cx p q r e = old sx (p ∙ ap (λ (h : Frame). h ∷ sx) (cc e)) (rw (q, r) (cc e))

    reads : Paired x y → (is_sabm f.content ≡ true → x.link.heard ≡ true → C) → Moves x m x.air lines (record y { air = fs })
    reads (even e) again = even-reads e
    reads (first a) again = ahead-reads a
    reads (second a) again = behind-reads a again

-- ---- the frame is lost

lost-reads : (os : List Opening) (f : Frame) (l : LinkState) → IsSound l → Reads (Unit {0}) os f l l []
lost-reads os f l h = record {
  given = λ again. tt;
  stale = λ p ins air shut other k. left p ins air k;
  live = λ p ins air c k. left p ins air (gone (content_of_body f.content) k);
  ages = λ c. ages-same Three l;
  heard = λ c. inr refl;
  shut = λ other shut. shut;
  starts = λ other start owes. (owes, start);
  calm = λ c other unopening none. (none, unopening);
  deaf = λ c sabm heard unopening none. (none, unopening);
}
  where
    left : (p : EndpointState) (ins : List Content) (air : List Frame) → Hold l.endpoint p (under_way air l) ins →
        Steps p ins air os l l [] []
    left p ins air k = record {
      sound = h;
      holds = rw (append-nil air) k;
      messages = λ shut. refl;
      later = os;
      told_is = refl;
      grows = grown refl (prefix-refl l.endpoint.messages);
    }

pub lost-moves : {x y : Side} → Paired x y → (f : Frame) (fs : List Frame) → y.air ≡ f ∷ fs →
    Moves x x.link x.air [] (record y { air = fs })
lost-moves {x} h f fs is = reads (λ sound fine. lost-reads x.past f x.link sound) is h (λ e g. tt)

-- ---- the link takes it

unrenewed : (f : Frame) (l : LinkState) → l.endpoint.sapi ≡ Three → is_opened_again f l ≡ false → renewed_for f l ≡ l
unrenewed f l same again = grind (arith, same, again)

taken-reads : (os : List Opening) (f : Frame) (l : LinkState) → is_reopened_by_frame f l ≡ false → IsSound l →
    Reads (is_opened_again f l ≡ false) os f l (after_received f l) (told (received_notices f l))
taken-reads os f l once h = record {
  given = λ again. again;
  stale = λ p ins air shut other k. stale_acts air os l h f h.sapi shut other k;
  live = λ p ins air c k. take_acts air os l h f (unrenewed f l h.sapi c) once k;
  ages = λ c. ages-received Three f l once (unrenewed f l h.sapi c);
  heard = λ c. inl (ap (λ (k : LinkState). k.heard) (received-is f l (unrenewed f l h.sapi c)));
  shut = λ other shut. stays-shut f l h.window (not-renewing f l h.sapi shut) once other shut;
  starts = λ other start owes. (let same = not-renewing f l h.sapi (shut-starting l.endpoint.state start) in
      (received-mild f l same once start other owes, stays-starting f l h.window same once other start));
  calm = λ c other unopening none. (let same = unrenewed f l h.sapi c in
      (received-calm f l h.window same once unopening other none, stays-unopening f l h.window same once unopening));
  deaf = λ c sabm heard unopening none. (let same = unrenewed f l h.sapi c in (
    received-heard f l h.sapi same once c unopening (λ e. never (sym (h.new (ap is_new e)).1 ∙ heard)) heard sabm none,
    stays-unopening f l h.window same once unopening,
  ));
}

-- ---- a link starts afresh

-- layer 3 opens it or releases it locally
pub restarts : {x y : Side} → Paired x y → AllOf (λ f. is_link_change f.content ≡ false) x.air →
    (is_opening y.link.endpoint.state ≡ false → AllOf NoOpener y.air × IfSome y.link.answer NoOpener) → Paired (restarted x) y
restarts (first a) own others = first (ahead-restarts a)
restarts (second a) own others = even (even-swapped (behind-restarts a))
restarts {x} {y} (even e) own others = by (false-or-true (is_opening y.link.endpoint.state))
  where
    not-new : (st : State) → is_opening st ≡ true → is_new st ≡ true
    not-new st h = grind (arith, h)

    not-open : (st : State) → is_opening st ≡ true → is_open st ≡ false
    not-open st h = grind (arith, h)

    by : (is_opening y.link.endpoint.state ≡ false) ⊎ (is_opening y.link.endpoint.state ≡ true) → Paired (restarted x) y
    by (inr opening) = even (even-restarts e (e.there.sound.new (not-new y.link.endpoint.state opening)).1
        (not-open y.link.endpoint.state opening) (of-as _ NoOpener (λ f q. quiet-opener f.content q) x.air own))
    by (inl unopening) = let t = others unopening in first (gets-ahead e own t.0 t.1 unopening)

-- what a SABM makes of a link that it opens again it makes of the link afresh
record OpensAfresh (f : Frame) (l : LinkState) : Type 0 where
  link : after_received f l ≡ after_received f (afresh l)
  notices : received_notices f l ≡ N.Opened [] ∷ []
  afresh_notices : received_notices f (afresh l) ≡ N.Opened [] ∷ []
  once : is_reopened_by_frame f (afresh l) ≡ false
  sabm : is_sabm f.content ≡ true

opens-closed : (f : Frame) (l : LinkState) → l.endpoint.sapi ≡ Three → is_reopened_by_frame f l ≡ true → OpensAfresh f l
opens-closed f l same h = record {
  link = grind (arith, same, h);
  notices = grind (arith, same, h);
  afresh_notices = grind (arith, same, h);
  once = grind (arith, same, h);
  sabm = grind (arith, same, h);
}

opens-open : (f : Frame) (l : LinkState) → l.endpoint.sapi ≡ Three → l.endpoint.sabm_info ≡ [] → is_opened_again f l ≡ true →
    OpensAfresh f l
opens-open f l same bare h = record {
  link = grind (arith, same, bare, h);
  notices = grind (arith, same, bare, h);
  afresh_notices = grind (arith, same, bare, h);
  once = grind (arith, same, bare, h);
  sabm = grind (arith, same, bare, h);
}

opened-new : (f : Frame) (l : LinkState) → l.endpoint.sapi ≡ Three → OpensAfresh f l →
    opening_of (after_received f (afresh l)).endpoint ≡ new_opening
opened-new f l same h =
    let z = afresh l in
    let held : Hold z.endpoint z.endpoint [] (cons_option (content_of_body f.content) []) =
    comes-plain [] f.content (word-plain f.content (inl h.sabm)) (zeros-hold (zero-afresh l) (zero-afresh l)) in
    let s = take_acts [] [] z (sound-afresh l same) f (unrenewed f z same (not-again-shut f z refl)) h.once held in
    by (received_notices f z) h.afresh_notices s.later s.told_is
  where
    by : {o : Opening} (ns : List _) → ns ≡ N.Opened [] ∷ [] → (later : List Opening) →
        after_lines (told ns) (new_opening ∷ []) ≡ o ∷ later → o ≡ new_opening
    by ns e later h = head (rw e at h)
      where
        head : {o : Opening} {later : List Opening} → new_opening ∷ new_opening ∷ [] ≡ o ∷ later → o ≡ new_opening
        head h = cc h

-- a SABM arrives at a link that started afresh
take-restarts : {x y : Side} → Even (restarted x) y → (f : Frame) (fs : List Frame) → x.link.endpoint.sapi ≡ Three →
    OpensAfresh f x.link →
    y.air ≡ f ∷ fs → Moves x (after_received f x.link) x.air (told (received_notices f x.link)) (record y { air = fs })
take-restarts {x} {y} e f fs same h is =
    let t = even-reads (λ sound fine. silent (taken-reads (opening x ∷ x.past) f (afresh x.link) h.once sound)) is e in
    rw (h.link, h.notices) (record { past = t.past; told_is = t.told_is; paired = t.paired })
  where
    silent : Reads (is_opened_again f (afresh x.link) ≡ false) (opening x ∷ x.past) f (afresh x.link) (after_received f (afresh x.link))
        (told (received_notices f (afresh x.link))) →
        Reads (is_opened_again f (afresh x.link) ≡ false) (opening x ∷ x.past) f (afresh x.link) (after_received f (afresh x.link)) []
    silent g = record {
      given = g.given;
      stale = λ p ins air shut other k. silent-steps (opened-new f x.link same h) (g.stale p ins air shut other k);
      live = λ p ins air c k. silent-steps (opened-new f x.link same h) (g.live p ins air c k);
      ages = g.ages;
      heard = g.heard;
      shut = g.shut;
      starts = g.starts;
      calm = g.calm;
      deaf = g.deaf;
    }

opener-sabm : (c : Content) → is_sabm c ≡ true → is_opener c ≡ false → ⊥
opener-sabm c h g = grind (arith, h, g)

again-open : (f : Frame) (l : LinkState) → is_opened_again f l ≡ true → is_open l.endpoint.state ≡ true
again-open f l h = grind (arith, h)

-- the link takes the frame
pub take-moves : {x y : Side} → Paired x y → (f : Frame) (fs : List Frame) → y.air ≡ f ∷ fs →
    (is_reopened_by_frame f x.link ≡ true → (y.link.endpoint.state ≡ S.Opening) × AllOf NoOpener x.air) →
    Moves x (after_received f x.link) x.air (told (received_notices f x.link)) (record y { air = fs })
take-moves {x} {y} h f fs is may =
    by (false-or-true (is_reopened_by_frame f x.link)) (false-or-true (is_opened_again f x.link)) h
  where
    generic : is_reopened_by_frame f x.link ≡ false → is_opened_again f x.link ≡ false → Paired x y →
        Moves x (after_received f x.link) x.air (told (received_notices f x.link)) (record y { air = fs })
    generic once again h = reads (λ sound fine. taken-reads x.past f x.link once sound) is h (λ e g. again)

    closed : is_reopened_by_frame f x.link ≡ true → Paired x y →
        Moves x (after_received f x.link) x.air (told (received_notices f x.link)) (record y { air = fs })
    closed e (even k) =
        let same = k.here.sound.sapi in
        let t = may e in
        take-restarts (even-restarts k (k.there.sound.new (ap is_new t.0)).1 (ap is_open t.0) t.1) f fs same
        (opens-closed f x.link same e) is
    closed e (first a) =
        let none : AllOf NoOpener (f ∷ fs) = subst (AllOf NoOpener) (sym a.air_y
        ∙ is) (of-append NoOpener a.oy a.cy a.there.none a.none) in
        absurd (opener-sabm f.content (opens-closed f x.link a.sound.sapi e).sabm none.0)
    closed e (second a) =
        let same = a.there.sound.sapi in
        take-restarts (even-swapped (behind-restarts a)) f fs same (opens-closed f x.link same e) is

    again : is_opened_again f x.link ≡ true → Paired x y →
        Moves x (after_received f x.link) x.air (told (received_notices f x.link)) (record y { air = fs })
    again e (even k) = absurd (heads k.oy k.cy refl refl (sym is ∙ k.air_y))
      where
        heads : (oy cy : List Frame) → k.oy ≡ oy → k.cy ≡ cy → f ∷ fs ≡ oy ++ cy → ⊥
        heads [] [] p q r = cc r
        heads [] (g ∷ cy) p q r =
            let same : g ≡ f = cc r in
            let back : Hears (f ∷ cy) y.link x.link = rw (q ∙ ap (λ (h : Frame). h ∷ cy) same) at k.there.hears in
            never (sym (hears-not_again back) ∙ e)
        heads (g ∷ oy) cy p q r = cc (sym p ∙ k.there.stale (again-open f x.link e))
    again e (first a) = never (sym (not-again-shut f x.link (shut-starting x.link.endpoint.state a.starting)) ∙ e)
    again e (second a) =
        let same = a.there.sound.sapi in
        take-restarts (even-swapped (behind-restarts a)) f fs same (opens-open f x.link same a.there.sound.bare e) is

    by : (is_reopened_by_frame f x.link ≡ false) ⊎ (is_reopened_by_frame f x.link ≡ true) →
        (is_opened_again f x.link ≡ false) ⊎ (is_opened_again f x.link ≡ true) → Paired x y →
        Moves x (after_received f x.link) x.air (told (received_notices f x.link)) (record y { air = fs })
    by (inr e) b h = closed e h
    by (inl once) (inr e) h = again e h
    by (inl once) (inl not) h = generic once not h
