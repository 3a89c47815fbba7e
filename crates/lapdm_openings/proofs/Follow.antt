-- Openings that follow those of the other side, as either side goes on.
use Rattle.std.specs.Prelude.{◌≡◌, ◌+◌, List, [], ◌∷◌, ◌++◌, Some, None}
use Rattle.std.specs.List.{filter_map}
use Rattle.std.proofs.Common.{refl, sym, ap, ◌∙◌, inr, append_assoc}
use Rattle.std.proofs.lemmas.List.{append-nil}
use Rattle.std.proofs.lemmas.List.Elements.{filter_map-append}
use Rattle.lapdm_end.specs.lapdm_window.segmenting.Segments.{Message}
use Rattle.lapdm_end.specs.lapdm_window.segmenting.Joining.{messages}
use Rattle.lapdm_end.specs.lapdm_window.declared.Notice.{Notice}
use Rattle.lapdm_end.specs.lapdm_window.declared.Notice.TheVariants as N
use Rattle.lapdm_end.specs.lapdm_window.Ends.{EndpointState, acked_message_count}
use Rattle.lapdm_link.specs.Claims.{IsPrefix, establishment_info_in_notice}
use Rattle.lapdm_link.proofs.Rules.{Known, Notifies}
use Rattle.lapdm_openings.specs.Openings.{Opening, new_opening, after_lines, told, Follows, unheard, silent, gets}
use Rattle.lapdm_openings.specs.Openings.{WasGot, WereGot}

pub prefix-refl : (xs : List Message) → IsPrefix xs xs
prefix-refl xs = ([], append-nil xs)

pub prefix-trans : (xs ys zs : List Message) → IsPrefix xs ys → IsPrefix ys zs → IsPrefix xs zs
prefix-trans xs ys zs h g = (h.0 ++ g.0, sym (append_assoc xs h.0 g.0) ∙ ap (λ ws. ws ++ g.0) h.1 ∙ g.1)

-- more is sent in the newest opening of the other side
pub follows-more : {os ps : List Opening} {p q : Opening} → IsPrefix p.sent q.sent → Follows os (p ∷ ps) → Follows os (q ∷ ps)
follows-more e (unheard h) = unheard h
follows-more e (silent g h) = silent g (follows-more e h)
follows-more e (gets g h) = gets (prefix-trans _ _ _ g e) (follows-more e h)

-- nothing was acknowledged
pub got-nothing : (o : Opening) (ps : List Opening) → o.acked ≡ 0 → WasGot o ps
got-nothing o [] h = h
got-nothing o (p ∷ ps) h = inr (got-nothing o ps h)

pub got-later : (p : Opening) (os ps : List Opening) → WereGot os ps → WereGot os (p ∷ ps)
got-later p [] ps h = tt
got-later p (o ∷ os) ps h = (inr h.0, got-later p os ps h.1)

-- ---- openings in which nothing happens

pub data Above (base : List Opening) : List Opening → Type 0 where
  level : Above base base
  higher : {os : List Opening} → Above base os → Above base (new_opening ∷ os)

pub above-follows : {base os ps : List Opening} → Above base os → Follows base ps → Follows os ps
above-follows level h = h
above-follows (higher g) h = silent refl (above-follows g h)

pub above-followed : {base os ps : List Opening} → Above base ps → Follows os base → Follows os ps
above-followed level h = h
above-followed (higher g) h = unheard (above-followed g h)

pub above-got : {base os : List Opening} (ps : List Opening) → Above base os → WereGot base ps → WereGot os ps
above-got ps level h = h
above-got ps (higher g) h = (got-nothing new_opening ps refl, above-got ps g h)

pub above-gets : {base ps : List Opening} (os : List Opening) → Above base ps → WereGot os base → WereGot os ps
above-gets os level h = h
above-gets os (higher {os = qs} g) h = got-later new_opening os qs (above-gets os g h)

pub above-then : {os ps qs : List Opening} → Above os ps → Above ps qs → Above os qs
above-then h level = h
above-then h (higher g) = higher (above-then h g)

-- ---- an opening goes on, or a new one begins

pub data Grown (o : Opening) (os : List Opening) (p : Opening) (ps : List Opening) : Type 0 where
  grown : ps ≡ os → IsPrefix o.sent p.sent → Grown o os p ps
  begun : ps ≡ o ∷ os → o.acked ≡ 0 → Grown o os p ps

-- the openings of the other side follow as before
pub grown-followed : {os ps qs : List Opening} {o p : Opening} → Grown o os p ps → Follows qs (o ∷ os) → Follows qs (p ∷ ps)
grown-followed (grown e more) h = rw e (follows-more more h)
grown-followed (begun e none-acked) h = rw e (unheard h)

-- ---- what the notices of a step say of the opening

-- the opening of an endpoint
abbrev pub opening_of : EndpointState → Opening
opening_of e = record { sent = e.messages; got = messages e.accepted_segments; acked = acked_message_count e }

abbrev pub opening_known : Known → Opening
opening_known m = record { sent = m.messages; got = filter_map (λ x. x) m.ended; acked = m.acked }

-- after notices of which none reports that the link is open, the opening that `m` knows has become that which `k` knows
pub record Tells (m k : Known) (os : List Opening) (ns : List Notice) : Type 0 where
  pub told_is : after_lines (told ns) (opening_known m ∷ os) ≡ opening_known k ∷ os
  pub sent : k.messages ≡ m.messages

pub tells : (ns : List Notice) (m k : Known) (os : List Opening) → Notifies m ns k →
    filter_map establishment_info_in_notice ns ≡ [] → Tells m k os ns
tells [] m k os h quiet = record { told_is = rw h refl; sent = rw h refl }
tells (N.Opened info ∷ ns) m k os h quiet = absurd (no quiet)
  where
    no : {xs : List Message} → info ∷ xs ≡ [] → ⊥
    no e = cc e
tells (N.Closed reason ∷ ns) m k os h quiet =
    let t = tells ns (record m { stage = 3 }) k os h.1 quiet in record { told_is = t.told_is; sent = t.sent }
tells (N.Unit u ∷ ns) m k os h quiet =
    let t = tells ns m k os h.1 quiet in record { told_is = t.told_is; sent = t.sent }
tells (N.Acked n ∷ ns) m k os h quiet =
    let t = tells ns (record m { acked = m.acked + 1 }) k os h.1 quiet in record { told_is = t.told_is; sent = t.sent }
tells (N.Got u ∷ ns) m k os h quiet =
    let t = tells ns (record m { ended = m.ended ++ Some u ∷ [] }) k os h.1 quiet in
    record {
      told_is = ap (λ xs. after_lines (told ns) (record (opening_known m) { got = xs } ∷ os))
          (sym (filter_map-append (λ x. x) m.ended (Some u ∷ []))) ∙ t.told_is;
      sent = t.sent;
    }
tells (N.Oversize ∷ ns) m k os h quiet =
    let t = tells ns (record m { ended = m.ended ++ None ∷ [] }) k os h.1 quiet in
    record {
      told_is = ap (λ xs. after_lines (told ns) (record (opening_known m) { got = xs } ∷ os))
          (sym (filter_map-append (λ x. x) m.ended (None ∷ []) ∙ append-nil (filter_map (λ x. x) m.ended))) ∙ t.told_is;
      sent = t.sent;
    }
