-- What one side does in a run of a pair, seen from its link; and runs of pairs of which each side sees these openings.
use Rattle.std.specs.Prelude.{◌≡◌, true, if◌then◌else◌, List, [], ◌∷◌, ◌++◌, drop, Some, None}
use Rattle.std.specs.List.{cons_option}
use Rattle.std.proofs.Common.{refl, sym, ap, ◌∙◌, subst}
use Rattle.lapdm_frame.specs.Content.{Frame}
use Rattle.lapdm_end.specs.lapdm_window.declared.Sapi.TheVariants.{Three}
use Rattle.lapdm_end.specs.lapdm_window.Ends.{Role, Mobile, Network}
use Rattle.lapdm_end.specs.lapdm_window.Calls.{Call, IsCallAllowedFor, refusal_of}
use Rattle.lapdm_link.specs.Claims.{is_same_role}
use Rattle.lapdm_datalink.specs.Links.{LinkState, afresh, IsLinkCall, for_call, after_call, is_reopened_by_call, is_reopened_by_frame}
use Rattle.lapdm_datalink.specs.Links.{after_received, received_notices, after_slot, slot_outcome}
use Rattle.lapdm_openings.specs.Pairs.{Pair, PairEvent, Calls, Releases, Passes, Slot, Arrives, IsPossible, IsRun, IsQuiet, IsFirst}
use Rattle.lapdm_openings.specs.Pairs.{after_event}
use Rattle.lapdm_openings.specs.Openings.{Opening, Line, Asked, Released, told, after_line, after_lines, seen_by, later_openings}

-- ---- lines

pub lines-append : (ls ms : List Line) (os : List Opening) → after_lines (ls ++ ms) os ≡ after_lines ms (after_lines ls os)
lines-append [] ms os = refl
lines-append (l ∷ ls) ms os = lines-append ls ms (after_line l os)

-- what side `q` sees if side `r` sees these lines
abbrev pub seen : (q r : Role) → List Line → List Line
seen q r lines = if is_same_role q r then lines else []

pub seen-none : (q r : Role) → seen q r [] ≡ []
seen-none Mobile Mobile = refl
seen-none Mobile Network = refl
seen-none Network Mobile = refl
seen-none Network Network = refl

-- ---- runs of a pair

-- a run from this pair, after which the openings of each side are those that `goal` gives
pub record Follow (p : Pair) (goal : Role → List Opening → List Opening) : Type 0 where
  pub moves : List PairEvent
  pub possible : IsRun moves p
  pub openings : (q : Role) (os : List Opening) → later_openings q moves p os ≡ goal q os

pub follow-none : (p : Pair) → Follow p (λ q os. os)
follow-none p = record { moves = []; possible = tt; openings = λ q os. refl }

-- the pair, seen from side `r`: its link and what it has in transit, and those of the other side
abbrev pub sides : (r : Role) (l : LinkState) (out : List Frame) (l' : LinkState) (ins : List Frame) → Pair
sides Mobile l out l' ins = record { mobile = l; network = l'; air = record { up = out; down = ins } }
sides Network l out l' ins = record { mobile = l'; network = l; air = record { up = ins; down = out } }

-- side `r` comes from one pair to another, and sees these lines
abbrev pub Leads : (r : Role) (p p' : Pair) (lines : List Line) → Type 0
Leads r p p' lines = (goal : Role → List Opening → List Opening) → Follow p' goal →
    Follow p (λ q os. goal q (after_lines (seen q r lines) os))

pub rests : (r : Role) (p : Pair) → Leads r p p []
rests r p goal f = record {
  moves = f.moves;
  possible = f.possible;
  openings = λ q os. f.openings q os ∙ ap (λ ls. goal q (after_lines ls os)) (sym (seen-none q r));
}

acts : (r : Role) (event : PairEvent) {p : Pair} (p' : Pair) (lines : List Line) → after_event event p ≡ p' → IsPossible event p →
    ((q : Role) → seen_by q event p ≡ seen q r lines) → Leads r p p' lines
acts r event {p} p' lines e may see goal f =
    let g : Follow (after_event event p) goal = subst (λ x. Follow x goal) (sym e) f in
    record {
      moves = event ∷ g.moves;
      possible = (may, g.possible);
      openings = λ q os. g.openings q (after_lines (seen_by q event p) os) ∙ ap (λ ls. goal q (after_lines ls os)) (see q);
    }

module _ (r : Role) (l : LinkState) (out : List Frame) (l' : LinkState) (ins : List Frame) where
  abbrev p : Pair
  p = sides r l out l' ins

  pub passes : Leads r p (sides r (after_slot l) out l' ins) []
  passes = by r
    where
      by : (r : Role) → Leads r (sides r l out l' ins) (sides r (after_slot l) out l' ins) []
      by Mobile = acts Mobile (Passes Mobile) _ [] refl tt (λ q. sym (seen-none q Mobile))
      by Network = acts Network (Passes Network) _ [] refl tt (λ q. sym (seen-none q Network))

  pub slots : (let o = slot_outcome l in
      Leads r p (sides r o.link (out ++ cons_option o.frame []) l' ins) (told o.notices))
  slots = by r
    where
      by : (r : Role) → (let o = slot_outcome l in
          Leads r (sides r l out l' ins) (sides r o.link (out ++ cons_option o.frame []) l' ins) (told o.notices))
      by Mobile = acts Mobile (Slot Mobile) _ (told (slot_outcome l).notices) refl tt (λ q. refl)
      by Network = acts Network (Slot Network) _ (told (slot_outcome l).notices) refl tt (λ q. refl)

  pub calls : (call : Call) → IsLinkCall call → IsCallAllowedFor r Three call →
      refusal_of call (for_call call l).endpoint ≡ None → (is_reopened_by_call call l ≡ true → IsQuiet r p) →
      Leads r p (sides r (after_call call l) out l' ins) (Asked call ∷ [])
  calls call own allowed ok quiet = by r allowed quiet
    where
      by : (r : Role) → IsCallAllowedFor r Three call → (is_reopened_by_call call l ≡ true → IsQuiet r (sides r l out l' ins)) →
          Leads r (sides r l out l' ins) (sides r (after_call call l) out l' ins) (Asked call ∷ [])
      by Mobile may quiet = acts Mobile (Calls Mobile call) _ (Asked call ∷ []) refl (own, may, ok, quiet) (λ q. refl)
      by Network may quiet = acts Network (Calls Network call) _ (Asked call ∷ []) refl (own, may, ok, quiet) (λ q. refl)

  pub releases : IsQuiet r p → Leads r p (sides r (afresh l) out l' ins) (Released ∷ [])
  releases quiet = by r quiet
    where
      by : (r : Role) → IsQuiet r (sides r l out l' ins) →
          Leads r (sides r l out l' ins) (sides r (afresh l) out l' ins) (Released ∷ [])
      by Mobile quiet = acts Mobile (Releases Mobile) _ (Released ∷ []) refl quiet (λ q. refl)
      by Network quiet = acts Network (Releases Network) _ (Released ∷ []) refl quiet (λ q. refl)

  pub loses : Leads r p (sides r l out l' (drop 1 ins)) []
  loses = by r
    where
      by : (r : Role) → Leads r (sides r l out l' ins) (sides r l out l' (drop 1 ins)) []
      by Mobile = acts Mobile (Arrives Network None) _ [] refl (tt, tt) (λ q. refl)
      by Network = acts Network (Arrives Mobile None) _ [] refl (tt, tt) (λ q. refl)

module _ (r : Role) (l : LinkState) (out : List Frame) (l' : LinkState) (f : Frame) (ins : List Frame) where
  pub takes : (is_reopened_by_frame f l ≡ true → IsFirst r (sides r l out l' (f ∷ ins))) →
      Leads r (sides r l out l' (f ∷ ins)) (sides r (after_received f l) out l' ins) (told (received_notices f l))
  takes first = by r first
    where
      by : (r : Role) → (is_reopened_by_frame f l ≡ true → IsFirst r (sides r l out l' (f ∷ ins))) →
          Leads r (sides r l out l' (f ∷ ins)) (sides r (after_received f l) out l' ins) (told (received_notices f l))
      by Mobile first =
          acts Mobile (Arrives Network (Some f)) _ (told (received_notices f l)) refl (refl, first) see
        where
          see : (q : Role) → seen_by q (Arrives Network (Some f)) (sides Mobile l out l' (f ∷ ins))
              ≡ seen q Mobile (told (received_notices f l))
          see Mobile = refl
          see Network = refl
      by Network first =
          acts Network (Arrives Mobile (Some f)) _ (told (received_notices f l)) refl (refl, first) see
        where
          see : (q : Role) → seen_by q (Arrives Mobile (Some f)) (sides Network l out l' (f ∷ ins))
              ≡ seen q Network (told (received_notices f l))
          see Mobile = refl
          see Network = refl
