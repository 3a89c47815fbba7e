-- Each event of a run is, for the links of one SAPI, a run of a pair of `lapdm_openings` of which layer 3 sees the same openings.
use Rattle.std.specs.Prelude.{◌≡◌, ◌&&◌, Bool, true, false, if◌then◌else◌, ℕ, List, [], ◌∷◌, ◌++◌, map, drop}
use Rattle.std.specs.Prelude.{Option, Some, None}
use Rattle.std.specs.Prelude.{IfSome}
use Rattle.std.specs.List.{filter_map, cons_option}
use Rattle.std.proofs.Common.{arith, refl, sym, ap, ◌∙◌, subst, append-nil}
use Rattle.lapdm_link.proofs.Lemmas.{filter_map-append, is_on}
use Rattle.lapdm_frame.specs.declared.Channel.{Channel}
use Rattle.lapdm_frame.specs.Content.{Content, Ui, Frame}
use Rattle.lapdm_end.specs.lapdm_window.declared.Sapi.{Sapi}
use Rattle.lapdm_end.specs.lapdm_window.declared.Sapi.TheVariants.{Zero, Three}
use Rattle.lapdm_end.specs.lapdm_window.declared.Notice.{Notice}
use Rattle.lapdm_end.specs.lapdm_window.segmenting.Segments.{Message}
use Rattle.lapdm_end.specs.lapdm_window.Ends.{Role, Mobile, Network}
use Rattle.lapdm_end.specs.lapdm_window.Calls.{Call, SendsUi, IsCallAllowedFor}
use Rattle.lapdm_link.specs.Queues.{queue_of, without_oldest_item, IsOldestSentOrNone}
use Rattle.lapdm_link.specs.Events.{other}
use Rattle.lapdm_link.specs.Claims.{is_same_role, is_same_sapi}
use Rattle.lapdm_link.specs.Claims as Log
use Rattle.lapdm_datalink.specs.declared.data_links.Establishment.{Establishment}
use Rattle.lapdm_datalink.specs.declared.data_links.Establishment.TheVariants.{Contention, Normal}
use Rattle.lapdm_datalink.specs.Links.{LinkState, SlotOutcome, afresh, after_call, is_reopened_by_frame, after_received, received_notices}
use Rattle.lapdm_datalink.specs.Links.{after_slot, slot_outcome}
use Rattle.lapdm_datalink.specs.DataLinks.{DataLinkState, DataLinkOutcome, link_with_sapi, with_link, having_main, with_clocks_moved}
use Rattle.lapdm_datalink.specs.DataLinks.{with_sapi3, data_link_outcome, sapi_for_frame, taken_by, on_sapi0, unit_frame, is_ui}
use Rattle.lapdm_datalink.proofs.Lemmas.{passed}
use Rattle.lapdm_datalink.proofs.First.{sapi_0_goes_first}
use Rattle.lapdm_datalink.proofs.Kept.{ui-same}
use Rattle.lapdm_delivery.specs.Runs.{RunState, Calls, Slot, UnitSlot, Arrives, HasMain, initial_run, data_link_of}
use Rattle.lapdm_delivery.specs.Runs.{with_data_link, link_at, with_frames_sent, after_slot_of, after_arrival_at}
use Rattle.lapdm_delivery.specs.Runs.{slot_lines, taking_lines, arrival_lines, sapi_of_endpoint}
use Rattle.lapdm_delivery.proofs.Runs.{taker-on}
use Rattle.lapdm_openings.specs.Pairs.{Pair, initial_pair, IsQuiet, IsFirst}
use Rattle.lapdm_openings.specs.Openings.{Opening, new_opening, Line, Asked, Released, Told, told, after_lines, Follows, WereGot}
use Rattle.lapdm_openings.proofs.Runs.{oldest, deliver_by_openings}
use Rattle.lapdm_reopenings.specs.Reopenings.{Event, Does, Releases, after_event, frame_of, frames_of, pair_at, IsPossible, IsRun}
use Rattle.lapdm_reopenings.specs.Reopenings.{line_of, seen_by, later_openings, DeliversInEachOpening}
use Rattle.lapdm_reopenings.proofs.Own.{IsOf, slot-of}
use Rattle.lapdm_reopenings.proofs.Sounds.{OwnBoth, Sound, own-moved, sound-after, sound-first}
use Rattle.lapdm_reopenings.proofs.Moves.{lines-append, seen, seen-none, Follow, follow-none, sides, Leads, rests, passes, slots, calls}
use Rattle.lapdm_reopenings.proofs.Moves.{releases, loses, takes}

-- ---- what the log tells of one side and SAPI

same_sapi : (s : Sapi) → is_same_sapi s s ≡ true
same_sapi s = grind arith

and-false : (b : Bool) → (b && false) ≡ false
and-false b = grind arith

heard : (q r : Role) (s : Sapi) (ns : List Notice) → is_same_role q r ≡ true →
    filter_map (line_of q s) (map (Log.Notified r s) ns) ≡ told ns
heard q r s [] e = refl
heard q r s (n ∷ ns) e = rw (e, same_sapi s) (ap (λ ls. Told n ∷ ls) (heard q r s ns e))

unheard : (q r : Role) (s : Sapi) (ns : List Notice) → is_same_role q r ≡ false →
    filter_map (line_of q s) (map (Log.Notified r s) ns) ≡ []
unheard q r s [] e = refl
unheard q r s (n ∷ ns) e = rw e (unheard q r s ns e)

notices-own : (q r : Role) (s : Sapi) (ns : List Notice) → filter_map (line_of q s) (map (Log.Notified r s) ns) ≡ seen q r (told ns)
notices-own Mobile Mobile s ns = heard Mobile Mobile s ns refl
notices-own Mobile Network s ns = unheard Mobile Network s ns refl
notices-own Network Mobile s ns = unheard Network Mobile s ns refl
notices-own Network Network s ns = heard Network Network s ns refl

notices-else : (q r : Role) (s t : Sapi) (ns : List Notice) → is_same_sapi s t ≡ false →
    filter_map (line_of q s) (map (Log.Notified r t) ns) ≡ []
notices-else q r s t [] e = refl
notices-else q r s t (n ∷ ns) e = rw (e, and-false (is_same_role q r)) (notices-else q r s t ns e)

asked-own : (q r : Role) (s : Sapi) (call : Call) → filter_map (line_of q s) (Log.Asked r s call ∷ []) ≡ seen q r (Asked call ∷ [])
asked-own Mobile Mobile s call = rw (same_sapi s) refl
asked-own Mobile Network s call = refl
asked-own Network Mobile s call = refl
asked-own Network Network s call = rw (same_sapi s) refl

asked-else : (q r : Role) (s t : Sapi) (call : Call) → is_same_sapi s t ≡ false →
    filter_map (line_of q s) (Log.Asked r t call ∷ []) ≡ []
asked-else q r s t call e = rw (e, and-false (is_same_role q r)) refl

-- a UI message changes no opening
asked-ui : (q r : Role) (s t : Sapi) (m : Message) (os : List Opening) →
    after_lines (filter_map (line_of q s) (Log.Asked r t (SendsUi m) ∷ [])) os ≡ os
asked-ui q r s t m os = by (is_same_role q r && is_same_sapi s t)
  where
    by : (b : Bool) → after_lines (cons_option (if b then Some (Asked (SendsUi m)) else None) []) os ≡ os
    by true = refl
    by false = refl

ui-told : (n : ℕ) (cr : Bool) (c : Content) (l : LinkState) (os : List Opening) → is_ui c ≡ true →
    after_lines (told (received_notices (record { sapi = n; cr = cr; content = c }) l)) os ≡ os
ui-told n cr (Ui p info) l os e = grind arith
ui-told n cr c l os e = absurd cc

-- ---- frames on the air

frames-append : (s : Sapi) (fs gs : List Frame) → frames_of s (fs ++ gs) ≡ frames_of s fs ++ frames_of s gs
frames-append s fs gs = filter_map-append _ fs gs

own-three : (f : Frame) → IsOf Three f → frames_of Three (f ∷ []) ≡ f ∷ []
own-three f h = kept _ (record f { sapi = 3 }) (rw (h.sapi, h.kind) refl) ∙ (λ i. record f { sapi = sym h.sapi i } ∷ [])
  where
    kept : (b : Bool) (g : Frame) → b ≡ true → cons_option (if b then Some g else None) [] ≡ g ∷ []
    kept b g e = rw e refl

own-zero : (k : Sapi) (f : Frame) → k ≡ Three → IsOf k f → frames_of Zero (on_sapi0 k f ∷ []) ≡ f ∷ []
own-zero Three f e h = rw h.kind (λ i. record f { sapi = sym h.sapi i } ∷ [])
own-zero Zero f e h = absurd cc

else-three : (k : Sapi) (f : Frame) → IsOf k f → frames_of Three (on_sapi0 k f ∷ []) ≡ []
else-three Zero f h = rw h.sapi refl
else-three Three f h = refl

else-zero : (f : Frame) → IsOf Three f → frames_of Zero (f ∷ []) ≡ []
else-zero f h = rw h.sapi refl

unit-none : (s t : Sapi) (m : Message) (d : DataLinkState) → frames_of s (unit_frame t m d ∷ []) ≡ []
unit-none s t m d = grind arith

-- ---- the pair of a run, seen from side `r`

abbrev view : Role → Sapi → RunState → Pair
view r s c = sides r (link_at r s c) (frames_of s (queue_of r c.air)) (link_at (other r) s c) (frames_of s (queue_of (other r) c.air))

-- after the data link `d` replaces that of side `r`
abbrev with_link_at : Role → Sapi → RunState → LinkState → Pair
with_link_at r s c l = sides r l (frames_of s (queue_of r c.air)) (link_at (other r) s c) (frames_of s (queue_of (other r) c.air))

view-is : (r : Role) (s : Sapi) (c : RunState) → pair_at s c ≡ view r s c
view-is Mobile s c = refl
view-is Network s c = refl

replaced-is : (r : Role) (s : Sapi) (d : DataLinkState) (c : RunState) →
    pair_at s (with_data_link r d c) ≡ with_link_at r s c (link_with_sapi s d)
replaced-is Mobile s d c = refl
replaced-is Network s d c = refl

sent-is : (r : Role) (s : Sapi) (d : DataLinkState) (fs : List Frame) (c : RunState) →
    pair_at s (with_frames_sent r fs (with_data_link r d c)) ≡ sides r (link_with_sapi s d)
    (frames_of s (queue_of r c.air) ++ frames_of s fs) (link_at (other r) s c) (frames_of s (queue_of (other r) c.air))
sent-is Mobile s d fs c =
    ap (λ gs. sides Mobile (link_with_sapi s d) gs (link_at Network s c) (frames_of s c.air.down)) (frames-append s c.air.up fs)
sent-is Network s d fs c =
    ap (λ gs. sides Network (link_with_sapi s d) gs (link_at Mobile s c) (frames_of s c.air.up)) (frames-append s c.air.down fs)

arrived-is : (r : Role) (s : Sapi) (d : DataLinkState) (c : RunState) →
    pair_at s (record (with_data_link r d c) { air = without_oldest_item (other r) c.air }) ≡ sides r (link_with_sapi s d)
    (frames_of s (queue_of r c.air)) (link_at (other r) s c) (frames_of s (drop 1 (queue_of (other r) c.air)))
arrived-is Mobile s d c = refl
arrived-is Network s d c = refl

-- a run of the pair goes on before one from the state after the event
abbrev Step : Sapi → Event → RunState → Type 0
Step s event c = (goal : Role → List Opening → List Opening) → Follow (pair_at s (after_event event c)) goal →
    Follow (pair_at s c) (λ q os. goal q (after_lines (seen_by q s event c) os))

module _ (s : Sapi) (event : Event) (c : RunState) (r : Role) where
  step-by : {p' : Pair} (lines : List Line) → Leads r (view r s c) p' lines → pair_at s (after_event event c) ≡ p' →
      ((q : Role) (os : List Opening) → after_lines (seen q r lines) os ≡ after_lines (seen_by q s event c) os) → Step s event c
  step-by lines leads e see goal f =
      let g = leads goal (subst (λ x. Follow x goal) e f) in
      subst (λ x. Follow x (λ q os. goal q (after_lines (seen_by q s event c) os))) (sym (view-is r s c)) (record {
        moves = g.moves;
        possible = g.possible;
        openings = λ q os. g.openings q os ∙ ap (goal q) (see q os);
      })

  seen-is : (lines : List Line) (q : Role) (os : List Opening) → seen_by q s event c ≡ seen q r lines →
      after_lines (seen q r lines) os ≡ after_lines (seen_by q s event c) os
  seen-is lines q os e = ap (λ ls. after_lines ls os) (sym e)

-- ---- calls and local releases

link-own : (s : Sapi) (l : LinkState) (d : DataLinkState) → link_with_sapi s (with_link s l d) ≡ l
link-own s l d = grind arith

link-else : (s t : Sapi) (l : LinkState) (d : DataLinkState) → is_same_sapi s t ≡ false →
    link_with_sapi s (with_link t l d) ≡ link_with_sapi s d
link-else s t l d e = grind arith

module _ (c : RunState) (r : Role) where
  -- the link of this SAPI is replaced by `l`, and side `r` sees these lines
  replaces-own : (s : Sapi) (event : Event) (l : LinkState) (lines : List Line) →
      after_event event c ≡ with_data_link r (with_link s l (data_link_of r c)) c →
      ((q : Role) → seen_by q s event c ≡ seen q r lines) → Leads r (view r s c) (with_link_at r s c l) lines → Step s event c
  replaces-own s event l lines e see leads =
      step-by s event c r lines leads
      (ap (pair_at s) e ∙ replaced-is r s (with_link s l (data_link_of r c)) c
      ∙ ap (with_link_at r s c) (link-own s l (data_link_of r c)))
      (λ q os. seen-is s event c r lines q os (see q))

  -- the link of another SAPI is replaced
  replaces-else : (s : Sapi) (event : Event) (d : DataLinkState) → after_event event c ≡ with_data_link r d c →
      link_with_sapi s d ≡ link_at r s c → ((q : Role) → seen_by q s event c ≡ []) → Step s event c
  replaces-else s event d e same see =
      step-by s event c r [] (rests r (view r s c))
      (ap (pair_at s) e ∙ replaced-is r s d c ∙ ap (with_link_at r s c) same)
      (λ q os. seen-is s event c r [] q os (see q ∙ sym (seen-none q r)))

  quiet-here : (s : Sapi) → IsQuiet r (pair_at s c) → IsQuiet r (view r s c)
  quiet-here s h = subst (IsQuiet r) (view-is r s c) h

  call-own : (s : Sapi) (call : Call) → (link_at r s c).endpoint.sapi ≡ Three → IsPossible s (Does (Calls r s call)) c →
      Step s (Does (Calls r s call)) c
  call-own s call is (own, allowed, ok, quiet) =
      replaces-own s (Does (Calls r s call)) (after_call call (link_at r s c)) (Asked call ∷ []) refl
      (λ q. asked-own q r s call)
      (calls r (link_at r s c) _ _ _ call own (subst (λ k. IsCallAllowedFor r k call) is allowed) ok (λ e. quiet-here s (quiet refl e)))

  call-else : (s t : Sapi) (call : Call) → is_same_sapi s t ≡ false → Step s (Does (Calls r t call)) c
  call-else s t call n =
      replaces-else s (Does (Calls r t call)) _ refl (link-else s t (after_call call (link_at r t c)) (data_link_of r c) n)
      (λ q. asked-else q r s t call n)

  release-own : (s : Sapi) → IsPossible s (Releases r s) c → Step s (Releases r s) c
  release-own s may =
      replaces-own s (Releases r s) (afresh (link_at r s c)) (Released ∷ []) refl
      (λ q. by (is_same_role q r)) (releases r (link_at r s c) _ _ _ (quiet-here s (may refl)))
    where
      by : (b : Bool) → (if b && is_same_sapi s s then Released ∷ [] else []) ≡ (if b then Released ∷ [] else [])
      by true = rw (same_sapi s) refl
      by false = refl

  release-else : (s t : Sapi) → is_same_sapi s t ≡ false → Step s (Releases r t) c
  release-else s t n =
      replaces-else s (Releases r t) _ refl (link-else s t (afresh (link_at r t c)) (data_link_of r c) n)
      (λ q. rw (n, and-false (is_same_role q r)) refl)

  main-else : (s : Sapi) (b : Bool) → Step s (Does (HasMain r b)) c
  main-else s b = replaces-else s (Does (HasMain r b)) (having_main b (data_link_of r c)) refl (same s) (λ q. refl)
    where
      same : (s : Sapi) → link_with_sapi s (having_main b (data_link_of r c)) ≡ link_at r s c
      same s = grind arith

-- ---- slots

of-frame : (P : Frame → Type 0) (a : Option Frame) (f : Frame) → a ≡ Some f → IfSome a P → P f
of-frame P a f e h = subst (λ x. IfSome x P) e h

module _ (e : Establishment) (d : DataLinkState) (own : OwnBoth e d) where
  abbrev moved : DataLinkState
  moved = with_clocks_moved d

  abbrev slot0 : SlotOutcome
  slot0 = slot_outcome moved.link0

  abbrev slot3 : SlotOutcome
  slot3 = slot_outcome moved.link3

  sent0 : (f : Frame) → slot0.frame ≡ Some f → IsOf moved.link0.endpoint.sapi f
  sent0 f is = of-frame (IsOf moved.link0.endpoint.sapi) slot0.frame f is (slot-of (own-moved e d own Zero))

  sent3 : (f : Frame) → slot3.frame ≡ Some f → IsOf Three f
  sent3 f is =
      let h = own-moved e d own Three in
      subst (λ k. IsOf k f) (h.normal refl) (of-frame (IsOf moved.link3.endpoint.sapi) slot3.frame f is (slot-of h))

  -- what goes out on SAPI 0 is what the link of SAPI 0 sends
  on-zero : sapi_of_endpoint e Zero ≡ Three →
      frames_of Zero (cons_option (data_link_outcome d).frame []) ≡ cons_option slot0.frame []
  on-zero is = by slot0.frame refl
    where
      none : (a : Option Frame) → slot3.frame ≡ a → frames_of Zero (cons_option a []) ≡ []
      none None at3 = refl
      none (Some f) at3 = else-zero f (sent3 f at3)

      by : (a : Option Frame) → slot0.frame ≡ a →
          frames_of Zero (cons_option (with_sapi3 slot0 a moved).frame []) ≡ cons_option a []
      by None at0 = none slot3.frame refl
      by (Some f) at0 = own-zero moved.link0.endpoint.sapi f ((own Zero).normal is) (sent0 f at0)

  -- the link of SAPI 3 has the slot, or does not
  data HasSlot (o : DataLinkOutcome) : Type 0 where
    has : o.new_state.link3 ≡ slot3.link → frames_of Three (cons_option o.frame []) ≡ cons_option slot3.frame [] →
        o.notices3 ≡ slot3.notices → HasSlot o
    waits : o.new_state.link3 ≡ moved.link3 → frames_of Three (cons_option o.frame []) ≡ [] → o.notices3 ≡ [] →
        HasSlot o

  on-three : HasSlot (data_link_outcome d)
  on-three = by slot0.frame refl
    where
      its : (a : Option Frame) → slot3.frame ≡ a → frames_of Three (cons_option a []) ≡ cons_option a []
      its None at3 = refl
      its (Some f) at3 = own-three f (sent3 f at3)

      by : (a : Option Frame) → slot0.frame ≡ a → HasSlot (with_sapi3 slot0 a moved)
      by None at0 = has refl (its slot3.frame refl) refl
      by (Some f) at0 = waits refl (else-three moved.link0.endpoint.sapi f (sent0 f at0)) refl

abbrev notices_of : Sapi → DataLinkOutcome → List Notice
notices_of Zero o = o.notices0
notices_of Three o = o.notices3

-- a slot of a data link, seen from its link of one SAPI
abbrev SlotLeads : Role → Sapi → DataLinkState → (out : List Frame) (l' : LinkState) (ins : List Frame) → DataLinkOutcome → Type 0
SlotLeads r s d out l' ins o = Leads r (sides r (link_with_sapi s d) out l' ins)
    (sides r (link_with_sapi s o.new_state) (out ++ frames_of s (cons_option o.frame [])) l' ins) (told (notices_of s o))

module _ (r : Role) (l : LinkState) (out : List Frame) (l' : LinkState) (ins : List Frame) where
  -- a slot passes first
  after-pass : {p' : Pair} (lines : List Line) → Leads r (sides r (after_slot l) out l' ins) p' lines →
      Leads r (sides r l out l' ins) p' lines
  after-pass lines h goal f =
      let g = passes r l out l' ins (λ q os. goal q (after_lines (seen q r lines) os)) (h goal f) in
      record {
        moves = g.moves;
        possible = g.possible;
        openings = λ q os. g.openings q os ∙ ap (λ ls. goal q (after_lines (seen q r lines) (after_lines ls os))) (seen-none q r);
      }

  clock-moves : (heard : Bool) {p' : Pair} (lines : List Line) →
      Leads r (sides r (if heard then l else after_slot l) out l' ins) p' lines → Leads r (sides r l out l' ins) p' lines
  clock-moves true lines h = h
  clock-moves false lines h = after-pass lines h

-- the same with other names for what the link is, what it sends and what it reports
renamed : (r : Role) {p : Pair} (l m : LinkState) (out fs gs : List Frame) (l' : LinkState) (ins : List Frame) (ns ms : List Notice) →
    m ≡ l → gs ≡ fs → ms ≡ ns → Leads r p (sides r l (out ++ fs) l' ins) (told ns) →
    Leads r p (sides r m (out ++ gs) l' ins) (told ms)
renamed r l m out fs gs l' ins ns ms e f g h = rw (e, f, g) h

module _ (e : Establishment) (r : Role) (d : DataLinkState) (own : OwnBoth e d) (out : List Frame) (l' : LinkState) (ins : List Frame) where
  slot-leads : (s : Sapi) → sapi_of_endpoint e s ≡ Three → SlotLeads r s d out l' ins (data_link_outcome d)
  slot-leads Zero is =
      let g = sapi_0_goes_first d in
      renamed r _ _ out _ _ l' ins _ _ g.slot (on-zero e d own is) g.notices
      (after-pass r d.link0 out l' ins _ (slots r (after_slot d.link0) out l' ins))
  slot-leads Three is = by (data_link_outcome d) (on-three e d own)
    where
      m : LinkState
      m = (with_clocks_moved d).link3

      idle : Leads r (sides r m out l' ins) (sides r m (out ++ []) l' ins) []
      idle = rw (append-nil out) (rests r (sides r m out l' ins))

      by : (o : DataLinkOutcome) → HasSlot e d own o → SlotLeads r Three d out l' ins o
      by o (has a b n) = renamed r _ _ out _ _ l' ins _ _ a b n
          (clock-moves r d.link3 out l' ins d.heard_sapi0 _ (slots r m out l' ins))
      by o (waits a b n) = renamed r _ _ out _ _ l' ins _ _ a b n (clock-moves r d.link3 out l' ins d.heard_sapi0 _ idle)

slot-told : (q r : Role) (s : Sapi) (c : RunState) →
    filter_map (line_of q s) (slot_lines r c) ≡ seen q r (told (notices_of s (data_link_outcome (data_link_of r c))))
slot-told q r s c =
    filter_map-append _ (map (Log.Notified r Zero) o.notices0) (map (Log.Notified r Three) o.notices3) ∙ by s
  where
    o : DataLinkOutcome
    o = data_link_outcome (data_link_of r c)

    by : (s : Sapi) → filter_map (line_of q s) (map (Log.Notified r Zero) o.notices0)
        ++ filter_map (line_of q s) (map (Log.Notified r Three) o.notices3) ≡ seen q r (told (notices_of s o))
    by Zero = rw (notices-own q r Zero o.notices0, notices-else q r Zero Three o.notices3 refl) (append-nil (seen q r (told o.notices0)))
    by Three = rw (notices-else q r Three Zero o.notices0 refl) (notices-own q r Three o.notices3)

-- the slot of a run
module _ (e : Establishment) (s : Sapi) (is : sapi_of_endpoint e s ≡ Three) (c : RunState) (sound : Sound e c) (r : Role) where
  abbrev slot : DataLinkOutcome
  slot = data_link_outcome (data_link_of r c)

  slot-by : (event : Event) (fs : List Frame) → after_event event c ≡ after_slot_of r fs c →
      frames_of s fs ≡ frames_of s (cons_option slot.frame []) →
      ((q : Role) (os : List Opening) → after_lines (seen_by q s event c) os
      ≡ after_lines (filter_map (line_of q s) (slot_lines r c)) os) →
      Step s event c
  slot-by event fs e' same see =
      step-by s event c r (told (notices_of s slot))
      (slot-leads e r (data_link_of r c) (sound r) (frames_of s (queue_of r c.air)) (link_at (other r) s c)
      (frames_of s (queue_of (other r) c.air)) s is)
      (ap (pair_at s) e' ∙ sent-is r s slot.new_state fs c ∙ ap (λ gs. sides r (link_with_sapi s slot.new_state)
      (frames_of s (queue_of r c.air) ++ gs) (link_at (other r) s c) (frames_of s (queue_of (other r) c.air))) same)
      (λ q os. sym (see q os ∙ ap (λ ls. after_lines ls os) (slot-told q r s c)))

  slot-step : Step s (Does (Slot r)) c
  slot-step = slot-by (Does (Slot r)) (cons_option slot.frame []) refl refl (λ q os. refl)

  unit-step : (t : Sapi) (m : Message) → slot.frame ≡ None → Step s (Does (UnitSlot r t m)) c
  unit-step t m free =
      slot-by (Does (UnitSlot r t m)) (unit_frame t m slot.new_state ∷ []) refl
      (unit-none s t m slot.new_state ∙ sym (ap (λ a. frames_of s (cons_option a [])) free))
      (λ q os. ap (λ ls. after_lines ls os) (filter_map-append _ (slot_lines r c) (Log.Asked r t (SendsUi m) ∷ []))
      ∙ lines-append (filter_map (line_of q s) (slot_lines r c)) _ os
      ∙ asked-ui q r s t m (after_lines (filter_map (line_of q s) (slot_lines r c)) os))

-- ---- arrivals

module _ (r : Role) (s : Sapi) (l : LinkState) (out : List Frame) (l' : LinkState) where
  -- the oldest frame, if any, leaves the air
  leaves : (fs : List Frame) → Leads r (sides r l out l' (frames_of s fs)) (sides r l out l' (frames_of s (drop 1 fs))) []
  leaves [] = rests r (sides r l out l' [])
  leaves (f ∷ fs) = by (frame_of s f)
    where
      by : (a : Option Frame) →
          Leads r (sides r l out l' (cons_option a (frames_of s fs))) (sides r l out l' (frames_of s fs)) []
      by None = rests r (sides r l out l' (frames_of s fs))
      by (Some g) = loses r l out l' (g ∷ frames_of s fs)

frame-kept : (s : Sapi) (f : Frame) (fs : List Frame) → frame_of s f ≡ Some (record f { sapi = 3 }) →
    frames_of s (f ∷ fs) ≡ record f { sapi = 3 } ∷ frames_of s fs
frame-kept s f fs e = ap (λ a. cons_option a (frames_of s fs)) e

is-frame : (s : Sapi) (f : Frame) → is_on s f ≡ true → is_ui f.content ≡ false → frame_of s f ≡ Some (record f { sapi = 3 })
is-frame s f on kind = rw (on, kind) refl

-- a frame arrives at side `r`, whose data link is `d` after it, and its log has these lines
module _ (s : Sapi) (c : RunState) (r : Role) (event : Event) (d : DataLinkState)
    (e : after_event event c ≡ record (with_data_link r d c) { air = without_oldest_item (other r) c.air })
  where
    abbrev coming : List Frame
    coming = queue_of (other r) c.air

    gone : link_with_sapi s d ≡ link_at r s c →
        ((q : Role) (os : List Opening) → after_lines (seen_by q s event c) os ≡ os) → Step s event c
    gone same see =
        step-by s event c r [] (leaves r s (link_at r s c) (frames_of s (queue_of r c.air)) (link_at (other r) s c) coming)
        (ap (pair_at s) e ∙ arrived-is r s d c ∙ ap (λ l. sides r l (frames_of s (queue_of r c.air)) (link_at (other r) s c)
        (frames_of s (drop 1 coming))) same)
        (λ q os. ap (λ ls. after_lines ls os) (seen-none q r) ∙ sym (see q os))

    taken : (f : Frame) → frames_of s coming ≡ record f { sapi = 3 } ∷ frames_of s (drop 1 coming) →
        link_with_sapi s d ≡ after_received f (link_at r s c) →
        (is_reopened_by_frame f (link_at r s c) ≡ true → IsFirst r (pair_at s c)) →
        ((q : Role) → seen_by q s event c ≡ seen q r (told (received_notices f (link_at r s c)))) → Step s event c
    taken f front same first see =
        let l = link_at r s c in
        let out = frames_of s (queue_of r c.air) in
        let l' = link_at (other r) s c in
        let rest = frames_of s (drop 1 coming) in
        let p' = sides r (after_received f l) out l' rest in
        let lines = told (received_notices f l) in
        let view_to = λ (P : Pair → Type 0) (h : P (view r s c)). subst (λ ins. P (sides r l out l' ins)) front h in
        step-by s event c r lines
        (subst (λ ins. Leads r (sides r l out l' ins) p' lines) (sym front)
        (takes r l out l' (record f { sapi = 3 }) rest (λ again. view_to (IsFirst r) (subst (IsFirst r) (view-is r s c) (first again)))))
        (ap (pair_at s) e ∙ arrived-is r s d c ∙ ap (λ m. sides r m out l' rest) same)
        (λ q os. seen-is s event c r lines q os (see q))

module _ (s : Sapi) (c : RunState) (r : Role) (event : Event) where
  abbrev before : DataLinkState
  before = data_link_of r c

  -- the run after the oldest frame from the other side leaves the air and side `r` has this data link
  abbrev left_with : DataLinkState → RunState
  left_with d = record (with_data_link r d c) { air = without_oldest_item (other r) c.air }

  own-arrives : (f : Frame) → after_event event c ≡ left_with (taken_by (Some s) f before) →
      ((q : Role) → seen_by q s event c ≡ filter_map (line_of q s) (taking_lines r (Some s) f before)) →
      IsOldestSentOrNone (Some f) (queue_of (other r) c.air) → is_on s f ≡ true →
      (is_reopened_by_frame f (link_at r s c) ≡ true → IsFirst r (pair_at s c)) → Step s event c
  own-arrives f e see old on first = by (is_ui f.content) refl
    where
      l : LinkState
      l = link_at r s c

      d : DataLinkState
      d = taken_by (Some s) f before

      received : link_with_sapi s d ≡ after_received f l
      received = link-own s (after_received f l) _

      see-own : (q : Role) → seen_by q s event c ≡ seen q r (told (received_notices f l))
      see-own q = see q ∙ notices-own q r s (received_notices f l)

      silent : is_ui f.content ≡ true → (q : Role) (os : List Opening) →
          (b : Bool) → after_lines (if b then told (received_notices f l) else []) os ≡ os
      silent kind q os true = ui-told f.sapi f.cr f.content l os kind
      silent kind q os false = refl

      by : (b : Bool) → is_ui f.content ≡ b → Step s event c
      by true kind = gone s c r event d e (received ∙ ui-same f.sapi f.cr f.content l kind)
          (λ q os. ap (λ ls. after_lines ls os) (see-own q) ∙ silent kind q os (is_same_role q r))
      by false kind = taken s c r event d e f
          (ap (frames_of s) (oldest f (queue_of (other r) c.air) old)
          ∙ frame-kept s f (drop 1 (queue_of (other r) c.air)) (is-frame s f on kind))
          received first see-own

  else-arrives : (t : Sapi) (f : Frame) → is_same_sapi s t ≡ false →
      after_event event c ≡ left_with (taken_by (Some t) f before) →
      ((q : Role) → seen_by q s event c ≡ filter_map (line_of q s) (taking_lines r (Some t) f before)) → Step s event c
  else-arrives t f n e see = gone s c r event (taken_by (Some t) f before) e
      (link-else s t (after_received f (link_with_sapi t before)) _ n ∙ sym (passed s f before))
      (λ q os. ap (λ ls. after_lines ls os) (see q ∙ notices-else q r s t (received_notices f (link_with_sapi t before)) n))

frame-arrives : (s : Sapi) (c : RunState) (r : Role) (event : Event) (f : Frame) (a : Option Sapi) →
    sapi_for_frame f (data_link_of r c) ≡ a → after_event event c ≡ left_with s c r event (taken_by a f (data_link_of r c)) →
    ((q : Role) → seen_by q s event c ≡ filter_map (line_of q s) (taking_lines r a f (data_link_of r c))) →
    IsOldestSentOrNone (Some f) (queue_of (other r) c.air) →
    (sapi_for_frame f (data_link_of r c) ≡ Some s → is_reopened_by_frame f (link_at r s c) ≡ true → IsFirst r (pair_at s c)) →
    Step s event c
frame-arrives s c r event f None at_a e see old first =
    gone s c r event (taken_by None f (data_link_of r c)) e (sym (passed s f (data_link_of r c)))
    (λ q os. ap (λ ls. after_lines ls os) (see q))
frame-arrives Zero c r event f (Some Zero) at_a e see old first =
    own-arrives Zero c r event f e see old (taker-on f (data_link_of r c) Zero at_a) (first at_a)
frame-arrives Three c r event f (Some Three) at_a e see old first =
    own-arrives Three c r event f e see old (taker-on f (data_link_of r c) Three at_a) (first at_a)
frame-arrives s c r event f (Some t) at_a e see old first = else-arrives s c r event t f refl e see

arrival-step : (s : Sapi) (c : RunState) (r : Role) (event : Event) (arrived : Option Frame) →
    after_event event c ≡ after_arrival_at r arrived c →
    ((q : Role) → seen_by q s event c ≡ filter_map (line_of q s) (arrival_lines r arrived (data_link_of r c))) →
    IsOldestSentOrNone arrived (queue_of (other r) c.air) →
    IfSome arrived (λ f. sapi_for_frame f (data_link_of r c) ≡ Some s → is_reopened_by_frame f (link_at r s c) ≡ true →
    IsFirst r (pair_at s c)) → Step s event c
arrival-step s c r event None e see old first =
    gone s c r event (data_link_of r c) e refl (λ q os. ap (λ ls. after_lines ls os) (see q))
arrival-step s c r event (Some f) e see old first =
    frame-arrives s c r event f (sapi_for_frame f (data_link_of r c)) refl e see old first

-- ---- a run

module _ (e : Establishment) (s : Sapi) (is : sapi_of_endpoint e s ≡ Three) where
  call-step : (r : Role) (t : Sapi) (call : Call) (c : RunState) → (s : Sapi) → sapi_of_endpoint e s ≡ Three → Sound e c →
      IsPossible s (Does (Calls r t call)) c → Step s (Does (Calls r t call)) c
  call-step r Zero call c Zero is sound may = call-own c r Zero call ((sound r Zero).normal is) may
  call-step r Three call c Three is sound may = call-own c r Three call ((sound r Three).normal is) may
  call-step r t call c s is sound may = call-else c r s t call refl

  release-step : (r : Role) (t : Sapi) (c : RunState) → (s : Sapi) → IsPossible s (Releases r t) c → Step s (Releases r t) c
  release-step r Zero c Zero may = release-own c r Zero may
  release-step r Three c Three may = release-own c r Three may
  release-step r t c s may = release-else c r s t refl

  step : (event : Event) (c : RunState) → Sound e c → IsPossible s event c → Step s event c
  step (Does (Calls r t call)) c sound may = call-step r t call c s is sound may
  step (Does (Slot r)) c sound may = slot-step e s is c sound r
  step (Does (UnitSlot r t m)) c sound may = unit-step e s is c sound r t m may.0
  step (Does (Arrives Mobile arrived)) c sound may =
      arrival-step s c Network (Does (Arrives Mobile arrived)) arrived refl (λ q. refl) may.0 may.1
  step (Does (Arrives Network arrived)) c sound may =
      arrival-step s c Mobile (Does (Arrives Network arrived)) arrived refl (λ q. refl) may.0 may.1
  step (Does (HasMain r b)) c sound may = main-else c r s b
  step (Releases r t) c sound may = release-step r t c s may

  run : (events : List Event) (c : RunState) → Sound e c → IsRun s events c →
      Follow (pair_at s c) (λ q os. later_openings q s events c os)
  run [] c sound h = follow-none (pair_at s c)
  run (event ∷ events) c sound h =
      step event c sound h.0 (λ q os. later_openings q s events (after_event event c) os)
      (run events (after_event event c) (sound-after e s event c h.0 sound) h.1)

first-is : (e : Establishment) (s : Sapi) → sapi_of_endpoint e s ≡ Three → (channel : Channel) (t200 : Role → Sapi → ℕ) →
    pair_at s (initial_run channel e t200) ≡ initial_pair channel (λ role. t200 role s)
first-is e Three is channel t200 = refl
first-is Normal Zero is channel t200 = refl
first-is Contention Zero is channel t200 = absurd cc

follows-as : {xs xs' ys ys' : List Opening} → xs ≡ xs' → ys ≡ ys' → Follows xs ys → Follows xs' ys'
follows-as e f h = rw (← e, ← f) h

got-as : {xs xs' ys ys' : List Opening} → xs ≡ xs' → ys ≡ ys' → WereGot xs ys → WereGot xs' ys'
got-as e f h = rw (← e, ← f) h

pub deliver_in_each_opening : (e : Establishment) (sapi : Sapi) → sapi_of_endpoint e sapi ≡ Three →
    (channel : Channel) (t200 : Role → Sapi → ℕ) (events : List Event) → IsRun sapi events (initial_run channel e t200) →
    DeliversInEachOpening sapi events (initial_run channel e t200)
deliver_in_each_opening e sapi is channel t200 events h =
    let c = initial_run channel e t200 in
    let goal = λ (q : Role) (os : List Opening). later_openings q sapi events c os in
    let f = subst (λ p. Follow p goal) (first-is e sapi is channel t200) (run e sapi is events c (sound-first e channel t200) h) in
    let k = deliver_by_openings channel (λ role. t200 role sapi) f.moves f.possible in
    let o = λ (q : Role). f.openings q (new_opening ∷ []) in
    record {
      in_order = λ role. follows-as (o role) (o (other role)) (k.in_order role);
      acked = λ role. got-as (o role) (o (other role)) (k.acked role);
    }
