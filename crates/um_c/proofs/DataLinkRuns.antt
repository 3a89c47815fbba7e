-- A program that connects two data links through C calls corresponds to a run of two data links, so it delivers in order.
use Rattle.std.proofs.Common.{◌≡◌, refl, sym, ap, ◌∙◌, arith, inl, inr, ℕ, Bool, if◌then◌else◌, List}
use Rattle.std.proofs.Common.{[], ◌∷◌, ◌++◌, map, length, drop, replicate, Option, Some, None, ◌-◌}
use Rattle.std.specs.Prelude.{◌⊎◌, ◌==◌, IfSome}
use Rattle.std.specs.List.{AllZip, cons_option}
use Rattle.std.proofs.lemmas.List.{length-map, take_at}
use Rattle.lapdm_frame.specs.declared.Channel.{Channel}
use Rattle.lapdm_frame.specs.declared.Channel.TheVariants.{Sdcch, Sacch}
use Rattle.lapdm_frame.specs.Content.{Frame, fill_frame}
use Rattle.lapdm_frame.specs.Frames.{IsFrameCoding, FrameFits, octets_of}
use Rattle.lapdm_frame.proofs.Lemmas.{octets_canonical, only_frame}
use Rattle.um_air.specs.lapdm_window.declared.Sapi.{Sapi}
use Rattle.um_air.specs.lapdm_window.declared.Sapi.TheVariants.{Zero, Three}
use Rattle.um_air.specs.lapdm_window.declared.Notice.{Notice}
use Rattle.um_air.specs.lapdm_window.declared.Refused.{Refused}
use Rattle.um_air.specs.segmenting.Segments.{Message}
use Rattle.um_air.specs.lapdm_window.Ends.{Role, Mobile, Network, command_cr}
use Rattle.um_air.specs.lapdm_window.Calls.{SendsUi}
use Rattle.um_air.specs.lapdm_window.Calls.{Call, Opens, OpensWithoutInfo, IsCallAllowedFor, IsCallAllowedForEndpoint, refusal_of}
use Rattle.um_air.specs.lapdm_link.Queues.{Queues, empty_queues, queue_of, with_items_appended, without_oldest_item, IsOldestSentOrNone}
use Rattle.um_air.specs.lapdm_link.Events.{other}
use Rattle.um_air.specs.lapdm_link.Claims.{LogLine, Asked, Notified, Claims, AckedAtMostDelivered, HasNoticesInOrder}
use Rattle.um_air.proofs.lapdm_link.Lemmas.{each_way}
use Rattle.lapdm_datalink.specs.Links.{LinkState, afresh, for_call, after_call}
use Rattle.lapdm_datalink.specs.DataLinks.{DataLinkState, link_with_sapi, with_link, having_main, data_link_outcome, unit_frame}
use Rattle.lapdm_datalink.specs.DataLinks.{sapi_for_frame, after_arrival, notices_of_taking}
use Rattle.lapdm_delivery.specs.Runs.{RunState, RunEvent, IsPossible, IsRun, run_log, after_event, event_lines, initial_run, data_link_of}
use Rattle.lapdm_delivery.specs.Runs.{with_data_link, slot_lines, arrival_lines, taking_lines, OpensNoClosedLink, log_of_link}
use Rattle.lapdm_delivery.specs.Runs as R
use Rattle.lapdm_delivery.proofs.Runs.{replaced-own, replaced-other, replaced-air}
use Rattle.lapdm_delivery.proofs.Runs.{link_delivers, link_counts, link_order, whole_delivers, whole_counts, whole_order}
use Rattle.lapdm_datalink.specs.declared.data_links.Establishment.{Establishment}
use Rattle.lapdm_datalink.specs.declared.data_links.Establishment.TheVariants.{Contention}
use Rattle.lapdm_datalink.proofs.Kept.{IsOn, IsFit, on_call, on_arrival, on_slot, data_link_slot-fits, unit_frame-fits, fill-same}
use Rattle.lapdm_datalink.proofs.Kept.{fill-silent}
use Rattle.um_c.specs.declared.datalinks.CDataLink.{CDataLink}
use Rattle.um_c.specs.declared.datalinks.CReport.{CReport}
use Rattle.um_c.specs.States.{sapi_number}
use Rattle.um_c.specs.Effects.{c_notice}
use Rattle.um_c.specs.EndCalls.{call_refusal_number}
use Rattle.um_c.specs.DataLinkCalls.{RepresentsDataLink, c_report, reports_of, reports_if_taken, with_layer1}
use Rattle.um_c.specs.DataLinkRuns.{FillsByUnit, TakesFill}
use Rattle.um_c.specs.DataLinkRuns.{PairState, PairStep, Calls, Fills, Takes, Loses, HasMain, Replaces, IsPairStep, OpensNoneAgain}
use Rattle.um_air.specs.lapdm_link.Carriers.{FirstSatisfies}
use Rattle.lapdm_datalink.specs.Abstraction.{MayWait}
use Rattle.um_c.specs.DataLinkRuns.{IsPairStart, IsPairRun, report_lines_from, report_lines, pair_lines, pair_log}
use Rattle.um_c.proofs.{Calls.sapi-number, Sessions.notice-read}

-- ---- reports

abbrev line_of : Role → Sapi × Notice → LogLine
line_of r p = Notified r p.0 p.1

lines-read : (r : Role) (rs : List (Sapi × Notice)) →
    report_lines_from r (map (λ p. sapi_number p.0) rs) (map (λ p. c_notice p.1) rs) ≡ map (line_of r) rs
lines-read r [] = refl
lines-read r ((s, n) ∷ rs) = rw (sapi-number s, notice-read n, lines-read r rs) refl

report-read : (r : Role) (rs : List (Sapi × Notice)) → report_lines r (c_report rs) ≡ map (line_of r) rs
report-read r rs =
    rw (
      take_at (map (λ (p : Sapi × Notice). sapi_number p.0) rs) (replicate (3 - length rs) 0) (length rs) (length-map rs _),
      take_at (map (λ (p : Sapi × Notice). c_notice p.1) rs) _ (length rs) (length-map rs _),
    ) (lines-read r rs)

lines-of : (r : Role) (s : Sapi) (ns : List Notice) → map (line_of r) (reports_of s ns) ≡ map (Notified r s) ns
lines-of r s [] = refl
lines-of r s (n ∷ ns) = ap (λ ls. Notified r s n ∷ ls) (lines-of r s ns)

lines-both : (r : Role) (ns ms : List Notice) →
    map (line_of r) (reports_of Zero ns ++ reports_of Three ms) ≡ map (Notified r Zero) ns ++ map (Notified r Three) ms
lines-both r [] ms = lines-of r Three ms
lines-both r (n ∷ ns) ms = ap (λ ls. Notified r Zero n ∷ ls) (lines-both r ns ms)

lines-taken : (r : Role) (f : Frame) (d : DataLinkState) (a : Option Sapi) →
    map (line_of r) (reports_if_taken a (notices_of_taking a f d)) ≡ taking_lines r a f d
lines-taken r f d None = refl
lines-taken r f d (Some s) = lines-of r s (notices_of_taking (Some s) f d)

-- ---- blocks

-- the layer 1 octets of a block on SACCH may have any value
recoded : (channel : Channel) (f : Frame) (layer1 block : List ℕ) → length layer1 ≡ 2 → IsFrameCoding channel f block →
    IsFrameCoding channel f (with_layer1 channel layer1 block)
recoded Sdcch f layer1 block two h = h
recoded Sacch f (x ∷ y ∷ []) (p ∷ q ∷ block) two h = record {
  count = h.count;
  fits = h.fits;
  address_matches = h.address_matches;
  control_matches = h.control_matches;
  length_matches = h.length_matches;
  information_matches = h.information_matches;
}
recoded Sacch f [] block two h = absurd cc
recoded Sacch f (x ∷ []) block two h = absurd (omega (arith, two))
recoded Sacch f (x ∷ y ∷ z ∷ layer1) block two h = absurd (omega (arith, two))
recoded Sacch f layer1 [] two h = absurd (omega (arith, h.count))
recoded Sacch f layer1 (p ∷ []) two h = absurd (omega (arith, h.count))

abbrev AreCoded : Channel → Queues (List ℕ) → Queues Frame → Type 0
AreCoded channel ws fs = (r : Role) → AllZip (IsFrameCoding channel) (queue_of r fs) (queue_of r ws)

coded-rest : (channel : Channel) (fs : List Frame) (bs : List (List ℕ)) → AllZip (IsFrameCoding channel) fs bs →
    AllZip (IsFrameCoding channel) (drop 1 fs) (drop 1 bs)
coded-rest channel fs bs h = grind arith

coded-append : (channel : Channel) (fs gs : List Frame) (bs cs : List (List ℕ)) → AllZip (IsFrameCoding channel) fs bs →
    AllZip (IsFrameCoding channel) gs cs → AllZip (IsFrameCoding channel) (fs ++ gs) (bs ++ cs)
coded-append channel [] gs [] cs h g = g
coded-append channel (f ∷ fs) gs (b ∷ bs) cs h g = (h.0, coded-append channel fs gs bs cs h.1 g)
coded-append channel fs gs bs cs h g = absurd assumption

module _ {channel : Channel} {ws : Queues (List ℕ)} {fs : Queues Frame} (h : AreCoded channel ws fs) where
  rest-coded : (sender : Role) → AreCoded channel (without_oldest_item sender ws) (without_oldest_item sender fs)
  rest-coded Mobile Mobile = coded-rest channel fs.up ws.up (h Mobile)
  rest-coded Network Network = coded-rest channel fs.down ws.down (h Network)
  rest-coded sender r = h r

  append-coded : (sender : Role) (gs : List Frame) (bs : List (List ℕ)) → AllZip (IsFrameCoding channel) gs bs →
      AreCoded channel (with_items_appended sender bs ws) (with_items_appended sender gs fs)
  append-coded Mobile gs bs g Mobile = coded-append channel fs.up gs ws.up bs (h Mobile) g
  append-coded Network gs bs g Network = coded-append channel fs.down gs ws.down bs (h Network) g
  append-coded sender gs bs g r = h r

-- ---- the structs represent the data links of a run, and the blocks in transit encode its frames

record Matches (channel : Channel) (p : PairState) (c : RunState) : Type 0 where
  represents : (r : Role) → RepresentsDataLink (p.struct_of r) (data_link_of r c)
  on : (r : Role) → IsOn r channel (data_link_of r c)
  blocks : AreCoded channel p.blocks c.air

-- the step either changes nothing of the run or is an event of it
data IsPlayed (channel : Channel) (b : PairState) (lines : List LogLine) (c : RunState) : Type 0 where
  idle : Matches channel b c → lines ≡ [] → IsPlayed channel b lines c
  does : (event : RunEvent) → IsPossible event c → Matches channel b (after_event event c) → lines ≡ event_lines event c →
      IsPlayed channel b lines c

module _ {channel : Channel} {a b : PairState} {c : RunState} (m : Matches channel a c) (r : Role) where
  -- the struct of this side represents the data link `d` after the step, which leads the run to `z`
  next : {blocks : Queues (List ℕ)} (d : DataLinkState) (z : RunState) → Replaces r a b blocks →
      RepresentsDataLink (b.struct_of r) d → IsOn r channel d → data_link_of r z ≡ d →
      data_link_of (other r) z ≡ data_link_of (other r) c →
      AreCoded channel blocks z.air → Matches channel b z
  next d z l h on own peer blocks = record {
    represents = each_way (λ q. RepresentsDataLink (b.struct_of q) (data_link_of q z)) r (rw own h)
        (rw (peer, l.peer) (m.represents (other r)));
    on = each_way (λ q. IsOn q channel (data_link_of q z)) r (rw own on) (rw peer (m.on (other r)));
    blocks = rw l.in_transit blocks;
  }

  same : {blocks : Queues (List ℕ)} → Replaces r a b blocks → b.struct_of r ≡ a.struct_of r → AreCoded channel blocks c.air →
      Matches channel b c
  same l kept blocks = next (data_link_of r c) c l (rw kept (m.represents r)) (m.on r) refl refl blocks

fits-of : (role : Role) (sapi : Sapi) (channel : Channel) (a : Option Frame) → IfSome a (MayWait role sapi channel) →
    IfSome a (FrameFits channel)
fits-of role sapi channel None h = tt
fits-of role sapi channel (Some f) h = h.0

module _ {x : CDataLink} {d : DataLinkState} (h : RepresentsDataLink x d) where
  links_fit : (p : Sapi) → IsFit (link_with_sapi p d)
  links_fit Zero =
      let g = h.represents.link0.represents in
      record { valid = g.endpoint.valid; answer = fits-of _ _ _ d.link0.answer g.is_answer }
  links_fit Three =
      let g = h.represents.link3.represents in
      record { valid = g.endpoint.valid; answer = fits-of _ _ _ d.link3.answer g.is_answer }

  has_role : {r : Role} {channel : Channel} → IsOn r channel d → (p : Sapi) → (link_with_sapi p d).endpoint.role ≡ r
  has_role on Zero = on.has_role
  has_role on Three = h.represents.valid.role ∙ on.has_role

  has_channel : {r : Role} {channel : Channel} → IsOn r channel d → (p : Sapi) → (link_with_sapi p d).endpoint.channel ≡ channel
  has_channel on Zero = on.has_channel
  has_channel on Three = h.represents.valid.channel ∙ on.has_channel

module _ (r : Role) (d : DataLinkState) (c : RunState) where
  -- and after frames of this side, or the oldest of the other side, leave or enter the air
  module _ (air : Queues Frame) where
    moved-own : data_link_of r (record (with_data_link r d c) { air = air }) ≡ d
    moved-own = grind arith

    moved-peer : data_link_of (other r) (record (with_data_link r d c) { air = air }) ≡ data_link_of (other r) c
    moved-peer = grind arith

-- ---- calls of layer 3

allowed_or_not : (r : Role) (s : Sapi) (call : Call) → IsCallAllowedFor r s call ⊎ (IsCallAllowedFor r s call → ⊥)
allowed_or_not Mobile Zero (Opens info) = inl (refl, refl)
allowed_or_not r s (Opens info) = inr (λ h. grind arith)
allowed_or_not r Three OpensWithoutInfo = inl refl
allowed_or_not r Zero OpensWithoutInfo = inr (λ h. grind arith)
allowed_or_not r s call = inl tt

refuses : (reason : Refused) → call_refusal_number reason ≡ 0 → ⊥
refuses reason h = grind arith

not_0-lines : (answer : ℕ) (lines : List LogLine) → (answer ≡ 0 → ⊥) → (if answer == 0 then lines else []) ≡ []
not_0-lines answer lines h = grind arith

module _ {channel : Channel} {a : PairState} {c : RunState} (m : Matches channel a c) (r : Role) where
  abbrev d : DataLinkState
  d = data_link_of r c

  abbrev h : RepresentsDataLink (a.struct_of r) d
  h = m.represents r

  module _ {b : PairState} where
    call_played : (s : Sapi) (call : Call) (answer : ℕ) → OpensNoneAgain a (Calls r s call answer) →
        IsPairStep a (Calls r s call answer) b →
        IsPlayed channel b (pair_lines (Calls r s call answer)) c
    call_played s call answer once (own, k, l) = by_allowed (allowed_or_not r (link_with_sapi s d).endpoint.sapi call)
      where
        unchanged : (answer ≡ 0 → ⊥) → IsPlayed channel b (pair_lines (Calls r s call answer)) c
        unchanged n = idle (same m r l (k.unchanged n) m.blocks) (not_0-lines answer (Asked r s call ∷ []) n)

        there : IsCallAllowedFor r (link_with_sapi s d).endpoint.sapi call → IsCallAllowedForEndpoint (link_with_sapi s d).endpoint call
        there ok = rw (has_role h (m.on r) s) ok

        back : IsCallAllowedForEndpoint (link_with_sapi s d).endpoint call → IsCallAllowedFor r (link_with_sapi s d).endpoint.sapi call
        back ok = rw (has_role h (m.on r) s) at ok

        carried : IsCallAllowedFor r (link_with_sapi s d).endpoint.sapi call →
            refusal_of call (for_call call (link_with_sapi s d)).endpoint ≡ None →
            IsPlayed channel b (pair_lines (Calls r s call answer)) c
        carried ok none =
            let done = k.carried_out d h s (sym (sapi-number s)) (there ok) none in
            let new = with_link s (after_call call (link_with_sapi s d)) d in
            let found : for_call call (link_with_sapi s d) ≡ link_with_sapi s d =
            ap (λ (x : Bool). if x then afresh (link_with_sapi s d) else link_with_sapi s d) (once d h) in
            does (R.Calls r s call) (own, ok, ap (λ (x : LinkState). refusal_of call x.endpoint) (sym found) ∙ none)
            (next m r new (with_data_link r new c) l done.written.represents
            (on_call (m.on r) s call (links_fit h s).valid (there ok) none)
            (replaced-own r new c) (replaced-other r new c) (rw (replaced-air r new c) m.blocks))
            (rw done.answer_is_0 refl)

        by_refusal : (x : Option Refused) → refusal_of call (for_call call (link_with_sapi s d)).endpoint ≡ x →
            IsCallAllowedFor r (link_with_sapi s d).endpoint.sapi call → IsPlayed channel b (pair_lines (Calls r s call answer)) c
        by_refusal None e ok = carried ok e
        by_refusal (Some reason) e ok =
            unchanged (λ z. refuses reason (sym (k.refused d h s (sym (sapi-number s)) (there ok) reason e) ∙ z))

        by_allowed : IsCallAllowedFor r (link_with_sapi s d).endpoint.sapi call
            ⊎ (IsCallAllowedFor r (link_with_sapi s d).endpoint.sapi call → ⊥) →
            IsPlayed channel b (pair_lines (Calls r s call answer)) c
        by_allowed (inl ok) = by_refusal _ refl ok
        by_allowed (inr never) = unchanged (λ z. (let eight = k.unsupported_call d h s (sym (sapi-number s)) (λ g. never (back g)) in
            absurd (omega (arith, eight, z))))

    -- ---- slots

    slot_played : (layer1 block : List ℕ) (answer : ℕ) (report : CReport) → IsPairStep a (Fills r layer1 block answer report) b →
        IsPlayed channel b (pair_lines (Fills r layer1 block answer report)) c
    slot_played layer1 block answer report (block_old, report_old, two, k, l) =
        let o = data_link_outcome d in
        does (R.Slot r) tt
        (next m r o.new_state (after_event (R.Slot r) c) l (k.written d h).represents (on_slot (m.on r))
        (moved-own r o.new_state c _) (moved-peer r o.new_state c _)
        (rw (replaced-air r o.new_state c) (append-coded m.blocks r _ _ (sent o.frame refl))))
        (ap (report_lines r) (k.reported d h) ∙ report-read r _ ∙ lines-both r o.notices0 o.notices3)
      where
        coded : (f : Frame) → (data_link_outcome d).frame ≡ Some f → IsFrameCoding channel f block
        coded f e =
            let fits : FrameFits channel f = rw (e, (m.on r).has_channel) at (data_link_slot-fits d h.represents.valid (links_fit h)) in
            rw (k.block_is d h, e, (m.on r).has_channel)
            (recoded channel f layer1 (octets_of channel f) two (octets_canonical channel f fits).frame)

        sent : (x : Option Frame) → (data_link_outcome d).frame ≡ x →
            AllZip (IsFrameCoding channel) (cons_option (data_link_outcome d).frame []) (if answer == 0 then block ∷ [] else [])
        sent None e = rw (k.answer_is d h, e) tt
        sent (Some f) e = rw (k.answer_is d h, e) (coded f e, tt)

    unit_played : (s : Sapi) (t : Message) (layer1 block : List ℕ) (report : CReport) →
        IsPairStep a (FillsByUnit r s t layer1 block report) b →
        IsPlayed channel b (pair_lines (FillsByUnit r s t layer1 block report)) c
    unit_played s t layer1 block report (fill, fill_old, block_old, report_old, two, k, u, l) =
        by_refusal (refusal_of (SendsUi t) (link_with_sapi s (data_link_outcome d).new_state).endpoint) refl
      where
        after : RepresentsDataLink (b.struct_of r) (data_link_outcome d).new_state
        after = (k.written d h).represents

        free : (x : Option Frame) → (data_link_outcome d).frame ≡ x → (data_link_outcome d).frame ≡ None
        free None e = e
        free (Some f) e = (let ten : 10 ≡ 0 = rw e at (k.answer_is d h) in absurd (omega (arith, ten)))

        coded : refusal_of (SendsUi t) (link_with_sapi s (data_link_outcome d).new_state).endpoint ≡ None →
            IsFrameCoding channel (unit_frame s t (data_link_outcome d).new_state) block
        coded ok =
            let new = (data_link_outcome d).new_state in
            let on = on_slot (m.on r) in
            let fits : FrameFits channel (unit_frame s t new) =
            rw (has_channel after on s) at (unit_frame-fits s t new (links_fit after s) ok) in
            rw ((u.carried_out new after s (sym (sapi-number s)) ok).1, on.has_channel)
            (recoded channel _ layer1 (octets_of channel (unit_frame s t new)) two
            (octets_canonical channel _ fits).frame)

        goes : refusal_of (SendsUi t) (link_with_sapi s (data_link_outcome d).new_state).endpoint ≡ None →
            IsPlayed channel b (pair_lines (FillsByUnit r s t layer1 block report)) c
        goes ok =
            let o = data_link_outcome d in
            does (R.UnitSlot r s t) (free o.frame refl, ok)
            (next m r o.new_state (after_event (R.UnitSlot r s t) c) l after (on_slot (m.on r))
            (moved-own r o.new_state c _) (moved-peer r o.new_state c _)
            (rw (replaced-air r o.new_state c) (append-coded m.blocks r _ _ (coded ok, tt))))
            (ap (λ ls. ls ++ Asked r s (SendsUi t) ∷ [])
            (ap (report_lines r) (k.reported d h) ∙ report-read r _ ∙ lines-both r o.notices0 o.notices3))

        by_refusal : (x : Option Refused) → refusal_of (SendsUi t) (link_with_sapi s (data_link_outcome d).new_state).endpoint ≡ x →
            IsPlayed channel b (pair_lines (FillsByUnit r s t layer1 block report)) c
        by_refusal None e = goes e
        by_refusal (Some reason) e =
            absurd (refuses reason (sym (u.refused (data_link_outcome d).new_state after s (sym (sapi-number s)) reason e)))

    -- ---- arrivals

    fill_played : (block : List ℕ) (answer : ℕ) (report : CReport) → IsPairStep a (TakesFill r block answer report) b →
        IsPlayed channel b (pair_lines (TakesFill r block answer report)) c
    fill_played block answer report (report_old, k, is, l) =
        let cr = command_cr (other r) in
        let only = only_frame d.link0.endpoint.channel (fill_frame cr) block (is d h) in
        let done = k.carried_out d h (fill_frame cr) only in
        idle (next m r d c l (rw (fill-same cr d) at done.written.represents) (m.on r) refl refl m.blocks)
        (rw done.answer_is_0 (ap (report_lines r) (k.reported d h (fill_frame cr) only) ∙ report-read r _
        ∙ lines-taken r (fill_frame cr) d (sapi_for_frame (fill_frame cr) d)
        ∙ ap (λ ns. map (Notified r Zero) ns) (fill-silent cr d.link0)))

    takes_played : (block : List ℕ) (answer : ℕ) (report : CReport) → OpensNoneAgain a (Takes r block answer report) →
        IsPairStep a (Takes r block answer report) b → IsPlayed channel b (pair_lines (Takes r block answer report)) c
    takes_played block answer report once (report_old, k, oldest, l) =
        by_queues (queue_of (other r) c.air) (queue_of (other r) a.blocks) refl refl (m.blocks (other r)) oldest
      where
        takes : (f : Frame) (fs : List Frame) → queue_of (other r) c.air ≡ f ∷ fs → IsFrameCoding channel f block →
            IsPlayed channel b (pair_lines (Takes r block answer report)) c
        takes f fs e coded =
            let here : IsFrameCoding d.link0.endpoint.channel f block = rw (m.on r).has_channel coded in
            let only = only_frame d.link0.endpoint.channel f block here in
            let done = k.carried_out d h f only in
            let new = after_arrival f d in
            does (R.Arrives (other r) (Some f)) (possible r e (once d h f here))
            (next m r new (after_event (R.Arrives (other r) (Some f)) c) l done.written.represents
            (on_arrival (m.on r) f h.represents.valid (λ p. (links_fit h p).valid) coded.fits)
            (own r) (peer r) (air r))
            (rw done.answer_is_0 (ap (report_lines r) (k.reported d h f only) ∙ report-read r _
            ∙ lines-taken r f d (sapi_for_frame f d) ∙ same_lines r))
          where
            oldest_is : (q : Role) → queue_of q c.air ≡ f ∷ fs → IsOldestSentOrNone (Some f) (queue_of q c.air)
            oldest_is q e = rw e refl

            possible : (r : Role) → queue_of (other r) c.air ≡ f ∷ fs → OpensNoClosedLink (Some f) (data_link_of r c) →
                IsPossible (R.Arrives (other r) (Some f)) c
            possible Mobile e g = (oldest_is Network e, g)
            possible Network e g = (oldest_is Mobile e, g)

            own : (r : Role) → data_link_of r (after_event (R.Arrives (other r) (Some f)) c) ≡ after_arrival f (data_link_of r c)
            own Mobile = refl
            own Network = refl

            peer : (r : Role) → data_link_of (other r) (after_event (R.Arrives (other r) (Some f)) c) ≡ data_link_of (other r) c
            peer Mobile = refl
            peer Network = refl

            air : (r : Role) → AreCoded channel (without_oldest_item (other r) a.blocks)
                (after_event (R.Arrives (other r) (Some f)) c).air
            air Mobile = rest-coded m.blocks Network
            air Network = rest-coded m.blocks Mobile

            same_lines : (r : Role) → taking_lines r (sapi_for_frame f (data_link_of r c)) f (data_link_of r c)
                ≡ event_lines (R.Arrives (other r) (Some f)) c
            same_lines Mobile = refl
            same_lines Network = refl

        by_queues : (fs : List Frame) (bs : List (List ℕ)) → queue_of (other r) c.air ≡ fs → queue_of (other r) a.blocks ≡ bs →
            AllZip (IsFrameCoding channel) fs bs → FirstSatisfies (λ first. block ≡ first) bs →
            IsPlayed channel b (pair_lines (Takes r block answer report)) c
        by_queues (f ∷ fs) (x ∷ bs) e g coded is = takes f fs e (rw is coded.0)
        by_queues fs [] e g coded is = absurd is
        by_queues [] (x ∷ bs) e g coded is = absurd coded

    main_played : (established : Bool) (answer : ℕ) → IsPairStep a (HasMain r established answer) b → IsPlayed channel b [] c
    main_played established answer (k, l) =
        let new = having_main established d in
        does (R.HasMain r established) tt
        (next m r new (with_data_link r new c) l (k.carried_out d h).written.represents
        (record { has_role = (m.on r).has_role; has_channel = (m.on r).has_channel })
        (replaced-own r new c) (replaced-other r new c) (rw (replaced-air r new c) m.blocks)) refl

loses_played : {channel : Channel} {a b : PairState} {c : RunState} → Matches channel a c → (sender : Role) →
    IsPairStep a (Loses sender) b → IsPlayed channel b [] c
loses_played {channel} {a} {b} {c} m sender e = does (R.Arrives sender None) (possible sender) (rw e (matches sender)) (lines sender)
  where
    possible : (sender : Role) → IsPossible (R.Arrives sender None) c
    possible Mobile = (tt, tt)
    possible Network = (tt, tt)

    lines : (sender : Role) → [] ≡ event_lines (R.Arrives sender None) c
    lines Mobile = refl
    lines Network = refl

    kept : (sender q : Role) → data_link_of q (after_event (R.Arrives sender None) c) ≡ data_link_of q c
    kept sender q = grind arith

    air : (sender : Role) → AreCoded channel (without_oldest_item sender a.blocks) (after_event (R.Arrives sender None) c).air
    air Mobile = rest-coded m.blocks Mobile
    air Network = rest-coded m.blocks Network

    matches : (sender : Role) → (let lost : PairState = record a { blocks = without_oldest_item sender a.blocks } in
        Matches channel lost (after_event (R.Arrives sender None) c))
    matches sender = record {
      represents = λ q. rw (kept sender q) (m.represents q);
      on = λ q. rw (kept sender q) (m.on q);
      blocks = air sender;
    }

-- ---- a run of the program

played : {channel : Channel} {a b : PairState} {c : RunState} (step : PairStep) → Matches channel a c → OpensNoneAgain a step →
    IsPairStep a step b → IsPlayed channel b (pair_lines step) c
played (Calls r s call answer) m once is = call_played m r s call answer once is
played (Fills r layer1 block answer report) m once is = slot_played m r layer1 block answer report is
played (FillsByUnit r s t layer1 block report) m once is = unit_played m r s t layer1 block report is
played (TakesFill r block answer report) m once is = fill_played m r block answer report is
played (Takes r block answer report) m once is = takes_played m r block answer report once is
played (Loses sender) m once is = loses_played m sender is
played (HasMain r established answer) m once is = main_played m r established answer is

-- a run of two data links with this log
record Plays (c : RunState) (lines : List LogLine) : Type 0 where
  events : List RunEvent
  run : IsRun events c
  log : run_log events c ≡ lines

plays : {channel : Channel} (steps : List PairStep) (a z : PairState) (c : RunState) → Matches channel a c → IsPairRun a steps z →
    Plays c (pair_log steps)
plays [] a z c m run = record { events = []; run = tt; log = refl }
plays {channel} (step ∷ steps) a z c m (once, b, is, run) = by (λ e g. plays steps b z e g run) (played step m once is)
  where
    by : ((e : RunState) → Matches channel b e → Plays e (pair_log steps)) → IsPlayed channel b (pair_lines step) c →
        Plays c (pair_lines step ++ pair_log steps)
    by rest (idle g none) = rw none (rest c g)
    by rest (does event may g lines) =
        let p = rest (after_event event c) g in
        record { events = event ∷ p.events; run = (may, p.run); log = rw (p.log, lines) refl }

module _ (channel : Channel) (e : Establishment) (t200 : Role → Sapi → ℕ) (a z : PairState) (steps : List PairStep)
    (start : IsPairStart channel e t200 a) (run : IsPairRun a steps z) where
  started : Matches channel a (initial_run channel e t200)
  started = record { represents = represents; on = on; blocks = λ r. rw start.blocks (empty r) }
    where
      represents : (r : Role) → RepresentsDataLink (a.struct_of r) (data_link_of r (initial_run channel e t200))
      represents Mobile = (start.new_struct Mobile).represents
      represents Network = (start.new_struct Network).represents

      on : (r : Role) → IsOn r channel (data_link_of r (initial_run channel e t200))
      on Mobile = record { has_role = refl; has_channel = refl }
      on Network = record { has_role = refl; has_channel = refl }

      empty : (r : Role) → AllZip (IsFrameCoding channel) (queue_of r (initial_run channel e t200).air) (queue_of r empty_queues)
      empty Mobile = tt
      empty Network = tt

  abbrev going : Plays (initial_run channel e t200) (pair_log steps)
  going = plays steps a z (initial_run channel e t200) started run

  pub pair_links : (sapi : Sapi) → (let log = log_of_link e sapi (pair_log steps) in
      Claims log × AckedAtMostDelivered log × HasNoticesInOrder log)
  pair_links sapi = (
    rw going.log at (link_delivers e channel t200 going.events going.run sapi),
    rw going.log at (link_counts e channel t200 going.events going.run sapi),
    rw going.log at (link_order e channel t200 going.events going.run sapi),
  )

-- with contention resolution, it holds of the whole log
module _ (channel : Channel) (t200 : Role → Sapi → ℕ) (a z : PairState) (steps : List PairStep)
    (start : IsPairStart channel Contention t200 a) (run : IsPairRun a steps z) where
  pub pair_delivers : Claims (pair_log steps)
  pair_delivers = whole_delivers (pair_log steps) (λ s. (pair_links channel Contention t200 a z steps start run s).0)

  pub pair_counts : AckedAtMostDelivered (pair_log steps)
  pair_counts = whole_counts (pair_log steps) (λ s. (pair_links channel Contention t200 a z steps start run s).1)

  pub pair_order : HasNoticesInOrder (pair_log steps)
  pair_order = whole_order (pair_log steps) (λ s. (pair_links channel Contention t200 a z steps start run s).2)
