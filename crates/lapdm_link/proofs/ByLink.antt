-- The claims of both links.
use Rattle.{
  lapdm_link.{
    proofs.{Events.{either, own_sapi}, Links.no_oversize, Order.only_while_open, Sessions.ui_in_order},
    specs.Claims.{AckedAtMostDelivered, Claims, HasEstablishmentTrigger, HasNoticesInOrder, IsOpenEndpoint, LogLine, Notified, OccursAfter},
    specs.{Claims.{calls_in_log, is_log_line_of_sapi, log_lines_of_sapi, notices_in_log}, Events.other},
  },
  lapdm_window.specs.{
    Ends.{Mobile, Network, Role, ◌then◌},
    declared.{Notice.Notice, Sapi.{TheVariants.{Three, Zero}, Sapi}},
    segmenting.Segments.Message,
  },
  std.proofs.Common.{Bool, List, None, Option, Some, [], ap, arith, false, if◌then◌else◌, inl, inr, refl, suc, sym, true, zero},
  std.{proofs.{Common.{◌++◌, ◌∙◌, ◌∷◌, ◌≡◌}, lemmas.List.Elements.filter_map-append}, specs.List.cons_option},
  std.specs.Prelude.Contains,
}
use Rattle.lapdm_window.specs.declared.Notice.TheVariants as N

-- ## ByLink: Each claim depends only on the log lines of one link, so it can be proved for each link separately.

module _ (s : Sapi) where
  abbrev chosen : Bool → LogLine → Option LogLine
  chosen b l = if b then Some l else None

  calls_in_log-kept : (r : Role) (ls : List LogLine) → calls_in_log r s (log_lines_of_sapi s ls) ≡ calls_in_log r s ls
  calls_in_log-kept r [] = refl
  calls_in_log-kept r (l ∷ ls) = grind (arith, calls_in_log-kept r ls)

  notices_in_log-kept : (r : Role) (ls : List LogLine) → notices_in_log r s (log_lines_of_sapi s ls) ≡ notices_in_log r s ls
  notices_in_log-kept r [] = refl
  notices_in_log-kept r (l ∷ ls) = grind (arith, notices_in_log-kept r ls)

  stands-kept : (before ls : List LogLine) (l : LogLine) → is_log_line_of_sapi s l ≡ true → OccursAfter before l ls →
      OccursAfter (log_lines_of_sapi s before) l (log_lines_of_sapi s ls)
  stands-kept before ls l on place =
      let e : log_lines_of_sapi s before ++ log_lines_of_sapi s (l ∷ place.0) ≡ log_lines_of_sapi s ls =
      sym (filter_map-append _ before _) ∙ ap (log_lines_of_sapi s) place.1 in (log_lines_of_sapi s place.0, rw on at e)

  contains-back : (ls : List LogLine) (x : LogLine) → Contains (log_lines_of_sapi s ls) x → Contains ls x
  contains-back [] x h = h
  contains-back (l ∷ ls) x h =
      by (λ later. (let c = contains-back ls x later in (suc c.0, omega (arith, c.1), c.2))) (is_log_line_of_sapi s l) h
    where
      by : (Contains (log_lines_of_sapi s ls) x → Contains (l ∷ ls) x) → (b : Bool) →
          Contains (cons_option (chosen b l) (log_lines_of_sapi s ls)) x → Contains (l ∷ ls) x
      by later true (zero, low, e) = (zero, omega arith, e)
      by later true (suc i, low, e) = later (i, omega (arith, low), e)
      by later false h = later h

  contains-kept : (ls : List LogLine) (x : LogLine) → is_log_line_of_sapi s x ≡ true → Contains ls x →
      Contains (log_lines_of_sapi s ls) x
  contains-kept [] x on h = h
  contains-kept (l ∷ ls) x on (zero, low, e) = rw (e, on) (zero, omega arith, refl)
  contains-kept (l ∷ ls) x on (suc i, low, e) = either (is_log_line_of_sapi s l) (contains-kept ls x on (i, omega (arith, low), e))
    where
      either : (b : Bool) → Contains (log_lines_of_sapi s ls) x → Contains (cons_option (chosen b l) (log_lines_of_sapi s ls)) x
      either true h = (suc h.0, omega (arith, h.1), h.2)
      either false h = h

cause-back : (r : Role) (s : Sapi) (info : Message) (before : List LogLine) →
    HasEstablishmentTrigger r s info (log_lines_of_sapi s before) → HasEstablishmentTrigger r s info before
cause-back Mobile Zero info before h = (contains-back Zero _ _ h.0, contains-back Zero _ _ h.1)
cause-back Network Zero info before (inl h) = inl (contains-back Zero _ _ h)
cause-back Network Zero info before (inr h) = inr (contains-back Zero _ _ h)
cause-back r Three info before (inl h) = inl (contains-back Three _ _ h)
cause-back r Three info before (inr h) = inr (contains-back Three _ _ h.0, contains-back Three _ _ h.1)

open-kept : (r : Role) (s : Sapi) (before : List LogLine) → IsOpenEndpoint r s (log_lines_of_sapi s before) → IsOpenEndpoint r s before
open-kept r s before h = record {
  opened_once = rw (notices_in_log-kept s r _) at h.opened_once;
  not_closed = λ reason c. h.not_closed reason (contains-kept s _ _ (own_sapi s) c);
  release_not_requested = λ c. h.release_not_requested (contains-kept s _ _ (own_sapi s) c);
}

each_link : (P : List LogLine → Type 0) (ls : List LogLine) → P (log_lines_of_sapi Zero ls) → P (log_lines_of_sapi Three ls) →
    (s : Sapi) → P (log_lines_of_sapi s ls)
each_link P ls of_0 of_3 Zero = of_0
each_link P ls of_0 of_3 Three = of_3

module _ (ls : List LogLine) where
  notified-kept : (r : Role) (s : Sapi) (n : Notice) (before : List LogLine) → OccursAfter before (Notified r s n) ls →
      OccursAfter (log_lines_of_sapi s before) (Notified r s n) (log_lines_of_sapi s ls)
  notified-kept r s n before place = stands-kept s _ ls _ (own_sapi s) place

  pub delivery_by_link : Claims (log_lines_of_sapi Zero ls) → Claims (log_lines_of_sapi Three ls) → Claims ls
  delivery_by_link of_0 of_3 =
      let h = each_link Claims ls of_0 of_3 in
      record {
        in_order = λ r s. rw (notices_in_log-kept s (other r) ls, calls_in_log-kept s r ls) at ((h s).in_order r s);
        acked_in_order = λ r s n before place. rw (notices_in_log-kept s r _, notices_in_log-kept s _ _)
            at ((h s).acked_in_order r s n (log_lines_of_sapi s before) (notified-kept r s _ _ place));
        ui_in_order = λ r s. rw (notices_in_log-kept s _ ls, calls_in_log-kept s r ls) at ((h s).ui_in_order r s);
        establishment_trigger = λ r s info before place.
            cause-back r s _ before ((h s).establishment_trigger r s info (log_lines_of_sapi s before)
            (notified-kept r s (N.Opened info) before place));
        established_once = λ r s. rw (notices_in_log-kept s r ls) at ((h s).established_once r s);
        no_oversize = λ r s before place. (h s).no_oversize r s (log_lines_of_sapi s before) (notified-kept r s N.Oversize before place);
      }

  pub order_by_link : HasNoticesInOrder (log_lines_of_sapi Zero ls) → HasNoticesInOrder (log_lines_of_sapi Three ls)
      → HasNoticesInOrder ls
  order_by_link of_0 of_3 =
      let h = each_link HasNoticesInOrder ls of_0 of_3 in
      record {
        acked_in_order = λ r s n before place. rw (notices_in_log-kept s r before, calls_in_log-kept s r before)
            at ((h s).acked_in_order r s n (log_lines_of_sapi s before) (notified-kept r s _ _ place));
        established_once = λ r s. rw (notices_in_log-kept s r ls) at ((h s).established_once r s);
        closed_once = λ r s. rw (notices_in_log-kept s r ls) at ((h s).closed_once r s);
        only_while_open = λ r s n before of place.
            open-kept r s before ((h s).only_while_open r s n (log_lines_of_sapi s before) of (notified-kept r s n before place));
      }

  pub counts_by_link : AckedAtMostDelivered (log_lines_of_sapi Zero ls) → AckedAtMostDelivered (log_lines_of_sapi Three ls) →
      AckedAtMostDelivered ls
  counts_by_link of_0 of_3 r s =
      let h = each_link AckedAtMostDelivered ls of_0 of_3 in
      rw (notices_in_log-kept s r ls, notices_in_log-kept s (other r) ls) at (h s r s)
