-- The claims hold of what layer 3 sees of a session if they hold of its whole log, in which T200 expires and frames are repeated.
use Rattle.{
  lapdm_link.{
    proofs.Lemmas.{◌≡◌, refl, ap, ◌∙◌, arith, inl, inr, ◌&&◌, zero, suc, ◌++◌, Bool, true, false, List, [], ◌∷◌},
    proofs.Lemmas.{filter_map, if◌then◌else◌, Option, Some, None, Contains, cons_option, Role, Mobile, Network, Sapi, Zero, Three},
    proofs.Lemmas.{Message, Call, T200Expires, Repeats, LogLine, Asked, is_same_role, is_same_sapi, notices_in_log, calls_in_log},
    proofs.Lemmas.{message_sent_by_call, ui_message_of_call, OccursAfter, Claims, HasEstablishmentTrigger, AckedAtMostDelivered, other},
    proofs.Lemmas.{HasNoticesInOrder, IsOpenEndpoint},
    specs.Claims.{sent_messages, ui_messages_sent},
  },
}

-- whether layer 3 sees this line: it is a notice or one of its own calls
abbrev pub is_seen : LogLine → Bool
is_seen (Asked r s T200Expires) = false
is_seen (Asked r s Repeats) = false
is_seen line = true

abbrev pub seen_line : LogLine → Option LogLine
seen_line l = if is_seen l then Some l else None

abbrev pub seen : List LogLine → List LogLine
seen ls = filter_map seen_line ls

-- ---- the lists on which the claims depend are the same in the whole log

module _ (r : Role) (s : Sapi) where
  notices-seen : (ls : List LogLine) → notices_in_log r s (seen ls) ≡ notices_in_log r s ls
  notices-seen [] = refl
  notices-seen (l ∷ ls) = grind (arith, notices-seen ls)

  -- so is what layer 3 asked for in its own calls
  module _ {A : Type 0} (f : Call → Option A) (timer : f T200Expires ≡ None) (repeat : f Repeats ≡ None) where
    unseen : (b : Bool) (call : Call) (xs : List Call) → f call ≡ None →
        filter_map f xs ≡ filter_map f (cons_option (if b then Some call else None) xs)
    unseen true call xs none = rw none refl
    unseen false call xs none = refl

    both : (b : Bool) (call : Call) (xs ys : List Call) → filter_map f xs ≡ filter_map f ys →
        filter_map f (cons_option (if b then Some call else None) xs) ≡ filter_map f (cons_option (if b then Some call else None) ys)
    both true call xs ys h = ap (cons_option (f call)) h
    both false call xs ys h = h

    calls-seen : (ls : List LogLine) → filter_map f (calls_in_log r s (seen ls)) ≡ filter_map f (calls_in_log r s ls)
    calls-seen [] = refl
    calls-seen (Asked r' s' T200Expires ∷ ls) =
        calls-seen ls ∙ unseen (is_same_role r r' && is_same_sapi s s') T200Expires (calls_in_log r s ls) timer
    calls-seen (Asked r' s' Repeats ∷ ls) =
        calls-seen ls ∙ unseen (is_same_role r r' && is_same_sapi s s') Repeats (calls_in_log r s ls) repeat
    calls-seen (Asked r' s' call ∷ ls) = both (is_same_role r r' && is_same_sapi s s') call _ _ (calls-seen ls)
    calls-seen (l ∷ ls) = calls-seen ls

  sent-seen : (ls : List LogLine) → sent_messages r s (seen ls) ≡ sent_messages r s ls
  sent-seen ls = calls-seen message_sent_by_call refl refl ls

  ui_sent-seen : (ls : List LogLine) → ui_messages_sent r s (seen ls) ≡ ui_messages_sent r s ls
  ui_sent-seen ls = calls-seen ui_message_of_call refl refl ls

-- ---- a line that layer 3 sees stands in the whole log after lines of which layer 3 sees those before it

abbrev pub StandsBehind : (before : List LogLine) (l : LogLine) (ls : List LogLine) → Type 0
StandsBehind before l ls = (past : List LogLine) × (seen past ≡ before) × OccursAfter past l ls

pushed : (k : LogLine) (past : List LogLine) (l : LogLine) (ks : List LogLine) → OccursAfter past l ks →
    OccursAfter (k ∷ past) l (k ∷ ks)
pushed k past l ks h = (h.0, ap (λ xs. k ∷ xs) h.1)

stands-behind : (before : List LogLine) (l : LogLine) (more ls : List LogLine) → before ++ l ∷ more ≡ seen ls →
    StandsBehind before l ls
stands-behind [] l more [] h = absurd cc
stands-behind (b ∷ bs) l more [] h = absurd cc
stands-behind before l more (k ∷ ks) h = by_seen (λ xs g. stands-behind xs l more ks g) (is_seen k) refl before h
  where
    by_seen : ((xs : List LogLine) → xs ++ l ∷ more ≡ seen ks → StandsBehind xs l ks) → (b : Bool) → is_seen k ≡ b →
        (before : List LogLine) → before ++ l ∷ more ≡ seen (k ∷ ks) → StandsBehind before l (k ∷ ks)
    by_seen later false e before h =
        let t = later before (rw e at h) in (k ∷ t.0, rw e t.1, pushed k t.0 l ks t.2)
    by_seen later true e [] h = let g : l ∷ more ≡ k ∷ seen ks = rw e at h in ([], refl, (ks, cc))
    by_seen later true e (b ∷ bs) h =
        let g : b ∷ (bs ++ l ∷ more) ≡ k ∷ seen ks = rw e at h in
        let t = later bs cc in
        (k ∷ t.0, rw (e, t.1) cc, pushed k t.0 l ks t.2)

-- ---- the cause of an establishment is seen

contains-seen : (ls : List LogLine) (x : LogLine) → is_seen x ≡ true → Contains ls x → Contains (seen ls) x
contains-seen [] x on h = h
contains-seen (l ∷ ls) x on (zero, low, e) = rw (e, on) (zero, omega arith, refl)
contains-seen (l ∷ ls) x on (suc i, low, e) = either (is_seen l) (contains-seen ls x on (i, omega (arith, low), e))
  where
    either : (b : Bool) → Contains (seen ls) x → Contains (cons_option (if b then Some l else None) (seen ls)) x
    either true h = (suc h.0, omega (arith, h.1), h.2)
    either false h = h

cause-seen : (r : Role) (s : Sapi) (info : Message) (before : List LogLine) → HasEstablishmentTrigger r s info before →
    HasEstablishmentTrigger r s info (seen before)
cause-seen Mobile Zero info before h = (contains-seen _ _ refl h.0, contains-seen _ _ refl h.1)
cause-seen Network Zero info before (inl h) = inl (contains-seen _ _ refl h)
cause-seen Network Zero info before (inr h) = inr (contains-seen _ _ refl h)
cause-seen r Three info before (inl h) = inl (contains-seen _ _ refl h)
cause-seen r Three info before (inr h) = inr (contains-seen _ _ refl h.0, contains-seen _ _ refl h.1)

contains-back : (ls : List LogLine) (x : LogLine) → Contains (seen ls) x → Contains ls x
contains-back [] x h = h
contains-back (l ∷ ls) x h =
    by (λ later. (let c = contains-back ls x later in (suc c.0, omega (arith, c.1), c.2))) (is_seen l) h
  where
    by : (Contains (seen ls) x → Contains (l ∷ ls) x) → (b : Bool) →
        Contains (cons_option (if b then Some l else None) (seen ls)) x → Contains (l ∷ ls) x
    by later true (zero, low, e) = (zero, omega arith, e)
    by later true (suc i, low, e) = later (i, omega (arith, low), e)
    by later false h = later h

open-seen : (r : Role) (s : Sapi) (before : List LogLine) → IsOpenEndpoint r s before → IsOpenEndpoint r s (seen before)
open-seen r s before h = record {
  opened_once = rw (notices-seen r s before) h.opened_once;
  not_closed = λ reason c. h.not_closed reason (contains-back before _ c);
  release_not_requested = λ c. h.release_not_requested (contains-back before _ c);
}

-- ---- the claims

pub claims-seen : (ls : List LogLine) → Claims ls → Claims (seen ls)
claims-seen ls h = record {
  in_order = λ r s. rw (notices-seen (other r) s ls, sent-seen r s ls) (h.in_order r s);
  acked_in_order = λ r s n before place. (let t = stands-behind before _ place.0 ls place.1 in
      rw (← t.1, notices-seen r s t.0, notices-seen (other r) s t.0) (h.acked_in_order r s n t.0 t.2));
  ui_in_order = λ r s. rw (notices-seen (other r) s ls, ui_sent-seen r s ls) (h.ui_in_order r s);
  establishment_trigger = λ r s info before place. (let t = stands-behind before _ place.0 ls place.1 in
      rw (← t.1) (cause-seen r s info t.0 (h.establishment_trigger r s info t.0 t.2)));
  established_once = λ r s. rw (notices-seen r s ls) (h.established_once r s);
  no_oversize = λ r s before place. (let t = stands-behind before _ place.0 ls place.1 in h.no_oversize r s t.0 t.2);
}

pub counts-seen : (ls : List LogLine) → AckedAtMostDelivered ls → AckedAtMostDelivered (seen ls)
counts-seen ls h r s = rw (notices-seen r s ls, notices-seen (other r) s ls) (h r s)

pub order-seen : (ls : List LogLine) → HasNoticesInOrder ls → HasNoticesInOrder (seen ls)
order-seen ls h = record {
  acked_in_order = λ r s n before place. (let t = stands-behind before _ place.0 ls place.1 in
      rw (← t.1, notices-seen r s t.0, sent-seen r s t.0) (h.acked_in_order r s n t.0 t.2));
  established_once = λ r s. rw (notices-seen r s ls) (h.established_once r s);
  closed_once = λ r s. rw (notices-seen r s ls) (h.closed_once r s);
  only_while_open = λ r s n before of place. (let t = stands-behind before _ place.0 ls place.1 in
      rw (← t.1) (open-seen r s t.0 (h.only_while_open r s n t.0 of t.2)));
}
