-- Over changes of channel each message is taken once and in order: before each channel, the first message that is not acknowledged was not
-- taken yet, or it was the last that was taken.
use Rattle.std.specs.Prelude.{◌≡◌, ◌≤◌, ◌+◌, ℕ, zero, suc, Bool, true, false, not, List, [], ◌∷◌, ◌++◌, length}
use Rattle.std.specs.Prelude.{drop, All, Option, Some, None}
use Rattle.std.specs.Bool.{beq}
use Rattle.std.proofs.Common.{arith, refl, sym, ap, ◌∙◌, append_assoc}
use Rattle.std.proofs.lemmas.List.Elements.{All-head, All-tail}
use Rattle.lapdm_end.specs.lapdm_window.segmenting.Segments.{Message}
use Rattle.lapdm_link.specs.Claims.{IsPrefix}
use Rattle.lapdm_channels.specs.Changes.{Stay, Delivers, SendsFromUnacked, Alternates, is_duplicate, taken_after, delivered_on, acked_on}
use Rattle.lapdm_channels.specs.Changes.{TakesEachOnce}

-- of what was delivered, these messages were taken, and no more than `twice` came again
record Takes (taken delivered messages : List Message) (acked twice : ℕ) : Type 0 where
  in_order : IsPrefix taken messages
  least : acked ≤ length taken
  most : length taken ≤ acked + 1
  again : length delivered ≤ length taken + twice

one_more : (m : Message) {taken delivered messages : List Message} {acked twice : ℕ} → Takes taken delivered messages acked twice →
    Takes (m ∷ taken) (m ∷ delivered) (m ∷ messages) (suc acked) twice
one_more m h = record {
  in_order = (h.in_order.0, ap (λ ms. m ∷ ms) h.in_order.1);
  least = omega (arith, h.least);
  most = omega (arith, h.most);
  again = omega (arith, h.again);
}

wider : {taken delivered more messages : List Message} {acked twice : ℕ} → Takes taken delivered messages acked twice →
    length more ≤ length delivered + 1 → Takes taken more messages acked (suc twice)
wider h less = record { in_order = h.in_order; least = h.least; most = h.most; again = omega (arith, h.again, less) }

counted : {taken delivered messages : List Message} {acked same twice : ℕ} → Takes taken delivered messages acked twice →
    acked ≡ same → Takes taken delivered messages same twice
counted h e = record { in_order = h.in_order; least = omega (arith, h.least, e); most = omega (arith, h.most, e); again = h.again }

module _ (nsd : Message → Bool) where
  -- the first of these messages, if there is one, is no duplicate
  abbrev IsNew : Option Bool → List Message → Type 0
  IsNew last [] = Unit {0}
  IsNew last (m ∷ ms) = is_duplicate last (nsd m) ≡ false

  same-bit : (b : Bool) → beq b b ≡ true
  same-bit b = grind arith

  other-bit : (b c : Bool) → c ≡ not b → beq b c ≡ false
  other-bit b c h = grind (arith, h)

  next-new : (m : Message) (ms : List Message) → Alternates nsd (m ∷ ms) → IsNew (Some (nsd m)) ms
  next-new m [] h = tt
  next-new m (n ∷ ms) h = other-bit (nsd m) (nsd n) h.0

  rest : (m : Message) (ms : List Message) → Alternates nsd (m ∷ ms) → Alternates nsd ms
  rest m [] h = tt
  rest m (n ∷ ms) h = h.1

  rest-drop : (k : ℕ) (ms : List Message) → Alternates nsd ms → Alternates nsd (drop k ms)
  rest-drop zero ms h = h
  rest-drop (suc k) [] h = tt
  rest-drop (suc k) (m ∷ ms) h = rest-drop k ms (rest m ms h)

  -- a message that is no duplicate is taken, and a duplicate is not
  takes-new : (last : Option Bool) (m : Message) (ds : List Message) → is_duplicate last (nsd m) ≡ false →
      taken_after nsd last (m ∷ ds) ≡ m ∷ taken_after nsd (Some (nsd m)) ds
  takes-new last m ds h = rw h refl

  drops-again : (m : Message) (ds : List Message) → taken_after nsd (Some (nsd m)) (m ∷ ds) ≡ taken_after nsd (Some (nsd m)) ds
  drops-again m ds = rw (same-bit (nsd m)) refl

  -- on these channels, of these messages: the first was not taken before, or it was the last that was taken
  record Comes (ss : List Stay) (ms : List Message) : Type 0 where
    fresh : (last : Option Bool) → IsNew last ms →
        Takes (taken_after nsd last (delivered_on ss)) (delivered_on ss) ms (acked_on ss) (length ss)
    known : (m : Message) (later : List Message) → ms ≡ m ∷ later →
        Takes (m ∷ taken_after nsd (Some (nsd m)) (delivered_on ss)) (m ∷ delivered_on ss) ms (acked_on ss) (length ss)

  head-is : (m x : Message) (ds ms : List Message) → IsPrefix (m ∷ ds) (x ∷ ms) → m ≡ x
  head-is m x ds ms h = cc h.1

  tail-is : (m x : Message) (ds ms : List Message) → IsPrefix (m ∷ ds) (x ∷ ms) → IsPrefix ds ms
  tail-is m x ds ms h = (h.0, cc h.1)

  -- in this module, these channels follow
  module _ (ss : List Stay) where
    abbrev later : List Message
    later = delivered_on ss

    fresh_in : (ds : List Message) (a : ℕ) (ms : List Message) (last : Option Bool) → Alternates nsd ms → IsPrefix ds ms →
        a ≤ length ds → length ds ≤ a + 1 → IsNew last ms → Comes ss (drop a ms) →
        Takes (taken_after nsd last (ds ++ later)) (ds ++ later) ms (a + acked_on ss) (length ss)
    fresh_in [] zero ms last alt front least most new h = counted (h.fresh last new) (omega arith)
    fresh_in [] (suc a) ms last alt front least most new h = absurd (omega (arith, least))
    fresh_in (m ∷ ds) a [] last alt front least most new h = absurd (cc front.1)
    fresh_in (m ∷ []) zero (x ∷ ms) last alt front least most new h =
        rw (head-is m x [] ms front, takes-new last x later new) (counted (h.known x ms refl) (omega arith))
    fresh_in (m ∷ n ∷ ds) zero (x ∷ ms) last alt front least most new h = absurd (omega (arith, most))
    fresh_in (m ∷ ds) (suc a) (x ∷ ms) last alt front least most new h =
        rw (head-is m x ds ms front, takes-new last x (ds ++ later) new)
        (counted (one_more x (fresh_in ds a ms (Some (nsd x)) (rest x ms alt) (tail-is m x ds ms front) (omega (arith, least))
        (omega (arith, most)) (next-new x ms alt) h)) (omega arith))

    known_in : (ds : List Message) (a : ℕ) (x : Message) (ms : List Message) → Alternates nsd (x ∷ ms) → IsPrefix ds (x ∷ ms) →
        a ≤ length ds → length ds ≤ a + 1 → Comes ss (drop a (x ∷ ms)) →
        Takes (x ∷ taken_after nsd (Some (nsd x)) (ds ++ later)) (x ∷ (ds ++ later)) (x ∷ ms) (a + acked_on ss) (suc (length ss))
    known_in [] zero x ms alt front least most h = counted (wider (h.known x ms refl) (omega arith)) (omega arith)
    known_in [] (suc a) x ms alt front least most h = absurd (omega (arith, least))
    known_in (m ∷ []) zero x ms alt front least most h =
        rw (head-is m x [] ms front, drops-again x later) (counted (wider (h.known x ms refl) (omega arith)) (omega arith))
    known_in (m ∷ n ∷ ds) zero x ms alt front least most h = absurd (omega (arith, most))
    known_in (m ∷ ds) (suc a) x ms alt front least most h =
        rw (head-is m x ds ms front, drops-again x (ds ++ later))
        (counted (wider (one_more x (fresh_in ds a ms (Some (nsd x)) (rest x ms alt) (tail-is m x ds ms front)
        (omega (arith, least)) (omega (arith, most)) (next-new x ms alt) h)) (omega arith)) (omega arith))

  front-of : (xs ys zs : List Message) → IsPrefix xs ys → IsPrefix ys zs → IsPrefix xs zs
  front-of xs ys zs h g = (h.0 ++ g.0, sym (append_assoc xs h.0 g.0) ∙ ap (λ ws. ws ++ g.0) h.1 ∙ g.1)

  comes : (ss : List Stay) (ms : List Message) → Alternates nsd ms → SendsFromUnacked ms ss → All Delivers ss → Comes ss ms
  comes [] ms alt sends all = record {
    fresh = λ last new. record { in_order = (ms, refl); least = omega arith; most = omega arith; again = omega arith };
    known = λ m later is. record { in_order = (later, sym is); least = omega arith; most = omega arith; again = omega arith };
  }
  comes (s ∷ ss) ms alt sends all =
      let d = All-head Delivers s ss all in
      let front : IsPrefix s.delivered ms = front-of s.delivered s.sent ms d.in_order sends.0 in
      let h = comes ss (drop s.acked ms) (rest-drop s.acked ms alt) sends.1 (All-tail Delivers s ss all) in
      record {
        fresh = λ last new. wider (fresh_in ss s.delivered s.acked ms last alt front d.acked d.ahead new h) (omega arith);
        known = λ m later is. rw is (known_in ss s.delivered s.acked m later (rw is at alt) (rw is at front) d.acked d.ahead
            (rw is at h));
      }

  at_first : (ms : List Message) → IsNew None ms
  at_first [] = tt
  at_first (m ∷ ms) = refl

  pub takes_each_once : (ms : List Message) (ss : List Stay) → Alternates nsd ms → SendsFromUnacked ms ss → All Delivers ss →
      TakesEachOnce nsd ms ss
  takes_each_once ms [] alt sends all =
      record { in_order = (ms, refl); acked = omega arith; ahead = omega arith; twice = omega arith }
  takes_each_once ms (s ∷ ss) alt sends all =
      let d = All-head Delivers s ss all in
      let h = fresh_in ss s.delivered s.acked ms None alt (front-of s.delivered s.sent ms d.in_order sends.0) d.acked d.ahead
      (at_first ms) (comes ss (drop s.acked ms) (rest-drop s.acked ms alt) sends.1 (All-tail Delivers s ss all)) in
      record { in_order = h.in_order; acked = h.least; ahead = h.most; twice = h.again }
