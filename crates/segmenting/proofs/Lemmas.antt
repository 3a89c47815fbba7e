-- Segmentation and reassembly of messages.
use Rattle.{
  lapdm_frame.specs.{Layout.n201, declared.Channel.Channel},
  segmenting.specs.{
    Joiners.{HoldsReassemblyOf, IsPossiblePart},
    Joining.{message_delivered_by_segment, messages_ending_in_segments, completed_message_after, completed_message, message_count},
    Joining.{message_if_fits, message_if_whole, messages, partial_message_after, partial_message, reassembly_result},
    Segments.{AreFullExceptLast, AreSegments, IsFullSegment, IsValidMessage, Message, Segment, cut_segments, max_message_octets},
    Segments.{max_segments_per_message, reassembled_octets, segments},
    declared.joiner.{Joined.TheVariants.{More, Oversize, Whole}, Joiner.Joiner, ReassemblyState.ReassemblyState},
  },
  std.{
    proofs.{
      Common.{All, Bool, List, None, Some, [], ap, arith, cond, drop, false, inl, inr, length, map, min, nat_lt, not, refl, replicate},
      Common.{slice_get, subst, suc, sym, take, true, unwrap_or, zero, ℕ, ◌%◌, ◌*◌, ◌++◌, ◌+◌, ◌-◌, ◌/◌, ◌<◌},
      Common.{◌↔◌, ◌∙◌, ◌∷◌, ◌≡◌, ◌≤◌},
      Math.{Nat.{eq-or-lt_of_le, mul-le-mul_right, suc-mul}, Seq.{drop-append_seam, take-append-add, take-append_seam, take-length}},
      lemmas.{Bool.{Decides.nat_tests, cases_lt}, List.{Elements.{All-head, All-tail, filter_map-append}, Recursion.is_count_by}},
      lemmas.List.{Sums.sum_by-append, append-nil, append_assoc, drop-drop, length-append, length-drop, length-replicate, length-take-le},
      lemmas.{List.{length-take, take-append-drop, take-map, take-take}, Slice.take-put_mid},
    },
    specs.List.{filter_map, flat_map},
  },
}
use borrow.Rule.Slice.PartMut.{put_mid}
use Rattle.segmenting.specs.declared.joiner.ReassemblyState.TheVariants as P

-- ## Joins: Reassembling the segments of a list of messages gives these messages. Each further segment adds the message that it completes,
-- if any.

pub message_if_fits-some : (m : List ℕ) → length m ≤ max_message_octets → message_if_fits m ≡ Some m
message_if_fits-some m h = grind arith

message_if_fits-none : (m : List ℕ) → max_message_octets < length m → message_if_fits m ≡ None
message_if_fits-none m h = grind arith

messages_ending_in_segments-cut_segments : (n k : ℕ) (partial m : List ℕ) (ps : List Segment) →
    messages_ending_in_segments partial (cut_segments n k m ++ ps) ≡ message_if_fits (partial ++ m) ∷ messages_ending_in_segments [] ps
messages_ending_in_segments-cut_segments n zero partial m ps = refl
messages_ending_in_segments-cut_segments n (suc k) partial m ps =
    rw (messages_ending_in_segments-cut_segments n k (partial ++ take n m) (drop n m) ps, append_assoc, take-append-drop n m) refl

partial_message_after-append : (partial : List ℕ) (ps qs : List Segment) →
    partial_message_after partial (ps ++ qs) ≡ partial_message_after (partial_message_after partial ps) qs
partial_message_after-append partial [] qs = refl
partial_message_after-append partial ((o, true) ∷ ps) qs = partial_message_after-append _ ps qs
partial_message_after-append partial ((o, false) ∷ ps) qs = partial_message_after-append [] ps qs

pub messages_ending_in_segments-append : (partial : List ℕ) (ps qs : List Segment) →
    messages_ending_in_segments partial (ps ++ qs) ≡ messages_ending_in_segments partial ps
    ++ messages_ending_in_segments (partial_message_after partial ps) qs
messages_ending_in_segments-append partial [] qs = refl
messages_ending_in_segments-append partial ((o, true) ∷ ps) qs = messages_ending_in_segments-append _ ps qs
messages_ending_in_segments-append partial ((o, false) ∷ ps) qs = grind (arith, messages_ending_in_segments-append [] ps qs)

pub messages_ending_in_segments-more : (partial : List ℕ) (ps : List Segment) (octets : List ℕ) →
    messages_ending_in_segments partial (ps ++ (octets, true) ∷ []) ≡ messages_ending_in_segments partial ps
messages_ending_in_segments-more partial ps octets =
    messages_ending_in_segments-append partial ps ((octets, true) ∷ []) ∙ append-nil _

pub messages_ending_in_segments-last : (partial : List ℕ) (ps : List Segment) (octets : List ℕ) →
    messages_ending_in_segments partial (ps ++ (octets, false) ∷ []) ≡ messages_ending_in_segments partial ps ++ message_if_fits
    (partial_message_after partial ps ++ octets) ∷ []
messages_ending_in_segments-last partial ps octets = messages_ending_in_segments-append partial ps ((octets, false) ∷ [])

completed_message_after-more : (partial : List ℕ) (ps : List Segment) (octets : List ℕ) →
    completed_message_after partial (ps ++ (octets, true) ∷ []) ≡ []
completed_message_after-more partial [] octets = refl
completed_message_after-more partial ((o, true) ∷ ps) octets = completed_message_after-more _ ps _
completed_message_after-more partial ((o, false) ∷ []) octets = refl
completed_message_after-more partial ((o, false) ∷ p ∷ ps) octets = completed_message_after-more [] (p ∷ ps) _

pub completed_message_after-last : (partial : List ℕ) (ps : List Segment) (octets : List ℕ) →
    completed_message_after partial (ps ++ (octets, false) ∷ []) ≡
    unwrap_or (message_if_fits (partial_message_after partial ps ++ octets)) []
completed_message_after-last partial [] octets = refl
completed_message_after-last partial ((o, true) ∷ ps) octets = completed_message_after-last _ ps _
completed_message_after-last partial ((o, false) ∷ []) octets = refl
completed_message_after-last partial ((o, false) ∷ p ∷ ps) octets = completed_message_after-last [] (p ∷ ps) _

message_delivered_by_segment-more : (ps : List Segment) (octets : List ℕ) → message_delivered_by_segment ps (octets, true) ≡ []
message_delivered_by_segment-more ps octets = grind arith

message_delivered_by_segment-last : (ps : List Segment) (octets : List ℕ) →
    message_delivered_by_segment ps (octets, false) ≡ filter_map
    (λ ending. ending) (message_if_fits (partial_message ps ++ octets) ∷ [])
message_delivered_by_segment-last ps octets = grind arith

pub messages-push : (ps : List Segment) (p : Segment) → messages (ps ++ p ∷ []) ≡ messages ps ++ message_delivered_by_segment ps p
messages-push ps (octets, true) =
    rw (messages_ending_in_segments-more [] ps octets, message_delivered_by_segment-more ps octets, append-nil (messages ps))
messages-push ps (octets, false) =
    rw (messages_ending_in_segments-last [] ps octets, filter_map-append, message_delivered_by_segment-last ps octets)

pub delivered_is_completed : (ps : List Segment) (p : Segment) →
    message_delivered_by_segment ps p ≡ message_if_whole (reassembly_result ps p)
    (completed_message (ps ++ p ∷ []))
delivered_is_completed ps (octets, true) = grind arith
delivered_is_completed ps (octets, false) =
    grind (arith, completed_message_after-last [] ps octets, message_if_fits-some (partial_message ps ++ octets))

-- ## Cutting: `segments` is the only correct segmentation of a message, and each segment can be computed from its index. The proofs are by
-- induction on the number of full segments.

pub record Fills (n k : ℕ) (m : List ℕ) : Type 0 where
  pub above : k * n < length m
  pub below : length m ≤ k * n + n

Fills-valid : (n : ℕ) (m : Message) → 0 < n → IsValidMessage m → Fills n ((length m - 1) / n) m
Fills-valid n m some_room h = grind arith

Fills-rest : (n k : ℕ) (m : List ℕ) → Fills n (suc k) m → Fills n k (drop n m)
Fills-rest n k m h = grind (arith, length-drop n m)

AreFullExceptLast-cons : (n : ℕ) (p : Segment) (ps : List Segment) → IsFullSegment n p → AreFullExceptLast n ps →
    AreFullExceptLast n (p ∷ ps)
AreFullExceptLast-cons n p ps h g = grind arith

AreFullExceptLast-cut_segments : (n k : ℕ) (m : List ℕ) → Fills n k m → AreFullExceptLast n (cut_segments n k m)
AreFullExceptLast-cut_segments n zero m h = grind arith
AreFullExceptLast-cut_segments n (suc k) m h =
    AreFullExceptLast-cons n _ _ (record { size = length-take-le n m (omega (arith, suc-mul k n, h.above)); more = refl })
    (AreFullExceptLast-cut_segments n k _ (Fills-rest n k m h))

reassembled_octets-cut_segments : (n k : ℕ) (m : List ℕ) → reassembled_octets (cut_segments n k m) ≡ m
reassembled_octets-cut_segments n zero m = append-nil m
reassembled_octets-cut_segments n (suc k) m = rw (reassembled_octets-cut_segments n k (drop n m), take-append-drop n m)

pub are_segments : (n : ℕ) (m : Message) → 0 < n → IsValidMessage m → AreSegments n m (segments n m)
are_segments n m some_room h =
    record {
      octets = reassembled_octets-cut_segments n _ m;
      full_except_last = AreFullExceptLast-cut_segments n _ m (Fills-valid n m some_room h);
    }

record IsCounted (n : ℕ) (ps : List Segment) (k : ℕ) : Type 0 where
  is_cut : ps ≡ cut_segments n k (reassembled_octets ps)
  fill : Fills n k (reassembled_octets ps)

IsCounted-cons : (n k : ℕ) (octets : List ℕ) (ps : List Segment) → length octets ≡ n → IsCounted n ps k →
    IsCounted n ((octets, true) ∷ ps) (suc k)
IsCounted-cons n k octets ps size h =
    let rest = reassembled_octets ps in
    let first = ap (λ i. take i (octets ++ rest)) (sym size) ∙ take-append_seam _ _ in
    let others = ap (λ i. drop i (octets ++ rest)) (sym size) ∙ drop-append_seam octets _ in
    record {
      is_cut = cc;
      fill = record {
        above = omega (arith, suc-mul k n, length-append octets rest, h.fill.above);
        below = omega (arith, suc-mul k n, length-append octets rest, h.fill.below);
      };
    }

IsCounted-exists : (n : ℕ) (ps : List Segment) → AreFullExceptLast n ps → (k : ℕ) × IsCounted n ps k
IsCounted-exists n [] h = absurd h
IsCounted-exists n ((octets, more) ∷ []) h = grind (arith, append-nil octets)
IsCounted-exists n ((octets, more) ∷ q ∷ ps) h =
    let rest = IsCounted-exists n (q ∷ ps) h.1 in
    let b = h.0.more in (
      suc rest.0,
      subst (λ b. IsCounted n ((octets, b) ∷ q ∷ ps) (suc rest.0)) (sym b) (IsCounted-cons n _ _ _ h.0.size rest.1),
    )

Fills-count : (n k : ℕ) (m : List ℕ) → 0 < n → Fills n k m → (length m - 1) / n ≡ k
Fills-count n k m _ h = grind arith

AreSegments-unique : (n : ℕ) (m : Message) (ps : List Segment) → 0 < n → AreSegments n m ps → ps ≡ segments n m
AreSegments-unique n m ps some_room h =
    let c = IsCounted-exists n ps h.full_except_last in
    let k = Fills-count n _ _ some_room c.1.fill in
    c.1.is_cut ∙ ap (λ i. cut_segments n i (reassembled_octets ps)) (sym k) ∙ ap (segments n) (h.octets)

pub one_cutting : (n : ℕ) (m : Message) (ps : List Segment) → 0 < n → IsValidMessage m →
    AreSegments n m ps ↔ (ps ≡ segments n m)
one_cutting n m ps some_room h = grind (arith, AreSegments-unique n m ps some_room, are_segments n m some_room h)

length-cut_segments : (n k : ℕ) (m : List ℕ) → length (cut_segments n k m) ≡ k + 1
length-cut_segments n zero m = refl
length-cut_segments n (suc k) m = omega (arith, length-cut_segments n k (drop n m))

pub length-segments : (n : ℕ) (m : Message) → length (segments n m) ≡ (length m - 1) / n + 1
length-segments n m = length-cut_segments n _ m

drop-drop_next : (n i : ℕ) (m : List ℕ) → drop (i * n) (drop n m) ≡ drop (suc i * n) m
drop-drop_next n i m = drop-drop _ n m ∙ ap (λ j. drop j m) (omega arith)

slice_get-cut_full : (n k i : ℕ) (m : List ℕ) → i < k →
    slice_get (cut_segments n k m) i ≡ Some (take n (drop (i * n) m), true)
slice_get-cut_full n zero i m h = absurd (omega (arith, h))
slice_get-cut_full n (suc k) zero m h = grind arith
slice_get-cut_full n (suc k) (suc i) m h = slice_get-cut_full n k i _ (omega arith) ∙ ap
    (λ rest. Some (take n rest, true)) (drop-drop_next n i m)

slice_get-cut_last : (n k : ℕ) (m : List ℕ) → slice_get (cut_segments n k m) k ≡ Some (drop (k * n) m, false)
slice_get-cut_last n zero m = grind arith
slice_get-cut_last n (suc k) m = slice_get-cut_last n k _ ∙ ap (λ rest. Some (rest, false)) (drop-drop_next n k m)

pub record IsN201 (n : ℕ) : Type 0 where
  pub positive : 1 ≤ n
  pub at_most : n ≤ 20

pub IsN201-n201 : (channel : Channel) → IsN201 (n201 channel)
IsN201-n201 channel = grind arith

pub begins_within : (n i : ℕ) (m : Message) → 1 ≤ n → 1 ≤ length m → i < length (segments n m) → i * n < length m
begins_within n i m _ some_octets h = grind (arith, length-segments n m)

pub slice_get-segment : (n i : ℕ) (m : Message) → 0 < n → IsValidMessage m → i < length (segments n m) →
    slice_get (segments n m) i ≡ Some (take (min (length m - i * n) n) (drop (i * n) m), nat_lt n (length m - i * n))
slice_get-segment n i m room h within =
    let k = (length m - 1) / n in
    let f = Fills-valid n m room h in
    elim (eq-or-lt_of_le (omega (arith, length-segments n m))) [
      | inr below ↦
          let more : n < length m - i * n = omega (arith, f.above, mul-le-mul_right n below, suc-mul i n) in
          slice_get-cut_full n k i m below ∙ ap (λ p. Some p) (grind (arith, nat_tests))
      | inl same ↦
          let all = ap
          (λ j. take j (drop (i * n) m)) (sym (length-drop (i * n) m)) ∙ take-length _ in
          let last = subst (λ j. length m - j * n ≤ n) (sym same) (omega (arith, f.below)) in
          ap (λ j. slice_get (cut_segments n k m) j) same ∙ slice_get-cut_last n k m
          ∙ ap (λ j. Some (drop (j * n) m, false)) (sym same) ∙ ap
          (λ p. Some p) (grind (arith, nat_tests))
    ]

pub begins_at : (channel : Channel) (r i : ℕ) (m : Message) → r ≡ n201 channel → 1 ≤ length m →
    i < length (segments (n201 channel) m) → i * r < length m
begins_at channel r i m same some_octets h =
    rw same (begins_within _ i m (IsN201-n201 _).positive some_octets h)

pub slice_get-n201 : (channel : Channel) (r i l : ℕ) (m : Message) → r ≡ n201 channel → l ≡ min (length m - i * r) r →
    IsValidMessage m → i < length (segments (n201 channel) m) → slice_get (segments (n201 channel) m) i
    ≡ Some (take (i * r + l - i * r) (drop (i * r) m), nat_lt r (length m - i * r))
slice_get-n201 channel r i l m same size h within =
    let octets : i * r + l - i * r ≡ min (length m - i * r) r = omega arith in
    rw (octets, same) (slice_get-segment _ i m (IsN201-n201 _).positive h within)

pub few_segments : (channel : Channel) (r l : ℕ) → r ≡ n201 channel → l ≤ 251 →
    (l - 1) / r + 1 ≤ max_segments_per_message channel
few_segments _ r l same h = grind arith

-- ## Fronts: The first segments of a list of messages complete the first messages of that list.

pub messages_ending_in_segments-all : (n : ℕ) (ms : List Message) → All IsValidMessage ms →
    messages_ending_in_segments [] (flat_map (segments n) ms) ≡ map (λ m. Some m) ms
messages_ending_in_segments-all n [] h = refl
messages_ending_in_segments-all n (m ∷ ms) h =
    let first = All-head IsValidMessage m ms h in
    rw (
      messages_ending_in_segments-cut_segments n ((length m - 1) / n) [] m (flat_map (segments n) ms),
      message_if_fits-some m first.at_most,
      messages_ending_in_segments-all n ms (All-tail IsValidMessage m ms h),
    )

pub filter_map-some : (ms : List Message) → filter_map (λ ending. ending) (map (λ m. Some m) ms) ≡ ms
filter_map-some [] = refl
filter_map-some (m ∷ ms) = rw (filter_map-some ms)

pub messages-segments : (n : ℕ) (ms : List Message) → All IsValidMessage ms → messages (flat_map (segments n) ms) ≡ ms
messages-segments n ms h = rw (messages_ending_in_segments-all n ms h) (filter_map-some ms)

-- whether a segment is the last of its message, that is, has M = 0
abbrev is_last : Segment → Bool
is_last p = not p.1

-- the number of segments with M = 0, as a recursive form of `message_count`
abbrev end_count : List Segment → ℕ
end_count [] = 0
end_count (p ∷ ps) = cond (is_last p) (1 + end_count ps) (end_count ps)

count-is_end_count : (ps : List Segment) → message_count ps ≡ end_count ps
count-is_end_count ps = sym (is_count_by end_count _ refl (λ x xs. refl) ps)

end_count-messages_ending_in_segments : (partial : List ℕ) (ps : List Segment) →
    end_count ps ≡ length (messages_ending_in_segments partial ps)
end_count-messages_ending_in_segments partial [] = refl
end_count-messages_ending_in_segments partial ((o, true) ∷ ps) = end_count-messages_ending_in_segments _ ps
end_count-messages_ending_in_segments partial ((o, false) ∷ ps) = let e = end_count-messages_ending_in_segments [] ps in omega arith

pub message_count-messages_ending_in_segments : (ps : List Segment) → message_count ps ≡ length (messages_ending_in_segments [] ps)
message_count-messages_ending_in_segments ps = count-is_end_count ps ∙ end_count-messages_ending_in_segments [] ps

pub count-append : (ps qs : List Segment) → message_count (ps ++ qs) ≡ message_count ps + message_count qs
count-append ps qs = sum_by-append _ ps qs

pub count-take : (a r : ℕ) (ps : List Segment) → a ≤ r → message_count (take a ps) ≤ message_count (take r ps)
count-take a r ps h =
    grind (arith, count-append (take a (take r ps)) (drop a (take r ps)), take-append-drop a (take r ps), take-take a r ps h)

end_count-cut_segments : (n k : ℕ) (m : List ℕ) (ps : List Segment) → end_count (cut_segments n k m ++ ps) ≡ 1 + end_count ps
end_count-cut_segments n zero m ps = refl
end_count-cut_segments n (suc k) m ps = end_count-cut_segments n k _ ps

end_count-zero : (n k r : ℕ) (m : List ℕ) (ps : List Segment) → r ≤ k → end_count (take r (cut_segments n k m ++ ps)) ≡ 0
end_count-zero n k zero m ps h = refl
end_count-zero n zero (suc r) m ps h = absurd (omega arith)
end_count-zero n (suc k) (suc r) m ps h = end_count-zero n k r _ ps (omega (arith, h))

count-segments : (n : ℕ) (m : Message) (ps : List Segment) → message_count (segments n m ++ ps) ≡ 1 + message_count ps
count-segments n m ps =
    rw (count-is_end_count (segments n m ++ ps), count-is_end_count ps) (end_count-cut_segments n ((length m - 1) / n) m ps)

pub count-all : (n : ℕ) (ms : List Message) → message_count (flat_map (segments n) ms) ≡ length ms
count-all n [] = refl
count-all n (m ∷ ms) = omega (arith, count-segments n m (flat_map (segments n) ms), count-all n ms)

completed_by_length : (n r k : ℕ) (m : Message) (ms : List Message) →
    ((j : ℕ) → (k ≤ message_count (take j (flat_map (segments n) ms))) ↔ (length (flat_map (segments n) (take k ms)) ≤ j)) →
    (suc k ≤ message_count (take r (flat_map (segments n) (m ∷ ms)))) ↔
    (length (flat_map (segments n) (take (suc k) (m ∷ ms))) ≤ r)
completed_by_length n r k m ms h =
    let ps = segments n m in
    let rest = flat_map (segments n) ms in
    let size = length-segments n m in
    let all = length-append ps (flat_map (segments n) (take k ms)) in
    elim (cases_lt r (length ps)) [
      | inl few ↦
          let none = count-is_end_count (take r (ps ++ rest)) ∙ end_count-zero n _ r m _ (omega (arith, few, size)) in
          ((λ below. absurd (omega (arith, below, none))), (λ below. absurd (omega (arith, below, all, few))))
      | inr enough ↦
          let j = r - length ps in
          let at : length ps + j ≡ r = omega (arith, enough) in
          let front = ap (λ i. take i (ps ++ rest)) (sym at) ∙ take-append-add ps _ j in
          let more = ap message_count front
          ∙ count-segments n m _ in (
            (λ below. (omega (
              arith,
              (h j).0 (omega (arith, below, more)),
              all,
              at,
            ))),
            (λ below. (omega (arith, (h j).1 (omega (arith, below, all, at)), more))),
          )
    ]

pub count-whole : (n r k : ℕ) (ms : List Message) → k ≤ length ms →
    (k ≤ message_count (take r (flat_map (segments n) ms))) ↔ (length (flat_map (segments n) (take k ms)) ≤ r)
count-whole n r zero ms h = ((λ _. omega arith), (λ _. omega arith))
count-whole n r (suc k) [] h = absurd (omega (arith, h))
count-whole n r (suc k) (m ∷ ms) h = completed_by_length n r k m ms (λ j. count-whole n j k ms (omega (arith, h)))

prefix_is_take : {T : Type 0} (xs ys zs : List T) → xs ++ ys ≡ zs → xs ≡ take (length xs) zs
prefix_is_take xs ys zs h = sym (take-append_seam xs ys) ∙ ap (take _) h

pub messages_ending_in_segments-front : (n r : ℕ) (ms : List Message) → All IsValidMessage ms →
    messages_ending_in_segments [] (take r (flat_map (segments n) ms)) ≡ map (λ m. Some m)
    (take (message_count (take r (flat_map (segments n) ms))) ms)
messages_ending_in_segments-front n r ms h =
    let front = take r (flat_map (segments n) ms) in
    let whole = sym (messages_ending_in_segments-append [] front _) ∙ ap (messages_ending_in_segments []) (take-append-drop r _)
    ∙ messages_ending_in_segments-all n ms h in
    prefix_is_take _ _ _ whole
    ∙ ap (λ k. take k (map (λ m. Some m) ms)) (sym (message_count-messages_ending_in_segments front))
    ∙ take-map (λ m. Some m) _ ms

-- ## Taking: What a joiner holds after it takes one more segment, by cases on the M bit and on the length of the message.

too_long : (ps : List Segment) (octets : List ℕ) → None ≡ message_if_fits (partial_message ps) →
    max_message_octets < length (partial_message ps ++ octets)
too_long ps octets h = grind (arith, length-append (partial_message ps) octets)

pub goes_on : (ps : List Segment) (octets held : List ℕ) → held ≡ partial_message ps ++ octets →
    length held ≤ max_message_octets → HoldsReassemblyOf P.Open held (ps ++ (octets, true) ∷ [])
goes_on ps octets held e h =
    grind (
      arith,
      message_if_fits-some held h,
      partial_message_after-append [] ps ((octets, true) ∷ []),
      completed_message_after-more [] ps octets,
    )

pub completes : (ps : List Segment) (octets held : List ℕ) → held ≡ partial_message ps ++ octets → 1 ≤ length held →
    length held ≤ max_message_octets → HoldsReassemblyOf P.Whole held (ps ++ (octets, false) ∷ [])
completes ps octets held e some h =
    grind (
      arith,
      message_if_fits-some held h,
      partial_message_after-append [] ps ((octets, false) ∷ []),
      completed_message_after-last [] ps octets,
    )

pub taken_oversize : (ps : List Segment) (octets : List ℕ) → max_message_octets < length (partial_message ps ++ octets) →
    HoldsReassemblyOf P.Discarding [] (ps ++ (octets, true) ∷ [])
taken_oversize ps octets h =
    grind (
      arith,
      message_if_fits-none (partial_message ps ++ octets) h,
      partial_message_after-append [] ps ((octets, true) ∷ []),
      completed_message_after-more [] ps octets,
    )

pub drops : (ps : List Segment) (octets : List ℕ) → max_message_octets < length (partial_message ps ++ octets) →
    HoldsReassemblyOf P.Open [] (ps ++ (octets, false) ∷ [])
drops ps octets h =
    grind (
      arith,
      message_if_fits-none (partial_message ps ++ octets) h,
      partial_message_after-append [] ps ((octets, false) ∷ []),
      completed_message_after-last [] ps octets,
    )

pub record IsWritten (ps : List Segment) (octets held : List ℕ) : Type 0 where
  pub held_is : held ≡ partial_message ps ++ octets
  pub fits : length held ≤ max_message_octets

pub written : (start : ℕ) (octets : List ℕ) (ps : List Segment) (buffer part : List ℕ) → length buffer ≡ 251 →
    start + length octets ≤ 251 → part ≡ octets → take start buffer ≡ partial_message ps → IsWritten ps octets
    (take (start + length octets) (put_mid start (start + length octets - start) buffer part))
written start octets ps buffer part size room same partial =
    let l = ap length same in
    let e = take-put_mid start (start + length octets - start) buffer part (start + length octets) (omega arith) (omega arith) in
    record {
      held_is = cc;
      fits = omega (arith, ap length e, length-append (take start buffer) part, length-take-le start buffer (omega arith));
    }

pub HoldsReassemblyOf-same : (part part' : ReassemblyState) (held : List ℕ) (ps : List Segment) (octets : List ℕ) (more more' : Bool)
    →
    part ≡ part' → more ≡ more' → HoldsReassemblyOf part held (ps ++ (octets, more) ∷ []) →
    HoldsReassemblyOf part' held (ps ++ (octets, more') ∷ [])
HoldsReassemblyOf-same _ _ _ ps _ _ _ e f h = grind arith

-- ## Histories: For every state of a joiner, some list of segments leads to it, and the length of this list modulo 8 can be chosen. The
-- list consists of empty segments with M = 0 and one last segment that brings the joiner into the state.

pub record HasHistory (part : ReassemblyState) (held : List ℕ) (number : ℕ) : Type 0 where
  pub taken : List Segment
  pub count : length taken % 8 ≡ number
  pub reassembly : HoldsReassemblyOf part held taken

abbrev empty_last_segments : ℕ → List Segment
empty_last_segments zero = []
empty_last_segments (suc k) = ([], false) ∷ empty_last_segments k

length-empty_last_segments : (k : ℕ) → length (empty_last_segments k) ≡ k
length-empty_last_segments zero = refl
length-empty_last_segments (suc k) = omega (arith, length-empty_last_segments k)

partial_message-empty : (k : ℕ) → partial_message (empty_last_segments k) ≡ []
partial_message-empty zero = refl
partial_message-empty (suc k) = partial_message-empty k

begins : (k : ℕ) (octets : List ℕ) → octets ≡ partial_message (empty_last_segments k) ++ octets
begins k octets = ap (λ front. front ++ octets) (sym (partial_message-empty k))

mod8-next : (r : ℕ) → r ≤ 7 → ((r + 7) % 8 + 1) % 8 ≡ r
mod8-next r few = grind arith

count_of_empty : (r : ℕ) (segment : Segment) → r ≤ 7 → length (empty_last_segments ((r + 7) % 8) ++ segment ∷ []) % 8 ≡ r
count_of_empty r segment few =
    ap (λ n. n % 8) (length-append _ _ ∙ ap (λ n. n + 1) (length-empty_last_segments ((r + 7) % 8)))
    ∙ mod8-next r few

-- a joiner that holds `held` after empty messages and one more segment has a history
brings : (part : ReassemblyState) (held : List ℕ) (r : ℕ) (last : Segment) → r ≤ 7 →
    HoldsReassemblyOf part held (empty_last_segments ((r + 7) % 8) ++ last ∷ []) → HasHistory part held r
brings part held r last few holds =
    record { taken = empty_last_segments ((r + 7) % 8) ++ last ∷ []; count = count_of_empty r last few; reassembly = holds }

history_of : (part : ReassemblyState) (held : List ℕ) (r : ℕ) → r ≤ 7 → length held ≤ max_message_octets →
    IsPossiblePart part held → HasHistory part held r
history_of P.Open held r few fits possible = brings P.Open held r (held, true) few (goes_on _ _ _ (begins ((r + 7) % 8) _) fits)
history_of P.Whole held r few fits possible =
    brings P.Whole held r (held, false) few (completes _ held held (begins ((r + 7) % 8) held) possible fits)
history_of P.Discarding held r few fits possible =
    let long = replicate 252 0 in
    let over = taken_oversize _ long (omega (arith, ap length (begins ((r + 7) % 8) long), length-replicate {A = ℕ} 252 0)) in
    brings P.Discarding held r (long, true) few
    (subst (λ octets. HoldsReassemblyOf P.Discarding octets (empty_last_segments ((r + 7) % 8) ++ (long, true) ∷ []))
    (sym possible) over)

possible_part : (part : ReassemblyState) (count : ℕ) (octets : List ℕ) → (part ≡ P.Discarding → count ≡ 0) →
    (part ≡ P.Whole → 1 ≤ length (take count octets)) → IsPossiblePart part (take count octets)
possible_part part count octets empty_if_discarding some_if_whole = grind arith

pub HasHistory-buffer : (part : ReassemblyState) (count : ℕ) (octets : List ℕ) (r : ℕ) → count ≤ max_message_octets →
    (part ≡ P.Discarding → count ≡ 0) → (part ≡ P.Whole → 1 ≤ length (take count octets)) → r ≤ 7 →
    HasHistory part (take count octets) r
HasHistory-buffer part count octets r fits empty_if_discarding some_if_whole few =
    history_of _ _ r few (omega (arith, length-take count octets)) (possible_part part count octets empty_if_discarding some_if_whole)

pub HasHistory-joiner : (j : Joiner) (r : ℕ) → r ≤ 7 → HasHistory j.part (take j.len j.octets) r
HasHistory-joiner j r few = HasHistory-buffer _ _ _ r j.in_range j.empty_if_discarding j.some_if_whole few

-- ## OneState: The segments taken determine which octets a joiner holds, and which part of a message they are.

pub one_part : (part part' : ReassemblyState) (held held' : List ℕ) (taken : List Segment) → HoldsReassemblyOf part held taken →
    HoldsReassemblyOf part' held' taken → (part ≡ part') × (held ≡ held')
one_part part part' held held' taken h g = grind arith

-- ## Worked: Worked examples of segmentation and reassembly.

two_full_segments : segments 20 (replicate 40 7) ≡ (replicate 20 7, true) ∷ (replicate 20 7, false) ∷ []
two_full_segments = refl

thirteen_on_sdcch : segments 20 (replicate 251 7) ≡ replicate 12 (replicate 20 7, true) ++ (replicate 11 7, false) ∷ []
thirteen_on_sdcch = refl

fourteen_on_sacch : segments 18 (replicate 251 7) ≡ replicate 13 (replicate 18 7, true) ++ (replicate 17 7, false) ∷ []
fourteen_on_sacch = refl

longest_message : messages (replicate 12 (replicate 20 7, true) ++ (replicate 11 8, false) ∷ []) ≡ (replicate 240 7 ++ replicate 11 8)
    ∷ []
longest_message = refl

one_octet_too_many : messages (replicate 12 (replicate 20 7, true) ++ (replicate 12 8, false) ∷ (9 ∷ [], false) ∷ []) ≡ (9 ∷ [])
    ∷ []
one_octet_too_many = refl

twelve_fit : reassembly_result (replicate 11 (replicate 20 7, true)) (replicate 20 7, true) ≡ More
twelve_fit = refl

thirteen_oversize : reassembly_result (replicate 12 (replicate 20 7, true)) (replicate 20 7, true) ≡ Oversize
thirteen_oversize = refl

oversize_until_last : reassembly_result (replicate 13 (replicate 20 7, true)) (9 ∷ [], false) ≡ Oversize
oversize_until_last = refl

whole_after_drop : reassembly_result (replicate 13 (replicate 20 7, true) ++ (9 ∷ [], false) ∷ []) (9 ∷ [], false) ≡ Whole
whole_after_drop = refl

completed_after_oversize : completed_message (replicate 13 (replicate 20 7, true) ++ (9 ∷ [], false) ∷ (
  9 ∷ [],
  false,
) ∷ []) ≡ 9 ∷ []
completed_after_oversize = refl
