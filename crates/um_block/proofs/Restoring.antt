-- What was sent is accepted, also if a few bits are wrong.
use Rattle.{
  bit_blocks.{
    proofs.Lemmas.{at_passes_below, octets_of-bits_of, passes_below, AllBits-table},
    specs.{Octets.octets_of, SoftValues.{count_wrong_bits, is_wrong_bit}, Bits.{AllBits, IsBit}},
  },
  conv_code.{
    specs.{Likelihood.{IsMostLikely, bit_metric, likelihood as code_likelihood}, Code.encoding},
    proofs.Lemmas.{AllBits-coded, length-coded},
  },
  interleave.{proofs.Bursts.{IsInterleaved-map, same_coded}, specs.Bursts.IsInterleaved},
  std.{specs.{Prelude.{unsigned_abs, MatchOption, slice_range}, List.All}, proofs.Common.{Bool, Option, Some, ap₂, eqb, false, inl, inr}},
  std.proofs.Common.{int_lt, map, pos, true, ℤ, ◌-◌, ◌||◌, List, [], append_assoc, ap, arith, drop, get_or, length-append},
  std.proofs.Common.{length, lit<, refl, sym, take, ℕ, ◌*◌, ◌++◌, ◌+◌, ◌<◌, ◌∙◌, ◌∷◌, ◌≡◌, ◌≤◌},
  std.proofs.lemmas.{Bool.{eqb-true, Decides.nat_tests, or_cases}, Int.ints, List.{drop-map, get_or-map, length-take, map-append}},
  std.proofs.lemmas.List.{take-append-drop, take-map, Elements.{All-head, All-tail, All-map}, drop_at, length-drop, length-map, take_at},
  training_seq.{
    proofs.Lemmas.{one_first_greatest, AllBits-midamble, length-midamble},
    specs.{Choice.{IsFirstMaximum, total_correlation}, Sequences.midamble},
  },
  trellis_decode.proofs.Lemmas.less_by_test,
  um_block.{
    specs.Received.{IsReceivedAccess, IsReceivedBlock, IsReceivedSync, access_soft_bits, coded_soft_bits, midamble_of_burst, soft_bit_of},
    specs.{Received.{soft_bits, sync_soft_bits}, Restored.{IsErrorFreeAccess, IsErrorFreeBlock, IsErrorFreeSync}},
    specs.{declared.received.{Received.Received, ReceivedAccess.ReceivedAccess, ReceivedSync.ReceivedSync}, Sent.IsCodedAccess},
    specs.Sent.{IsCodedBlock, IsCodedSync, IsSentAccess, IsSentBlock, IsSentSync},
    proofs.SentBursts.{Carried, rach_carried, sch_carried, block_carried, coded_access_bits, coded_sync_bits},
  },
  weight_bound.{proofs.Lemmas.{IsCorrectable-equal, restored}, specs.Restoring.IsCorrectable},
  burst_map.specs.Tails.tail_bits,
}
use Rattle.burst_map.specs.AccessBurst as A
use Rattle.burst_map.specs.SyncBurst as S
use Rattle.burst_map.specs.NormalBurst as N

-- ## CleanBursts: If a burst is received as it was sent, each part of its soft bits consists of the soft bits of the same part of the
-- burst.

-- ---- lemmas about slices of a burst

softened-range : (bits : List ℕ) (i j : ℕ) → slice_range (soft_bits bits) i j ≡ soft_bits (slice_range bits i j)
softened-range bits i j = simp (drop-map, take-map)

part_at : (burst front part back : List ℕ) (i j : ℕ) → burst ≡ front ++ (part ++ back) → length front ≡ i →
    length part ≡ j - i → slice_range burst i j ≡ part
part_at burst front part back i j whole hf hp = rw (whole, drop_at front (part ++ back) i hf, take_at part back (j - i) hp)

softened_part : (burst front part back : List ℕ) (i j : ℕ) → burst ≡ front ++ (part ++ back) → length front ≡ i →
    length part ≡ j - i → slice_range (soft_bits burst) i j ≡ soft_bits part
softened_part burst front part back i j whole hf hp = softened-range _ i j ∙ ap soft_bits (part_at _ front part back i j whole hf hp)

-- ---- lemmas about the parts of the normal burst

abbrev flag : List ℕ
flag = 1 ∷ []

-- the 114 coded bits of a normal burst
abbrev pub halves : {X : Type 0} → List X → List X
halves burst = slice_range burst 3 60 ++ slice_range burst 88 145

-- the normal burst with a given training sequence code and 114 given coded bits
abbrev pub burst_of_part : ℕ → List ℕ → List ℕ
burst_of_part tsc part = N.normal_burst (take 57 part) (drop 57 part) tsc

module _ (part : List ℕ) (tsc : ℕ) (known : tsc ≤ 7) (count : length part ≡ 114) where
  front_half : length (take 57 part) ≡ 57
  front_half = omega (arith, length-take 57 part)

  part_halves : halves (burst_of_part tsc part) ≡ part
  part_halves =
      ap₂ (λ x y. x ++ y)
      (part_at (burst_of_part tsc part) tail_bits (take 57 part) (flag ++ midamble tsc ++ flag ++ drop 57 part ++ tail_bits) 3 60
      (simp append_assoc) refl front_half)
      (part_at (burst_of_part tsc part) (tail_bits ++ take 57 part ++ flag ++ midamble tsc ++ flag) (drop 57 part) tail_bits 88 145
      (simp append_assoc) (simp length-append (omega (arith, length-midamble tsc known, front_half))) (omega (arith, length-drop 57 part)))
      ∙ take-append-drop 57 _

  clean_training : N.training (soft_bits (burst_of_part tsc part)) ≡ soft_bits (midamble tsc)
  clean_training =
      softened_part (burst_of_part tsc part) (tail_bits ++ take 57 part ++ flag) (midamble tsc) (flag ++ drop 57 part ++ tail_bits) 61 87
      (simp append_assoc (ap (λ xs. tail_bits ++ xs) (sym (append_assoc (take 57 part) flag _))))
      (simp length-append (omega (arith, front_half))) (length-midamble tsc known)

abbrev IsPart : List ℕ → Type 0
IsPart part = length part ≡ 114

pub parts_of_bursts : (parts : List (List ℕ)) (tsc : ℕ) → tsc ≤ 7 → All IsPart parts →
    map halves (map (burst_of_part tsc) parts) ≡ parts
parts_of_bursts [] tsc known each = refl
parts_of_bursts (part ∷ parts) tsc known each =
    ap₂ (λ x y. x ∷ y) (part_halves part tsc known (All-head IsPart part parts each))
    (parts_of_bursts parts tsc known (All-tail IsPart part parts each))

softened_halves : (bursts : List (List ℕ)) → map coded_soft_bits (map soft_bits bursts) ≡ map soft_bits (map halves bursts)
softened_halves [] = refl
softened_halves (burst ∷ bursts) = ap₂ (λ x y. x ∷ y) (simp (drop-map, take-map, map-append)) (softened_halves bursts)

clean_training_of : (parts : List (List ℕ)) (tsc b : ℕ) → tsc ≤ 7 → All IsPart parts → b < length parts →
    N.training (get_or (map soft_bits (map (burst_of_part tsc) parts)) b []) ≡ soft_bits (midamble tsc)
clean_training_of parts tsc b known each h =
    rw (
      get_or-map soft_bits (map (burst_of_part tsc) parts) b [] [] (omega (arith, length-map parts (burst_of_part tsc))),
      get_or-map (burst_of_part tsc) parts b [] [] h,
    ) (clean_training (get_or parts b []) tsc known (each b [] h))

-- ---- lemmas about the training sequence that the receiver detects

pub right : (x : ℕ) → x ≤ 1 → is_wrong_bit (soft_bit_of x) x ≡ false
right x h = grind (arith, ints, nat_tests)

count_wrong_bits-own : (bits : List ℕ) → AllBits bits → count_wrong_bits (soft_bits bits) bits ≡ 0
count_wrong_bits-own [] all = refl
count_wrong_bits-own (x ∷ bits) all =
    rw (right x (All-head IsBit x bits all)) (omega (arith, count_wrong_bits-own bits (All-tail IsBit x bits all)))

-- the total correlation of four midambles received as sent with any training sequence
total : ℕ → ℕ → ℤ
total sent tsc =
    let soft = soft_bits (midamble sent) in
    total_correlation soft soft soft soft tsc

abbrev correlates_less : ℕ → ℕ → Bool
correlates_less sent tsc = eqb tsc sent || int_lt (total sent tsc) (total sent sent)

sequences_differ : passes_below (λ sent. passes_below (correlates_less sent) 8) 8 ≡ true
unfolding total passes_below
sequences_differ = refl

best_own : (sent : ℕ) → sent ≤ 7 → let soft = soft_bits (midamble sent) in
    IsFirstMaximum (total_correlation soft soft soft soft) 7 sent
unfolding total
best_own sent known = record {
  in_range = known;
  others = λ tsc h ne.
      let row = at_passes_below _ 8 sequences_differ _ (omega arith) in
      elim (or_cases _ _ (at_passes_below _ 8 row tsc (omega arith))) [
        | inl same ↦ absurd (ne (eqb-true tsc sent same))
        | inr less ↦ inl (less_by_test (total sent tsc) (total sent sent) (total sent tsc) (total sent sent) refl refl less)
      ];
}

-- ## CleanCodewords: Soft bits that are correctable (`IsCorrectable`) decode to the encoder input that was sent, by the lemma `restored` of
-- `weight_bound`. Coded bits received as sent are correctable: no soft bit is wrong, and all have the same strength.

restored_list : {IsWord : List ℕ → Type 0} {n k : ℕ} {u d : List ℕ} (soft : List ℤ) (v c : List ℕ) →
    Carried IsWord n k u d → length soft ≡ 2 * (n + 4) → c ≡ encoding u → IsCorrectable soft c → IsMostLikely soft v → v ≡ u
restored_list soft v c carried pairs code damage best =
    restored soft _ v carried.information (omega (arith, carried.count)) (rw (← code) damage) best

likelihood-own : (c : List ℕ) → AllBits c → code_likelihood (soft_bits c) c ≡ pos (127 * length c)
likelihood-own [] bits = refl
likelihood-own (x ∷ c) bits =
    let own : bit_metric (soft_bit_of x) x ≡ pos 127 =
    let small = All-head IsBit x c bits in grind (arith, ints, nat_tests) in
    omega (arith, ints, own, likelihood-own c (All-tail IsBit x c bits))

strength-own : (bits : List ℕ) → All (λ value. unsigned_abs value ≡ 127) (soft_bits bits)
strength-own bits = All-map (λ value. unsigned_abs value ≡ 127) soft_bit_of bits (λ i d h. grind (arith, ints, nat_tests))

-- if the soft bits are those of the sent encoder input w of n + 4 bits, the most likely encoder input v is w, and its path metric is 127
-- for each coded bit
heard : {IsWord : List ℕ → Type 0} {n k : ℕ} {w d : List ℕ} (soft : List ℤ) (v : List ℕ) → Carried IsWord n k w d →
    soft ≡ soft_bits (encoding w) → IsMostLikely soft v → (v ≡ w)
    × (code_likelihood soft (encoding v) ≡ pos (127 * (2 * (n + 4))))
heard {w = w} soft v c sure best =
    let coded = encoding w in
    let bits = AllBits-coded w in
    let pairs : length (soft_bits coded) ≡ 2 * length w = length-map coded soft_bit_of ∙ length-coded w in
    let damage =
    IsCorrectable-equal (soft_bits coded) coded 127 (omega (arith, c.count)) (omega arith) (strength-own coded)
    (omega (arith, count_wrong_bits-own coded bits)) in
    let same : v ≡ w = restored (soft_bits coded) w v c.information pairs damage (rw (← sure) best) in
    (same, rw (sure, same, likelihood-own coded bits, length-coded w, c.count))

-- ## CleanRestoring: A block or burst received as it was sent is accepted, with the greatest possible metric and no wrong training bit.

-- the information bits of a word whose CRC holds are accepted
accepted_of : {X : Type 0} {IsWord : List ℕ → Type 0} {n k : ℕ} {u v d : List ℕ} {x : X} (answer : List ℕ → X)
    (a : Option X) → Carried IsWord n k u d → v ≡ u → answer d ≡ x →
    MatchOption a (¬ IsWord (take n v)) (λ y. IsWord (take n v) × (y ≡ answer (take k v))) → a ≡ Some x
accepted_of answer x c same is h = grind (arith, c.word, c.front)

-- the deinterleaved soft bits of a block received as sent are those of its coded bits
pub clean_gathered : (octets : List ℕ) (tsc : ℕ) (sent : List (List ℕ)) (s : IsSentBlock octets tsc sent) →
    IsInterleaved (soft_bits s.coded_bits) (map coded_soft_bits (map soft_bits sent))
clean_gathered octets tsc sent s =
    let bursts =
    softened_halves _ ∙ ap (λ x. map soft_bits (map halves x)) s.layout
    ∙ ap (map soft_bits) (parts_of_bursts s.interleaved_bits tsc s.valid_tsc s.interleaved.burst_lengths) in
    rw bursts (IsInterleaved-map soft_bit_of 0 s.coded_bits s.interleaved_bits s.interleaved)

pub clean_block : (octets : List ℕ) (tsc : ℕ) (sent : List (List ℕ)) (r : Received) → IsSentBlock octets tsc sent →
    IsReceivedBlock (map soft_bits sent) r → IsErrorFreeBlock octets tsc r
clean_block octets tsc sent r s h =
    let carried = block_carried _ s.coded_bits s.code in
    let soft = same_coded _ _ (map _ _) h.deinterleaved (clean_gathered octets tsc sent s) ∙ ap soft_bits s.code.code in
    let best = heard h.soft r.u carried soft h.best in
    let own = soft_bits (midamble tsc) in
    let training : (b : ℕ) → b < 4 → midamble_of_burst (map soft_bits sent) b ≡ own = λ b lt.
    ap (λ x. midamble_of_burst (map soft_bits x) b) s.layout
    ∙ clean_training_of s.interleaved_bits tsc b s.valid_tsc s.interleaved.burst_lengths (rw s.interleaved.burst_count lt) in
    let sequence : r.tsc ≡ tsc = one_first_greatest _ _ _ _
    (rw (training 0 (lit< tt), training 1 (lit< tt), training 2 (lit< tt), training 3 (lit< tt)) at h.tsc) (best_own tsc s.valid_tsc) in
    let none = count_wrong_bits-own (midamble tsc) (AllBits-midamble tsc s.valid_tsc) in
    record {
      information = rw best.0 s.code.information;
      accepted = accepted_of octets_of _ carried best.0 (octets_of-bits_of octets s.code.all_octets) h.accepted;
      tsc = sequence;
      wrong_training = h.wrong_training
          ∙ rw (training 0 (lit< tt), training 1 (lit< tt), training 2 (lit< tt), training 3 (lit< tt), sequence, none);
      metric = h.metric ∙ best.1;
    }

pub clean_access : (info bsic sent : List ℕ) (r : ReceivedAccess) → IsSentAccess info bsic sent →
    IsReceivedAccess (soft_bits sent) bsic r → IsErrorFreeAccess info bsic r
clean_access info bsic sent r s h =
    let c = s.coded_bits in
    let g = rw s.burst at h in
    let carried = rach_carried bsic s.code.u info s.code.count s.code.information in
    let count = (coded_access_bits info bsic c s.code).right_length in
    let soft = softened_part (A.access_burst c) (A.extended_tail_bits ++ A.access_sequence) c tail_bits 49 85 (simp append_assoc) refl count
    ∙ ap soft_bits s.code.code in
    let training = ap (λ x. A.training (soft_bits x)) s.burst
    ∙ softened_part (A.access_burst c) A.extended_tail_bits A.access_sequence (c ++ tail_bits) 8 49 (simp append_assoc) refl refl in
    let best = heard (access_soft_bits (soft_bits (A.access_burst c))) r.u carried soft g.best in
    record {
      information = rw best.0 s.code.information;
      accepted = accepted_of (λ d. d) _ carried best.0 refl g.accepted;
      wrong_training = h.wrong_training ∙ rw training (count_wrong_bits-own A.access_sequence (AllBits-table A.access_sequence refl));
      metric = g.metric ∙ best.1;
    }

pub clean_sync : (info sent : List ℕ) (r : ReceivedSync) → IsSentSync info sent → IsReceivedSync (soft_bits sent) r →
    IsErrorFreeSync info r
clean_sync info sent r s h =
    let c = s.coded_bits in
    let g = rw s.burst at h in
    let carried = sch_carried s.code.u info s.code.count s.code.information in
    let count = (coded_sync_bits info c s.code).right_length in
    let a = take 39 c in
    let b = drop 39 c in
    let burst = S.sync_burst a b in
    let first : length a ≡ 39 = omega (arith, length-take 39 c) in
    let soft = ap₂ (λ x y. x ++ y)
    (softened_part burst tail_bits a (S.sync_sequence ++ b ++ tail_bits) 3 42 (simp append_assoc) refl first)
    (softened_part burst (tail_bits ++ a ++ S.sync_sequence) b tail_bits 106 145 (simp append_assoc) (simp length-append (omega arith))
    (omega (arith, length-drop 39 c))) ∙ sym (map-append soft_bit_of a b) ∙ ap soft_bits (take-append-drop 39 c ∙ s.code.code) in
    let training = softened_part burst (tail_bits ++ a) S.sync_sequence (b ++ tail_bits) 42 106 (simp append_assoc) (omega arith) refl in
    let best = heard (sync_soft_bits (soft_bits burst)) r.u carried soft g.best in
    record {
      information = rw best.0 s.code.information;
      accepted = accepted_of (λ d. d) _ carried best.0 refl g.accepted;
      wrong_training = g.wrong_training ∙ rw training (count_wrong_bits-own S.sync_sequence (AllBits-table S.sync_sequence refl));
      metric = g.metric ∙ best.1;
    }

-- ## Restoring: If the soft bits are correctable (`IsCorrectable`), the sent information bits are accepted.

pub restored_block : (bursts : List (List ℤ)) (octets c : List ℕ) (soft : List ℤ) (r : Received) →
    IsCodedBlock octets c → IsInterleaved soft (map coded_soft_bits bursts) → IsCorrectable soft c → IsReceivedBlock bursts r →
    r.accepted ≡ Some octets
restored_block bursts octets c soft r code deinterleaved damage h =
    let carried = block_carried octets c code in
    let same = same_coded _ soft (map _ _) h.deinterleaved deinterleaved in
    let u = restored_list soft _ c carried deinterleaved.coded_count code.code damage (rw (← same) h.best) in
    accepted_of octets_of _ carried u (octets_of-bits_of octets code.all_octets) h.accepted

pub restored_access : (burst : List ℤ) (info bsic c : List ℕ) (r : ReceivedAccess) → length (access_soft_bits burst) ≡ 36 →
    IsCodedAccess info bsic c → IsCorrectable (access_soft_bits burst) c → IsReceivedAccess burst bsic r → r.accepted ≡ Some info
restored_access burst info bsic c r pairs code damage h =
    let carried = rach_carried bsic code.u info code.count code.information in
    let u = restored_list (access_soft_bits burst) _ c carried pairs code.code damage h.best in
    accepted_of (λ d. d) _ carried u refl h.accepted

pub restored_sync : (burst : List ℤ) (info c : List ℕ) (r : ReceivedSync) → length (S.first_coded_half burst) ≡ 39 →
    length (S.second_coded_half burst) ≡ 39 → IsCodedSync info c → IsCorrectable (sync_soft_bits burst) c →
    IsReceivedSync burst r →
    r.accepted ≡ Some info
restored_sync burst info c r first second code damage h =
    let carried = sch_carried _ _ code.count code.information in
    let pairs : length (sync_soft_bits burst) ≡ 78 =
    omega (arith, length-append (S.first_coded_half burst) (S.second_coded_half burst)) in
    let u = restored_list (sync_soft_bits burst) _ c carried pairs code.code damage h.best in
    accepted_of (λ d. d) _ carried u refl h.accepted
