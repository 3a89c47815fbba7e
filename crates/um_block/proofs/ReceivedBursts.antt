-- Received bursts: each block or burst has exactly one report.
use Rattle.{
  bit_blocks.{proofs.Lemmas.{AllOctets-octets_of, length-octets_of}, specs.{Octets.{octets_of, AllOctets}, Bits.{AllBits, IsBit}}},
  conv_code.proofs.Lemmas.IsMostLikely-only,
  interleave.{proofs.Bursts.{same_coded, IsInterleaved-deinterleaved}, specs.Bursts.deinterleaved},
  std.{
    proofs.{
      Common.{Option, inl, inr, lit≤, map, pos, true, ℤ, List, ap, arith, drop, get_or, length-append, length, refl, subst, sym, take},
      Common.{ℕ, ◌++◌, ◌∙◌, ◌≡◌, ◌≤◌},
      lemmas.{Slice.Eq.bytes_eq-Decides, Bool.{cases_Bool, false≢true}, List.{length-take, take-append-drop, take-take}},
      lemmas.List.{Elements.{All-map, All-take}, length-drop, length-map, length-take-le},
    },
    specs.{Prelude.{IfSome, MatchOption}, Str.bytes_eq, List.All},
  },
  training_seq.{proofs.Lemmas.{IsFirstMaximum-first_greatest, one_first_greatest}, specs.Choice.total_correlation},
  trellis_decode.{proofs.Lemmas.IsMostLikely-most_likely, specs.MostLikely.most_likely},
  um_block.specs.{
    Computed.{if_same, received_access, received_block, received_sync},
    Received.{IsReceivedAccess, IsReceivedBlock, IsReceivedSync, access_soft_bits, coded_soft_bits, midamble_of_burst, sync_soft_bits},
    declared.received.{Received.Received, ReceivedAccess.ReceivedAccess, ReceivedSync.ReceivedSync},
  },
  fire_code.proofs.Lemmas.{one_rach_crc, one_sch_crc, one_xcch_crc, rach_crc_word, sch_crc_word, xcch_crc_word},
  fire_code.specs.{Crcs.{rach_crc as crc_of_rach, sch_crc, xcch_crc}, Words.{IsRachCodeword, IsSchCodeword, IsXcchCodeword}},
}

-- ## AcceptedOctets: An accepted block consists of 23 octets.

-- if Q holds for x, the only value that can be accepted, it holds for the accepted value
if_accepted : (P : Type 0) (Q : List ℕ → Type 0) (x : List ℕ) (accepted : Option (List ℕ)) →
    MatchOption accepted (¬ P) (λ octets. P × (octets ≡ x)) → Q x → IfSome accepted Q
if_accepted P Q x accepted h q = grind arith

pub accepted_count : (bursts : List (List ℤ)) (r : Received) → IsReceivedBlock bursts r →
    IfSome r.accepted (λ octets. length octets ≡ 23)
accepted_count bursts r h =
    if_accepted _ (λ octets. length octets ≡ 23) _ r.accepted h.accepted
    (length-octets_of 23 _ (length-take-le 184 r.u (omega (arith, h.best.count, h.deinterleaved.coded_count))))

pub accepted_octets : (bursts : List (List ℤ)) (r : Received) → IsReceivedBlock bursts r → IfSome r.accepted AllOctets
accepted_octets bursts r h =
    if_accepted _ AllOctets _ r.accepted h.accepted (AllOctets-octets_of _ (All-take IsBit 184 r.u h.best.information.bits))

-- ## ReceivedExists: Every burst and every block has a report: a most likely encoder input exists, and its CRC either holds or does not.

-- ---- a CRC either holds or does not

-- a value is accepted exactly if the first n bits of a list are a codeword
if_same-accepts : {X : Type 0} (P : List ℕ → Type 0) (k n : ℕ) (u crc : List ℕ) (x : X) → k ≤ n → P (take k u ++ crc)
    → ((p q : List ℕ) → P (take k u ++ p) → P (take k u ++ q) → p ≡ q)
    → MatchOption (if_same crc (drop k (take n u)) x) (¬ P (take n u)) (λ v. P (take n u) × (v ≡ x))
if_same-accepts P k n u crc x less holds only =
    let check = drop k (take n u) in
    let whole : take k u ++ check ≡ take n u = ap (λ d. d ++ check) (sym (take-take k n u less)) ∙ take-append-drop k (take n u) in
    elim (cases_Bool (bytes_eq check crc)) [
      | inl same ↦ rw same (subst P (ap (λ q. take k u ++ q) (sym ((bytes_eq-Decides check crc).0 same)) ∙ whole) holds, refl)
      | inr other ↦ rw other (λ h.
          let same : bytes_eq check crc ≡ true = (bytes_eq-Decides check crc).1 (only check crc (subst P (sym whole) h) holds) in
          false≢true (sym other ∙ same))
    ]

abbrev pub IsBurst : {X : Type 0} → List X → Type 0
IsBurst burst = length burst ≡ 148

length-coded_soft_bits : (burst : List ℤ) → length burst ≡ 148 → length (coded_soft_bits burst) ≡ 114
length-coded_soft_bits burst long = simp (length-append, length-take, length-drop) (omega arith)

pub IsReceivedBlock-received_block : (bursts : List (List ℤ)) → length (map coded_soft_bits bursts) ≡ 4 →
    All (λ part. length part ≡ 114) (map coded_soft_bits bursts) → IsReceivedBlock bursts (received_block bursts)
unfolding received_block
IsReceivedBlock-received_block bursts four each =
    let soft = deinterleaved (pos 0) (map coded_soft_bits bursts) in
    let is = IsInterleaved-deinterleaved (pos 0) (map coded_soft_bits bursts) four each in
    let u = most_likely soft in
    let best = IsMostLikely-most_likely soft 228 is.coded_count (lit≤ tt) in
    let long : length (take 184 u) ≡ 184 = length-take-le 184 u (omega (arith, best.count, is.coded_count)) in
    let bits = All-take IsBit 184 u best.information.bits in record {
      soft = soft;
      deinterleaved = is;
      best = best;
      metric = refl;
      tsc = IsFirstMaximum-first_greatest (total_correlation (midamble_of_burst bursts 0) (midamble_of_burst bursts 1)
          (midamble_of_burst bursts 2) (midamble_of_burst bursts 3));
      wrong_training = refl;
      accepted = if_same-accepts IsXcchCodeword 184 224 u (xcch_crc (take 184 u)) (octets_of (take 184 u)) (lit≤ tt)
          (xcch_crc_word (take 184 u) long bits) (λ p q. one_xcch_crc (take 184 u) p q long);
    }

pub some_received_block : (bursts : List (List ℤ)) → length bursts ≡ 4 → All IsBurst bursts → (r : Received)
    × IsReceivedBlock bursts r
some_received_block bursts four each = (
  received_block bursts,
  IsReceivedBlock-received_block bursts (length-map bursts coded_soft_bits ∙ four)
      (All-map (λ part. length part ≡ 114) coded_soft_bits bursts (λ i d h. length-coded_soft_bits (get_or bursts i d) (each i d h))),
)

pub IsReceivedAccess-received_access : (burst : List ℤ) (bsic : List ℕ) → length burst ≡ 88 → length bsic ≡ 6 →
    AllBits bsic →
    IsReceivedAccess burst bsic (received_access burst bsic)
unfolding received_access
IsReceivedAccess-received_access burst bsic count code code_bits =
    let soft = access_soft_bits burst in
    let long : length soft ≡ 36 = simp (length-take, length-drop) (omega arith) in
    let u = most_likely soft in
    let best = IsMostLikely-most_likely soft 18 long (lit≤ tt) in
    let front : length (take 8 u) ≡ 8 = length-take-le 8 u (omega (arith, best.count)) in record {
      best = best;
      metric = refl;
      wrong_training = refl;
      accepted = if_same-accepts (λ w. IsRachCodeword w bsic) 8 14 u (crc_of_rach (take 8 u) bsic) (take 8 u) (lit≤ tt)
          (rach_crc_word (take 8 u) bsic front (All-take IsBit 8 u best.information.bits) code code_bits)
          (λ p q. one_rach_crc (take 8 u) p q bsic front);
    }

pub IsReceivedSync-received_sync : (burst : List ℤ) → length burst ≡ 148 → IsReceivedSync burst (received_sync burst)
unfolding received_sync
IsReceivedSync-received_sync burst count =
    let soft = sync_soft_bits burst in
    let long : length soft ≡ 78 = simp (length-append, length-take, length-drop) (omega arith) in
    let u = most_likely soft in
    let best = IsMostLikely-most_likely soft 39 long (lit≤ tt) in
    let front : length (take 25 u) ≡ 25 = length-take-le 25 u (omega (arith, best.count)) in record {
      best = best;
      metric = refl;
      wrong_training = refl;
      accepted = if_same-accepts IsSchCodeword 25 35 u (sch_crc (take 25 u)) (take 25 u) (lit≤ tt)
          (sch_crc_word (take 25 u) front (All-take IsBit 25 u best.information.bits)) (λ p q. one_sch_crc (take 25 u) p q front);
    }

-- ## ReceivedOnce: The report of a burst or block is unique.

one_accepted : {X : Type 0} (P : Type 0) (x : X) (a b : Option X) →
    MatchOption a (¬ P) (λ v. P × (v ≡ x)) → MatchOption b (¬ P) (λ v. P × (v ≡ x)) → a ≡ b
one_accepted P x a b h g = grind arith

pub one_received_block : (bursts : List (List ℤ)) (r r' : Received) → IsReceivedBlock bursts r → IsReceivedBlock bursts r' →
    r ≡ r'
one_received_block bursts r r' h g =
    let soft = same_coded _ g.soft (map _ bursts) h.deinterleaved g.deinterleaved in
    let u = IsMostLikely-only g.soft r'.u r.u g.best (rw (← soft) h.best) in
    let tsc = one_first_greatest _ _ _ _ h.tsc g.tsc in
    let accepted = one_accepted _ _ r.accepted r'.accepted (rw u at h.accepted) g.accepted in
    grind (arith, soft, u, tsc, accepted)

pub one_received_access : (burst : List ℤ) (bsic : List ℕ) (r r' : ReceivedAccess) →
    IsReceivedAccess burst bsic r → IsReceivedAccess burst bsic r' → r ≡ r'
one_received_access burst bsic r r' h g =
    let u = IsMostLikely-only _ _ r.u g.best h.best in
    let accepted = one_accepted _ _ r.accepted r'.accepted (rw u at h.accepted) g.accepted in
    grind (arith, u, accepted)

pub one_received_sync : (burst : List ℤ) (r r' : ReceivedSync) → IsReceivedSync burst r → IsReceivedSync burst r' → r ≡ r'
one_received_sync burst r r' h g =
    let u = IsMostLikely-only _ _ r.u g.best h.best in
    let accepted = one_accepted _ _ r.accepted r'.accepted (rw u at h.accepted) g.accepted in
    grind (arith, u, accepted)

pub received_block-only : (bursts : List (List ℤ)) (r : Received) → IsReceivedBlock bursts r → r ≡ received_block bursts
received_block-only bursts r h =
    one_received_block bursts r _ h (IsReceivedBlock-received_block bursts h.deinterleaved.burst_count h.deinterleaved.burst_lengths)

pub received_access-only : (burst : List ℤ) (bsic : List ℕ) (r : ReceivedAccess) → length burst ≡ 88 → length bsic ≡ 6 →
    AllBits bsic →
    IsReceivedAccess burst bsic r → r ≡ received_access burst bsic
received_access-only burst bsic r count code bits h =
    one_received_access burst bsic r _ h (IsReceivedAccess-received_access burst bsic count code bits)

pub received_sync-only : (burst : List ℤ) (r : ReceivedSync) → length burst ≡ 148 → IsReceivedSync burst r →
    r ≡ received_sync burst
received_sync-only burst r count h = one_received_sync burst r _ h (IsReceivedSync-received_sync burst count)
