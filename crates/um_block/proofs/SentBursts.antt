-- Sent bursts: any information bits can be sent in exactly one way, and each sent burst has the right length and consists of bits.
use Rattle.{
  std.proofs.Common.{true, List, [], append_assoc, ap, arith, drop, get_or, length-append, length, lit<, refl, sym, take, ℕ, ◌*◌},
  std.proofs.Common.{◌++◌, ◌+◌, ◌<◌, ◌∙◌, ◌∷◌, ◌≡◌, ◌≤◌, replicate, leb},
  std.proofs.lemmas.List.{Elements.{All-append, All-drop, All-map, All-take}, drop_at, length-drop, length-map, length-take-le, take_at},
  std.{proofs.lemmas.Grind.flat_map-append, specs.List.{All, list_all}},
  bit_blocks.{
    proofs.Lemmas.{AllBits-table, AllBits-append, AllBits-bits_of, AllBits-front, length-bits_of},
    specs.{Bits.{AllBits, IsBit}, Octets.{AllOctets, bits_of, octet_bits}, Packed.AreCodedBitsPacked},
  },
  burst_map.specs.{Tails.tail_bits, AccessBurst.{access_sequence, extended_tail_bits}, NormalBurst.normal_burst, SyncBurst.sync_sequence},
  conv_code.{
    proofs.Lemmas.{AllBits-coded, length-coded, AreCodedBitsPacked-front, IsEncoderInput-tail},
    specs.Code.{IsEncoderInput, encoding},
  },
  fire_code.proofs.Lemmas.{one_rach_crc, one_sch_crc, one_xcch_crc, rach_crc_word, sch_crc_word, xcch_crc_word},
  fire_code.specs.{Crcs.{rach_crc as crc_of_rach, sch_crc, xcch_crc}, Words.{IsRachCodeword, IsSchCodeword, IsXcchCodeword}},
  training_seq.proofs.Lemmas.{AllBits-midamble, length-midamble},
  um_block.specs.{
    Sent.{IsCodedAccess, IsCodedBlock, IsCodedSync, IsSentAccess, IsSentBlock, IsSentSync, CarriesDataAndCrc, with_tail},
    Computed.{coded_word, sent_access, sent_block, sent_sync},
  },
  interleave.{proofs.Bursts.{AllBits-bursts, IsInterleaved-interleaved, same_bursts}, specs.Bursts.interleaved},
}
use borrow.Rule.Slice.PartMut.{put_mid}

-- ## Words: Encoder inputs that consist of information bits, CRC and tail, and their coded bits.

-- u is a codeword of n bits followed by the tail, and d is its first k bits
pub record Carried (IsWord : List ℕ → Type 0) (n k : ℕ) (u d : List ℕ) : Type 0 where
  pub information : IsEncoderInput u
  pub count : length u ≡ n + 4
  pub word : IsWord (take n u)
  pub front : take k u ≡ d

module _ (IsWord : List ℕ → Type 0) (n k : ℕ) (some : 0 < k) (long : (w : List ℕ) → IsWord w → length w ≡ n)
    (bits : (w : List ℕ) → IsWord w → AllBits w) where
  carried : (u d : List ℕ) → length d ≡ k → CarriesDataAndCrc IsWord u d → Carried IsWord n k u d
  carried u d e h =
      let word = d ++ h.crc in
      let tail = replicate 4 0 in
      let count = long word h.word in
      let front : take n u ≡ word = ap (take n) h.has_tail_bits_appended ∙ take_at _ tail n count in
      record {
        information = rw h.has_tail_bits_appended (IsEncoderInput-tail word (omega (arith, length-append d h.crc)) (bits word h.word));
        count = ap length h.has_tail_bits_appended ∙ length-append word tail ∙ ap (λ m. m + 4) count;
        word = rw front h.word;
        front = ap (take k) (h.has_tail_bits_appended ∙ append_assoc d h.crc tail) ∙ take_at d (h.crc ++ tail) k e;
      }

pub rach_carried : (b u d : List ℕ) → length d ≡ 8 → CarriesDataAndCrc (λ w. IsRachCodeword w b) u d →
    Carried (λ w. IsRachCodeword w b) 14 8 u d
rach_carried b = carried _ 14 8 (lit< tt) (λ w h. h.count) (λ w h. h.bits)

pub sch_carried : (u d : List ℕ) → length d ≡ 25 → CarriesDataAndCrc IsSchCodeword u d → Carried IsSchCodeword 35 25 u d
sch_carried = carried _ 35 25 (lit< tt) (λ w h. h.count) (λ w h. h.bits)

one_list : (IsWord : List ℕ → Type 0) (u u' d : List ℕ) →
    ((p p' : List ℕ) → IsWord (d ++ p) → IsWord (d ++ p') → p ≡ p') → CarriesDataAndCrc IsWord u d →
    CarriesDataAndCrc IsWord u' d → u ≡ u'
one_list IsWord u u' d one h g = cc (one h.crc g.crc h.word g.word)

pub carries : (IsWord : List ℕ → Type 0) (d p : List ℕ) → IsWord (d ++ p) → CarriesDataAndCrc IsWord (with_tail (d ++ p)) d
carries IsWord d p word = record { crc = p; word = word; has_tail_bits_appended = refl }

length-block : (octets : List ℕ) → length octets ≡ 23 → length (bits_of octets) ≡ 184
length-block octets count = omega (arith, length-bits_of octets)

-- the encoder input of a coded block is a codeword of 224 bits with the tail, and its first 184 bits are the bits of the octets
pub block_carried : (octets c : List ℕ) (code : IsCodedBlock octets c) → Carried IsXcchCodeword 224 184 code.u (bits_of octets)
block_carried octets c code =
    carried _ 224 184 (lit< tt) (λ w h. h.count) (λ w h. h.bits) _ _ (length-block _ code.count) code.information

pub IsEncoderInput-joined : (word d p : List ℕ) → word ≡ with_tail (d ++ p) → 0 < length d → AllBits d → AllBits p →
    IsEncoderInput word
IsEncoderInput-joined word d p joined some d_bits p_bits =
    rw joined (IsEncoderInput-tail _ (omega (arith, length-append d p)) (AllBits-append d p d_bits p_bits))

pub record AreBits (count : ℕ) (bits : List ℕ) : Type 0 where
  pub right_length : length bits ≡ count
  pub each : AllBits bits

coded_bits : (u c : List ℕ) (n : ℕ) → length u ≡ n → c ≡ encoding u → AreBits (2 * n) c
coded_bits u c n e code = record { right_length = omega (arith, ap length code, length-coded u); each = rw code (AllBits-coded u) }

pub coded_block_bits : (octets c : List ℕ) → IsCodedBlock octets c → AreBits 456 c
coded_block_bits octets c code = coded_bits code.u c 228 (block_carried octets c code).count code.code

pub coded_access_bits : (d b c : List ℕ) → IsCodedAccess d b c → AreBits 36 c
coded_access_bits d b c code = coded_bits code.u c 18 (rach_carried b _ d code.count code.information).count code.code

pub coded_sync_bits : (d c : List ℕ) → IsCodedSync d c → AreBits 78 c
coded_sync_bits d c code = coded_bits code.u c 39 (sch_carried _ d code.count code.information).count code.code

-- ## BlockOctets: The 32 octets from which a block is coded: 23 information octets, five octets of Fire code bits and four zero octets.

-- writing five Fire code octets from index 23 on puts them between the information octets and four zero octets
pub behind_octets : (octets crc front part : List ℕ) → length octets ≡ 23 → front ≡ octets → part ≡ crc →
    put_mid 23 5 (front ++ replicate 9 0) part ≡ octets ++ crc ++ replicate 4 0
behind_octets octets crc front part long one two =
    rw (one, two, take_at octets (replicate 9 0) 23 long, drop_at octets (replicate 9 0) 23 long, append_assoc octets crc (replicate 4 0))

module _ (octets crc word : List ℕ) (is : word ≡ octets ++ crc ++ replicate 4 0) where
  -- the bits of the 32 octets are the encoder input, followed by 28 more zeros
  bits_of_word : bits_of word ≡ with_tail (bits_of octets ++ bits_of crc) ++ replicate 28 0
  bits_of_word =
      ap bits_of is ∙ flat_map-append octet_bits (octets ++ crc) _
      ∙ ap (λ bits. bits ++ replicate 32 0) (flat_map-append octet_bits _ crc)
      ∙ sym (append_assoc (bits_of octets ++ bits_of crc) (replicate 4 0) (replicate 28 0))

  pub AreCodedBitsPacked-block : (packed : List ℕ) → IsXcchCodeword (bits_of octets ++ bits_of crc) →
      AreCodedBitsPacked 64 (encoding (bits_of word)) packed →
      AreCodedBitsPacked 57 (encoding (with_tail (bits_of octets ++ bits_of crc))) packed
  AreCodedBitsPacked-block packed holds are =
      let u = with_tail _ in
      let long : 4 * 57 ≤ length u = omega (arith, length-append (bits_of octets ++ bits_of crc) (replicate 4 0)) in
      AreCodedBitsPacked-front 64 57 u (replicate 28 0) packed (omega arith) long (rw (← bits_of_word) are)

-- ## SentShapes: Sent bursts have the right length and consist of bits.

joined : {m n : ℕ} {xs ys : List ℕ} → AreBits m xs → AreBits n ys → AreBits (m + n) (xs ++ ys)
joined {xs = xs} {ys = ys} x y = record { right_length = omega (arith, length-append xs ys); each = All-append IsBit xs ys x.each y.each }

fixed : (bits : List ℕ) → list_all (λ bit. leb bit 1) bits ≡ true → AreBits (length bits) bits
fixed bits known = record { right_length = refl; each = AllBits-table bits known }

tail : AreBits 3 tail_bits
tail = fixed tail_bits refl

flag : AreBits 1 (1 ∷ [])
flag = fixed (1 ∷ []) refl

normal_bits : (first second : List ℕ) (tsc : ℕ) → tsc ≤ 7 → AreBits 57 first → AreBits 57 second →
    AreBits 148 (normal_burst first second tsc)
normal_bits first second tsc known f s =
    let sequence : AreBits 26 _ = record { right_length = length-midamble tsc known; each = AllBits-midamble tsc known } in
    joined (joined (joined (joined (joined (joined tail f) flag) sequence) flag) s) tail

taken : (m n : ℕ) {bits : List ℕ} → AreBits (m + n) bits → AreBits m (take m bits)
taken m n b = record { right_length = length-take-le m _ (omega arith); each = All-take IsBit m _ b.each }

dropped : (m n : ℕ) {bits : List ℕ} → AreBits (m + n) bits → AreBits n (drop m bits)
dropped m n {bits = bits} b = record { right_length = omega (arith, length-drop m bits); each = All-drop IsBit m _ b.each }

pub sent_block_bits : (octets : List ℕ) (tsc : ℕ) (bursts : List (List ℕ)) → IsSentBlock octets tsc bursts →
    (length bursts ≡ 4) × All (AreBits 148) bursts
sent_block_bits octets tsc bursts s =
    let parts = s.interleaved_bits in
    let bits = AllBits-bursts s.coded_bits parts s.interleaved (coded_block_bits octets s.coded_bits s.code).each in (
      ap length s.layout ∙ length-map parts (λ part. normal_burst _ _ tsc) ∙ s.interleaved.burst_count,
      rw s.layout (All-map (AreBits 148) _ parts (λ i d h.
          let whole : AreBits 114 (get_or parts i d) = record { right_length = s.interleaved.burst_lengths i d h; each = bits i d h } in
          normal_bits _ _ tsc s.valid_tsc (taken 57 57 whole) (dropped 57 57 whole))),
    )

pub sent_access_bits : (info bsic burst : List ℕ) → IsSentAccess info bsic burst → AreBits 88 burst
sent_access_bits info bsic burst s =
    let sequence = joined (fixed extended_tail_bits refl) (fixed access_sequence refl) in
    rw s.burst (joined (joined sequence (coded_access_bits info bsic _ s.code)) tail)

pub sent_sync_bits : (info burst : List ℕ) → IsSentSync info burst → AreBits 148 burst
sent_sync_bits info burst s =
    let bits = coded_sync_bits info s.coded_bits s.code in
    rw s.burst (joined (joined (joined (joined tail (taken 39 39 bits)) (fixed sync_sequence refl)) (dropped 39 39 bits)) tail)

-- ## SentExists: Any information bits can be sent: their CRC exists, and their coded bits can be interleaved.

pub IsSentBlock-sent_block : (octets : List ℕ) (tsc : ℕ) → length octets ≡ 23 → AllOctets octets → tsc ≤ 7 →
    IsSentBlock octets tsc (sent_block octets tsc)
unfolding sent_block
IsSentBlock-sent_block octets tsc count small known =
    let d = bits_of octets in
    let coded = coded_word d (xcch_crc d) in
    let code : IsCodedBlock octets coded = record {
      u = with_tail (d ++ xcch_crc d);
      count = count;
      all_octets = small;
      information = carries IsXcchCodeword d (xcch_crc d) (xcch_crc_word d (length-block _ count) (AllBits-bits_of _));
      code = refl;
    } in record {
      coded_bits = coded;
      interleaved_bits = interleaved coded;
      valid_tsc = known;
      code = code;
      interleaved = IsInterleaved-interleaved coded (coded_block_bits octets coded code).right_length;
      layout = refl;
    }

pub IsSentAccess-sent_access : (d b : List ℕ) → length d ≡ 8 → AllBits d → length b ≡ 6 → AllBits b →
    IsSentAccess d b (sent_access d b)
unfolding sent_access
IsSentAccess-sent_access d b ed bd eb bb = record {
  coded_bits = coded_word d (crc_of_rach d b);
  code = record {
    u = with_tail (d ++ crc_of_rach d b);
    count = ed;
    information = carries (λ w. IsRachCodeword w b) d (crc_of_rach d b) (rach_crc_word d b ed bd eb bb);
    code = refl;
  };
  burst = refl;
}

pub IsSentSync-sent_sync : (d : List ℕ) → length d ≡ 25 → AllBits d → IsSentSync d (sent_sync d)
unfolding sent_sync
IsSentSync-sent_sync d ed bd = record {
  coded_bits = coded_word d (sch_crc d);
  code = record {
    u = with_tail (d ++ sch_crc d);
    count = ed;
    information = carries IsSchCodeword d (sch_crc d) (sch_crc_word d ed bd);
    code = refl;
  };
  burst = refl;
}

-- (um_air asks for it)
pub some_sent_block : (octets : List ℕ) (tsc : ℕ) → length octets ≡ 23 → AllOctets octets → tsc ≤ 7 →
    (x : List (List ℕ)) × IsSentBlock octets tsc x
some_sent_block octets tsc count small known = (sent_block octets tsc, IsSentBlock-sent_block octets tsc count small known)

-- ## SentOnce: The bursts of given information bits are unique, since the CRC of these bits is unique.

pub one_coded_block : (octets c c' : List ℕ) → IsCodedBlock octets c → IsCodedBlock octets c' → c ≡ c'
one_coded_block octets c c' h g =
    cc (one_list IsXcchCodeword h.u g.u _ (λ p p'. one_xcch_crc _ p p' (length-block _ h.count)) h.information g.information)

pub one_access_burst : (d b x x' : List ℕ) → IsSentAccess d b x → IsSentAccess d b x' → x ≡ x'
one_access_burst d b x x' h g =
    let p = h.code in
    let q = g.code in
    cc (one_list _ p.u q.u d (λ r s. one_rach_crc d r s b p.count) p.information q.information)

pub one_sync_burst : (d x x' : List ℕ) → IsSentSync d x → IsSentSync d x' → x ≡ x'
one_sync_burst d x x' h g =
    let p = h.code in
    let q = g.code in
    cc (one_list _ p.u q.u d (λ r s. one_sch_crc d r s p.count) p.information q.information)

pub one_sent_block : (octets : List ℕ) (tsc : ℕ) (x x' : List (List ℕ)) → IsSentBlock octets tsc x → IsSentBlock octets tsc x' →
    x ≡ x'
one_sent_block octets tsc x x' h g =
    let same = one_coded_block octets h.coded_bits g.coded_bits h.code g.code in
    cc (same_bursts g.coded_bits h.interleaved_bits g.interleaved_bits (rw same at h.interleaved) g.interleaved)

pub sent_block-only : (octets : List ℕ) (tsc : ℕ) (x : List (List ℕ)) → IsSentBlock octets tsc x → x ≡ sent_block octets tsc
sent_block-only octets tsc x h =
    one_sent_block octets tsc x _ h (IsSentBlock-sent_block octets tsc h.code.count h.code.all_octets h.valid_tsc)

pub sent_access-only : (d b x : List ℕ) → IsSentAccess d b x → x ≡ sent_access d b
sent_access-only d b x h =
    let w = h.code.information.word in
    let bits = AllBits-front d h.code.information.crc w.bits in
    one_access_burst d b x _ h (IsSentAccess-sent_access d b h.code.count bits w.bsic_bit_count w.bsic_bits)

pub sent_sync-only : (d x : List ℕ) → IsSentSync d x → x ≡ sent_sync d
sent_sync-only d x h =
    let w = h.code.information.word in
    let bits = AllBits-front d h.code.information.crc w.bits in
    one_sync_burst d x _ h (IsSentSync-sent_sync d h.code.count bits)

-- ## SpreadParts: A list of four elements consists of its elements 0 to 3.

pub four : {A : Type 0} (xs : List A) (d : A) → length xs ≡ 4 → xs ≡ get_or xs 0 d ∷ get_or xs 1 d ∷ get_or xs 2 d
    ∷ get_or xs 3 d ∷ []
four (a ∷ b ∷ c ∷ x ∷ []) d e = refl
four xs d e = absurd (omega arith)
