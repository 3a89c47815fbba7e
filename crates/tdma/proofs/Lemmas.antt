-- Frame numbers, the bits of a synchronisation burst, and the tables of the channels.
use Rattle.{
  bit_blocks.{proofs.Lemmas.{at_passes_below, octets_of-bits_of, passes_below}, specs.Octets.{AllOctets, IsOctet, bits_of, octets_of}},
  std.proofs.{
    Common.{Bool, List, [], ap, ap₂, arith, eqb, get_or, length, refl, rules, sym, take, tests, true, suc, ℕ, ◌%◌, ◌*◌},
    Common.{◌++◌, ◌+◌, ◌-◌, ◌/◌, ◌<◌, ◌∙◌, ◌∷◌, ◌≡◌, ◌≤◌, inl, inr},
    lemmas.{Bool.cases_lt, List.{take_all, Elements.{All-cons, All-nil}}},
    Math.Seq.take-suc,
  },
  tdma.specs.{Frames.IsFrameAt, Numbers.bsic_bits, Sync.{HasSch, reduced_t3, sch_bits, t2_of_bits, t3_of_bits}},
  tdma.specs.declared.sync.SchInfo.SchInfo,
}

-- ## Lists: short lists by their elements.

pub list_of_three : (l : List ℕ) → length l ≡ 3 → l ≡ get_or l 0 0 ∷ get_or l 1 0 ∷ get_or l 2 0 ∷ []
list_of_three (a ∷ b ∷ c ∷ []) h = refl
list_of_three _ h = absurd (omega arith)

pub list_of_six : (l : List ℕ) → length l ≡ 6 →
    l ≡ get_or l 0 0 ∷ get_or l 1 0 ∷ get_or l 2 0 ∷ get_or l 3 0 ∷ get_or l 4 0 ∷ get_or l 5 0 ∷ []
list_of_six (a ∷ b ∷ c ∷ d ∷ e ∷ f ∷ []) h = refl
list_of_six _ h = absurd (omega arith)

pub front_and_last : (l : List ℕ) (n : ℕ) → length l ≡ suc n → l ≡ take n l ++ (get_or l n 0 ∷ [])
front_and_last l n h =
    let lt : n < length l = omega arith in
    sym (take_all (suc n) l (omega arith)) ∙ take-suc l n 0 lt

pub bits_of_six : (a b c d e f : ℕ) → a ≤ 1 → b ≤ 1 → c ≤ 1 → d ≤ 1 → e ≤ 1 → f ≤ 1 →
    bsic_bits (32 * a + 16 * b + 8 * c + 4 * d + 2 * e + f) ≡ a ∷ b ∷ c ∷ d ∷ e ∷ f ∷ []
bits_of_six a b c d e f ha hb hc hd he hf =
    let n : ℕ = 32 * a + 16 * b + 8 * c + 4 * d + 2 * e + f in
    let e0 : n / 32 % 2 ≡ a = omega arith in
    let e1 : n / 16 % 2 ≡ b = omega arith in
    let e2 : n / 8 % 2 ≡ c = omega arith in
    let e3 : n / 4 % 2 ≡ d = omega arith in
    let e4 : n / 2 % 2 ≡ e = omega arith in
    let e5 : n % 2 ≡ f = omega arith in
    cc

-- ## SyncBits: The 25 bits of a synchronisation burst determine its fields.

three_octets : (a b c : ℕ) → a < 256 → b < 256 → c < 256 → AllOctets (a ∷ b ∷ c ∷ [])
three_octets a b c ha hb hc =
    All-cons IsOctet a (b ∷ c ∷ []) ha (All-cons IsOctet b (c ∷ []) hb (All-cons IsOctet c [] hc (All-nil IsOctet)))

octets_apart : (a b c x a' b' c' x' : ℕ) → AllOctets (a ∷ b ∷ c ∷ []) → AllOctets (a' ∷ b' ∷ c' ∷ []) →
    bits_of (a ∷ b ∷ c ∷ []) ++ (x ∷ []) ≡ bits_of (a' ∷ b' ∷ c' ∷ []) ++ (x' ∷ []) →
    ((a ∷ b ∷ c ∷ []) ≡ (a' ∷ b' ∷ c' ∷ [])) × (x ≡ x')
octets_apart a b c x a' b' c' x' h h' e = (
  sym (octets_of-bits_of _ h) ∙ ap (λ l. octets_of (take 24 l)) e ∙ octets_of-bits_of _ h',
  ap (λ l. get_or l 24 0) e,
)

pub record AreSyncBits (bits : List ℕ) (first second third last : ℕ) : Type 0 where
  pub same : bits ≡ bits_of (first ∷ second ∷ third ∷ []) ++ (last ∷ [])
  pub first_octet : first < 256
  pub second_octet : second < 256
  pub third_octet : third < 256
  pub last_bit : last ≤ 1

pub record HasFields (info : SchInfo) (first second third last : ℕ) : Type 0 where
  pub bsic : info.bsic ≡ first / 4
  pub t1 : info.frame / 1326 ≡ first % 4 * 512 + second * 2 + third / 128
  pub t2 : info.frame % 26 ≡ third / 4 % 32
  pub t3 : info.frame % 51 ≡ 10 * (third % 4 * 2 + last) + 1
  pub reduced : third % 4 * 2 + last ≤ 4

pub fields_of_bits : (info : SchInfo) (bits : List ℕ) (a b c x : ℕ) → AreSyncBits bits a b c x → HasSch info →
    sch_bits info ≡ bits →
    HasFields info a b c x
unfolding sch_bits
fields_of_bits info bits a b c x are has e =
    let t1 : ℕ = info.frame / 1326 in
    let t2 : ℕ = info.frame % 26 in
    let t3 : ℕ = reduced_t3 info.frame in
    let bounds : (t1 < 2048) × (t2 < 26) × (t3 < 5) = (omega arith, omega arith, omega arith) in
    let o0 : ℕ = info.bsic * 4 + t1 / 512 in
    let o1 : ℕ = t1 / 2 % 256 in
    let o2 : ℕ = t1 % 2 * 128 + t2 * 4 + t3 / 2 in
    let apart = octets_apart o0 o1 o2 (t3 % 2) a b c x (three_octets o0 o1 o2 (omega arith) (omega arith) (omega arith))
    (three_octets a b c are.first_octet are.second_octet are.third_octet) (e ∙ are.same) in
    let e0 : o0 ≡ a = cc in
    let e1 : o1 ≡ b = cc in
    let e2 : o2 ≡ c = cc in
    record {
      bsic = omega arith;
      t1 = omega arith;
      t2 = omega arith;
      t3 = omega arith;
      reduced = omega arith;
    }

pub bits_of_fields : (info : SchInfo) (bits : List ℕ) (a b c x : ℕ) → AreSyncBits bits a b c x → HasFields info a b c x →
    sch_bits info ≡ bits
unfolding sch_bits
bits_of_fields info bits a b c x are has =
    let t1 : ℕ = info.frame / 1326 in
    let t2 : ℕ = info.frame % 26 in
    let t3 : ℕ = reduced_t3 info.frame in
    let reduced : t3 ≡ c % 4 * 2 + x = omega arith in
    let e0 : info.bsic * 4 + t1 / 512 ≡ a = omega arith in
    let e1 : t1 / 2 % 256 ≡ b = omega arith in
    let e2 : t1 % 2 * 128 + t2 * 4 + t3 / 2 ≡ c = omega arith in
    let e3 : t3 % 2 ≡ x = omega arith in
    rw (e0, e1, e2, e3) (sym are.same)

abbrev is_t2_right : ℕ → Bool
is_t2_right c = eqb (c / 4 % 2 + 2 * (c / 8 % 2) + 4 * (c / 16 % 2) + 8 * (c / 32 % 2) + 16 * (c / 64 % 2)) (c / 4 % 32)

every_t2_is_right : passes_below is_t2_right 256 ≡ true
unfolding passes_below
every_t2_is_right = cc

pub numbers_of_bits : (bits : List ℕ) (a b c x : ℕ) → AreSyncBits bits a b c x →
    (t2_of_bits bits ≡ c / 4 % 32) × (t3_of_bits bits ≡ c % 4 * 2 + x)
numbers_of_bits bits a b c x are =
    let t2 = at_passes_below is_t2_right 256 every_t2_is_right c are.third_octet in
    let h2 : c / 4 % 2 + 2 * (c / 8 % 2) + 4 * (c / 16 % 2) + 8 * (c / 32 % 2) + 16 * (c / 64 % 2) ≡ c / 4 % 32 = search (rules, tests) in
    (rw are.same h2, rw are.same (omega arith))

pub some_frame : (t1 t2 t3 : ℕ) → t1 < 2048 → t2 < 26 → t3 < 51 →
    (frame : ℕ) × IsFrameAt (record { t1 = t1; t2 = t2; t3 = t3 }) frame
some_frame t1 t2 t3 h1 h2 h3 =
    let frame : ℕ = 1326 * t1 + 51 * ((t3 + 26 - t2) % 26) + t3 in
    let e1 : frame / 1326 ≡ t1 = omega arith in
    let e2 : frame % 26 ≡ t2 = omega arith in
    let e3 : frame % 51 ≡ t3 = omega arith in
    (frame, (omega arith, cc))

pub one_frame : (f g : ℕ) → f / 1326 ≡ g / 1326 → f % 26 ≡ g % 26 → f % 51 ≡ g % 51 → f ≡ g
one_frame f g h1 h2 h3 = omega arith

pub same_info : (info other : SchInfo) (a b c x : ℕ) → HasFields info a b c x → HasFields other a b c x → info ≡ other
same_info info other a b c x h g =
    let frame : info.frame ≡ other.frame = one_frame _ _ (h.t1 ∙ sym g.t1) (h.t2 ∙ sym g.t2) (h.t3 ∙ sym g.t3) in
    let bsic : info.bsic ≡ other.bsic = h.bsic ∙ sym g.bsic in
    ap₂ (λ (b f : ℕ). let made : SchInfo = record { bsic = b; frame = f } in made) bsic frame

pub reading_some : (info : SchInfo) (bits : List ℕ) (a b c x : ℕ) → AreSyncBits bits a b c x → HasFields info a b c x →
    HasSch info → (other : SchInfo) → HasSch other → sch_bits other ≡ bits → info ≡ other
reading_some info bits a b c x are fields has other has' same =
    same_info info other a b c x fields (fields_of_bits other bits a b c x are has' same)

pub reading_none : (bits : List ℕ) (a b c x : ℕ) → AreSyncBits bits a b c x →
    ((frame : ℕ) → ¬ IsFrameAt (record { t1 = a % 4 * 512 + b * 2 + c / 128; t2 = c / 4 % 32; t3 = 10 * (c % 4 * 2 + x) + 1 })
    frame) →
    (info : SchInfo) → HasSch info → sch_bits info ≡ bits → ⊥
reading_none bits a b c x are none info has same =
    let f = fields_of_bits info bits a b c x are has same in
    let t1 = f.t1 in
    let t2 = f.t2 in
    let t3 = f.t3 in
    none info.frame (has.1, cc)

pub t2_beyond : (a b c x : ℕ) → a < 256 → b < 256 → c < 256 → x ≤ 1 → c % 4 * 2 + x ≤ 4 →
    ((frame : ℕ) → ¬ IsFrameAt (record { t1 = a % 4 * 512 + b * 2 + c / 128; t2 = c / 4 % 32; t3 = 10 * (c % 4 * 2 + x) + 1 })
    frame) →
    26 ≤ c / 4 % 32
t2_beyond a b c x ha hb hc hx h3 none = elim (cases_lt (c / 4 % 32) 26) [
  | inl below ↦
      let some = some_frame (a % 4 * 512 + b * 2 + c / 128) (c / 4 % 32) (10 * (c % 4 * 2 + x) + 1) (omega arith) below (omega arith) in
      absurd (none some.0 some.1)
  | inr beyond ↦ beyond
]

pub sync_bits_of : (info : SchInfo) → HasSch info →
    (a : ℕ) × (b : ℕ) × (c : ℕ) × (x : ℕ) × AreSyncBits (sch_bits info) a b c x
unfolding sch_bits
sync_bits_of info has =
    let t1 : ℕ = info.frame / 1326 in
    let t2 : ℕ = info.frame % 26 in
    let t3 : ℕ = reduced_t3 info.frame in (
      info.bsic * 4 + t1 / 512,
      t1 / 2 % 256,
      t1 % 2 * 128 + t2 * 4 + t3 / 2,
      t3 % 2,
      record {
        same = refl;
        first_octet = omega arith;
        second_octet = omega arith;
        third_octet = omega arith;
        last_bit = omega arith;
      },
    )
