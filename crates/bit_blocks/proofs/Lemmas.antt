-- Bit lists as polynomials: XOR and multiples. Octets and bits: packing and unpacking.
use Rattle.{
  bit_blocks.specs.{Bits.{AllBits, IsBit, xor_bits}, Octets.{AllOctets, IsOctet, bits_of, octet_bits, octets_of}, Packed.bit_of},
  bit_blocks.specs.{Polynomials.{IsDivisibleBy, product_coefficient}, SoftValues.count_wrong_bits},
  std.{
    specs.{Int.{from_le_bytes, to_le_bytes, w64}, List.list_all, Str.bytes_eq},
    proofs.{
      Common.{Bool, List, [], ap, append_assoc, arith, bit_and, bit_xor, drop, eqb, get_or, get_or-set_other, get_or-set_same, leb, length},
      Common.{map, refl, replicate, rules, suc, sym, take, tests, true, zero, ℕ, ℤ, ◌%◌, ◌&&◌, ◌*◌, ◌++◌, ◌+◌},
      Common.{◌-◌, ◌/◌, ◌<◌, ◌^◌, ◌∙◌, ◌∷◌, ◌≡◌, ◌≤◌},
      Math.{ListN.set, Nat.zero-div, Seq.{get_or-append_seam, take-add}},
      lemmas.{Bool.Decides.Decides-eqb, Grind.same_number_lists, Nat.mul-mod_first, Slice.Eq.bytes_eq-Decides, List.append-nil},
      lemmas.List.{get_or-append-add, get_or-replicate, get_or_append_left, get_or_past, length-append, length-replicate, length-take},
      lemmas.List.{take_more_set, Sums.AllPass-from_list_all, Elements.{All-append, All-cons, All-drop, All-head, All-nil, All-replicate}},
      lemmas.List.Elements.{All-tail, recursion_from_All},
    },
  },
}

-- ## Below: A property of all numbers below a bound is proved by computing a test for each of these numbers.

unfoldable pub passes_below : (ℕ → Bool) → ℕ → Bool
passes_below test zero = true
passes_below test (suc n) = test n && passes_below test n

pub both_true : (x y : Bool) → (x && y) ≡ true → (x ≡ true) × (y ≡ true)
both_true x y h = grind arith

pub at_passes_below : (test : ℕ → Bool) (n : ℕ) → passes_below test n ≡ true → (k : ℕ) → k < n → test k ≡ true
unfolding passes_below
at_passes_below test zero h k lt = absurd (omega arith)
at_passes_below test (suc n) h k lt =
    let both = both_true (test n) (passes_below test n) h in
    let rest = at_passes_below test n both.1 k in grind (arith, both.0)

-- ## BitLists: The bitwise XOR of bit lists, which a loop builds bit by bit.

pub bit_xor-bits : (x y : ℕ) → x ≤ 1 → y ≤ 1 → bit_xor x y ≡ (x + y) % 2
bit_xor-bits (suc (suc x)) y h k = absurd (omega arith)
bit_xor-bits x (suc (suc y)) h k = absurd (omega arith)
bit_xor-bits x y h k = refl

pub bit_xor-at_most_1 : (x y : ℕ) → x ≤ 1 → y ≤ 1 → bit_xor x y ≤ 1
bit_xor-at_most_1 x y h k = rw (bit_xor-bits x y h k) (omega arith)

pub length-xor_bits : (xs ys : List ℕ) → length xs ≡ length ys → length (xor_bits xs ys) ≡ length xs
length-xor_bits [] ys e = refl
length-xor_bits (x ∷ xs) (y ∷ ys) e = ap suc (length-xor_bits xs ys (omega arith))
length-xor_bits xs ys e = absurd (omega arith)

pub get_or-xor_bits : (xs ys : List ℕ) (k : ℕ) → length xs ≡ length ys → k < length xs →
    get_or (xor_bits xs ys) k 0 ≡ (get_or xs k 0 + get_or ys k 0) % 2
get_or-xor_bits (x ∷ xs) (y ∷ ys) zero e h = refl
get_or-xor_bits (x ∷ xs) (y ∷ ys) (suc k) e h = get_or-xor_bits xs ys k (omega arith) (omega arith)
get_or-xor_bits xs ys k e h = absurd (omega arith)

pub add_bits_more : (sum xs ys : List ℕ) (i : ℕ) → length sum ≡ length xs → length xs ≡ length ys → i < length xs →
    AllBits xs → AllBits ys → ((k : ℕ) → k < i → get_or sum k 0 ≡ get_or (xor_bits xs ys) k 0) →
    (k : ℕ) → k < i + 1 → get_or (set sum i (bit_xor (get_or xs i 0) (get_or ys i 0))) k 0 ≡ get_or (xor_bits xs ys) k 0
add_bits_more sum xs ys i e e' h bx by below k lt =
    grind (arith, get_or-set_other, get_or-set_same, bit_xor-bits, get_or-xor_bits, bx i 0, by i 0, below k)

pub AllBits-table : (table : List ℕ) → list_all (λ bit. leb bit 1) table ≡ true → AllBits table
AllBits-table table found k d lt =
    let bit = AllPass-from_list_all (λ bit. leb bit 1) table found k d lt in
    search (rules, tests)

pub AllBits-append : (xs ys : List ℕ) → AllBits xs → AllBits ys → AllBits (xs ++ ys)
AllBits-append = All-append IsBit

pub AllBits-front : (xs ys : List ℕ) → AllBits (xs ++ ys) → AllBits xs
AllBits-front xs ys bits k d within = grind (arith, get_or_append_left xs ys d k, length-append, bits k d)

pub AllBits-back : (xs ys : List ℕ) → AllBits (xs ++ ys) → AllBits ys
AllBits-back xs ys bits k d within = grind (arith, get_or-append-add xs ys k d, length-append, bits (length xs + k) d)

-- ## Sums: The bitwise XOR of a list with zeros, of a list with itself, and of concatenated lists.

pub AllBits-xor_bits : (xs ys : List ℕ) → AllBits (xor_bits xs ys)
AllBits-xor_bits (x ∷ xs) (y ∷ ys) = All-cons IsBit ((x + y) % 2) (xor_bits xs ys) (omega arith) (AllBits-xor_bits xs ys)
AllBits-xor_bits xs ys = All-nil IsBit

pub xor_bits-append : (xs ys xs' ys' : List ℕ) → length xs ≡ length ys →
    xor_bits (xs ++ xs') (ys ++ ys') ≡ xor_bits xs ys ++ xor_bits xs' ys'
xor_bits-append [] [] xs' ys' e = refl
xor_bits-append (x ∷ xs) (y ∷ ys) xs' ys' e = cc (xor_bits-append xs ys xs' ys' (omega arith))
xor_bits-append xs ys xs' ys' e = absurd (omega arith)

pub xor_bits-zeros : (xs : List ℕ) (n : ℕ) → AllBits xs → length xs ≡ n → xor_bits xs (replicate n 0) ≡ xs
xor_bits-zeros [] n b e = refl
xor_bits-zeros (x ∷ xs) (suc n) b e =
    grind (arith, All-head IsBit x xs b, xor_bits-zeros xs n (All-tail IsBit x xs b) (omega arith))
xor_bits-zeros xs n b e = absurd (omega arith)

pub xor_bits-comm : (xs ys : List ℕ) → xor_bits xs ys ≡ xor_bits ys xs
xor_bits-comm [] (y ∷ ys) = refl
xor_bits-comm (x ∷ xs) (y ∷ ys) = grind (arith, xor_bits-comm xs ys)
xor_bits-comm xs ys = refl

xor_bits-assoc : (xs ys zs : List ℕ) → xor_bits (xor_bits xs ys) zs ≡ xor_bits xs (xor_bits ys zs)
xor_bits-assoc (x ∷ xs) (y ∷ ys) (z ∷ zs) = grind (arith, xor_bits-assoc xs ys zs)
xor_bits-assoc xs ys zs = refl

add_bits_self : (xs : List ℕ) → xor_bits xs xs ≡ replicate (length xs) 0
add_bits_self [] = refl
add_bits_self (x ∷ xs) = grind (arith, add_bits_self xs)

pub add_bits_twice : (xs ys : List ℕ) → AllBits xs → length xs ≡ length ys → xor_bits (xor_bits xs ys) ys ≡ xs
add_bits_twice xs ys b e = cc (xor_bits-assoc xs ys ys, add_bits_self ys, xor_bits-zeros xs (length ys) b e)

pub add_bits_again : (xs ys : List ℕ) → AllBits ys → length ys ≡ length xs → xor_bits xs (xor_bits xs ys) ≡ ys
add_bits_again xs ys bits e = cc (xor_bits-comm xs ys, xor_bits-comm xs (xor_bits ys xs), add_bits_twice ys xs bits e)

-- ## Multiples: Sums, shifts and zero-padding of multiples of a polynomial are multiples, and a multiple of lower degree than its generator
-- is 0. So the remainder of a division is unique, and long division computes it.

product_coefficient-zeros : (n : ℕ) (g : List ℕ) (m : ℕ) → product_coefficient (replicate n 0) g m ≡ 0
product_coefficient-zeros zero g m = refl
product_coefficient-zeros (suc n) g zero = omega arith
product_coefficient-zeros (suc n) g (suc m) = omega (arith, product_coefficient-zeros n g m)

term_of_sum : (x y k : ℕ) → ((x + y) % 2 * k) % 2 ≡ (x * k + y * k) % 2
term_of_sum x y k = mul-mod_first (x + y) k 2 ∙ omega arith

product_coefficient-xor_bits : (q r g : List ℕ) (m : ℕ) → length q ≡ length r →
    product_coefficient (xor_bits q r) g m % 2 ≡ (product_coefficient q g m + product_coefficient r g m) % 2
product_coefficient-xor_bits [] [] g m e = refl
product_coefficient-xor_bits (x ∷ q) (y ∷ r) g zero e = term_of_sum x y (get_or g 0 0)
product_coefficient-xor_bits (x ∷ q) (y ∷ r) g (suc m) e =
    omega (arith, term_of_sum x y (get_or g (suc m) 0), product_coefficient-xor_bits q r g m (omega arith))
product_coefficient-xor_bits q r g m e = absurd (omega arith)

product_at_past : (q g : List ℕ) (m : ℕ) → length q + length g ≤ m + 1 → product_coefficient q g m ≡ 0
product_at_past [] g m h = refl
product_at_past (x ∷ q) g zero h = grind (arith, get_or_past)
product_at_past (x ∷ q) g (suc m) h = grind (arith, get_or_past, product_at_past q g m (omega arith))

product_coefficient-append_zero : (q g : List ℕ) (m : ℕ) → product_coefficient (q ++ 0 ∷ []) g m ≡ product_coefficient q g m
product_coefficient-append_zero (x ∷ q) g (suc m) = omega (arith, product_coefficient-append_zero q g m)
product_coefficient-append_zero [] g (suc m) = omega arith
product_coefficient-append_zero q g m = omega arith

pub IsDivisibleBy-zeros : (n : ℕ) (g : List ℕ) → length g ≤ n + 1 → IsDivisibleBy (replicate n 0) g
IsDivisibleBy-zeros n g h = (
  replicate (n + 1 - length g) 0,
  record {
    count = simp length-replicate (omega arith);
    bits = All-replicate IsBit (n + 1 - length g) 0 (omega arith);
    each_coefficient = λ m lt. rw product_coefficient-zeros (get_or-replicate n m 0 0 (simp length-replicate at lt));
  },
)

pub HasQuotient_self : (g : List ℕ) → AllBits g → IsDivisibleBy g g
HasQuotient_self g b = (
  1 ∷ [],
  record {
    count = omega arith;
    bits = All-replicate IsBit 1 1 (omega arith);
    each_coefficient = λ m lt. grind (arith, b m 0 lt);
  },
)

IsDivisibleBy-xor_bits : (x y g : List ℕ) → length x ≡ length y → IsDivisibleBy x g → IsDivisibleBy y g →
    IsDivisibleBy (xor_bits x y) g
IsDivisibleBy-xor_bits x y g same (q, qx) (r, ry) =
    let e : length q ≡ length r = omega (arith, qx.count, ry.count) in
    let long = length-xor_bits x y same in (
      xor_bits q r,
      record {
        count = simp (length-xor_bits q r e, long) qx.count;
        bits = AllBits-xor_bits q r;
        each_coefficient = λ m lt.
            let sum = product_coefficient-xor_bits q r g m e in
            grind (arith, sum, get_or-xor_bits x y m same, qx.each_coefficient m, ry.each_coefficient m);
      },
    )

IsDivisibleBy-append_zeros : (n : ℕ) (x g : List ℕ) → IsDivisibleBy x g → IsDivisibleBy (x ++ replicate n 0) g
IsDivisibleBy-append_zeros zero x g h = rw append-nil h
IsDivisibleBy-append_zeros (suc n) x g (q, qx) =
    let past = product_at_past q g (length x) (omega (arith, qx.count)) in
    let seam = get_or-append_seam x 0 [] 0 in
    rw (← append_assoc x (0 ∷ []) (replicate n 0)) (IsDivisibleBy-append_zeros n (x ++ 0 ∷ []) g (
      q ++ 0 ∷ [],
      record {
        count = simp length-append (omega (arith, qx.count));
        bits = All-append IsBit q (0 ∷ []) qx.bits (All-replicate IsBit 1 0 (omega arith));
        each_coefficient = λ m lt.
            grind (arith, product_coefficient-append_zero, get_or_append_left, seam, qx.each_coefficient m, length-append);
      },
    ))

pub IsDivisibleBy-zeros_append : (n : ℕ) (x g : List ℕ) → IsDivisibleBy x g → IsDivisibleBy (replicate n 0 ++ x) g
IsDivisibleBy-zeros_append zero x g h = h
IsDivisibleBy-zeros_append (suc n) x g h = let (q, qx) = IsDivisibleBy-zeros_append n x g h in (
  0 ∷ q,
  record {
    count = omega (arith, qx.count);
    bits = All-cons IsBit 0 q (omega arith) qx.bits;
    each_coefficient = λ m lt. grind arith;
  },
)

quotient_of_zeros : (k : ℕ) (q t : List ℕ) → length q ≡ k → AllBits q →
    ((m : ℕ) → m < k → 0 ≡ product_coefficient q (1 ∷ t) m % 2) → q ≡ replicate k 0
quotient_of_zeros zero [] t e b h = refl
quotient_of_zeros (suc k) (zero ∷ q) t e b h =
    cc (quotient_of_zeros k q t (omega arith) (All-tail IsBit 0 q b) (λ m lt. omega (arith, h (suc m) (omega arith))))
quotient_of_zeros (suc k) (suc x ∷ q) t e b h = absurd (omega (arith, h 0 (omega arith), All-head IsBit (suc x) q b))
quotient_of_zeros k q t e b h = absurd (omega arith)

zeros_of_multiple : (k : ℕ) (r t : List ℕ) → length r ≡ length t → IsDivisibleBy (replicate k 0 ++ r) (1 ∷ t) →
    r ≡ replicate (length r) 0
zeros_of_multiple k r t e (q, qx) =
    let count : length (replicate k 0 ++ r) ≡ k + length r = simp (length-append, length-replicate) in
    let value = get_or-replicate {A = ℕ} in
    let none : q ≡ replicate k 0 = quotient_of_zeros k q t (omega (arith, qx.count)) qx.bits
    (λ m lt. grind (arith, get_or_append_left (replicate k 0) r 0 m, value k m 0 0, qx.each_coefficient m, length-replicate)) in
    same_number_lists r (replicate (length r) 0) (simp length-replicate)
    (λ j lt.
    let last = value (length r) j 0 0 lt in
    let coefficient = product_coefficient-zeros k (1 ∷ t) (k + j) in
    grind (arith, get_or-append-add (replicate k 0) r j 0, length-replicate, qx.each_coefficient (k + j), coefficient))

pub same_remainder : (front r s t : List ℕ) → AllBits r → AllBits s → length r ≡ length t → length s ≡ length t →
    IsDivisibleBy (front ++ r) (1 ∷ t) → IsDivisibleBy (front ++ s) (1 ∷ t) → r ≡ s
same_remainder front r s t br bs er es mr ms =
    let e : length r ≡ length s = omega arith in
    let split : xor_bits (front ++ r) (front ++ s) ≡ replicate (length front) 0 ++ xor_bits r s =
    cc (xor_bits-append front front r s refl, add_bits_self front) in
    let count = length-xor_bits r s e in
    let zeros = zeros_of_multiple (length front) (xor_bits r s) t (omega arith)
    (rw split at (IsDivisibleBy-xor_bits (front ++ r) (front ++ s) (1 ∷ t) (simp length-append (omega arith)) mr ms)) in
    cc (add_bits_twice r s br e, zeros, count, xor_bits-comm (replicate (length r) 0) s, xor_bits-zeros s (length r) bs (sym e))

-- one step of long division, by as many bits as `out` has
pub divided_more : (front out rest next start tail g : List ℕ) → AllBits front → length start ≡ length out →
    length tail ≡ length rest + length out → xor_bits out start ≡ next →
    IsDivisibleBy (front ++ (out ++ rest)) g → IsDivisibleBy (start ++ tail) g →
    IsDivisibleBy ((front ++ next) ++ xor_bits (rest ++ replicate (length out) 0) tail) g
divided_more front out rest next start tail g bits es et sum before multiple =
    let zeros : List ℕ = replicate (length out) 0 in
    let padding : List ℕ = replicate (length front) 0 in
    let moved = simp append_assoc at (IsDivisibleBy-append_zeros (length out) (front ++ (out ++ rest)) g before) in
    let padded = IsDivisibleBy-zeros_append (length front) (start ++ tail) g multiple in
    let parts : xor_bits (front ++ (out ++ (rest ++ zeros))) (padding ++ (start ++ tail))
    ≡ (front ++ next) ++ xor_bits (rest ++ zeros) tail = cc (
      xor_bits-append front padding (out ++ (rest ++ zeros)) (start ++ tail) (simp length-replicate),
      xor_bits-zeros front (length front) bits refl,
      xor_bits-append out start (rest ++ zeros) tail (sym es),
      sum,
      append_assoc front next (xor_bits (rest ++ zeros) tail),
    ) in
    rw parts at (IsDivisibleBy-xor_bits (front ++ (out ++ (rest ++ zeros))) (padding ++ (start ++ tail)) g
    (simp (length-append, length-replicate) (omega arith)) moved padded)

-- ## OctetLists: `bits_of` and `octets_of` are inverses of each other, and the loops that compute them extend their results by one octet at
-- a time.

pub AllBits-bits_of : (octets : List ℕ) → AllBits (bits_of octets)
AllBits-bits_of [] = All-nil IsBit
AllBits-bits_of (n ∷ octets) =
    All-append IsBit (octet_bits n) (bits_of octets)
    (halves (n ∷ n / 2 ∷ n / 4 ∷ n / 8 ∷ n / 16 ∷ n / 32 ∷ n / 64 ∷ n / 128 ∷ [])) (AllBits-bits_of octets)
  where
    halves : (ns : List ℕ) → AllBits (map (λ n. n % 2) ns)
    halves [] = All-nil IsBit
    halves (n ∷ ns) = All-cons IsBit (n % 2) (map (λ n. n % 2) ns) (omega arith) (halves ns)

pub length-bits_of : (octets : List ℕ) → length (bits_of octets) ≡ 8 * length octets
length-bits_of [] = refl
length-bits_of (octet ∷ octets) = omega (arith, length-bits_of octets)

-- ---- unpacking octets into bits and packing them again, and the other way round

pub octets_of-bits_of : (octets : List ℕ) → AllOctets octets → octets_of (bits_of octets) ≡ octets
octets_of-bits_of [] small = refl
octets_of-bits_of (n ∷ octets) small =
    grind (arith, All-head IsOctet n octets small, octets_of-bits_of octets (All-tail IsOctet n octets small))

pub length-octets_of : (n : ℕ) (bits : List ℕ) → length bits ≡ 8 * n → length (octets_of bits) ≡ n
length-octets_of zero [] e = refl
length-octets_of (suc n) (a ∷ b ∷ c ∷ d ∷ f ∷ g ∷ h ∷ i ∷ bits) e = ap suc (length-octets_of n bits (omega arith))
length-octets_of n bits e = absurd (omega arith)

pub AllOctets-octets_of : (bits : List ℕ) → AllBits bits → AllOctets (octets_of bits)
AllOctets-octets_of (a ∷ b ∷ c ∷ d ∷ e ∷ f ∷ g ∷ h ∷ bits) all =
    let each = recursion_from_All IsBit (a ∷ b ∷ c ∷ d ∷ e ∷ f ∷ g ∷ h ∷ bits) all in
    All-cons IsOctet (a + 2 * b + 4 * c + 8 * d + 16 * e + 32 * f + 64 * g + 128 * h) (octets_of bits) (omega arith)
    (AllOctets-octets_of bits (All-drop IsBit 8 (a ∷ b ∷ c ∷ d ∷ e ∷ f ∷ g ∷ h ∷ bits) all))
AllOctets-octets_of bits all = All-nil IsOctet

pub bits_of-octets_of : (bits : List ℕ) (n : ℕ) → length bits ≡ 8 * n → AllBits bits → bits_of (octets_of bits) ≡ bits
bits_of-octets_of [] n count all = refl
bits_of-octets_of (a ∷ b ∷ c ∷ d ∷ e ∷ f ∷ g ∷ h ∷ bits) n count all =
    let each = recursion_from_All IsBit (a ∷ b ∷ c ∷ d ∷ e ∷ f ∷ g ∷ h ∷ bits) all in
    grind (
      arith,
      bits_of-octets_of bits (n - 1) (omega arith)
          (All-drop IsBit 8 (a ∷ b ∷ c ∷ d ∷ e ∷ f ∷ g ∷ h ∷ bits) all),
    )
bits_of-octets_of bits n count all = absurd (omega arith)

-- ---- one step of the loops: one more octet is unpacked or packed

octets_of-append : (n : ℕ) (xs ys : List ℕ) → length xs ≡ 8 * n → octets_of (xs ++ ys) ≡ octets_of xs ++ octets_of ys
octets_of-append zero [] ys e = refl
octets_of-append (suc n) (a ∷ b ∷ c ∷ d ∷ f ∷ g ∷ h ∷ i ∷ xs) ys e = cc (octets_of-append n xs ys (omega arith))
octets_of-append n xs ys e = absurd (omega arith)

octet_of_eight : (bits : List ℕ) → length bits ≡ 8 → AllBits bits →
    (n : ℕ) × (n < 256) × (octet_bits n ≡ bits) × (octets_of bits ≡ n ∷ [])
octet_of_eight (a ∷ b ∷ c ∷ d ∷ e ∷ f ∷ g ∷ h ∷ []) count all =
    let bits = a ∷ b ∷ c ∷ d ∷ e ∷ f ∷ g ∷ h ∷ [] in
    (get_or (octets_of bits) 0 0, AllOctets-octets_of bits all 0 0 (omega arith), bits_of-octets_of bits 1 count all, refl)
octet_of_eight bits count all = absurd (omega arith)

pub octets_of_more : (octets bits : List ℕ) (m octet n : ℕ) → m < length octets → length bits ≡ 8 * length octets → n ≡ 8 →
    octets_of (take n (drop (8 * m) bits)) ≡ octet ∷ [] → take m octets ≡ octets_of (take (8 * m) bits) →
    take (m + 1) (set octets m octet) ≡ octets_of (take (8 * (m + 1)) bits)
octets_of_more octets bits m octet n within count eight here before =
    let at : 8 * (m + 1) ≡ 8 * m + n = omega arith in
    cc (
      take_more_set octets m octet within,
      before,
      here,
      octets_of-append m (take (8 * m) bits) (take n (drop (8 * m) bits)) (omega (arith, length-take (8 * m) bits)),
      take-add (8 * m) n bits,
      at,
    )

-- ## OctetPlaces: The single bits of a list that `bits_of` unpacks from octets.

pub get_or-bits_of : (octets : List ℕ) (m i : ℕ) → i < 8 → get_or (bits_of octets) (8 * m + i) 0 ≡ bit_of (get_or octets m 0) i
get_or-bits_of [] m i lt = rw (zero-div (2 ^ i))
get_or-bits_of (octet ∷ octets) zero (suc (suc (suc (suc (suc (suc (suc (suc i)))))))) lt = absurd (omega arith)
get_or-bits_of (octet ∷ octets) zero i lt = omega arith
get_or-bits_of (octet ∷ octets) (suc m) i lt = grind (arith, get_or-bits_of octets m i lt)

-- ## OctetWords: The multiplications that unpack an octet into eight octets of one bit each and pack them again, checked by computation on
-- all 256 octets.

-- the bits of an octet, each in an octet of its own, as the multiplication unpacks them
abbrev pub unpacking : ℕ → List ℕ
unpacking octet =
    to_le_bytes w64
    (bit_and ((bit_and (octet * 0x0101010101010101 % 2 ^ 64) 0x8040201008040201 + 0x7f7f7f7f7f7f7f7f) % 2 ^ 64 / 2 ^ 7)
    0x0101010101010101)

pub unpacked_bits : (octet : ℕ) → octet < 256 → unpacking octet ≡ octet_bits octet
unfolding passes_below
unpacked_bits octet within = (bytes_eq-Decides (unpacking octet) (octet_bits octet)).0
    (at_passes_below (λ n. bytes_eq (unpacking n) (octet_bits n)) 256 refl octet within)

-- the octet into which the multiplication packs eight bits
abbrev pub packing : List ℕ → ℕ
packing bits =
    (from_le_bytes w64 (get_or bits 0 0 ∷ get_or bits 1 0 ∷ get_or bits 2 0 ∷ get_or bits 3 0 ∷
    get_or bits 4 0 ∷ get_or bits 5 0 ∷ get_or bits 6 0 ∷ get_or bits 7 0 ∷ []) * 0x0102040810204080) % 2 ^ 64 / 2 ^ 56

pub octets_of-packing : (bits : List ℕ) → length bits ≡ 8 → AllBits bits → octets_of bits ≡ packing bits ∷ []
unfolding passes_below
octets_of-packing bits count all =
    let of = octet_of_eight bits count all in
    let same = (Decides-eqb (packing (octet_bits of.0)) of.0).0
    (at_passes_below (λ n. eqb (packing (octet_bits n)) n) 256 refl of.0 of.1) in cc (of.3, of.2, same)

-- ## WrongPlaces: The number of wrong bits in a list is the sum of the numbers of wrong bits in its first m elements and in the rest.

none : (soft : List ℤ) → count_wrong_bits soft [] ≡ 0
none [] = refl
none (p ∷ soft) = refl

pub count_wrong_bits-parts : (m : ℕ) (soft : List ℤ) (bits : List ℕ) →
    count_wrong_bits (take m soft) (take m bits) + count_wrong_bits (drop m soft) (drop m bits) ≡ count_wrong_bits soft bits
count_wrong_bits-parts zero soft bits = omega arith
count_wrong_bits-parts (suc m) [] bits = refl
count_wrong_bits-parts (suc m) (p ∷ soft) [] = omega (arith, none (drop m soft))
count_wrong_bits-parts (suc m) (p ∷ soft) (x ∷ bits) = omega (arith, count_wrong_bits-parts m soft bits)
