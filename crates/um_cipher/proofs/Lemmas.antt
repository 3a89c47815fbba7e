-- Ciphering twice, and a burst place by place.
use Rattle.std.proofs.Common.{Bool, List, [], ap, ap₂, arith, cond, eqb, false, true, get_or, length, map, refl, zero, suc, ℕ, ℤ}
use Rattle.std.proofs.Common.{pos, negsuc, ◌+◌, ◌<◌, ◌≡◌, ◌≤◌}
use Rattle.std.proofs.Common.{◌∙◌, ◌∷◌, sym, take, drop, replicate, ◌++◌}
use Rattle.std.specs.Prelude.{neg_ℤ}
use Rattle.std.proofs.lemmas.List.Elements.{All-append, All-drop, All-head, All-replicate, All-tail, All-take}
use Rattle.std.proofs.lemmas.List.{append_assoc, ext_get_or, length-drop, length-take-le, take_all}
use Rattle.bit_blocks.specs.Bits.{AllBits, IsBit}
use Rattle.um_cipher.specs.Ciphers.{ciphered_bit, ciphered_bits, ciphered_by, ciphered_soft_bit, ciphered_soft_bits, key_bits}

neg_twice : (x : ℤ) → neg_ℤ (neg_ℤ x) ≡ x
neg_twice (pos zero) = refl
neg_twice (pos (suc n)) = refl
neg_twice (negsuc n) = refl

twice_soft : (k : ℕ) (x : ℤ) → ciphered_soft_bit k (ciphered_soft_bit k x) ≡ x
twice_soft k x = by_key (eqb k 0) x
  where
    by_key : (none : Bool) (x : ℤ) → cond none (cond none x (neg_ℤ x)) (neg_ℤ (cond none x (neg_ℤ x))) ≡ x
    by_key true x = refl
    by_key false x = neg_twice x

twice_bit : (k x : ℕ) → k ≤ 1 → x ≤ 1 → ciphered_bit k (ciphered_bit k x) ≡ x
twice_bit k x hk hx = omega arith

twice_bits : (key burst : List ℕ) → AllBits key → AllBits burst →
    ciphered_by ciphered_bit key (ciphered_by ciphered_bit key burst) ≡ burst
twice_bits [] burst hk hb = refl
twice_bits (k ∷ key) [] hk hb = refl
twice_bits (k ∷ key) (x ∷ burst) hk hb =
    ap₂ (λ (y : ℕ) (ys : List ℕ). y ∷ ys) (twice_bit k x (All-head IsBit k key hk) (All-head IsBit x burst hb))
    (twice_bits key burst (All-tail IsBit k key hk) (All-tail IsBit x burst hb))

twice_softs : (key : List ℕ) (burst : List ℤ) → ciphered_by ciphered_soft_bit key (ciphered_by ciphered_soft_bit key burst) ≡ burst
twice_softs [] burst = refl
twice_softs (k ∷ key) [] = refl
twice_softs (k ∷ key) (x ∷ burst) = ap₂ (λ (y : ℤ) (ys : List ℤ). y ∷ ys) (twice_soft k x) (twice_softs key burst)

deciphered_bit : (f : ℕ → ℤ) (k x : ℕ) → k ≤ 1 → x ≤ 1 → f 1 ≡ neg_ℤ (f 0) →
    ciphered_soft_bit k (f (ciphered_bit k x)) ≡ f x
deciphered_bit f zero zero hk hx h = refl
deciphered_bit f zero (suc zero) hk hx h = refl
deciphered_bit f (suc zero) zero hk hx h = ap neg_ℤ h ∙ neg_twice (f 0)
deciphered_bit f (suc zero) (suc zero) hk hx h = sym h
deciphered_bit f (suc (suc k)) x hk hx h = absurd (omega arith)
deciphered_bit f k (suc (suc x)) hk hx h = absurd (omega arith)

deciphered : (f : ℕ → ℤ) (key burst : List ℕ) → AllBits key → AllBits burst → f 1 ≡ neg_ℤ (f 0) →
    ciphered_by ciphered_soft_bit key (map f (ciphered_by ciphered_bit key burst)) ≡ map f burst
deciphered f [] burst hk hb h = refl
deciphered f (k ∷ key) [] hk hb h = refl
deciphered f (k ∷ key) (x ∷ burst) hk hb h =
    ap₂ (λ (y : ℤ) (ys : List ℤ). y ∷ ys) (deciphered_bit f k x (All-head IsBit k key hk) (All-head IsBit x burst hb) h)
    (deciphered f key burst (All-tail IsBit k key hk) (All-tail IsBit x burst hb) h)

pub key_is_bits : (stream : List ℕ) → AllBits stream → AllBits (key_bits stream)
key_is_bits stream h =
    let tail : List ℕ = replicate 3 0 in
    let second : List ℕ = drop 57 stream ++ tail in
    let middle : List ℕ = replicate 28 0 in
    All-append IsBit tail (take 57 stream ++ (middle ++ second)) (All-replicate IsBit 3 0 (omega arith))
    (All-append IsBit (take 57 stream) (middle ++ second) (All-take IsBit 57 stream h)
    (All-append IsBit middle second (All-replicate IsBit 28 0 (omega arith))
    (All-append IsBit (drop 57 stream) tail (All-drop IsBit 57 stream h) (All-replicate IsBit 3 0 (omega arith)))))

pub twice_nothing : (stream burst : List ℕ) → AllBits stream → AllBits burst →
    ciphered_bits stream (ciphered_bits stream burst) ≡ burst
unfolding ciphered_bits
twice_nothing stream burst hs hb = twice_bits (key_bits stream) burst (key_is_bits stream hs) hb

pub twice_nothing_soft : (stream : List ℕ) (burst : List ℤ) →
    ciphered_soft_bits stream (ciphered_soft_bits stream burst) ≡ burst
unfolding ciphered_soft_bits
twice_nothing_soft stream burst = twice_softs (key_bits stream) burst

pub received_as_sent : (stream burst : List ℕ) (f : ℕ → ℤ) → AllBits stream → AllBits burst → f 1 ≡ neg_ℤ (f 0) →
    ciphered_soft_bits stream (map f (ciphered_bits stream burst)) ≡ map f burst
unfolding ciphered_bits ciphered_soft_bits
received_as_sent stream burst f hs hb h = deciphered f (key_bits stream) burst (key_is_bits stream hs) hb h

-- ## Places: the cipher place by place.

length-ciphered : {A : Type 0} (cipher : ℕ → A → A) (key : List ℕ) (burst : List A) →
    length (ciphered_by cipher key burst) ≡ length burst
length-ciphered cipher [] burst = refl
length-ciphered cipher (k ∷ key) [] = refl
length-ciphered cipher (k ∷ key) (x ∷ burst) = ap suc (length-ciphered cipher key burst)

at-ciphered : {A : Type 0} (cipher : ℕ → A → A) (key : List ℕ) (burst : List A) (i : ℕ) (d : A) → i < length key →
    i < length burst →
    get_or (ciphered_by cipher key burst) i d ≡ cipher (get_or key i 0) (get_or burst i d)
at-ciphered cipher [] burst i d hk hb = absurd (omega arith)
at-ciphered cipher (k ∷ key) [] i d hk hb = absurd (omega arith)
at-ciphered cipher (k ∷ key) (x ∷ burst) zero d hk hb = refl
at-ciphered cipher (k ∷ key) (x ∷ burst) (suc i) d hk hb = at-ciphered cipher key burst i d (omega arith) (omega arith)

by_places : {A : Type 0} (cipher : ℕ → A → A) (key : List ℕ) (burst ciphered : List A) (d : A) → length key ≡ length burst →
    length ciphered ≡ length burst →
    ((i : ℕ) → i < length burst → get_or ciphered i d ≡ cipher (get_or key i 0) (get_or burst i d)) →
    ciphered ≡ ciphered_by cipher key burst
by_places cipher key burst ciphered d same long each =
    ext_get_or d ciphered (ciphered_by cipher key burst) (long ∙ sym (length-ciphered cipher key burst))
    (λ i lt. each i (omega arith) ∙ sym (at-ciphered cipher key burst i d (omega arith) (omega arith)))

pub bits_by_places : (stream key burst ciphered : List ℕ) → key ≡ key_bits stream → length key ≡ 148 → length burst ≡ 148 →
    length ciphered ≡ 148 →
    ((i : ℕ) → i < 148 → get_or ciphered i 0 ≡ ciphered_bit (get_or key i 0) (get_or burst i 0)) →
    ciphered ≡ ciphered_bits stream burst
unfolding ciphered_bits
bits_by_places stream key burst ciphered is hk hb hc each =
    by_places ciphered_bit key burst ciphered 0 (hk ∙ sym hb) (hc ∙ sym hb) (λ i lt. each i (omega arith))
    ∙ ap (λ (k : List ℕ). ciphered_by ciphered_bit k burst) is

pub soft_bits_by_places : (stream key : List ℕ) (burst ciphered : List ℤ) → key ≡ key_bits stream → length key ≡ 148 →
    length burst ≡ 148 → length ciphered ≡ 148 →
    ((i : ℕ) → i < 148 → get_or ciphered i (pos 0) ≡ ciphered_soft_bit (get_or key i 0) (get_or burst i (pos 0))) →
    ciphered ≡ ciphered_soft_bits stream burst
unfolding ciphered_soft_bits
soft_bits_by_places stream key burst ciphered is hk hb hc each =
    by_places ciphered_soft_bit key burst ciphered (pos 0) (hk ∙ sym hb) (hc ∙ sym hb) (λ i lt. each i (omega arith))
    ∙ ap (λ (k : List ℕ). ciphered_by ciphered_soft_bit k burst) is

-- ## Key: two halves written into zeros.

take_over : (xs ys : List ℕ) (n k : ℕ) → n ≡ length xs + k → take n (xs ++ ys) ≡ xs ++ take k ys
take_over [] ys n k e = ap (λ (m : ℕ). take m ys) (e ∙ omega arith)
take_over (x ∷ xs) ys zero k e = absurd (omega arith)
take_over (x ∷ xs) ys (suc n) k e = ap (λ (l : List ℕ). x ∷ l) (take_over xs ys n k (omega arith))

drop_over : (xs ys : List ℕ) (n k : ℕ) → n ≡ length xs + k → drop n (xs ++ ys) ≡ drop k ys
drop_over [] ys n k e = ap (λ (m : ℕ). drop m ys) (e ∙ omega arith)
drop_over (x ∷ xs) ys zero k e = absurd (omega arith)
drop_over (x ∷ xs) ys (suc n) k e = drop_over xs ys n k (omega arith)

pub placed_key : (stream first second : List ℕ) → length stream ≡ 114 →
    first ≡ 0 ∷ 0 ∷ 0 ∷ (take 57 stream ++ drop (3 + length (take 57 stream)) (replicate 148 0)) →
    second ≡ (take 88 first ++ take 57 (drop 57 stream)) ++ drop (88 + length (take 57 (drop 57 stream))) first →
    second ≡ key_bits stream
placed_key stream first second long is is' =
    let a : List ℕ = take 57 stream in
    let b : List ℕ = drop 57 stream in
    let la : length a ≡ 57 = length-take-le 57 stream (omega arith) in
    let lb : length b ≡ 57 = length-drop 57 stream ∙ omega arith in
    let whole : take 57 b ≡ b = take_all 57 b (omega arith) in
    let front : take 85 (a ++ replicate 88 0) ≡ a ++ replicate 28 0 = take_over a (replicate 88 0) 85 28 (omega arith) in
    let back : drop 142 (a ++ replicate 88 0) ≡ replicate 3 0 = drop_over a (replicate 88 0) 142 85 (omega arith) in
    let three : List ℕ → List ℕ = λ l. 0 ∷ 0 ∷ 0 ∷ l in
    let head : take 88 first ≡ three (a ++ replicate 28 0) =
    ap (take 88) (is ∙ ap (λ (n : ℕ). three (a ++ drop (3 + n) (replicate 148 0))) la) ∙ ap three front in
    let tail : drop 145 first ≡ replicate 3 0 =
    ap (drop 145) (is ∙ ap (λ (n : ℕ). three (a ++ drop (3 + n) (replicate 148 0))) la) ∙ back in
    is' ∙ ap (λ (n : ℕ). (take 88 first ++ take 57 b) ++ drop (88 + n) first) (ap length whole ∙ lb)
    ∙ ap₂ (λ (x y : List ℕ). (x ++ take 57 b) ++ y) head tail
    ∙ ap (λ (x : List ℕ). three (((a ++ replicate 28 0) ++ x) ++ replicate 3 0)) whole
    ∙ ap three (append_assoc (a ++ replicate 28 0) b (replicate 3 0) ∙ append_assoc a (replicate 28 0) (b ++ replicate 3 0))
