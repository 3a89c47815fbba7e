-- A normal burst ciphered by a key stream (GSM 03.20, today 3GPP TS 43.020, annex C.1.2): its 114 coded bits, in order, are added to
-- the 114 bits of the stream modulo two; stealing flags, training sequence and tail bits stay.
use Rattle.std.specs.Prelude.{ℕ, ◌+◌, ◌%◌, ◌==◌, if◌then◌else◌}
use Rattle.std.specs.Prelude.{ℤ, neg_ℤ, List, [], ◌∷◌, ◌++◌, replicate, take, drop}

-- the bit of the key stream for each place of a burst: the coded bits stand in places 3 to 59 and 88 to 144; 0 for all others
abbrev pub key_bits : (stream : List ℕ) → List ℕ
key_bits stream = replicate 3 0 ++ (take 57 stream ++ (replicate 28 0 ++ (drop 57 stream ++ replicate 3 0)))

-- a bit that is sent, ciphered by a bit of the key stream
abbrev pub ciphered_bit : (key bit : ℕ) → ℕ
ciphered_bit key bit = (bit + key) % 2

-- a soft bit that was received, deciphered by a bit of the key stream
abbrev pub ciphered_soft_bit : (key : ℕ) (soft : ℤ) → ℤ
ciphered_soft_bit key soft = if key == 0 then soft else neg_ℤ soft

-- each element of a burst, ciphered by the bit of the key at its place
abbrev pub ciphered_by : {A : Type 0} (cipher : ℕ → A → A) (key : List ℕ) (burst : List A) → List A
ciphered_by cipher [] burst = burst
ciphered_by cipher (k ∷ key) [] = []
ciphered_by cipher (k ∷ key) (x ∷ burst) = cipher k x ∷ ciphered_by cipher key burst

-- the bits of a burst, ciphered
unfoldable pub ciphered_bits : (stream burst : List ℕ) → List ℕ
ciphered_bits stream burst = ciphered_by ciphered_bit (key_bits stream) burst

-- the soft bits of a burst, deciphered
unfoldable pub ciphered_soft_bits : (stream : List ℕ) (burst : List ℤ) → List ℤ
ciphered_soft_bits stream burst = ciphered_by ciphered_soft_bit (key_bits stream) burst
