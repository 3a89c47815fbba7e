-- The encoder as a state machine: its state, 0 to 15, consists of the last four input bits, the newest as the least significant bit.
use Rattle.std.specs.Prelude.{ℕ, ◌+◌, ◌*◌, ◌/◌, ◌%◌, List, [], ◌∷◌}

-- the state of the encoder after it reads one more bit in a given state
abbrev pub next_trellis_state : (state bit : ℕ) → ℕ
next_trellis_state state bit = (2 * state + bit) % 16

-- the first coded bit (generator G0) of an input bit that the encoder reads in a given state
abbrev pub first_coded_bit : (state bit : ℕ) → ℕ
first_coded_bit state bit = (bit + state / 4 % 2 + state / 8 % 2) % 2

-- the second coded bit (generator G1) of an input bit that the encoder reads in a given state
abbrev pub second_coded_bit : (state bit : ℕ) → ℕ
second_coded_bit state bit = (bit + state % 2 + state / 4 % 2 + state / 8 % 2) % 2

-- the coded bits of a list of input bits if the encoder starts in a given state
abbrev pub encoding_from_state : (state : ℕ) (bits : List ℕ) → List ℕ
encoding_from_state state [] = []
encoding_from_state state (x ∷ u) =
    first_coded_bit state x ∷ second_coded_bit state x ∷ encoding_from_state (next_trellis_state state x) u
