-- Error bursts (wrong bits within twelve consecutive bits), each given by a start position and a shape. The shape is a twelve-bit number
-- whose bit `i` is 1 if bit `start + i` of the word is wrong.
use Rattle.std.specs.Prelude.{ℕ, ◌-◌, ◌*◌, ◌/◌, ◌%◌, ◌^◌, List, bit_xor}
use Rattle.std.proofs.Common.{zero, suc}
use Rattle.fire_code.specs.Registers.{low_bits}

-- one step of the Fire code's shift register: multiplies a 40-bit register by D modulo the generator. The least significant bit is the
-- coefficient of D^39
abbrev pub lfsr_step : (register : ℕ) → ℕ
lfsr_step register = bit_xor (register / 2) (register % 2 * 618479558656)

-- multiplies a 40-bit register by D a given number of times, modulo the Fire code's generator
unfoldable pub lfsr_steps : (step_count register : ℕ) → ℕ
lfsr_steps zero register = register
lfsr_steps (suc n) register = lfsr_steps n (lfsr_step register)

-- the syndrome of an error burst, from its start (0 to 212, in a word of 224 bits) and its shape
abbrev pub error_burst_syndrome : (start shape : ℕ) → ℕ
error_burst_syndrome start shape = lfsr_steps (212 - start) (shape * 2 ^ 28)

-- an error burst, given by its start and its shape, as a list of 224 bits that are 1 where the word is wrong
abbrev pub error_bits : (start shape : ℕ) → List ℕ
error_bits start shape = low_bits 224 (shape * 2 ^ start)
