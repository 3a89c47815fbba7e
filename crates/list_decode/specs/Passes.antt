-- The results of the backward Viterbi pass over the soft bits.
use Rattle.std.specs.Prelude.{ℕ, ◌≡◌, ◌≤◌, ◌*◌, ℤ, List, length, take}
use Rattle.weight_bound.specs.conv_code.Likelihood.{AllSoftBits}
use Rattle.trellis_decode.specs.Trellis.{AreDecisions}
use Rattle.list_decode.specs.SurvivorTails.{AreBestLaterDeviations}
use Rattle.list_decode.specs.declared.pass.ViterbiPass.{ViterbiPass}

-- the soft bits of a pass, two for each information bit
abbrev pub soft_bits_of_pass : ViterbiPass → List ℤ
soft_bits_of_pass pass = take (2 * pass.bits) pass.soft

-- the decision rows: the decision (survivor bit) of each state at each position
abbrev pub decision_rows : ViterbiPass → List ℕ
decision_rows pass = take pass.bits pass.decisions

-- the losses of a pass: how much path metric each state loses at each position if the other bit is taken
abbrev pub losses_of_pass : ViterbiPass → List (List ℤ)
losses_of_pass pass = take pass.bits pass.losses

-- `pass` holds the soft bits of 5 to 228 information bits; the backward pass may not have run yet
pub record HasSoftBits (pass : ViterbiPass) : Type 0 where
  pub at_least : 5 ≤ pass.bits
  pub at_most : pass.bits ≤ 228
  pub soft_bit_count : length (soft_bits_of_pass pass) ≡ 2 * pass.bits
  pub row_count : length (decision_rows pass) ≡ pass.bits
  pub soft : AllSoftBits (soft_bits_of_pass pass)

-- `pass` holds the soft bits of 5 to 228 information bits, the decisions and losses of all states, and the states and best later deviations
-- of the most likely word
pub record IsCompletePass (pass : ViterbiPass) : Type 0 where
  pub at_least : 5 ≤ pass.bits
  pub at_most : pass.bits ≤ 228
  pub soft_bit_count : length (soft_bits_of_pass pass) ≡ 2 * pass.bits
  pub row_count : length (decision_rows pass) ≡ pass.bits
  pub soft : AllSoftBits (soft_bits_of_pass pass)
  pub decisions : AreDecisions (decision_rows pass) (losses_of_pass pass) (soft_bits_of_pass pass)
  pub tails : AreBestLaterDeviations (decision_rows pass) (losses_of_pass pass) pass.tails
