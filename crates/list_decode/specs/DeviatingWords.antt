-- Words that deviate from another word at one position, and the path metric that the deviation costs.
use Rattle.std.specs.Prelude.{ℕ, ◌≡◌, Bool, ◌&&◌, nat_le, nat_lt, true, ◌-◌, ◌<◌, ℤ, pos}
use Rattle.std.specs.Prelude.{◌≤ℤ◌, List, []}
use Rattle.std.specs.Prelude.{◌∷◌, slice_index, slice_index_or, take}
use Rattle.std.proofs.Common.{zero, suc}
use Rattle.trellis_decode.specs.Trellis.{next_trellis_state, traceback}

-- the trellis state that the encoder reaches from a given state when it reads a list of bits
abbrev pub state_after_bits : (state : ℕ) (bits : List ℕ) → ℕ
state_after_bits state [] = state
state_after_bits state (x ∷ u) = state_after_bits (next_trellis_state state x) u

-- the loss of a deviation from `word` at `index`, read from the table `losses`: how much path metric the deviation costs
abbrev pub deviation_loss : (state : ℕ) (word : List ℕ) (losses : List (List ℤ)) (index : ℕ) → ℤ
deviation_loss state u losses index = slice_index_or (slice_index_or losses index []) (state_after_bits state (take index u)) (pos 0)

-- `index` is the position before `limit` where deviating from `word` has the least loss, which is `loss`; among positions with this loss,
-- it gives the first word in lexicographic order
pub record IsLeastLossPosition (word : List ℕ) (losses : List (List ℤ)) (limit index : ℕ) (loss : ℤ) : Type 0 where
  pub value : loss ≡ deviation_loss 0 word losses index
  pub least : (k : ℕ) → k < limit → loss ≤ℤ deviation_loss 0 word losses k
  pub tie_before : (k : ℕ) → k < index → deviation_loss 0 word losses k ≡ loss → slice_index word k ≡ 0
  pub tie_after : (k : ℕ) → index < k → k < limit → deviation_loss 0 word losses k ≡ loss → slice_index word index ≡ 1

-- the word, starting in a given state, follows the survivors from position `from` on
abbrev pub FollowsSurvivors : (from : ℕ) (word rows : List ℕ) (state : ℕ) → Type 0
FollowsSurvivors zero u rows state = u ≡ traceback rows state
FollowsSurvivors (suc from) [] rows state = ⊥
FollowsSurvivors (suc from) (x ∷ u) [] state = ⊥
FollowsSurvivors (suc from) (x ∷ u) (row ∷ rows) state = FollowsSurvivors from u rows (next_trellis_state state x)

-- the word that agrees with a given word before a given position, differs there, and then follows the survivors; both words start in a
-- given state
abbrev pub word_deviating_at : (word rows : List ℕ) (state index : ℕ) → List ℕ
word_deviating_at [] rows state index = []
word_deviating_at (x ∷ u) [] state index = []
word_deviating_at (x ∷ u) (row ∷ rows) state zero = (1 - x) ∷ traceback rows (next_trellis_state state (1 - x))
word_deviating_at (x ∷ u) (row ∷ rows) state (suc index) = x ∷ word_deviating_at u rows (next_trellis_state state x) index

-- whether position `index` is at least `from` and less than `to`
abbrev pub is_in_range : (from to index : ℕ) → Bool
is_in_range from to k = nat_le from k && nat_lt k to

-- of all deviations from `word` at positions before `limit` where `free` is true, the one at `index` loses the least path metric; of those
-- that lose the same, it produces the first word in lexicographic order
pub record IsLeastLossFreePosition (word : List ℕ) (losses : List (List ℤ)) (free : ℕ → Bool) (limit index : ℕ) : Type 0 where
  pub in_range : index < limit
  pub index_is_free : free index ≡ true
  pub least : (k : ℕ) → k < limit → free k ≡ true → deviation_loss 0 word losses index ≤ℤ deviation_loss 0 word losses k
  pub tie_before : (k : ℕ) → k < index → free k ≡ true → deviation_loss 0 word losses k ≡ deviation_loss 0 word losses index
      →
      slice_index word k ≡ 0
  pub tie_after : (k : ℕ) → index < k → k < limit → free k ≡ true → deviation_loss 0 word losses k
      ≡ deviation_loss 0 word losses index →
      slice_index word index ≡ 1
