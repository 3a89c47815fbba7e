-- Erasure decoding (this project's own rule): if the CRC holds for no word of a block, the block is decoded again with single bursts set to
-- zeros, the burst with the most wrong training bits first.
use Rattle.std.specs.Prelude.{ℕ, zero, suc, ◌≡◌, ◌+◌, nat_lt, if◌then◌else◌, ℤ, pos, List, [], ◌∷◌, map}
use Rattle.std.specs.Prelude.{replicate, slice_index, slice_set, Option, Some, None, MatchOption}
use Rattle.um_block.specs.bit_blocks.SoftValues.{count_wrong_bits}
use Rattle.um_block.specs.burst_map.training_seq.Sequences.{midamble}
use Rattle.um_block.specs.Received.{midamble_of_burst}
use Rattle.um_list_receive.specs.ListDecoding.{IsListDecodedBlock}
use Rattle.um_list_receive.specs.declared.reports.ListDecodedBlock.{ListDecodedBlock}
use Rattle.um_erasing.specs.declared.blocks.ErasedBlock.{ErasedBlock}
use Rattle.um_erasing.specs.declared.blocks.ErasingDecodedBlock.{ErasingDecodedBlock}

-- how many of the 26 training bits of burst number `index` disagree with the training sequence of a given code
abbrev pub wrong_training_of_burst : (bursts : List (List ℤ)) (tsc index : ℕ) → ℕ
wrong_training_of_burst bursts tsc b = count_wrong_bits (midamble_of_burst bursts b) (midamble tsc)

-- the same for the four bursts of a block
abbrev pub wrong_training_of_bursts : (bursts : List (List ℤ)) (tsc : ℕ) → List ℕ
wrong_training_of_bursts bursts tsc =
    wrong_training_of_burst bursts tsc 0 ∷ wrong_training_of_burst bursts tsc 1 ∷ wrong_training_of_burst bursts tsc 2
    ∷ wrong_training_of_burst bursts tsc 3 ∷ []

-- the bursts with burst number `index` erased, that is, set to zeros
abbrev pub without_burst : (bursts : List (List ℤ)) (index : ℕ) → List (List ℤ)
without_burst bursts b = slice_set bursts b (replicate 148 (pos 0))

-- the greater of two indexes by their numbers in a list, the first of equal ones
abbrev pub greater_of : (numbers : List ℕ) (first second : ℕ) → ℕ
greater_of numbers a b = if nat_lt (slice_index numbers a) (slice_index numbers b) then b else a

-- the index, 0 to `last`, of the greatest number, the first of equal ones
abbrev pub index_of_greatest : (last : ℕ) (numbers : List ℕ) → ℕ
index_of_greatest zero numbers = 0
index_of_greatest (suc n) numbers = greater_of numbers (index_of_greatest n numbers) (suc n)

-- `found` is the first block that is accepted when at most `count` bursts are erased in turn, that with the greatest distrust first; an
-- erased burst gets the distrust 0, those not erased yet have more. `IsDecoded` says what the bursts 0 to `last` are decoded to
abbrev pub IsErasingSearch : (last : ℕ) (IsDecoded : (List (List ℤ) → ListDecodedBlock → Type 0)) (bursts : List (List ℤ))
    (count : ℕ) (distrust : List ℕ) (found : Option ErasedBlock) → Type 0
IsErasingSearch last IsDecoded bursts zero distrust found = found ≡ None
IsErasingSearch last IsDecoded bursts (suc n) distrust found =
    let index = index_of_greatest last distrust in
    (decoded : ListDecodedBlock) × IsDecoded (without_burst bursts index) decoded
    × MatchOption decoded.report.accepted
    (IsErasingSearch last IsDecoded bursts n (slice_set distrust index 0) found)
    (λ _. found ≡ Some (record { block = decoded; erased = index }))

-- the report with the erased block that was found, or else the block as received
abbrev pub IsFoundOrFirst : (first : ListDecodedBlock) (found : Option ErasedBlock) (block : ListDecodedBlock) (erased : Option ℕ)
    → Type 0
IsFoundOrFirst first None block erased = (block ≡ first) × (erased ≡ None)
IsFoundOrFirst first (Some e) block erased = (block ≡ e.block) × (erased ≡ Some e.erased)

-- the block is `first` if that is accepted, or else the erased block that is found, or else `first`
abbrev pub IsErasingChoice : (last : ℕ) (IsDecoded : (List (List ℤ) → ListDecodedBlock → Type 0)) (bursts : List (List ℤ))
    (erasures : ℕ) (distrust : List ℕ) (first block : ListDecodedBlock) (erased : Option ℕ) → Type 0
IsErasingChoice last IsDecoded bursts erasures distrust first block erased =
    MatchOption first.report.accepted
    ((found : Option ErasedBlock) × IsErasingSearch last IsDecoded bursts erasures distrust found
    × IsFoundOrFirst first found block erased)
    (λ _. (block ≡ first) × (erased ≡ None))

-- `decoded` is the report of a block of which at most `max_words` words were tried, and then as many without each of at most `erasures`
-- bursts
pub record IsErasingDecodedBlock (bursts : List (List ℤ)) (max_words erasures : ℕ) (decoded : ErasingDecodedBlock) : Type 0 where
  pub first : ListDecodedBlock
  pub first_is_decoded : IsListDecodedBlock bursts max_words first
  pub wrong_training : decoded.wrong_training ≡ wrong_training_of_bursts bursts first.report.tsc
  pub choice : IsErasingChoice 3 (λ rest block. IsListDecodedBlock rest max_words block) bursts erasures
      (map (λ wrong. wrong + 1) decoded.wrong_training) first decoded.block decoded.erased
