-- What the answers of `margin` compare (this project's own rule). The rules compute the answers; this relation says what they are.
use Rattle.std.specs.Prelude.{ℕ, ℤ, ◌≡◌, List, [], ◌∷◌, ◌++◌}
use Rattle.um_block.specs.Received.{access_soft_bits, sync_soft_bits}
use Rattle.um_margin.specs.Compared.{TwoMostLikelyWords, AreTwoMostLikelyWords, AreTwoMostLikelyBlockWords}
use Rattle.um_margin.specs.Texts.{block_margin_text, access_margin_text, sync_margin_text}
use Rattle.um_replay.specs.um_formats.declared.burst_lines.BurstLine.{BurstLine}
use Rattle.um_replay.specs.um_formats.declared.burst_lines.BurstLine.TheVariants.{Skip, Normal, Access, Sync}

-- `text` compares the two most likely words for the bursts that are decoded: the fourth burst of a block with the three held before it, in
-- order, or a single burst
abbrev pub ComparesWords : (held : List (List ℤ)) (line : BurstLine) (text : List ℕ) → Type 0
ComparesWords held Skip text = text ≡ []
ComparesWords held (Normal soft) text =
    (c : TwoMostLikelyWords) × AreTwoMostLikelyBlockWords (held ++ soft ∷ []) c × (text ≡ block_margin_text c)
ComparesWords held (Access bsic soft) text =
    (c : TwoMostLikelyWords) × AreTwoMostLikelyWords (access_soft_bits soft) c × (text ≡ access_margin_text bsic c)
ComparesWords held (Sync soft) text =
    (c : TwoMostLikelyWords) × AreTwoMostLikelyWords (sync_soft_bits soft) c × (text ≡ sync_margin_text c)
