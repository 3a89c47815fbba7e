-- Erasure decoding of a block of FACCH (this project's own rule): the bursts that carry it are erased as they were sent, so of the block
-- one half of a burst is lost with each.
use Rattle.std.specs.Prelude.{ℕ, ◌≡◌, ◌+◌, ◌-◌, ℤ, List, length, map}
use Rattle.um_facch.specs.Facch.{IsListDecodedFacch}
use Rattle.um_facch.specs.Training.{wrong_training_of_each}
use Rattle.um_list_receive.specs.declared.reports.ListDecodedBlock.{ListDecodedBlock}
use Rattle.um_erasing.specs.Erasing.{IsErasingChoice}
use Rattle.um_erasing.specs.declared.facch.ErasingDecodedFacch.{ErasingDecodedFacch}

-- `decoded` is the report of a block that these bursts carry, of which at most `max_words` words were tried, and then as many without each
-- of at most `erasures` bursts
pub record IsErasingDecodedFacch (bursts : List (List ℤ)) (max_words erasures : ℕ) (decoded : ErasingDecodedFacch) : Type 0 where
  pub first : ListDecodedBlock
  pub first_is_decoded : IsListDecodedFacch bursts max_words first
  pub wrong_training : decoded.wrong_training ≡ wrong_training_of_each bursts first.report.tsc
  pub choice : IsErasingChoice (length bursts - 1) (λ rest block. IsListDecodedFacch rest max_words block) bursts erasures
      (map (λ wrong. wrong + 1) decoded.wrong_training) first decoded.block decoded.erased
