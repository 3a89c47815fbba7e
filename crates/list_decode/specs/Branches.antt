-- A span is a range of positions in a returned word. A branch consists of a span and the most likely word that deviates from the returned
-- word within the span.
use Rattle.std.specs.Prelude.{ℕ, ◌≡◌, ◌≢◌, ◌≤◌, ◌<◌, ◌+◌, List, [], length}
use Rattle.std.specs.Prelude.{take, slice_index, slice_index_or, IfSome, Option, Some, None}
use Rattle.weight_bound.specs.conv_code.Code.{encoding}
use Rattle.weight_bound.specs.conv_code.Likelihood.{likelihood, RanksAfter}
use Rattle.list_decode.specs.Classes.{DeviationClass, IsInClass}
use Rattle.list_decode.specs.DeviatingWords.{FollowsSurvivors, state_after_bits, word_deviating_at}
pub use Rattle.list_decode.specs.DeviatingWords.{is_in_range}
use Rattle.list_decode.specs.Passes.{soft_bits_of_pass, decision_rows}
use Rattle.list_decode.specs.Ranking.{IsCandidate}
use Rattle.list_decode.specs.declared.branch.WordBranch.{WordBranch}
use Rattle.list_decode.specs.declared.branch.WordSpan.{WordSpan}
use Rattle.list_decode.specs.declared.branch.Deviation.{Deviation}
use Rattle.list_decode.specs.declared.pass.ViterbiPass.{ViterbiPass}

-- the class of words whose first difference from a given word lies in a span
abbrev pub deviations_in_span : (word : List ℕ) (span : WordSpan) → DeviationClass
deviations_in_span u span = record { word = u; may_deviate_at = is_in_range span.from span.to }

-- the word that results from applying a deviation to a given word
abbrev pub word_of_deviation : (pass : ViterbiPass) (word : List ℕ) (deviation : Deviation) → List ℕ
word_of_deviation pass u x = word_deviating_at u (decision_rows pass) 0 x.point.index

-- `span` is a span of `word`: it holds the path metric of `word` and the trellis state before the span, and `word` follows the survivors
-- from the start of the span on
pub record IsSpanOfWord (pass : ViterbiPass) (word : List ℕ) (span : WordSpan) : Type 0 where
  pub follows : FollowsSurvivors span.from word (decision_rows pass) 0
  pub value : span.metric ≡ likelihood (soft_bits_of_pass pass) (encoding word)
  pub order : span.from ≤ span.to
  pub span_ends_before_tail : span.to + 4 ≤ length word
  pub state_in_range : span.state < 16
  pub state : span.state ≡ state_after_bits 0 (take span.from word)

-- `deviation` is a deviation from `word`, and `word` follows the survivors from the position of the deviation on
pub record IsDeviation (pass : ViterbiPass) (word : List ℕ) (deviation : Deviation) : Type 0 where
  pub in_range : deviation.point.index + 4 < length word
  pub follows : FollowsSurvivors deviation.point.index word (decision_rows pass) 0
  pub value : deviation.metric ≡ likelihood (soft_bits_of_pass pass) (encoding (word_of_deviation pass word deviation))
  pub state_in_range : deviation.point.state < 16
  pub state : deviation.point.state ≡ state_after_bits 0 (take deviation.point.index word)
  pub bit : deviation.point.bit ≡ slice_index word deviation.point.index

-- `x` is a deviation from the candidate `word` within `span`
pub record IsDeviationInSpan (pass : ViterbiPass) (word : List ℕ) (span : WordSpan) (x : Deviation) : Type 0 where
  pub candidate : IsCandidate (soft_bits_of_pass pass) word
  pub is_span : IsSpanOfWord pass word span
  pub deviation : IsDeviation pass word x
  pub from : span.from ≤ x.point.index
  pub to : x.point.index < span.to

-- `best` is the deviation that produces the most likely word that deviates from `word` within `span`, or `None` if no candidate deviates
-- there
abbrev pub IsMostLikelyDeviation : (pass : ViterbiPass) (word : List ℕ) (span : WordSpan) (best : Option Deviation) → Type 0
IsMostLikelyDeviation pass u span None = (w : List ℕ) → IsCandidate (soft_bits_of_pass pass) w →
    IsInClass (deviations_in_span u span) w → ⊥
IsMostLikelyDeviation pass u span (Some x) =
    IsDeviation pass u x × (x.word_index ≡ span.word_index) × (span.from ≤ x.point.index) × (x.point.index < span.to) ×
    ((w : List ℕ) → IsCandidate (soft_bits_of_pass pass) w → IsInClass (deviations_in_span u span) w →
    w ≢ word_of_deviation pass u x →
    RanksAfter (soft_bits_of_pass pass) w (word_of_deviation pass u x))

-- `branch` consists of a span of `word`, the most likely word that deviates from `word` within it, and the path metric of that word
pub record IsBranch (pass : ViterbiPass) (word : List ℕ) (branch : WordBranch) : Type 0 where
  pub span : IsSpanOfWord pass word branch.span
  pub best : IsMostLikelyDeviation pass word branch.span branch.best
  pub metric : IfSome branch.best (λ best. branch.metric ≡ best.metric)

-- `branch` is a branch of one of the returned words `returned`
pub record IsBranchOfReturnedWord (pass : ViterbiPass) (returned : List (List ℕ)) (branch : WordBranch) : Type 0 where
  pub in_range : branch.span.word_index < length returned
  pub is_branch : IsBranch pass (slice_index_or returned branch.span.word_index []) branch

-- the class of words that deviate from a returned word within the span of a branch
abbrev pub class_of_branch : (returned : List (List ℕ)) (branch : WordBranch) → DeviationClass
class_of_branch us branch = deviations_in_span (slice_index_or us branch.span.word_index []) branch.span
