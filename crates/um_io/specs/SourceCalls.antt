-- How a line reader calls its source: it makes no further call after one that reaches the end of the input or fails.
use Rattle.std.specs.Prelude.{ℕ, ◌≡◌, ◌<◌, ◌⊎◌, Bool, false, Option, Some, None, Result, MatchResult}

-- calls that each return at least one octet lead from one state of the source to another; `IsCall` relates the states before and after a
-- call
pub data CallsReturnOctets {S : Type 0} (IsCall : S → Option ℕ → S → Type 0) (first : S) : S → Type 0 where
  none : CallsReturnOctets IsCall first first
  more : (s t : S) (n : ℕ) → CallsReturnOctets IsCall first s → IsCall s (Some n) t → 0 < n → CallsReturnOctets IsCall first t

-- every call to the source but the last returns at least one octet; the last may have any result
pub record StopsAtEndOrFailure {S : Type 0} (IsCall : S → Option ℕ → S → Type 0) (first last : S) : Type 0 where
  pub state_before_last_call : S
  pub earlier_calls : CallsReturnOctets IsCall first state_before_last_call
  pub last_call : (state_before_last_call ≡ last) ⊎ ((answer : Option ℕ) × IsCall state_before_last_call answer last)

-- the source is called exactly once; a successful call that returns no octets marks the end of the input
abbrev pub IsOneSourceCall : {S T E : Type 0} (IsCall : (S → Option ℕ → S → Type 0)) (first last : S) (ended : Bool)
    (result : Result T E) → Type 0
IsOneSourceCall IsCall first last ended result =
    MatchResult result (λ _. (n : ℕ) × IsCall first (Some n) last × (ended ≡ false → 0 < n)) (λ _. IsCall first None last)
