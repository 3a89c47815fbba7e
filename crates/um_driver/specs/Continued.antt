-- How the response to more octets continues the response to fewer (this project's own rule).
use Rattle.std.specs.Prelude.{ℕ, ◌≡◌, Bool, false, List, ◌++◌, Option, Some, None}
use Rattle.um_driver.specs.Rules.{Rules}
use Rattle.um_driver.specs.Outputs.{response}
use Rattle.um_driver.specs.Table.{IsPrefixOf}
use Rattle.um_driver.specs.declared.status.Status.{Status}

-- the response `later` has the same status and text as the response `now`, or `now` has no status and its text is a prefix
abbrev pub Continues : (now later : Option Status × List ℕ) → Type 0
Continues (None, text) later = IsPrefixOf text later.1
Continues (Some status, text) later = later ≡ (Some status, text)

-- more octets only continue the response: a response with a status does not change
abbrev pub MoreOctetsContinueResponse : {State : Type 0} → Rules State → Type 0
MoreOctetsContinueResponse {State} rules = (state : State) (octets more : List ℕ) (ended : Bool) →
    Continues (response rules state octets false) (response rules state (octets ++ more) ended)
