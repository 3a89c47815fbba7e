-- The command that the command-line words name, and its operands (this project's own rules).
use Rattle.std.specs.Prelude.{ℕ, ◌≤◌, ◌-◌, ◌&&◌, nat_le, slice_index, List, [], ◌∷◌, Option, Some, None, codes}
use Rattle.std.specs.Prelude.{if◌then◌else◌}
use Rattle.std.specs.Str.{bytes_eq, all_ascii_digits}
use Rattle.std.specs.Str.Parse.{digits_value}
use Rattle.um_end.specs.lapdm_frame.declared.Channel.{Channel}
use Rattle.um_end.specs.lapdm_frame.declared.Channel.TheVariants.{Sdcch, Sacch}
use Rattle.um_end.specs.um_link.declared.events.End as L
use Rattle.um_end.specs.um_link.declared.events.End.TheVariants.{Mobile, Network}
use Rattle.um_cli.specs.declared.words.Invocation.{Invocation}
use Rattle.um_cli.specs.declared.words.Invocation.TheVariants.{Code, Replay, Show, Margin, Repair, Link, Make, End}

-- the command that a single word names, or `None`
abbrev pub one_word_command : (word : List ℕ) → Option Invocation
one_word_command word =
    if bytes_eq word (codes "code") then Some Code
    else if bytes_eq word (codes "replay") then Some Replay
    else if bytes_eq word (codes "show") then Some Show
    else if bytes_eq word (codes "margin") then Some Margin
    else if bytes_eq word (codes "repair") then Some Repair
    else None

-- the training sequence code that a word represents: one digit, 0 to 7
abbrev pub tsc_of_word : (word : List ℕ) → Option ℕ
tsc_of_word [] = None
tsc_of_word (digit ∷ []) = if nat_le 48 digit && nat_le digit 55 then Some (digit - 48) else None
tsc_of_word (digit ∷ other ∷ word) = None

-- the `link` command on this channel, if the training sequence code is valid
abbrev pub invocation_of_link : (tsc : Option ℕ) (channel : Channel) → Option Invocation
invocation_of_link None channel = None
invocation_of_link (Some tsc) channel = Some (Link tsc channel)

-- the `link` command on this channel, if the first word is `link` and the second is a training sequence code
abbrev pub parse_link_words : (word tsc : List ℕ) (channel : Channel) → Option Invocation
parse_link_words word tsc channel = if bytes_eq word (codes "link") then invocation_of_link (tsc_of_word tsc) channel else None

-- the number of messages that a word represents: 1 to 1000, in decimal without leading zeros
abbrev pub message_count_of_word : (word : List ℕ) → Option ℕ
message_count_of_word word =
    let n = digits_value 10 word in
    if nat_le 49 (slice_index word 0) && all_ascii_digits word && nat_le 1 n && nat_le n 1000 then Some n else None

-- the `make` command, if both operands are valid
abbrev pub invocation_of_make : (message_count tsc : Option ℕ) → Option Invocation
invocation_of_make (Some n) (Some tsc) = Some (Make n tsc)
invocation_of_make n tsc = None

-- the side that a word names: `mob` or `net`
abbrev pub side_of_word : (word : List ℕ) → Option L.End
side_of_word word = if bytes_eq word (codes "mob") then Some Mobile else if bytes_eq word (codes "net") then Some Network else None

-- the `end` command, if both operands are valid
abbrev pub invocation_of_end : (side : Option L.End) (tsc : Option ℕ) → Option Invocation
invocation_of_end (Some side) (Some tsc) = Some (End side tsc)
invocation_of_end side tsc = None

-- the command that three words name: `make N T`, `end mob T`, `end net T` or `link T sacch`
abbrev pub three_word_command : (word second last : List ℕ) → Option Invocation
three_word_command word second last =
    if bytes_eq word (codes "make") then invocation_of_make (message_count_of_word second) (tsc_of_word last)
    else if bytes_eq word (codes "end") then invocation_of_end (side_of_word second) (tsc_of_word last)
    else if bytes_eq last (codes "sacch") then parse_link_words word second Sacch
    else None

-- the command that the words name, or `None` if they name none
abbrev pub command_of_words : (words : List (List ℕ)) → Option Invocation
command_of_words [] = None
command_of_words (word ∷ []) = one_word_command word
command_of_words (word ∷ tsc ∷ []) = parse_link_words word tsc Sdcch
command_of_words (word ∷ second ∷ last ∷ []) = three_word_command word second last
command_of_words (word ∷ second ∷ last ∷ other ∷ words) = None

-- the training sequence code must be 0 to 7, and the number of messages 1 to 1000
abbrev pub HasValidOperands : Invocation → Type 0
HasValidOperands (Link tsc channel) = tsc ≤ 7
HasValidOperands (Make n tsc) = (1 ≤ n) × (n ≤ 1000) × (tsc ≤ 7)
HasValidOperands (End side tsc) = tsc ≤ 7
HasValidOperands command = Unit {0}

-- there is no command, or it is `make`
abbrev pub ReadsNothing : Option Invocation → Type 0
ReadsNothing None = Unit {0}
ReadsNothing (Some (Make n tsc)) = Unit {0}
ReadsNothing (Some command) = ⊥

-- the command, if there is one, does not use the radio
abbrev pub UsesNoRadio : Option Invocation → Type 0
UsesNoRadio (Some (Link tsc channel)) = ⊥
UsesNoRadio (Some (Make n tsc)) = ⊥
UsesNoRadio command = Unit {0}
