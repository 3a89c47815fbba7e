-- Worked responses of a command that answers each line by the line itself, and refuses the line `x`.
use Rattle.std.specs.Prelude.{◌≡◌, ◌++◌, ℕ, Bool, true, false, if◌then◌else◌, List, [], Option, Some, None}
use Rattle.std.specs.Prelude.{Result, Ok, Err, codes, replicate}
use Rattle.std.specs.Fmt.{digits}
use Rattle.std.specs.Str.{bytes_eq}
use Rattle.std.proofs.Common.{ap, arith, refl, ◌∷◌}
use Rattle.um_lines.specs.declared.fault.LineFault.{LineFault}
use Rattle.um_lines.specs.declared.fault.LineFault.TheVariants.{Order, Word}
use Rattle.um_driver.specs.Continued.{Continues, MoreOctetsContinueResponse}
use Rattle.um_driver.specs.Outputs.{response}
use Rattle.um_driver.specs.Rules.{Rules, stateless}
use Rattle.um_driver.specs.declared.status.Status.{Status}
use Rattle.um_driver.specs.declared.status.Status.TheVariants.{Done, BadInput}

abbrev echoed : List ℕ → Result (List ℕ) LineFault
echoed line = if bytes_eq line (codes "x") then Err Word else Ok (line ++ codes "\n")

abbrev echo : Rules (Unit {0})
echo = stateless echoed

-- the same, whose input must not end
abbrev unending : Rules (Unit {0})
unending = record echo { end_fault = λ _. Some Order }

answered : response echo tt (codes "a\nb\n") true ≡ (Some Done, codes "a\nb\n")
unfolding response
answered = refl

without_feed : response echo tt (codes "a\nb") true ≡ (Some Done, codes "a\nb\n")
unfolding response
without_feed = refl

not_yet : response echo tt (codes "a\nb") false ≡ (None, codes "a\n")
unfolding response
not_yet = refl

refused : response echo tt (codes "a\nx\nb\n") true ≡ (Some BadInput, codes "a\nrefused 2 word\n")
unfolding response digits
refused = refl

too_long : response echo tt (codes "a\n" ++ replicate 4097 97) false ≡ (Some BadInput, codes "a\nrefused 2 long\n")
unfolding response digits
too_long = refl

longest : response echo tt (replicate 4096 97) false ≡ (None, [])
unfolding response
longest = refl

unfinished : response unending tt (codes "a\n") true ≡ (Some BadInput, codes "a\nrefused 2 order\n")
unfolding response digits
unfinished = refl

-- ## Continued: A response with a status stays, and any other is only continued.

abbrev head : List ℕ → ℕ
head [] = 0
head (x ∷ xs) = x

abbrev is_done : Option Status → Bool
is_done (Some Done) = true
is_done other = false

another_text : Continues (None, codes "a\n") (Some Done, codes "b\n") → ⊥
another_text (more, same) = let first : 98 ≡ 97 = ap head same in omega (arith, first)

another_end : Continues (Some Done, []) (Some BadInput, []) → ⊥
another_end same = let ends : false ≡ true = ap (λ response. is_done response.0) same in absurd (cc ends)

refused_stays : MoreOctetsContinueResponse echo → (more : List ℕ) (ended : Bool) →
    response echo tt (codes "a\nx\n" ++ more) ended ≡ (Some BadInput, codes "a\nrefused 2 word\n")
unfolding response digits
refused_stays h more ended = h tt (codes "a\nx\n") more ended
