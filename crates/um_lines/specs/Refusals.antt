-- The last line of output when a line of input is refused (this project's own rule).
use Rattle.std.specs.Prelude.{ℕ, List, ◌++◌, codes}
use Rattle.std.specs.Fmt.{decimal}
use Rattle.um_lines.specs.declared.fault.LineFault.{LineFault}
use Rattle.um_lines.specs.declared.fault.LineFault.TheVariants.{Long, Word, Order, Digits, Length, Soft, Place, Twice}

-- the word that reports a fault in the output
abbrev pub reason_word : LineFault → List ℕ
reason_word Long = codes "long"
reason_word Word = codes "word"
reason_word Order = codes "order"
reason_word Digits = codes "digits"
reason_word Length = codes "length"
reason_word Soft = codes "soft"
reason_word Place = codes "place"
reason_word Twice = codes "twice"

-- the line `refused LINE REASON`, with the line number in decimal
abbrev pub refused_text : (number : ℕ) (fault : LineFault) → List ℕ
refused_text number fault = codes "refused " ++ decimal number ++ codes " " ++ reason_word fault ++ codes "\n"
