-- Each block that the `end` command receives is decoded to a codeword that is at least as likely as any other, given the soft values of its
-- bursts, and is accepted if and only if its CRC holds (this project's own rule).
use Rattle.std.specs.Prelude.{ℕ, ℤ, ◌≡◌, true, List, [], ◌∷◌, ◌++◌, length, Ok}
use Rattle.um_code.specs.um_formats.BurstLines.{completes_block}
use Rattle.um_driver.specs.Rules.{Runs}
use Rattle.um_end.specs.um_block.Computed.{received_block}
use Rattle.um_end.specs.um_link.lapdm_window.Ends.{Role}
use Rattle.um_end.specs.EndLines.{TakesBurst, end_command_line}
use Rattle.um_end.specs.EndRuns.{EndCommandState, initial_end_command_state, end_command_rules}
use Rattle.um_cli.specs.Decoded.{IsMostLikelyWord}

-- whatever lines `end` has answered, the block that the burst of the next line completes is decoded to a most likely word
abbrev pub EndDecodesToMostLikelyWords : (role : Role) (tsc : ℕ) → Type 0
EndDecodesToMostLikelyWords role tsc = (lines answers : List (List ℕ)) (s : EndCommandState) (line : List ℕ) (soft : List ℤ) →
    Runs end_command_rules (initial_end_command_state role tsc) lines answers s →
    end_command_line s.role (length s.held_bursts) line ≡ Ok (TakesBurst soft) → completes_block s.held_bursts soft ≡ true →
    IsMostLikelyWord (s.held_bursts ++ soft ∷ []) (received_block (s.held_bursts ++ soft ∷ []))
