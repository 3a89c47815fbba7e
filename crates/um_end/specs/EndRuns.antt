-- How the `end` command answers a line (this project's own rule).
use Rattle.std.specs.Prelude.{ℕ, ℤ, ◌≡◌, List, [], ◌∷◌, ◌++◌, length, map, if◌then◌else◌}
use Rattle.std.specs.List.{flat_map}
use Rattle.um_link.specs.lapdm_window.Ends.{Role}
use Rattle.um_formats.specs.BurstLines.{completes_block, unfinished_block_fault}
use Rattle.um_formats.specs.BurstTexts.{bursts_text}
use Rattle.um_link.specs.um_air.Air.{Octets, Block, Answer, Refuses, Accepts}
use Rattle.um_link.specs.um_block.Computed.{sent_block}
use Rattle.um_link.specs.Coded.{AreCodedBlocks}
use Rattle.um_script.specs.AnswerLines.{answer_text}
use Rattle.um_driver.specs.Rules.{Rules, answer_to_meaning}
use Rattle.um_link.specs.lapdm_frame.declared.Channel.TheVariants.{Sdcch}
use Rattle.um_end.specs.Terminals.{SideState, idle_side, answer_to_call, answer_to_block}
use Rattle.um_end.specs.EndLines.{EndCommandLineMeaning, Nothing, TakesBurst, Calls, end_command_line}

-- the state of a run of the `end` command: the side, its training sequence code, its two endpoints, and the bursts of an unfinished block
-- in order
pub record EndCommandState : Type 0 where
  pub role : Role
  pub tsc : ℕ
  pub links : SideState
  pub held_bursts : List (List ℤ)

-- the state of a run before its first line
abbrev pub initial_end_command_state : (role : Role) (tsc : ℕ) → EndCommandState
initial_end_command_state role tsc = record { role = role; tsc = tsc; links = idle_side role Sdcch; held_bursts = [] }

-- the octets of the frames that an answer reports as sent
abbrev pub frames_in_answer : Answer → List Octets
frames_in_answer (Refuses why) = []
frames_in_answer (Accepts step) = step.frames

-- the burst lines of these frames
abbrev pub burst_lines_of_frames : (tsc : ℕ) (frames : List Octets) → List ℕ
burst_lines_of_frames tsc frames = flat_map bursts_text (map (λ octets. sent_block octets tsc) frames)

-- the text of an answer, followed by the burst lines of each frame sent
abbrev pub end_answer_text : (tsc : ℕ) (answer : Answer) → List ℕ
end_answer_text tsc answer = answer_text answer ++ burst_lines_of_frames tsc (frames_in_answer answer)

-- the law of `end_answer_text`: the burst lines are those of the coded blocks of the frames sent
pub record IsAnswerText (tsc : ℕ) (answer : Answer) (text : List ℕ) : Type 0 where
  pub blocks : List Block
  pub coded : AreCodedBlocks tsc (frames_in_answer answer) blocks
  pub text_is : text ≡ answer_text answer ++ flat_map bursts_text blocks

-- the answer to a burst, and the state after it: the burst that completes a block gets the answer to the block, an earlier burst gets none
abbrev pub answer_to_burst : (state : EndCommandState) (soft : List ℤ) → List ℕ × EndCommandState
answer_to_burst s soft =
    let bursts = s.held_bursts ++ soft ∷ [] in
    let next = answer_to_block s.role s.links bursts in
    if completes_block s.held_bursts soft then (end_answer_text s.tsc (Accepts next.1), record s { links = next.0; held_bursts = [] })
    else ([], record s { held_bursts = bursts })

-- the answer to a line with this meaning, and the state after it
abbrev pub answer_to_end_command_line : (state : EndCommandState) (meaning : EndCommandLineMeaning) → List ℕ × EndCommandState
answer_to_end_command_line s Nothing = ([], s)
answer_to_end_command_line s (TakesBurst soft) = answer_to_burst s soft
answer_to_end_command_line s (Calls event) =
    let next = answer_to_call s.role s.links event in
    (end_answer_text s.tsc next.1, record s { links = next.0 })

-- the rules of the `end` command; its input must not end inside a block
abbrev pub end_command_rules : Rules EndCommandState
end_command_rules = record {
  step = λ s line. answer_to_meaning (answer_to_end_command_line s) (end_command_line s.role (length s.held_bursts) line);
  end_fault = λ s. unfinished_block_fault s.held_bursts;
}
