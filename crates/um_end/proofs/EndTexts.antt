-- The relation that says what a line of `end` does leaves one answer to it: the text that the rules compute.
use Rattle.{
  std.proofs.{
    Common.{Err, List, Ok, Result, [], ap, arith, inl, inr, length, length-append, map, refl, sym},
    Common.{ℕ, ℤ, ◌++◌, ◌∙◌, ◌∷◌, ◌≡◌},
    lemmas.Bool.{le-leb, lt-leb},
  },
  um_end.{
    proofs.{EndLineLaws.end_command_line_meaning, EndSteps.{ReceivesBursts-only, links_after}},
    specs.{
      EndLines.{Calls, EndCommandLineMeaning, Nothing as NoLine, TakesBurst},
      EndRuns.{EndCommandState, IsAnswerText, answer_to_end_command_line, end_answer_text, frames_in_answer},
      EndTurns.{AnswersByStep, AnswersLineByStep, BringsStep, IsStepOfLine},
      Terminals.{ReceivesBursts, answer_to_block, answer_to_call},
      TwoTerminals.{IsTerminalStep, TerminalStep, TwoTerminals},
    },
  },
  um_lines.specs.declared.fault.LineFault.LineFault,
  um_link.{
    proofs.um_block.Lemmas.sent_block-only,
    specs.{
      Coded.AreCodedBlocks,
      lapdm_frame.declared.Channel.TheVariants.Sdcch,
      lapdm_link.{Events.{idle_endpoints, side_with_role, with_side_replaced}, Queues.empty_queues},
      um_air.Air.{Accepts, Answer, Block, Octets},
      um_block.Computed.sent_block,
    },
  },
}
use Rattle.um_end.specs.TwoTerminals as T

-- the blocks of these frames are those that are computed
coded_only : (tsc : ℕ) (frames : List Octets) (blocks : List Block) → AreCodedBlocks tsc frames blocks →
    blocks ≡ map (λ octets. sent_block octets tsc) frames
coded_only tsc [] [] h = refl
coded_only tsc (o ∷ os) (b ∷ bs) h = cc (sent_block-only o tsc b h.0, coded_only tsc os bs h.1)
coded_only tsc [] (b ∷ bs) h = absurd h
coded_only tsc (o ∷ os) [] h = absurd h

text_only : (tsc : ℕ) (answer : Answer) (text : List ℕ) → IsAnswerText tsc answer text → text ≡ end_answer_text tsc answer
text_only tsc answer text h = rw (h.text_is, coded_only tsc (frames_in_answer answer) h.blocks h.coded) refl

-- the text of a step is that of the rules
text_of_step : (s : EndCommandState) (meaning : EndCommandLineMeaning) (text : List ℕ) (after : List (List ℤ)) (a : TwoTerminals)
    (turn : TerminalStep) (next : TwoTerminals) → BringsStep s.held_bursts meaning after → side_with_role s.role a.sides ≡ s.links →
    IsTerminalStep a turn next → IsStepOfLine s meaning turn text → text ≡ (answer_to_end_command_line s meaning).0
text_of_step s (TakesBurst soft) text after a (T.TakesBurst side bursts step) next brings same (links, heard, moved) (own, are, is) =
    let all = s.held_bursts ++ soft ∷ [] in
    let mine : ReceivesBursts s.role s.links all links step = rw (own, are, same) at heard in
    let computed : answer_to_block s.role s.links all ≡ (links, step) = ReceivesBursts-only s.role s.links all links step mine in
    rw (le-leb 4 (length all) (omega (arith, brings.0, length-append s.held_bursts (soft ∷ []))))
    (text_only s.tsc (Accepts step) text is ∙ ap (λ next. end_answer_text s.tsc (Accepts next.1)) (sym computed))
text_of_step s (Calls event) text after a (T.Calls side asked answer) next brings same (can, computed, moved) (own, asks, is) =
    let mine : answer ≡ (answer_to_call s.role s.links event).1 = rw (own, asks, same) at computed in
    text_only s.tsc answer text is ∙ ap (end_answer_text s.tsc) mine
text_of_step s (TakesBurst soft) text after a (T.Calls side asked answer) next brings same step line = absurd line
text_of_step s (TakesBurst soft) text after a (T.Loses sender) next brings same step line = absurd line
text_of_step s (Calls event) text after a (T.TakesBurst side bursts step) next brings same is line = absurd line
text_of_step s (Calls event) text after a (T.Loses sender) next brings same step line = absurd line
text_of_step s NoLine text after a turn next brings same step line = absurd brings

-- two terminals, one of which has the endpoints of this process
abbrev beside_idle : EndCommandState → TwoTerminals
beside_idle s = record { sides = with_side_replaced s.role s.links (idle_endpoints Sdcch); queues = empty_queues }

text_of_line : (s : EndCommandState) (meaning : EndCommandLineMeaning) (text : List ℕ) (after : EndCommandState) →
    AnswersByStep s meaning text after → text ≡ (answer_to_end_command_line s meaning).0
text_of_line s meaning text after (inr (brings, step)) =
    let same = links_after s.role s.links (idle_endpoints Sdcch) in
    let of_line = step (beside_idle s) same in
    text_of_step s meaning text after.held_bursts (beside_idle s) of_line.turn of_line.next brings same of_line.is_step of_line.of_line
text_of_line s NoLine text after (inl (held, same, none)) = none
text_of_line s (TakesBurst soft) text after (inl (held, same, none)) =
    let bursts = s.held_bursts ++ soft ∷ [] in
    rw (lt-leb 4 (length bursts) (omega (arith, held.0, length-append s.held_bursts (soft ∷ [])))) none
text_of_line s (Calls event) text after (inl (held, same, none)) = absurd held

abbrev meaning_of : Result EndCommandLineMeaning LineFault → EndCommandLineMeaning
meaning_of (Ok meaning) = meaning
meaning_of (Err fault) = NoLine

pub one_answer : (s : EndCommandState) (line x y : List ℕ) (after other : EndCommandState) → AnswersLineByStep s line x after →
    AnswersLineByStep s line y other → x ≡ y
one_answer s line x y after other h g =
    let read = end_command_line_meaning s.role (length s.held_bursts) line in
    let same : h.meaning ≡ g.meaning = ap meaning_of (sym (read h.meaning h.means) ∙ read g.meaning g.means) in
    text_of_line s h.meaning x after h.by_step
    ∙ ap (λ meaning. (answer_to_end_command_line s meaning).0) same
    ∙ sym (text_of_line s g.meaning y other g.by_step)
