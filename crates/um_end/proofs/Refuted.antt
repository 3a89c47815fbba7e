-- What the relations of a session and of the lines of `end` refuse.
use Rattle.{
  std.proofs.Common.{Err, List, Ok, Result, Some, [], ap, arith, codes, false, inl, inr, pos, refl, replicate, subst, sym, true, ℕ, ℤ},
  std.proofs.{Common.{◌∙◌, ◌∷◌, ◌≡◌}, lemmas.List.Elements.All-head},
  um_link.specs.{
    lapdm_frame.{Content.{Content, Frame, I, Sabm, Ui}, declared.Channel.TheVariants.Sdcch},
    lapdm_link.{
      Events.{Accepts, BySide, Deliver, Open},
      Worlds.{ArrivingFrameFits, IsBenignExceptReplaced, SentFramesFit, as_sent, dm_for_any, initial_session, rr_for_rej, without_ack},
    },
    lapdm_window.{
      Ends.{Mobile, Network, initial_endpoint},
      Steps.{IsPossibleInput, IsSameEndpoint, Received},
      declared.Sapi.TheVariants.{Three, Zero},
    },
  },
  um_lines.specs.{bit_blocks.Octets.IsOctet, declared.fault.LineFault.LineFault},
  um_script.specs.AnswerLines.{LinesAreInRange, Sends},
  um_end.{
    proofs.EndLineLaws.end_command_line_meaning,
    specs.{
      EndLines.{EndCommandLineMeaning, EndCommandLineMeans, Nothing, TakesBurst, end_command_line},
      EndRuns.{EndCommandState, initial_end_command_state},
      EndTurns.{AnswersByStep, AnswersLineByStep, AnswersLinesBySteps},
    },
  },
}

-- ## Frames: An I frame of 21 octets fits in no block, and a frame that was not sent does not arrive.

abbrev long : Frame
long = record { sapi = 0; cr = false; content = I 0 0 false false (replicate 21 0) }

long_does_not_arrive : ArrivingFrameFits Sdcch (Deliver Mobile (Some long)) → ⊥
long_does_not_arrive fits = omega (arith, fits.information.1)

long_is_not_possible : IsPossibleInput (initial_endpoint Mobile Zero Sdcch) (Received long) → ⊥
long_is_not_possible fits = omega (arith, fits.information.1)

abbrev short : Frame
short = record { sapi = 0; cr = false; content = Ui false [] }

three_frames_are_not_sent : SentFramesFit Sdcch (Accepts (BySide Mobile) Zero (short ∷ short ∷ short ∷ []) []) → ⊥
three_frames_are_not_sent fits = omega (arith, fits.0)

abbrev content_of : Frame → Content
content_of f = f.content

no_sabm : Ui false [] ≡ Sabm true (1 ∷ []) → ⊥
no_sabm same = absurd (cc same)

not_sent_is_not_benign : IsBenignExceptReplaced (Open (1 ∷ []) ∷ Deliver Mobile (Some short) ∷ []) (initial_session Sdcch) → ⊥
not_sent_is_not_benign (opens, (as_sent same, rest)) = no_sabm (ap content_of same)
not_sent_is_not_benign (opens, (rr_for_rej same, rest)) = no_sabm (ap content_of same)
not_sent_is_not_benign (opens, (dm_for_any sapi content, rest)) = absurd (cc content)
not_sent_is_not_benign (opens, (without_ack sapi on same, rest)) = no_sabm (ap content_of same)

other_sapi : IsSameEndpoint (initial_endpoint Mobile Zero Sdcch) (initial_endpoint Mobile Three Sdcch) → ⊥
other_sapi same = absurd (cc same.sapi)

octet_of_nine_bits : LinesAreInRange (Sends (BySide Mobile) (256 ∷ []) ∷ []) → ⊥
octet_of_nine_bits fits = omega (arith, All-head IsOctet 256 [] fits.0)

-- ## Lines: A burst is held, whatever it is, and stays on its side.

abbrev lost : List ℤ
lost = replicate 148 (pos 0)

abbrev start : EndCommandState
start = initial_end_command_state Network 0

abbrev meaning_in : Result EndCommandLineMeaning LineFault → EndCommandLineMeaning
meaning_in (Ok meaning) = meaning
meaning_in (Err fault) = Nothing

only_lost : (meaning : EndCommandLineMeaning) → EndCommandLineMeans Network 0 (codes "lost") meaning → TakesBurst lost ≡ meaning
unfolding end_command_line
only_lost meaning means = ap meaning_in (sym read ∙ end_command_line_meaning Network 0 (codes "lost") meaning means)
  where
    read : end_command_line Network 0 (codes "lost") ≡ Ok (TakesBurst lost)
    read = refl

lost_is_held : (text : List ℕ) (after : EndCommandState) → AnswersLineByStep start (codes "lost") text after →
    (text ≡ []) × (after.held_bursts ≡ lost ∷ [])
lost_is_held text after h = by (subst (λ m. AnswersByStep start m text after) (sym (only_lost h.meaning h.means)) h.by_step)
  where
    by : AnswersByStep start (TakesBurst lost) text after → (text ≡ []) × (after.held_bursts ≡ lost ∷ [])
    by (inl (held, same, none)) = (none, held.1)
    by (inr (fourth, step)) = absurd (omega (arith, fourth.0))

held_of : EndCommandState → List (List ℤ)
held_of s = s.held_bursts

dropped : AnswersLinesBySteps start (codes "lost" ∷ []) ([] ∷ []) start → ⊥
unfolding held_of
dropped (next, line, is) =
    let none : [] ≡ next.held_bursts = ap held_of is in absurd (cc (none, (lost_is_held [] next line).1))

answered : AnswersLinesBySteps start (codes "lost" ∷ []) (codes "ok" ∷ []) start → ⊥
answered (next, line, is) = absurd (cc (lost_is_held (codes "ok") next line).0)

on_the_other_side : (text : List ℕ) (after : EndCommandState) → after.role ≡ Mobile →
    AnswersLineByStep start (codes "lost") text after → ⊥
on_the_other_side text after is h = absurd (cc (is, h.same_role))

with_another_tsc : (text : List ℕ) (after : EndCommandState) → after.tsc ≡ 1 →
    AnswersLineByStep start (codes "lost") text after → ⊥
with_another_tsc text after is h = omega (arith, is, h.same_tsc)
