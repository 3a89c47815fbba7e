-- What the first half of the main theorem refuses, and inputs that meet its premises.
use Rattle.{
  std.{
    proofs.Common.{List, Ok, Some, [], arith, negsuc, pos, refl, replicate, subst, ℕ, ℤ, ◌++◌, ◌∷◌, ◌≡◌},
    proofs.lemmas.Int.ints,
    specs.{Fmt.digits, Prelude.codes},
  },
  um_code.specs.um_formats.{BurstLines.burst_line, declared.burst_lines.BurstLine.TheVariants.Normal},
  um_driver.specs.Rules.Runs,
  um_end.{
    proofs.um_block.{bit_blocks.Lemmas.{AllBits-bits_of, AllBits-table}, conv_code.Lemmas.IsEncoderInput-tail},
    specs.{
      EndLines.{TakesBurst, end_command_line},
      EndRuns.{EndCommandState, end_command_rules, initial_end_command_state},
      um_block.{
        Computed.received_block,
        Received.access_soft_bits,
        conv_code.{Code.{IsCodeword, encoding}, Likelihood.likelihood},
        declared.{received.Received.Received, received.ReceivedAccess.ReceivedAccess},
        fire_code.{Crcs.xcch_crc, Registers.low_bits, Words.IsXcchCodeword},
      },
      lapdm_frame.declared.Channel.TheVariants.Sdcch,
      um_link.{
        lapdm_link.{Claims.Asked, Events.Open},
        lapdm_window.{Calls.Opens, Ends.{Mobile, Network}, declared.Sapi.TheVariants.Zero},
        um_air.Sessions.session_log,
      },
    },
  },
  um_cli.specs.{
    Decoded.{IsMaximumLikelihood, IsMostLikelyAccessWord, IsMostLikelyWord, ReplayDecodesToMostLikelyWords},
    EndAnswers.EndDecodesToMostLikelyWords,
    Headline.EverySessionDelivers,
  },
  um_link_command.specs.{
    Promises.DeliveryLawsHold,
    Sessions.{LinkSession, answer_to_event, link_command_rules, new_session},
  },
  um_make.specs.um_script.ScriptLines.script_line,
  um_repair.proofs.fire_code.Lemmas.{one_xcch_crc, xcch_crc_word},
  um_replay.specs.Replay.replay_rules,
}

-- ## Beaten: A word that another one beats is not reported.

-- One soft bit of strength 7 and 35 of strength 1: the word of zeros has the metric 28, and the word that begins with a one has 30.
abbrev one_strong : List ℤ
one_strong = negsuc 6 ∷ replicate 35 (pos 1)

abbrev zeros : List ℕ
zeros = replicate 18 0

abbrev first_one : List ℕ
first_one = 1 ∷ replicate 17 0

metric_of_zeros : likelihood one_strong (encoding zeros) ≡ pos 28
metric_of_zeros = cc

metric_of_first_one : likelihood one_strong (encoding first_one) ≡ pos 30
metric_of_first_one = cc

first_one_is_codeword : IsCodeword (encoding first_one) 18
first_one_is_codeword = record {
  u = first_one;
  information = IsEncoderInput-tail (1 ∷ replicate 13 0) (omega arith) (AllBits-table (1 ∷ replicate 13 0) refl);
  count = refl;
  code = refl;
}

beaten_is_not_most_likely : IsMaximumLikelihood one_strong zeros → ⊥
beaten_is_not_most_likely best =
    omega (arith, ints, best.none_more_likely (encoding first_one) first_one_is_codeword, metric_of_zeros, metric_of_first_one)

-- an access burst whose 36 coded soft bits are these, and a report of the word of zeros
abbrev access_burst : List ℤ
access_burst = replicate 49 (pos 1) ++ one_strong ++ replicate 3 (pos 1)

access_bits : access_soft_bits access_burst ≡ one_strong
access_bits = refl

beaten_access_word : (r : ReceivedAccess) → r.u ≡ zeros → IsMostLikelyAccessWord access_burst (replicate 6 0) r → ⊥
beaten_access_word r is h = beaten_is_not_most_likely (rw (is, access_bits) at h.max_likelihood)

-- ## Accepted: A block is accepted if and only if its CRC holds.

-- the check bits of a word of zeros are ones
crc_of_zeros : replicate 184 0 ++ xcch_crc (replicate 184 0) ≡ replicate 184 0 ++ replicate 40 1
unfolding xcch_crc low_bits
crc_of_zeros = refl

ones_are_right : IsXcchCodeword (replicate 184 0 ++ replicate 40 1)
ones_are_right = subst IsXcchCodeword crc_of_zeros (xcch_crc_word (replicate 184 0) refl (AllBits-bits_of (replicate 23 0)))

no_codeword : IsXcchCodeword (replicate 224 0) → ⊥
no_codeword word =
    let same = one_xcch_crc (replicate 184 0) (replicate 40 0) (replicate 40 1) refl word ones_are_right in
    absurd (cc same)

accepted_against_its_crc : (bursts : List (List ℤ)) (octets : List ℕ) (r : Received) → r.u ≡ replicate 228 0 →
    r.accepted ≡ Some octets → IsMostLikelyWord bursts r → ⊥
accepted_against_its_crc bursts octets r is some h =
    no_codeword (rw (is, some) at h.accepted).0

-- ## Met: Four lines meet the premises.

abbrev lost : List ℤ
lost = replicate 148 (pos 0)

three_lost : Runs replay_rules [] (replicate 3 (codes "lost")) (replicate 3 []) (replicate 3 lost)
unfolding burst_line
three_lost = (lost ∷ [], refl, (lost ∷ lost ∷ [], refl, (lost ∷ lost ∷ lost ∷ [], refl, refl)))

fourth_lost : burst_line 3 (codes "lost") ≡ Ok (Normal lost)
unfolding burst_line
fourth_lost = refl

lost_block_is_decoded : ReplayDecodesToMostLikelyWords → IsMostLikelyWord (replicate 4 lost) (received_block (replicate 4 lost))
lost_block_is_decoded h = h.decoded (replicate 3 (codes "lost")) (replicate 3 []) (replicate 3 lost) (codes "lost") (Normal lost) three_lost
    fourth_lost refl

-- the same for `end`
abbrev after : ℕ → EndCommandState
after count = record (initial_end_command_state Network 0) { held_bursts = replicate count lost }

three_lost_in_end : Runs end_command_rules (initial_end_command_state Network 0) (replicate 3 (codes "lost")) (replicate 3 []) (after 3)
unfolding end_command_line
three_lost_in_end = (after 1, refl, (after 2, refl, (after 3, refl, refl)))

fourth_lost_in_end : end_command_line Network 3 (codes "lost") ≡ Ok (TakesBurst lost)
unfolding end_command_line
fourth_lost_in_end = refl

lost_block_is_decoded_in_end : EndDecodesToMostLikelyWords Network 0 →
    IsMostLikelyWord (replicate 4 lost) (received_block (replicate 4 lost))
lost_block_is_decoded_in_end h = h (replicate 3 (codes "lost")) (replicate 3 []) (after 3) (codes "lost") lost three_lost_in_end
    fourth_lost_in_end refl

-- a session of one call, which is in its log
abbrev opened : List ℕ × LinkSession
opened = answer_to_event (new_session 0 Sdcch) (Open (1 ∷ []))

one_call : Runs link_command_rules (new_session 0 Sdcch) (codes "mob open 01" ∷ []) (opened.0 ∷ []) opened.1
unfolding script_line
one_call = (opened.1, refl, refl)

log_of_one_call : session_log opened.1.events opened.1.answers ≡ Asked Mobile Zero (Opens (1 ∷ [])) ∷ []
log_of_one_call = refl

one_call_delivers : EverySessionDelivers 0 Sdcch → DeliveryLawsHold opened.1
one_call_delivers h = h (codes "mob open 01" ∷ []) (opened.0 ∷ []) opened.1 one_call
