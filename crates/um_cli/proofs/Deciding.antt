-- Each decoded word is a codeword that is at least as likely as any other, because no list of bits is more likely than a most likely one.
use Rattle.{
  std.{
    proofs.Common.{List, None, Ok, Option, Some, [], ap, arith, inl, inr, length, length-append, map, refl, sym, true, ℕ, ℤ, ◌++◌},
    proofs.{Common.{◌<◌, ◌∙◌, ◌∷◌, ◌≡◌, ◌≢◌, ◌≤◌}, lemmas.Bool.{cases_Bool, leb-true}},
    proofs.lemmas.{Int.ints, List.Elements.{All-append, All-cons, All-nil}, Slice.Eq.bytes_eq-Decides},
    specs.{List.All, Str.bytes_eq},
  },
  um_replay.{
    proofs.Reporting.{AreHeld, AreReports, all_bursts, held_in_run, lines_are_reported, replay_reports},
    specs.{Replay.{replay_answers, replay_rules}, Reporting.ReportsReception},
  },
  um_cli.specs.{
    Arrivals.{LinkDecodesToMostLikelyWords, ReceivesMostLikelyWord, ReportsMostLikelyWord},
    EndAnswers.EndDecodesToMostLikelyWords,
    Decoded.{DecodesBurstsToMostLikelyWord, IsMaximumLikelihood, IsMostLikelyAccessWord, IsMostLikelySyncWord, IsMostLikelyWord},
    Decoded.{IsReportOfMostLikelyWord, ReplayDecodesToMostLikelyWords},
  },
  um_code.{
    proofs.um_formats.BurstLines.{access_burst, burst_line_means, normal_burst, sync_burst},
    specs.um_formats.BurstLines.{burst_line, completes_block},
    specs.um_formats.declared.burst_lines.BurstLine.{TheVariants.{Access, Normal, Skip, Sync}, BurstLine},
  },
  um_driver.specs.Rules.Runs,
  um_end.{
    proofs.{EndLineLaws.burst_of_line, EndSteps.held_are_bursts, um_block.Lemmas.IsReceivedAccess-received_access},
    proofs.um_block.{Lemmas.IsReceivedSync-received_sync, ComputedReports.block_computed, conv_code.Lemmas.length-coded},
    specs.{lapdm_frame.{Content.Frame, declared.Channel.Channel}, um_block.Computed.received_block},
    specs.um_block.Received.{IsReceivedAccess, IsReceivedBlock, IsReceivedSync, soft_bits},
    specs.um_block.conv_code.{Code.encoding, Likelihood.{IsMostLikely, likelihood}},
    specs.um_block.declared.received.{Received.Received, ReceivedAccess.ReceivedAccess, ReceivedSync.ReceivedSync},
    specs.um_link.{lapdm_link.Events.Deliver, lapdm_window.Ends.Role},
    specs.um_link.um_air.{Computed.air_step, Air.{Accepts, AirState, Answer, Event, EventDelivers, IsAirStep, Refuses, with_bits_inverted}},
  },
  um_link_command.proofs.Lemmas.answer_is_air_step,
}

none_more_likely : (soft : List ℤ) (u : List ℕ) → IsMostLikely soft u → IsMaximumLikelihood soft u
none_more_likely soft u best = record {
  codeword = record { u = u; information = best.information; count = refl; code = refl };
  same_length = best.count ∙ sym (length-coded u);
  none_more_likely = λ c word.
      let value : likelihood soft c ≡ likelihood soft (encoding word.u) = ap (likelihood soft) word.code in
      elim (cases_Bool (bytes_eq word.u u)) [
        | inl same ↦ omega (arith, ints, value ∙ ap (λ v. likelihood soft (encoding v)) ((bytes_eq-Decides word.u u).0 same))
        | inr other ↦
            let differs : word.u ≢ u = λ e. let yes : bytes_eq word.u u ≡ true = (bytes_eq-Decides word.u u).1 e in absurd cc in
            elim (best.others word.u word.information word.count differs) [
              | inl less ↦ omega (arith, ints, value, less)
              | inr tie ↦ omega (arith, ints, value, tie.0)
            ]
      ];
}

pub best_word : (bursts : List (List ℤ)) (r : Received) → IsReceivedBlock bursts r → IsMostLikelyWord bursts r
best_word bursts r received = record {
  soft = received.soft;
  deinterleaved = received.deinterleaved;
  max_likelihood = none_more_likely received.soft r.u received.best;
  accepted = received.accepted;
}

best_access : (burst : List ℤ) (bsic : List ℕ) (r : ReceivedAccess) → IsReceivedAccess burst bsic r →
    IsMostLikelyAccessWord burst bsic r
best_access burst bsic r received =
    record { max_likelihood = none_more_likely _ _ received.best; accepted = received.accepted }

best_sync : (burst : List ℤ) (r : ReceivedSync) → IsReceivedSync burst r → IsMostLikelySyncWord burst r
best_sync burst r received = record { max_likelihood = none_more_likely _ _ received.best; accepted = received.accepted }

-- ---- `replay`

pub fourth-most_likely : (held : List (List ℤ)) (soft : List ℤ) → AreHeld held → length soft ≡ 148 →
    completes_block held soft ≡ true → IsMostLikelyWord (held ++ soft ∷ []) (received_block (held ++ soft ∷ []))
fourth-most_likely held soft h long whole =
    let many = leb-true 4 (length (held ++ soft ∷ [])) whole in
    let four : length (held ++ soft ∷ []) ≡ 4 = omega (arith, h.few, many, length-append held (soft ∷ [])) in
    best_word (held ++ soft ∷ []) _ (block_computed (held ++ soft ∷ []) four (all_bursts held soft h long))

replay-decoded : (lines answers : List (List ℕ)) (held : List (List ℤ)) (line : List ℕ) (meaning : BurstLine) →
    Runs replay_rules [] lines answers held → burst_line (length held) line ≡ Ok meaning → DecodesBurstsToMostLikelyWord held meaning
replay-decoded lines answers held line meaning runs parses =
    go meaning parses (held_in_run replay_answers ReportsReception replay_reports lines answers held runs)
  where
    go : (meaning : BurstLine) → burst_line (length held) line ≡ Ok meaning → AreHeld held →
        DecodesBurstsToMostLikelyWord held meaning
    go Skip parses h = tt
    go (Normal soft) parses h = λ whole.
        let long = (normal_burst (length held) line soft (burst_line_means (length held) line (Normal soft) parses)).0 in
        fourth-most_likely held soft h long whole
    go (Access bsic soft) parses h =
        let (none, count, bits, long, values) =
        access_burst (length held) line bsic soft (burst_line_means (length held) line (Access bsic soft) parses) in
        best_access soft bsic _ (IsReceivedAccess-received_access soft bsic long count bits)
    go (Sync soft) parses h =
        let (none, long, values) = sync_burst (length held) line soft (burst_line_means (length held) line (Sync soft) parses) in
        best_sync soft _ (IsReceivedSync-received_sync soft long)

-- the reports of `replay` are those of most likely words
reports_most_likely : AreReports replay_answers IsReportOfMostLikelyWord
reports_most_likely = record {
  skips = λ held. refl;
  block = λ held soft four each.
      let (r, received, text) = replay_reports.block held soft four each in
      (r, best_word (held ++ soft ∷ []) r received, text);
  access = λ held bsic soft count bits long.
      let (r, received, text) = replay_reports.access held bsic soft count bits long in
      (r, best_access soft bsic r received, text);
  sync = λ held soft long.
      let (r, received, text) = replay_reports.sync held soft long in
      (r, best_sync soft r received, text);
}

pub replay-most_likely : ReplayDecodesToMostLikelyWords
replay-most_likely = record {
  decoded = replay-decoded;
  reported = lines_are_reported replay_answers IsReportOfMostLikelyWord reports_most_likely;
}

-- ---- `link`: a step receives a block as `IsReceivedBlock` says

event-most_likely : (a : AirState) (event : Event) (received : Option Received) (read : Option Frame) →
    EventDelivers a event received read → ReceivesMostLikelyWord a event received
event-most_likely a (Deliver sender places) (Some r) read h =
    record {
      block = h.block;
      later_blocks = h.later_blocks;
      queue_front = h.queue_front;
      most_likely = best_word (map soft_bits (with_bits_inverted places h.block)) r h.received;
    }
event-most_likely a event received read h = tt

step-most_likely : (a : AirState) (event : Event) (b : AirState) (answer : Answer) → IsAirStep a event b answer →
    ReportsMostLikelyWord a event answer
step-most_likely a event b (Refuses why) step = tt
step-most_likely a event b (Accepts s) (none, happens) = event-most_likely a event s.received happens.read happens.delivery

pub link-most_likely : (tsc : ℕ) (channel : Channel) → tsc ≤ 7 → LinkDecodesToMostLikelyWords tsc channel
link-most_likely tsc channel within lines answers s line event runs parses =
    step-most_likely s.air event (air_step s.air event).0 (air_step s.air event).1
    (answer_is_air_step tsc channel within lines answers s line event runs parses)

-- ---- `end`

pub end-most_likely : (role : Role) (tsc : ℕ) → tsc ≤ 7 → EndDecodesToMostLikelyWords role tsc
end-most_likely role tsc within lines answers s line soft runs parses whole =
    let (few, each) = held_are_bursts role tsc lines answers s within runs in
    fourth-most_likely s.held_bursts soft (record { few = omega (arith, few); each = each })
    (burst_of_line s.role (length s.held_bursts) line soft parses) whole
