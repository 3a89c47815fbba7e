-- Each round of the loop counts one more event and its answer, and the radio counts the same blocks.
use Rattle.{
  std.proofs.Common.{◌≡◌, ◌∙◌, ap, ◌+◌, arith, subst, sym},
  um_link.{proofs.um_block.Tallies.raised_by-more, specs.{Naming.{result_with_step, spec_answer_of}, um_block.Tallies.counter_plus}},
  um_link.specs.um_air.Counts.{sent_frame_count, blocks_received_in_step},
  um_make.{
    specs.{Generated.generated_events, Runs.AckedAtMostReceived, declared.summary.Summary.Summary},
    proofs.Lemmas.{progress-start, progress-step, counters_bound, is_generated_summary, acked_at_most_received, same_block_count},
  },
}
use Rattle.um_make.proofs.run.make.Goals as goal

pub count_step-requires : goal.count_step-requires
count_step-requires g c =
    counters_bound c.args.tsc c.args.n c.loop-event.script c.loop-event.world c.loop-event.summary c.requires.most
    c.loop-event.invariant.underway

pub loop-event-init : goal.loop-event-init
loop-event-init g c =
    let counts = c.new-summary.ensures.counts in
    record {
      underway = progress-start c.args.tsc (generated_events c.args.n) c.new-script.result c.in_ok-world.world c.new-summary.result
          (sym c.new-script.ensures) c.in_ok-world.ensures counts c.new-summary.ensures.counters_bounded;
      sent = ap (λ (s : Summary). counter_plus s.sent_blocks (g.R.Radio.sent c.args.radio.now)) (sym counts);
      heard = ap (λ (s : Summary). counter_plus (s.good_blocks + s.bad_blocks) (g.R.Radio.heard c.args.radio.now)) (sym counts);
    }

pub loop-event-preserved : goal.loop-event-preserved
loop-event-preserved g c =
    let result = result_with_step c.step_into-done.result c.step_into-done.new.step in
    let answer = spec_answer_of result in
    let radio = c.step_into-done.ensures.radio in
    let old = c.loop-event.summary in
    let new = c.count_step.new.self in
    let counts = c.count_step.ensures.counts in
    let heard : new.good_blocks + new.bad_blocks ≡ (old.good_blocks + old.bad_blocks) + blocks_received_in_step answer =
    omega (arith, counts.good_blocks, counts.bad_blocks, same_block_count answer) in
    record {
      underway = progress-step c.args.tsc (generated_events c.args.n) c.loop-event.script c.next.new.self c.loop-event.world
          c.step_into-done.new.self old new _ result c.loop-event.invariant.underway c.in-Some.ensures.event
          c.step_into-done.ensures.session.extended counts c.count_step.ensures.rises;
      sent = radio.sent_rose ∙ ap (counter_plus (sent_frame_count answer)) c.loop-event.invariant.sent
          ∙ raised_by-more (sent_frame_count answer) old.sent_blocks _ new.sent_blocks counts.sent_blocks;
      heard = radio.heard_rose ∙ ap (counter_plus (blocks_received_in_step answer)) c.loop-event.invariant.heard
          ∙ raised_by-more (blocks_received_in_step answer) (old.good_blocks + old.bad_blocks) _ (new.good_blocks + new.bad_blocks) heard;
    }

pub returns-clause-run : goal.returns-clause-run
returns-clause-run g c =
    is_generated_summary c.args.tsc c.args.n c.loop-event.script c.loop-event.world c.loop-event.summary c.in_default.ensures.event.0
    c.loop-event.invariant.underway

pub returns-clause-delivered_messages : goal.returns-clause-delivered_messages
returns-clause-delivered_messages g c =
    subst AckedAtMostReceived (sym (returns-clause-run g c)) (acked_at_most_received c.args.tsc c.args.n c.requires.tsc)
