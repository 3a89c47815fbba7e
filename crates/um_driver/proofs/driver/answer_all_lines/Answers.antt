-- Each round of the loop preserves `IsRunUnderway` or ends the run. The loop ends because each further round processes at least one octet
-- of the input, and a run processes at most `input_limit` octets.
use Rattle.{std.proofs.Common.{arith, refl, ◌<◌, ◌∙◌}, um_driver.proofs.Runs.{at_first, run_ends, underway_cut, underway_gathers}}
use Rattle.um_driver.proofs.driver.answer_all_lines.Goals as goal

pub loop-command-init : goal.loop-command-init
loop-command-init g c = record {
  underway = rw c.new-gathered.ensures (at_first c.requires.first c.requires.represents);
  empty = c.new-out.ensures;
  source_kept = refl;
  sink_kept = refl;
  keeps = refl;
}

pub returns-in-Err-clause-table : goal.returns-in-Err-clause-table
returns-in-Err-clause-table g c = underway_cut c.loop-command.invariant.underway c.in-Err.ensures.gathers

pub returns-in-Some-clause-table : goal.returns-in-Some-clause-table
returns-in-Some-clause-table g c =
    let way = underway_gathers c.loop-command.invariant.underway c.in-Ok.ensures.gathers c.flush_before_read.ensures.unchanged in
    run_ends _ _ _ c.answer_next_line.new.lines _ _ _ _ _ _ c.answer_next_line.new.out c.in-Some.status _
    (c.in-Some.ensures.comes _ _ _ _ _ way c.in-Ok.ensures.ready) c.write_final_output.ensures.last_write

pub returns-in-Some-clause-cause : goal.returns-in-Some-clause-cause
returns-in-Some-clause-cause g c =
    rw (c.loop-command.invariant.source_kept, c.in-Ok.ensures.counted, c.loop-command.invariant.sink_kept)
    at (c.write_final_output.ensures.cause _ _ c.in-Some.ensures.cause).0

pub returns-in-Err-add-clause-table : goal.returns-in-Err-add-clause-table
returns-in-Err-add-clause-table g c =
    let way = underway_gathers c.loop-command.invariant.underway c.in-Ok.ensures.gathers c.flush_before_read.ensures.unchanged in
    underway_cut (c.in-None.ensures.comes _ _ _ _ _ way c.in-Ok.ensures.ready)
    (rw c.octets.ensures.value at c.in-Err-add.ensures.gathers)

pub loop-command-preserved : goal.loop-command-preserved
loop-command-preserved g c =
    let way = underway_gathers c.loop-command.invariant.underway c.in-Ok.ensures.gathers c.flush_before_read.ensures.unchanged in
    record {
      underway = underway_gathers (c.in-None.ensures.comes _ _ _ _ _ way c.in-Ok.ensures.ready)
          (rw c.octets.ensures.value at c.in-Ok-add.ensures.gathers) refl;
      empty = c.clear.ensures;
      source_kept = c.in-None.ensures.cause ∙ c.loop-command.invariant.source_kept;
      sink_kept = c.in-Ok-add.ensures.counted ∙ c.in-Ok.ensures.counted ∙ c.loop-command.invariant.sink_kept;
      keeps = c.in-None.ensures.keeps ∙ c.loop-command.invariant.keeps;
    }

pub loop-command-smaller : goal.loop-command-smaller
loop-command-smaller g c =
    let way = underway_gathers c.loop-command.invariant.underway c.in-Ok.ensures.gathers c.flush_before_read.ensures.unchanged in
    let limit = (c.in-None.ensures.comes _ _ _ _ _ way c.in-Ok.ensures.ready).valid.limit in
    let rises : c.loop-command.lines.octet_count < c.answer_next_line.new.lines.octet_count =
    rw c.flush_before_read.ensures.unchanged at (c.in-None.ensures.makes_progress refl) in
    omega (arith, rises, limit)
