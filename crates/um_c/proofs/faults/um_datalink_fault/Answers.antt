use Rattle.std.proofs.Common.{◌∙◌, ap, refl, sym}
use Rattle.lapdm_frame.specs.Content.{frame_of_view}
use Rattle.lapdm_faults.specs.Faults.{fault_at}
use Rattle.um_c.specs.FaultCalls.{fault_number}
use Rattle.um_c.proofs.faults.um_datalink_fault.Goals as goal

pub returns : goal.returns
returns c =
    let seen = c.in-Some.ensures in
    let g = frame_of_view c.in-Ok.frame in
    record {
      told = λ s h f only.
          let frame = rw (seen.outlook s h).channel at c.in-Ok.ensures.frame in
          rw (frame.unique f only.frame)
          (c.fault_at.ensures s h ∙ ap (λ sapi. fault_number (fault_at sapi g s)) (c.sapi_for.ensures s (seen.outlook s h)));
      invalid_frame = λ s h reason refused. absurd (refused.no_frame g (rw (seen.outlook s h).channel at c.in-Ok.ensures.frame).frame);
      invalid_struct = λ none. absurd (none seen.some);
    }

pub returns-in_default : goal.returns-in_default
returns-in_default c = record {
  told = λ s h f only. absurd (c.in_default.ensures (s, h));
  invalid_frame = λ s h reason refused. refl;
  invalid_struct = λ none. refl;
}

pub returns-in_default-read_on : goal.returns-in_default-read_on
returns-in_default-read_on c =
    let seen = c.in-Some.ensures in
    let refused = c.in_default-read_on.ensures.refusal in
    record {
      told = λ s h f only. absurd ((rw (seen.outlook s h).channel at refused).no_frame f only.frame);
      invalid_frame = λ s h reason other. refl;
      invalid_struct = λ none. refl;
    }
