use Rattle.std.proofs.Common.{refl, sym, ◌∙◌, ap, Option, []}
use Rattle.lapdm_frame.specs.Content.{frame_of_view}
use Rattle.um_air.specs.lapdm_window.declared.Sapi.{Sapi}
use Rattle.lapdm_datalink.specs.DataLinks.{notices_of_taking, sapi_for_frame}
use Rattle.um_c.specs.DataLinkCalls.{c_report, reports_if_taken}
use Rattle.um_c.proofs.DataLinkCalls.{receives_by_7}
use Rattle.um_c.proofs.OneLink.{receives, receives_none, taken, passed_empty_ui, no_reports}
use Rattle.um_c.proofs.datalinks.um_datalink_take.Goals as goal

pub pass_frame-requires-clause-fits : goal.pass_frame-requires-clause-fits
pass_frame-requires-clause-fits c s h = rw ((c.in-Some.ensures.outlook s h).channel) at c.in-Ok.ensures.frame.frame.fits

pub returns : goal.returns
returns c =
    let f = frame_of_view c.in-Ok.frame in
    let seen = c.in-Some.ensures in
    let sapi = c.sapi_for-sapi.result in
    let before = c.args.data_link.now in
    receives seen c.args.octets.now f c.hear-2.new.data_link c.args.report.now c.write_taken-2.new.report c.in-Ok.ensures.frame
    (λ s h. taken sapi f s before c.pass_frame.new.data_link c.hear-2.new.data_link c.pass_frame.new.effects.notices
    (c.sapi_for-sapi.ensures s (seen.outlook s h)) (c.pass_frame.ensures s h) c.hear-2.ensures)
    (λ s h. c.write_taken-2.ensures ∙ ap c_report (ap (reports_if_taken sapi) c.as_slice.ensures.value
    ∙ (c.pass_frame.ensures s h).reports
    ∙ ap (λ (p : Option Sapi). reports_if_taken p (notices_of_taking p f s)) (c.sapi_for-sapi.ensures s (seen.outlook s h))))

pub returns-then-is_empty_ui : goal.returns-then-is_empty_ui
returns-then-is_empty_ui c =
    let f = frame_of_view c.in-Ok.frame in
    let before = c.args.data_link.now in
    let empty = sym c.is_empty_ui.ensures ∙ c.if-is_empty_ui.true in
    receives c.in-Some.ensures c.args.octets.now f c.hear.new.data_link c.args.report.now c.write_taken.new.report c.in-Ok.ensures.frame
    (λ s h. taken (sapi_for_frame f s) f s before before c.hear.new.data_link [] refl
    (passed_empty_ui (sapi_for_frame f s) before f s h empty) c.hear.ensures)
    (λ s h. c.write_taken.ensures
    ∙ ap c_report (no_reports (sapi_for_frame f s) ∙ (passed_empty_ui (sapi_for_frame f s) before f s h empty).reports))

pub returns-in_default : goal.returns-in_default
returns-in_default c = receives_by_7 c.args.data_link.now c.in_default.ensures c.args.octets.now c.args.report.now

pub returns-in_default-read_on : goal.returns-in_default-read_on
returns-in_default-read_on c =
    receives_none c.in-Some.ensures c.args.octets.now _ c.args.report.now c.in_default-read_on.ensures.refusal
