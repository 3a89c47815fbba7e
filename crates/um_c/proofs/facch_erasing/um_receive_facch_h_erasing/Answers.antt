use Rattle.um_c.proofs.FacchReports.{one_facch_report}
use Rattle.um_c.proofs.facch_erasing.um_receive_facch_h_erasing.Goals as goal

pub returns-clause-only : goal.returns-clause-only
returns-clause-only c = λ _ place other erased h.
    one_facch_report c.args.bursts.now c.args.most c.args.erasures place c.write_facch_report.new.rank other
    c.write_facch_report.new.report erased c.write_facch_report.new.erasure h c.write_facch_report.ensures
