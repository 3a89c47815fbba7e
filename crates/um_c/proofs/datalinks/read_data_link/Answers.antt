use Rattle.std.proofs.Common.{sym, ◌∙◌}
use Rattle.std.proofs.lemmas.Bool.{false≢true}
use Rattle.um_c.proofs.DataLinkCalls.{some_data_link, decoded}
use Rattle.um_c.proofs.datalinks.read_data_link.Goals as goal

pub returns-in-Some-clause-read : goal.returns-in-Some-clause-read
returns-in-Some-clause-read c t =
    let is = c.in-Some.ensures in record {
      some = (some_data_link c.args.data_link.now _ is).0 (c.restore.ensures.valid.0 t);
      represents = λ s h. c.restore.ensures.represents t s (decoded c.args.data_link.now _ s is h);
    }

pub returns-in-Some-clause-none : goal.returns-in-Some-clause-none
returns-in-Some-clause-none c refused h =
    let known = some_data_link c.args.data_link.now _ c.in-Some.ensures in
    false≢true (sym refused ∙ c.restore.ensures.valid.1 (known.1 h))
