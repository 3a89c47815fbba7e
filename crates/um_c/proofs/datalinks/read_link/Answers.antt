use Rattle.std.proofs.Common.{sym, ◌∙◌}
use Rattle.std.proofs.lemmas.Bool.{false≢true}
use Rattle.um_c.proofs.OneLink.{view_represents}
use Rattle.um_c.proofs.datalinks.read_link.Goals as goal

pub returns-in-Some-clause-read : goal.returns-in-Some-clause-read
returns-in-Some-clause-read c t =
    let is = c.in-Some.ensures in
    let known = c.restore_any.ensures.valid.0 t in record {
      some = (known.0, record { values = _; decoded = is; represents = known.1 });
      represents = λ l h. c.restore_any.ensures.represents t l (view_represents c.args.c_struct.now _ l is h);
    }

pub returns-in-Some-clause-none : goal.returns-in-Some-clause-none
returns-in-Some-clause-none c refused l h =
    false≢true (sym refused ∙ c.restore_any.ensures.valid.1 (l, view_represents c.args.c_struct.now _ l c.in-Some.ensures h))
