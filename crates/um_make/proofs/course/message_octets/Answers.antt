use Rattle.std.proofs.{Common.{◌+◌, ◌%◌, rules}, lemmas.List.FromFn.fill_by_all}
use Rattle.um_make.proofs.course.message_octets.Goals as goal

pub returns : goal.returns
returns c = fill_by_all (λ k. (c.args.number + k) % 256) c.loop-j.octets 251 0 c.loop-j.invariant.0 (search rules)
