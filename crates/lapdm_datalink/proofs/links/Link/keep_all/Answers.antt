use Rattle.std.proofs.Common.{◌≢◌, length, arith}
use Rattle.lapdm_datalink.proofs.Lemmas.{kept_one, kept_two}
use Rattle.lapdm_datalink.proofs.links.Link.keep_all.Goals as goal

pub returns-then-blocks-eq1-clause-kept : goal.returns-then-blocks-eq1-clause-kept
returns-then-blocks-eq1-clause-kept c =
    kept_one c.args.self.now c.keep.new.self c.args.blocks.now c.if-blocks-eq1.true c.keep.ensures.kept

pub returns-clause-kept : goal.returns-clause-kept
returns-clause-kept c =
    let some : length c.args.blocks.now ≢ 0 = grind arith in
    kept_two c.args.self.now c.keep.new.self c.keep-2.new.self c.args.blocks.now some c.if-blocks-eq1.false c.requires
    c.keep.ensures.kept c.keep-2.ensures.kept
