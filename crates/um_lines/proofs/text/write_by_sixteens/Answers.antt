use Rattle.{std.proofs.Common.{arith, length, ◌+◌, ◌-◌, ◌∙◌, ◌≤◌}, um_lines.proofs.Texts.{written_all, written_more}}
use Rattle.um_lines.proofs.text.write_by_sixteens.Goals as goal

pub loop-at-preserved : goal.loop-at-preserved
loop-at-preserved c =
    let at = c.loop-at.at in
    let h = c.loop-at.invariant in
    let within : at + 16 ≤ length c.args.bits.now = omega (arith, h.2) in (
      written_more c.args.bits.now at (at + 16 - at)
          c.loop-at.digits c.copy_from_slice.new.self
          (omega arith) within h.0 (c.copy_from_slice.ensures.after ∙ c.digits_of_sixteen.ensures),
      within,
      h.2,
    )

pub returns : goal.returns
returns c =
    let last = length c.args.bits.now - 16 in
    let h = c.loop-at.invariant in
    written_all c.args.bits.now last c.loop-at.at (last + 16 - last)
    c.loop-at.digits c.copy_from_slice-2.new.self
    (omega arith) h.2 (omega arith) h.0 (c.copy_from_slice-2.ensures.after ∙ c.digits_of_sixteen-2.ensures)
